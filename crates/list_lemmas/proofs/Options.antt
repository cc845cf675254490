-- What is in an option.
use Rattle.std.proofs.Common.{◌≡◌, Some}

pub same_Some : {A : Type 0} (x y : A) → Some x ≡ Some y → x ≡ y
same_Some x y e = cc
