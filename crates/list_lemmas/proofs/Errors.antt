-- The error of a `?` is the one that was answered.
use Rattle.std.proofs.Common.{◌≡◌, Result, Err, IsErrAnd, ◌∙◌, sym}
use Rattle.std.proofs.lemmas.Result.{err_from_is_err_and}

pub same_Err : {T E : Type 0} (r : Result T E) (x y : E) → r ≡ Err x → r ≡ Err y → x ≡ y
same_Err r x y first second = cc

pub same_error : {T E : Type 0} (r : Result T E) (was now : E) → IsErrAnd r (λ e. e ≡ was) → r ≡ Err now → was ≡ now
same_error r was now told is = let p = err_from_is_err_and r told in sym p.2 ∙ same_Err r p.0 now p.1 is
