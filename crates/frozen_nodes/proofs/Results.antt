-- What holds of an answer.
use Rattle.std.specs.Prelude.{OnErr, IfOk}
use Rattle.std.proofs.Common.{Result, Ok, Err, IsErrAnd}

pub on_err : {A E : Type 0} {P : Type 0} (result : Result A E) → P → OnErr result P
on_err (Ok x) p = tt
on_err (Err e) p = p

-- an answer that is an error
pub if_err : {A E : Type 0} (P : A → Type 0) (Q : E → Type 0) (result : Result A E) → IsErrAnd result Q → IfOk result P
if_err P Q (Ok x) told = absurd told
if_err P Q (Err e) told = tt
