-- What the calls of a closure give, as one list beside another.
use Rattle.std.proofs.Common.{◌≡◌, ℕ, zero, suc, ◌<◌, List, [], ◌∷◌, length, slice_index_or, subst, sym, ◌∙◌, arith}
use Rattle.std.specs.List.{AllZip}
use Rattle.std.specs.Prelude.{vec_len, IfOk, Result, Ok, Err}
use Rattle.std.specs.Fork.{GivesJobs}
use denote.Param.Members.{Shared}
use Rattle.std.proofs.Common.{Vec, Global}

-- each place of two lists of one length
pub all_zip_of : {J R : Type 0} (P : J → R → Type 0) (js : List J) (rs : List R) → length rs ≡ length js
    → ((i : ℕ) (e : J) (d : R) → i < length js → P (slice_index_or js i e) (slice_index_or rs i d)) → AllZip P js rs
all_zip_of P [] [] same each = tt
all_zip_of P [] (r ∷ rs) same each = absurd (let s : suc (length rs) ≡ zero = same in omega (arith, s))
all_zip_of P (j ∷ js) [] same each = absurd (let s : zero ≡ suc (length js) = same in omega (arith, s))
all_zip_of P (j ∷ js) (r ∷ rs) same each =
    (each 0 j r (omega arith), all_zip_of P js rs (let s : suc (length rs) ≡ suc (length js) = same in omega (arith, s)) (λ i e d below. each (suc i) e d (omega (arith, below))))

-- what the calls of a closure give whose own clause is P
pub given_each : {J R F E : Type 0} (g : Shared F (J × Unit {0}) R) (f : F) (P : J → R → Type 0) → ((x : J) (r : R) → g.post f (x, tt) r → P x r)
    → (jobs : Vec J Global) (o : Result (Vec R Global) E) → IfOk o (λ v. vec_len v ≡ vec_len jobs) → IfOk o (λ v. GivesJobs g f jobs.items v.items) → IfOk o (λ v. AllZip P jobs.items v.items)
given_each g f P into jobs (Err e) long each = tt
given_each g f P into jobs (Ok v) long each = all_zip_of P jobs.items v.items (sym v.ok.0 ∙ long ∙ jobs.ok.0) (λ i e d below.
    let job = (each i d below).1 in
    subst (λ x. P x (slice_index_or v.items i d)) (sym (job.job_is e)) (into job.job (slice_index_or v.items i d) job.call.met))
