-- The commit points of a loading.
use Rattle.std.proofs.Common.{◌≡◌, ℕ, suc, ◌+◌, ◌-◌, ◌*◌, ◌/◌, ◌<◌, ◌≤◌, mul-suc, mul_comm, ap, ◌∙◌, arith}
use Rattle.std.proofs.lemmas.Nat.{div-mul-add}
use Rattle.std.specs.Prelude.{min}
use Rattle.attr_loader.specs.Loading.{commit_point}

-- before the last operation a commit point is a whole number of batches
pub whole : (batch total k n : ℕ) → n ≡ commit_point batch total k → n < total → n ≡ batch * k
whole batch total k n is below = omega (arith, is, below)

pub next_point : (batch total k n m : ℕ) → n ≡ commit_point batch total k → n < total → m ≡ min (total - n) batch → n + m ≡ commit_point batch total (suc k)
next_point batch total k n m is below size =
    let here : n ≡ batch * k = whole batch total k n is below in
    let step : batch * suc k ≡ batch * k + batch = mul-suc batch k in
    omega (arith, here, step, size, is)

-- an operation of the batch after that point
pub batch_of : (batch k r : ℕ) → 0 < batch → 1 ≤ r → r ≤ batch → (batch * k + r - 1) / batch ≡ k
batch_of batch k r some first last =
    let place : batch * k + r - 1 ≡ k * batch + (r - 1) = (let turned = mul_comm batch k in omega (arith, turned, first)) in
    ap (λ n. n / batch) place ∙ div-mul-add k batch (r - 1) (omega (arith, first, last, some))
