-- Proofs of the laws of `Layout`. They are in specs/ since an implementation can cite laws only from there; they are
-- not part of the specification.
use Rattle.std.proofs.Common.{◌≡◌, ℕ, zero, suc, ◌<◌, length, refl, ap, ◌∙◌, arith}
use Rattle.entry_ref.specs.Records.{Records, SameAt, AllThere}
use Rattle.test_kit.specs.OneNode.{node_reaches, IsNodeRecord}

pub node_empty : (shape : ℕ) (m : Records) → IsNodeRecord shape m 0
node_empty shape m none = absurd (omega (arith, none))

there : (m : Records) (r : ℕ) → (0 < suc r → length (m (suc r)) ≡ 34) → 0 < length (m (suc r))
there m r lawful = let is = lawful (omega arith) in omega (arith, is)

pub node_present : (shape : ℕ) (m : Records) (root : ℕ) → IsNodeRecord shape m root → AllThere (node_reaches shape m root) m
node_present shape m zero lawful = tt
node_present shape m (suc r) lawful = (there m r lawful, tt)

pub node_stays : (shape : ℕ) (m n : Records) (root : ℕ) → SameAt (node_reaches shape m root) m n → IsNodeRecord shape m root
    → IsNodeRecord shape n root × (node_reaches shape n root ≡ node_reaches shape m root)
node_stays shape m n zero same lawful = (λ none. absurd (omega (arith, none)), refl)
node_stays shape m n (suc r) same lawful = (λ some. ap (λ ws. length ws) same.0 ∙ lawful some, refl)
