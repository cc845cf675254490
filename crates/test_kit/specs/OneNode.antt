-- The layout whose root is one record of 34 words.
use Rattle.std.specs.Prelude.{◌≡◌, ◌<◌, ℕ, zero, suc, List, [], ◌∷◌, length}
use Rattle.entry_ref.specs.Records.{Records}

-- the root reaches itself
abbrev pub node_reaches : ℕ → Records → ℕ → List ℕ
node_reaches shape m zero = []
node_reaches shape m (suc r) = suc r ∷ []

-- it exists, with 34 words
abbrev pub IsNodeRecord : ℕ → Records → ℕ → Type 0
IsNodeRecord shape m root = 0 < root → length (m root) ≡ 34
