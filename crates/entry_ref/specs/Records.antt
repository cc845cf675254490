-- Records: the words at each reference, or none if there is no record.
use Rattle.std.specs.Prelude.{◌≡◌, ◌⊎◌, ℕ, ◌<◌, List, [], ◌∷◌, length, slice_index, slice_set, nat_eq, if◌then◌else◌}
use Rattle.std.specs.Option.{unwrap_or}
use Rattle.std.specs.Map.{lookup}

-- the words at each reference; a record has at least one word
abbrev pub Records : Type 0
Records = ℕ → List ℕ

-- the record exists and has more than i words
abbrev pub HasWord : Records → ℕ → ℕ → Type 0
HasWord m r i = i < length (m r)

-- word i of the record
abbrev pub word_at : Records → ℕ → ℕ → ℕ
word_at m r i = slice_index (m r) i

-- the records after the words of one are replaced
abbrev pub with_words : Records → ℕ → List ℕ → Records
with_words m r ws q = if nat_eq q r then ws else m q

-- the records after one word is replaced
abbrev pub with_word : Records → ℕ → ℕ → ℕ → Records
with_word m r i w = with_words m r (slice_set (m r) i w)

-- each reference of a list has the same words in both
abbrev pub SameAt : List ℕ → Records → Records → Type 0
SameAt [] m n = Unit {0}
SameAt (r ∷ rs) m n = (n r ≡ m r) × SameAt rs m n

-- each reference of a list has a record
abbrev pub AllThere : List ℕ → Records → Type 0
AllThere [] m = Unit {0}
AllThere (r ∷ rs) m = (0 < length (m r)) × AllThere rs m

-- a reference is in a list
abbrev pub Among : ℕ → List ℕ → Type 0
Among r [] = ⊥
Among r (q ∷ qs) = (r ≡ q) ⊎ Among r qs

-- the references of a list, each with its words
abbrev pub pairs_of : List ℕ → Records → List (ℕ × List ℕ)
pairs_of [] m = []
pairs_of (r ∷ rs) m = (r, m r) ∷ pairs_of rs m

-- the references of pairs
abbrev pub references_of : List (ℕ × List ℕ) → List ℕ
references_of [] = []
references_of (p ∷ ps) = p.0 ∷ references_of ps

-- the records that pairs describe; if a reference occurs twice, its first pair counts
abbrev pub records_of : List (ℕ × List ℕ) → Records
records_of pairs r = unwrap_or (lookup (nat_eq r) pairs) []
