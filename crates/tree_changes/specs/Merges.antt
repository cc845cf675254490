-- A list of changes, and the pairs after it. A change is a comparison, by which a stored key is compared with the key
-- of the change, and the pair that this key has from now on, if any.
use Rattle.std.specs.Prelude.{◌≡◌, ◌≢◌, ◌<◌, ℕ, length, List, [], ◌∷◌, ◌++◌, Option, None, Some}
use Rattle.std.specs.declared.cmp.Ordering.{Ordering}
use Rattle.std.specs.declared.cmp.Ordering.TheVariants.{Less, Equal, Greater}
use Rattle.std.specs.List.{AllByRecursion}
use Rattle.tree_read.specs.Pairs.{choose, put, take_out}
use Rattle.tree_read.specs.Trees.{last_key}
use Rattle.tree_read.specs.Keys.{AllBelow}

pub record Change : Type 0 where
  pub compare : ℕ → Ordering
  pub pair : Option (ℕ × ℕ)

-- the pairs whose keys are below the sought one, up to the first that is not
abbrev pub before : (ℕ → Ordering) → List (ℕ × ℕ) → List (ℕ × ℕ)
before c [] = []
before c (p ∷ ps) = choose (c p.0) (p ∷ before c ps) [] []

-- the pairs behind those, without the pair of the sought key
abbrev pub behind : (ℕ → Ordering) → List (ℕ × ℕ) → List (ℕ × ℕ)
behind c [] = []
behind c (p ∷ ps) = choose (c p.0) (behind c ps) ps (p ∷ ps)

abbrev pub pair_of : Option (ℕ × ℕ) → List (ℕ × ℕ)
pair_of None = []
pair_of (Some pair) = pair ∷ []

-- the pairs after changes whose keys ascend: those in front of the first change, its own pair, and the pairs behind it
-- after the other changes
abbrev pub merged : List Change → List (ℕ × ℕ) → List (ℕ × ℕ)
merged [] ps = ps
merged (change ∷ changes) ps = before change.compare ps ++ (pair_of change.pair ++ merged changes (behind change.compare ps))

-- the pairs after one change: it puts a pair, or takes one out, if there is one
abbrev pub changed_to : (ℕ → Ordering) → Option (ℕ × ℕ) → List (ℕ × ℕ) → List (ℕ × ℕ)
changed_to c None ps = take_out c ps
changed_to c (Some pair) ps = put c pair ps

abbrev pub changed : Change → List (ℕ × ℕ) → List (ℕ × ℕ)
changed change ps = changed_to change.compare change.pair ps

-- the pairs after changes one by one
abbrev pub changed_by : List Change → List (ℕ × ℕ) → List (ℕ × ℕ)
changed_by [] ps = ps
changed_by (change ∷ changes) ps = changed_by changes (changed change ps)

-- a stored key that is not above the key of the first change is below that of the second
abbrev pub Follows : Change → Change → Type 0
Follows a b = (key : ℕ) → a.compare key ≢ Greater → b.compare key ≡ Less

abbrev pub AreInOrder : List Change → Type 0
AreInOrder [] = Unit {0}
AreInOrder (a ∷ []) = Unit {0}
AreInOrder (a ∷ b ∷ changes) = Follows a b × AreInOrder (b ∷ changes)

-- the pair of a change has the key of the change
abbrev pub IsOwn : (ℕ → Ordering) → Option (ℕ × ℕ) → Type 0
IsOwn c None = Unit {0}
IsOwn c (Some pair) = c pair.0 ≡ Equal

abbrev pub HasOwnKey : Change → Type 0
HasOwnKey change = IsOwn change.compare change.pair

-- changes in order give the same pairs at once as one by one
abbrev pub MergesOneByOne : Type 0
MergesOneByOne = (changes : List Change) (ps : List (ℕ × ℕ)) → AreInOrder changes → AllByRecursion HasOwnKey changes
    → merged changes ps ≡ changed_by changes ps

-- pairs below the key of the first change, if there is one
abbrev pub AllBelowFirst : List Change → List (ℕ × ℕ) → Type 0
AllBelowFirst [] ps = Unit {0}
AllBelowFirst (a ∷ changes) ps = AllBelow a.compare ps

-- a list in two parts, with the changes up to the last key of the first part and those beyond
abbrev pub MergesInParts : Type 0
MergesInParts = (first rest : List Change) (xs ys : List (ℕ × ℕ)) → AreInOrder (first ++ rest) → 0 < length xs
    → AllByRecursion (λ change. change.compare (last_key xs) ≢ Less) first → AllBelowFirst rest xs
    → merged (first ++ rest) (xs ++ ys) ≡ merged first xs ++ merged rest ys
