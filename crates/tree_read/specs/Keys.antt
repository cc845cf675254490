-- Stored keys, by what they read as in records.
use Rattle.std.specs.Prelude.{◌≡◌, ◌≢◌, ◌<◌, ℕ, List, length, map}
use Rattle.std.specs.declared.cmp.Ordering.{Ordering}
use Rattle.std.specs.declared.cmp.Ordering.TheVariants.{Less, Equal}
use Rattle.std.specs.List.{AllByRecursion}
use Rattle.std.specs.List.Sorted.{IsStrictlySortedBy}
use Rattle.entry_ref.specs.Records.{Records}
use Rattle.tree_read.specs.declared.node_format.TheConstants.{NODE_WORDS}
use Rattle.tree_read.specs.Trees.{tree_pairs, IsTree}

-- compares a stored key with the sought one
abbrev pub seen_by : {V : Type 0} → (Records → ℕ → V) → (V → V → Ordering) → V → Records → ℕ → Ordering
seen_by read order sought m key = order (read m key) sought

-- the keys of pairs ascend strictly, in an order of what they read as
abbrev pub Ascends : {V : Type 0} → (V → V → Ordering) → (Records → ℕ → V) → Records → List (ℕ × ℕ) → Type 0
Ascends order read m ps = IsStrictlySortedBy order (map (λ p. read m p.0) ps)

-- each key of a list is below the sought one
abbrev pub AllBelow : (ℕ → Ordering) → List (ℕ × ℕ) → Type 0
AllBelow c ps = AllByRecursion (λ p. c p.0 ≡ Less) ps

-- each key of a list can be read
abbrev pub AllReadable : (Records → ℕ → Type 0) → Records → List (ℕ × ℕ) → Type 0
AllReadable can_read m ps = AllByRecursion (λ p. can_read m p.0) ps

-- the record exists and is not a node: only nodes have 34 words
pub record IsNoNode (m : Records) (ref : ℕ) : Type 0 where
  pub there : 0 < length (m ref)
  pub width : length (m ref) ≢ NODE_WORDS

-- a key is not read from nodes
abbrev pub ReadsNoNode : (Records → ℕ → List ℕ) → Records → ℕ → Type 0
ReadsNoNode reads_from m key = AllByRecursion (IsNoNode m) (reads_from m key)

-- no key of a list is read from nodes
abbrev pub NoneReadsNodes : (Records → ℕ → List ℕ) → Records → List (ℕ × ℕ) → Type 0
NoneReadsNodes reads_from m ps = AllByRecursion (λ p. ReadsNoNode reads_from m p.0) ps

-- each record that is not a node is the same in the second records
abbrev pub KeepsOthers : Records → Records → Type 0
KeepsOthers m n = (ref : ℕ) → IsNoNode m ref → n ref ≡ m ref

-- a tree whose keys can be read, and not from nodes
pub record IsKeyedTree {V : Type 0} (order : V → V → Ordering) (read : Records → ℕ → V) (can_read : Records → ℕ → Type 0)
    (reads_from : Records → ℕ → List ℕ) (m : Records) (root : ℕ) : Type 0 where
  pub tree : IsTree order read m root
  pub readable : AllReadable can_read m (tree_pairs m root)
  pub apart : NoneReadsNodes reads_from m (tree_pairs m root)

-- a word that reads as the sought key, and not from nodes
pub record IsKeyWord {V : Type 0} (order : V → V → Ordering) (read : Records → ℕ → V) (can_read : Records → ℕ → Type 0)
    (reads_from : Records → ℕ → List ℕ) (sought : V) (m : Records) (word : ℕ) : Type 0 where
  pub readable : can_read m word
  pub apart : ReadsNoNode reads_from m word
  pub equal : seen_by read order sought m word ≡ Equal
