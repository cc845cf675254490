-- What a compaction has cleared of its victim: everything that the attributes reach up to the plan's place lies
-- elsewhere.
use Rattle.std.specs.Prelude.{◌≡◌, ◌≢◌, ℕ, ◌*◌, List, Some, slice_get}
use Rattle.std.specs.List.{AllByRecursion}
use Rattle.std.specs.declared.cmp.Ordering.TheVariants.{Greater}
use Rattle.entry_ref.specs.References.{buffer_of}
use Rattle.entry_ref.specs.Records.{Records, Among}
use Rattle.tree_read.specs.Trees.{tree_nodes, tree_pairs}
use Rattle.frozen_btree.specs.Ways.{keys_below}
use Rattle.attr_compaction.specs.Places.{place_cmp, PlanPlace}
use Rattle.attr_compaction.specs.declared.plan.PlanKey.{PlanKey}
use Rattle.attr_compaction.specs.declared.plan.PlanKey.TheVariants as plan
use Rattle.attr_compaction.specs.declared.plan.TheConstants.{DOCUMENTS, KEYS, LISTS, NODES}
use Rattle.attr_field.specs.declared.roots.FieldRoots.{FieldRoots}
use Rattle.image_format.specs.Postings.{ListForm, short, tree, vector, list_form}
use Rattle.image_format.specs.Tables.{AttributeTrees}
use Rattle.image_format.specs.Values.{stored_value}
use Rattle.image_format.specs.declared.TheConstants.{BLOCK_DOCUMENTS}
use Rattle.attr_types.specs.declared.field.Field.{Field}
use Rattle.attr_types.specs.declared.value.Value.{Value}
use Rattle.bit_vector.specs.Keeps.{block_at}
use Rattle.compaction_moves.specs.DocumentMoves.{AreItemsApart}

-- the trees of an attribute, from its field and its roots
abbrev pub trees_of_roots : {bits : ℕ} → Field → FieldRoots bits → AttributeTrees
trees_of_roots field roots = record { kind = field.kind; type = field.value; documents = roots.documents; dictionary = roots.dictionary }

-- a key of a phase of the attribute with this number was visited: it is not after the place
abbrev pub IsVisited : PlanPlace → ℕ → ℕ → PlanKey → Type 0
IsVisited at field phase key = place_cmp (record { stage = record { field = field; phase = phase }; key = key }) at ≢ Greater

-- each node that lies in the victim has only unvisited keys below it
abbrev pub NodesAreCleared : ℕ → ℕ → Records → (ℕ → Type 0) → ℕ → Type 0
NodesAreCleared bits victim m visited root = (node : ℕ) → Among node (tree_nodes m root) → buffer_of bits node ≡ victim → (key : ℕ)
    → Among key (keys_below m node) → visited key → ⊥

-- the block with this number of a value's list was visited
abbrev pub BlockIsVisited : PlanPlace → ℕ → Value → ℕ → Type 0
BlockIsVisited at field value k = IsVisited at field LISTS (plan.Pair value (BLOCK_DOCUMENTS * k))

-- a bit vector: its visited blocks lie elsewhere, and so do its nodes on the ways to them
pub record VectorIsCleared (bits victim : ℕ) (at : PlanPlace) (field : ℕ) (m : Records) (value : Value) (root : ℕ) : Type 0 where
  pub nodes : NodesAreCleared bits victim m (BlockIsVisited at field value) root
  pub blocks : (k r : ℕ) → block_at m root k ≡ Some r → BlockIsVisited at field value k → buffer_of bits r ≢ victim

-- a value's list: its record lies elsewhere, or its nodes on the ways to visited documents do, or what belongs to its
-- visited blocks does
abbrev pub ListIsCleared : ℕ → ℕ → PlanPlace → ℕ → Records → Value → ListForm → Type 0
ListIsCleared bits victim at field m value (short ref) = IsVisited at field LISTS (plan.Pair value 0) → buffer_of bits ref ≢ victim
ListIsCleared bits victim at field m value (tree root) =
    NodesAreCleared bits victim m (λ doc. IsVisited at field LISTS (plan.Pair value doc)) root
ListIsCleared bits victim at field m value (vector root) = VectorIsCleared bits victim at field m value root

-- one attribute, by its number: its keys, its documents with what they refer to, its lists, and the nodes of its two
-- trees
pub record IsClearedField (bits victim : ℕ) (at : PlanPlace) (field : ℕ) (m : Records) (a : AttributeTrees) : Type 0 where
  pub keys : AllByRecursion (λ p. IsVisited at field KEYS (plan.Value (stored_value a.type m p.0)) → buffer_of bits p.0 ≢ victim)
      (tree_pairs m a.dictionary)
  pub documents : AllByRecursion (λ p. IsVisited at field DOCUMENTS (plan.Doc p.0) → AreItemsApart bits victim a.kind m p.1)
      (tree_pairs m a.documents)
  pub lists : AllByRecursion (λ p. ListIsCleared bits victim at field m (stored_value a.type m p.0) (list_form p.1))
      (tree_pairs m a.dictionary)
  pub values : NodesAreCleared bits victim m (λ r. IsVisited at field NODES (plan.Value (stored_value a.type m r))) a.dictionary
  pub map : NodesAreCleared bits victim m (λ doc. IsVisited at field NODES (plan.Doc doc)) a.documents

-- all attributes; past the last place nothing that they reach lies in the victim
abbrev pub IsCleared : ℕ → ℕ → PlanPlace → Records → List AttributeTrees → Type 0
IsCleared bits victim at m trees = (field : ℕ) (a : AttributeTrees) → slice_get trees field ≡ Some a
    → IsClearedField bits victim at field m a
