-- What is cleared at the first place and at the last.
use Rattle.std.proofs.Common.{◌≡◌, ◌≢◌, ℕ, suc, ◌*◌, ◌<◌, ◌≤◌, List, [], ◌∷◌, length, Some, inl, inr, refl, arith}
use Rattle.std.specs.Prelude.{slice_get}
use Rattle.std.specs.List.{AllByRecursion}
use Rattle.entry_ref.proofs.Among.{Among-append}
use Rattle.list_lemmas.proofs.Each.{AllByRecursion-slice_get}
use Rattle.entry_ref.specs.References.{buffer_of}
use Rattle.entry_ref.specs.Records.{Records, Among}
use Rattle.tree_read.specs.Trees.{tree_pairs}
use Rattle.attr_compaction.specs.Places.{first_place, PlanPlace}
use Rattle.attr_compaction.specs.declared.plan.PlanKey.TheVariants as plan
use Rattle.attr_compaction.specs.declared.plan.TheConstants.{DOCUMENTS, KEYS, LISTS, NODES, PHASES}
use Rattle.attr_field.specs.Fields.{IsField}
use Rattle.attr_field.specs.Laws.{FieldIsLawful}
use Rattle.image_format.specs.Attributes.{trees_reach}
use Rattle.image_format.specs.Postings.{ListForm, short, tree, vector, list_form}
use Rattle.image_format.specs.Tables.{AttributeTrees, attributes_reach}
use Rattle.image_format.specs.Values.{stored_value}
use Rattle.attr_operations.specs.Fields.{IsFieldAt}
use Rattle.attr_types.specs.declared.kind.Kind.{Kind}
use Rattle.attr_types.specs.declared.kind.ValueType.{ValueType}
use Rattle.attr_types.specs.declared.value.Value.{Value}
use Rattle.compaction_moves.proofs.LeftLemmas.{nothing_left}
use Rattle.compaction_moves.proofs.VisitLemmas.{nothing_visited}
use Rattle.compaction_moves.specs.Cleared.{IsClearedField, ListIsCleared}
use Rattle.compaction_steps.specs.StepsLaws.{FirstIsCleared, NothingIsReached}
use Rattle.compaction_steps.proofs.StepsLists.{all_pairs, IsIn}

-- ---- before the first key
module _ (bits victim field : ℕ) (m : Records) (kind : Kind) (type : ValueType) (documents dictionary : ℕ) (is : IsField kind type m documents dictionary) where
  form_first : (value : Value) (form : ListForm) → ListIsCleared bits victim first_place field m value form
  form_first value (short ref) = λ visited. absurd (nothing_visited field LISTS (plan.Pair value 0) refl visited)
  form_first value (tree root) = λ node among in_victim key below visited. nothing_visited field LISTS (plan.Pair value key) refl visited
  form_first value (vector root) = record {
    nodes = λ node among in_victim k below visited. nothing_visited field LISTS (plan.Pair value (4096 * k)) refl visited;
    blocks = λ k r there visited. absurd (nothing_visited field LISTS (plan.Pair value (4096 * k)) refl visited);
  }

  list_first : (p : ℕ × ℕ) → IsIn p (tree_pairs m dictionary) → ListIsCleared bits victim first_place field m (stored_value type m p.0) (list_form p.1)
  list_first p there = form_first (stored_value type m p.0) (list_form p.1)

  pub field_first : IsClearedField bits victim first_place field m (record { kind = kind; type = type; documents = documents; dictionary = dictionary })
  field_first = record {
    keys = all_pairs _ (tree_pairs m dictionary) (λ p there visited. absurd (nothing_visited field KEYS (plan.Value (stored_value type m p.0)) refl visited));
    documents = all_pairs _ (tree_pairs m documents) (λ p there visited. absurd (nothing_visited field DOCUMENTS (plan.Doc p.0) refl visited));
    lists = all_pairs _ (tree_pairs m dictionary) list_first;
    values = λ node among in_victim key below visited. nothing_visited field NODES (plan.Value (stored_value type m key)) refl visited;
    map = λ node among in_victim key below visited. nothing_visited field NODES (plan.Doc key) refl visited;
  }

pub first_clear : FirstIsCleared
first_clear bits victim m trees are field a at =
    field_first bits victim field m a.kind a.type a.documents a.dictionary (AllByRecursion-slice_get (IsFieldAt m) trees field a are at)

-- ---- past the last phase
module _ (lawful : FieldIsLawful) (bits victim : ℕ) (at : PlanPlace) (m : Records) (over : at.stage.phase ≡ PHASES) where
  from_last : (number : ℕ → ℕ) (trees : List AttributeTrees) → AllByRecursion (IsFieldAt m) trees → ((i : ℕ) → i < length trees → number i ≤ at.stage.field)
      → ((i : ℕ) (a : AttributeTrees) → slice_get trees i ≡ Some a → IsClearedField bits victim at (number i) m a)
      → (r : ℕ) → Among r (attributes_reach m trees) → buffer_of bits r ≢ victim
  from_last number [] are within cleared r among = absurd among
  from_last number (a ∷ trees) are within cleared r among =
      elim (Among-append r (trees_reach a.kind m a.documents a.dictionary) (attributes_reach m trees) among) [
        | inl here ↦ nothing_left bits victim (number 0) at m a over (within 0 (omega arith)) (lawful a.kind a.type m a.documents a.dictionary are.0) (cleared 0 a refl) r here
        | inr behind ↦ from_last (λ i. number (suc i)) trees are.1 (λ i less. within (suc i) (omega arith)) (λ i b there. cleared (suc i) b there) r behind
      ]

pub last_clear : FieldIsLawful → NothingIsReached
last_clear lawful bits victim at m trees are over few cleared r among =
    from_last lawful bits victim at m over (λ i. i) trees are (λ i less. omega arith) cleared r among
