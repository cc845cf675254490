-- A key that was moved is cleared, and what was cleared is so still.
use Rattle.std.proofs.Common.{◌≡◌, ◌≢◌, ℕ, ◌<◌, Some, inl, inr, ap, subst, arith}
use Rattle.std.specs.List.Sorted.{IsStrictlySortedBy}
use Rattle.entry_ref.specs.References.{buffer_of}
use Rattle.entry_ref.specs.Records.{Records, SameAt}
use Rattle.tree_read.specs.Pairs.{take_out}
use Rattle.store_api.specs.Ledgers.{Ledger}
use Rattle.tree_read.specs.Trees.{tree_pairs}
use Rattle.compaction_moves.specs.Cleared.{IsClearedField, IsVisited, ListIsCleared}
use Rattle.attr_compaction.specs.Places.{key_cmp, value_in, PlanPlace}
use Rattle.attr_compaction.specs.declared.plan.PlanKey.TheVariants as plan
use Rattle.attr_compaction.specs.declared.plan.TheConstants.{DOCUMENTS, KEYS, LISTS, NODES}
use Rattle.image_format.specs.Postings.{list_form}
use Rattle.image_format.specs.Tables.{AttributeTrees}
use Rattle.image_format.specs.Values.{stored_value, value_of}
use Rattle.attr_types.specs.Value.{type_of}
use Rattle.attr_types.specs.declared.kind.ValueType.{ValueType}
use Rattle.attr_types.specs.declared.value.Value.{Value}
use Rattle.compaction_moves.specs.DocumentMoves.{AreItemsApart}
use Rattle.enum_dictionary.specs.Dictionaries.{beside_value}
use Rattle.compaction_moves.specs.IndexMoves.{MovesKey}
use Rattle.compaction_moves.proofs.IndexKeyLemmas.{key_of}
use Rattle.attr_compaction.proofs.OrderLemmas.{phase_ascends}
use Rattle.attr_compaction.specs.PhaseKeys.{value_keys}
use Rattle.compaction_moves.proofs.PlanVisits.{next_visited, none_behind}
use Rattle.value_index.proofs.IndexLemmas.{pair_reach}
use Rattle.compaction_moves.specs.IndexLaws.{KeyMoveClears}
use Rattle.compaction_moves.specs.IndexTurns.{IsTurn}
use Rattle.compaction_moves.specs.Visits.{place_at_key}
use Rattle.compaction_moves.proofs.IndexPairs.{InPairs, at_pair, each_pair, other_pair, pair_key, pair_stays, split_pair, taken_pair}
use Rattle.compaction_moves.proofs.IndexClauses.{list_later, nodes_later, value_in_keys}

-- an attribute's trees with values of another type
abbrev pub of_type : AttributeTrees → ValueType → AttributeTrees
of_type a type = record { kind = a.kind; type = type; documents = a.documents; dictionary = a.dictionary }

module _ {H : Type 0} (bits victim field next : ℕ) (at : PlanPlace) (value : Value) (old new : Ledger H) (m n : Records) (a : AttributeTrees)
    (turn : IsTurn at field KEYS m (of_type a (type_of value)) (plan.Value value)) (moves : MovesKey bits victim value old new m n a.dictionary next)
    (cleared : IsClearedField bits victim at field m (of_type a (type_of value))) where
  abbrev type : ValueType
  type = type_of value

  abbrev root : ℕ
  root = a.dictionary

  abbrev here : PlanPlace
  here = place_at_key at (plan.Value value)

  abbrev KeyCleared : PlanPlace → Records → ℕ × ℕ → Type 0
  KeyCleared place o p = IsVisited place field KEYS (plan.Value (stored_value type o p.0)) → buffer_of bits p.0 ≢ victim

  ascends : IsStrictlySortedBy key_cmp (value_keys type m root)
  ascends = phase_ascends type m a.documents root KEYS turn.map_is turn.index_is

  other_key : (q : ℕ × ℕ) → InPairs q (take_out (beside_value value m) (tree_pairs m root)) → KeyCleared here n q
  other_key q within visited lies =
      let there : InPairs q (tree_pairs m root) = taken_pair (beside_value value m) q (tree_pairs m root) within in
      let same : SameAt (pair_reach m q) m n = pair_stays m n (pair_reach m) q (tree_pairs m root) there moves.stay in
      let reads : stored_value type n q.0 ≡ stored_value type m q.0 = ap (value_of type) same.0 in
      elim (next_visited at field KEYS (value_keys type m root) (plan.Value value) (plan.Value (stored_value type m q.0)) turn.field_is turn.phase_is turn.next ascends
      (value_in_keys type m q.0 (tree_pairs m root) (pair_key q (tree_pairs m root) there)) (subst (λ v. IsVisited here field KEYS (plan.Value v)) reads visited)) [
        | inl was ↦ at_pair (KeyCleared at m) (tree_pairs m root) cleared.keys q there was lies
        | inr e ↦ other_pair (stored_value type m) value (tree_pairs m root) turn.index_is.dictionary_is.tree_is.ascends q within (ap value_in e)
      ]

  each_key : (q : ℕ × ℕ) → InPairs q (tree_pairs n next) → KeyCleared here n q
  each_key q within visited lies = elim (split_pair (beside_value value n) q (tree_pairs n next) within) [
    | inl found ↦ moves.apart q.0 (key_of value n next (Some q) found) lies
    | inr rest ↦ other_key q (subst (InPairs q) moves.others rest) visited lies
  ]

  later : (phase : ℕ) → 0 < phase → at.stage.phase < phase
  later phase some = let is = turn.phase_is in omega arith

  pub key_clears_at : IsClearedField bits victim here field n (record (of_type a type) { dictionary = next })
  key_clears_at = record {
    keys = each_pair (KeyCleared here n) (tree_pairs n next) each_key;
    documents = each_pair (λ p. IsVisited here field DOCUMENTS (plan.Doc p.0) → AreItemsApart bits victim a.kind n p.1) (tree_pairs n a.documents)
        (λ q within visited. absurd (none_behind here field DOCUMENTS (plan.Doc q.0) (inr (turn.field_is, later DOCUMENTS (omega arith))) visited));
    lists = each_pair (λ p. ListIsCleared bits victim here field n (stored_value type n p.0) (list_form p.1)) (tree_pairs n next)
        (λ q within. list_later bits victim field here n turn.field_is (stored_value type n q.0) (list_form q.1) (later LISTS (omega arith)));
    values = nodes_later bits victim field here n turn.field_is NODES (λ r. plan.Value (stored_value type n r)) next (later NODES (omega arith));
    map = nodes_later bits victim field here n turn.field_is NODES (λ doc. plan.Doc doc) a.documents (later NODES (omega arith));
  }

pub key_clears : (H : Type 0) → KeyMoveClears H
key_clears H bits victim field next at value old new m n a is turn moves cleared =
    subst (λ (t : ValueType). IsTurn at field KEYS m (of_type a t) (plan.Value value) → IsClearedField bits victim at field m (of_type a t)
    → IsClearedField bits victim (place_at_key at (plan.Value value)) field n (record (of_type a t) { dictionary = next })) is
    (λ t c. key_clears_at bits victim field next at value old new m n a t moves c) turn cleared
