-- A run of pairs under which nothing lies in the victim is a run of keys that are passed.
use Rattle.std.proofs.Common.{◌≡◌, ℕ, zero, suc, ◌+◌, ◌%◌, ◌<◌, ◌≤◌, List, [], ◌∷◌, ◌++◌, map, length, take, drop, Some, refl, sym, ap, subst, ◌∙◌, arith}
use Rattle.std.specs.Ordering.{nat_cmp}
use Rattle.entry_ref.specs.Records.{Records}
use Rattle.tree_read.specs.Pairs.{lookup_pair, seek}
use Rattle.tree_read.specs.Trees.{last_key, tree_pairs}
use Rattle.attr_compaction.specs.Places.{PlanPlace}
use Rattle.attr_compaction.specs.declared.plan.PlanKey.{PlanKey}
use Rattle.attr_compaction.specs.declared.plan.PlanKey.TheVariants as plan
use Rattle.attr_compaction.specs.declared.plan.TheConstants.{DOCUMENTS, KEYS, LISTS}
use Rattle.image_format.specs.Tables.{AttributeTrees}
use Rattle.image_format.specs.Values.{stored_value}
use Rattle.attr_types.specs.declared.value.Value.{Value as AnyValue}
use Rattle.enum_dictionary.specs.Dictionaries.{behind, beside_value}
use Rattle.attr_compaction.proofs.ListLemmas.{list_pairs}
use Rattle.attr_compaction.proofs.OrderLemmas.{phase_ascends}
use Rattle.attr_compaction.specs.PhaseKeys.{document_keys, keys_of_pairs, pair_keys, phase_keys, value_keys}
use Rattle.posting_store.specs.Lists.{IsPlain}
use Rattle.compaction_steps.specs.Passes.{CanPass, GoesThrough, Passes}
use Rattle.compaction_steps.specs.Sights.{StandsApart, IsRun}
use Rattle.compaction_steps.specs.declared.sights.Sight.TheVariants as sights
use Rattle.compaction_steps.proofs.BehindKeys.{docs_behind, lists_behind, short_keys, values_behind}
use Rattle.compaction_steps.proofs.Cleared.{behind_in, documents_cleared, lists_cleared, seek_in, take_in, values_cleared}
use Rattle.compaction_steps.proofs.Through.{goes_through, keys_behind, last_from, Up}

map_parts : (f : ℕ × ℕ → PlanKey) (n : ℕ) (ps : List (ℕ × ℕ)) → map f ps ≡ map f (take n ps) ++ map f (drop n ps)
map_parts f zero ps = refl
map_parts f (suc n) [] = refl
map_parts f (suc n) (p ∷ ps) = ap (λ (ks : List PlanKey). f p ∷ ks) (map_parts f n ps)

pub run_length : (f : ℕ × ℕ → PlanKey) (n : ℕ) (ps : List (ℕ × ℕ)) → n ≤ length ps → length (map f (take n ps)) ≡ n
run_length f zero ps few = refl
run_length f (suc n) [] few = absurd (omega arith)
run_length f (suc n) (p ∷ ps) few = ap suc (run_length f n ps (omega arith))

-- the last key of a run is that of its last pair
last_mapped : (h : ℕ → PlanKey) (from : PlanKey) (n : ℕ) (ps : List (ℕ × ℕ)) → 0 < n → n ≤ length ps → last_from from (map (λ p. h p.0) (take n ps)) ≡ h (last_key (take n ps))
last_mapped h from zero ps some few = absurd (omega arith)
last_mapped h from (suc n) [] some few = absurd (omega arith)
last_mapped h from (suc zero) (p ∷ ps) some few = refl
last_mapped h from (suc (suc n)) (p ∷ []) some few = absurd (omega arith)
last_mapped h from (suc (suc n)) (p ∷ q ∷ ps) some few = last_mapped h (h p.0) (suc n) (q ∷ ps) (omega arith) (omega arith)

module _ (bits victim : ℕ) (at : PlanPlace) (m : Records) (a : AttributeTrees) (count last : ℕ) (some : 0 < count) where
  ascends : {phase : ℕ} {key : PlanKey} → CanPass bits victim at m a phase key → (p : ℕ) → Up (phase_keys a.type m a.documents a.dictionary p)
  ascends can p = phase_ascends a.type m a.documents a.dictionary p can.documents_are.map_is can.index_is

  -- keys of a run, as the phase's
  module _ (h : ℕ → PlanKey) (ps : List (ℕ × ℕ)) (keys : List PlanKey) (few : count ≤ length ps) (last_is : last ≡ last_key (take count ps)) (rest : List PlanKey)
      (up : Up keys) (is : keys_behind at.key keys ≡ map (λ p. h p.0) (take count ps) ++ rest) where
    pub run_goes : GoesThrough keys at.key (map (λ p. h p.0) (take count ps)) (h last)
    run_goes = subst (GoesThrough keys at.key (map (λ p. h p.0) (take count ps))) (last_mapped h at.key count ps some few ∙ ap h (sym last_is))
        (goes_through keys up (map (λ p. h p.0) (take count ps)) rest at.key is)

  pub values_pass : (value : AnyValue) → CanPass bits victim at m a KEYS (plan.Value value)
      → IsRun (StandsApart bits victim a.kind m sights.Key) (behind (beside_value value m) (tree_pairs m a.dictionary)) count last
      → Passes bits victim at m a (plan.Value (stored_value a.type m last)) count
  values_pass value can run =
      let ps = behind (beside_value value m) (tree_pairs m a.dictionary) in
      let f : ℕ × ℕ → PlanKey = (λ p. plan.Value (stored_value a.type m p.0)) in
      let goes : GoesThrough (value_keys a.type m a.dictionary) at.key (map f (take count ps)) (plan.Value (stored_value a.type m last)) =
      run_goes (λ k. plan.Value (stored_value a.type m k)) ps (value_keys a.type m a.dictionary) run.few run.last_is (map f (drop count ps)) (ascends can KEYS)
      (ap (λ (k : PlanKey). keys_behind k (value_keys a.type m a.dictionary)) can.key_is
      ∙ values_behind a.type m value can.typed (tree_pairs m a.dictionary) ∙ map_parts f count ps) in
      record {
        some = some;
        passed = map f (take count ps);
        count_is = run_length f count ps run.few;
        through = subst (λ (p : ℕ). GoesThrough (phase_keys a.type m a.documents a.dictionary p) at.key (map f (take count ps)) (plan.Value (stored_value a.type m last))) (sym can.phase_is) goes;
        cleared = values_cleared bits victim at m a (plan.Value (stored_value a.type m last)) can.documents_are can.index_is can.cleared (take count ps) can.phase_is
            (λ r within. behind_in (beside_value value m) r (tree_pairs m a.dictionary) (take_in r count ps within)) goes run.all;
      }

  pub documents_pass : (doc : ℕ) → CanPass bits victim at m a DOCUMENTS (plan.Doc doc)
      → IsRun (StandsApart bits victim a.kind m sights.Items) (seek (λ key. nat_cmp key (doc + 1)) (tree_pairs m a.documents)) count last
      → Passes bits victim at m a (plan.Doc last) count
  documents_pass doc can run =
      let ps = seek (λ key. nat_cmp key (doc + 1)) (tree_pairs m a.documents) in
      let f : ℕ × ℕ → PlanKey = (λ p. plan.Doc p.0) in
      let goes : GoesThrough (document_keys m a.documents) at.key (map f (take count ps)) (plan.Doc last) =
      run_goes (λ k. plan.Doc k) ps (document_keys m a.documents) run.few run.last_is (map f (drop count ps)) (ascends can DOCUMENTS)
      (ap (λ (k : PlanKey). keys_behind k (document_keys m a.documents)) can.key_is
      ∙ docs_behind doc (tree_pairs m a.documents) ∙ map_parts f count ps) in
      record {
        some = some;
        passed = map f (take count ps);
        count_is = run_length f count ps run.few;
        through = subst (λ (p : ℕ). GoesThrough (phase_keys a.type m a.documents a.dictionary p) at.key (map f (take count ps)) (plan.Doc last)) (sym can.phase_is) goes;
        cleared = documents_cleared bits victim at m a (plan.Doc last) can.documents_are can.index_is can.cleared (take count ps) can.phase_is
            (λ r within. seek_in (λ key. nat_cmp key (doc + 1)) r (tree_pairs m a.documents) (take_in r count ps within)) goes run.all;
      }

  pub lists_pass : (value : AnyValue) (doc : ℕ) → CanPass bits victim at m a LISTS (plan.Pair value doc)
      → ((p : ℕ × ℕ) → lookup_pair (beside_value value m) (tree_pairs m a.dictionary) ≡ Some p → IsPlain p.1)
      → ((p : ℕ × ℕ) → lookup_pair (beside_value value m) (tree_pairs m a.dictionary) ≡ Some p → p.1 % 2 ≡ 0)
      → IsRun (StandsApart bits victim a.kind m sights.List) (behind (beside_value value m) (tree_pairs m a.dictionary)) count last
      → Passes bits victim at m a (plan.Pair (stored_value a.type m last) 0) count
  lists_pass value doc can plain even run =
      let ps = behind (beside_value value m) (tree_pairs m a.dictionary) in
      let f : ℕ × ℕ → PlanKey = (λ p. plan.Pair (stored_value a.type m p.0) 0) in
      let goes : GoesThrough (pair_keys a.type m a.dictionary) at.key (map f (take count ps)) (plan.Pair (stored_value a.type m last) 0) =
      run_goes (λ k. plan.Pair (stored_value a.type m k) 0) ps (pair_keys a.type m a.dictionary) run.few run.last_is (keys_of_pairs a.type m (drop count ps)) (ascends can LISTS)
      (ap (λ (k : PlanKey). keys_behind k (pair_keys a.type m a.dictionary)) can.key_is
      ∙ lists_behind a.type m value can.typed doc (tree_pairs m a.dictionary) can.index_is.dictionary_is.tree_is.ascends (list_pairs a.type m a.dictionary can.index_is) plain even
      ∙ short_keys bits victim a.type m count ps run.all) in
      record {
        some = some;
        passed = map f (take count ps);
        count_is = run_length f count ps run.few;
        through = subst (λ (p : ℕ). GoesThrough (phase_keys a.type m a.documents a.dictionary p) at.key (map f (take count ps)) (plan.Pair (stored_value a.type m last) 0)) (sym can.phase_is) goes;
        cleared = lists_cleared bits victim at m a (plan.Pair (stored_value a.type m last) 0) can.documents_are can.index_is can.cleared (take count ps) can.phase_is
            (λ r within. behind_in (beside_value value m) r (tree_pairs m a.dictionary) (take_in r count ps within)) goes run.all;
      }

-- in the phase that a test finds
pub at_phase : {bits victim : ℕ} {at : PlanPlace} {m : Records} {a : AttributeTrees} {phase : ℕ} {key : PlanKey} → CanPass bits victim at m a at.stage.phase key → at.stage.phase ≡ phase
    → CanPass bits victim at m a phase key
at_phase can is = record {
  phase_is = is;
  key_is = can.key_is;
  documents_are = can.documents_are;
  index_is = can.index_is;
  typed = can.typed;
  cleared = can.cleared;
}
