-- Documents of a list that is a tree are passed, by the ways to them.
use Rattle.std.proofs.Common.{◌≡◌, ◌≢◌, ◌⊎◌, ℕ, ◌+◌, ◌*◌, ◌/◌, ◌%◌, ◌<◌, ◌^◌, List, [], ◌∷◌, ◌++◌, map, length, take, drop, None, Some, Option, option_map, Less, Equal, Greater}
use Rattle.std.proofs.Common.{is_lt, not, inl, inr, refl, sym, ap, subst, ◌∙◌, arith}
use Rattle.std.proofs.lemmas.Cmp.{nat_cmp_total, tied_itself}
use Rattle.std.specs.declared.cmp.Ordering.{Ordering}
use Rattle.std.specs.List.{AllByRecursion}
use Rattle.std.specs.Option.{unwrap_or}
use Rattle.std.specs.Ordering.{nat_cmp, ordering_then}
use Rattle.list_lemmas.proofs.Options.{same_Some}
use Rattle.entry_ref.proofs.Among.{Among-all}
use Rattle.entry_ref.specs.References.{buffer_of}
use Rattle.entry_ref.specs.Records.{Among, Records}
use Rattle.tree_read.specs.Keys.{seen_by}
use Rattle.tree_read.specs.Pairs.{choose, lookup_pair, seek}
use Rattle.tree_read.specs.Trees.{by_number, tree_pairs, IsTree}
use Rattle.tree_read.proofs.PairLemmas.{lookup-of_pair}
use Rattle.frozen_btree.specs.Paths.{path_nodes, NoneIn}
use Rattle.frozen_btree.proofs.WayLemmas.{stand_on_ways}
use Rattle.compaction_moves.specs.Cleared.{IsClearedField, IsVisited, ListIsCleared}
use Rattle.compaction_moves.specs.Visits.{place_at_key, IsAmongKeys}
use Rattle.compaction_moves.proofs.BelowLemmas.{keys_of_tree}
use Rattle.compaction_moves.proofs.BlockLemmas.{block_key, start_in}
use Rattle.compaction_moves.proofs.IndexClauses.{pair_in}
use Rattle.compaction_moves.proofs.IndexPairs.{InPairs, at_pair, each_pair, found_pair}
use Rattle.attr_compaction.specs.Places.{doc_in, value_in, PlanPlace}
use Rattle.attr_compaction.specs.declared.plan.PlanKey.{PlanKey}
use Rattle.attr_compaction.specs.declared.plan.PlanKey.TheVariants as plan
use Rattle.attr_compaction.specs.declared.plan.TheConstants.{LISTS}
use Rattle.attr_field.specs.Documents.{IsDocuments}
use Rattle.image_format.specs.Postings.{ListForm, short, tree, vector, list_form, IsPostingList}
use Rattle.image_format.specs.Tables.{AttributeTrees}
use Rattle.image_format.specs.Values.{stored_value}
use Rattle.attr_types.specs.ProofsForOrder.{value_cmp_total}
use Rattle.attr_types.specs.Value.{type_of, value_cmp}
use Rattle.attr_types.specs.declared.kind.ValueType.{ValueType}
use Rattle.attr_types.specs.declared.value.Value.{Value as AnyValue}
use Rattle.enum_dictionary.specs.Dictionaries.{beside_value, entry_of}
use Rattle.enum_dictionary.specs.declared.finding.DictEntry.{DictEntry}
use Rattle.attr_compaction.proofs.ListLemmas.{tree_form_is, tree_numbers}
use Rattle.attr_compaction.proofs.NextLemmas.{past_number}
use Rattle.attr_compaction.specs.PhaseKeys.{keys_of_pairs, pair_keys, phase_keys}
use Rattle.posting_store.proofs.FormLemmas.{form_tree}
use Rattle.posting_store.specs.Lists.{IsList, IsPlain}
use Rattle.posting_store.specs.Moves.{form_docs}
use Rattle.value_index.proofs.KeyLemmas.{reads_found}
use Rattle.value_index.specs.Flows.{list_word}
use Rattle.value_index.specs.Indexes.{IsIndex, IsValuePair}
use Rattle.compaction_steps.specs.Passes.{CanPass, GoesThrough, Passes}
use Rattle.compaction_steps.specs.Sights.{IsRun}
use Rattle.compaction_steps.specs.Ways.{IsWayApart}
use Rattle.compaction_steps.proofs.BehindKeys.{map_seek, not_past, seen, skipped}
use Rattle.compaction_steps.proofs.Cleared.{ascends, other_documents, other_keys, other_map, other_values, same_pair}
use Rattle.compaction_steps.proofs.ClearPassLemmas.{run_goes, run_length}
use Rattle.compaction_steps.proofs.NodeKeys.{front_behind, mapped_some, parts_more}
use Rattle.compaction_steps.proofs.Through.{keys_behind, past, visited_through}

-- ---- the word of a value's list
module _ (value : AnyValue) (m : Records) (root : ℕ) where
  abbrev pairs : List (ℕ × ℕ)
  pairs = tree_pairs m root

  abbrev found_word : Option (ℕ × ℕ) → ℕ
  found_word found = unwrap_or (option_map (λ (p : ℕ × ℕ). p.1) found) 0

  word_by_pair : list_word value m root ≡ found_word (lookup_pair (beside_value value m) pairs)
  word_by_pair = ap (λ (o : Option ℕ). unwrap_or o 0) (lookup-of_pair (beside_value value m) pairs)

  pub word_found : (p : ℕ × ℕ) → lookup_pair (beside_value value m) pairs ≡ Some p → list_word value m root ≡ p.1
  word_found p found = word_by_pair ∙ ap found_word found

  pub word_pair : 0 < list_word value m root → (p : ℕ × ℕ) × (lookup_pair (beside_value value m) pairs ≡ Some p)
  word_pair some = told (lookup_pair (beside_value value m) pairs) refl
    where
      told : (found : Option (ℕ × ℕ)) → lookup_pair (beside_value value m) pairs ≡ found → (p : ℕ × ℕ) × (lookup_pair (beside_value value m) pairs ≡ Some p)
      told None is = absurd (let none : list_word value m root ≡ 0 = word_by_pair ∙ ap found_word is in omega (arith, some, none))
      told (Some p) is = (p, is)

-- what a search of the dictionary tells
pub entry_word : (bits : ℕ) (value : AnyValue) (m : Records) (root : ℕ) (e : DictEntry bits) → option_map (entry_of bits) (lookup_pair (beside_value value m) (tree_pairs m root)) ≡ Some e
    → e.posting ≡ list_word value m root
entry_word bits value m root e is = told (lookup_pair (beside_value value m) (tree_pairs m root)) refl is
  where
    told : (found : Option (ℕ × ℕ)) → lookup_pair (beside_value value m) (tree_pairs m root) ≡ found → option_map (entry_of bits) found ≡ Some e → e.posting ≡ list_word value m root
    told None at none = absurd (grind (arith, none))
    told (Some p) at some = sym (ap (λ (x : DictEntry bits). x.posting) (same_Some (entry_of bits p) e some)) ∙ sym (word_found value m root p at)

pub no_word : (bits : ℕ) (value : AnyValue) (m : Records) (root : ℕ) → option_map (entry_of bits) (lookup_pair (beside_value value m) (tree_pairs m root)) ≡ None → 0 ≡ list_word value m root
no_word bits value m root is = told (lookup_pair (beside_value value m) (tree_pairs m root)) refl is
  where
    told : (found : Option (ℕ × ℕ)) → lookup_pair (beside_value value m) (tree_pairs m root) ≡ found → option_map (entry_of bits) found ≡ None → 0 ≡ list_word value m root
    told None at none = sym (word_by_pair value m root ∙ ap (found_word value m root) at)
    told (Some p) at some = absurd (grind (arith, some))

-- ---- keys of a list that is a tree
module _ (type : ValueType) (m : Records) (value : AnyValue) (typed : type_of value ≡ type) (doc root : ℕ) where
  abbrev key : PlanKey
  key = plan.Pair value doc

  abbrev against : ℕ → Ordering
  against = beside_value value m

  abbrev as_pair : ℕ × ℕ → PlanKey
  as_pair t = plan.Pair value t.0

  abbrev ahead : List (ℕ × ℕ)
  ahead = seek (λ k. nat_cmp k (doc + 1)) (tree_pairs m root)

  past_doc : (d : ℕ) → past key (plan.Pair value d) ≡ not (is_lt (nat_cmp d (doc + 1)))
  past_doc d = ap (λ (o : Ordering). is_lt (ordering_then o (nat_cmp doc d))) (tied_itself value_cmp_total value) ∙ past_number doc d

  docs_ahead : keys_behind key (map as_pair (tree_pairs m root)) ≡ map as_pair ahead
  docs_ahead = map_seek as_pair key (λ k. nat_cmp k (doc + 1)) (λ p. past_doc p.0) (tree_pairs m root)

  mapped : (ts : List (ℕ × ℕ)) → map (λ d. plan.Pair value d) (map (λ p. p.0) ts) ≡ map as_pair ts
  mapped [] = refl
  mapped (t ∷ ts) = ap (λ (ks : List PlanKey). plan.Pair value t.0 ∷ ks) (mapped ts)

  list_keys : (p : ℕ × ℕ) → stored_value type m p.0 ≡ value → list_form p.1 ≡ tree root → map (λ d. plan.Pair (stored_value type m p.0) d) (form_docs m (list_form p.1)) ≡ map as_pair (tree_pairs m root)
  list_keys p reads form =
      ap (λ (v : AnyValue). map (λ d. plan.Pair v d) (form_docs m (list_form p.1))) reads
      ∙ ap (λ (f : ListForm). map (λ d. plan.Pair value d) (form_docs m f)) form ∙ mapped (tree_pairs m root)

  -- the keys behind the document are the rest of the tree, and then others
  pub tree_behind : (ps : List (ℕ × ℕ)) (p : ℕ × ℕ) → lookup_pair against ps ≡ Some p → stored_value type m p.0 ≡ value → list_form p.1 ≡ tree root → 0 < length (map as_pair ahead)
      → (rest : List PlanKey) × (keys_behind key (keys_of_pairs type m ps) ≡ map as_pair ahead ++ rest)
  tree_behind [] p found reads form some = absurd (grind (arith, found))
  tree_behind (q ∷ ps) p found reads form some =
      (elim (against q.0) as (λ o. against q.0 ≡ o → choose o (lookup_pair against ps) (Some q) None ≡ Some p
      → (rest : List PlanKey) × (keys_behind key (keys_of_pairs type m (q ∷ ps)) ≡ map as_pair ahead ++ rest)) [
        | Less ↦ λ is there. (
            let more = tree_behind ps p there reads form some in (
              more.0,
              skipped type m value typed doc (map (λ d. plan.Pair (stored_value type m q.0) d) (form_docs m (list_form q.1))) (keys_of_pairs type m ps)
                  (not_past type m value typed doc (stored_value type m q.0) (seen type m value typed doc q.0 ∙ is) (form_docs m (list_form q.1))) ∙ more.1,
            )
            )
        | Equal ↦ λ is there. (
            let same : q ≡ p = same_Some q p there in
            let keys = list_keys q (ap (λ (x : ℕ × ℕ). stored_value type m x.0) same ∙ reads) (ap (λ (x : ℕ × ℕ). list_form x.1) same ∙ form) in (
              keys_of_pairs type m ps,
              ap (λ (ks : List PlanKey). keys_behind key (ks ++ keys_of_pairs type m ps)) keys
                  ∙ front_behind key (map as_pair (tree_pairs m root)) (keys_of_pairs type m ps) (subst (λ (ks : List PlanKey). 0 < length ks) (sym docs_ahead) some)
                  ∙ ap (λ (ks : List PlanKey). ks ++ keys_of_pairs type m ps) docs_ahead,
            )
            )
        | Greater ↦ λ is there. absurd (grind (arith, there))
      ]) refl found

-- ---- what is cleared
abbrev root_in : ListForm → ℕ
root_in (short ref) = 0
root_in (tree root) = root
root_in (vector root) = 0

module _ (bits victim : ℕ) (at : PlanPlace) (m : Records) (a : AttributeTrees) (to : PlanKey) (documents_are : IsDocuments a.kind a.type m a.documents)
    (index_is : IsIndex a.type m a.dictionary) (cleared : IsClearedField bits victim at at.stage.field m a) (value : AnyValue) (root : ℕ) (p : ℕ × ℕ) (run : List (ℕ × ℕ)) where
  abbrev field : ℕ
  field = at.stage.field

  abbrev here : PlanPlace
  here = place_at_key at to

  abbrev values : List (ℕ × ℕ)
  values = tree_pairs m a.dictionary

  abbrev read : ℕ × ℕ → AnyValue
  read q = stored_value a.type m q.0

  abbrev IsWayTo : ℕ → Type 0
  IsWayTo d = NoneIn bits victim (path_nodes m (seen_by by_number nat_cmp (by_number m d) m) root)

  -- a key of the run is one of the value, and the way to its document lies elsewhere
  among_run : (w : AnyValue) (d : ℕ) (ts : List (ℕ × ℕ)) → AllByRecursion (IsWayApart bits victim nat_cmp by_number m root) ts → IsAmongKeys (plan.Pair w d) (map (λ t. plan.Pair value t.0) ts)
      → (w ≡ value) × IsWayTo d
  among_run w d [] all among = absurd among
  among_run w d (t ∷ ts) all (inl e) = (ap value_in e, subst IsWayTo (sym (ap doc_in e)) all.0)
  among_run w d (t ∷ ts) all (inr later) = among_run w d ts all.1 later

  module _ (phase : at.stage.phase ≡ LISTS) (there : InPairs p values) (reads : stored_value a.type m p.0 ≡ value) (form : list_form p.1 ≡ tree root)
      (through : GoesThrough (pair_keys a.type m a.dictionary) at.key (map (λ t. plan.Pair value t.0) run) to)
      (apart : AllByRecursion (IsWayApart bits victim nat_cmp by_number m root) run) where
    -- a document of a list was visited before, or it is one of the run
    step : (q : ℕ × ℕ) (d : ℕ) → InPairs q values → Among d (form_docs m (list_form q.1)) → IsVisited here field LISTS (plan.Pair (read q) d)
        → IsVisited at field LISTS (plan.Pair (read q) d) ⊎ ((list_form q.1 ≡ tree root) × IsWayTo d)
    step q d within among visited =
        elim (visited_through at field LISTS (pair_keys a.type m a.dictionary) (map (λ t. plan.Pair value t.0) run) to (plan.Pair (read q) d) refl phase
        (ascends bits victim at m a to documents_are index_is cleared LISTS) through (pair_in a.type m q d values within among) visited) [
          | inl was ↦ inl was
          | inr passed ↦ (
              let one = among_run (read q) d run apart passed in
              let same = same_pair value_cmp value_cmp_total read values index_is.dictionary_is.tree_is.ascends q p within there (one.0 ∙ sym reads) in
              inr (ap (λ (x : ℕ × ℕ). list_form x.1) same ∙ form, one.1)
              )
        ]

    by_form : (v : AnyValue) (f : ListForm) → IsPostingList m f
        → ((d : ℕ) → Among d (form_docs m f) → IsVisited here field LISTS (plan.Pair v d) → IsVisited at field LISTS (plan.Pair v d) ⊎ ((f ≡ tree root) × IsWayTo d))
        → ListIsCleared bits victim at field m v f → ListIsCleared bits victim here field m v f
    by_form v (short ref) is each was = λ visited. elim (each 0 (inl refl) visited) [
      | inl before ↦ was before
      | inr one ↦ absurd (grind (arith, one.0))
    ]
    by_form v (tree base) is each was = λ node among lies d below visited. elim (each d (keys_of_tree m base node d is.0.node among below) visited) [
      | inl before ↦ was node among lies d below before
      | inr one ↦ (
          let same : base ≡ root = ap root_in one.0 in
          Among-all (λ r. buffer_of bits r ≢ victim) (path_nodes m (seen_by by_number nat_cmp (by_number m d) m) base)
          (subst (λ (x : ℕ). NoneIn bits victim (path_nodes m (seen_by by_number nat_cmp (by_number m d) m) x)) (sym same) one.1) node
          (stand_on_ways nat_cmp nat_cmp_total by_number m base node d is.0 among below) lies
          )
    ]
    by_form v (vector base) is each was = record {
      nodes = λ node among lies k below visited. elim (each (4096 * k) (start_in k (tree_pairs m base) (keys_of_tree m base node k is.0.node among below)) visited) [
        | inl before ↦ was.nodes node among lies k below before
        | inr one ↦ absurd (grind (arith, one.0))
      ];
      blocks = λ k r at_block visited. elim (each (4096 * k) (start_in k (tree_pairs m base) (block_key m base k r at_block)) visited) [
        | inl before ↦ was.blocks k r at_block before
        | inr one ↦ absurd (grind (arith, one.0))
      ];
    }

    pub tree_cleared : IsClearedField bits victim here field m a
    tree_cleared = record {
      keys = other_keys bits victim at m a to documents_are index_is cleared (λ e. let f = sym phase ∙ e in omega arith);
      documents = other_documents bits victim at m a to documents_are index_is cleared (λ e. let f = sym phase ∙ e in omega arith);
      lists = each_pair (λ q. ListIsCleared bits victim here field m (stored_value a.type m q.0) (list_form q.1)) values (λ q within.
          let pair : IsValuePair m q = at_pair (IsValuePair m) values index_is.pairs q within in
          by_form (stored_value a.type m q.0) (list_form q.1) (pair.list_is.form pair.some) (λ d among visited. step q d within among visited)
          (at_pair (λ q. ListIsCleared bits victim at field m (stored_value a.type m q.0) (list_form q.1)) values cleared.lists q within));
      values = other_values bits victim at m a to documents_are index_is cleared (λ e. let f = sym phase ∙ e in omega arith);
      map = other_map bits victim at m a to documents_are index_is cleared (λ e. let f = sym phase ∙ e in omega arith);
    }

-- ---- documents that are passed
module _ (bits victim : ℕ) (at : PlanPlace) (m : Records) (a : AttributeTrees) (value : AnyValue) (doc word root : ℕ) (can : CanPass bits victim at m a LISTS (plan.Pair value doc))
    (is : word ≡ list_word value m a.dictionary) (plain : IsPlain word) (odd : word % 2 ≡ 1) (root_is : root ≡ word / 2) where
  some_word : 0 < list_word value m a.dictionary
  some_word = omega (arith, is, odd)

  pair : (p : ℕ × ℕ) × (lookup_pair (beside_value value m) (tree_pairs m a.dictionary) ≡ Some p)
  pair = word_pair value m a.dictionary some_word

  word_of_pair : word ≡ pair.0.1
  word_of_pair = is ∙ word_found value m a.dictionary pair.0 pair.1

  there : InPairs pair.0 (tree_pairs m a.dictionary)
  there = found_pair (beside_value value m) pair.0 (tree_pairs m a.dictionary) pair.1

  list_is : IsList m word
  list_is =
      let found : IsValuePair m pair.0 = at_pair (IsValuePair m) (tree_pairs m a.dictionary) can.index_is.pairs pair.0 there in
      subst (IsList m) (sym word_of_pair) found.list_is

  pub list_tree : IsTree nat_cmp by_number m root
  list_tree = (tree_form_is m word root list_is plain odd root_is).0

  pub list_numbers : AllByRecursion (λ p. p.0 < 2 ^ 32) (tree_pairs m root)
  list_numbers = tree_numbers m word root list_is plain odd root_is

  reads : stored_value a.type m pair.0.0 ≡ value
  reads = subst (λ (t : ValueType). stored_value t m pair.0.0 ≡ value) can.typed (reads_found value m pair.0 (tree_pairs m a.dictionary) pair.1)

  form : list_form pair.0.1 ≡ tree root
  form = ap list_form (sym word_of_pair) ∙ form_tree word root plain (omega (arith, odd, root_is))

  pub tree_pass : (count last : ℕ) → 0 < count → IsRun (IsWayApart bits victim nat_cmp by_number m root) (seek (λ key. nat_cmp key (doc + 1)) (tree_pairs m root)) count last
      → Passes bits victim at m a (plan.Pair value last) count
  tree_pass count last some run =
      let ps = seek (λ key. nat_cmp key (doc + 1)) (tree_pairs m root) in
      let f : ℕ × ℕ → PlanKey = (λ p. plan.Pair value p.0) in
      let keys = pair_keys a.type m a.dictionary in
      let behind = tree_behind a.type m value can.typed doc root (tree_pairs m a.dictionary) pair.0 pair.1 reads form (mapped_some f count ps some run.few) in
      let goes : GoesThrough keys at.key (map f (take count ps)) (plan.Pair value last) =
      run_goes bits victim at m a count last some (λ k. plan.Pair value k) ps keys run.few run.last_is (map f (drop count ps) ++ behind.0)
      (ascends bits victim at m a (plan.Pair value last) can.documents_are can.index_is can.cleared LISTS)
      (ap (λ (k : PlanKey). keys_behind k keys) can.key_is ∙ behind.1 ∙ parts_more f count ps behind.0) in
      record {
        some = some;
        passed = map f (take count ps);
        count_is = run_length f count ps run.few;
        through = subst (λ (p : ℕ). GoesThrough (phase_keys a.type m a.documents a.dictionary p) at.key (map f (take count ps)) (plan.Pair value last)) (sym can.phase_is) goes;
        cleared = tree_cleared bits victim at m a (plan.Pair value last) can.documents_are can.index_is can.cleared value root pair.0 (take count ps) can.phase_is there reads form goes run.all;
      }
