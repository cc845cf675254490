-- A list that was moved as far as a document leads is cleared that far, and what was cleared is so still.
use Rattle.std.proofs.Common.{◌≡◌, ◌≢◌, ◌⊎◌, Bool, true, false, ℕ, ℤ, zero, suc, ◌+◌, ◌-◌, ◌*◌, ◌/◌, ◌%◌, ◌<◌, List, [], ◌∷◌, length, map, Option, Some, option_map, inl, inr, refl, sym, ap, subst, ◌∙◌, arith}
use Rattle.std.proofs.lemmas.Cmp.{nat_cmp_total}
use Rattle.std.proofs.lemmas.List.{length-map}
use Rattle.std.specs.List.Sorted.{IsStrictlySortedBy}
use Rattle.std.specs.Option.{unwrap_or}
use Rattle.std.specs.Ordering.{nat_cmp}
use Rattle.entry_ref.proofs.Among.{Among-all, Among-append}
use Rattle.entry_ref.specs.References.{buffer_of}
use Rattle.entry_ref.specs.Records.{Records, SameAt, Among}
use Rattle.tree_read.specs.Pairs.{lookup_pair, take_out}
use Rattle.tree_read.proofs.PairLemmas.{lookup-of_pair}
use Rattle.store_api.specs.Ledgers.{Ledger}
use Rattle.store_api.specs.Parts.{Owns}
use Rattle.store_api.specs.Statuses.{in_use}
use Rattle.tree_read.specs.Trees.{by_number, tree_nodes, tree_pairs}
use Rattle.frozen_btree.specs.Paths.{path_nodes, NoneIn}
use Rattle.frozen_btree.proofs.ChangeLemmas.{tree-wide}
use Rattle.frozen_btree.proofs.WayLemmas.{stand_on_ways}
use Rattle.frozen_btree.specs.Ways.{keys_below, tree_keys}
use Rattle.compaction_moves.specs.Cleared.{BlockIsVisited, IsClearedField, IsVisited, ListIsCleared, NodesAreCleared, VectorIsCleared}
use Rattle.attr_compaction.specs.Places.{doc_in, key_cmp, value_in, PlanPlace}
use Rattle.attr_compaction.specs.declared.plan.PlanKey.{PlanKey}
use Rattle.attr_compaction.specs.declared.plan.PlanKey.TheVariants as plan
use Rattle.attr_compaction.specs.declared.plan.TheConstants.{DOCUMENTS, KEYS, LISTS, NODES}
use Rattle.attr_field.specs.Documents.{documents_own}
use Rattle.image_format.specs.Postings.{tree, vector, list_form, postings_reach, IsPostingList}
use Rattle.image_format.specs.Tables.{AttributeTrees}
use Rattle.image_format.specs.Values.{stored_value, value_of}
use Rattle.image_format.specs.Words.{weight_in_bits}
use Rattle.index_model.specs.Index.{list_of, Index}
use Rattle.attr_types.specs.Value.{type_of}
use Rattle.attr_types.specs.declared.kind.ValueType.{ValueType}
use Rattle.attr_types.specs.declared.value.Value.{Value}
use Rattle.enum_dictionary.specs.Dictionaries.{beside_value}
use Rattle.compaction_moves.specs.IndexMoves.{MovesList}
use Rattle.compaction_moves.proofs.IndexKeyLemmas.{key_of}
use Rattle.attr_compaction.proofs.OrderLemmas.{phase_ascends}
use Rattle.attr_compaction.specs.PhaseKeys.{pair_keys}
use Rattle.compaction_moves.specs.Visits.{place_at_key, IsAmongKeys}
use Rattle.compaction_moves.proofs.PlanVisits.{all_before, next_visited}
use Rattle.bit_vector.specs.Keeps.{block_at}
use Rattle.bit_vector.specs.Moves.{IsBlockApart}
use Rattle.posting_store.specs.Keeps.{form_block, list_block}
use Rattle.posting_store.specs.Lists.{list_at, list_reach, is_vector, IsPlain}
use Rattle.posting_store.specs.Moves.{form_docs, FormIsApart}
use Rattle.posting_store.proofs.FormLemmas.{at_form, form_even, form_tree, form_vector, many_odd, plain_of, tree_at, tree_form, tree_reach}
use Rattle.posting_store.proofs.VectorLemmas.{counted_from, vector_form, vector_list_reach}
use Rattle.value_index.specs.Flows.{list_word}
use Rattle.value_index.specs.Indexes.{index_part, IsValuePair}
use Rattle.value_index.proofs.IndexLemmas.{pair_reach}
use Rattle.value_index.proofs.KeyLemmas.{among_left, among_right, at_key, list_found, reads_found}
use Rattle.compaction_moves.specs.IndexLaws.{ListMoveClears}
use Rattle.compaction_moves.specs.IndexTurns.{IsTurn, LeavesBuffer}
use Rattle.compaction_moves.proofs.BelowLemmas.{nodes_moved}
use Rattle.compaction_moves.proofs.BlockLemmas.{block_key, block_size, block_value, start_in}
use Rattle.compaction_moves.proofs.KeyMoved.{of_type}
use Rattle.compaction_moves.proofs.IndexPairs.{InPairs, at_pair, each_pair, found_pair, other_pair, pair_key, pair_stays, split_pair, taken_pair}
use Rattle.compaction_moves.proofs.IndexClauses.{documents_stay, list_stays, list_used, nodes_later, pair_in, pair_of_key}

-- the word of a value's list
word_is : (value : Value) (m : Records) (root : ℕ) (q : ℕ × ℕ) → lookup_pair (beside_value value m) (tree_pairs m root) ≡ Some q → list_word value m root ≡ q.1
word_is value m root q found =
    ap (λ (o : Option ℕ). unwrap_or o 0) (lookup-of_pair (beside_value value m) (tree_pairs m root) ∙ ap (λ (f : Option (ℕ × ℕ)). option_map (λ (p : ℕ × ℕ). p.1) f) found)

module _ {H : Type 0} (bits victim field doc next : ℕ) (at : PlanPlace) (value : Value) (old new : Ledger H) (m n : Records) (a : AttributeTrees)
    (turn : IsTurn at field LISTS m (of_type a (type_of value)) (plan.Pair value doc)) (moves : MovesList bits victim doc value old new m n a.dictionary next)
    (leaves : LeavesBuffer bits victim old new m n) (owns : Owns old m (index_part a.dictionary ∷ []))
    (cleared : IsClearedField bits victim at field m (of_type a (type_of value))) where
  abbrev type : ValueType
  type = type_of value

  abbrev root : ℕ
  root = a.dictionary

  abbrev here : PlanPlace
  here = place_at_key at (plan.Pair value doc)

  abbrev ListCleared : PlanPlace → Records → ℕ × ℕ → Type 0
  ListCleared place o p = ListIsCleared bits victim place field o (stored_value type o p.0) (list_form p.1)

  ascends : IsStrictlySortedBy key_cmp (pair_keys type m root)
  ascends = phase_ascends type m a.documents root LISTS turn.map_is turn.index_is

  before : (phase : ℕ) (key : PlanKey) (place : PlanPlace) → place.stage.field ≡ field → place.stage.phase ≡ LISTS → phase < 2 → IsVisited place field phase key
  before phase key place same is less = all_before place field phase key (inr (same, omega arith))

  -- of the keys of lists, those visited now were visited before, or it is this one
  step : (w : Value) (d : ℕ) → IsAmongKeys (plan.Pair w d) (pair_keys type m root) → IsVisited here field LISTS (plan.Pair w d)
      → (IsVisited at field LISTS (plan.Pair w d)) ⊎ (plan.Pair w d ≡ plan.Pair value doc)
  step w d among visited =
      next_visited at field LISTS (pair_keys type m root) (plan.Pair value doc) (plan.Pair w d) turn.field_is turn.phase_is turn.next ascends among visited

  -- ---- keys
  was_key : (q : ℕ × ℕ) → InPairs q (tree_pairs n next) → Among q.0 (map (λ p. p.0) (tree_pairs m root))
  was_key q within = elim (split_pair (beside_value value n) q (tree_pairs n next) within) [
    | inl found ↦ (
        let pair = pair_of_key value m root q.0 (sym moves.key ∙ key_of value n next (Some q) found) in
        subst (λ k. Among k (map (λ p. p.0) (tree_pairs m root))) pair.2 (pair_key pair.0 (tree_pairs m root) (found_pair (beside_value value m) pair.0 (tree_pairs m root) pair.1))
        )
    | inr rest ↦ pair_key q (tree_pairs m root) (taken_pair (beside_value value m) q (tree_pairs m root) (subst (InPairs q) moves.others rest))
  ]

  key_apart : (k : ℕ) → Among k (map (λ p. p.0) (tree_pairs m root)) → buffer_of bits k ≢ victim
  key_apart k among =
      at_key (λ r. IsVisited at field KEYS (plan.Value (stored_value type m r)) → buffer_of bits r ≢ victim) k (tree_pairs m root) cleared.keys among
      (before KEYS (plan.Value (stored_value type m k)) at turn.field_is turn.phase_is (omega arith))

  -- ---- lists of other values
  other_list : (q : ℕ × ℕ) → InPairs q (take_out (beside_value value m) (tree_pairs m root)) → ListCleared here n q
  other_list q within =
      let there : InPairs q (tree_pairs m root) = taken_pair (beside_value value m) q (tree_pairs m root) within in
      let same : SameAt (pair_reach m q) m n = pair_stays m n (pair_reach m) q (take_out (beside_value value m) (tree_pairs m root)) within moves.rest in
      let pair : IsValuePair m q = at_pair (IsValuePair m) (tree_pairs m root) turn.index_is.pairs q there in
      let reads : stored_value type n q.0 ≡ stored_value type m q.0 = ap (value_of type) same.0 in
      subst (λ v. ListIsCleared bits victim here field n v (list_form q.1)) (sym reads)
      (list_stays bits victim field at here m n (stored_value type m q.0) (list_form q.1) same.1 (pair.list_is.form pair.some)
      (λ d among visited. still d there (step (stored_value type m q.0) d (pair_in type m q d (tree_pairs m root) there among) visited))
      (at_pair (ListCleared at m) (tree_pairs m root) cleared.lists q there))
    where
      still : (d : ℕ) → InPairs q (tree_pairs m root)
          → (IsVisited at field LISTS (plan.Pair (stored_value type m q.0) d)) ⊎ (plan.Pair (stored_value type m q.0) d ≡ plan.Pair value doc)
          → IsVisited at field LISTS (plan.Pair (stored_value type m q.0) d)
      still d there (inl was) = was
      still d there (inr e) = absurd (other_pair (stored_value type m) value (tree_pairs m root) turn.index_is.dictionary_is.tree_is.ascends q within (ap value_in e))

  -- ---- the list that was moved
  module _ (q p : ℕ × ℕ) (within : InPairs q (tree_pairs n next)) (found : lookup_pair (beside_value value n) (tree_pairs n next) ≡ Some q)
      (was : lookup_pair (beside_value value m) (tree_pairs m root) ≡ Some p) where
    there : InPairs p (tree_pairs m root)
    there = found_pair (beside_value value m) p (tree_pairs m root) was

    pair_now : IsValuePair n q
    pair_now = at_pair (IsValuePair n) (tree_pairs n next) moves.index_is.pairs q within

    pair_was : IsValuePair m p
    pair_was = at_pair (IsValuePair m) (tree_pairs m root) turn.index_is.pairs p there

    reads_was : stored_value type m p.0 ≡ value
    reads_was = reads_found value m p (tree_pairs m root) was

    docs_same : list_at n q.1 ≡ list_at m p.1
    docs_same =
        at_form n q.1 pair_now.some
        ∙ sym (list_found value n next moves.index_is q found)
        ∙ ap (λ (index : Index). list_of value index) moves.reads_as
        ∙ list_found value m root turn.index_is p was
        ∙ sym (at_form m p.1 pair_was.some)

    apart : FormIsApart bits victim doc n (list_form q.1)
    apart = moves.apart q.1 (lookup-of_pair (beside_value value n) (tree_pairs n next) ∙ ap (λ (f : Option (ℕ × ℕ)). option_map (λ (x : ℕ × ℕ). x.1) f) found)

    -- both are of one form
    same_form : is_vector q.1 ≡ is_vector p.1
    same_form = ap is_vector (sym (word_is value n next q found)) ∙ moves.form ∙ ap is_vector (word_is value m root p was)

    -- both are trees
    module _ (plain_now : IsPlain q.1) (plain_was : IsPlain p.1) (top base : ℕ) (now_is : q.1 ≡ 2 * top + 1) (was_is : p.1 ≡ 2 * base + 1) where
      form_now : list_form q.1 ≡ tree top
      form_now = form_tree q.1 top plain_now now_is

      form_was : list_form p.1 ≡ tree base
      form_was = form_tree p.1 base plain_was was_is

      tree_now : IsPostingList n (tree top)
      tree_now = tree_form n q.1 top plain_now now_is pair_now.list_is

      tree_was : IsPostingList m (tree base)
      tree_was = tree_form m p.1 base plain_was was_is pair_was.list_is

      used_now : (x : ℕ) → Among x (tree_nodes n top) → in_use (new.status x) ≡ true
      used_now x among = list_used new n next moves.owns x q within (subst (λ f. Among x (postings_reach n f)) (sym form_now) among)

      used_was : (x : ℕ) → Among x (tree_nodes m base) → in_use (old.status x) ≡ true
      used_was x among = list_used old m root owns x p there (subst (λ f. Among x (postings_reach m f)) (sym form_was) among)

      came : (node : ℕ) → Among node (tree_nodes n top) → buffer_of bits node ≡ victim → Among node (tree_nodes m base)
      came node among lies =
          let reached : Among node (list_reach n (list_word value n next)) =
          subst (λ w. Among node (list_reach n w)) (sym (word_is value n next q found)) (subst (Among node) (sym (tree_reach n q.1 top plain_now now_is)) among) in
          subst (Among node) (tree_reach m p.1 base plain_was was_is)
          (subst (λ w. Among node (list_reach m w)) (word_is value m root p was) (moves.came node (leaves.unmade node lies (used_now node among)) reached))

      way_apart : NoneIn bits victim (path_nodes n (λ key. nat_cmp key doc) top)
      way_apart = subst (FormIsApart bits victim doc n) form_now apart

      on_way : (node : ℕ) → Among node (tree_nodes n top) → buffer_of bits node ≡ victim → (key : ℕ) → Among key (keys_below n node) → key ≡ doc → ⊥
      on_way node among lies key below e =
          Among-all (λ r. buffer_of bits r ≢ victim) (path_nodes n (λ k. nat_cmp k doc) top) way_apart node
          (subst (λ d. Among node (path_nodes n (λ k. nat_cmp k d) top)) e (stand_on_ways nat_cmp nat_cmp_total by_number n top node key tree_now.0 among below)) lies

      still_tree : (node key : ℕ) → Among node (tree_nodes n top) → buffer_of bits node ≡ victim → Among key (keys_below n node) → Among key (tree_keys m base)
          → IsVisited here field LISTS (plan.Pair value key) → IsVisited at field LISTS (plan.Pair value key)
      still_tree node key among lies below key_was visited = told
          (step value key (subst (λ v. IsAmongKeys (plan.Pair v key) (pair_keys type m root)) reads_was
          (pair_in type m p key (tree_pairs m root) there (subst (λ f. Among key (form_docs m f)) (sym form_was) key_was))) visited)
        where
          told : (IsVisited at field LISTS (plan.Pair value key)) ⊎ (plan.Pair value key ≡ plan.Pair value doc) → IsVisited at field LISTS (plan.Pair value key)
          told (inl visited_then) = visited_then
          told (inr e) = absurd (on_way node among lies key below (ap doc_in e))

      old_tree : NodesAreCleared bits victim m (λ d. IsVisited at field LISTS (plan.Pair value d)) base
      old_tree =
          subst (λ f. ListIsCleared bits victim at field m value f) form_was
          (subst (λ v. ListIsCleared bits victim at field m v (list_form p.1)) reads_was (at_pair (ListCleared at m) (tree_pairs m root) cleared.lists p there))

      moved_tree : ListIsCleared bits victim here field n value (list_form q.1)
      moved_tree =
          subst (λ f. ListIsCleared bits victim here field n value f) (sym form_now)
          (nodes_moved bits victim m n base top tree_was.0.node tree_now.0.node came (λ x x_was x_now. leaves.words x (used_was x x_was) (used_now x x_now))
          (λ d. IsVisited at field LISTS (plan.Pair value d)) (λ d. IsVisited here field LISTS (plan.Pair value d)) still_tree old_tree)

    many_now : IsPlain q.1 → q.1 % 2 ≡ 1 → 8 < length (list_at n q.1)
    many_now plain odd =
        let top : ℕ = q.1 / 2 in
        let now_is : q.1 ≡ 2 * top + 1 = omega (arith, odd) in
        let many : 8 < length (tree_pairs n top) = (tree_form n q.1 top plain now_is pair_now.list_is).1 in
        let size : length (map {B = ℕ × ℤ} (λ p. (p.0, weight_in_bits p.1)) (tree_pairs n top)) ≡ length (tree_pairs n top) = length-map (tree_pairs n top) (λ p. (p.0, weight_in_bits p.1)) in
        let whole = ap {A = List (ℕ × ℤ)} length (tree_at n q.1 top plain now_is) in
        omega (arith, many, size, whole)

    moved_plain : IsPlain q.1 → IsPlain p.1 → ListIsCleared bits victim here field n value (list_form q.1)
    moved_plain plain_now plain_was = told (q.1 % 2) refl
      where
        told : (bit : ℕ) → q.1 % 2 ≡ bit → ListIsCleared bits victim here field n value (list_form q.1)
        told zero is =
            let form = form_even q.1 plain_now is in
            subst (λ f. ListIsCleared bits victim here field n value f) (sym form) (λ visited. subst (FormIsApart bits victim doc n) form apart)
        told (suc zero) is =
            let odd : p.1 % 2 ≡ 1 = many_odd m p.1 plain_was pair_was.list_is (subst {A = List (ℕ × ℤ)} (λ docs. 8 < length docs) docs_same (many_now plain_now is)) in
            moved_tree plain_now plain_was (q.1 / 2) (p.1 / 2) (omega (arith, is)) (omega (arith, odd))
        told (suc (suc bit)) is = absurd (omega (arith, is))

    -- both are bit vectors
    module _ (top base : ℕ) (now_is : q.1 ≡ 8589934592 + top) (was_is : p.1 ≡ 8589934592 + base) where
      vector_now : list_form q.1 ≡ vector top
      vector_now = form_vector q.1 top now_is

      vector_was : list_form p.1 ≡ vector base
      vector_was = form_vector p.1 base was_is

      posting_now : IsPostingList n (vector top)
      posting_now = vector_form n q.1 top now_is pair_now.list_is

      posting_was : IsPostingList m (vector base)
      posting_was = vector_form m p.1 base was_is pair_was.list_is

      used_after : (x : ℕ) → Among x (postings_reach n (vector top)) → in_use (new.status x) ≡ true
      used_after x among = list_used new n next moves.owns x q within (subst (λ f. Among x (postings_reach n f)) (sym vector_now) among)

      used_before : (x : ℕ) → Among x (postings_reach m (vector base)) → in_use (old.status x) ≡ true
      used_before x among = list_used old m root owns x p there (subst (λ f. Among x (postings_reach m f)) (sym vector_was) among)

      node_after : (x : ℕ) → Among x (tree_nodes n top) → in_use (new.status x) ≡ true
      node_after x among = used_after x (among_left x (tree_nodes n top) (map (λ p. p.1) (tree_pairs n top)) among)

      node_before : (x : ℕ) → Among x (tree_nodes m base) → in_use (old.status x) ≡ true
      node_before x among = used_before x (among_left x (tree_nodes m base) (map (λ p. p.1) (tree_pairs m base)) among)

      reached : (x : ℕ) → Among x (postings_reach n (vector top)) → in_use (old.status x) ≡ true → Among x (postings_reach m (vector base))
      reached x among used =
          let now : Among x (list_reach n (list_word value n next)) =
          subst (λ w. Among x (list_reach n w)) (sym (word_is value n next q found)) (subst (Among x) (sym (vector_list_reach n q.1 top now_is)) among) in
          subst (Among x) (vector_list_reach m p.1 base was_is) (subst (λ w. Among x (list_reach m w)) (word_is value m root p was) (moves.came x used now))

      -- a node is no block: it has other words
      node_came : (node : ℕ) → Among node (tree_nodes n top) → buffer_of bits node ≡ victim → Among node (tree_nodes m base)
      node_came node among lies =
          let used = leaves.unmade node lies (node_after node among) in
          elim (Among-append node (tree_nodes m base) (map (λ p. p.1) (tree_pairs m base)) (reached node (among_left node (tree_nodes n top) (map (λ p. p.1) (tree_pairs n top)) among) used)) [
            | inl here ↦ here
            | inr block ↦ (
                let wide = Among-all (λ x. length (n x) ≡ 34) (tree_nodes n top) (tree-wide n top posting_now.0.node) node among in
                let size = block_size m (tree_pairs m base) posting_was.2 node block in
                let same = ap length (leaves.words node used (node_after node among)) in
                absurd (omega (arith, wide, size, same))
                )
          ]

      -- block k leads to this record, in a word and in the tree
      block_now : (k r : ℕ) → block_at n top k ≡ Some r → list_block n (list_word value n next) k ≡ Some r
      block_now k r at = ap (λ w. list_block n w k) (word_is value n next q found) ∙ ap (λ f. form_block n f k) vector_now ∙ at

      block_was : (k r : ℕ) → list_block m (list_word value m root) k ≡ Some r → block_at m base k ≡ Some r
      block_was k r at = sym (ap (λ w. list_block m w k) (word_is value m root p was) ∙ ap (λ f. form_block m f k) vector_was) ∙ at

      block_apart : IsBlockApart bits victim (doc / 4096) n top
      block_apart = subst (FormIsApart bits victim doc n) vector_now apart

      number_is : (k : ℕ) → 4096 * k ≡ doc → k ≡ doc / 4096
      number_is k e = omega (arith, e)

      on_block_way : (node : ℕ) → Among node (tree_nodes n top) → buffer_of bits node ≡ victim → (k : ℕ) → Among k (keys_below n node) → 4096 * k ≡ doc → ⊥
      on_block_way node among lies k below e =
          Among-all (λ r. buffer_of bits r ≢ victim) (path_nodes n (λ stored. nat_cmp stored (doc / 4096)) top) block_apart.way node
          (subst (λ d. Among node (path_nodes n (λ stored. nat_cmp stored d) top)) (number_is k e)
          (stand_on_ways nat_cmp nat_cmp_total by_number n top node k posting_now.0 among below)) lies

      old_vector : VectorIsCleared bits victim at field m value base
      old_vector =
          subst (λ f. ListIsCleared bits victim at field m value f) vector_was
          (subst (λ v. ListIsCleared bits victim at field m v (list_form p.1)) reads_was (at_pair (ListCleared at m) (tree_pairs m root) cleared.lists p there))

      -- of the blocks that were there, those visited now were visited before, or it is this one
      block_step : (k : ℕ) → Among k (map (λ p. p.0) (tree_pairs m base)) → BlockIsVisited here field value k → BlockIsVisited at field value k ⊎ (4096 * k ≡ doc)
      block_step k number visited = told
          (step value (4096 * k) (subst (λ v. IsAmongKeys (plan.Pair v (4096 * k)) (pair_keys type m root)) reads_was
          (pair_in type m p (4096 * k) (tree_pairs m root) there (subst (λ f. Among (4096 * k) (form_docs m f)) (sym vector_was) (start_in k (tree_pairs m base) number)))) visited)
        where
          told : BlockIsVisited at field value k ⊎ (plan.Pair value (4096 * k) ≡ plan.Pair value doc) → BlockIsVisited at field value k ⊎ (4096 * k ≡ doc)
          told (inl visited_then) = inl visited_then
          told (inr e) = inr (ap doc_in e)

      still_block : (node k : ℕ) → Among node (tree_nodes n top) → buffer_of bits node ≡ victim → Among k (keys_below n node) → Among k (tree_keys m base)
          → BlockIsVisited here field value k → BlockIsVisited at field value k
      still_block node k among lies below number visited = elim (block_step k number visited) [
        | inl was ↦ was
        | inr e ↦ absurd (on_block_way node among lies k below e)
      ]

      block_clear : (k r : ℕ) → block_at n top k ≡ Some r → BlockIsVisited here field value k → buffer_of bits r ≢ victim
      block_clear k r at_now visited lies =
          let among = among_right r (tree_nodes n top) (map (λ p. p.1) (tree_pairs n top)) (block_value n top k r at_now) in
          let used = leaves.unmade r lies (used_after r among) in
          let at_was = block_was k r (moves.blocks.each k r (block_now k r at_now) used) in
          elim (block_step k (block_key m base k r at_was) visited) [
            | inl before ↦ old_vector.blocks k r at_was before lies
            | inr e ↦ block_apart.block r (subst (λ d. block_at n top d ≡ Some r) (number_is k e) at_now) lies
          ]

      moved_blocks : ListIsCleared bits victim here field n value (list_form q.1)
      moved_blocks = subst (λ f. ListIsCleared bits victim here field n value f) (sym vector_now) (record {
        nodes = nodes_moved bits victim m n base top posting_was.0.node posting_now.0.node node_came
            (λ x x_was x_now. leaves.words x (node_before x x_was) (node_after x x_now)) (BlockIsVisited at field value) (BlockIsVisited here field value) still_block old_vector.nodes;
        blocks = block_clear;
      })

    moved_list : ListIsCleared bits victim here field n value (list_form q.1)
    moved_list = told (is_vector q.1) refl
      where
        told : (t : Bool) → is_vector q.1 ≡ t → ListIsCleared bits victim here field n value (list_form q.1)
        told true is = moved_blocks (q.1 - 8589934592) (p.1 - 8589934592) (counted_from q.1 is) (counted_from p.1 (sym same_form ∙ is))
        told false is = moved_plain (plain_of q.1 is) (plain_of p.1 (sym same_form ∙ is))

  each_list : (q : ℕ × ℕ) → InPairs q (tree_pairs n next) → ListCleared here n q
  each_list q within = elim (split_pair (beside_value value n) q (tree_pairs n next) within) [
    | inl found ↦ (
        let pair = pair_of_key value m root q.0 (sym moves.key ∙ key_of value n next (Some q) found) in
        subst (λ v. ListIsCleared bits victim here field n v (list_form q.1)) (sym (reads_found value n q (tree_pairs n next) found)) (moved_list q pair.0 within found pair.1)
        )
    | inr rest ↦ other_list q (subst (InPairs q) moves.others rest)
  ]

  later : at.stage.phase < NODES
  later = let is = turn.phase_is in omega arith

  pub list_clears_at : SameAt (documents_own a.kind m a.documents) m n → IsClearedField bits victim here field n (record (of_type a type) { dictionary = next })
  list_clears_at same = record {
    keys = each_pair (λ p. IsVisited here field KEYS (plan.Value (stored_value type n p.0)) → buffer_of bits p.0 ≢ victim) (tree_pairs n next)
        (λ q within visited. key_apart q.0 (was_key q within));
    documents = documents_stay bits victim field at here a.kind m n a.documents same (λ d. before DOCUMENTS (plan.Doc d) at turn.field_is turn.phase_is (omega arith)) cleared.documents;
    lists = each_pair (ListCleared here n) (tree_pairs n next) each_list;
    values = nodes_later bits victim field here n turn.field_is NODES (λ r. plan.Value (stored_value type n r)) next later;
    map = nodes_later bits victim field here n turn.field_is NODES (λ d. plan.Doc d) a.documents later;
  }

pub list_clears : (H : Type 0) → ListMoveClears H
list_clears H bits victim field doc next at value old new m n a is turn moves leaves owns same cleared =
    subst (λ (t : ValueType). IsTurn at field LISTS m (of_type a t) (plan.Pair value doc) → IsClearedField bits victim at field m (of_type a t)
    → IsClearedField bits victim (place_at_key at (plan.Pair value doc)) field n (record (of_type a t) { dictionary = next })) is
    (λ t c. list_clears_at bits victim field doc next at value old new m n a t moves leaves owns c same) turn cleared
