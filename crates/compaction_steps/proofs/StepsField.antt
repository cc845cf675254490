-- What was cleared of an attribute, through an operation: what lies in the victim then lay there before, in the same role.
use Rattle.std.proofs.Common.{◌≡◌, ◌≢◌, ℕ, ◌-◌, ◌/◌, Bool, List, map, length, true, false, true≢false, Some, Equal, inl, inr, refl, sym, ap, subst, ◌∙◌, arith, nat_cmp}
use Rattle.std.proofs.lemmas.Cmp.{nat_cmp_total}
use Rattle.std.proofs.lemmas.Map.Lookups.{exact_unsigned}
use Rattle.entry_ref.proofs.Among.{Among-all, Among-append}
use Rattle.entry_ref.specs.References.{buffer_of}
use Rattle.entry_ref.specs.Records.{Records, Among}
use Rattle.store_api.specs.Ledgers.{Ledger}
use Rattle.store_api.specs.Statuses.{in_use}
use Rattle.tree_read.specs.Trees.{by_number, tree_nodes, tree_pairs, IsTree}
use Rattle.attr_compaction.specs.Places.{PlanPlace}
use Rattle.attr_compaction.specs.declared.plan.PlanKey.TheVariants as plan
use Rattle.attr_compaction.specs.declared.plan.TheConstants.{DOCUMENTS, KEYS, LISTS, NODES}
use Rattle.attr_field.specs.Documents.{documents_refer, items_own, items_refer}
use Rattle.attr_field.specs.DocumentsFlows.{reference_at}
use Rattle.attr_field.specs.Fields.{field_part, IsField}
use Rattle.attr_field.specs.Flows.{FlowsField}
use Rattle.image_format.proofs.ImageLemmas.{value_typed}
use Rattle.image_format.specs.Postings.{vector, list_form, postings_reach, IsPostingList}
use Rattle.image_format.specs.Values.{stored_value, value_of}
use Rattle.image_format.specs.Words.{IsStoredList}
use Rattle.attr_operations.specs.Fields.{KeepsWords}
use Rattle.attr_types.specs.ProofsForOrder.{value_cmp_exact, value_cmp_total}
use Rattle.attr_types.specs.Value.{type_of, value_cmp}
use Rattle.attr_types.specs.declared.kind.Kind.{Kind}
use Rattle.attr_types.specs.declared.kind.ValueType.{ValueType}
use Rattle.attr_types.specs.declared.value.Value.{Value}
use Rattle.doc_vector.specs.Documents as docs
use Rattle.compaction_moves.specs.DocumentMoves.{AreItemsApart}
use Rattle.enum_dictionary.specs.Dictionaries.{beside_value}
use Rattle.bit_vector.specs.Keeps.{block_at}
use Rattle.compaction_moves.proofs.BlockLemmas.{block_size, block_value}
use Rattle.compaction_moves.proofs.PlanVisits.{earlier_visited}
use Rattle.posting_store.specs.Keeps.{form_block, list_block}
use Rattle.posting_store.proofs.FormLemmas.{form_vector, no_vector, plain_of, reach_form}
use Rattle.posting_store.proofs.VectorLemmas.{counted_from}
use Rattle.posting_store.specs.Lists.{list_reach, is_vector, IsPlain}
use Rattle.value_index.proofs.KeyLemmas.{among_left, among_right}
use Rattle.value_index.specs.Flows.{list_word}
use Rattle.value_index.specs.Indexes.{IsValuePair}
use Rattle.compaction_moves.specs.Cleared.{BlockIsVisited, IsClearedField, IsVisited, ListIsCleared, NodesAreCleared, VectorIsCleared}
use Rattle.compaction_steps.proofs.StepsBelow.{keys_both, keys_in_tree, node_size}
use Rattle.compaction_steps.proofs.StepsLists.{all_in, all_keys, all_pairs, all_refs, flat_in, key_in, lookup_in, pair_found, Found, IsIn}
use Rattle.compaction_steps.proofs.StepsOwned.{form_of, is_short, is_tree, item_owned, key_is_owned, key_owned, list_owned, map_node_owned, short_size, value_node_owned}

module _ {H : Type 0} (bits victim field : ℕ) (at : PlanPlace) (old new : Ledger H) (m n : Records) (kind : Kind) (type : ValueType)
    (documents dictionary next_documents next_dictionary : ℕ)
    (is : IsField kind type m documents dictionary) (next_is : IsField kind type n next_documents next_dictionary)
    (was : (r : ℕ) → Among r ((field_part kind documents dictionary).reach m) → in_use (old.back r) ≡ true)
    (used : (r : ℕ) → Among r ((field_part kind next_documents next_dictionary).reach n) → in_use (new.status r) ≡ true)
    (referred : (r : ℕ) → Among r (documents_refer kind n next_documents) → in_use (new.status r) ≡ true)
    (lies : (r : ℕ) → in_use (new.status r) ≡ true → buffer_of bits r ≡ victim → in_use (old.back r) ≡ true)
    (words : KeepsWords old new m n) (flows : FlowsField kind type old m n documents dictionary next_documents next_dictionary)
    (cleared : IsClearedField bits victim at field m (record { kind = kind; type = type; documents = documents; dictionary = dictionary })) where
  abbrev Was : ℕ → Type 0
  Was r = in_use (old.back r) ≡ true

  abbrev Used : ℕ → Type 0
  Used r = in_use (new.status r) ≡ true

  abbrev values_then : List (ℕ × ℕ)
  values_then = tree_pairs n next_dictionary

  abbrev documents_then : List (ℕ × ℕ)
  documents_then = tree_pairs n next_documents

  -- ---- keys
  old_key : (key : ℕ) → Among key (map (λ p. p.0) (tree_pairs m dictionary)) → IsVisited at field KEYS (plan.Value (stored_value type m key)) → buffer_of bits key ≢ victim
  old_key = all_keys (λ key. IsVisited at field KEYS (plan.Value (stored_value type m key)) → buffer_of bits key ≢ victim) (tree_pairs m dictionary) cleared.keys

  key_next : (p : ℕ × ℕ) → IsIn p values_then → IsVisited at field KEYS (plan.Value (stored_value type n p.0)) → buffer_of bits p.0 ≢ victim
  key_next p there visited in_victim =
      let now_used = used p.0 (key_owned kind n next_documents next_dictionary p there) in
      let began = lies p.0 now_used in_victim in
      old_key p.0 (flows.index.keys p.0 began (key_in p values_then there))
      (subst (λ v. IsVisited at field KEYS (plan.Value v)) (ap (value_of type) (words.each p.0 began now_used)) visited) in_victim

  -- ---- documents
  reference_is : (p : ℕ × ℕ) → IsIn p documents_then → reference_at n next_documents p.0 ≡ p.1
  reference_is p there = pair_found nat_cmp nat_cmp_total (λ k. k) (docs.beside_document p.0) p (λ k. refl) documents_then next_is.documents_are.map_is.tree_is.ascends there

  old_items : (doc : ℕ) (q : ℕ × ℕ) → IsIn q (tree_pairs m documents) → nat_cmp q.0 doc ≡ Equal → IsVisited at field DOCUMENTS (plan.Doc doc) → AreItemsApart bits victim kind m q.1
  old_items doc q there equal visited =
      all_in (λ (p : ℕ × ℕ). IsVisited at field DOCUMENTS (plan.Doc p.0) → AreItemsApart bits victim kind m p.1) (tree_pairs m documents) cleared.documents q there
      (subst (λ d. IsVisited at field DOCUMENTS (plan.Doc d)) (sym (exact_unsigned q.0 doc equal)) visited)

  own_next : (p : ℕ × ℕ) → IsIn p documents_then → IsVisited at field DOCUMENTS (plan.Doc p.0) → (r : ℕ) → Among r (items_own kind p.1) → buffer_of bits r ≢ victim
  own_next p there visited r among in_victim =
      let now_used = used r (item_owned kind n next_documents next_dictionary p r there among) in
      let began = lies r now_used in_victim in
      let before = flows.own p.0 r began (subst (λ ref. Among r (items_own kind ref)) (sym (reference_is p there)) among) in
      let found = lookup_in (docs.beside_document p.0) (items_own kind) r (tree_pairs m documents) (λ none. none) before in
      Among-all (λ x. buffer_of bits x ≢ victim) (items_own kind found.pair.1) (old_items p.0 found.pair found.there found.equal visited).own r found.among in_victim

  refer_next : (p : ℕ × ℕ) → IsIn p documents_then → IsVisited at field DOCUMENTS (plan.Doc p.0) → (r : ℕ) → Among r (items_refer kind p.1 (n p.1)) → buffer_of bits r ≢ victim
  refer_next p there visited r among in_victim =
      let now_used = referred r (flat_in (λ (q : ℕ × ℕ). items_refer kind q.1 (n q.1)) documents_then p r there among) in
      let began = lies r now_used in_victim in
      elim (flows.refer p.0 r began (subst (λ ref. Among r (items_refer kind ref (n ref))) (sym (reference_is p there)) among)) [
        | inl before ↦ (let found = lookup_in (docs.beside_document p.0) (λ ref. items_refer kind ref (m ref)) r (tree_pairs m documents) (λ none. none) before in
            Among-all (λ x. buffer_of bits x ≢ victim) (items_refer kind found.pair.1 (m found.pair.1)) (old_items p.0 found.pair found.there found.equal visited).refer r found.among in_victim)
        | inr key ↦ old_key r key (earlier_visited at field KEYS DOCUMENTS (plan.Doc p.0) (plan.Value (stored_value type m r)) (omega arith) visited) in_victim
      ]

  items_next : (p : ℕ × ℕ) → IsIn p documents_then → IsVisited at field DOCUMENTS (plan.Doc p.0) → AreItemsApart bits victim kind n p.1
  items_next p there visited = record {
    own = all_refs (λ r. buffer_of bits r ≢ victim) (items_own kind p.1) (own_next p there visited);
    refer = all_refs (λ r. buffer_of bits r ≢ victim) (items_refer kind p.1 (n p.1)) (refer_next p there visited);
  }

  -- ---- lists
  abbrev value_then : ℕ × ℕ → Value
  value_then p = stored_value type n p.0

  word_is : (p : ℕ × ℕ) → IsIn p values_then → list_word (value_then p) n next_dictionary ≡ p.1
  word_is p there = pair_found value_cmp value_cmp_total (stored_value type n) (beside_value (value_then p) n) p
      (λ k. ap (λ (t : ValueType). value_cmp (stored_value t n k) (value_then p)) (value_typed type (n p.0))) values_then next_is.index_is.dictionary_is.tree_is.ascends there

  -- the list of a value before, which had a reference
  record OldList (v : Value) (r : ℕ) : Type 0 where
    pair : ℕ × ℕ
    there : IsIn pair (tree_pairs m dictionary)
    is_pair : IsValuePair m pair
    word : list_word v m dictionary ≡ pair.1
    clear : ListIsCleared bits victim at field m v (list_form pair.1)
    among : Among r (postings_reach m (list_form pair.1))

  old_list : (v : Value) (r : ℕ) → type_of v ≡ type → Found (beside_value v m) (list_reach m) r (tree_pairs m dictionary) → OldList v r
  old_list v r typed found =
      let q = found.pair in
      let pair_is = all_in (IsValuePair m) (tree_pairs m dictionary) is.index_is.pairs q found.there in
      let equal : value_cmp (stored_value type m q.0) v ≡ Equal = sym (ap (λ (t : ValueType). value_cmp (stored_value t m q.0) v) typed) ∙ found.equal in
      record {
        pair = q;
        there = found.there;
        is_pair = pair_is;
        word = pair_found value_cmp value_cmp_total (stored_value type m) (beside_value v m) q
            (λ k. ap (λ (t : ValueType). value_cmp (stored_value t m k) v) typed
            ∙ ap (λ (x : Value). value_cmp (stored_value type m k) x) (sym (value_cmp_exact (stored_value type m q.0) v equal)))
            (tree_pairs m dictionary) is.index_is.dictionary_is.tree_is.ascends found.there;
        clear = subst (λ x. ListIsCleared bits victim at field m x (list_form q.1)) (value_cmp_exact (stored_value type m q.0) v equal)
            (all_in (λ (p : ℕ × ℕ). ListIsCleared bits victim at field m (stored_value type m p.0) (list_form p.1)) (tree_pairs m dictionary) cleared.lists q found.there);
        among = subst (Among r) (reach_form m q.1 pair_is.some) found.among;
      }

  came : (p : ℕ × ℕ) → IsIn p values_then → (r : ℕ) → Among r (postings_reach n (list_form p.1)) → buffer_of bits r ≡ victim → OldList (value_then p) r
  came p there r among in_victim =
      let pair_is = all_in (IsValuePair n) values_then next_is.index_is.pairs p there in
      let began = lies r (used r (list_owned kind n next_documents next_dictionary p r there among)) in_victim in
      let here : Among r (list_reach n p.1) = subst (Among r) (sym (reach_form n p.1 pair_is.some)) among in
      let before = flows.index.lists (value_then p) (value_typed type (n p.0)) r began (subst (λ w. Among r (list_reach n w)) (sym (word_is p there)) here) in
      old_list (value_then p) r (value_typed type (n p.0)) (lookup_in (beside_value (value_then p) m) (list_reach m) r (tree_pairs m dictionary) (λ none. none) before)

  -- the list had this form already: a list that changed its form has no old record
  same_form : (p : ℕ × ℕ) → IsIn p values_then → (r : ℕ) → Among r (postings_reach n (list_form p.1)) → buffer_of bits r ≡ victim → (o : OldList (value_then p) r)
      → is_vector o.pair.1 ≡ is_vector p.1
  same_form p there r among in_victim o = decided (is_vector o.pair.1) (is_vector p.1) (λ other.
      let pair_is = all_in (IsValuePair n) values_then next_is.index_is.pairs p there in
      let began = lies r (used r (list_owned kind n next_documents next_dictionary p r there among)) in_victim in
      let here : Among r (list_reach n p.1) = subst (Among r) (sym (reach_form n p.1 pair_is.some)) among in
      (flows.index.blocks (value_then p) (value_typed type (n p.0))).anew
      (λ e. other (sym (ap is_vector (sym (word_is p there)) ∙ e ∙ ap is_vector o.word))) r began (subst (λ w. Among r (list_reach n w)) (sym (word_is p there)) here))
    where
      decided : (a b : Bool) → ((a ≡ b → ⊥) → ⊥) → a ≡ b
      decided true true not_other = refl
      decided false false not_other = refl
      decided true false not_other = absurd (not_other true≢false)
      decided false true not_other = absurd (not_other (λ e. true≢false (sym e)))

  module _ (v : Value) (r : ℕ) (now_used : Used r) (in_victim : buffer_of bits r ≡ victim) (o : OldList v r) where
    same_words : n r ≡ m r
    same_words = words.each r (was r (list_owned kind m documents dictionary o.pair r o.there o.among)) now_used

    old_form : IsPostingList m (list_form o.pair.1)
    old_form = o.is_pair.list_is.form o.is_pair.some

    -- a short list's record was one, and lay elsewhere if it was visited
    short_next : IsPlain o.pair.1 → IsStoredList 8 (n r) → IsVisited at field LISTS (plan.Pair v 0) → ⊥
    short_next plain stored visited = elim (form_of o.pair.1 plain) [
      | is_short e ↦ elim (subst (λ form. Among r (postings_reach m form)) e o.among) [
        | inl same ↦ subst (ListIsCleared bits victim at field m v) e o.clear visited (ap (buffer_of bits) (sym same) ∙ in_victim)
        | inr none ↦ absurd none
      ]
      | is_tree e ↦ short_size (n r) stored (ap length same_words
          ∙ node_size m nat_cmp by_number (o.pair.1 / 2) (subst (IsPostingList m) e old_form).0 r (subst (λ form. Among r (postings_reach m form)) e o.among))
    ]

    -- a list's node was one of that list's
    node_next : IsPlain o.pair.1 → (root : ℕ) → IsTree nat_cmp by_number n root → ((q : ℕ) → Among q (tree_nodes n root) → Used q) → Among r (tree_nodes n root) → (key : ℕ)
        → Among key (Rattle.frozen_btree.specs.Ways.keys_below n r) → IsVisited at field LISTS (plan.Pair v key) → ⊥
    node_next plain root is_then after there key below visited = elim (form_of o.pair.1 plain) [
      | is_short e ↦ elim (subst (λ form. Among r (postings_reach m form)) e o.among) [
        | inl same ↦ short_size (m r) (subst (λ x. IsStoredList 8 (m x)) (sym same) (subst (IsPostingList m) e old_form))
            (sym (ap length same_words) ∙ node_size n nat_cmp by_number root is_then r there)
        | inr none ↦ absurd none
      ]
      | is_tree e ↦
          (let here = subst (λ form. Among r (postings_reach m form)) e o.among in
          let both = keys_both m n Was Used words.each nat_cmp by_number (o.pair.1 / 2) (subst (IsPostingList m) e old_form).0
          (λ q among. was q (list_owned kind m documents dictionary o.pair q o.there (subst (λ form. Among q (postings_reach m form)) (sym e) among)))
          nat_cmp by_number root is_then after r here there in
          subst (ListIsCleared bits victim at field m v) e o.clear r here in_victim key (subst (Among key) both below) visited)
    ]

    -- a bit vector's blocks and nodes were those of a bit vector
    module _ (dense : is_vector o.pair.1 ≡ true) where
      abbrev base : ℕ
      base = o.pair.1 - 8589934592

      form_is : list_form o.pair.1 ≡ vector base
      form_is = form_vector o.pair.1 base (counted_from o.pair.1 dense)

      posting_was : IsPostingList m (vector base)
      posting_was = subst (IsPostingList m) form_is old_form

      clear_was : VectorIsCleared bits victim at field m v base
      clear_was = subst (ListIsCleared bits victim at field m v) form_is o.clear

      node_was : (q : ℕ) → Among q (tree_nodes m base) → Was q
      node_was q among = was q (list_owned kind m documents dictionary o.pair q o.there
          (subst (λ form. Among q (postings_reach m form)) (sym form_is) (among_left q (tree_nodes m base) (map (λ p. p.1) (tree_pairs m base)) among)))

      vector_node_next : (root : ℕ) → IsTree nat_cmp by_number n root → ((q : ℕ) → Among q (tree_nodes n root) → Used q) → Among r (tree_nodes n root) → (k : ℕ)
          → Among k (Rattle.frozen_btree.specs.Ways.keys_below n r) → BlockIsVisited at field v k → ⊥
      vector_node_next root is_then after there k below visited =
          elim (Among-append r (tree_nodes m base) (map (λ p. p.1) (tree_pairs m base)) (subst (λ form. Among r (postings_reach m form)) form_is o.among)) [
            | inl node ↦ (
                let both = keys_both m n Was Used words.each nat_cmp by_number base posting_was.0 node_was nat_cmp by_number root is_then after r node there in
                clear_was.nodes r node in_victim k (subst (Among k) both below) visited
                )
            | inr block ↦ (
                let wide = node_size n nat_cmp by_number root is_then r there in
                let size = block_size m (tree_pairs m base) posting_was.2 r block in
                let same = ap length same_words in
                omega (arith, wide, size, same)
                )
          ]

      vector_block_next : (k : ℕ) → list_block m o.pair.1 k ≡ Some r → BlockIsVisited at field v k → ⊥
      vector_block_next k at_block visited = clear_was.blocks k r (sym (ap (λ f. form_block m f k) form_is) ∙ at_block) visited in_victim

  module _ (p : ℕ × ℕ) (there : IsIn p values_then) where
    pair_is : IsValuePair n p
    pair_is = all_in (IsValuePair n) values_then next_is.index_is.pairs p there

    list_used : (r : ℕ) → Among r (postings_reach n (list_form p.1)) → Used r
    list_used r among = used r (list_owned kind n next_documents next_dictionary p r there among)

    -- a list that is no bit vector
    plain_was : IsPlain p.1 → (r : ℕ) → Among r (postings_reach n (list_form p.1)) → buffer_of bits r ≡ victim → (o : OldList (value_then p) r) → IsPlain o.pair.1
    plain_was plain r among in_victim o = plain_of o.pair.1 (same_form p there r among in_victim o ∙ no_vector p.1 plain)

    plain_next : IsPlain p.1 → ListIsCleared bits victim at field n (value_then p) (list_form p.1)
    plain_next plain = elim (form_of p.1 plain) [
      | is_short e ↦ subst (ListIsCleared bits victim at field n (value_then p)) (sym e) (λ visited in_victim.
          let among : Among (p.1 / 2) (postings_reach n (list_form p.1)) = subst (λ form. Among (p.1 / 2) (postings_reach n form)) (sym e) (inl refl) in
          let o = came p there (p.1 / 2) among in_victim in
          short_next (value_then p) (p.1 / 2) (list_used (p.1 / 2) among) in_victim o (plain_was plain (p.1 / 2) among in_victim o)
          (subst (IsPostingList n) e (pair_is.list_is.form pair_is.some)) visited)
      | is_tree e ↦ subst (ListIsCleared bits victim at field n (value_then p)) (sym e) (λ node inside in_victim key below visited.
          let after : (q : ℕ) → Among q (tree_nodes n (p.1 / 2)) → Used q =
          λ q among. list_used q (subst (λ form. Among q (postings_reach n form)) (sym e) among) in
          let among = subst (λ form. Among node (postings_reach n form)) (sym e) inside in
          let o = came p there node among in_victim in
          node_next (value_then p) node (after node inside) in_victim o (plain_was plain node among in_victim o)
          (p.1 / 2) (subst (IsPostingList n) e (pair_is.list_is.form pair_is.some)).0 after inside key below visited)
    ]

    -- a bit vector
    module _ (dense : is_vector p.1 ≡ true) where
      abbrev top : ℕ
      top = p.1 - 8589934592

      form_then : list_form p.1 ≡ vector top
      form_then = form_vector p.1 top (counted_from p.1 dense)

      posting_then : IsPostingList n (vector top)
      posting_then = subst (IsPostingList n) form_then (pair_is.list_is.form pair_is.some)

      inside_list : (r : ℕ) → Among r (postings_reach n (vector top)) → Among r (postings_reach n (list_form p.1))
      inside_list r among = subst (λ form. Among r (postings_reach n form)) (sym form_then) among

      node_inside : (r : ℕ) → Among r (tree_nodes n top) → Among r (postings_reach n (list_form p.1))
      node_inside r among = inside_list r (among_left r (tree_nodes n top) (map (λ q. q.1) (tree_pairs n top)) among)

      block_inside : (r : ℕ) → Among r (map (λ q. q.1) (tree_pairs n top)) → Among r (postings_reach n (list_form p.1))
      block_inside r among = inside_list r (among_right r (tree_nodes n top) (map (λ q. q.1) (tree_pairs n top)) among)

      block_next : (k r : ℕ) → block_at n top k ≡ Some r → BlockIsVisited at field (value_then p) k → buffer_of bits r ≢ victim
      block_next k r at_block visited in_victim =
          let among = block_inside r (block_value n top k r at_block) in
          let o = came p there r among in_victim in
          let began = lies r (list_used r among) in_victim in
          let now : list_block n (list_word (value_then p) n next_dictionary) k ≡ Some r =
          ap (λ w. list_block n w k) (word_is p there) ∙ ap (λ f. form_block n f k) form_then ∙ at_block in
          let before = (flows.index.blocks (value_then p) (value_typed type (n p.0))).blocks.each k r now began in
          vector_block_next (value_then p) r (list_used r among) in_victim o (same_form p there r among in_victim o ∙ dense) k
          (sym (ap (λ w. list_block m w k) o.word) ∙ before) visited

      vector_next : ListIsCleared bits victim at field n (value_then p) (list_form p.1)
      vector_next = subst (ListIsCleared bits victim at field n (value_then p)) (sym form_then) (record {
        nodes = λ node inside in_victim k below visited.
            let among = node_inside node inside in
            let o = came p there node among in_victim in
            vector_node_next (value_then p) node (list_used node among) in_victim o (same_form p there node among in_victim o ∙ dense) top posting_then.0
            (λ q within. list_used q (node_inside q within)) inside k below visited;
        blocks = block_next;
      })

    list_next : ListIsCleared bits victim at field n (value_then p) (list_form p.1)
    list_next = told (is_vector p.1) refl
      where
        told : (t : Bool) → is_vector p.1 ≡ t → ListIsCleared bits victim at field n (value_then p) (list_form p.1)
        told true is_dense = vector_next is_dense
        told false is_plain = plain_next (plain_of p.1 is_plain)

  -- ---- nodes
  values_next : NodesAreCleared bits victim n (λ r. IsVisited at field NODES (plan.Value (stored_value type n r))) next_dictionary
  values_next node there in_victim key below visited =
      let before = is.index_is.dictionary_is.tree_is in
      let next_tree = next_is.index_is.dictionary_is.tree_is in
      let now_used = used node (value_node_owned kind n next_documents next_dictionary node there) in
      let here = flows.index.nodes node (lies node now_used in_victim) there in
      let both = keys_both m n Was Used words.each value_cmp (stored_value type) dictionary before (λ q among. was q (value_node_owned kind m documents dictionary q among))
      value_cmp (stored_value type) next_dictionary next_tree (λ q among. used q (value_node_owned kind n next_documents next_dictionary q among)) node here there in
      let under = subst (Among key) both below in
      let key_before = was key (key_is_owned kind m documents dictionary key (keys_in_tree m value_cmp (stored_value type) dictionary before node key here under)) in
      let key_then = used key (key_is_owned kind n next_documents next_dictionary key (keys_in_tree n value_cmp (stored_value type) next_dictionary next_tree node key there below)) in
      cleared.values node here in_victim key under (subst (λ v. IsVisited at field NODES (plan.Value v)) (ap (value_of type) (words.each key key_before key_then)) visited)

  map_next : NodesAreCleared bits victim n (λ doc. IsVisited at field NODES (plan.Doc doc)) next_documents
  map_next node there in_victim key below visited =
      let now_used = used node (map_node_owned kind n next_documents next_dictionary node there) in
      let here = flows.nodes node (lies node now_used in_victim) there in
      let both = keys_both m n Was Used words.each nat_cmp by_number documents is.documents_are.map_is.tree_is (λ q among. was q (map_node_owned kind m documents dictionary q among))
      nat_cmp by_number next_documents next_is.documents_are.map_is.tree_is (λ q among. used q (map_node_owned kind n next_documents next_dictionary q among)) node here there in
      cleared.map node here in_victim key (subst (Among key) both below) visited

  pub field_next : IsClearedField bits victim at field n (record { kind = kind; type = type; documents = next_documents; dictionary = next_dictionary })
  field_next = record {
    keys = all_pairs _ values_then key_next;
    documents = all_pairs _ documents_then items_next;
    lists = all_pairs _ values_then list_next;
    values = values_next;
    map = map_next;
  }
