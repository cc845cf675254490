-- How many records a move makes.
use Rattle.std.proofs.Common.{◌≡◌, ℕ, zero, suc, ◌+◌, ◌*◌, ◌≤◌, Bool, true, false, true≢false, cond, nat_eq, nat_le, List, [], ◌∷◌, None, Some, length, refl, sym, ap, subst, ◌∙◌, arith, inl, inr, leb-true}
use Rattle.std.proofs.lemmas.Bool.{eqb-true}
use Rattle.std.specs.List.{AllByRecursion}
use Rattle.std.specs.Option.{unwrap_or}
use Rattle.std.specs.declared.cmp.Ordering.{Ordering}
use Rattle.std.specs.declared.cmp.Ordering.TheVariants.{Less, Equal, Greater}
use Rattle.entry_ref.specs.Records.{Records}
use Rattle.tree_read.specs.Pairs.{choose, lookup}
use Rattle.store_api.specs.Ledgers.{Ledger}
use Rattle.store_api.specs.Units.{MakesWithin}
use Rattle.tree_read.specs.Trees.{tree_pairs}
use Rattle.frozen_btree.specs.Changes.{levels}
use Rattle.frozen_btree.specs.Makes.{CountsNodes}
use Rattle.array_store.proofs.ClassLemmas.{class_least, class_no_node}
use Rattle.attr_field.proofs.CountLemmas.{documents_low}
use Rattle.attr_field.proofs.SizeLemmas.{documents_few}
use Rattle.attr_field.specs.DocumentsChanges.{documents_most}
use Rattle.attr_field.specs.Fields.{IsField}
use Rattle.attr_field.specs.Items.{has_list, items_record}
use Rattle.image_format.specs.Documents.{column_at}
use Rattle.image_format.specs.Postings.{index_of, list_form}
use Rattle.image_format.specs.Values.{value_words}
use Rattle.image_format.specs.Words.{class_of}
use Rattle.index_model.specs.Columns.{Column, documents_with}
use Rattle.index_model.specs.Index.{list_of}
use Rattle.attr_types.specs.Value.{type_of}
use Rattle.attr_types.specs.declared.kind.Kind.{Kind}
use Rattle.attr_types.specs.declared.kind.Kind.TheVariants.{Single}
use Rattle.attr_types.specs.declared.kind.ValueType.{ValueType}
use Rattle.attr_types.specs.declared.kind.ValueType.TheVariants as types
use Rattle.attr_types.specs.declared.value.Value.{Value}
use Rattle.attr_types.specs.declared.value.Value.TheVariants as values
use Rattle.enum_dictionary.specs.Dictionaries.{beside_value}
use Rattle.value_index.specs.Counts.{by_width, IsLow}
use Rattle.value_index.specs.Indexes.{IsIndex}
use Rattle.value_index.proofs.LevelLemmas.{dictionary_low, list_low}
use Rattle.value_index.proofs.WalksCountLemmas.{levels_few, no_node, form_few}
use Rattle.compaction_moves.specs.Counts.{key_nodes, most_nodes, one_record, IsLowColumn, MakesKey}
use Rattle.compaction_moves.specs.IndexMoves.{key_most, move_most}
use Rattle.bit_vector.specs.Changes.{vector_most}
use Rattle.bit_vector.specs.Moves.{moved_nodes}
use Rattle.posting_store.specs.Lists.{is_vector, IsPlain}
use Rattle.posting_store.specs.Moves.{word_most}
use Rattle.posting_store.proofs.FormLemmas.{no_vector}
use Rattle.value_index.specs.Flows.{list_word}
use Rattle.value_index.specs.Forms.{IsPlainIndex}
use Rattle.value_index.proofs.CountLemmas.{within_more, within_nodes}
use Rattle.value_index.specs.Changes.{nodes_most, value_levels}

-- ---- a bound by width, from what is made of nodes and of other widths
node_or_record : (w x n r : ℕ) → (nat_eq w 34 ≡ true → x ≤ n) → (nat_eq w 34 ≡ false → x ≤ r) → x ≤ cond (nat_eq w 34) n r
node_or_record w x n r node other = told (nat_eq w 34) refl
  where
    told : (t : Bool) → nat_eq w 34 ≡ t → x ≤ cond t n r
    told true is = node is
    told false is = other is

none_there : (w k : ℕ) → nat_eq w 34 ≡ true → (k ≡ 34 → ⊥) → cond {A = ℕ} (nat_eq w k) 1 0 ≡ 0
none_there w k node none = subst (λ x. cond {A = ℕ} (nat_eq x k) 1 0 ≡ 0) (sym (eqb-true w 34 node)) (no_node k none)

in_node : (t : Bool) (n : ℕ) → cond t n 0 ≤ n
in_node true n = omega arith
in_node false n = omega arith

past_node : (t : Bool) (n : ℕ) → t ≡ false → cond t n 0 ≡ 0
past_node t n is = ap (λ b. cond b n 0) is

-- a record of this width, and nodes of the dictionary
record_nodes : (k l n w : ℕ) → (k ≡ 34 → ⊥) → l ≤ n → cond (nat_eq w k) 1 0 + nodes_most l w ≤ by_width (key_nodes n) (one_record k) w
record_nodes k l n w none low =
    node_or_record w (cond (nat_eq w k) 1 0 + nodes_most l w) (key_nodes n) (one_record k w)
    (λ node. let no_record = none_there w k node none in let few = in_node (nat_eq w 34) (2 * l + 1) in omega (arith, no_record, few, low))
    (λ other. let none = past_node (nat_eq w 34) (2 * l + 1) other in omega (arith, none))

-- a list's record where it is short, else a node of each level; and nodes of the dictionary
list_nodes : (t : Bool) (k h l n w : ℕ) → (k ≡ 34 → ⊥) → h ≤ n → l ≤ n
    → cond t (cond (nat_eq w k) 1 0) (cond (nat_eq w 34) h 0) + nodes_most l w ≤ by_width (key_nodes n) (one_record (cond t k 2)) w
list_nodes true k h l n w none high low = record_nodes k l n w none low
list_nodes false k h l n w none high low =
    node_or_record w (cond (nat_eq w 34) h 0 + nodes_most l w) (key_nodes n) (one_record 2 w)
    (λ node. let few = in_node (nat_eq w 34) (2 * l + 1) in let own = in_node (nat_eq w 34) h in omega (arith, few, own, high, low))
    (λ other. let none = past_node (nat_eq w 34) (2 * l + 1) other in let own = past_node (nat_eq w 34) h other in omega (arith, none, own))

only_nodes : (l n w : ℕ) → l ≤ n → nodes_most l w ≤ by_width (key_nodes n) (one_record 2) w
only_nodes l n w low =
    node_or_record w (nodes_most l w) (key_nodes n) (one_record 2 w)
    (λ node. let few = in_node (nat_eq w 34) (2 * l + 1) in omega (arith, few, low))
    (λ other. let none = past_node (nat_eq w 34) (2 * l + 1) other in omega (arith, none))

-- a document's items: an array or a weighted set has a record
items_one : (kind : Kind) (count w : ℕ) → items_record kind count w ≤ one_record (cond (has_list kind) (class_of (1 + count)) 2) w
items_one kind zero w = omega arith
items_one kind (suc count) w = told (has_list kind)
  where
    told : (t : Bool) → cond t (cond (nat_eq w (class_of (1 + suc count))) 1 0) 0 ≤ one_record (cond t (class_of (1 + suc count)) 2) w
    told true = omega arith
    told false = omega arith

items_nodes : (kind : Kind) (count l n w : ℕ) → l ≤ n → documents_most kind count (2 * l + 1) w ≤ by_width (key_nodes n) (one_record (cond (has_list kind) (class_of (1 + count)) 2)) w
items_nodes kind count l n w low = told (nat_eq w 34)
  where
    told : (t : Bool) → cond t (2 * l + 1) (items_record kind count w) ≤ cond t (3 * n + 1) (one_record (cond (has_list kind) (class_of (1 + count)) 2) w)
    told true = omega arith
    told false = items_one kind count w

-- a block of a bit vector, with the nodes on the way to it; and nodes of the dictionary
block_or_none : (t : Bool) (x y : ℕ) → x ≡ 0 → y ≡ 0 → cond t 1 x + y ≤ cond t 1 0
block_or_none true x y first second = omega (arith, second)
block_or_none false x y first second = omega (arith, first, second)

vector_nodes : (l w : ℕ) → l ≤ 8 → vector_most 1 moved_nodes w + nodes_most l w ≤ by_width most_nodes (one_record 64) w
vector_nodes l w few =
    node_or_record w (vector_most 1 moved_nodes w + nodes_most l w) most_nodes (one_record 64 w)
    (λ node. subst (λ x. vector_most 1 moved_nodes x + nodes_most l x ≤ 27) (sym (eqb-true w 34 node)) (omega (arith, few)))
    (λ other. block_or_none (nat_eq w 64) (cond (nat_eq w 34) 10 0) (nodes_most l w) (past_node (nat_eq w 34) 10 other) (past_node (nat_eq w 34) (2 * l + 1) other))

few_most : (t : Bool) (r : ℕ) → cond t 25 r ≤ cond t 27 r
few_most true r = omega arith
few_most false r = omega arith

-- if no list is a bit vector, then that of no value is
plain_word : (c : ℕ → Ordering) (ps : List (ℕ × ℕ)) → AllByRecursion (λ p. IsPlain p.1) ps → IsPlain (unwrap_or (lookup c ps) 0)
plain_word c [] all = omega arith
plain_word c (p ∷ ps) all =
    elim (c p.0) as (λ o. IsPlain (unwrap_or (choose o (lookup c ps) (Some p.1) None) 0)) [
      | Less ↦ plain_word c ps all.1
      | Equal ↦ all.0
      | Greater ↦ omega arith
    ]

-- ---- the widths of a single attribute of longs
long_width : (value : Value) → type_of value ≡ types.Long → class_of (length (value_words value)) ≤ 16
long_width (values.Long number) is = omega arith
long_width (values.Text bytes) is = absurd (grind (arith, is))

short_width : (t : Bool) (count : ℕ) → nat_le count 8 ≡ t → cond t (class_of (1 + count)) 2 ≤ 16
short_width true count is = let few = leb-true count 8 is in class_least (1 + count) 16 (inr (inr (inr (inl refl)))) (omega arith)
short_width false count is = omega arith

single_width : (kind : Kind) (count : ℕ) → kind ≡ Single → cond (has_list kind) (class_of (1 + count)) 2 ≤ 16
single_width kind count is =
    let same : cond (has_list kind) (class_of (1 + count)) 2 ≡ 2 = ap (λ k. cond (has_list k) (class_of (1 + count)) 2) is in
    omega (arith, same)

-- ---- what is made of one key
module _ {H : Type 0} (a b : Ledger H) (m : Records) (kind : Kind) (type : ValueType) (documents dictionary : ℕ) (field : IsField kind type m documents dictionary) where
  abbrev here : Column
  here = column_at kind type m documents

  low_index : (most : ℕ) → IsLowColumn most here → IsLow most (index_of type m dictionary)
  low_index most low = record {
    some = low.some;
    values = low.values (index_of type m dictionary) field.index_of_documents;
    lists = λ value.
        let same : length (list_of value (index_of type m dictionary)) ≡ length (documents_with value here) = ap length (field.index_of_documents.lists value) in
        let few = documents_few value here in
        let all = low.documents in
        omega (arith, same, few, all);
  }

  low_dictionary : (most : ℕ) → IsLowColumn most here → levels m dictionary ≤ most
  low_dictionary most low = dictionary_low type m dictionary most field.index_is (low_index most low)

  low_documents : (most : ℕ) → IsLowColumn most here → levels m documents ≤ most
  low_documents most low = documents_low kind type m documents most field.documents_are low.some low.documents

  -- by the levels of trees, for any bound of them
  pub any_key : (width : ℕ) → (kind ≡ Single → type ≡ types.Long → width ≤ 16) → (high : ℕ → Type 0) → high 8 → ((most : ℕ) → IsLowColumn most here → high most)
      → ((most : ℕ) → high most → MakesWithin a b (by_width (key_nodes most) (one_record width))) → MakesKey (IsPlainIndex m dictionary) kind type here a b
  any_key width narrow high few low makes = record {
    width = width;
    narrow = λ plain. narrow;
    counts = within_more a b (by_width (key_nodes 8) (one_record width)) (by_width most_nodes (one_record width)) (λ w. few_most (nat_eq w 34) (one_record width w)) (makes 8 few);
    trees = λ plain. makes 8 few;
    low = λ plain most is. makes most (low most is);
  }

  pub makes_key : (value : Value) → type_of value ≡ type → MakesWithin a b (key_most value m dictionary) → MakesKey (IsPlainIndex m dictionary) kind type here a b
  makes_key value typed made =
      let width = class_of (length (value_words value)) in
      any_key width (λ single long. long_width value (typed ∙ long)) (λ most. levels m dictionary ≤ most) (levels_few m dictionary) low_dictionary
      (λ most low. within_more a b (key_most value m dictionary) (by_width (key_nodes most) (one_record width))
      (λ w. record_nodes width (levels m dictionary) most w (class_no_node (length (value_words value))) low) made)

  record IsHigh (value : Value) (most : ℕ) : Type 0 where
    pub list : value_levels value m dictionary ≤ most
    pub own : levels m dictionary ≤ most

  -- a list that is no bit vector
  makes_plain : (value : Value) (count : ℕ) → type_of value ≡ type
      → MakesWithin a b (λ w. word_most false (value_levels value m dictionary) count w + nodes_most (levels m dictionary) w)
      → MakesKey (IsPlainIndex m dictionary) kind type here a b
  makes_plain value count typed made =
      let width = cond (nat_le count 8) (class_of (1 + count)) 2 in
      let is : IsIndex (type_of value) m dictionary = subst (λ t. IsIndex t m dictionary) (sym typed) field.index_is in
      any_key width (λ single long. short_width (nat_le count 8) count refl) (IsHigh value)
      (record { list = form_few m (list_form (unwrap_or (lookup (beside_value value m) (tree_pairs m dictionary)) 0)); own = levels_few m dictionary })
      (λ most low. record { list = list_low value m dictionary most is (subst (λ t. IsLow most (index_of t m dictionary)) (sym typed) (low_index most low)); own = low_dictionary most low })
      (λ most high. within_more a b (λ w. word_most false (value_levels value m dictionary) count w + nodes_most (levels m dictionary) w) (by_width (key_nodes most) (one_record width))
      (λ w. list_nodes (nat_le count 8) (class_of (1 + count)) (value_levels value m dictionary) (levels m dictionary) most w (class_no_node (1 + count)) high.list high.own) made)

  -- a bit vector
  makes_vector : (value : Value) → is_vector (list_word value m dictionary) ≡ true
      → MakesWithin a b (λ w. vector_most 1 moved_nodes w + nodes_most (levels m dictionary) w) → MakesKey (IsPlainIndex m dictionary) kind type here a b
  makes_vector value dense made = record {
    width = 64;
    narrow = λ plain. absurd (not_plain plain);
    counts = within_more a b (λ w. vector_most 1 moved_nodes w + nodes_most (levels m dictionary) w) (by_width most_nodes (one_record 64))
        (λ w. vector_nodes (levels m dictionary) w (levels_few m dictionary)) made;
    trees = λ plain. absurd (not_plain plain);
    low = λ plain. absurd (not_plain plain);
  }
    where
      not_plain : IsPlainIndex m dictionary → ⊥
      not_plain plain = true≢false (sym dense ∙ no_vector (list_word value m dictionary) (plain_word (beside_value value m) (tree_pairs m dictionary) plain))

  pub makes_list : (value : Value) (count : ℕ) → type_of value ≡ type → MakesWithin a b (move_most value m dictionary count) → MakesKey (IsPlainIndex m dictionary) kind type here a b
  makes_list value count typed made = told (is_vector (list_word value m dictionary)) refl made
    where
      told : (t : Bool) → is_vector (list_word value m dictionary) ≡ t
          → MakesWithin a b (λ w. word_most t (value_levels value m dictionary) count w + nodes_most (levels m dictionary) w) → MakesKey (IsPlainIndex m dictionary) kind type here a b
      told true is within = makes_vector value is within
      told false is within = makes_plain value count typed within

  pub makes_nodes : CountsNodes a b (levels m dictionary) → MakesKey (IsPlainIndex m dictionary) kind type here a b
  makes_nodes counts =
      any_key 2 (λ single long. omega arith) (λ most. levels m dictionary ≤ most) (levels_few m dictionary) low_dictionary
      (λ most low. within_more a b (nodes_most (levels m dictionary)) (by_width (key_nodes most) (one_record 2)) (λ w. only_nodes (levels m dictionary) most w low)
      (within_nodes a b (levels m dictionary) (levels m dictionary) (omega arith) counts))

  pub makes_map : CountsNodes a b (levels m documents) → MakesKey (IsPlainIndex m dictionary) kind type here a b
  makes_map counts =
      any_key 2 (λ single long. omega arith) (λ most. levels m documents ≤ most) (levels_few m documents) low_documents
      (λ most low. within_more a b (nodes_most (levels m documents)) (by_width (key_nodes most) (one_record 2)) (λ w. only_nodes (levels m documents) most w low)
      (within_nodes a b (levels m documents) (levels m documents) (omega arith) counts))

  pub makes_items : (count : ℕ) → MakesWithin a b (documents_most kind count (2 * levels m documents + 1)) → MakesKey (IsPlainIndex m dictionary) kind type here a b
  makes_items count made =
      let width = cond (has_list kind) (class_of (1 + count)) 2 in
      any_key width (λ single long. single_width kind count single) (λ most. levels m documents ≤ most) (levels_few m documents) low_documents
      (λ most low. within_more a b (documents_most kind count (2 * levels m documents + 1)) (by_width (key_nodes most) (one_record width))
      (λ w. items_nodes kind count (levels m documents) most w low) made)
