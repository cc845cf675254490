-- How many records a walk makes: each call makes what one value makes, and a value is counted once.
use Rattle.std.proofs.Common.{◌≡◌, ℕ, ℤ, zero, suc, ◌+◌, ◌*◌, ◌≤◌, Bool, true, false, cond, nat_eq, nat_cmp, List, [], ◌∷◌, length, Option, Some, None, option_map, refl, sym, ap, subst, ◌∙◌, arith}
use Rattle.std.proofs.Math.Nat.{mul-le-mul_left, mul-suc}
use Rattle.std.proofs.lemmas.Bool.{eqb-true, true≢false}
use Rattle.std.proofs.lemmas.List.Sums.{sum_by-cons}
use Rattle.std.specs.Prelude.{nat_le}
use Rattle.std.specs.BTreeMap.{insert_entry, is_at}
use Rattle.std.specs.List.{count_by}
use Rattle.std.specs.Map.{remove_entry}
use Rattle.std.specs.Option.{is_some}
use Rattle.entry_ref.specs.Records.{Records}
use Rattle.store_api.specs.Ledgers.{Ledger}
use Rattle.store_api.specs.Units.{MayDo, MakesWithin}
use Rattle.array_store.proofs.ClassLemmas.{class_no_node}
use Rattle.tree_read.specs.Pairs.{lookup_pair}
use Rattle.tree_read.specs.Trees.{tree_pairs}
use Rattle.frozen_btree.specs.Changes.{levels}
use Rattle.image_format.specs.Postings.{ListForm, short, tree, vector, index_of, list_form}
use Rattle.image_format.specs.Values.{value_words}
use Rattle.image_format.specs.Words.{class_of}
use Rattle.index_model.specs.Index.{list_of}
use Rattle.attr_types.specs.Value.{type_of}
use Rattle.attr_types.specs.declared.value.Value.{Value}
use Rattle.enum_dictionary.specs.Dictionaries.{beside_value}
use Rattle.image_format.specs.Postings.{is_dense}
use Rattle.posting_store.specs.Changes.{list_most}
use Rattle.posting_store.specs.Lists.{is_vector, form_levels}
use Rattle.value_index.specs.Changes.{add_most, change_most, new_most, nodes_most, value_levels}
use Rattle.value_index.specs.Flows.{list_word}
use Rattle.value_index.specs.Forms.{IsPlainIndex}
use Rattle.value_index.specs.Indexes.{key_at, IsIndex}
use Rattle.value_index.proofs.FormCounts.{change_forms}
use Rattle.value_index.proofs.FormLemmas.{insert_few, insert_more, remove_few, remove_more, was_vector}
use Rattle.value_index.proofs.CountLemmas.{within_more, within_none, within_then}
use Rattle.value_index.proofs.KeyLemmas.{list_none}
use Rattle.value_index.specs.Counts.{value_nodes, besides, by_width, form_records, new_record, put_records, short_record, taken_records, walk_records, record_sum}

-- ---- so many nodes, and so many records of each other width
by_more : (nodes more : ℕ) (records most : ℕ → ℕ) → nodes ≤ more → ((w : ℕ) → records w ≤ most w) → (w : ℕ) → by_width nodes records w ≤ by_width more most w
by_more nodes more records most up rises w = told (nat_eq w 34)
  where
    told : (t : Bool) → cond t nodes (records w) ≤ cond t more (most w)
    told true = up
    told false = rises w

by_then : (nodes more : ℕ) (records most : ℕ → ℕ) (w : ℕ) → by_width nodes records w + by_width more most w ≤ by_width (nodes + more) (λ v. records v + most v) w
by_then nodes more records most w = told (nat_eq w 34)
  where
    told : (t : Bool) → cond t nodes (records w) + cond t more (most w) ≤ cond t (nodes + more) (records w + most w)
    told true = omega arith
    told false = omega arith

pub width_more : {H : Type 0} (a b : Ledger H) (nodes more : ℕ) (records most : ℕ → ℕ) → nodes ≤ more → ((w : ℕ) → records w ≤ most w) → MakesWithin a b (by_width nodes records)
    → MakesWithin a b (by_width more most)
width_more a b nodes more records most up rises made =
    within_more a b (by_width nodes records) (by_width more most) (by_more nodes more records most up rises) made

pub width_then : {H : Type 0} (a b c : Ledger H) (nodes more : ℕ) (records most : ℕ → ℕ) → MayDo a b → MakesWithin a b (by_width nodes records) → MakesWithin b c (by_width more most)
    → MakesWithin a c (by_width (nodes + more) (λ w. records w + most w))
width_then a b c nodes more records most may first second =
    within_more a c (λ w. by_width nodes records w + by_width more most w) (by_width (nodes + more) (λ w. records w + most w)) (by_then nodes more records most)
    (within_then a b c (by_width nodes records) (by_width more most) may first second)

pub width_none : {H : Type 0} (a : Ledger H) (nodes : ℕ) (records : ℕ → ℕ) → MakesWithin a a (by_width nodes records)
width_none a nodes records = within_none a (by_width nodes records)

-- and these besides
pub besides_more : {H : Type 0} (a b : Ledger H) (nodes more : ℕ) (records most forms form : ℕ → ℕ) → nodes ≤ more → ((w : ℕ) → records w ≤ most w) → ((w : ℕ) → forms w ≤ form w)
    → MakesWithin a b (besides (by_width nodes records) forms) → MakesWithin a b (besides (by_width more most) form)
besides_more a b nodes more records most forms form up rises grows made =
    within_more a b (besides (by_width nodes records) forms) (besides (by_width more most) form)
    (λ w. let one = by_more nodes more records most up rises w in let two = grows w in omega (arith, one, two)) made

pub besides_then : {H : Type 0} (a b c : Ledger H) (nodes more : ℕ) (records most forms form : ℕ → ℕ) → MayDo a b → MakesWithin a b (besides (by_width nodes records) forms)
    → MakesWithin b c (besides (by_width more most) form) → MakesWithin a c (besides (by_width (nodes + more) (λ w. records w + most w)) (λ w. forms w + form w))
besides_then a b c nodes more records most forms form may first second =
    within_more a c (λ w. besides (by_width nodes records) forms w + besides (by_width more most) form w)
    (besides (by_width (nodes + more) (λ w. records w + most w)) (λ w. forms w + form w)) (λ w. let one = by_then nodes more records most w in omega (arith, one))
    (within_then a b c (besides (by_width nodes records) forms) (besides (by_width more most) form) may first second)

pub besides_none : {H : Type 0} (a b : Ledger H) (most forms : ℕ → ℕ) → MakesWithin a b most → MakesWithin a b (besides most forms)
besides_none a b most forms made = within_more a b most (besides most forms) (λ w. omega arith) made

-- ---- of the widths at most one is this one
abbrev one_if : Bool → ℕ
one_if t = cond t 1 0

here : (w k : ℕ) (P : ℕ → Type 0) → P w → (nat_eq w k ≡ false → P k) → P k
here w k P at past = told (nat_eq w k) refl
  where
    told : (t : Bool) → nat_eq w k ≡ t → P k
    told true is = subst P (eqb-true w k is) at
    told false is = past is

OneOf : ℕ → Type 0
OneOf k = record_sum (λ w. one_if (nat_eq w k)) ≤ 1

pub one_of : (k : ℕ) → record_sum (λ w. one_if (nat_eq w k)) ≤ 1
unfolding OneOf
one_of k =
    here 2 k OneOf (omega arith) (λ a. here 4 k OneOf (omega arith) (λ b. here 8 k OneOf (omega arith) (λ c. here 16 k OneOf (omega arith) (λ d. here 32 k OneOf (omega arith) (λ e.
    here 64 k OneOf (omega arith) (λ f. here 128 k OneOf (omega arith) (λ g. here 256 k OneOf (omega arith) (λ h. here 512 k OneOf (omega arith) (λ i. here 1024 k OneOf (omega arith) (λ j.
    let aa = ap one_if a in
    let bb = ap one_if b in
    let cc = ap one_if c in
    let dd = ap one_if d in
    let ee = ap one_if e in
    let ff = ap one_if f in
    let gg = ap one_if g in
    let hh = ap one_if h in
    let ii = ap one_if i in
    let jj = ap one_if j in
    omega arith))))))))))

-- and where it is none of nodes it is not theirs
pub no_node : (k : ℕ) → (k ≡ 34 → ⊥) → one_if (nat_eq 34 k) ≡ 0
no_node k none = told (nat_eq 34 k) refl
  where
    told : (t : Bool) → nat_eq 34 k ≡ t → one_if t ≡ 0
    told true is = absurd (none (sym (eqb-true 34 k is)))
    told false is = refl

-- ---- no tree has more than eight levels
pub levels_few : (m : Records) (root : ℕ) → levels m root ≤ 8
levels_few m zero = omega arith
levels_few m (suc ref) = omega arith

pub form_few : (m : Records) (form : ListForm) → form_levels m form ≤ 8
form_few m (short ref) = omega arith
form_few m (tree root) = levels_few m root
form_few m (vector root) = levels_few m root

-- ---- what one value makes: its list, by whether it is short and of which width it is then, and its pair in the dictionary
-- where all trees have at most so many levels
value_low : (t u : Bool) (most h l : ℕ) → h ≤ most → l ≤ most → cond t (cond u 1 0) (2 * h + 1) + (2 * l + 1) ≤ value_nodes most
value_low true true most h l few low = omega arith
value_low true false most h l few low = omega arith
value_low false u most h l few low = omega arith

-- and its own record, where it is new
own_low : (there : Bool) (r n most : ℕ) → r ≡ 0 → n ≤ most → cond there 0 r + n ≤ most
own_low true r n most none few = omega arith
own_low false r n most none few = omega arith

-- what it makes, if its list neither is nor was a bit vector
abbrev plain_change : Value → Records → ℕ → ℕ → ℕ → ℕ
plain_change value m root count w = list_most (value_levels value m root) count w + nodes_most (levels m root) w

abbrev plain_add : Value → Records → ℕ → ℕ → ℕ → ℕ
plain_add value m root count w = cond (is_some (key_at value m root)) 0 (new_most value w) + plain_change value m root count w

module _ (value : Value) (m : Records) (root count most : ℕ) (dictionary : levels m root ≤ most) (list : value_levels value m root ≤ most) where
  change_low : plain_change value m root count 34 ≤ value_nodes most
  change_low = value_low (nat_le count 8) (nat_eq 34 (class_of (1 + count))) most (value_levels value m root) (levels m root) list dictionary

  add_low : plain_add value m root count 34 ≤ value_nodes most
  add_low = own_low (is_some (key_at value m root)) (one_if (nat_eq 34 (class_of (length (value_words value))))) (plain_change value m root count 34) (value_nodes most)
      (no_node (class_of (length (value_words value))) (class_no_node (length (value_words value)))) change_low

-- of another width: the list's record where it is short, and its own where no document had it
past_nodes : (s u : Bool) (x n k : ℕ) → u ≡ false → cond s x (cond u n 0) + cond u k 0 ≤ cond s x 0
past_nodes s true x n k is = absurd (true≢false is)
past_nodes true false x n k is = omega arith
past_nodes false false x n k is = omega arith

abbrev Docs : Type 0
Docs = List (ℕ × ℤ)

module _ (value : Value) (m : Records) (root w : ℕ) (is : IsIndex (type_of value) m root) where
  new_few : (o : Option (ℕ × ℕ)) → lookup_pair (beside_value value m) (tree_pairs m root) ≡ o → (docs : Docs) → list_of value (index_of (type_of value) m root) ≡ docs
      → cond (is_some (option_map (λ (p : ℕ × ℕ). p.0) o)) 0 (new_most value w) ≤ new_record docs value w
  new_few None none [] reads = omega arith
  new_few None none (d ∷ docs) reads = absurd (
      let same : suc (length docs) ≡ 0 = ap (λ (ds : Docs). length ds) (sym reads ∙ list_none value m root is none) in
      omega arith)
  new_few (Some p) found docs reads = omega arith

by_parts : (t : Bool) (x y n r : ℕ) → (t ≡ true → x ≤ n) → (t ≡ false → x ≤ r) → x ≤ cond t n r
by_parts true x y n r node other = node refl
by_parts false x y n r node other = other refl

module _ (value : Value) (weight : ℤ) (m : Records) (root doc most : ℕ) (is : IsIndex (type_of value) m root) (dictionary : levels m root ≤ most) (list : value_levels value m root ≤ most) where
  abbrev had : Docs
  had = list_of value (index_of (type_of value) m root)

  abbrev put_count : ℕ
  put_count = length (insert_entry nat_cmp had doc weight)

  abbrev taken_count : ℕ
  taken_count = length (remove_entry (is_at (nat_cmp doc)) had)

  add_by : (lists : Value → Docs) → lists value ≡ had → (w : ℕ) → plain_add value m root put_count w ≤ by_width (value_nodes most) (put_records lists doc (value, weight)) w
  add_by lists reads w =
      by_parts (nat_eq w 34) (plain_add value m root put_count w) 0 (value_nodes most) (put_records lists doc (value, weight) w)
      (λ node. subst (λ x. plain_add value m root put_count x ≤ value_nodes most) (sym (eqb-true w 34 node)) (add_low value m root put_count most dictionary list))
      (λ other.
      let new = new_few value m root w is (lookup_pair (beside_value value m) (tree_pairs m root)) refl had refl in
      let past = past_nodes (nat_le put_count 8) (nat_eq w 34) (one_if (nat_eq w (class_of (1 + put_count)))) (2 * value_levels value m root + 1) (2 * levels m root + 1) other in
      subst (λ (ds : Docs). plain_add value m root put_count w ≤ new_record ds value w + short_record (length (insert_entry nat_cmp ds doc weight)) w) (sym reads) (omega (arith, new, past)))

  change_by : (lists : Value → Docs) → lists value ≡ had → (w : ℕ) → plain_change value m root taken_count w ≤ by_width (value_nodes most) (taken_records lists doc (value, weight)) w
  change_by lists reads w =
      by_parts (nat_eq w 34) (plain_change value m root taken_count w) 0 (value_nodes most) (taken_records lists doc (value, weight) w)
      (λ node. subst (λ x. plain_change value m root taken_count x ≤ value_nodes most) (sym (eqb-true w 34 node)) (change_low value m root taken_count most dictionary list))
      (λ other.
      let past = past_nodes (nat_le taken_count 8) (nat_eq w 34) (one_if (nat_eq w (class_of (1 + taken_count)))) (2 * value_levels value m root + 1) (2 * levels m root + 1) other in
      subst (λ (ds : Docs). plain_change value m root taken_count w ≤ short_record (length (remove_entry (is_at (nat_cmp doc)) ds)) w) (sym reads) (omega (arith, past)))

  module _ {H : Type 0} (a b : Ledger H) (dense : Bool) (documents : ℕ) (plain : dense ≡ false → IsPlainIndex m root) (lists : Value → Docs) (reads : lists value ≡ had) where
    abbrev put_docs : Docs → Docs
    put_docs docs = insert_entry nat_cmp docs doc weight

    abbrev taken_docs : Docs → Docs
    taken_docs docs = remove_entry (is_at (nat_cmp doc)) docs

    put_forms : (w : ℕ) → add_most value m root dense documents (put_docs had) w
        ≤ besides (by_width (value_nodes most) (put_records lists doc (value, weight))) (form_records dense (lists value) (put_docs (lists value))) w
    put_forms w =
        let few = add_by lists reads w in
        let form = change_forms documents (value_levels value m root) had (put_docs had) w dense (insert_few had doc weight) (insert_more had doc weight) (is_vector (list_word value m root))
        (is_dense dense (length (put_docs had)) documents) refl (was_vector value m root dense is plain) in
        subst (λ (ds : Docs). add_most value m root dense documents (put_docs had) w ≤ by_width (value_nodes most) (put_records lists doc (value, weight)) w + form_records dense ds (put_docs ds) w)
        (sym reads) (omega (arith, few, form))

    taken_forms : (w : ℕ) → change_most value m root dense documents (taken_docs had) w
        ≤ besides (by_width (value_nodes most) (taken_records lists doc (value, weight))) (form_records dense (lists value) (taken_docs (lists value))) w
    taken_forms w =
        let few = change_by lists reads w in
        let form = change_forms documents (value_levels value m root) had (taken_docs had) w dense (remove_few (is_at (nat_cmp doc)) had) (remove_more (is_at (nat_cmp doc)) had) (is_vector (list_word value m root))
        (is_dense dense (length (taken_docs had)) documents) refl (was_vector value m root dense is plain) in
        subst (λ (ds : Docs). change_most value m root dense documents (taken_docs had) w ≤ by_width (value_nodes most) (taken_records lists doc (value, weight)) w + form_records dense ds (taken_docs ds) w)
        (sym reads) (omega (arith, few, form))

    pub low_added : MakesWithin a b (add_most value m root dense documents (put_docs had))
        → MakesWithin a b (besides (by_width (value_nodes most) (put_records lists doc (value, weight))) (form_records dense (lists value) (put_docs (lists value))))
    low_added made = within_more a b (add_most value m root dense documents (put_docs had))
        (besides (by_width (value_nodes most) (put_records lists doc (value, weight))) (form_records dense (lists value) (put_docs (lists value)))) put_forms made

    pub low_gone : MakesWithin a b (change_most value m root dense documents (taken_docs had))
        → MakesWithin a b (besides (by_width (value_nodes most) (taken_records lists doc (value, weight))) (form_records dense (lists value) (taken_docs (lists value))))
    low_gone made = within_more a b (change_most value m root dense documents (taken_docs had))
        (besides (by_width (value_nodes most) (taken_records lists doc (value, weight))) (form_records dense (lists value) (taken_docs (lists value)))) taken_forms made

-- no tree has more than eight levels
module _ (value : Value) (weight : ℤ) (m : Records) (root doc : ℕ) (is : IsIndex (type_of value) m root) {H : Type 0} (a b : Ledger H) (dense : Bool) (documents : ℕ)
    (plain : dense ≡ false → IsPlainIndex m root) (lists : Value → Docs) (reads : lists value ≡ list_of value (index_of (type_of value) m root)) where
  few_levels : value_levels value m root ≤ 8
  few_levels = form_few m (list_form (list_word value m root))

  pub few_added : MakesWithin a b (add_most value m root dense documents (insert_entry nat_cmp (list_of value (index_of (type_of value) m root)) doc weight))
      → MakesWithin a b (besides (by_width 34 (put_records lists doc (value, weight))) (form_records dense (lists value) (insert_entry nat_cmp (lists value) doc weight)))
  few_added made = low_added value weight m root doc 8 is (levels_few m root) few_levels a b dense documents plain lists reads made

  pub few_gone : MakesWithin a b (change_most value m root dense documents (remove_entry (is_at (nat_cmp doc)) (list_of value (index_of (type_of value) m root))))
      → MakesWithin a b (besides (by_width 34 (taken_records lists doc (value, weight))) (form_records dense (lists value) (remove_entry (is_at (nat_cmp doc)) (lists value))))
  few_gone made = low_gone value weight m root doc 8 is (levels_few m root) few_levels a b dense documents plain lists reads made

-- ---- the values of a walk
counted_in : (t : Bool) (x : ℕ) → t ≡ true → cond t x 0 ≡ x
counted_in t x is = ap (λ b. cond b x 0) is

counted_out : (t : Bool) (x : ℕ) → t ≡ false → cond t x 0 ≡ 0
counted_out t x is = ap (λ b. cond b x 0) is

-- so many values were changed so far, each with so many nodes, and these records were made, and these besides: with those of the rest
-- that are to be, they are all
pub record CountsSoFar {H : Type 0} (nodes : ℕ) (each form : Value × ℤ → ℕ → ℕ) (begun now : Ledger H) (test : Value × ℤ → Bool) (entries rest : List (Value × ℤ)) : Type 0 where
  pub made : ℕ
  pub sum : made + count_by test rest ≡ count_by test entries
  pub most : ℕ → ℕ
  pub sums : (w : ℕ) → most w + walk_records test each rest w ≡ walk_records test each entries w
  pub forms : ℕ → ℕ
  pub forms_sum : (w : ℕ) → forms w + walk_records test form rest w ≡ walk_records test form entries w
  pub counts : MakesWithin begun now (besides (by_width (nodes * made) most) forms)

one_more : (nodes made : ℕ) → nodes * made + nodes ≤ nodes * (made + 1)
one_more nodes made =
    let same : made + 1 ≡ suc made = omega arith in
    let is : nodes * (made + 1) ≡ nodes * made + nodes = ap (λ k. nodes * k) same ∙ mul-suc nodes made in
    omega (arith, is)

module _ {H : Type 0} (nodes : ℕ) (each form : Value × ℤ → ℕ → ℕ) (begun : Ledger H) (test : Value × ℤ → Bool) (entries : List (Value × ℤ)) where
  pub counts_begin : (rest : List (Value × ℤ)) → rest ≡ entries → CountsSoFar nodes each form begun begun test entries rest
  counts_begin rest is = record {
    made = 0;
    sum = let same : count_by test rest ≡ count_by test entries = ap (count_by test) is in omega arith;
    most = λ w. 0;
    sums = λ w. let same : walk_records test each rest w ≡ walk_records test each entries w = ap (λ es. walk_records test each es w) is in omega (arith, same);
    forms = λ w. 0;
    forms_sum = λ w. let same : walk_records test form rest w ≡ walk_records test form entries w = ap (λ es. walk_records test form es w) is in omega (arith, same);
    counts = within_none begun (besides (by_width (nodes * 0) (λ w. 0)) (λ w. 0));
  }

  module _ (now : Ledger H) (rest more : List (Value × ℤ)) (value : Value) (weight : ℤ) (p : CountsSoFar nodes each form begun now test entries rest) (is : rest ≡ (value, weight) ∷ more) where
    counted : count_by test rest ≡ cond (test (value, weight)) 1 0 + count_by test more
    counted = ap (count_by test) is ∙ sum_by-cons (λ e. one_if (test e)) (value, weight) more

    recorded : (f : Value × ℤ → ℕ → ℕ) (w : ℕ) → walk_records test f rest w ≡ cond (test (value, weight)) (f (value, weight) w) 0 + walk_records test f more w
    recorded f w = ap (λ es. walk_records test f es w) is ∙ sum_by-cons (λ e. cond (test e) (f e w) 0) (value, weight) more

    pub counts_put : test (value, weight) ≡ true → (new : Ledger H) → MayDo begun now → MakesWithin now new (besides (by_width nodes (each (value, weight))) (form (value, weight)))
        → CountsSoFar nodes each form begun new test entries more
    counts_put changed new may made = record {
      made = p.made + 1;
      sum = let one = counted_in (test (value, weight)) 1 changed in let all = p.sum in let c = counted in omega (arith, one, all, c);
      most = λ w. p.most w + each (value, weight) w;
      sums = λ w. let one = counted_in (test (value, weight)) (each (value, weight) w) changed in let all = p.sums w in let c = recorded each w in omega (arith, one, all, c);
      forms = λ w. p.forms w + form (value, weight) w;
      forms_sum = λ w. let one = counted_in (test (value, weight)) (form (value, weight) w) changed in let all = p.forms_sum w in let c = recorded form w in omega (arith, one, all, c);
      counts = besides_more begun new (nodes * p.made + nodes) (nodes * (p.made + 1)) (λ w. p.most w + each (value, weight) w) (λ w. p.most w + each (value, weight) w)
          (λ w. p.forms w + form (value, weight) w) (λ w. p.forms w + form (value, weight) w)
          (one_more nodes p.made) (λ w. omega arith) (λ w. omega arith) (besides_then begun now new (nodes * p.made) nodes p.most (each (value, weight)) p.forms (form (value, weight)) may p.counts made);
    }

    pub counts_pass : test (value, weight) ≡ false → CountsSoFar nodes each form begun now test entries more
    counts_pass past = record {
      made = p.made;
      sum = let one = counted_out (test (value, weight)) 1 past in let all = p.sum in let c = counted in omega (arith, one, all, c);
      forms = p.forms;
      forms_sum = λ w. let one = counted_out (test (value, weight)) (form (value, weight) w) past in let all = p.forms_sum w in let c = recorded form w in omega (arith, one, all, c);
      most = p.most;
      sums = λ w. let one = counted_out (test (value, weight)) (each (value, weight) w) past in let all = p.sums w in let c = recorded each w in omega (arith, one, all, c);
      counts = p.counts;
    }

  pub counts_end : (now : Ledger H) (rest : List (Value × ℤ)) → CountsSoFar nodes each form begun now test entries rest
      → MakesWithin begun now (besides (by_width (nodes * count_by test entries) (walk_records test each entries)) (walk_records test form entries))
  counts_end now rest p =
      let all = p.sum in
      let most : p.made ≤ count_by test entries = omega arith in
      besides_more begun now (nodes * p.made) (nodes * count_by test entries) p.most (walk_records test each entries) p.forms (walk_records test form entries) (mul-le-mul_left nodes most)
      (λ w. let sums = p.sums w in omega (arith, sums)) (λ w. let sums = p.forms_sum w in omega (arith, sums)) p.counts
