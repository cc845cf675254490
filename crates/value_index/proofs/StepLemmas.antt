-- A call's steps together: why it was refused, and the index that it makes.
use Rattle.std.proofs.Common.{◌≡◌, ℕ, zero, suc, ℤ, ◌+◌, ◌<◌, ◌≤◌, Bool, true, false, cond, nat_le, [], ◌∷◌, length, None, Some, Option, option_map, IsSome, Result, Ok, Err, refl, sym, ap, subst, ◌∙◌, arith, inl}
use Rattle.std.proofs.Common.{inr, ◌⊎◌}
use Rattle.std.proofs.lemmas.Bool.{leb-true}
use Rattle.std.specs.Prelude.{IfOk}
use Rattle.std.specs.BTreeMap.{insert_entry, is_at}
use Rattle.std.specs.declared.cmp.Ordering.TheVariants.{Less, Equal, Greater}
use Rattle.std.specs.Map.{lookup as lookup_in}
use Rattle.std.specs.Ordering.{nat_cmp, match_ordering}
use Rattle.list_lemmas.proofs.Options.{same_Some}
use Rattle.entry_ref.specs.Records.{Records}
use Rattle.tree_read.specs.Pairs.{lookup_pair, put, take_out}
use Rattle.store_api.specs.Ledgers.{Ledger}
use Rattle.store_api.specs.Parts.{Owns, Turns, entry}
use Rattle.store_api.proofs.PartLemmas.{owns-some}
use Rattle.store_api.specs.Units.{MayDo}
use Rattle.store_api.specs.declared.store.StoreError.{StoreError}
use Rattle.tree_read.specs.Trees.{tree_pairs}
use Rattle.array_store.proofs.ClassLemmas.{class_least}
use Rattle.array_store.specs.Adding.{AddsRecord}
use Rattle.image_format.specs.Postings.{index_of}
use Rattle.image_format.specs.Values.{stored_value, value_words, IsValueRecord}
use Rattle.image_format.specs.Words.{class_of}
use Rattle.image_format.specs.declared.TheConstants.{LEAST_DENSE}
use Rattle.index_model.specs.Index.{list_of, with_list}
use Rattle.attr_types.specs.Value.{type_of, value_cmp}
use Rattle.attr_types.specs.declared.value.Value.{Value}
use Rattle.enum_dictionary.specs.Dictionaries.{beside_value, entry_of, MakesDictionary}
use Rattle.enum_dictionary.specs.declared.finding.DictEntry.{DictEntry}
use Rattle.posting_store.specs.Changes.{list_part, IsListChangeWidth, IsListWidth, MakesList}
use Rattle.posting_store.specs.Lists.{list_at, is_vector, IsList, IsPlain}
use Rattle.posting_store.proofs.FormLemmas.{at_form}
use Rattle.posting_store.proofs.ListLemmas.{list_filled}
use Rattle.value_index.specs.Changes.{IsChangeWidth, MakesIndex}
use Rattle.value_index.specs.Forms.{IsPlainIndex}
use Rattle.value_index.specs.Indexes.{index_part, IsIndex}
use Rattle.value_index.proofs.ChangeLemmas.{plain_out, plain_set, value_out, value_set}
use Rattle.value_index.proofs.KeyLemmas.{list_found, list_none, pair_found}
use Rattle.value_index.proofs.OpenFlows.{FlowsOpen}
use Rattle.value_index.proofs.OpenLemmas.{IsOpen, open_found, open_list, open_made, others, parts}
use Rattle.value_index.proofs.ShownLemmas.{Docs, with_some}

-- ---- of which width
plain_change : (dense : Bool) (value : Value) (count width : ℕ) → IsListWidth count width → IsChangeWidth dense value count width
plain_change dense value count width is = inr (record { some = is.some; one = inr (inl is.width_is); few = subst (λ w. w ≤ 256) (sym is.width_is) (told (nat_le count 8) refl) })
  where
    told : (t : Bool) → nat_le count 8 ≡ t → cond t (class_of (1 + count)) 34 ≤ 256
    told true short =
        let few = leb-true count 8 short in
        let low = class_least (1 + count) 16 (inr (inr (inr (inl refl)))) (omega (arith, few)) in
        omega (arith, low)
    told false long = omega arith

-- whether it was or is a bit vector: then bit vectors are wanted
pub list_change : (dense vector : Bool) (value : Value) (count width : ℕ) → (vector ≡ true → dense ≡ true) → IsListChangeWidth vector count width
    → IsChangeWidth dense value count width
list_change dense false value count width wanted is = plain_change dense value count width is
list_change dense true value count width wanted (inl is) = plain_change dense value count width is
list_change dense true value count width wanted (inr long) = told long.width_is
  where
    told : (width ≡ 64) ⊎ (width ≡ 34) → IsChangeWidth dense value count width
    told (inl block) = inr (record {
      some = let many = long.many in omega (arith, many);
      one = inr (inr (record { wanted = wanted refl; many = long.many; width_is = block }));
      few = omega (arith, block);
    })
    told (inr node) = inl node

pub record_change : (dense : Bool) (value : Value) (count : ℕ) → 0 < count → length (value_words value) ≤ 129 → IsChangeWidth dense value count (class_of (length (value_words value)))
record_change dense value count some short = inr (record {
  some = some;
  one = inl refl;
  few = class_least (length (value_words value)) 256 (inr (inr (inr (inr (inr (inr (inr (inl refl)))))))) (omega (arith, short));
})

pub node_change : (dense : Bool) (value : Value) (count : ℕ) → IsChangeWidth dense value count 34
node_change dense value count = inl refl

-- ---- what is found
pub entry_found : (bits : ℕ) (o : Option (ℕ × ℕ)) (entry : DictEntry bits) (word : ℕ) → Some entry ≡ option_map (entry_of bits) o → word ≡ entry.posting
    → o ≡ Some (entry.key, word)
entry_found bits None entry word is same = absurd (grind (arith, is))
entry_found bits (Some p) entry word is same =
    let at : entry ≡ entry_of bits p = same_Some entry (entry_of bits p) is in
    ap (λ (k : ℕ). Some (k, p.1)) (sym (ap {A = DictEntry bits} {B = ℕ} (λ e. e.key) at)) ∙ ap (λ (w : ℕ). Some (entry.key, w)) (sym (ap {A = DictEntry bits} {B = ℕ} (λ e. e.posting) at) ∙ sym same)

pub entry_none : (bits : ℕ) (o : Option (ℕ × ℕ)) → None ≡ option_map (entry_of bits) o → o ≡ None
entry_none bits None is = refl
entry_none bits (Some p) is = absurd (grind (arith, is))

-- a value of which a list has a document is found
pub value_found : (value : Value) (m : Records) (root doc : ℕ) → IsIndex (type_of value) m root
    → IsSome (lookup_in (is_at (nat_cmp doc)) (list_of value (index_of (type_of value) m root))) → lookup_pair (beside_value value m) (tree_pairs m root) ≡ None → ⊥
value_found value m root doc is there none =
    no_doc (subst {A = Docs} (λ docs. IsSome (lookup_in (is_at (nat_cmp doc)) docs)) (list_none value m root is none) there)
  where
    no_doc : IsSome {T = ℤ} None → ⊥
    no_doc h = grind (arith, h)

-- ---- documents
pub inserted_some : (docs : Docs) (doc : ℕ) (weight : ℤ) → 0 < length (insert_entry nat_cmp docs doc weight)
inserted_some [] doc weight = omega arith
inserted_some (e ∷ es) doc weight =
    elim (nat_cmp doc e.0) as (λ o. 0 < length (match_ordering o ((doc, weight) ∷ e ∷ es) ((e.0, weight) ∷ es) (e ∷ insert_entry nat_cmp es doc weight))) [
      | Less ↦ omega arith
      | Equal ↦ omega arith
      | Greater ↦ omega arith
    ]

pub filled_list : (m : Records) (word : ℕ) (docs : Docs) → IsList m word → list_at m word ≡ docs → 0 < word → 0 < length docs
filled_list m word docs is reads some = subst {A = Docs} (λ ds. 0 < length ds) reads (list_filled m word is some)

pub word_some : (m : Records) (word : ℕ) → 0 < length (list_at m word) → 0 < word
word_some m zero some = absurd (omega arith)
word_some m (suc word) some = omega arith

-- the list of a value that is there
module _ (value : Value) (m : Records) (root : ℕ) (is : IsIndex (type_of value) m root) (key word : ℕ)
    (found : lookup_pair (beside_value value m) (tree_pairs m root) ≡ Some (key, word)) where
  pub list_is : list_at m word ≡ list_of value (index_of (type_of value) m root)
  list_is = at_form m word (pair_found value m root is (key, word) found).some ∙ sym (list_found value m root is (key, word) found)

  pub list_owned : {H : Type 0} (a : Ledger H) → Owns a m (index_part root ∷ []) → Owns a m (list_part word ∷ [])
  list_owned a owns =
      owns-some a m (parts root key word (others value m root)) (list_part word ∷ []) (open_found value a m root is owns key word found).owns (λ r. omega arith)

  -- its list was changed
  pub open_next : {H : Type 0} (a b : Ledger H) (n : Records) (next : ℕ) (docs : Docs) (dense : Bool) → Owns a m (index_part root ∷ []) → MakesList a b m n word docs dense next
      → (is_vector next ≡ true → LEAST_DENSE ≤ length docs) → IsOpen value a b m n root key next
  open_next a b n next docs dense owns makes long = open_list value a a b m m n root key word next docs dense (open_found value a m root is owns key word found) makes long

  pub list_there : (doc : ℕ) → IsSome (lookup_in (is_at (nat_cmp doc)) (list_of value (index_of (type_of value) m root)))
      → IsSome (lookup_in (is_at (nat_cmp doc)) (list_at m word))
  list_there doc there = subst {A = Docs} (λ docs. IsSome (lookup_in (is_at (nat_cmp doc)) docs)) (sym list_is) there

-- a new value's record and list were made
pub open_new : {H : Type 0} (value : Value) (bits : ℕ) (a b c : Ledger H) (m n o : Records) (root key next : ℕ) (docs : Docs) (dense : Bool) → IsIndex (type_of value) m root
    → Owns a m (index_part root ∷ []) → lookup_pair (beside_value value m) (tree_pairs m root) ≡ None → AddsRecord bits a b m n (value_words value) key
    → IsValueRecord (type_of value) (n key) → stored_value (type_of value) n key ≡ value → MakesList b c n o 0 docs dense next → (is_vector next ≡ true → LEAST_DENSE ≤ length docs) → IsOpen value a c m o root key next
open_new value bits a b c m n o root key next docs dense is owns none adds record_is reads makes long =
    open_list value a b c m n o root key 0 next docs dense (open_made value a m root is owns bits b n (value_words value) key none adds record_is reads) makes long

-- ---- the index that a call makes
module _ {H : Type 0} (value : Value) (a b c : Ledger H) (m n o : Records) (root key word : ℕ) (start : IsIndex (type_of value) m root)
    (is : IsOpen value a b m n root key word) (taken : FlowsOpen value a b m n root key word) (may : MayDo b c) (docs : Docs) (reads : list_at n word ≡ docs) where
  pub set_index : {A : Type 0} (root_of : A → ℕ) (answer : Result A StoreError) (posting : ℕ) → posting ≡ word → 0 < length docs
      → IfOk answer (λ x. MakesDictionary (type_of value) b c n o root (put (beside_value value n) (key, posting) (tree_pairs n root)) (root_of x))
      → IfOk answer (λ x. MakesIndex (type_of value) a c m o root (with_list value docs (index_of (type_of value) m root)) (root_of x))
  set_index root_of (Err e) posting same some makes = tt
  set_index root_of (Ok x) posting same some makes =
      let next = root_of x in
      let filled : 0 < word = word_some n word (subst {A = Docs} (λ ds. 0 < length ds) (sym reads) some) in
      let set = value_set value a b m n root key word start is c o next (put (beside_value value n) (key, posting) (tree_pairs n root)) makes filled
      (ap (λ (w : ℕ). put (beside_value value n) (key, w) (tree_pairs n root)) same) taken may in
      subst (λ index. MakesIndex (type_of value) a c m o root index next)
      (ap (λ (ds : Docs). insert_entry value_cmp (index_of (type_of value) m root) value ds) reads ∙ sym (with_some value docs (index_of (type_of value) m root) some)) set

  -- and if no list was a bit vector, and this one is none, none is
  module _ (dense : Bool) where
    pub set_plain : {A : Type 0} (root_of : A → ℕ) (answer : Result A StoreError) (posting : ℕ) → posting ≡ word → 0 < length docs → (dense ≡ false → IsPlain word)
        → (dense ≡ false → IsPlainIndex m root)
        → IfOk answer (λ x. MakesDictionary (type_of value) b c n o root (put (beside_value value n) (key, posting) (tree_pairs n root)) (root_of x))
        → IfOk answer (λ x. dense ≡ false → IsPlainIndex o (root_of x))
    set_plain root_of (Err e) posting same some plain all makes = tt
    set_plain root_of (Ok x) posting same some plain all makes = λ off.
        let next = root_of x in
        plain_set value a b m n root key word start is c o next (put (beside_value value n) (key, posting) (tree_pairs n root)) makes
        (word_some n word (subst {A = Docs} (λ ds. 0 < length ds) (sym reads) some)) (ap (λ (w : ℕ). put (beside_value value n) (key, w) (tree_pairs n root)) same)
        (plain off) (all off)

    pub out_plain : (next : ℕ) (d : Ledger H) (p : Records) → word ≡ 0 → (dense ≡ false → IsPlainIndex m root)
        → MakesDictionary (type_of value) b c n o root (take_out (beside_value value n) (tree_pairs n root)) next → Turns c d o p (entry key ∷ []) []
        → dense ≡ false → IsPlainIndex p next
    out_plain next d p empty all makes dropped off =
        plain_out value a b m n root key word start is c o next (take_out (beside_value value n) (tree_pairs n root)) makes empty refl d p dropped (all off)

  pub out_index : (next : ℕ) (d : Ledger H) (p : Records) → word ≡ 0
      → MakesDictionary (type_of value) b c n o root (take_out (beside_value value n) (tree_pairs n root)) next → Turns c d o p (entry key ∷ []) []
      → MakesIndex (type_of value) a d m p root (with_list value docs (index_of (type_of value) m root)) next
  out_index next d p empty makes dropped =
      let out = value_out value a b m n root key word start is c o next (take_out (beside_value value n) (tree_pairs n root)) makes empty refl d p dropped taken.may may in
      let none : docs ≡ [] = sym reads ∙ ap (list_at n) empty in
      subst (λ (ds : Docs). MakesIndex (type_of value) a d m p root (with_list value ds (index_of (type_of value) m root)) next) (sym none) out
