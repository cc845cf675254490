-- What the flag for bit vectors says of lists and of an index, through a change.
use Rattle.std.proofs.Common.{◌≡◌, ℕ, ℤ, pos, ◌+◌, ◌*◌, ◌≤◌, Bool, true, false, ◌&&◌, ◌||◌, cond, nat_le, List, [], ◌∷◌, ◌++◌, length, Option, None, Some, option_map, refl, sym, ap, subst, ◌∙◌, arith, true≢false}
use Rattle.std.proofs.Common.{leb-true, leb-false, nat_cmp}
use Rattle.std.specs.BTreeMap.{insert_entry, is_at}
use Rattle.std.specs.declared.cmp.Ordering.TheVariants.{Less, Equal, Greater}
use Rattle.std.specs.List.{AllByRecursion}
use Rattle.std.specs.Map.{lookup as lookup_in, remove_entry}
use Rattle.std.specs.Option.{unwrap_or}
use Rattle.std.specs.Ordering.{match_ordering}
use Rattle.list_lemmas.proofs.Options.{same_Some}
use Rattle.list_lemmas.proofs.Tests.{too_many}
use Rattle.entry_ref.specs.Records.{Records, SameAt}
use Rattle.tree_read.specs.Pairs.{lookup_pair}
use Rattle.tree_read.proofs.PairLemmas.{lookup-of_pair}
use Rattle.tree_read.specs.ProofsForTrees.{SameAt-left, tree_pairs-same}
use Rattle.tree_read.specs.Trees.{tree_nodes, tree_pairs}
use Rattle.image_format.specs.Postings.{dictionary_reach, index_of, is_dense}
use Rattle.image_format.specs.ProofsForImages.{trees_index-same}
use Rattle.image_format.specs.declared.TheConstants.{FIRST_VECTOR, LEAST_DENSE, MOST_SPREAD}
use Rattle.index_model.specs.Changes.{settled, IsBetween}
use Rattle.index_model.specs.Index.{Index, list_of}
use Rattle.attr_types.specs.Value.{type_of}
use Rattle.attr_types.specs.declared.kind.Kind.TheVariants.{Single}
use Rattle.attr_types.specs.declared.kind.ValueType.{ValueType}
use Rattle.attr_types.specs.declared.value.Value.{Value}
use Rattle.enum_dictionary.specs.Dictionaries.{beside_value}
use Rattle.posting_store.specs.Lists.{is_vector, AreOnes, IsPlain}
use Rattle.posting_store.proofs.FormLemmas.{at_form}
use Rattle.value_index.specs.Flows.{list_word}
use Rattle.value_index.specs.Forms.{HasOnes, IsOfForm, IsPlainIndex, KeepsForm}
use Rattle.value_index.specs.Indexes.{index_reach, IsIndex}
use Rattle.value_index.proofs.KeyLemmas.{list_found, pair_found}
use Rattle.value_index.proofs.PairLemmas.{all_found}

abbrev Docs : Type 0
Docs = List (ℕ × ℤ)

-- ---- the rule
pub dense_long : (dense : Bool) (n m : ℕ) → is_dense dense n m ≡ true → LEAST_DENSE ≤ n
dense_long false n m is = absurd (true≢false (sym is))
dense_long true n m is = told (nat_le LEAST_DENSE n) refl is
  where
    told : (t : Bool) → nat_le LEAST_DENSE n ≡ t → (t && nat_le m (MOST_SPREAD * n)) ≡ true → LEAST_DENSE ≤ n
    told true e h = leb-true LEAST_DENSE n e
    told false e h = absurd (true≢false (sym h))

pub dense_wanted : (dense : Bool) (n m : ℕ) → is_dense dense n m ≡ true → dense ≡ true
dense_wanted false n m is = absurd (true≢false (sym is))
dense_wanted true n m is = refl

no_vector : (word : ℕ) → IsPlain word → is_vector word ≡ false
no_vector word plain = too_many FIRST_VECTOR word plain

pub vector_wanted : (dense : Bool) (word : ℕ) → (dense ≡ false → IsPlain word) → is_vector word ≡ true → dense ≡ true
vector_wanted true word plain is = refl
vector_wanted false word plain is = absurd (true≢false (sym is ∙ no_vector word (plain refl)))

-- where a list is a bit vector before or then, bit vectors are wanted
pub form_wanted : (dense : Bool) (word n m : ℕ) → (dense ≡ false → IsPlain word) → (is_vector word || is_dense dense n m) ≡ true → dense ≡ true
form_wanted true word n m plain is = refl
form_wanted false word n m plain is = absurd (true≢false (sym is ∙ ap (λ b. b || false) (no_vector word (plain refl))))

-- what a change by the rule makes is long, or is no bit vector
pub made_long : (dense : Bool) (n m next : ℕ) → is_vector next ≡ is_dense dense n m → is_vector next ≡ true → LEAST_DENSE ≤ n
made_long dense n m next form is = dense_long dense n m (sym form ∙ is)

pub made_plain : (dense : Bool) (n m next : ℕ) → is_vector next ≡ is_dense dense n m → dense ≡ false → IsPlain next
made_plain true n m next form is = absurd (true≢false is)
made_plain false n m next form is = leb-false FIRST_VECTOR next form

-- ---- lists with weights of 1
pub ones_insert : (docs : Docs) (doc : ℕ) (weight : ℤ) → weight ≡ pos 1 → AreOnes docs → AreOnes (insert_entry nat_cmp docs doc weight)
ones_insert [] doc weight one ones = (one, tt)
ones_insert (e ∷ es) doc weight one ones =
    let rest = ones_insert es doc weight one ones.1 in
    elim (nat_cmp doc e.0) as (λ o. AreOnes (match_ordering o ((doc, weight) ∷ e ∷ es) ((e.0, weight) ∷ es) (e ∷ insert_entry nat_cmp es doc weight))) [
      | Less ↦ (one, ones)
      | Equal ↦ (one, ones.1)
      | Greater ↦ (ones.0, rest)
    ]

pub ones_remove : (test : ℕ → Bool) (docs : Docs) → AreOnes docs → AreOnes (remove_entry test docs)
ones_remove test [] ones = tt
ones_remove test (e ∷ es) ones = told (ones_remove test es ones.1) (test e.0)
  where
    told : AreOnes (remove_entry test es) → (t : Bool) → AreOnes (cond t es (e ∷ remove_entry test es))
    told rest true = ones.1
    told rest false = (ones.0, rest)

pub ones_lookup : (test : ℕ → Bool) (docs : Docs) (weight : ℤ) → AreOnes docs → lookup_in test docs ≡ Some weight → weight ≡ pos 1
ones_lookup test [] weight ones is = absurd (grind (arith, is))
ones_lookup test (e ∷ es) weight ones is = told (ones_lookup test es weight ones.1) (test e.0) is
  where
    told : (lookup_in test es ≡ Some weight → weight ≡ pos 1) → (t : Bool) → cond t (Some e.1) (lookup_in test es) ≡ Some weight → weight ≡ pos 1
    told rest true h = sym (same_Some e.1 weight h) ∙ ones.0
    told rest false h = rest h

settled_ones : (added removed : Option ℤ) (doc : ℕ) (docs : Docs) → ((weight : ℤ) → added ≡ Some weight → weight ≡ pos 1) → AreOnes docs
    → AreOnes (settled added removed doc docs)
settled_ones (Some weight) removed doc docs one ones = ones_insert docs doc weight (one weight refl) ones
settled_ones None (Some weight) doc docs one ones = ones_remove (is_at (nat_cmp doc)) docs ones
settled_ones None None doc docs one ones = ones

pub between_ones : (start : Index) (doc : ℕ) (added removed : Value → Option ℤ) (index : Index) → IsBetween start doc added removed index
    → ((value : Value) (weight : ℤ) → added value ≡ Some weight → weight ≡ pos 1) → HasOnes start → HasOnes index
between_ones start doc added removed index between one ones value =
    subst {A = Docs} AreOnes (sym (between.lists value)) (settled_ones (added value) (removed value) doc (list_of value start) (one value) (ones value))

-- among entries that all have weight 1
pub entry_one : (test : Value → Bool) (entries : List (Value × ℤ)) (weight : ℤ) → AllByRecursion (λ e. e.1 ≡ pos 1) entries → lookup_in test entries ≡ Some weight → weight ≡ pos 1
entry_one test [] weight ones is = absurd (grind (arith, is))
entry_one test (e ∷ es) weight ones is = told (entry_one test es weight ones.1) (test e.0) is
  where
    told : (lookup_in test es ≡ Some weight → weight ≡ pos 1) → (t : Bool) → cond t (Some e.1) (lookup_in test es) ≡ Some weight → weight ≡ pos 1
    told rest true h = sym (same_Some e.1 weight h) ∙ ones.0
    told rest false h = rest h

pub one_here : (done more : List (Value × ℤ)) (value : Value) (weight : ℤ) → AllByRecursion (λ e. e.1 ≡ pos 1) (done ++ (value, weight) ∷ more) → weight ≡ pos 1
one_here [] more value weight ones = ones.0
one_here (d ∷ done) more value weight ones = one_here done more value weight ones.1

-- ---- how long a list is then
pub insert_few : (docs : Docs) (doc : ℕ) (weight : ℤ) → length (insert_entry nat_cmp docs doc weight) ≤ 1 + length docs
insert_few [] doc weight = omega arith
insert_few (e ∷ es) doc weight =
    let rest = insert_few es doc weight in
    elim (nat_cmp doc e.0) as (λ o. length (match_ordering o ((doc, weight) ∷ e ∷ es) ((e.0, weight) ∷ es) (e ∷ insert_entry nat_cmp es doc weight)) ≤ 1 + length (e ∷ es)) [
      | Less ↦ omega arith
      | Equal ↦ omega arith
      | Greater ↦ omega (arith, rest)
    ]

pub insert_more : (docs : Docs) (doc : ℕ) (weight : ℤ) → length docs ≤ 1 + length (insert_entry nat_cmp docs doc weight)
insert_more [] doc weight = omega arith
insert_more (e ∷ es) doc weight =
    let rest = insert_more es doc weight in
    elim (nat_cmp doc e.0) as (λ o. length (e ∷ es) ≤ 1 + length (match_ordering o ((doc, weight) ∷ e ∷ es) ((e.0, weight) ∷ es) (e ∷ insert_entry nat_cmp es doc weight))) [
      | Less ↦ omega arith
      | Equal ↦ omega arith
      | Greater ↦ omega (arith, rest)
    ]

pub remove_few : (test : ℕ → Bool) (docs : Docs) → length (remove_entry test docs) ≤ 1 + length docs
remove_few test [] = omega arith
remove_few test (e ∷ es) = told (remove_few test es) (test e.0)
  where
    told : length (remove_entry test es) ≤ 1 + length es → (t : Bool) → length (cond t es (e ∷ remove_entry test es)) ≤ 1 + length (e ∷ es)
    told rest true = omega arith
    told rest false = omega (arith, rest)

pub remove_more : (test : ℕ → Bool) (docs : Docs) → length docs ≤ 1 + length (remove_entry test docs)
remove_more test [] = omega arith
remove_more test (e ∷ es) = told (remove_more test es) (test e.0)
  where
    told : length es ≤ 1 + length (remove_entry test es) → (t : Bool) → length (e ∷ es) ≤ 1 + length (cond t es (e ∷ remove_entry test es))
    told rest true = omega arith
    told rest false = omega (arith, rest)

-- ---- an index
pub plain_nothing : (dense : Bool) (type : ValueType) (m : Records) → IsOfForm dense type m 0
plain_nothing dense type m = record { ones = λ wanted value. tt; plain = λ off. tt }

pub form_stays : (type : ValueType) (m n : Records) (root : ℕ) → SameAt (index_reach m root) m n → KeepsForm type m n root
form_stays type m n root same dense is =
    let pairs = tree_pairs-same m n root (SameAt-left m n (tree_nodes m root) (dictionary_reach m root) same) in
    let index = trees_index-same Single type m n 0 root same in
    record {
      ones = λ wanted. subst HasOnes (sym index) (is.ones wanted);
      plain = λ off. subst (AllByRecursion (λ p. IsPlain p.1)) (sym pairs) (is.plain off);
    }

module _ (value : Value) (m : Records) (root : ℕ) where
  pub word_found : (p : ℕ × ℕ) → lookup_pair (beside_value value m) (tree_pairs m root) ≡ Some p → list_word value m root ≡ p.1
  word_found p found =
      ap (λ (x : Option ℕ). unwrap_or x 0)
      (lookup-of_pair (beside_value value m) (tree_pairs m root) ∙ ap (λ (f : Option (ℕ × ℕ)). option_map (λ (q : ℕ × ℕ). q.1) f) found)

  pub word_none : lookup_pair (beside_value value m) (tree_pairs m root) ≡ None → list_word value m root ≡ 0
  word_none none =
      ap (λ (x : Option ℕ). unwrap_or x 0)
      (lookup-of_pair (beside_value value m) (tree_pairs m root) ∙ ap (λ (f : Option (ℕ × ℕ)). option_map (λ (q : ℕ × ℕ). q.1) f) none)

  pub plain_found : (p : ℕ × ℕ) → lookup_pair (beside_value value m) (tree_pairs m root) ≡ Some p → IsPlainIndex m root → IsPlain p.1
  plain_found p found plain = all_found (beside_value value m) (λ q. IsPlain q.1) p (tree_pairs m root) plain found

  word_plain : (o : Option (ℕ × ℕ)) → lookup_pair (beside_value value m) (tree_pairs m root) ≡ o → IsPlainIndex m root → IsPlain (list_word value m root)
  word_plain None none plain = subst IsPlain (sym (word_none none)) (omega arith)
  word_plain (Some p) found plain = subst IsPlain (sym (word_found p found)) (plain_found p found plain)

  word_long : IsIndex (type_of value) m root → (o : Option (ℕ × ℕ)) → lookup_pair (beside_value value m) (tree_pairs m root) ≡ o → is_vector (list_word value m root) ≡ true
      → LEAST_DENSE ≤ length (list_of value (index_of (type_of value) m root))
  word_long is None none vector = absurd (true≢false (sym vector ∙ ap is_vector (word_none none)))
  word_long is (Some p) found vector =
      let pair = pair_found value m root is p found in
      subst {A = Docs} (λ docs. LEAST_DENSE ≤ length docs) (at_form m p.1 pair.some ∙ sym (list_found value m root is p found)) (pair.long (sym (ap is_vector (word_found p found)) ∙ vector))

  -- a value's list that is a bit vector: bit vectors are wanted, and it is long
  pub was_vector : (dense : Bool) → IsIndex (type_of value) m root → (dense ≡ false → IsPlainIndex m root) → is_vector (list_word value m root) ≡ true
      → (dense ≡ true) × (LEAST_DENSE ≤ length (list_of value (index_of (type_of value) m root)))
  was_vector dense is plain vector = (
    vector_wanted dense (list_word value m root) (λ off. word_plain (lookup_pair (beside_value value m) (tree_pairs m root)) refl (plain off)) vector,
    word_long is (lookup_pair (beside_value value m) (tree_pairs m root)) refl vector,
  )
