-- Items and documents that follow each other are those that a kind allows, and the other way round.
use Rattle.std.proofs.Common.{◌≡◌, ℕ, ◌+◌, ◌<◌, ◌≤◌, true, List, [], ◌∷◌, length, map, Option, Some, None, Ordering, Less, nat_cmp, is_lt, pos, refl, sym, ap, arith}
use Rattle.std.specs.Cmp.{nat_cmp_is}
use Rattle.std.specs.List.{AllByRecursion}
use Rattle.std.specs.List.Sorted.{IsStrictlySortedBy}
use Rattle.std.proofs.lemmas.List.{length-map}
use Rattle.std.proofs.lemmas.Cmp.{ranked, nat_cmp_total}
use Rattle.attr_types.specs.Lawful.{last_doc, IsDocNumber, IsLawfulItems, ItemsFit}
use Rattle.attr_types.specs.ProofsForOrder.{value_cmp_total}
use Rattle.attr_types.specs.Value.{value_cmp, values_of, type_of, AreOfType}
use Rattle.attr_types.specs.declared.items.Item.{Item}
use Rattle.attr_types.specs.declared.kind.Kind.{Kind}
use Rattle.attr_types.specs.declared.kind.Kind.TheVariants.{Single, Array, WeightedSet}
use Rattle.attr_types.specs.declared.kind.ValueType.{ValueType}
use Rattle.attr_types.specs.declared.value.Value.{Value}
use Rattle.attr_saver.specs.Fields.{may_follow, most_by_kind}
use Rattle.attr_saver.specs.Lawful.{docs_of, AreLawfulDocuments, IsStorable}
use Rattle.attr_saver.specs.declared.saved.SavedDocument.{SavedDocument}
use Rattle.attr_saver.proofs.Rows.{Chain, chain_all}
use Rattle.attr_saver.proofs.SaveLemmas.{WeightFits, ItemFits}

all_map : {A B : Type 0} (f : A → B) (Q : B → Type 0) (xs : List A) → AllByRecursion (λ x. Q (f x)) xs → AllByRecursion Q (map f xs)
all_map f Q [] all = tt
all_map f Q (x ∷ xs) all = (all.0, all_map f Q xs all.1)

-- what is above one is above what is below it
above_all : {K : Type 0} (R : K → K → Ordering) → ((x y z : K) → R x y ≡ Less → R y z ≡ Less → R x z ≡ Less)
    → (a b : K) → R a b ≡ Less → (xs : List K) → AllByRecursion (λ x. R b x ≡ Less) xs → AllByRecursion (λ x. R a x ≡ Less) xs
above_all R trans a b less [] all = tt
above_all R trans a b less (x ∷ xs) all = (trans a b x less all.0, above_all R trans a b less xs all.1)

less_is : (o : Ordering) → is_lt o ≡ true → o ≡ Less
less_is Ordering.Less e = refl
less_is Ordering.Equal e = absurd cc
less_is Ordering.Greater e = absurd cc

-- ---- items

abbrev Follows : Kind → Option Value → List Value → Type 0
Follows kind before [] = Unit {0}
Follows kind before (value ∷ values) = (may_follow kind before value ≡ true) × Follows kind (Some value) values

abbrev AboveAll : Option Value → List Value → Type 0
AboveAll None values = Unit {0}
AboveAll (Some before) values = AllByRecursion (λ value. value_cmp before value ≡ Less) values

sorted_from_follows : (before : Option Value) (values : List Value) → Follows WeightedSet before values
    → AboveAll before values × IsStrictlySortedBy value_cmp values
unfolding IsStrictlySortedBy
sorted_from_follows None [] follows = (tt, tt)
sorted_from_follows (Some before) [] follows = (tt, tt)
sorted_from_follows None (value ∷ values) follows = let rest = sorted_from_follows (Some value) values follows.1 in (tt, rest)
sorted_from_follows (Some before) (value ∷ values) follows =
    let rest = sorted_from_follows (Some value) values follows.1 in
    let less : value_cmp before value ≡ Less = less_is (value_cmp before value) follows.0 in
    ((less, above_all value_cmp value_cmp_total.trans before value less values rest.0), rest)

follows_from_sorted : (before : Option Value) (values : List Value) → AboveAll before values → IsStrictlySortedBy value_cmp values
    → Follows WeightedSet before values
unfolding IsStrictlySortedBy
follows_from_sorted before [] above sorted = tt
follows_from_sorted None (value ∷ values) above sorted = (refl, follows_from_sorted (Some value) values sorted.0 sorted.1)
follows_from_sorted (Some before) (value ∷ values) above sorted = (ap is_lt above.0, follows_from_sorted (Some value) values sorted.0 sorted.1)

follows_freely : (kind : Kind) → ((before : Option Value) (value : Value) → may_follow kind before value ≡ true)
    → (before : Option Value) (values : List Value) → Follows kind before values
follows_freely kind free before [] = tt
follows_freely kind free before (value ∷ values) = (free before value, follows_freely kind free (Some value) values)

follows_lawful : (kind : Kind) (items : List Item) → IsLawfulItems kind items → Follows kind None (values_of items)
follows_lawful Single items lawful = follows_freely Single (λ before value. refl) None (values_of items)
follows_lawful Array items lawful = follows_freely Array (λ before value. refl) None (values_of items)
follows_lawful WeightedSet items lawful = follows_from_sorted None (values_of items) tt lawful.1

weights_lawful : (kind : Kind) (items : List Item) → IsLawfulItems kind items → AllByRecursion (λ item. WeightFits kind item.weight) items
weights_lawful Single items lawful = lawful.1
weights_lawful Array items lawful = lawful.1
weights_lawful WeightedSet [] lawful = tt
weights_lawful WeightedSet (item ∷ items) lawful = (tt, free items)
  where
    free : (items : List Item) → AllByRecursion (λ item. WeightFits WeightedSet item.weight) items
    free [] = tt
    free (item ∷ items) = (tt, free items)

abbrev ItemChain : Kind → ValueType → Option Value → List Item → Type 0
ItemChain kind type before items = Chain (λ item. Some item.value) (ItemFits kind type) before items

follows_chain : (kind : Kind) (type : ValueType) (before : Option Value) (items : List Item) → ItemChain kind type before items → Follows kind before (values_of items)
follows_chain kind type before [] chain = tt
follows_chain kind type before (item ∷ items) chain = (chain.0.value.follows, follows_chain kind type (Some item.value) items chain.1)

-- items that were read are what their kind and value type allow
pub items_fit : (kind : Kind) (type : ValueType) (items : List Item) → length items ≤ most_by_kind kind → ItemChain kind type None items
    → ItemsFit kind type items × AllByRecursion IsStorable items
items_fit kind type items few chain = ((lawful kind few chain, typed), stored)
  where
    typed : AreOfType type (values_of items)
    typed = all_map (λ item. item.value) (λ value. type_of value ≡ type) items
        (chain_all (λ item. Some item.value) (ItemFits kind type) (λ item. type_of item.value ≡ type) (λ before item fits. fits.value.typed) None items chain)

    stored : AllByRecursion IsStorable items
    stored = chain_all (λ item. Some item.value) (ItemFits kind type) IsStorable (λ before item fits. record { value = fits.value.stored; weight = fits.signed }) None items chain

    lawful : (kind : Kind) → length items ≤ most_by_kind kind → ItemChain kind type None items → IsLawfulItems kind items
    lawful Single few chain = (few, chain_all (λ item. Some item.value) (ItemFits Single type) (λ item. item.weight ≡ pos 1) (λ before item fits. fits.weight) None items chain)
    lawful Array few chain = (few, chain_all (λ item. Some item.value) (ItemFits Array type) (λ item. item.weight ≡ pos 1) (λ before item fits. fits.weight) None items chain)
    lawful WeightedSet few chain = (few, (sorted_from_follows None (values_of items) (follows_chain WeightedSet type None items chain)).1)

-- items that a kind and value type allow follow each other
pub items_chain : (kind : Kind) (type : ValueType) (items : List Item) → ItemsFit kind type items → AllByRecursion IsStorable items → ItemChain kind type None items
items_chain kind type items fit stored = made None items (follows_lawful kind items fit.0) (weights_lawful kind items fit.0) fit.1 stored
  where
    made : (before : Option Value) (items : List Item) → Follows kind before (values_of items) → AllByRecursion (λ item. WeightFits kind item.weight) items
        → AreOfType type (values_of items) → AllByRecursion IsStorable items → ItemChain kind type before items
    made before [] follows weights typed stored = tt
    made before (item ∷ items) follows weights typed stored = (
      record { value = record { stored = stored.0.value; typed = typed.0; follows = follows.0 }; signed = stored.0.weight; weight = weights.0 },
      made (Some item.value) items follows.1 weights.1 typed.1 stored.1,
    )

pub few_lawful : (kind : Kind) (items : List Item) → IsLawfulItems kind items → length items ≤ most_by_kind kind
few_lawful Single items lawful = lawful.0
few_lawful Array items lawful = lawful.0
few_lawful WeightedSet items lawful = lawful.0

-- ---- documents

pub record DocumentFits (kind : Kind) (type : ValueType) (before : ℕ) (document : SavedDocument) : Type 0 where
  pub above : before < document.doc
  pub within : document.doc ≤ last_doc
  pub few : length document.items ≤ most_by_kind kind
  pub items : ItemChain kind type None document.items

abbrev pub DocumentChain : Kind → ValueType → ℕ → List SavedDocument → Type 0
DocumentChain kind type before documents = Chain (λ document. document.doc) (DocumentFits kind type) before documents

docs_ascend : (kind : Kind) (type : ValueType) (before : ℕ) (documents : List SavedDocument) → DocumentChain kind type before documents
    → AllByRecursion (λ doc. nat_cmp before doc ≡ Less) (docs_of documents) × IsStrictlySortedBy nat_cmp (docs_of documents)
unfolding IsStrictlySortedBy
docs_ascend kind type before [] chain = (tt, tt)
docs_ascend kind type before (document ∷ documents) chain =
    let rest = docs_ascend kind type document.doc documents chain.1 in
    let less : nat_cmp before document.doc ≡ Less = sym (nat_cmp_is before document.doc Less chain.0.above) in
    ((less, above_all nat_cmp nat_cmp_total.trans before document.doc less (docs_of documents) rest.0), rest)

abbrev HasItemsThatFit : Kind → ValueType → SavedDocument → Type 0
HasItemsThatFit kind type document = ItemsFit kind type document.items

abbrev pub StoresItems : SavedDocument → Type 0
StoresItems document = AllByRecursion IsStorable document.items

-- documents that were read may be saved
pub column_lawful : (kind : Kind) (type : ValueType) (documents : List SavedDocument) → DocumentChain kind type 0 documents
    → AreLawfulDocuments kind type documents × AllByRecursion StoresItems documents
column_lawful kind type documents chain = (
  record {
    ascends = (docs_ascend kind type 0 documents chain).1;
    numbers = all_map (λ document. document.doc) IsDocNumber documents
        (chain_all (λ document. document.doc) (DocumentFits kind type) (λ document. IsDocNumber document.doc)
        (λ before document fits. (omega (arith, fits.above), fits.within)) 0 documents chain);
    items = chain_all (λ document. document.doc) (DocumentFits kind type) (HasItemsThatFit kind type)
        (λ before document fits. (items_fit kind type document.items fits.few fits.items).0) 0 documents chain;
  },
  chain_all (λ document. document.doc) (DocumentFits kind type) StoresItems
      (λ before document fits. (items_fit kind type document.items fits.few fits.items).1) 0 documents chain,
)

-- documents that may be saved follow each other
pub documents_chain : (kind : Kind) (type : ValueType) (before : ℕ) (documents : List SavedDocument)
    → AllByRecursion (λ doc. nat_cmp before doc ≡ Less) (docs_of documents) → IsStrictlySortedBy nat_cmp (docs_of documents)
    → AllByRecursion IsDocNumber (docs_of documents) → AllByRecursion (HasItemsThatFit kind type) documents → AllByRecursion StoresItems documents
    → DocumentChain kind type before documents
unfolding IsStrictlySortedBy
documents_chain kind type before [] above ascends numbers fit stored = tt
documents_chain kind type before (document ∷ documents) above ascends numbers fit stored = (
  record {
    above = ranked before document.doc Less (sym above.0);
    within = numbers.0.1;
    few = few_lawful kind document.items fit.0.0;
    items = items_chain kind type document.items fit.0 stored.0;
  },
  documents_chain kind type document.doc documents ascends.0 ascends.1 numbers.1 fit.1 stored.1,
)

pub none_above : (docs : List ℕ) → AllByRecursion IsDocNumber docs → AllByRecursion (λ doc. nat_cmp 0 doc ≡ Less) docs
none_above [] numbers = tt
none_above (doc ∷ docs) numbers = let some : 0 < doc = omega (arith, numbers.0.0) in (sym (nat_cmp_is 0 doc Less some), none_above docs numbers.1)

pub column_chain : (kind : Kind) (type : ValueType) (documents : List SavedDocument) → AreLawfulDocuments kind type documents
    → AllByRecursion StoresItems documents → DocumentChain kind type 0 documents
column_chain kind type documents lawful stored =
    documents_chain kind type 0 documents (none_above (docs_of documents) lawful.numbers) lawful.ascends lawful.numbers lawful.items stored

-- there are no more documents than numbers
pub docs_few : (before : ℕ) (docs : List ℕ) → before ≤ last_doc → AllByRecursion (λ doc. nat_cmp before doc ≡ Less) docs → IsStrictlySortedBy nat_cmp docs
    → AllByRecursion IsDocNumber docs → length docs + before ≤ last_doc
unfolding IsStrictlySortedBy
docs_few before [] le above ascends numbers = omega (arith, le)
docs_few before (doc ∷ docs) le above ascends numbers =
    let less : before < doc = ranked before doc Less (sym above.0) in
    omega (arith, docs_few doc docs numbers.0.1 ascends.0 ascends.1 numbers.1, less)

pub column_few : (kind : Kind) (type : ValueType) (documents : List SavedDocument) → AreLawfulDocuments kind type documents → length documents ≤ last_doc
column_few kind type documents lawful =
    omega (arith, docs_few 0 (docs_of documents) (omega arith) (none_above (docs_of documents) lawful.numbers) lawful.ascends lawful.numbers, length-map documents (λ (d : SavedDocument). d.doc))

-- each has so few items
pub items_few : (kind : Kind) (type : ValueType) (documents : List SavedDocument) → AllByRecursion (HasItemsThatFit kind type) documents
    → AllByRecursion (λ d. length d.items ≤ 1023) documents
items_few kind type [] fit = tt
items_few kind type (document ∷ documents) fit =
    (small kind (few_lawful kind document.items fit.0.0), items_few kind type documents fit.1)
  where
    small : (kind : Kind) → length document.items ≤ most_by_kind kind → length document.items ≤ 1023
    small Single le = omega (arith, le)
    small Array le = le
    small WeightedSet le = le
