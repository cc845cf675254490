-- The items of a document, by the records of their values.
use Rattle.std.proofs.Common.{◌≡◌, ℕ, zero, suc, ◌<◌, ◌≤◌, ℤ, pos, true, List, [], ◌∷◌, ◌++◌, length, map, take, refl, sym, ap, subst, ◌∙◌, arith, Result, Ok, Err}
use Rattle.std.proofs.lemmas.List.{length-map}
use Rattle.std.specs.Prelude.{slice_get, Some, IfOk}
use Rattle.store_api.specs.declared.store.StoreError.{StoreError}
use Rattle.std.specs.List.{AllByRecursion}
use Rattle.list_lemmas.proofs.Options.{same_Some}
use Rattle.entry_ref.specs.Records.{Records}
use Rattle.store_api.specs.Ledgers.{Ledger}
use Rattle.store_api.specs.Parts.{Turns, entries, entry}
use Rattle.store_api.proofs.PartLemmas.{turns-as}
use Rattle.array_store.specs.Adding.{AddsRecord}
use Rattle.image_format.specs.Values.{IsValueRecord}
use Rattle.image_format.specs.Words.{filled, stored_items, IsStoredList}
use Rattle.attr_types.specs.Change.{most_items}
use Rattle.attr_types.specs.Lawful.{IsLawfulItems, HaveWeightOne}
use Rattle.attr_types.specs.declared.items.Item.{Item}
use Rattle.attr_types.specs.declared.kind.Kind.{Kind}
use Rattle.attr_types.specs.declared.kind.Kind.TheVariants.{Single, Array, WeightedSet}
use Rattle.attr_types.specs.declared.kind.ValueType.{ValueType}
use Rattle.unique_store.proofs.RecordLemmas.{value_there}
use Rattle.attr_field.specs.DocumentsChanges.{AreKeysOf}
use Rattle.attr_field.specs.Items.{entries_by_key, has_list, item_of, word_entry, IsWeightOf, MakesItems}

-- references of values
module _ (type : ValueType) (m : Records) where
  pub keys_length : (keys : List ℕ) (items : List Item) → AreKeysOf type m keys items → length keys ≡ length items
  keys_length [] [] are = refl
  keys_length [] (item ∷ items) are = absurd are
  keys_length (key ∷ keys) [] are = absurd are
  keys_length (key ∷ keys) (item ∷ items) are = ap suc (keys_length keys items are.1)

  pub keys_values : (keys : List ℕ) (items : List Item) → AreKeysOf type m keys items → AllByRecursion (λ e. IsValueRecord type (m e.0)) (entries_by_key keys items)
  keys_values [] items are = tt
  keys_values (key ∷ keys) [] are = tt
  keys_values (key ∷ keys) (item ∷ items) are = (are.0.record_is, keys_values keys items are.1)

  pub keys_items : (keys : List ℕ) (items : List Item) → AreKeysOf type m keys items → map (item_of type m) (entries_by_key keys items) ≡ items
  keys_items [] [] are = refl
  keys_items [] (item ∷ items) are = absurd are
  keys_items (key ∷ keys) [] are = absurd are
  keys_items (key ∷ keys) (item ∷ items) are =
      ap (λ v. record item { value = v } ∷ map (item_of type m) (entries_by_key keys items)) are.0.value_is
      ∙ ap (λ xs. item ∷ xs) (keys_items keys items are.1)

  pub keys_are : (keys : List ℕ) (items : List Item) → AreKeysOf type m keys items → map (λ e. e.0) (entries_by_key keys items) ≡ keys
  keys_are [] items are = refl
  keys_are (key ∷ keys) [] are = absurd are
  keys_are (key ∷ keys) (item ∷ items) are = ap (λ ks. key ∷ ks) (keys_are keys items are.1)

  pub keys_there : ((r : ℕ) → 0 < length (m r) → 0 < r) → (keys : List ℕ) (items : List Item) → AreKeysOf type m keys items → AllByRecursion (λ (key : ℕ). 0 < key) keys
  keys_there placed [] items are = tt
  keys_there placed (key ∷ keys) [] are = absurd are
  keys_there placed (key ∷ keys) (item ∷ items) are = (let some = value_there type (m key) are.0.record_is in placed key (omega arith), keys_there placed keys items are.1)

-- the weights of lawful items
weights_one : (kind : Kind) → ((w : ℤ) → w ≡ pos 1 → IsWeightOf kind w) → (items : List Item) → HaveWeightOne items → AllByRecursion (λ (item : Item). IsWeightOf kind item.weight) items
weights_one kind one [] all = tt
weights_one kind one (item ∷ items) all = (one item.weight all.0, weights_one kind one items all.1)

weights_any : (items : List Item) → AllByRecursion (λ (item : Item). IsWeightOf WeightedSet item.weight) items
weights_any [] = tt
weights_any (item ∷ items) = (tt, weights_any items)

pub weights_of : (kind : Kind) (items : List Item) → IsLawfulItems kind items → AllByRecursion (λ (item : Item). IsWeightOf kind item.weight) items
weights_of Single items lawful = weights_one Single (λ w is. is) items lawful.1
weights_of Array items lawful = weights_one Array (λ w is. is) items lawful.1
weights_of WeightedSet items lawful = weights_any items

pub weight_at : (kind : Kind) (items : List Item) (i : ℕ) (item : Item) → AllByRecursion (λ (x : Item). IsWeightOf kind x.weight) items → slice_get items i ≡ Some item → IsWeightOf kind item.weight
weight_at kind [] i item all is = cc
weight_at kind (x ∷ items) zero item all is = subst {A = Item} (λ y. IsWeightOf kind y.weight) (same_Some x item is) all.0
weight_at kind (x ∷ items) (suc i) item all is = weight_at kind items i item all.1 is

-- one item more
pub entries_more : (keys : List ℕ) (items : List Item) (i key : ℕ) (item : Item) → slice_get keys i ≡ Some key → slice_get items i ≡ Some item
    → entries_by_key (take (suc i) keys) (take (suc i) items) ≡ entries_by_key (take i keys) (take i items) ++ (key, item.weight) ∷ []
entries_more [] items i key item at is = cc
entries_more (k ∷ keys) [] i key item at is = cc
entries_more (k ∷ keys) (x ∷ items) zero key item at is = first k key x item at is
  where
    first : (a b : ℕ) (x y : Item) → Some a ≡ Some b → Some x ≡ Some y → ◌≡◌ {A = List (ℕ × ℤ)} ((a, x.weight) ∷ []) ((b, y.weight) ∷ [])
    first a b x y at is = cc
entries_more (k ∷ keys) (x ∷ items) (suc i) key item at is = ap (λ es. (k, x.weight) ∷ es) (entries_more keys items i key item at is)

-- what a reference is made of
module _ {H : Type 0} (old new : Ledger H) (m n : Records) where
  -- nothing of no items
  pub makes_none : (kind : Kind) (keys : List ℕ) (items : List Item) (ref : ℕ) → keys ≡ [] → ref ≡ 0 → Turns old new m n [] [] → MakesItems kind old new m n (entries_by_key keys items) ref
  makes_none kind keys items ref none is turns =
      let here : MakesItems kind old new m n [] 0 = record {
        form = tt;
        weighted_are = refl;
        turns = turns-as old new m n [] [] [] (entries [] ∷ []) turns (λ r. refl) (λ r. refl);
      } in
      subst (MakesItems kind old new m n (entries_by_key keys items)) (sym is) (subst (λ ks. MakesItems kind old new m n (entries_by_key ks items) 0) (sym none) here)

  -- the record of the value of a single item
  pub makes_single : (keys : List ℕ) (items : List Item) (ref : ℕ) → slice_get keys 0 ≡ Some ref → length keys ≡ length items → AllByRecursion (λ (key : ℕ). 0 < key) keys
      → IsLawfulItems Single items → Turns old new m n [] [] → MakesItems Single old new m n (entries_by_key keys items) ref
  makes_single [] items ref at sized there lawful turns = cc
  makes_single (key ∷ keys) [] ref at sized there lawful turns = absurd (omega arith)
  makes_single (key ∷ k ∷ keys) (item ∷ items) ref at sized there lawful turns = absurd (let few = lawful.0 in omega arith)
  makes_single (key ∷ []) (item ∷ x ∷ items) ref at sized there lawful turns = absurd (omega arith)
  makes_single (zero ∷ []) (item ∷ []) ref at sized there lawful turns = absurd (let some = there.0 in omega arith)
  makes_single (suc key ∷ []) (item ∷ []) ref at sized there lawful turns =
      subst (MakesItems Single old new m n ((suc key, item.weight) ∷ [])) (same_Some (suc key) ref at) (record {
        form = tt;
        weighted_are = ap (λ w. (suc key, w) ∷ []) (sym lawful.1.0);
        turns = turns-as old new m n [] [] [] (entries [] ∷ []) turns (λ r. refl) (λ r. refl);
      })

  module _ (bits : ℕ) (words : List ℕ) (list : List (ℕ × ℤ)) (some : 0 < length words) (few : length words ≤ 1023) where
    stored : (ref : ℕ) → stored_items (n ref) ≡ words → AddsRecord bits old new m n (length words ∷ words) ref → IsStoredList most_items (n ref)
    stored ref reads adds = record {
      some = let size = ap length reads in omega arith;
      few = let size = ap length reads in omega arith;
      words = adds.words_are ∙ ap (λ xs. filled (length xs ∷ xs)) (sym reads);
    }

    -- the record of an array or a weighted set
    pub makes_list : (kind : Kind) (ref : ℕ) → has_list kind ≡ true → map (word_entry kind) words ≡ list → stored_items (n ref) ≡ words → AddsRecord bits old new m n (length words ∷ words) ref
        → MakesItems kind old new m n list ref
    makes_list kind zero has are reads adds = absurd (let more = adds.some in omega arith)
    makes_list Single (suc ref) has are reads adds = cc
    makes_list Array (suc ref) has are reads adds = record {
      form = stored (suc ref) reads adds;
      weighted_are = ap (map (word_entry Array)) reads ∙ are;
      turns = turns-as old new m n [] (entry (suc ref) ∷ []) [] (entries (suc ref ∷ []) ∷ []) adds.turns (λ r. refl) (λ r. refl);
    }
    makes_list WeightedSet (suc ref) has are reads adds = record {
      form = stored (suc ref) reads adds;
      weighted_are = ap (map (word_entry WeightedSet)) reads ∙ are;
      turns = turns-as old new m n [] (entry (suc ref) ∷ []) [] (entries (suc ref ∷ []) ∷ []) adds.turns (λ r. refl) (λ r. refl);
    }

pub few_of : (kind : Kind) (items : List Item) → has_list kind ≡ true → IsLawfulItems kind items → length items ≤ 1023
few_of Single items has lawful = cc
few_of Array items has lawful = lawful.0
few_of WeightedSet items has lawful = lawful.0

entries_length : (keys : List ℕ) (items : List Item) → length keys ≡ length items → length (entries_by_key keys items) ≡ length items
entries_length [] [] same = refl
entries_length [] (item ∷ items) same = absurd (omega arith)
entries_length (key ∷ keys) [] same = refl
entries_length (key ∷ keys) (item ∷ items) same = ap suc (entries_length keys items (omega arith))

pub words_length : (kind : Kind) (words keys : List ℕ) (items : List Item) → map (word_entry kind) words ≡ entries_by_key keys items → length keys ≡ length items → length words ≡ length items
words_length kind words keys items are same = sym (length-map words (word_entry kind)) ∙ ap length are ∙ entries_length keys items same

pub made_list : {H : Type 0} (old new : Ledger H) (m n : Records) (bits : ℕ) (words : List ℕ) (list : List (ℕ × ℤ)) (kind : Kind) (result : Result ℕ StoreError) → 0 < length words → length words ≤ 1023
    → has_list kind ≡ true → map (word_entry kind) words ≡ list → IfOk result (λ r. stored_items (n r) ≡ words) → IfOk result (AddsRecord bits old new m n (length words ∷ words))
    → IfOk result (MakesItems kind old new m n list)
made_list old new m n bits words list kind (Ok ref) some few has are reads adds = makes_list old new m n bits words list some few kind ref has are reads adds
made_list old new m n bits words list kind (Err e) some few has are reads adds = tt
