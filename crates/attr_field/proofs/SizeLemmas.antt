-- How many values an index has and how many documents a list, while a document's weights change: so few that no tree gets more levels.
use Rattle.std.proofs.Common.{◌≡◌, ℕ, ℤ, suc, ◌+◌, ◌≤◌, Bool, true, false, ◌||◌, cond, List, [], ◌∷◌, ◌++◌, length, Option, Some, None, refl, sym, ap, ◌∙◌, arith, nat_cmp, is_eq}
use Rattle.std.proofs.lemmas.Cmp.{eq_by_cmp_equiv}
use Rattle.std.proofs.lemmas.List.{length-append, length-map}
use Rattle.std.proofs.lemmas.Map.Keys.{IsDistinct-from_sorted}
use Rattle.std.proofs.lemmas.Map.Made.{length-le_from_is_member}
use Rattle.std.specs.BTreeMap.{insert_entry, is_at}
use Rattle.std.specs.declared.cmp.Ordering.{Ordering}
use Rattle.std.specs.declared.cmp.Ordering.TheVariants.{Less, Equal, Greater}
use Rattle.std.specs.List.{cons_option, find, list_any}
use Rattle.std.specs.Map.{keys_of, lookup}
use Rattle.std.specs.Option.{is_some, option_map}
use Rattle.std.specs.Ordering.{match_ordering}
use Rattle.list_lemmas.proofs.Counts.{length-remove_entry}
use Rattle.attr_types.specs.ProofsForOrder.{value_cmp_total}
use Rattle.attr_types.specs.Value.{value_cmp}
use Rattle.attr_types.specs.declared.items.Item.{Item}
use Rattle.attr_types.specs.declared.value.Value.{Value}
use Rattle.index_model.proofs.MiddleLemmas.{both_walks}
use Rattle.index_model.proofs.OfLemmas.{any-append, has_some, any-index}
use Rattle.index_model.proofs.StayLemmas.{some-remove}
use Rattle.index_model.specs.Changes.{settled, IsBetween}
use Rattle.index_model.specs.Columns.{Column, documents_with}
use Rattle.index_model.specs.Index.{Index, IsIndexOf, list_of}
use Rattle.value_index.specs.Counts.{AddsLow, IsLow, RemovesLow}
use Rattle.attr_field.specs.Counts.{StaysLow}
use Rattle.attr_field.proofs.ChangeLemmas.{weights}

-- ---- a list of documents
inserted : (docs : List (ℕ × ℤ)) (doc : ℕ) (weight : ℤ) → length (insert_entry nat_cmp docs doc weight) ≤ length docs + 1
inserted [] doc weight = omega arith
inserted (e ∷ es) doc weight = told (nat_cmp doc e.0) (inserted es doc weight)
  where
    told : (r : Ordering) → length (insert_entry nat_cmp es doc weight) ≤ length es + 1
        → length (match_ordering r ((doc, weight) ∷ e ∷ es) ((e.0, weight) ∷ es) (e ∷ insert_entry nat_cmp es doc weight)) ≤ suc (length es) + 1
    told Less rest = omega arith
    told Equal rest = omega arith
    told Greater rest = omega arith

settled_few : (o r : Option ℤ) (doc : ℕ) (docs : List (ℕ × ℤ)) → length (settled o r doc docs) ≤ length docs + 1
settled_few (Some weight) r doc docs = inserted docs doc weight
settled_few None (Some weight) doc docs = let few = length-remove_entry (is_at (nat_cmp doc)) docs in omega arith
settled_few None None doc docs = omega arith

pub documents_few : (value : Value) (column : Column) → length (documents_with value column) ≤ length column
documents_few value [] = omega arith
documents_few value (e ∷ column) = told (option_map (λ (item : Item). (e.0, item.weight)) (find (λ (item : Item). is_eq (value_cmp value item.value)) e.1)) (documents_few value column)
  where
    told : (o : Option (ℕ × ℤ)) → length (documents_with value column) ≤ length column → length (cons_option o (documents_with value column)) ≤ suc (length column)
    told None rest = omega arith
    told (Some p) rest = omega arith

-- ---- the values
any_keys : (value : Value) (es : List (Value × ℤ)) → list_any (is_at (value_cmp value)) (keys_of es) ≡ is_some (lookup (is_at (value_cmp value)) es)
any_keys value [] = refl
any_keys value (e ∷ es) =
    elim (is_eq (value_cmp value e.0)) as (λ b. (b || list_any (is_at (value_cmp value)) (keys_of es)) ≡ is_some (cond b (Some e.1) (lookup (is_at (value_cmp value)) es)))
    [ true ↦ refl | false ↦ any_keys value es ]

either : (a : Bool) → (a || true) ≡ true
either true = refl
either false = refl

first : (a : Bool) → a ≡ true → (a || false) ≡ true
first true is = refl
first false is = cc

settled_some : (o r : Option ℤ) (doc : ℕ) (docs : List (ℕ × ℤ)) → has_some (settled o r doc docs) ≡ true → (has_some docs || is_some o) ≡ true
settled_some (Some weight) r doc docs some = either (has_some docs)
settled_some None (Some weight) doc docs some = first (has_some docs) (some-remove doc docs some)
settled_some None None doc docs some = first (has_some docs) some

module _ (column : Column) (start : Index) (doc : ℕ) (done : List (Value × ℤ)) (removed : Value → Option ℤ) (index : Index)
    (of : IsIndexOf column start) (p : IsBetween start doc (weights done) removed index) where
  lists_few : (value : Value) → length (list_of value index) ≤ length column + 1
  lists_few value =
      let few : length (settled (weights done value) (removed value) doc (list_of value start)) ≤ length (list_of value start) + 1
      = settled_few (weights done value) (removed value) doc (list_of value start) in
      let is : length (list_of value index) ≡ length (settled (weights done value) (removed value) doc (list_of value start)) = ap length (p.lists value) in
      let had : length (list_of value start) ≡ length (documents_with value column) = ap length (of.lists value) in
      let all = documents_few value column in
      omega (arith, few, is, had, all)

  member : (value : Value) → list_any (is_at (value_cmp value)) (keys_of index) ≡ true → list_any (is_at (value_cmp value)) (keys_of start ++ keys_of done) ≡ true
  member value there =
      let some : has_some (settled (weights done value) (removed value) doc (list_of value start)) ≡ true
      = sym (ap has_some (p.lists value)) ∙ sym (any-index value index p.formed.filled) ∙ there in
      any-append (is_at (value_cmp value)) (keys_of start) (keys_of done)
      ∙ ap (λ b. b || list_any (is_at (value_cmp value)) (keys_of done)) (any-index value start of.formed.filled)
      ∙ ap (λ b. has_some (list_of value start) || b) (any_keys value done)
      ∙ settled_some (weights done value) (removed value) doc (list_of value start) some

  values_few : length index ≤ length start + length done
  values_few =
      let few : length (keys_of index) ≤ length (keys_of start ++ keys_of done)
      = length-le_from_is_member (eq_by_cmp_equiv value_cmp_total) (keys_of index) (keys_of start ++ keys_of done)
      (IsDistinct-from_sorted value_cmp (keys_of index) p.formed.ascends) member in
      let both : length (keys_of start ++ keys_of done) ≡ length (keys_of start) + length (keys_of done) = length-append (keys_of start) (keys_of done) in
      let here : length (keys_of index) ≡ length index = length-map index (λ e. e.0) in
      let there : length (keys_of start) ≡ length start = length-map start (λ e. e.0) in
      let more : length (keys_of done) ≡ length done = length-map done (λ e. e.0) in
      omega (arith, few, both, here, there, more)

  pub between_low : (levels : ℕ) (new : List (Value × ℤ)) → length done ≤ length new → StaysLow levels column new → IsLow levels index
  between_low levels new fewer stays = record {
    some = stays.some;
    values = let few = values_few in let low = stays.values start of in omega (arith, few, fewer, low);
    lists = λ value. let few = lists_few value in let low = stays.documents in omega (arith, few, low);
  }

module _ (column : Column) (start : Index) (doc levels : ℕ) (new : List (Value × ℤ)) (of : IsIndexOf column start) (stays : StaysLow levels column new) where
  pub adds_low : AddsLow levels start doc new
  adds_low done rest index joins between =
      let all : length (done ++ rest) ≡ length new = ap length joins in
      let both = length-append done rest in
      between_low column start doc done (λ value. None) index of between levels new (omega (arith, all, both)) stays

  pub removes_low : (middle : Index) (old : List (Value × ℤ)) → IsBetween start doc (weights new) (λ value. None) middle → RemovesLow levels middle doc (weights new) old
  removes_low middle old first done rest index joins between =
      between_low column start doc new (weights done) index of (both_walks start doc (weights done) (weights new) middle index of.formed first between) levels new (omega arith) stays
