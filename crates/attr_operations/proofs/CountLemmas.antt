-- How many records a change of a document makes: attribute by attribute, and then the unit as a whole.
use Rattle.std.proofs.Common.{◌≡◌, Bool, ℕ, ℤ, zero, suc, ◌+◌, ◌-◌, ◌*◌, ◌≤◌, true, List, [], Option, Some, option_map, sym, ap, subst, arith}
use Rattle.std.specs.Prelude.{min, slice_get, unwrap_or}
use Rattle.entry_ref.specs.Records.{Records}
use Rattle.array_store.specs.Adding.{MakesOneOf}
use Rattle.array_store.proofs.RootLemmas.{one_dropped}
use Rattle.entry_ref.specs.declared.images.Image.{Image}
use Rattle.store_api.proofs.Counts.{at_most-back}
use Rattle.store_api.specs.Calls.{Undoes, EndsOf, RefusesOf, StoresCommit}
use Rattle.store_api.specs.declared.store.Stored.{Stored}
use Rattle.store_api.specs.Ledgers.{Ledger, OfWidth, IsSettled, capacity}
use Rattle.store_api.specs.Units.{MayDo, MakesAtMost, MakesWithin}
use Rattle.store_api.specs.declared.store.StoreError.{StoreError}
use Rattle.store_api.specs.declared.store.StoreError.TheVariants.{Full, Memory}
use Rattle.attr_field.specs.Counts.{change_forms, change_records, field_nodes, low_nodes, StaysLow}
use Rattle.attr_field.specs.Forms.{wants}
use Rattle.index_model.specs.Changes.{first_weights}
use Rattle.index_model.specs.Columns.{Column, column_of}
use Rattle.attr_types.specs.Query.{items_in}
use Rattle.attr_types.specs.Table.{Table}
use Rattle.attr_types.specs.Value.{Document}
use Rattle.attr_types.specs.declared.field.Field.{Field}
use Rattle.attr_types.specs.declared.items.Item.{Item}
use Rattle.attr_types.specs.declared.kind.Kind.{Kind}
use Rattle.attr_types.specs.declared.kind.Kind.TheVariants.{Single}
use Rattle.attr_types.specs.declared.value.Value.{Value}
use Rattle.value_index.specs.Counts.{besides, by_width}
use Rattle.value_index.proofs.CountLemmas.{within_none}
use Rattle.value_index.proofs.WalksCountLemmas.{besides_more, besides_then}
use Rattle.attr_operations.specs.Counts.{document_forms, document_nodes, document_records, items_if_there, kind_at, low_document, weights_at, MakesDocument, SparesAtMost}

-- ---- more attributes make no less
on_by : ℕ → ℕ → ℕ
on_by zero i = i
on_by (suc d) i = suc (on_by d i)

on_by-plus : (d i : ℕ) → on_by d i ≡ i + d
unfolding on_by
on_by-plus zero i = let none : i ≡ i + zero = omega arith in none
on_by-plus (suc d) i = let p = on_by-plus d i in let next : suc (on_by d i) ≡ i + suc d = omega arith in next

sum_rises : (sum : ℕ → ℕ) → ((i : ℕ) → sum i ≤ sum (suc i)) → (d i : ℕ) → sum i ≤ sum (on_by d i)
unfolding on_by
sum_rises sum step zero i = let same : sum i ≤ sum i = omega arith in same
sum_rises sum step (suc d) i = let p = sum_rises sum step d i in let one = step (on_by d i) in let more : sum i ≤ sum (suc (on_by d i)) = omega arith in more

rises : (sum : ℕ → ℕ) → ((i : ℕ) → sum i ≤ sum (suc i)) → (i n : ℕ) → i ≤ n → sum i ≤ sum n
rises sum step i n below =
    let plus = on_by-plus (n - i) i in
    let whole : on_by (n - i) i ≡ n = omega arith in
    subst (λ k. sum i ≤ sum k) whole (sum_rises sum step (n - i) i)

more_of : (a b : ℕ) → a ≤ a + b
more_of a b = omega arith

module _ (dense : Bool) (fields : List Field) (table : Table) (doc : ℕ) (old new : Option Document) where
  abbrev forms_to : ℕ → ℕ → ℕ
  forms_to n = document_forms dense fields table doc old new n

  abbrev records_to : ℕ → ℕ → ℕ
  records_to n = document_records fields table doc old new n

  module _ {H : Type 0} where
    pub makes_none : (ledger : Ledger H) (n : ℕ) → MakesDocument dense ledger ledger fields table doc old new n
    makes_none ledger n = record {
      few = within_none ledger (besides (by_width (document_nodes old new n) (records_to n)) (forms_to n));
      low = λ levels stay. within_none ledger (besides (by_width (low_document levels old new n) (records_to n)) (forms_to n));
    }

    module _ (begun now : Ledger H) (i : ℕ) where
      pub counts_all : (n : ℕ) → i ≤ n → MakesDocument dense begun now fields table doc old new i → MakesDocument dense begun now fields table doc old new n
      counts_all n below made =
          let records : (w : ℕ) → records_to i w ≤ records_to n w =
          λ w. rises (λ k. records_to k w)
          (λ k. more_of (records_to k w)
          (change_records (kind_at fields k) (column_of k table) doc (items_if_there old k) (items_if_there new k) w)) i n below in
          let forms : (w : ℕ) → forms_to i w ≤ forms_to n w =
          λ w. rises (λ k. forms_to k w)
          (λ k. more_of (forms_to k w)
          (change_forms (wants dense (kind_at fields k)) (column_of k table) doc (items_if_there old k) (items_if_there new k) w)) i n below in
          record {
            few = besides_more begun now (document_nodes old new i) (document_nodes old new n) (records_to i) (records_to n) (forms_to i) (forms_to n)
                (rises (document_nodes old new) (λ k. omega arith) i n below) records forms made.few;
            low = λ levels stay. besides_more begun now (low_document levels old new i) (low_document levels old new n) (records_to i) (records_to n) (forms_to i) (forms_to n)
                (rises (low_document levels old new) (λ k. more_of (low_document levels old new k) (low_nodes levels (weights_at old k) (weights_at new k))) i n below) records forms
                (made.low levels (λ field less. stay field (omega arith)));
          }

      -- one attribute more, of this kind and column
      module _ (later : Ledger H) (field : Field) (column : Column) (at : slice_get fields i ≡ Some field) (reads : column ≡ column_of i table)
          (before : List Item) (after : Option (List Item)) (was : before ≡ items_if_there old i) (is : after ≡ option_map (λ d. items_in d i) new) where
        kind_is : field.kind ≡ kind_at fields i
        kind_is = sym (ap (λ (o : Option Field). unwrap_or (option_map (λ (f : Field). f.kind) o) Single) at)

        abbrev Makes : (List (Value × ℤ) → List (Value × ℤ) → ℕ) → Kind → Column → List Item → List Item → Type 0
        Makes nodes kind cl had has =
            MakesWithin now later (besides (by_width (nodes (first_weights [] had) (first_weights [] has)) (change_records kind cl doc had has)) (change_forms (wants dense kind) cl doc had has))

        at_items : (nodes : List (Value × ℤ) → List (Value × ℤ) → ℕ) → Makes nodes field.kind column before (unwrap_or after [])
            → Makes nodes (kind_at fields i) (column_of i table) (items_if_there old i) (items_if_there new i)
        at_items nodes more =
            subst (λ (kind : Kind). Makes nodes kind (column_of i table) (items_if_there old i) (items_if_there new i)) kind_is
            (subst (λ (cl : Column). Makes nodes field.kind cl (items_if_there old i) (items_if_there new i)) reads
            (subst (λ (items : List Item). Makes nodes field.kind column items (items_if_there new i)) was
            (subst (λ (o : Option (List Item)). Makes nodes field.kind column before (unwrap_or o [])) is more)))

        pub counts_on : MayDo begun now → MakesDocument dense begun now fields table doc old new i
            → Makes field_nodes field.kind column before (unwrap_or after [])
            → ((levels : ℕ) → StaysLow levels column (first_weights [] (unwrap_or after [])) → Makes (low_nodes levels) field.kind column before (unwrap_or after []))
            → MakesDocument dense begun later fields table doc old new (i + 1)
        counts_on may made more low =
            let next : suc i ≡ i + 1 = omega arith in
            let records = change_records (kind_at fields i) (column_of i table) doc (items_if_there old i) (items_if_there new i) in
            let forms = change_forms (wants dense (kind_at fields i)) (column_of i table) doc (items_if_there old i) (items_if_there new i) in
            subst (λ n. MakesDocument dense begun later fields table doc old new n) next (record {
              few = besides_then begun now later (document_nodes old new i) (field_nodes (weights_at old i) (weights_at new i)) (records_to i) records (forms_to i) forms may made.few
                  (at_items field_nodes more);
              low = λ levels stay. besides_then begun now later (low_document levels old new i) (low_nodes levels (weights_at old i) (weights_at new i)) (records_to i) records (forms_to i) forms may
                  (made.low levels (λ number less. stay number (omega arith)))
                  (at_items (low_nodes levels) (low levels
                  (subst (λ (cl : Column). StaysLow levels cl (first_weights [] (unwrap_or after []))) (sym reads)
                  (subst (λ (o : Option (List Item)). StaysLow levels (column_of i table) (first_weights [] (unwrap_or o []))) (sym is) (stay i (omega arith))))));
            })

-- ---- a unit ends
min-more : (a b c : ℕ) → a ≤ b → min a c ≤ min b c
min-more a b c less = omega arith

at_most-ends : (k most : ℕ) (a b c : OfWidth) → MakesAtMost k most a b → EndsOf b c → c.fresh ≡ 0 → MakesAtMost k most a c
at_most-ends k most a b c made ends none = record {
  made = omega (arith, made.made, ends.made);
  fresh = omega (arith, none);
  buffers = omega (arith, made.buffers, ends.buffers);
  room = let same : c.buffers * k ≡ b.buffers * k = ap (λ n. n * k) ends.buffers in omega (arith, made.room, same, min-more b.spare c.spare k ends.spare);
}

module _ {H : Type 0} (old begun mid new : Ledger H) (most : ℕ → ℕ) (begins : begun ≡ record old { unit = true }) (made : MakesWithin begun mid most) where
  begun_made : MakesWithin (record old { unit = true }) mid most
  begun_made = subst (λ (l : Ledger H). MakesWithin l mid most) begins made

  pub counts_unit : (o : Records) → ((w : ℕ) → EndsOf (mid.of_width w) (new.of_width w)) → IsSettled new o → MakesWithin old new most
  counts_unit o ends settled = record {
    each = λ w. at_most-ends (capacity old.work.sizes.words w) (most w) (old.of_width w) (mid.of_width w) (new.of_width w) (begun_made.each w) (ends w) (settled.fresh w);
  }

  pub spares_among : (among : ℕ → Type 0) (m o : Records) (e : StoreError) → IsSettled old m → RefusesOf among begun mid e → Undoes mid new o → SparesAtMost new most e
  spares_among among m o (Full w active held oldest) settled refuses undoes =
      let fresh = (begun_made.each w).fresh in
      let none = settled.fresh w in
      let spare = refuses.full.spare in
      let back = undoes.spare w in
      omega arith
  spares_among among m o Memory settled refuses undoes = tt

pub document_unit : {H : Type 0} (dense : Bool) (old begun mid new : Ledger H) (fields : List Field) (table : Table) (doc : ℕ) (before after : Option Document) (count : ℕ)
    → begun ≡ record old { unit = true } → MakesDocument dense begun mid fields table doc before after count → (o : Records) → ((w : ℕ) → EndsOf (mid.of_width w) (new.of_width w)) → IsSettled new o
    → MakesDocument dense old new fields table doc before after count
document_unit dense old begun mid new fields table doc before after count begins made o ends settled =
    let records = document_records fields table doc before after count in
    let forms = document_forms dense fields table doc before after count in
    record {
      few = counts_unit old begun mid new (besides (by_width (document_nodes before after count) records) forms) begins made.few o ends settled;
      low = λ levels stay. counts_unit old begun mid new (besides (by_width (low_document levels before after count) records) forms) begins (made.low levels stay) o ends settled;
    }

-- ---- one record, of a width
module _ {H : Type 0} (width : ℕ) where
  pub one_unit : (old begun mid new : Ledger H) → begun ≡ record old { unit = true } → MakesOneOf width begun mid → (o : Records) → ((w : ℕ) → EndsOf (mid.of_width w) (new.of_width w)) → IsSettled new o
      → MakesOneOf width old new
  one_unit old begun mid new begins made o ends settled =
      let here : MakesOneOf width (record old { unit = true }) mid = subst (λ (l : Ledger H). MakesOneOf width l mid) begins made in
      record {
        one = at_most-ends (capacity old.work.sizes.words width) 1 (old.of_width width) (mid.of_width width) (new.of_width width) here.one (ends width) (settled.fresh width);
        others = λ k w other. at_most-ends k 0 (old.of_width w) (mid.of_width w) (new.of_width w) (here.others k w other) (ends w) (settled.fresh w);
      }

  -- and then a commit
  pub one_committed : (bits : ℕ) (old mid new : Ledger H) (image : Image) (answer : Stored) → MakesOneOf width old mid → StoresCommit bits mid new image answer → MakesOneOf width old new
  one_committed bits old mid new image answer made stores = one_dropped width old mid new made (λ k w. at_most-back k (mid.of_width w) (new.of_width w) (stores.counts w))
