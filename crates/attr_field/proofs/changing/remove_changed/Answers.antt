use Rattle.std.proofs.Common.{◌+◌, ◌*◌, ◌^◌, ◌<◌, ℤ, List, [], length, None, refl, sym, ap, subst, ◌∙◌, arith, inl}
use Rattle.std.proofs.lemmas.Result.{err_from_is_err_and}
use Rattle.store_api.proofs.May.{may_do-same, may_do-then}
use Rattle.image_format.specs.Documents.{column_at}
use Rattle.image_format.specs.Postings.{index_of}
use Rattle.index_model.specs.Changes.{first_weights, IsBetween}
use Rattle.index_model.specs.Columns.{Column, items_of, with_change}
use Rattle.index_model.specs.Index.{Index, IsIndexOf}
use Rattle.attr_types.specs.declared.value.Value.{Value}
use Rattle.value_index.specs.Widths.{IsWalkWidth}
use Rattle.posting_store.proofs.RefusalLemmas.{of_more, of_one}
use Rattle.attr_field.specs.Widths.{IsFieldWidth}
use Rattle.attr_field.proofs.WidthLemmas.{removed_width}
use Rattle.attr_field.proofs.ChangeLemmas.{weights, field_stands, has_middle, index_ends, none_added, step_ends}
use Rattle.value_index.specs.Counts.{value_nodes}
use Rattle.attr_field.proofs.CountLemmas.{out_one, out_counts, out_low}
use Rattle.attr_field.proofs.SizeLemmas.{removes_low}
use Rattle.attr_field.specs.Counts.{lost_values, new_values}
use Rattle.attr_field.proofs.WeightLemmas.{items_typed}
use Rattle.attr_types.specs.Value.{values_of, AreOfType}
use Rattle.attr_types.specs.declared.items.Item.{Item}
use Rattle.attr_field.proofs.changing.remove_changed.Goals as goal

pub take_out-requires : goal.take_out-requires
take_out-requires g c =
    let begun = g.S.Store.ledger c.args.store.now in
    let k = g.S.Frozen.records c.args.store.now in (
      omega arith,
      (
        c.requires.unit,
        (field_stands c.args.kind c.args.value_type begun k c.args.roots.documents c.args.roots.dictionary c.args.doc c.requires.field c.requires.owns c.requires.refers, c.requires.there),
      ),
    )

pub returns-in_err-documents-clause-makes : goal.returns-in_err-documents-clause-makes
returns-in_err-documents-clause-makes g c = let p = err_from_is_err_and c.from_residual.result c.from_residual.ensures.1 in rw p.1 tt

pub returns-in_err-documents-clause-refuses : goal.returns-in_err-documents-clause-refuses
returns-in_err-documents-clause-refuses g c =
    let ledger = g.S.Store.ledger in
    let records = g.S.Frozen.records in
    let a = ledger c.args.store.now in
    let k = records c.args.store.now in
    let kind = c.args.kind in
    let type = c.args.value_type in
    let D = c.args.roots.documents in
    let I = c.args.roots.dictionary in
    let doc = c.args.doc in
    let column = column_at kind type k D in
    let start = index_of type k I in
    let up = (c.documents_law.ensures.lawful kind type k D c.requires.field.documents_are).2.ascends in
    let of = c.requires.field.index_of_documents in
    let old = first_weights [] c.args.old.now in
    let among = IsFieldWidth c.args.dense kind (with_change column doc None) (items_of column doc) [] in
    let p = err_from_is_err_and c.from_residual.result c.from_residual.ensures.1 in
    rw (p.1, p.2) (of_one among a a (ledger c.take_out.new.store) 34 _ (may_do-same a) refl (inl (inl refl)) c.in_err-documents.ensures.refuses)

pub returns-in_err-documents-clause-may : goal.returns-in_err-documents-clause-may
returns-in_err-documents-clause-may g c = c.take_out.ensures.may

pub remove_values-requires : goal.remove_values-requires
remove_values-requires g c =
    let records = g.S.Frozen.records in
    let begun = g.S.Store.ledger c.args.store.now in
    let k = records c.args.store.now in
    let m = records c.take_out.new.store in
    let kind = c.args.kind in
    let type = c.args.value_type in
    let D = c.args.roots.documents in
    let I = c.args.roots.dictionary in
    let doc = c.args.doc in
    let old = first_weights [] c.args.old.now in
    let new : List (Value × ℤ) = [] in
    let lawful = c.documents_law.ensures.lawful in
    let between = subst (λ (i : Index). IsBetween (index_of type k I) doc (weights new) (λ v. None) i) (sym c.in_ok-documents.ensures.index)
    (none_added kind type begun k D I doc c.requires.field) in (
      omega arith,
      (
        c.take_out.ensures.may.unit ∙ c.requires.unit,
        (
          c.in_ok-documents.ensures.steps.stands,
          (
            c.in_ok-documents.ensures.form c.args.dense c.requires.form,
            (
              c.requires.how,
              (
                subst (λ (xs : List Item). AreOfType type (values_of xs)) (sym c.requires.was) (items_typed kind type k D doc),
                (
                  has_middle kind type begun k D I doc c.requires.field lawful old (ap (first_weights []) c.requires.was) None new refl (index_of type m I) between,
                  λ index ends. subst (λ (column : Column). IsIndexOf column index) (sym c.in_ok-documents.ensures.steps.column_is)
                      (index_ends kind type begun k D I doc c.requires.field lawful old (ap (first_weights []) c.requires.was) None new refl (index_of type m I) between index ends),
                ),
              ),
            ),
          ),
        ),
      ),
    )

pub returns-in_err-dictionary-clause-makes : goal.returns-in_err-dictionary-clause-makes
returns-in_err-dictionary-clause-makes g c =
    let p = err_from_is_err_and c.from_residual-in_err-dictionary.result c.from_residual-in_err-dictionary.ensures.1 in rw p.1 tt

pub returns-in_err-dictionary-clause-refuses : goal.returns-in_err-dictionary-clause-refuses
returns-in_err-dictionary-clause-refuses g c =
    let ledger = g.S.Store.ledger in
    let records = g.S.Frozen.records in
    let a = ledger c.args.store.now in
    let k = records c.args.store.now in
    let kind = c.args.kind in
    let type = c.args.value_type in
    let D = c.args.roots.documents in
    let I = c.args.roots.dictionary in
    let doc = c.args.doc in
    let column = column_at kind type k D in
    let start = index_of type k I in
    let up = (c.documents_law.ensures.lawful kind type k D c.requires.field.documents_are).2.ascends in
    let of = c.requires.field.index_of_documents in
    let old = first_weights [] c.args.old.now in
    let among = IsFieldWidth c.args.dense kind (with_change column doc None) (items_of column doc) [] in
    let m = records c.take_out.new.store in
    let new : List (Value × ℤ) = [] in
    let between = subst (λ (i : Index). IsBetween start doc (weights new) (λ v. None) i) (sym c.in_ok-documents.ensures.index)
    (none_added kind type a k D I doc c.requires.field) in
    let p = err_from_is_err_and c.from_residual-in_err-dictionary.result c.from_residual-in_err-dictionary.ensures.1 in
    rw (p.1, p.2) (of_more (IsWalkWidth c.args.dense (index_of type m I) doc (weights new) (weights old)) among a (ledger c.take_out.new.store) (ledger c.remove_values.new.store) _ c.take_out.ensures.may
    (removed_width c.args.dense kind column start doc None up of old new (ap (first_weights []) c.requires.was) refl (index_of type m I) between) c.in_err-dictionary.ensures.refuses)

pub returns-in_err-dictionary-clause-may : goal.returns-in_err-dictionary-clause-may
returns-in_err-dictionary-clause-may g c =
    let ledger = g.S.Store.ledger in
    may_do-then (ledger c.args.store.now) (ledger c.take_out.new.store) (ledger c.remove_values.new.store) c.take_out.ensures.may c.remove_values.ensures.may

pub returns-clause-makes : goal.returns-clause-makes
returns-clause-makes g c =
    let ledger = g.S.Store.ledger in
    let records = g.S.Frozen.records in
    let k = records c.args.store.now in
    let kind = c.args.kind in
    let type = c.args.value_type in
    let D = c.args.roots.documents in
    let I = c.args.roots.dictionary in
    step_ends kind type (ledger c.args.store.now) k D I c.args.doc c.requires.field c.key_law.ensures.read (ledger c.take_out.new.store) (ledger c.remove_values.new.store)
    (records c.take_out.new.store) (records c.remove_values.new.store) c.in_ok-documents.documents I c.in_ok-dictionary.dictionary
    (with_change (column_at kind type k D) c.args.doc None) c.take_out.ensures.may c.in_ok-documents.ensures.steps c.in_ok-dictionary.ensures.steps c.in_ok-dictionary.ensures.index

pub returns-in_err-documents-clause-counts : goal.returns-in_err-documents-clause-counts
returns-in_err-documents-clause-counts g c =
    let ledger = g.S.Store.ledger in
    let records = g.S.Frozen.records in
    let begun = ledger c.args.store.now in
    let k = records c.args.store.now in
    let kind = c.args.kind in
    let type = c.args.value_type in
    let D = c.args.roots.documents in
    let I = c.args.roots.dictionary in
    let doc = c.args.doc in
    let old = first_weights [] c.args.old.now in
    let column = column_at kind type k D in
    let start = index_of type k I in
    let of = c.requires.field.index_of_documents in
    let last = ledger c.take_out.new.store in
    out_one kind column start doc 0 of old [] c.args.dense (34 * new_values old []) 17 (34 * lost_values old []) begun begun last last c.take_out.ensures.counts

pub returns-in_err-dictionary-clause-counts : goal.returns-in_err-dictionary-clause-counts
returns-in_err-dictionary-clause-counts g c =
    let ledger = g.S.Store.ledger in
    let records = g.S.Frozen.records in
    let begun = ledger c.args.store.now in
    let k = records c.args.store.now in
    let kind = c.args.kind in
    let type = c.args.value_type in
    let D = c.args.roots.documents in
    let I = c.args.roots.dictionary in
    let doc = c.args.doc in
    let old = first_weights [] c.args.old.now in
    let column = column_at kind type k D in
    let start = index_of type k I in
    let of = c.requires.field.index_of_documents in
    let none : List (Value × ℤ) = [] in
    let middle = index_of type (records c.take_out.new.store) I in
    let between = subst (λ (i : Index). IsBetween start doc (weights none) (λ v. None) i) (sym c.in_ok-documents.ensures.index)
    (none_added kind type begun k D I doc c.requires.field) in
    out_counts kind column start doc of old none refl c.args.dense begun (ledger c.take_out.new.store) (ledger c.remove_values.new.store) middle between c.take_out.ensures.may
    c.take_out.ensures.counts c.remove_values.ensures.counts

pub returns-clause-counts : goal.returns-clause-counts
returns-clause-counts g c =
    let ledger = g.S.Store.ledger in
    let records = g.S.Frozen.records in
    let begun = ledger c.args.store.now in
    let k = records c.args.store.now in
    let kind = c.args.kind in
    let type = c.args.value_type in
    let D = c.args.roots.documents in
    let I = c.args.roots.dictionary in
    let doc = c.args.doc in
    let old = first_weights [] c.args.old.now in
    let column = column_at kind type k D in
    let start = index_of type k I in
    let of = c.requires.field.index_of_documents in
    let none : List (Value × ℤ) = [] in
    let middle = index_of type (records c.take_out.new.store) I in
    let between = subst (λ (i : Index). IsBetween start doc (weights none) (λ v. None) i) (sym c.in_ok-documents.ensures.index)
    (none_added kind type begun k D I doc c.requires.field) in
    out_counts kind column start doc of old none refl c.args.dense begun (ledger c.take_out.new.store) (ledger c.remove_values.new.store) middle between c.take_out.ensures.may
    c.take_out.ensures.counts c.remove_values.ensures.counts

pub returns-clause-may : goal.returns-clause-may
returns-clause-may g c =
    let ledger = g.S.Store.ledger in
    may_do-then (ledger c.args.store.now) (ledger c.take_out.new.store) (ledger c.remove_values.new.store) c.take_out.ensures.may c.remove_values.ensures.may

pub returns-in_err-documents-clause-low : goal.returns-in_err-documents-clause-low
returns-in_err-documents-clause-low g c =
    let ledger = g.S.Store.ledger in
    let records = g.S.Frozen.records in
    let begun = ledger c.args.store.now in
    let k = records c.args.store.now in
    let kind = c.args.kind in
    let type = c.args.value_type in
    let D = c.args.roots.documents in
    let I = c.args.roots.dictionary in
    let doc = c.args.doc in
    let old = first_weights [] c.args.old.now in
    let column = column_at kind type k D in
    let start = index_of type k I in
    let of = c.requires.field.index_of_documents in
    λ levels stays.
    let entry = c.take_out.ensures.low levels stays.some (let low = stays.documents in let less : length column < 2 * 8 ^ levels = omega arith in less) in
    let last = ledger c.take_out.new.store in
    out_one kind column start doc 0 of old [] c.args.dense (value_nodes levels * new_values old []) (2 * levels + 1) (value_nodes levels * lost_values old []) begun begun last last entry

pub returns-in_err-dictionary-clause-low : goal.returns-in_err-dictionary-clause-low
returns-in_err-dictionary-clause-low g c =
    let ledger = g.S.Store.ledger in
    let records = g.S.Frozen.records in
    let begun = ledger c.args.store.now in
    let k = records c.args.store.now in
    let kind = c.args.kind in
    let type = c.args.value_type in
    let D = c.args.roots.documents in
    let I = c.args.roots.dictionary in
    let doc = c.args.doc in
    let old = first_weights [] c.args.old.now in
    let column = column_at kind type k D in
    let start = index_of type k I in
    let of = c.requires.field.index_of_documents in
    let none : List (Value × ℤ) = [] in
    let middle = index_of type (records c.take_out.new.store) I in
    let between = subst (λ (i : Index). IsBetween start doc (weights none) (λ v. None) i) (sym c.in_ok-documents.ensures.index)
    (none_added kind type begun k D I doc c.requires.field) in
    λ levels stays.
    let entry = c.take_out.ensures.low levels stays.some (let low = stays.documents in let less : length column < 2 * 8 ^ levels = omega arith in less) in
    let gone = c.remove_values.ensures.low levels (removes_low column start doc levels none of stays middle old between) in
    out_low kind column start doc of old none refl c.args.dense levels begun (ledger c.take_out.new.store) (ledger c.remove_values.new.store) middle between c.take_out.ensures.may entry gone

pub returns-clause-low : goal.returns-clause-low
returns-clause-low g c =
    let ledger = g.S.Store.ledger in
    let records = g.S.Frozen.records in
    let begun = ledger c.args.store.now in
    let k = records c.args.store.now in
    let kind = c.args.kind in
    let type = c.args.value_type in
    let D = c.args.roots.documents in
    let I = c.args.roots.dictionary in
    let doc = c.args.doc in
    let old = first_weights [] c.args.old.now in
    let column = column_at kind type k D in
    let start = index_of type k I in
    let of = c.requires.field.index_of_documents in
    let none : List (Value × ℤ) = [] in
    let middle = index_of type (records c.take_out.new.store) I in
    let between = subst (λ (i : Index). IsBetween start doc (weights none) (λ v. None) i) (sym c.in_ok-documents.ensures.index)
    (none_added kind type begun k D I doc c.requires.field) in
    λ levels stays.
    let entry = c.take_out.ensures.low levels stays.some (let low = stays.documents in let less : length column < 2 * 8 ^ levels = omega arith in less) in
    let gone = c.remove_values.ensures.low levels (removes_low column start doc levels none of stays middle old between) in
    out_low kind column start doc of old none refl c.args.dense levels begun (ledger c.take_out.new.store) (ledger c.remove_values.new.store) middle between c.take_out.ensures.may entry gone

pub returns-in_err-documents-clause-form : goal.returns-in_err-documents-clause-form
returns-in_err-documents-clause-form g c = let p = err_from_is_err_and c.from_residual.result c.from_residual.ensures.1 in rw p.1 tt

pub returns-in_err-dictionary-clause-form : goal.returns-in_err-dictionary-clause-form
returns-in_err-dictionary-clause-form g c =
    let p = err_from_is_err_and c.from_residual-in_err-dictionary.result c.from_residual-in_err-dictionary.ensures.1 in rw p.1 tt

pub returns-clause-form : goal.returns-clause-form
returns-clause-form g c = c.in_ok-dictionary.ensures.form

pub slice_bounds-remove_values-end : goal.slice_bounds-remove_values-end
slice_bounds-remove_values-end g c = refl
