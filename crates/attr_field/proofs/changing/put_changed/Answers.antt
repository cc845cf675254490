use Rattle.std.proofs.Common.{◌+◌, ◌*◌, ◌^◌, ◌<◌, List, [], length, None, Some, refl, sym, ap, subst, ◌∙◌, arith, inl}
use Rattle.std.proofs.lemmas.Result.{err_from_is_err_and}
use Rattle.store_api.proofs.May.{may_do-same, may_do-then}
use Rattle.image_format.specs.Documents.{column_at}
use Rattle.image_format.specs.Postings.{index_of}
use Rattle.index_model.specs.Changes.{first_weights, IsBetween}
use Rattle.index_model.specs.Columns.{Column, items_of, with_change}
use Rattle.index_model.specs.Index.{Index, IsIndexOf}
use Rattle.attr_field.specs.DocumentsChanges.{IsDocumentWidth}
use Rattle.value_index.specs.Widths.{IsWalkWidth}
use Rattle.posting_store.proofs.RefusalLemmas.{of_more}
use Rattle.attr_field.specs.Widths.{IsFieldWidth}
use Rattle.attr_field.proofs.WidthLemmas.{added_width, removed_width}
use Rattle.attr_field.proofs.ChangeLemmas.{weights, field_stands, has_before, has_middle, index_ends, step_ends, steps_then}
use Rattle.value_index.specs.Counts.{value_nodes}
use Rattle.attr_field.specs.Counts.{lost_values, new_values}
use Rattle.attr_field.proofs.CountLemmas.{put_one, put_two, put_three}
use Rattle.attr_field.proofs.SizeLemmas.{adds_low, removes_low}
use Rattle.attr_field.proofs.WeightLemmas.{items_typed}
use Rattle.attr_types.specs.Value.{values_of, AreOfType}
use Rattle.attr_types.specs.declared.items.Item.{Item}
use Rattle.attr_field.proofs.changing.put_changed.Goals as goal

pub add_values-requires : goal.add_values-requires
add_values-requires g c =
    let begun = g.S.Store.ledger c.args.store.now in
    let k = g.S.Frozen.records c.args.store.now in
    let kind = c.args.kind in
    let type = c.args.value_type in
    let documents = c.args.roots.documents in (
      omega arith,
      (
        omega arith,
        (
          c.requires.unit,
          (
            field_stands kind type begun k documents c.args.roots.dictionary c.args.doc c.requires.field c.requires.owns c.requires.refers,
            (
              c.requires.form,
              (
                c.requires.field.index_of_documents,
                (
                  c.requires.how,
                  (
                    c.requires.ones,
                    (
                      c.requires.fits.1,
                      has_before kind type begun k documents c.args.roots.dictionary c.args.doc c.requires.field c.documents_law.ensures.lawful (first_weights [] c.args.old.now)
                          (ap (first_weights []) c.requires.was),
                    ),
                  ),
                ),
              ),
            ),
          ),
        ),
      ),
    )

pub returns-in_err-added-clause-makes : goal.returns-in_err-added-clause-makes
returns-in_err-added-clause-makes g c = let p = err_from_is_err_and c.from_residual.result c.from_residual.ensures.1 in rw p.1 tt

pub returns-in_err-added-clause-refuses : goal.returns-in_err-added-clause-refuses
returns-in_err-added-clause-refuses g c =
    let ledger = g.S.Store.ledger in
    let records = g.S.Frozen.records in
    let a = ledger c.args.store.now in
    let k = records c.args.store.now in
    let kind = c.args.kind in
    let type = c.args.value_type in
    let D = c.args.roots.documents in
    let I = c.args.roots.dictionary in
    let doc = c.args.doc in
    let column = column_at kind type k D in
    let start = index_of type k I in
    let up = (c.documents_law.ensures.lawful kind type k D c.requires.field.documents_are).2.ascends in
    let of = c.requires.field.index_of_documents in
    let items = c.args.new.now in
    let old = first_weights [] c.args.old.now in
    let new = first_weights [] c.args.new.now in
    let among = IsFieldWidth c.args.dense kind (with_change column doc (Some items)) (items_of column doc) items in
    let p = err_from_is_err_and c.from_residual.result c.from_residual.ensures.1 in
    rw (p.1, p.2) (of_more (IsWalkWidth c.args.dense start doc (weights new) (λ v. None)) among a a (ledger c.add_values.new.store) _ (may_do-same a)
    (added_width c.args.dense kind column start doc (Some items) up of old new (ap (first_weights []) c.requires.was) refl) c.in_err-added.ensures.refuses)

pub returns-in_err-added-clause-may : goal.returns-in_err-added-clause-may
returns-in_err-added-clause-may g c = c.add_values.ensures.may

pub set_items-requires : goal.set_items-requires
set_items-requires g c =
    (omega arith, (c.add_values.ensures.may.unit ∙ c.requires.unit, (c.in_ok-added.ensures.steps.stands, (c.requires.fits, c.in_ok-added.ensures.found))))

pub returns-in_err-documents-clause-makes : goal.returns-in_err-documents-clause-makes
returns-in_err-documents-clause-makes g c =
    let p = err_from_is_err_and c.from_residual-in_err-documents.result c.from_residual-in_err-documents.ensures.1 in rw p.1 tt

pub returns-in_err-documents-clause-refuses : goal.returns-in_err-documents-clause-refuses
returns-in_err-documents-clause-refuses g c =
    let ledger = g.S.Store.ledger in
    let records = g.S.Frozen.records in
    let a = ledger c.args.store.now in
    let k = records c.args.store.now in
    let kind = c.args.kind in
    let type = c.args.value_type in
    let D = c.args.roots.documents in
    let I = c.args.roots.dictionary in
    let doc = c.args.doc in
    let column = column_at kind type k D in
    let start = index_of type k I in
    let up = (c.documents_law.ensures.lawful kind type k D c.requires.field.documents_are).2.ascends in
    let of = c.requires.field.index_of_documents in
    let items = c.args.new.now in
    let old = first_weights [] c.args.old.now in
    let new = first_weights [] c.args.new.now in
    let among = IsFieldWidth c.args.dense kind (with_change column doc (Some items)) (items_of column doc) items in
    let p = err_from_is_err_and c.from_residual-in_err-documents.result c.from_residual-in_err-documents.ensures.1 in
    rw (p.1, p.2) (of_more (IsDocumentWidth kind (length items)) among a (ledger c.add_values.new.store) (ledger c.set_items.new.store) _ c.add_values.ensures.may (λ w is. inl is)
    c.in_err-documents.ensures.refuses)

pub returns-in_err-documents-clause-may : goal.returns-in_err-documents-clause-may
returns-in_err-documents-clause-may g c =
    let ledger = g.S.Store.ledger in
    may_do-then (ledger c.args.store.now) (ledger c.add_values.new.store) (ledger c.set_items.new.store) c.add_values.ensures.may c.set_items.ensures.may

pub remove_values-requires : goal.remove_values-requires
remove_values-requires g c =
    let ledger = g.S.Store.ledger in
    let records = g.S.Frozen.records in
    let begun = ledger c.args.store.now in
    let k = records c.args.store.now in
    let m = records c.add_values.new.store in
    let n = records c.set_items.new.store in
    let kind = c.args.kind in
    let type = c.args.value_type in
    let D = c.args.roots.documents in
    let I = c.args.roots.dictionary in
    let doc = c.args.doc in
    let items = c.args.new.now in
    let old = first_weights [] c.args.old.now in
    let new = first_weights [] c.args.new.now in
    let root = c.in_ok-added.added.root in
    let next = c.in_ok-documents.documents in
    let lawful = c.documents_law.ensures.lawful in
    let both = steps_then kind type begun k D I doc c.requires.field c.key_law.ensures.read (ledger c.add_values.new.store) (ledger c.set_items.new.store) m n root next (Some items)
    c.add_values.ensures.may c.in_ok-added.ensures.steps c.in_ok-documents.ensures.steps in
    let between = subst (λ (i : Index). IsBetween (index_of type k I) doc (weights new) (λ v. None) i) (sym c.in_ok-documents.ensures.index) c.in_ok-added.ensures.between in (
      omega arith,
      (
        c.set_items.ensures.may.unit ∙ c.add_values.ensures.may.unit ∙ c.requires.unit,
        (
          c.in_ok-documents.ensures.steps.stands,
          (
            c.in_ok-documents.ensures.form c.args.dense c.in_ok-added.ensures.form,
            (
              c.requires.how,
              (
                subst (λ (xs : List Item). AreOfType type (values_of xs)) (sym c.requires.was) (items_typed kind type k D doc),
                (
                  has_middle kind type begun k D I doc c.requires.field lawful old (ap (first_weights []) c.requires.was) (Some items) new refl (index_of type n root) between,
                  λ index ends. subst (λ (column : Column). IsIndexOf column index) (sym both.column_is)
                      (index_ends kind type begun k D I doc c.requires.field lawful old (ap (first_weights []) c.requires.was) (Some items) new refl (index_of type n root) between index ends),
                ),
              ),
            ),
          ),
        ),
      ),
    )

pub returns-in_err-dictionary-clause-makes : goal.returns-in_err-dictionary-clause-makes
returns-in_err-dictionary-clause-makes g c =
    let p = err_from_is_err_and c.from_residual-in_err-dictionary.result c.from_residual-in_err-dictionary.ensures.1 in rw p.1 tt

pub returns-in_err-dictionary-clause-refuses : goal.returns-in_err-dictionary-clause-refuses
returns-in_err-dictionary-clause-refuses g c =
    let ledger = g.S.Store.ledger in
    let records = g.S.Frozen.records in
    let a = ledger c.args.store.now in
    let k = records c.args.store.now in
    let kind = c.args.kind in
    let type = c.args.value_type in
    let D = c.args.roots.documents in
    let I = c.args.roots.dictionary in
    let doc = c.args.doc in
    let column = column_at kind type k D in
    let start = index_of type k I in
    let up = (c.documents_law.ensures.lawful kind type k D c.requires.field.documents_are).2.ascends in
    let of = c.requires.field.index_of_documents in
    let items = c.args.new.now in
    let old = first_weights [] c.args.old.now in
    let new = first_weights [] c.args.new.now in
    let among = IsFieldWidth c.args.dense kind (with_change column doc (Some items)) (items_of column doc) items in
    let n = records c.set_items.new.store in
    let root = c.in_ok-added.added.root in
    let between = subst (λ (i : Index). IsBetween start doc (weights new) (λ v. None) i) (sym c.in_ok-documents.ensures.index) c.in_ok-added.ensures.between in
    let may = may_do-then a (ledger c.add_values.new.store) (ledger c.set_items.new.store) c.add_values.ensures.may c.set_items.ensures.may in
    let p = err_from_is_err_and c.from_residual-in_err-dictionary.result c.from_residual-in_err-dictionary.ensures.1 in
    rw (p.1, p.2) (of_more (IsWalkWidth c.args.dense (index_of type n root) doc (weights new) (weights old)) among a (ledger c.set_items.new.store) (ledger c.remove_values.new.store) _ may
    (removed_width c.args.dense kind column start doc (Some items) up of old new (ap (first_weights []) c.requires.was) refl (index_of type n root) between) c.in_err-dictionary.ensures.refuses)

pub returns-in_err-dictionary-clause-may : goal.returns-in_err-dictionary-clause-may
returns-in_err-dictionary-clause-may g c =
    let ledger = g.S.Store.ledger in
    let may = may_do-then (ledger c.args.store.now) (ledger c.add_values.new.store) (ledger c.set_items.new.store) c.add_values.ensures.may c.set_items.ensures.may in
    may_do-then (ledger c.args.store.now) (ledger c.set_items.new.store) (ledger c.remove_values.new.store) may c.remove_values.ensures.may

pub returns-clause-makes : goal.returns-clause-makes
returns-clause-makes g c =
    let ledger = g.S.Store.ledger in
    let records = g.S.Frozen.records in
    let begun = ledger c.args.store.now in
    let k = records c.args.store.now in
    let m = records c.add_values.new.store in
    let n = records c.set_items.new.store in
    let o = records c.remove_values.new.store in
    let kind = c.args.kind in
    let type = c.args.value_type in
    let D = c.args.roots.documents in
    let I = c.args.roots.dictionary in
    let doc = c.args.doc in
    let items = c.args.new.now in
    let root = c.in_ok-added.added.root in
    let next = c.in_ok-documents.documents in
    let last = c.in_ok-dictionary.dictionary in
    let both = steps_then kind type begun k D I doc c.requires.field c.key_law.ensures.read (ledger c.add_values.new.store) (ledger c.set_items.new.store) m n root next (Some items)
    c.add_values.ensures.may c.in_ok-added.ensures.steps c.in_ok-documents.ensures.steps in
    let may = may_do-then (ledger c.args.store.now) (ledger c.add_values.new.store) (ledger c.set_items.new.store) c.add_values.ensures.may c.set_items.ensures.may in
    step_ends kind type begun k D I doc c.requires.field c.key_law.ensures.read (ledger c.set_items.new.store) (ledger c.remove_values.new.store) n o next root last
    (with_change (column_at kind type k D) doc (Some items)) may both c.in_ok-dictionary.ensures.steps c.in_ok-dictionary.ensures.index

pub returns-in_err-added-clause-counts : goal.returns-in_err-added-clause-counts
returns-in_err-added-clause-counts g c =
    let ledger = g.S.Store.ledger in
    let records = g.S.Frozen.records in
    let k = records c.args.store.now in
    let kind = c.args.kind in
    let type = c.args.value_type in
    let D = c.args.roots.documents in
    let I = c.args.roots.dictionary in
    let doc = c.args.doc in
    let old = first_weights [] c.args.old.now in
    let new = first_weights [] c.args.new.now in
    let count = length c.args.new.now in
    let column = column_at kind type k D in
    let start = index_of type k I in
    let of = c.requires.field.index_of_documents in
    let last = ledger c.add_values.new.store in
    put_one kind column start doc count of old new c.args.dense (34 * new_values old new) 17 (34 * lost_values old new) (ledger c.args.store.now) last last last c.add_values.ensures.counts

pub returns-in_err-documents-clause-counts : goal.returns-in_err-documents-clause-counts
returns-in_err-documents-clause-counts g c =
    let ledger = g.S.Store.ledger in
    let records = g.S.Frozen.records in
    let k = records c.args.store.now in
    let kind = c.args.kind in
    let type = c.args.value_type in
    let D = c.args.roots.documents in
    let I = c.args.roots.dictionary in
    let doc = c.args.doc in
    let old = first_weights [] c.args.old.now in
    let new = first_weights [] c.args.new.now in
    let count = length c.args.new.now in
    let column = column_at kind type k D in
    let start = index_of type k I in
    let of = c.requires.field.index_of_documents in
    let last = ledger c.set_items.new.store in
    put_two kind column start doc count of old new c.args.dense (34 * new_values old new) 17 (34 * lost_values old new) (ledger c.args.store.now) (ledger c.add_values.new.store) last last
    c.add_values.ensures.may c.add_values.ensures.counts c.set_items.ensures.counts

pub returns-in_err-dictionary-clause-counts : goal.returns-in_err-dictionary-clause-counts
returns-in_err-dictionary-clause-counts g c =
    let ledger = g.S.Store.ledger in
    let records = g.S.Frozen.records in
    let k = records c.args.store.now in
    let kind = c.args.kind in
    let type = c.args.value_type in
    let D = c.args.roots.documents in
    let I = c.args.roots.dictionary in
    let doc = c.args.doc in
    let old = first_weights [] c.args.old.now in
    let new = first_weights [] c.args.new.now in
    let count = length c.args.new.now in
    let column = column_at kind type k D in
    let start = index_of type k I in
    let of = c.requires.field.index_of_documents in
    let middle = index_of type (records c.set_items.new.store) c.in_ok-added.added.root in
    let between = subst (λ (i : Index). IsBetween start doc (weights new) (λ v. None) i) (sym c.in_ok-documents.ensures.index) c.in_ok-added.ensures.between in
    put_three kind column start doc count of old new c.args.dense (34 * new_values old new) 17 (34 * lost_values old new)
    (ledger c.args.store.now) (ledger c.add_values.new.store) (ledger c.set_items.new.store) (ledger c.remove_values.new.store) middle between
    c.add_values.ensures.may c.set_items.ensures.may c.add_values.ensures.counts c.set_items.ensures.counts c.remove_values.ensures.counts

pub returns-clause-counts : goal.returns-clause-counts
returns-clause-counts g c =
    let ledger = g.S.Store.ledger in
    let records = g.S.Frozen.records in
    let k = records c.args.store.now in
    let kind = c.args.kind in
    let type = c.args.value_type in
    let D = c.args.roots.documents in
    let I = c.args.roots.dictionary in
    let doc = c.args.doc in
    let old = first_weights [] c.args.old.now in
    let new = first_weights [] c.args.new.now in
    let count = length c.args.new.now in
    let column = column_at kind type k D in
    let start = index_of type k I in
    let of = c.requires.field.index_of_documents in
    let middle = index_of type (records c.set_items.new.store) c.in_ok-added.added.root in
    let between = subst (λ (i : Index). IsBetween start doc (weights new) (λ v. None) i) (sym c.in_ok-documents.ensures.index) c.in_ok-added.ensures.between in
    put_three kind column start doc count of old new c.args.dense (34 * new_values old new) 17 (34 * lost_values old new)
    (ledger c.args.store.now) (ledger c.add_values.new.store) (ledger c.set_items.new.store) (ledger c.remove_values.new.store) middle between
    c.add_values.ensures.may c.set_items.ensures.may c.add_values.ensures.counts c.set_items.ensures.counts c.remove_values.ensures.counts

pub returns-clause-may : goal.returns-clause-may
returns-clause-may g c =
    let ledger = g.S.Store.ledger in
    let may = may_do-then (ledger c.args.store.now) (ledger c.add_values.new.store) (ledger c.set_items.new.store) c.add_values.ensures.may c.set_items.ensures.may in
    may_do-then (ledger c.args.store.now) (ledger c.set_items.new.store) (ledger c.remove_values.new.store) may c.remove_values.ensures.may

pub returns-in_err-added-clause-low : goal.returns-in_err-added-clause-low
returns-in_err-added-clause-low g c =
    let ledger = g.S.Store.ledger in
    let records = g.S.Frozen.records in
    let k = records c.args.store.now in
    let kind = c.args.kind in
    let type = c.args.value_type in
    let D = c.args.roots.documents in
    let I = c.args.roots.dictionary in
    let doc = c.args.doc in
    let old = first_weights [] c.args.old.now in
    let new = first_weights [] c.args.new.now in
    let count = length c.args.new.now in
    let column = column_at kind type k D in
    let start = index_of type k I in
    let of = c.requires.field.index_of_documents in
    λ levels stays.
    let added = c.add_values.ensures.low levels (adds_low column start doc levels new of stays) in
    let last = ledger c.add_values.new.store in
    put_one kind column start doc count of old new c.args.dense (value_nodes levels * new_values old new) (2 * levels + 1) (value_nodes levels * lost_values old new) (ledger c.args.store.now) last last last added

pub returns-in_err-documents-clause-low : goal.returns-in_err-documents-clause-low
returns-in_err-documents-clause-low g c =
    let ledger = g.S.Store.ledger in
    let records = g.S.Frozen.records in
    let k = records c.args.store.now in
    let kind = c.args.kind in
    let type = c.args.value_type in
    let D = c.args.roots.documents in
    let I = c.args.roots.dictionary in
    let doc = c.args.doc in
    let old = first_weights [] c.args.old.now in
    let new = first_weights [] c.args.new.now in
    let count = length c.args.new.now in
    let column = column_at kind type k D in
    let start = index_of type k I in
    let of = c.requires.field.index_of_documents in
    λ levels stays.
    let added = c.add_values.ensures.low levels (adds_low column start doc levels new of stays) in
    let few = subst (λ (cl : Column). length cl < 2 * 8 ^ levels) (sym c.in_ok-added.ensures.steps.column_is) (let low = stays.documents in let less : length column < 2 * 8 ^ levels = omega arith in less) in
    let entry = c.set_items.ensures.low levels stays.some few in
    let last = ledger c.set_items.new.store in
    put_two kind column start doc count of old new c.args.dense (value_nodes levels * new_values old new) (2 * levels + 1) (value_nodes levels * lost_values old new) (ledger c.args.store.now)
    (ledger c.add_values.new.store) last last c.add_values.ensures.may added entry

pub returns-in_err-dictionary-clause-low : goal.returns-in_err-dictionary-clause-low
returns-in_err-dictionary-clause-low g c =
    let ledger = g.S.Store.ledger in
    let records = g.S.Frozen.records in
    let k = records c.args.store.now in
    let kind = c.args.kind in
    let type = c.args.value_type in
    let D = c.args.roots.documents in
    let I = c.args.roots.dictionary in
    let doc = c.args.doc in
    let old = first_weights [] c.args.old.now in
    let new = first_weights [] c.args.new.now in
    let count = length c.args.new.now in
    let column = column_at kind type k D in
    let start = index_of type k I in
    let of = c.requires.field.index_of_documents in
    let middle = index_of type (records c.set_items.new.store) c.in_ok-added.added.root in
    let between = subst (λ (i : Index). IsBetween start doc (weights new) (λ v. None) i) (sym c.in_ok-documents.ensures.index) c.in_ok-added.ensures.between in
    λ levels stays.
    let added = c.add_values.ensures.low levels (adds_low column start doc levels new of stays) in
    let few = subst (λ (cl : Column). length cl < 2 * 8 ^ levels) (sym c.in_ok-added.ensures.steps.column_is) (let low = stays.documents in let less : length column < 2 * 8 ^ levels = omega arith in less) in
    let entry = c.set_items.ensures.low levels stays.some few in
    let gone = c.remove_values.ensures.low levels (removes_low column start doc levels new of stays middle old between) in
    put_three kind column start doc count of old new c.args.dense (value_nodes levels * new_values old new) (2 * levels + 1) (value_nodes levels * lost_values old new)
    (ledger c.args.store.now) (ledger c.add_values.new.store) (ledger c.set_items.new.store) (ledger c.remove_values.new.store) middle between
    c.add_values.ensures.may c.set_items.ensures.may added entry gone

pub returns-clause-low : goal.returns-clause-low
returns-clause-low g c =
    let ledger = g.S.Store.ledger in
    let records = g.S.Frozen.records in
    let k = records c.args.store.now in
    let kind = c.args.kind in
    let type = c.args.value_type in
    let D = c.args.roots.documents in
    let I = c.args.roots.dictionary in
    let doc = c.args.doc in
    let old = first_weights [] c.args.old.now in
    let new = first_weights [] c.args.new.now in
    let count = length c.args.new.now in
    let column = column_at kind type k D in
    let start = index_of type k I in
    let of = c.requires.field.index_of_documents in
    let middle = index_of type (records c.set_items.new.store) c.in_ok-added.added.root in
    let between = subst (λ (i : Index). IsBetween start doc (weights new) (λ v. None) i) (sym c.in_ok-documents.ensures.index) c.in_ok-added.ensures.between in
    λ levels stays.
    let added = c.add_values.ensures.low levels (adds_low column start doc levels new of stays) in
    let few = subst (λ (cl : Column). length cl < 2 * 8 ^ levels) (sym c.in_ok-added.ensures.steps.column_is) (let low = stays.documents in let less : length column < 2 * 8 ^ levels = omega arith in less) in
    let entry = c.set_items.ensures.low levels stays.some few in
    let gone = c.remove_values.ensures.low levels (removes_low column start doc levels new of stays middle old between) in
    put_three kind column start doc count of old new c.args.dense (value_nodes levels * new_values old new) (2 * levels + 1) (value_nodes levels * lost_values old new)
    (ledger c.args.store.now) (ledger c.add_values.new.store) (ledger c.set_items.new.store) (ledger c.remove_values.new.store) middle between
    c.add_values.ensures.may c.set_items.ensures.may added entry gone

pub returns-in_err-added-clause-form : goal.returns-in_err-added-clause-form
returns-in_err-added-clause-form g c = let p = err_from_is_err_and c.from_residual.result c.from_residual.ensures.1 in rw p.1 tt

pub returns-in_err-documents-clause-form : goal.returns-in_err-documents-clause-form
returns-in_err-documents-clause-form g c =
    let p = err_from_is_err_and c.from_residual-in_err-documents.result c.from_residual-in_err-documents.ensures.1 in rw p.1 tt

pub returns-in_err-dictionary-clause-form : goal.returns-in_err-dictionary-clause-form
returns-in_err-dictionary-clause-form g c =
    let p = err_from_is_err_and c.from_residual-in_err-dictionary.result c.from_residual-in_err-dictionary.ensures.1 in rw p.1 tt

pub returns-clause-form : goal.returns-clause-form
returns-clause-form g c = c.in_ok-dictionary.ensures.form
