use Rattle.std.proofs.Common.{◌≡◌, ◌∷◌, [], ℤ, pos, w32, true, false, Some, None, to_z, of_z, sym, subst, ◌∙◌, arith}
use Rattle.std.proofs.lemmas.Int.{to_z-of_z}
use Rattle.std.specs.Prelude.{IfOk, IfErr, length}
use Rattle.std.specs.BTreeMap.{insert_entry}
use Rattle.std.specs.Ordering.{nat_cmp}
use Rattle.image_format.specs.Postings.{index_of}
use Rattle.index_model.specs.Index.{list_of, with_posting}
use Rattle.attr_types.specs.Value.{type_of}
use Rattle.enum_dictionary.specs.Dictionaries.{beside_value}
use Rattle.tree_read.specs.Pairs.{lookup_pair}
use Rattle.tree_read.specs.Trees.{tree_pairs}
use Rattle.store_api.specs.Calls.{RefusesOf}
use Rattle.store_api.specs.Parts.{Owns}
use Rattle.store_api.specs.Units.{MayDo, MakesWithin}
use Rattle.value_index.specs.Changes.{add_most, IsChangeWidth, MakesIndex}
use Rattle.posting_store.specs.Lists.{AreOnes}
use Rattle.value_index.specs.Forms.{IsPlainIndex}
use Rattle.value_index.specs.Indexes.{index_part, IsIndex}
use Rattle.value_index.proofs.StepLemmas.{entry_found, entry_none}
use Rattle.value_index.specs.declared.adding.Added.{Added}
use Rattle.value_index.proofs.adding.add_with_key.Goals as goal

pub find-requires : goal.find-requires
find-requires g c = (omega arith, (omega arith, c.requires.index.dictionary_is))

pub add_more-requires : goal.add_more-requires
add_more-requires g c =
    let ledger = g.S.Store.ledger in
    let records = g.S.Frozen.records in
    let value = c.args.value.now in
    let root = c.args.root in
    let found = entry_found g.row.OFFSET_BITS (lookup_pair (beside_value value (records c.args.store.now)) (tree_pairs (records c.args.store.now) root)) c.in-Some.entry c.from_word.result
    (sym c.in-Some.is ∙ c.find.ensures.entry) c.from_word.ensures in
    let back = sym c.find.ensures.same in (
      omega arith,
      (
        omega arith,
        (
          subst (λ s. (ledger s).unit ≡ true) back c.requires.unit,
          (
            subst (λ s. IsIndex (type_of value) (records s) root) back c.requires.index,
            (
              subst (λ s. Owns (ledger s) (records s) (index_part root ∷ [])) back c.requires.owns,
              (
                subst (λ s. c.args.dense ≡ false → IsPlainIndex (records s) root) back c.requires.plain,
                (
                  subst (λ s. c.args.dense ≡ true → AreOnes (list_of value (index_of (type_of value) (records s) root))) back c.requires.ones,
                  (
                    subst (λ (w : ℤ). c.args.dense ≡ true → w ≡ pos 1) (sym (to_z-of_z w32 c.args.weight c.ranges.weight)) c.requires.one,
                    subst (λ s. lookup_pair (beside_value value (records s)) (tree_pairs (records s) root) ≡ Some (c.in-Some.entry.key, c.from_word.result)) back found,
                  ),
                ),
              ),
            ),
          ),
        ),
      ),
    )

pub add_new-requires : goal.add_new-requires
add_new-requires g c =
    let ledger = g.S.Store.ledger in
    let records = g.S.Frozen.records in
    let value = c.args.value.now in
    let root = c.args.root in
    let none = entry_none g.row.OFFSET_BITS (lookup_pair (beside_value value (records c.args.store.now)) (tree_pairs (records c.args.store.now) root))
    (sym c.in-None.is ∙ c.find.ensures.entry) in
    let back = sym c.find.ensures.same in (
      omega arith,
      (
        omega arith,
        (
          subst (λ s. (ledger s).unit ≡ true) back c.requires.unit,
          (
            subst (λ s. IsIndex (type_of value) (records s) root) back c.requires.index,
            (
              subst (λ s. Owns (ledger s) (records s) (index_part root ∷ [])) back c.requires.owns,
              (
                subst (λ s. c.args.dense ≡ false → IsPlainIndex (records s) root) back c.requires.plain,
                (
                  subst (λ (w : ℤ). c.args.dense ≡ true → w ≡ pos 1) (sym (to_z-of_z w32 c.args.weight c.ranges.weight)) c.requires.one,
                  subst (λ s. lookup_pair (beside_value value (records s)) (tree_pairs (records s) root) ≡ None) back none,
                ),
              ),
            ),
          ),
        ),
      ),
    )

pub returns-in-Some-clause-makes : goal.returns-in-Some-clause-makes
returns-in-Some-clause-makes g c =
    let ledger = g.S.Store.ledger in
    let records = g.S.Frozen.records in
    let value = c.args.value.now in
    let t = c.add_more.new.store in
    subst (λ (w : ℤ). IfOk c.add_more.result (λ (added : Added g.row.OFFSET_BITS). MakesIndex (type_of value) (ledger c.args.store.now) (ledger t) (records c.args.store.now) (records t) c.args.root
    (with_posting value c.args.doc w (index_of (type_of value) (records c.args.store.now) c.args.root)) added.root)) (to_z-of_z w32 c.args.weight c.ranges.weight)
    (subst (λ s. IfOk c.add_more.result (λ (added : Added g.row.OFFSET_BITS). MakesIndex (type_of value) (ledger s) (ledger t) (records s) (records t) c.args.root
    (with_posting value c.args.doc (to_z w32 (of_z w32 c.args.weight)) (index_of (type_of value) (records s) c.args.root)) added.root)) c.find.ensures.same c.add_more.ensures.makes)

pub returns-in-Some-clause-refuses : goal.returns-in-Some-clause-refuses
returns-in-Some-clause-refuses g c =
    let ledger = g.S.Store.ledger in
    let records = g.S.Frozen.records in
    let value = c.args.value.now in
    let root = c.args.root in
    let t = c.add_more.new.store in
    subst (λ (w : ℤ). IfErr c.add_more.result (RefusesOf (IsChangeWidth c.args.dense value
    (length (insert_entry nat_cmp (list_of value (index_of (type_of value) (records c.args.store.now) root)) c.args.doc w))) (ledger c.args.store.now) (ledger t))) (to_z-of_z w32 c.args.weight c.ranges.weight)
    (subst (λ s. IfErr c.add_more.result (RefusesOf (IsChangeWidth c.args.dense value
    (length (insert_entry nat_cmp (list_of value (index_of (type_of value) (records s) root)) c.args.doc (to_z w32 (of_z w32 c.args.weight))))) (ledger s) (ledger t))) c.find.ensures.same c.add_more.ensures.refuses)

pub returns-in-Some-clause-may : goal.returns-in-Some-clause-may
returns-in-Some-clause-may g c = subst (λ s. MayDo (g.S.Store.ledger s) (g.S.Store.ledger c.add_more.new.store)) c.find.ensures.same c.add_more.ensures.may

pub returns-in-None-clause-makes : goal.returns-in-None-clause-makes
returns-in-None-clause-makes g c =
    let ledger = g.S.Store.ledger in
    let records = g.S.Frozen.records in
    let value = c.args.value.now in
    let t = c.add_new.new.store in
    subst (λ (w : ℤ). IfOk c.add_new.result (λ (added : Added g.row.OFFSET_BITS). MakesIndex (type_of value) (ledger c.args.store.now) (ledger t) (records c.args.store.now) (records t) c.args.root
    (with_posting value c.args.doc w (index_of (type_of value) (records c.args.store.now) c.args.root)) added.root)) (to_z-of_z w32 c.args.weight c.ranges.weight)
    (subst (λ s. IfOk c.add_new.result (λ (added : Added g.row.OFFSET_BITS). MakesIndex (type_of value) (ledger s) (ledger t) (records s) (records t) c.args.root
    (with_posting value c.args.doc (to_z w32 (of_z w32 c.args.weight)) (index_of (type_of value) (records s) c.args.root)) added.root)) c.find.ensures.same c.add_new.ensures.makes)

pub returns-in-None-clause-refuses : goal.returns-in-None-clause-refuses
returns-in-None-clause-refuses g c =
    let ledger = g.S.Store.ledger in
    let records = g.S.Frozen.records in
    let value = c.args.value.now in
    let root = c.args.root in
    let t = c.add_new.new.store in
    subst (λ (w : ℤ). IfErr c.add_new.result (RefusesOf (IsChangeWidth c.args.dense value
    (length (insert_entry nat_cmp (list_of value (index_of (type_of value) (records c.args.store.now) root)) c.args.doc w))) (ledger c.args.store.now) (ledger t))) (to_z-of_z w32 c.args.weight c.ranges.weight)
    (subst (λ s. IfErr c.add_new.result (RefusesOf (IsChangeWidth c.args.dense value
    (length (insert_entry nat_cmp (list_of value (index_of (type_of value) (records s) root)) c.args.doc (to_z w32 (of_z w32 c.args.weight))))) (ledger s) (ledger t))) c.find.ensures.same c.add_new.ensures.refuses)

pub returns-in-None-clause-may : goal.returns-in-None-clause-may
returns-in-None-clause-may g c = subst (λ s. MayDo (g.S.Store.ledger s) (g.S.Store.ledger c.add_new.new.store)) c.find.ensures.same c.add_new.ensures.may

pub returns-in-Some-clause-counts : goal.returns-in-Some-clause-counts
returns-in-Some-clause-counts g c =
    let ledger = g.S.Store.ledger in
    let records = g.S.Frozen.records in
    let value = c.args.value.now in
    let root = c.args.root in
    let t = c.add_more.new.store in
    subst (λ (w : ℤ). MakesWithin (ledger c.args.store.now) (ledger t) (add_most value (records c.args.store.now) root c.args.dense c.args.documents
    (insert_entry nat_cmp (list_of value (index_of (type_of value) (records c.args.store.now) root)) c.args.doc w))) (to_z-of_z w32 c.args.weight c.ranges.weight)
    (subst (λ s. MakesWithin (ledger s) (ledger t) (add_most value (records s) root c.args.dense c.args.documents
    (insert_entry nat_cmp (list_of value (index_of (type_of value) (records s) root)) c.args.doc (to_z w32 (of_z w32 c.args.weight))))) c.find.ensures.same c.add_more.ensures.counts)

pub returns-in-None-clause-counts : goal.returns-in-None-clause-counts
returns-in-None-clause-counts g c =
    let ledger = g.S.Store.ledger in
    let records = g.S.Frozen.records in
    let value = c.args.value.now in
    let root = c.args.root in
    let t = c.add_new.new.store in
    subst (λ (w : ℤ). MakesWithin (ledger c.args.store.now) (ledger t) (add_most value (records c.args.store.now) root c.args.dense c.args.documents
    (insert_entry nat_cmp (list_of value (index_of (type_of value) (records c.args.store.now) root)) c.args.doc w))) (to_z-of_z w32 c.args.weight c.ranges.weight)
    (subst (λ s. MakesWithin (ledger s) (ledger t) (add_most value (records s) root c.args.dense c.args.documents
    (insert_entry nat_cmp (list_of value (index_of (type_of value) (records s) root)) c.args.doc (to_z w32 (of_z w32 c.args.weight))))) c.find.ensures.same c.add_new.ensures.counts)

pub returns-in-Some-clause-plain : goal.returns-in-Some-clause-plain
returns-in-Some-clause-plain g c = c.add_more.ensures.plain

pub returns-in-None-clause-plain : goal.returns-in-None-clause-plain
returns-in-None-clause-plain g c = c.add_new.ensures.plain

pub returns-in-Some-clause-key : goal.returns-in-Some-clause-key
returns-in-Some-clause-key g c = c.add_more.ensures.key

pub returns-in-None-clause-key : goal.returns-in-None-clause-key
returns-in-None-clause-key g c = c.add_new.ensures.key
