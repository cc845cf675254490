use Rattle.std.proofs.Common.{◌≡◌, ℤ, pos, w32, true, length, sym, subst, arith}
use Rattle.std.proofs.lemmas.Int.{to_z-of_z}
use Rattle.std.specs.BTreeMap.{insert_entry}
use Rattle.std.specs.Ordering.{nat_cmp}
use Rattle.image_format.specs.Postings.{index_of}
use Rattle.index_model.specs.Index.{list_of, with_posting}
use Rattle.attr_types.specs.Value.{type_of}
use Rattle.store_api.specs.Calls.{RefusesOf}
use Rattle.store_api.specs.Units.{MakesWithin}
use Rattle.value_index.specs.Changes.{add_most, IsChangeWidth, MakesIndex}
use Rattle.value_index.proofs.adding.add.Goals as goal

pub add_with_key-requires : goal.add_with_key-requires
add_with_key-requires g c = (
  omega arith,
  (
    omega arith,
    (
      c.requires.unit,
      (
        c.requires.index,
        (
          c.requires.owns,
          (
            c.requires.plain,
            (
              c.requires.ones,
              subst (λ (w : ℤ). c.args.dense ≡ true → w ≡ pos 1) (sym (to_z-of_z w32 c.args.weight c.ranges.weight)) c.requires.one,
            ),
          ),
        ),
      ),
    ),
  ),
)

pub returns-in-Ok-clause-makes : goal.returns-in-Ok-clause-makes
returns-in-Ok-clause-makes g c =
    let ledger = g.S.Store.ledger in
    let records = g.S.Frozen.records in
    let value = c.args.value.now in
    let m = records c.args.store.now in
    let t = c.add_with_key.new.store in
    subst (λ (w : ℤ). MakesIndex (type_of value) (ledger c.args.store.now) (ledger t) m (records t) c.args.root (with_posting value c.args.doc w (index_of (type_of value) m c.args.root)) c.in-Ok.added.root)
    (to_z-of_z w32 c.args.weight c.ranges.weight) c.in-Ok.ensures.makes

pub returns-in-Ok-clause-plain : goal.returns-in-Ok-clause-plain
returns-in-Ok-clause-plain g c = c.in-Ok.ensures.plain

pub returns-in-Ok-clause-counts : goal.returns-in-Ok-clause-counts
returns-in-Ok-clause-counts g c =
    let ledger = g.S.Store.ledger in
    let value = c.args.value.now in
    let m = g.S.Frozen.records c.args.store.now in
    subst (λ (w : ℤ). MakesWithin (ledger c.args.store.now) (ledger c.add_with_key.new.store) (add_most value m c.args.root c.args.dense c.args.documents
    (insert_entry nat_cmp (list_of value (index_of (type_of value) m c.args.root)) c.args.doc w))) (to_z-of_z w32 c.args.weight c.ranges.weight) c.add_with_key.ensures.counts

pub returns-in-Ok-clause-may : goal.returns-in-Ok-clause-may
returns-in-Ok-clause-may g c = c.add_with_key.ensures.may

pub returns-in-Err-clause-counts : goal.returns-in-Err-clause-counts
returns-in-Err-clause-counts g c =
    let ledger = g.S.Store.ledger in
    let value = c.args.value.now in
    let m = g.S.Frozen.records c.args.store.now in
    subst (λ (w : ℤ). MakesWithin (ledger c.args.store.now) (ledger c.add_with_key.new.store) (add_most value m c.args.root c.args.dense c.args.documents
    (insert_entry nat_cmp (list_of value (index_of (type_of value) m c.args.root)) c.args.doc w))) (to_z-of_z w32 c.args.weight c.ranges.weight) c.add_with_key.ensures.counts

pub returns-in-Err-clause-refuses : goal.returns-in-Err-clause-refuses
returns-in-Err-clause-refuses g c =
    let ledger = g.S.Store.ledger in
    let value = c.args.value.now in
    let m = g.S.Frozen.records c.args.store.now in
    subst (λ (w : ℤ). RefusesOf (IsChangeWidth c.args.dense value (length (insert_entry nat_cmp (list_of value (index_of (type_of value) m c.args.root)) c.args.doc w)))
    (ledger c.args.store.now) (ledger c.add_with_key.new.store) c.in-Err.error) (to_z-of_z w32 c.args.weight c.ranges.weight) c.in-Err.ensures.refuses

pub returns-in-Err-clause-may : goal.returns-in-Err-clause-may
returns-in-Err-clause-may g c = c.add_with_key.ensures.may
