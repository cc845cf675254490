use Rattle.std.proofs.Common.{◌+◌, ◌*◌, length, ◌∙◌, sym, ap, arith}
use Rattle.std.proofs.lemmas.Result.{err_from_is_err_and}
use Rattle.attr_operations.specs.Fields.{trees_of}
use Rattle.attr_operations.proofs.CommitLemmas.{before_owns, commits_attributes, mid_lawful, mid_unit, mid_whole, turns_root}
use Rattle.attr_operations.proofs.FieldSteps.{laws_of}
use Rattle.image_format.specs.Words.{class_of}
use Rattle.attr_operations.proofs.CountLemmas.{one_committed}
use Rattle.attr_operations.proofs.RootLemmas.{for_fields, one_of_fields}
use Rattle.attr_operations.proofs.commit.commit_attributes.Goals as goal

pub root_unit-requires : goal.root_unit-requires
root_unit-requires g c =
    let ledger = g.S.Store.ledger c.args.store.now in
    let m = g.S.Frozen.records c.args.store.now in (
      omega arith,
      (
        omega arith,
        (
          c.requires.holds.unit,
          (
            (let few = c.requires.few in let sized = c.requires.sized in omega arith),
            before_owns g.row.OFFSET_BITS ledger m c.args.fields.now (trees_of c.args.fields.now c.args.roots.now) c.args.before c.requires.holds,
          ),
        ),
      ),
    )

pub commit-stored-requires : goal.commit-stored-requires
commit-stored-requires g c =
    let ledger = g.S.Store.ledger in
    let records = g.S.Frozen.records in
    let old = ledger c.args.store.now in
    let mid = ledger c.root_unit.new.store in
    let m = records c.args.store.now in
    let k = records c.root_unit.new.store in
    let fields = c.args.fields.now in
    let roots = c.args.roots.now in
    let laws = laws_of c.field_law.ensures.stays c.field_law.ensures.lawful c.field_law.ensures.keys in
    let root = c.in_ok-root.root in
    let keeps = c.root_unit.ensures.keeps in
    let shape = sym (g.met.S.Store.shaped c.root_unit.new.store) ∙ keeps.shape ∙ c.requires.shape in (
      omega arith,
      (
        mid_unit laws c.field_law.ensures.reaches c.root_law.ensures.made old mid m k fields roots c.args.operations c.args.before root c.requires.sized c.requires.few c.ranges.operations.fits c.requires.holds keeps
            c.in_ok-root.ensures.makes (g.met.S.Store.finished c.root_unit.new.store) (g.S.Frozen.shape c.root_unit.new.store) shape,
        (
          mid_lawful laws c.field_law.ensures.reaches c.root_law.ensures.made old mid m k fields roots c.args.operations c.args.before root c.requires.sized c.requires.few c.ranges.operations.fits c.requires.holds keeps
              c.in_ok-root.ensures.makes (g.met.S.Store.finished c.root_unit.new.store) (g.S.Frozen.shape c.root_unit.new.store) shape,
          (
            (let room = c.requires.room in let last = keeps.commits.last in let sizes = ap (λ s. s.commits) keeps.sizes in omega arith),
            mid_whole laws c.field_law.ensures.reaches c.root_law.ensures.made old mid m k fields roots c.args.operations c.args.before root c.requires.sized c.requires.few c.ranges.operations.fits c.requires.holds keeps
                c.in_ok-root.ensures.makes (g.met.S.Store.finished c.root_unit.new.store) (g.S.Frozen.shape c.root_unit.new.store) shape,
          ),
        ),
      ),
    )

pub returns-clause-commits : goal.returns-clause-commits
returns-clause-commits g c =
    let ledger = g.S.Store.ledger in
    let records = g.S.Frozen.records in
    let old = ledger c.args.store.now in
    let mid = ledger c.root_unit.new.store in
    let m = records c.args.store.now in
    let k = records c.root_unit.new.store in
    let laws = laws_of c.field_law.ensures.stays c.field_law.ensures.lawful c.field_law.ensures.keys in
    let keeps = c.root_unit.ensures.keeps in
    let shape = sym (g.met.S.Store.shaped c.root_unit.new.store) ∙ keeps.shape ∙ c.requires.shape in
    commits_attributes laws c.field_law.ensures.reaches c.root_law.ensures.made old mid m k c.args.fields.now c.args.roots.now c.args.operations c.args.before c.in_ok-root.root c.requires.sized c.requires.few
    c.ranges.operations.fits
    c.requires.holds keeps c.in_ok-root.ensures.makes (g.met.S.Store.finished c.root_unit.new.store) (g.S.Frozen.shape c.root_unit.new.store) shape (ledger c.commit-stored.new.self)
    (records c.commit-stored.new.self) c.commit-stored.result
    c.commit-stored.ensures.commit c.commit-stored.ensures.stores c.commit-stored.ensures.records

pub returns-in_err-root-clause-commits : goal.returns-in_err-root-clause-commits
returns-in_err-root-clause-commits g c = let p = err_from_is_err_and c.from_residual.result c.from_residual.ensures.1 in rw p.1 tt

pub returns-clause-turns : goal.returns-clause-turns
returns-clause-turns g c =
    let ledger = g.S.Store.ledger in
    let records = g.S.Frozen.records in
    turns_root g.row.OFFSET_BITS (ledger c.args.store.now) (ledger c.root_unit.new.store) (ledger c.commit-stored.new.self) (records c.args.store.now) (records c.root_unit.new.store) _ c.commit-stored.result
    c.args.before c.in_ok-root.root c.root_unit.ensures.keeps c.in_ok-root.ensures.makes.turns c.commit-stored.ensures.stores

pub returns-in_err-root-clause-turns : goal.returns-in_err-root-clause-turns
returns-in_err-root-clause-turns g c = let p = err_from_is_err_and c.from_residual.result c.from_residual.ensures.1 in rw p.1 tt

pub returns-in_err-root-clause-left : goal.returns-in_err-root-clause-left
returns-in_err-root-clause-left g c = let p = err_from_is_err_and c.from_residual.result c.from_residual.ensures.1 in rw p.1 c.in_err-root.ensures.left

pub returns-in_err-root-clause-refused : goal.returns-in_err-root-clause-refused
returns-in_err-root-clause-refused g c = let p = err_from_is_err_and c.from_residual.result c.from_residual.ensures.1 in rw (p.1, p.2) c.in_err-root.ensures.refused

pub returns-in_err-root-clause-keeps : goal.returns-in_err-root-clause-keeps
returns-in_err-root-clause-keeps g c = let p = err_from_is_err_and c.from_residual.result c.from_residual.ensures.1 in rw p.1 c.root_unit.ensures.keeps

pub returns-in_err-root-clause-width : goal.returns-in_err-root-clause-width
returns-in_err-root-clause-width g c =
    let p = err_from_is_err_and c.from_residual.result c.from_residual.ensures.1 in
    rw (p.1, p.2) (for_fields c.args.fields.now c.args.roots.now c.args.operations _ c.requires.sized c.in_err-root.ensures.width)

pub returns-in_err-root-clause-counts : goal.returns-in_err-root-clause-counts
returns-in_err-root-clause-counts g c =
    let ledger = g.S.Store.ledger in
    one_of_fields c.args.fields.now c.args.roots.now c.args.operations (ledger c.args.store.now) (ledger c.root_unit.new.store) c.requires.sized c.root_unit.ensures.counts

pub returns-clause-counts : goal.returns-clause-counts
returns-clause-counts g c =
    let ledger = g.S.Store.ledger in
    let width = class_of (1 + 2 * length c.args.fields.now) in
    one_committed width g.row.OFFSET_BITS (ledger c.args.store.now) (ledger c.root_unit.new.store) (ledger c.commit-stored.new.self) _ c.commit-stored.result
    (one_of_fields c.args.fields.now c.args.roots.now c.args.operations (ledger c.args.store.now) (ledger c.root_unit.new.store) c.requires.sized c.root_unit.ensures.counts) c.commit-stored.ensures.stores
