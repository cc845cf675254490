use Rattle.std.proofs.Common.{◌≡◌, length, subst, rules}
use Rattle.std.proofs.lemmas.Result.{err_from_is_err_and}
use Rattle.std.specs.Option.{option_copied}
use Rattle.store_api.proofs.May.{may_do-same}
use Rattle.posting_store.proofs.RefusalLemmas.{of_more}
use Rattle.attr_operations.specs.Counts.{MakesDocument}
use Rattle.attr_operations.specs.Fields.{table_with, trees_of}
use Rattle.attr_operations.specs.Views.{table_at}
use Rattle.attr_operations.specs.Widths.{IsChangedWidth}
use Rattle.attr_operations.proofs.CountLemmas.{makes_none}
use Rattle.attr_operations.proofs.document.change_document.Goals as goal

pub returns-in_default-clause-refuses : goal.returns-in_default-clause-refuses
returns-in_default-clause-refuses g c = tt

pub returns-in_default-clause-counts : goal.returns-in_default-clause-counts
returns-in_default-clause-counts g c =
    makes_none c.args.dense c.args.fields.now (table_at (g.S.Frozen.records c.args.store.now) (trees_of c.args.fields.now c.args.roots.now)) c.args.doc (option_copied c.args.old) (option_copied c.args.new)
    (g.S.Store.ledger c.args.store.now) (length c.args.fields.now)

pub returns-in_err-change_each-clause-counts : goal.returns-in_err-change_each-clause-counts
returns-in_err-change_each-clause-counts g c =
    let ledger = g.S.Store.ledger in
    let same : c.deref_mut.result.now ≡ c.args.roots.now = search rules in
    subst (λ rs. MakesDocument c.args.dense (ledger c.args.store.now) (ledger c.change_each.new.store) c.args.fields.now (table_at (g.S.Frozen.records c.args.store.now) (trees_of c.args.fields.now rs)) c.args.doc
    (option_copied c.args.old) (option_copied c.args.new) (length c.args.fields.now)) same c.change_each.ensures.counts

pub returns-clause-counts : goal.returns-clause-counts
returns-clause-counts g c =
    let ledger = g.S.Store.ledger in
    let same : c.deref_mut.result.now ≡ c.args.roots.now = search rules in
    subst (λ rs. MakesDocument c.args.dense (ledger c.args.store.now) (ledger c.change_each.new.store) c.args.fields.now (table_at (g.S.Frozen.records c.args.store.now) (trees_of c.args.fields.now rs)) c.args.doc
    (option_copied c.args.old) (option_copied c.args.new) (length c.args.fields.now)) same c.change_each.ensures.counts

pub returns-in_err-change_each-clause-refuses : goal.returns-in_err-change_each-clause-refuses
returns-in_err-change_each-clause-refuses g c =
    let a = g.S.Store.ledger c.args.store.now in
    let m = g.S.Frozen.records c.args.store.now in
    let fields = c.args.fields.now in
    let old = option_copied c.args.old in
    let new = option_copied c.args.new in
    let same : c.deref_mut.result.now ≡ c.args.roots.now = search rules in
    let p = err_from_is_err_and c.from_residual.result c.from_residual.ensures.1 in
    rw (p.1, p.2) (of_more (IsChangedWidth c.args.dense fields (table_with (table_at m (trees_of fields c.deref_mut.result.now)) c.args.doc new) old new)
    (IsChangedWidth c.args.dense fields (table_with (table_at m (trees_of fields c.args.roots.now)) c.args.doc new) old new) a a (g.S.Store.ledger c.change_each.new.store) _ (may_do-same a)
    (λ w is. subst (λ rs. IsChangedWidth c.args.dense fields (table_with (table_at m (trees_of fields rs)) c.args.doc new) old new w) same is) c.in_err-change_each.ensures.refuses)
