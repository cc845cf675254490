use Rattle.std.proofs.Common.{◌≡◌, sym, subst, rules}
use Rattle.attribute_kinds.specs.Calls.{HasCommit}
use Rattle.attr_c.specs.Engines.{open_committed, open_committed_operations, open_fields, open_root, usage_told}
use Rattle.attr_c.specs.Stores.{open_ledger, IsOpenUsage}
use Rattle.attr_c.specs.declared.state.AnyOpen.{AnyOpen}
use Rattle.attr_c.specs.declared.state.AnyOpen.TheVariants.{Narrow, Wide}
use Rattle.attr_c.proofs.commit_exports.attr_counts.Goals as goal

pub returns-in-Narrow-clause-usage : goal.returns-in-Narrow-clause-usage
returns-in-Narrow-clause-usage c =
    let is : c.args.at.now.value.inner ≡ Narrow c.in-Narrow.inner = search rules in
    subst (λ (o : AnyOpen). IsOpenUsage o (usage_told c.counts_of.result)) (sym is) c.counts_of.ensures.usage

pub returns-in-Wide-clause-usage : goal.returns-in-Wide-clause-usage
returns-in-Wide-clause-usage c =
    let is : c.args.at.now.value.inner ≡ Wide c.in-Wide.inner = search rules in
    subst (λ (o : AnyOpen). IsOpenUsage o (usage_told c.counts_of-in-Wide.result)) (sym is) c.counts_of-in-Wide.ensures.usage

pub returns-in-Narrow-clause-commit : goal.returns-in-Narrow-clause-commit
returns-in-Narrow-clause-commit c =
    let is : c.args.at.now.value.inner ≡ Narrow c.in-Narrow.inner = search rules in
    subst (λ (o : AnyOpen). HasCommit (open_ledger o) (open_fields o) (open_root o) (open_committed o) (open_committed_operations o)) (sym is) c.counts_of.ensures.commit

pub returns-in-Wide-clause-commit : goal.returns-in-Wide-clause-commit
returns-in-Wide-clause-commit c =
    let is : c.args.at.now.value.inner ≡ Wide c.in-Wide.inner = search rules in
    subst (λ (o : AnyOpen). HasCommit (open_ledger o) (open_fields o) (open_root o) (open_committed o) (open_committed_operations o)) (sym is) c.counts_of-in-Wide.ensures.commit
