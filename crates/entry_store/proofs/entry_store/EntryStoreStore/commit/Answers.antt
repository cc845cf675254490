use Rattle.std.proofs.Common.{ap, ◌∙◌, arith}
use Rattle.entry_ref.specs.Images.{words_at}
use Rattle.arena_api.specs.Generations.{current}
use Rattle.entry_store.proofs.Storing.{adds-all, stores-commit}
use Rattle.entry_store.proofs.entry_store.EntryStoreStore.commit.Goals as goal

pub publish-commit-requires : goal.publish-commit-requires
publish-commit-requires g c = (omega arith, (omega arith, (c.requires.unit, (c.requires.lawful, (c.requires.room, c.requires.whole)))))

pub end_commit-requires : goal.end_commit-requires
end_commit-requires g c =
    let p = c.publish-commit.ensures in
    let now = ap current p.publishes.work in
    let last = p.publishes.adds.last in
    let timely = c.args.self.now.stands.timely in
    (omega arith, (p.unit, (p.records, (p.tagged, (p.apart, (λ r i. ap (λ w. w.stored r i) p.publishes.work, omega arith))))))

pub returns-clause-commit : goal.returns-clause-commit
returns-clause-commit g c = adds-all g.row.OFFSET_BITS _ _ _ _ _ c.end_commit.result c.publish-commit.ensures.publishes c.end_commit.ensures.ends

pub returns-clause-stores : goal.returns-clause-stores
returns-clause-stores g c = stores-commit g.row.OFFSET_BITS _ _ _ _ c.publish-commit.result c.end_commit.result c.publish-commit.ensures.publishes c.end_commit.ensures.ends c.end_commit.ensures.number

pub returns-clause-records : goal.returns-clause-records
returns-clause-records g c =
    let p = c.publish-commit.ensures in
    c.end_commit.ensures.records ∙ p.records ∙ ap words_at p.publishes.adds.image_is
