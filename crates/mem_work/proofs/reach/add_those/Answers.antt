use Rattle.std.proofs.Common.{◌∙◌, sym, ap}
use Rattle.entry_ref.specs.Maps.{seen}
use Rattle.mem_work.specs.Entries.{with_those}
use Rattle.mem_work.proofs.Chosen.{those-last, put-is}
use Rattle.mem_work.proofs.reach.add_those.Goals as goal

pub loop-reference-preserved : goal.loop-reference-preserved
loop-reference-preserved c q =
    let m = seen c.args.records.now in
    let e = c.in_ok-put_words.ensures in
    those-last c.pop.new.self.items c.in-Some.reference m (seen c.loop-reference.map) (seen c.put_words.new.map)
    (put-is (seen c.put_words.new.map) (seen c.loop-reference.map) (m c.in-Some.reference) c.in-Some.reference (e.here ∙ c.words_at.ensures.words ∙ ap m c.from.ensures) e.others) q
    ∙ ap (λ rs. with_those rs m (seen c.loop-reference.map) q) (sym c.in-Some.ensures.items)
    ∙ c.loop-reference.invariant q
