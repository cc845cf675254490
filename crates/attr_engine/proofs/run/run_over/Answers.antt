use Rattle.std.proofs.Common.{◌≡◌, ◌+◌, ◌∙◌, ℕ, List, map, refl, ap, subst, arith}
use Rattle.std.specs.Prelude.{Bool, false, is_some, IfSome}
use Rattle.std.proofs.lemmas.Option.{IfSome_then}
use Rattle.gen_core.specs.Views.{last_number}
use Rattle.word_arena.specs.Ruled.{writer_of}
use Rattle.attr_types.specs.Scores.{ask_tree}
use Rattle.attr_types.specs.declared.field.Field.{Field}
use Rattle.attr_report.specs.Run.{run_in}
use Rattle.attr_engine.specs.Saver.{one_if, save_parts}
use Rattle.attr_engine.specs.Steps.{parts, AllFrom, LoadsInto}
use Rattle.attr_engine.specs.Rounds.{operations_of, tells_of}
use Rattle.attr_engine.proofs.RunLemmas.{asked_as, last_as, last_on, run_result_of}
use Rattle.attr_engine.proofs.SaverLemmas.{chosen_asked, chosen_is, if_both, save_after, save_beside}
use Rattle.attr_engine.specs.Rounds.{IsSaveOf}
use Rattle.attr_rounds.specs.Saves.{saves_of}
use Rattle.attr_engine.proofs.WriterLemmas.{full_at_end, keeps_on}
use Rattle.attr_engine.proofs.MemoryLemmas.{chosen_from, of_memory, ReadsIn}
use Rattle.attr_engine.proofs.run.run_over.Goals as goal

pub returns : goal.returns
returns g c =
    let run = run_in c.args.request.now in
    let q = c.requires.question in
    let w = writer_of c.args.writer.place.me.0 in
    let v = writer_of c.in_ok-loading.loading.writer.place.me.0 in
    let x = writer_of c.read_after.new.writer.place.me.0 in
    let has = c.in_ok-loading.ensures in
    let counted = c.args.question.now.counted in
    let loaded = c.in_ok-loading.loading.loaded.operations in
    let some = ap (λ (p : ℕ × ℕ). p.0) c.parts-beside.ensures in
    let one = ap (λ (p : Bool × Bool). one_if p.0) c.save_parts-save.ensures in
    let made_is = has.made in
    let none = c.requires.unread in
    let made : v.made ≡ (parts run.after run.readers).0 + one_if (save_parts run.after run.save).0 = omega (arith, made_is, none, some, one) in
    let asks = map ask_tree c.args.question.now.asks.now in
    let loads = subst (λ (fs : List Field). LoadsInto fs run.dense run.batch c.args.ops.now w v c.in_ok-loading.loading.loaded) q.fields_are has.loads in
    let first = asked_as counted (is_some run.make) asks run.asks q.counted_is q.asks_are v.sizes.shape (last_number w.commits) run.rounds v.commits c.in_ok-loading.loading.first.items has.rounds in
    let later = asked_as counted (is_some run.make) asks run.asks q.counted_is q.asks_are v.sizes.shape (last_number v.commits) run.rounds v.commits c.in_ok-later.later.items c.in_ok-later.ensures.rounds in
    let told = last_as counted (is_some run.make) asks run.asks q.counted_is q.asks_are v c.in_ok-last.last
    (last_on operations_of (tells_of counted asks) v x c.in_ok-last.last c.in_ok-later.ensures.keeps c.in_ok-last.ensures.last) in
    let y = writer_of c.last_answer.new.writer.place.me.0 in
    let field = c.args.saving.now.field.now in
    let keeps = keeps_on v x y c.in_ok-later.ensures.keeps c.in_ok-last.ensures.keeps in
    let shape = loads.shape_is ∙ c.requires.new.shape_is in
    let count = loads.count in
    let beside : run.after ≡ false → IfSome c.in_ok-loading.loading.saved (IsSaveOf run c.args.ops.now loaded) = λ beside_is. IfSome_then c.in_ok-loading.loading.saved has.saved
    (λ save. save_beside run c.args.ops.now field c.requires.field loads.last v.commits loads.commits loads.count v.sizes.shape shape c.in_ok-loading.loading.loaded.operations loads.point v save refl refl beside_is) in
    let behind = if_both _ _ (IsSaveOf run c.args.ops.now c.in_ok-loading.loading.loaded.operations) c.in_ok-saved.saved
    (λ save n is. save_after run c.args.ops.now field c.requires.field loads.last v.commits loads.commits loads.count v.sizes.shape shape c.in_ok-loading.loading.loaded.operations loads.point v save refl refl n
    (omega (arith, count)) (last_on operations_of (saves_of field) v y save.bytes keeps is)) c.in_ok-saved.ensures.count c.in_ok-saved.ensures.last in
    let asked = chosen_asked run.after run.save c.in_ok-loading.loading.saved c.in_ok-saved.saved c.chosen_save-saved.result c.chosen_save-saved.ensures
    (has.asked ∙ ap (λ (p : Bool × Bool). p.0) c.save_parts-save.ensures) (c.in_ok-saved.ensures.asked ∙ ap (λ (p : Bool × Bool). p.1) c.save_parts-save.ensures) in
    let saves = chosen_is (IsSaveOf run c.args.ops.now c.in_ok-loading.loading.loaded.operations) run.after run.after c.in_ok-loading.loading.saved c.in_ok-saved.saved c.chosen_save-saved.result refl
    c.chosen_save-saved.ensures beside behind in
    let end = c.last_saved.new.writer.place.me.0 in
    let full = full_at_end run c.args.ops.now loaded v c.into_seat.result end c.in_ok-loading.loading.loaded.full c.into_seat.ensures.view
    (keeps_on v y (writer_of end) keeps c.in_ok-saved.ensures.keeps) loads.full in
    let knows = c.in_ok-saved.ensures.run c.in_ok-last.ensures.run in
    let behind_reads = c.in_ok-last.ensures.taken end.seen (c.in_ok-saved.ensures.taken end.seen knows.reads) in
    let one_reads : AllFrom (ReadsIn end.seen) 0 c.in_ok-loading.loading.first.items =
    subst (λ n. AllFrom (ReadsIn end.seen) n c.in_ok-loading.loading.first.items) none (has.reads end.seen (c.in_ok-later.ensures.taken end.seen behind_reads)) in
    let two_reads : AllFrom (ReadsIn end.seen) v.made c.in_ok-later.later.items = c.in_ok-later.ensures.reads end.seen behind_reads in
    let reads = chosen_from (ReadsIn end.seen) run.after run.save run.readers v.made c.in_ok-loading.loading.first.items c.in_ok-later.later.items c.chosen-rounds.result.items
    c.chosen-rounds.ensures made one_reads two_reads in
    run_result_of run c.args.ops.now w v c.in_ok-loading.loading.loaded loads c.requires.buffers c.requires.words
    made c.requires.new.shape_is c.requires.new.commits
    c.in_ok-loading.loading.first.items c.in_ok-later.later.items c.chosen-rounds.result c.in_ok-last.last c.chosen_save-saved.result c.into_seat.result c.chosen-rounds.ensures
    (record { each = first; count = has.count ∙ ap (λ (p : ℕ × ℕ). p.0) c.parts-beside.ensures })
    (record { each = later; count = c.in_ok-later.ensures.count ∙ ap (λ (p : ℕ × ℕ). p.1) c.parts-beside.ensures }) told asked saves full
    (λ many. of_memory run c.args.ops.now v c.into_seat.result end loads.last loads.commits loads.count c.into_seat.ensures.view (keeps_on v y (writer_of end) keeps c.in_ok-saved.ensures.keeps) knows
    c.chosen-rounds.result.items many reads)
