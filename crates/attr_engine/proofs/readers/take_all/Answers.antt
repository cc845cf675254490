use Rattle.std.proofs.Common.{◌≡◌, ◌∷◌, ◌++◌, List, map, sym, ap, subst, ◌∙◌, arith, rules}
use Rattle.std.proofs.lemmas.Grind.{common_steps}
use Rattle.std.specs.Prelude.{[], Result, IfOk, IsOkAnd, Vec}
use Rattle.std.specs.Global.{Global}
use Rattle.std.specs.Vec.Iter.{into_iter_items}
use Rattle.std.specs.List.{AllZip}
use Rattle.std.specs.declared.alloc.AllocError.{AllocError}
use Rattle.list_lemmas.proofs.Pairs.{AllZip-push}
use Rattle.gen_core.specs.declared.views.WriterView.{WriterView}
use Rattle.word_arena.specs.Ruled.{reader_of, writer_of}
use Rattle.image_format.specs.declared.layout.AttrLayout.{AttrLayout}
use Rattle.attr_types.specs.Scores.{ask_tree}
use Rattle.attr_rounds.specs.declared.rounds.Reading.{Reading}
use Rattle.attr_rounds.specs.declared.rounds.Round.{Round}
use Rattle.attr_rounds.specs.declared.asked.Told.{Told}
use Rattle.attr_engine.specs.Steps.{IsReading, IsTakenFrom}
use Rattle.gen_core.specs.declared.views.Event.{Event}
use Rattle.gen_core.specs.Reads.{reads_of}
use Rattle.attr_engine.specs.Rounds.{commits_of}
use Rattle.attr_engine.proofs.MemoryLemmas.{took_in}
use Rattle.attr_engine.proofs.ReaderLemmas.{taken_in, keeps_joined}
use Rattle.attr_engine.proofs.WriterLemmas.{keeps_on}
use Rattle.attr_engine.proofs.readers.take_all.Goals as goal

pub loop-reading-preserved : goal.loop-reading-preserved
loop-reading-preserved g c =
    let i = c.loop-reading.invariant in
    let w = writer_of c.args.writer.now.place.me.0 in
    let v = writer_of c.loop-reading.writer.place.me.0 in
    let v' = writer_of c.take_in-taken.new.writer.place.me.0 in
    let asks = map ask_tree c.args.question.now.asks.now in
    let counted = c.args.question.now.counted in
    let home = c.args.writer.now.place.table_id in
    let x = c.in_ok-reading.reading in
    let r = reader_of x.reader.place.me.0 in
    let Taken : Result (Reading g.row.OFFSET_BITS AttrLayout Told) AllocError → Vec (Round Told) Global → Type 0 =
    λ reading taken. IsOkAnd reading (λ y. IsTakenFrom counted asks w.sizes.shape w.commits y.rounds.items taken.items) in
    let rest : into_iter_items c.loop-reading.reading-iterator ≡ c.in-Some.reading ∷ into_iter_items c.next.new.self = search rules in
    let fit = rw rest at i.fit in
    let own : IsReading counted asks w.sizes.shape home r x.reader.place.table_id x.rounds.items =
    subst (λ (reading : Result (Reading g.row.OFFSET_BITS AttrLayout Told) AllocError).
    IfOk reading (λ y. IsReading counted asks w.sizes.shape home (reader_of y.reader.place.me.0) y.reader.place.table_id y.rounds.items)) c.in_ok-reading.was fit.0 in
    let taken = taken_in counted asks w v v' home x.reader.place.table_id r x.rounds.items c.take_in-taken.result.items i.keeps c.take_in-taken.ensures.view own
    c.take_in-taken.ensures.same c.take_in-taken.ensures.rounds in
    let Reads : List Event → Result (Reading g.row.OFFSET_BITS AttrLayout Told) AllocError → Vec (Round Told) Global → Type 0 =
    λ events reading taken. IsOkAnd reading (λ y. commits_of taken.items ≡ reads_of (reader_of y.reader.place.me.0).number events) in
    let here : Taken c.in-Some.reading c.take_in-taken.result = subst (λ reading. Taken reading c.take_in-taken.result) (sym c.in_ok-reading.was) taken in
    record {
      fit = fit.1;
      all = grind (arith, common_steps);
      zip = subst (AllZip Taken (c.loop-reading.yielded ++ c.in-Some.reading ∷ [])) (sym c.in_ok-push.ensures.items)
          (AllZip-push Taken c.loop-reading.yielded c.loop-reading.rounds.items c.in-Some.reading c.take_in-taken.result i.zip here);
      reads = λ events read.
          let now = took_in v v' r events c.take_in-taken.ensures.view read in
          let own_reads : Reads events c.in-Some.reading c.take_in-taken.result =
          subst (λ reading. Reads events reading c.take_in-taken.result) (sym c.in_ok-reading.was) (ap commits_of c.take_in-taken.ensures.same ∙ own.all_seen ∙ now.0) in
          subst (AllZip (Reads events) (c.loop-reading.yielded ++ c.in-Some.reading ∷ [])) (sym c.in_ok-push.ensures.items)
          (AllZip-push (Reads events) c.loop-reading.yielded c.loop-reading.rounds.items c.in-Some.reading c.take_in-taken.result (i.reads events now.1) own_reads);
      taken = λ events read. i.taken events (took_in v v' r events c.take_in-taken.ensures.view read).1;
      made = ap (λ (x : WriterView). x.made) c.take_in-taken.ensures.view ∙ i.made;
      keeps = keeps_on w v v' i.keeps (keeps_joined v v' r c.take_in-taken.ensures.view);
      table = c.take_in-taken.ensures.table ∙ i.table;
    }

pub returns-in_err-push-clause-taken : goal.returns-in_err-push-clause-taken
returns-in_err-push-clause-taken g c =
    let v = writer_of c.loop-reading.writer.place.me.0 in
    let v' = writer_of c.take_in-taken.new.writer.place.me.0 in
    let r = reader_of c.in_ok-reading.reading.reader.place.me.0 in
    λ events read. c.loop-reading.invariant.taken events (took_in v v' r events c.take_in-taken.ensures.view read).1
