use Rattle.std.proofs.Common.{◌≡◌, ◌+◌, ◌∙◌, ℕ, List, length, sym, refl, ap, subst, arith}
use Rattle.std.specs.Prelude.{All}
use Rattle.std.proofs.lemmas.List.{length_push}
use Rattle.std.proofs.lemmas.List.Elements.{All-push}
use Rattle.word_arena.specs.Ruled.{reader_of, writer_of}
use Rattle.image_format.specs.declared.layout.AttrLayout.{AttrLayout}
use Rattle.attr_rounds.specs.declared.asked.Asked.{Asked}
use Rattle.attr_rounds.specs.declared.job.Job.{Job}
use Rattle.attr_engine.specs.Steps.{AllFrom, IsReader}
use Rattle.attr_engine.proofs.MemoryLemmas.{from_push}
use Rattle.attr_engine.proofs.WriterLemmas.{keeps_on, reader_on}
use Rattle.attr_engine.proofs.readers.jobs_of.Goals as goal

pub loop-i-preserved : goal.loop-i-preserved
loop-i-preserved g c =
    let i = c.loop-i.invariant in
    let w = writer_of c.args.writer.now.place.me.0 in
    let v = writer_of c.loop-i.writer.place.me.0 in
    let v' = writer_of c.reader_in-reader.new.writer.place.me.0 in
    let home = c.args.writer.now.place.table_id in
    let reader = c.reader_in-reader.result in
    let jobs = c.loop-i.jobs.items in
    let IsJob : Job g.row.OFFSET_BITS AttrLayout Asked g.row.G.Denot → Type 0 =
    λ job. IsReader w home (reader_of job.reader.place.me.0) job.reader.place.table_id × (job.count ≡ c.args.rounds) × (job.question.now ≡ c.args.question.now) in
    let HasNumber : ℕ → Job g.row.OFFSET_BITS AttrLayout Asked g.row.G.Denot → Type 0 = λ number job. (reader_of job.reader.place.me.0).number ≡ number in
    let count = i.count in
    let made = i.made in
    let number = c.reader_in-reader.ensures.number in
    let one = c.reader_in-reader.ensures.made in
    let long = ap length c.in_ok-push.ensures.items ∙ length_push jobs _ in
    record {
      count = omega (arith, long, count);
      jobs = subst (All IsJob) (sym c.in_ok-push.ensures.items) (All-push IsJob jobs _ i.jobs
          (reader_on w v home c.loop-i.writer.place.table_id (reader_of reader.place.me.0) reader.place.table_id i.keeps i.table c.reader_in-reader.ensures.reader, refl, refl));
      numbers = subst (AllFrom HasNumber w.made) (sym c.in_ok-push.ensures.items) (from_push HasNumber w.made jobs _ i.numbers (omega (arith, number, made, count)));
      taken = c.reader_in-reader.ensures.taken ∙ i.taken;
      keeps = keeps_on w v v' i.keeps c.reader_in-reader.ensures.keeps;
      made = omega (arith, one, made);
      table = c.reader_in-reader.ensures.table ∙ i.table;
    }
