use Rattle.std.proofs.Common.{ap, ◌∙◌}
use Rattle.gen_core.specs.declared.views.WriterView.{WriterView}
use Rattle.gen_core.specs.Work.{stored_by, writer_records}
use Rattle.gen_core.proofs.WriterRecords.{records-others, records-published}
use Rattle.gen_core.proofs.StoredWords.{stored-step, two-steps, stored-given, hand-records}
use Rattle.gen_core.proofs.laws.work_law.Goals as goal

pub returns : goal.returns
returns c = record {
  stored = λ w ref i width n q j lies lt. stored-step w ref i width n lies.active lies.entry lt q j;
  others = λ w ref i width n q lies lt other. records-others w ref width i n lies.active lies.entry lt q other;
  handed_out = λ w b width ref i tag good free some. (
    ap (λ (v : WriterView). stored_by v ref i) (two-steps w good b tag width free some) ∙ stored-given w good b tag width free some ref i,
    ap (λ (v : WriterView). writer_records v ref) (two-steps w good b tag width free some) ∙ ap (λ m. m ref) (hand-records w good b tag width free some),
  );
  published = records-published;
}
