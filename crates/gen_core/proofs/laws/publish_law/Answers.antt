use Rattle.gen_core.specs.Work.{writer_records}
use Rattle.gen_core.specs.Laws.{IsLastOrWhole}
use Rattle.gen_core.proofs.Law.{published_stands}
use Rattle.gen_core.proofs.Work.{records-found}
use Rattle.gen_core.proofs.laws.publish_law.Goals as goal
use Rattle.gen_core.proofs.ViewLemmas.{all_pairs}

pub returns : goal.returns
returns g c =
    let l = g.L.Layout in
    record {
      stands = published_stands l.reaches l.lawful (record { empty_reaches = l.empty_reaches; empty_lawful = l.empty_lawful; present = l.present; stays = l.stays });
      whole = λ s root may. all_pairs (λ pair. IsLastOrWhole l.reaches l.lawful s pair.0 pair.1) (l.reaches s.writer.sizes.shape (writer_records s.writer) root) (writer_records s.writer)
          (l.present s.writer.sizes.shape (writer_records s.writer) root may.lawful_root) (records-found s.writer);
    }
