use Rattle.std.proofs.Common.{◌≡◌, Some, ⊎_elim, arith}
use Rattle.entry_ref.specs.Images.{record_at}
use Rattle.gen_core.specs.Views.{last_image}
use Rattle.gen_core.specs.Work.{IsRecordStored}
use Rattle.gen_core.proofs.WriterRecords.{records-whole}
use Rattle.gen_core.proofs.Publish.{records-stands}
use Rattle.gen_core.proofs.Work.{records-found}
use Rattle.gen_core.proofs.laws.records_law.Goals as goal
use Rattle.gen_core.proofs.GoodViews.{good_view, records-last}

pub returns : goal.returns
returns g c =
    let l = g.L.Layout in
    record {
      found = λ s ref some. records-found s.writer ref some;
      records = λ s ref ws good is. ⊎_elim
          (λ (old : record_at (last_image s.writer.commits) ref ≡ Some ws). records-last s.writer (good_view l.reaches l.lawful s good) ref ws old)
          (λ (whole : IsRecordStored s.writer ref ws). records-whole s.writer ref ws whole)
          is;
      stand = λ s ref i good lt. records-stands l.reaches l.lawful s good ref (omega (arith, lt)) i lt;
    }
