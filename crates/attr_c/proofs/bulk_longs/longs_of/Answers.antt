use Rattle.std.proofs.Common.{ℕ, pos, length, map, ap, ◌∙◌}
use Rattle.std.specs.List.{filter_map}
use Rattle.std.specs.Option.{unwrap_or}
use Rattle.query_results.specs.Longs.{presence}
use Rattle.result_model.specs.Totals.{number_of}
use Rattle.attr_c.specs.Kept.{table_in, KeptView}
use Rattle.attr_c.proofs.bulk_longs.longs_of.Goals as goal

pub returns-clause-longs : goal.returns-clause-longs
returns-clause-longs g c = λ ok.
    let docs = c.args.documents.now in
    let field = c.args.field in
    let same = c.tell_commit.ensures.same in
    let tells = c.tell_commit.ensures.tells in
    record {
      numbers_are = c.longs.ensures.numbers ∙ ap (λ (k : KeptView). map (λ (document : ℕ). unwrap_or (number_of field (table_in k) document) (pos 0)) docs) same;
      present_are = c.longs.ensures.present ∙ ap (λ (k : KeptView). map (λ (document : ℕ). presence (number_of field (table_in k) document)) docs) same;
      tells = record { commit = tells.commit; operations = tells.operations };
      count = c.longs.ensures.count ∙ ap (λ (k : KeptView). length (filter_map (number_of field (table_in k)) docs)) same;
    }
