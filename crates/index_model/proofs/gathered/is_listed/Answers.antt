use Rattle.std.proofs.Common.{◌∙◌}
use Rattle.index_model.proofs.DocLemmas.{search_has}
use Rattle.index_model.proofs.gathered.is_listed.Goals as goal

pub returns : goal.returns
returns c = c.is_ok.ensures.value ∙ search_has c.args.docs.now c.args.doc c.binary_search.result c.requires c.binary_search.ensures.position
