use Rattle.std.proofs.Common.{refl}
use Rattle.attr_engine.proofs.SaverLemmas.{first_is}
use Rattle.attr_engine.proofs.run.first_law.Goals as goal

pub returns : goal.returns
returns c = first_is c.args._fields.now c.args._field.now _ c.requires.few refl c.requires.first
