use Rattle.bit_vector.proofs.WalkLemmas.{doc_is}
use Rattle.bit_vector.proofs.cursor.VectorCursor.doc.Goals as goal

pub returns : goal.returns
returns g c = λ m place. doc_is m c.args.self.now place c.requires
