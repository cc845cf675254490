use Rattle.bit_vector.proofs.WalkLemmas.{end_tells, follows_if}
use Rattle.bit_vector.proofs.cursor.VectorCursor.at_end.Goals as goal

pub returns-clause-documents : goal.returns-clause-documents
returns-clause-documents g c = λ m place.
    let at = c.args.self.now.blocks in
    end_tells m c.args.self.now place c.at_end.result (c.at_end.ensures.pairs m place.blocks.stands).0 (follows_if at.slot at.used c.at_end.result c.at_end.ensures.pair)

pub returns-clause-follows : goal.returns-clause-follows
returns-clause-follows g c = follows_if c.args.self.now.blocks.slot c.args.self.now.blocks.used c.at_end.result c.at_end.ensures.pair
