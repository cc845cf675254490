use Rattle.attr_io.proofs.Given.{given_each}
use Rattle.attr_io.proofs.beside.run_each.Goals as goal

pub returns : goal.returns
returns g c = given_each _ _ g.T.Task.run_gives (λ x r gives. gives) c.args.tasks c.map_vec.result c.map_vec.ensures.len c.map_vec.ensures.each
