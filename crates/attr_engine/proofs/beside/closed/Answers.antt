use Rattle.std.proofs.Common.{◌∙◌, refl}
use Rattle.attr_engine.proofs.beside.closed.Goals as goal

pub returns-clause-knows : goal.returns-clause-knows
returns-clause-knows g c = rw (c.into_work.ensures.knows, c.into_store-store.ensures.store) refl

pub returns-clause-shape : goal.returns-clause-shape
returns-clause-shape g c = c.into_work.ensures.shape ∙ c.into_store-store.ensures.shape
