use Rattle.std.proofs.Common.{[], refl, sym}
use Rattle.std.proofs.lemmas.Bool.{eqb-true}
use Rattle.store_api.proofs.PartLemmas.{turns-same}
use Rattle.posting_store.proofs.ChangeLemmas.{makes_nothing}
use Rattle.posting_store.proofs.making.make_list.Goals as goal

pub returns-then-is_empty-clause-makes : goal.returns-then-is_empty-clause-makes
returns-then-is_empty-clause-makes g c =
    makes_nothing _ _ _ _ 0 c.args.items.now refl refl (eqb-true _ _ (sym c.if-is_empty.ensures)) (turns-same _ _ [])
