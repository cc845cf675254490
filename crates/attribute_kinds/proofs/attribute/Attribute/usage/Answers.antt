use Rattle.std.proofs.Common.{subst}
use Rattle.store_api.specs.Usages.{IsUsage}
use Rattle.attribute_kinds.specs.Views.{AttributeView}
use Rattle.attribute_kinds.proofs.attribute.Attribute.usage.Goals as goal

pub returns : goal.returns
returns g c = subst (λ (v : AttributeView g.row.S.Denot). IsUsage g.row.OFFSET_BITS (g.S.Store.ledger v.store) c.usage.result) c.self.view_is c.usage.ensures
