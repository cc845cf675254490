use Rattle.std.proofs.Common.{◌≡◌, [], ◌∷◌, ap, ◌∙◌}
use Rattle.attr_types.specs.declared.op.Op.{Op}
use Rattle.attr_c.specs.Loading.{put_of}
use Rattle.attr_c.proofs.ApplyingLemmas.{applies_wider}
use Rattle.attr_c.proofs.EndLemmas.{stops_wider}
use Rattle.attr_c.proofs.loading.put_document.Goals as goal

pub returns-in-Ok-clause-why : goal.returns-in-Ok-clause-why
returns-in-Ok-clause-why g c =
    stops_wider g.S.Store.ledger g.S.Frozen.records _ (λ next. next ≡ c.in-Ok.op) c.args.inner.now.attribute c.apply.new.inner.attribute (λ next. next ≡ put_of c.args.document) (λ op same. same ∙ c.in-Ok.ensures)
    c.in-Err-apply.stop c.in-Err-apply.ensures.why

pub returns-in-Ok-apply-clause-done : goal.returns-in-Ok-apply-clause-done
returns-in-Ok-apply-clause-done g c =
    applies_wider g.S.Store.ledger (λ ops. ops ≡ c.in-Ok.op ∷ []) (λ ops. ops ≡ put_of c.args.document ∷ []) c.args.inner.now.attribute c.apply.new.inner.attribute
    (λ ops same. same ∙ ap (λ (op : Op). op ∷ []) c.in-Ok.ensures) c.in-Ok-apply.ensures.done
