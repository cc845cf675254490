use Rattle.std.proofs.Common.{ap, ◌∙◌}
use Rattle.std.proofs.lemmas.Result.{IfOk-weaker}
use Rattle.attr_types.proofs.WeightLemmas.{same_items, put_weights-more, put_weights-nil}
use Rattle.attr_types.proofs.set.with_more.Goals as goal
use Rattle.attr_types.specs.Weights.{put_weights}

pub returns : goal.returns
returns c =
    let items = c.args.items.now in
    let more = c.args.more.now in
    let start = ap (λ weights. put_weights weights items) c.new-weights.ensures.empty
    ∙ put_weights-nil items c.requires in
    let joined = ap (λ weights. put_weights weights more) (c.in_ok-put_all.ensures ∙ start)
    ∙ put_weights-more items more in
    IfOk-weaker c.items_of.result _ _ (λ items is. same_items _ _ (is ∙ c.in_ok-put_all-2.ensures ∙ joined)) c.items_of.ensures
