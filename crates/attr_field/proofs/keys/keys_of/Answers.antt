use Rattle.std.proofs.Common.{◌≡◌, [], ◌∷◌, ◌++◌, ◌+◌, suc, ◌<◌, length, refl, sym, subst, ◌∙◌, arith, rules}
use Rattle.std.proofs.lemmas.Result.{err_from_is_err_and}
use Rattle.std.proofs.lemmas.Option.{slice_get_read}
use Rattle.list_lemmas.proofs.Each.{AllByRecursion-slice_get, AllByRecursion-map_slice_get}
use Rattle.image_format.specs.Postings.{index_of}
use Rattle.index_model.specs.Index.{list_of}
use Rattle.attr_types.specs.Value.{type_of}
use Rattle.attr_types.specs.declared.items.Item.{Item}
use Rattle.value_index.specs.Indexes.{IsIndex}
use Rattle.attr_field.specs.Steps.{FindsKey}
use Rattle.attr_field.proofs.SearchLemmas.{KeysSoFar, keys_begin, keys_more, keys_end}
use Rattle.attr_field.proofs.keys.keys_of.Goals as goal

pub returns-in_err-keys-clause-keys : goal.returns-in_err-keys-clause-keys
returns-in_err-keys-clause-keys g c = let p = err_from_is_err_and c.from_residual.result c.from_residual.ensures.1 in rw p.1 tt

pub returns-in_err-keys-clause-kept : goal.returns-in_err-keys-clause-kept
returns-in_err-keys-clause-kept g c = let p = err_from_is_err_and c.from_residual.result c.from_residual.ensures.1 in rw p.1 tt

pub returns-in_err-keys-clause-same : goal.returns-in_err-keys-clause-same
returns-in_err-keys-clause-same g c = refl

pub loop-item-init : goal.loop-item-init
loop-item-init g c =
    let m = g.F.Frozen.records c.args.frozen.now in
    record {
      so_far = subst (λ keys. KeysSoFar c.args.value_type m c.args.root keys c.args.items.now 0) (sym c.in_ok-keys.ensures.items)
          (keys_begin c.args.value_type m c.args.root c.args.items.now);
      same = refl;
    }

pub offset_bounds-items-item-index : goal.offset_bounds-items-item-index
offset_bounds-items-item-index g c = search rules

pub key_of-found-requires : goal.key_of-found-requires
key_of-found-requires g c =
    let items = c.args.items.now in
    let at = slice_get_read items (length items) c.loop-item.item-index c.item-item.result refl c.loop-item-test.true c.item-item.is in
    let type = c.args.value_type in (
      omega arith,
      (
        subst (λ f. IsIndex type (g.F.Frozen.records f) c.args.root) (sym c.loop-item.invariant.same) c.requires.index,
        (
          AllByRecursion-map_slice_get (λ value. type_of value ≡ type) (λ (x : Item). x.value) items c.loop-item.item-index c.item-item.result c.requires.typed at,
          subst (λ f. 0 < length (list_of c.item-item.result.value (index_of type (g.F.Frozen.records f) c.args.root))) (sym c.loop-item.invariant.same)
              (AllByRecursion-slice_get (λ (item : Item). 0 < length (list_of item.value (index_of type (g.F.Frozen.records c.args.frozen.now) c.args.root)))
              items c.loop-item.item-index c.item-item.result c.requires.listed at),
        ),
      ),
    )

pub returns-in_err-push-clause-keys : goal.returns-in_err-push-clause-keys
returns-in_err-push-clause-keys g c = let p = err_from_is_err_and c.from_residual-in_err-push.result c.from_residual-in_err-push.ensures.1 in rw p.1 tt

pub returns-in_err-push-clause-kept : goal.returns-in_err-push-clause-kept
returns-in_err-push-clause-kept g c = let p = err_from_is_err_and c.from_residual-in_err-push.result c.from_residual-in_err-push.ensures.1 in rw p.1 tt

pub returns-in_err-push-clause-same : goal.returns-in_err-push-clause-same
returns-in_err-push-clause-same g c = c.key_of-found.ensures.same ∙ c.loop-item.invariant.same

pub loop-item-preserved : goal.loop-item-preserved
loop-item-preserved g c =
    let m = g.F.Frozen.records c.args.frozen.now in
    let items = c.args.items.now in
    let type = c.args.value_type in
    let root = c.args.root in
    let i = c.loop-item.item-index in
    let next : suc i ≡ i + 1 = omega arith in
    let at = slice_get_read items (length items) i c.item-item.result refl c.loop-item-test.true c.item-item.is in
    let finds = subst (λ f. FindsKey type (g.F.Frozen.records f) root c.item-item.result.value c.key_of-found.result) c.loop-item.invariant.same c.key_of-found.ensures.key in
    let more = keys_more type m root items c.loop-item.keys.items i c.key_of-found.result c.item-item.result c.loop-item.invariant.so_far at finds in
    record {
      so_far = subst (λ keys. KeysSoFar type m root keys items (i + 1)) (sym c.in_ok-push.ensures.items)
          (subst (λ j. KeysSoFar type m root (c.loop-item.keys.items ++ c.key_of-found.result ∷ []) items j) next more);
      same = c.key_of-found.ensures.same ∙ c.loop-item.invariant.same;
    }

pub returns-clause-keys : goal.returns-clause-keys
returns-clause-keys g c =
    let items = c.args.items.now in
    let last : c.loop-item.item-index ≡ length items = (let no = c.loop-item-test.false in let most = c.loop-item.auto.item-index-end in omega arith) in
    let m = g.F.Frozen.records c.args.frozen.now in
    keys_end c.args.value_type m c.args.root items c.loop-item.keys.items
    (subst (λ j. KeysSoFar c.args.value_type m c.args.root c.loop-item.keys.items items j) last c.loop-item.invariant.so_far)

pub returns-clause-kept : goal.returns-clause-kept
returns-clause-kept g c = c.loop-item.invariant.so_far.kept

pub returns-clause-same : goal.returns-clause-same
returns-clause-same g c = c.loop-item.invariant.same
