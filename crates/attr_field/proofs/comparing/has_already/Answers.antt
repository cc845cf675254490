use Rattle.std.proofs.Common.{◌≡◌, ◌↔◌, IsTrue, List, [], Option, refl, sym, ap, ◌∙◌, arith, true≢false, Some, nat_cmp, Bool}
use Rattle.std.specs.BTreeMap.{is_at}
use Rattle.std.specs.Map.{lookup}
use Rattle.std.specs.Prelude.{is_some, unwrap_or}
use Rattle.attr_types.specs.declared.items.Item.{Item}
use Rattle.image_format.specs.Documents.{column_at}
use Rattle.attr_field.proofs.CompareLemmas.{there_again, there_full}
use Rattle.attr_field.proofs.RefLemmas.{if_ok}
use Rattle.attr_field.proofs.comparing.has_already.Goals as goal

pub returns-then-not-same_items-clause-has : goal.returns-then-not-same_items-clause-has
returns-then-not-same_items-clause-has g c = (
  λ no. absurd (true≢false (sym no)),
  λ is.
      let same : c.args.old.now ≡ c.args.new.now = c.requires.was ∙ ap (λ (o : Option (List Item)). unwrap_or o []) is in
      absurd (true≢false (sym (c.same_items.ensures.1 same) ∙ c.if-not-same_items.true)),
)

pub returns-then-not-same_items-clause-same : goal.returns-then-not-same_items-clause-same
returns-then-not-same_items-clause-same g c = refl

pub returns-then-not-is_empty-clause-has : goal.returns-then-not-is_empty-clause-has
returns-then-not-is_empty-clause-has g c = (
  λ yes. there_full (lookup (is_at (nat_cmp c.args.doc)) (column_at c.args.kind c.args.value_type (g.F.Frozen.records c.args.frozen.now) c.args.root)) c.args.old.now c.args.new.now
      c.requires.was (c.same_items.ensures.0 c.if-not-same_items.false) (sym c.is_empty.ensures ∙ c.if-not-is_empty.true),
  λ is. refl,
)

pub returns-then-not-is_empty-clause-same : goal.returns-then-not-is_empty-clause-same
returns-then-not-is_empty-clause-same g c = refl

pub is_there-requires : goal.is_there-requires
is_there-requires g c = (omega arith, c.requires.documents)

pub returns-clause-has : goal.returns-clause-has
returns-clause-has g c =
    let found = lookup (is_at (nat_cmp c.args.doc)) (column_at c.args.kind c.args.value_type (g.F.Frozen.records c.args.frozen.now) c.args.root) in
    if_ok (λ (there : Bool). there ≡ is_some found) (λ (there : Bool). IsTrue there ↔ (found ≡ Some c.args.new.now)) c.is_there.result c.is_there.ensures.there
    (λ there is. (λ yes. there_again found c.args.old.now c.args.new.now c.requires.was (c.same_items.ensures.0 c.if-not-same_items.false) (sym is ∙ yes), λ same. is ∙ ap is_some same))

pub returns-clause-same : goal.returns-clause-same
returns-clause-same g c = c.is_there.ensures.same
