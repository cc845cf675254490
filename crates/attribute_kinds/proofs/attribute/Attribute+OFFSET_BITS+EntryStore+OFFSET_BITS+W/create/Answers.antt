use Rattle.std.proofs.Common.{◌<◌, ◌≤◌, ◌∙◌, length, refl, sym, ap, subst, arith, rules}
use Rattle.std.specs.Prelude.{is_some}
use Rattle.std.proofs.lemmas.Result.{err_from_is_err_and}
use Rattle.image_format.specs.Shapes.{shape_of, types_of}
use Rattle.attr_types.specs.declared.field.TheConstants.{MOST_FIELDS}
use Rattle.attribute_kinds.proofs.Opening.{forms_made, stands_made, table_made}
use Rattle.attribute_kinds.proofs.attribute.Attribute+OFFSET_BITS+EntryStore+OFFSET_BITS+W.create.Goals as goal

pub returns-in_default-clause-left : goal.returns-in_default-clause-left
returns-in_default-clause-left g c = refl

pub empty_roots-requires : goal.empty_roots-requires
empty_roots-requires g c = omega arith

pub returns-in_default-empty_roots-clause-left : goal.returns-in_default-empty_roots-clause-left
returns-in_default-empty_roots-clause-left g c = refl

pub create-requires : goal.create-requires
create-requires g c = (search rules, c.requires.fresh)

pub returns-in_err-store-clause-fields : goal.returns-in_err-store-clause-fields
returns-in_err-store-clause-fields g c = let p = err_from_is_err_and c.from_residual.result c.from_residual.ensures.1 in rw p.1 tt

pub returns-in_err-store-clause-table : goal.returns-in_err-store-clause-table
returns-in_err-store-clause-table g c = let p = err_from_is_err_and c.from_residual.result c.from_residual.ensures.1 in rw p.1 tt

pub returns-in_err-store-clause-operations : goal.returns-in_err-store-clause-operations
returns-in_err-store-clause-operations g c = let p = err_from_is_err_and c.from_residual.result c.from_residual.ensures.1 in rw p.1 tt

pub returns-in_err-store-clause-root : goal.returns-in_err-store-clause-root
returns-in_err-store-clause-root g c = let p = err_from_is_err_and c.from_residual.result c.from_residual.ensures.1 in rw p.1 tt

pub returns-in_err-store-clause-work : goal.returns-in_err-store-clause-work
returns-in_err-store-clause-work g c = let p = err_from_is_err_and c.from_residual.result c.from_residual.ensures.1 in rw p.1 tt

pub returns-in_err-store-clause-left : goal.returns-in_err-store-clause-left
returns-in_err-store-clause-left g c = let p = err_from_is_err_and c.from_residual.result c.from_residual.ensures.1 in rw (p.1, p.2) c.in_err-store.ensures.left

pub same-own : goal.same-own
same-own g c = refl

pub from_raw-requires : goal.from_raw-requires
from_raw-requires g c = omega arith

pub invariant_of-result : goal.invariant_of-result
invariant_of-result g c =
    let own = c.in-Ok.own in
    let is = c.in-Ok.ensures in
    record {
      stands = stands_made c.field_law.ensures.nothing g.row.OFFSET_BITS _ _ _ own c.in-Ok-empty_roots.roots.items c.len.result c.from_raw.result c.in-Ok-empty_roots.ensures
          (c.len.ensures ∙ sym (ap length is)) c.from_raw.ensures
          (subst (λ fs. 0 < length fs) (sym is) c.requires.some) (subst (λ fs. length fs ≤ MOST_FIELDS) (sym is) c.requires.few)
          (c.in_ok-store.ensures.shape ∙ c.requires.shape ∙ sym (ap (λ fs. shape_of (types_of fs)) is)) c.in_ok-store.ensures.new c.in_ok-store.ensures.work c.requires.fresh;
      forms = forms_made c.field_law.ensures.plain g.row.OFFSET_BITS _ c.args.dense own c.in-Ok-empty_roots.roots.items c.len.result c.in-Ok-empty_roots.ensures (c.len.ensures ∙ sym (ap length is));
      plan_is = tt;
      last_is = tt;
      waits_is = sym (ap is_some c.in_ok-store.ensures.new.finished);
    }

pub returns-clause-fields : goal.returns-clause-fields
returns-clause-fields g c = c.in-Ok.ensures

pub returns-clause-table : goal.returns-clause-table
returns-clause-table g c =
    table_made c.field_law.ensures.nothing g.row.OFFSET_BITS _ c.in-Ok.own c.in-Ok-empty_roots.roots.items c.len.result c.in-Ok-empty_roots.ensures (c.len.ensures ∙ sym (ap length c.in-Ok.ensures))

pub returns-clause-operations : goal.returns-clause-operations
returns-clause-operations g c = refl

pub returns-clause-root : goal.returns-clause-root
returns-clause-root g c = c.from_raw.ensures

pub returns-clause-work : goal.returns-clause-work
returns-clause-work g c = c.in_ok-store.ensures.work

pub returns-in_err-store-clause-plan : goal.returns-in_err-store-clause-plan
returns-in_err-store-clause-plan g c = let p = err_from_is_err_and c.from_residual.result c.from_residual.ensures.1 in rw p.1 tt

pub returns-clause-plan : goal.returns-clause-plan
returns-clause-plan g c = refl

pub returns-in_err-store-clause-counts : goal.returns-in_err-store-clause-counts
returns-in_err-store-clause-counts g c = let p = err_from_is_err_and c.from_residual.result c.from_residual.ensures.1 in rw p.1 tt

pub returns-clause-counts : goal.returns-clause-counts
returns-clause-counts g c = c.in_ok-store.ensures.new.counts

pub returns-in_err-store-clause-dense : goal.returns-in_err-store-clause-dense
returns-in_err-store-clause-dense g c = let p = err_from_is_err_and c.from_residual.result c.from_residual.ensures.1 in rw p.1 tt

pub returns-clause-dense : goal.returns-clause-dense
returns-clause-dense g c = refl
