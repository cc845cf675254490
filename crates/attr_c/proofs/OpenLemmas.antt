-- What a new engine has.
use Rattle.std.proofs.Common.{◌≡◌, ℕ, List, [], ℤ, Option, None, sym, refl, subst, ◌∙◌, ap}
use Rattle.arena_api.specs.Works.{last_image}
use Rattle.entry_ref.specs.Images.{words_at}
use Rattle.store_api.specs.Ledgers.{Ledger}
use Rattle.attr_compaction.specs.Places.{PlanView}
use Rattle.image_format.specs.Images.{operations_at, table_of}
use Rattle.image_format.specs.Shapes.{shape_of, types_of}
use Rattle.image_format.proofs.ImageLemmas.{table_empty}
use Rattle.attribute_kinds.specs.Calls.{HasCommit}
use Rattle.attr_types.specs.Table.{Table}
use Rattle.attr_types.specs.declared.field.Field.{Field}
use Rattle.attr_c.specs.Engines.{HasNothing}
use Rattle.attr_c.specs.Opening.{RefusesOpening}
use Rattle.attr_c.specs.declared.codes.TheConstants.{MEMORY}
use Rattle.attr_c.specs.declared.told.Sizes.{Sizes}

-- without a root nothing is committed
pub nothing_yet : {H : Type 0} (ledger : Ledger H) (fields : List Field) (root : ℕ) (table committed : Table) (operations published : ℕ) (plan : Option PlanView) → HasCommit ledger fields root committed published
    → root ≡ 0 → table ≡ [] → operations ≡ 0 → plan ≡ None → HasNothing table committed operations published root plan
nothing_yet ledger fields root table committed operations published plan has no_root no_table none no_plan =
    let shape = shape_of (types_of fields) in
    let m = words_at (last_image ledger.work.commits) in
    record {
      table_is = no_table;
      committed_is = sym has.table_is ∙ ap (table_of shape m) no_root ∙ table_empty shape m;
      operations_are = none;
      published_are = sym has.operations_are ∙ ap (operations_at m) no_root;
      root_is = no_root;
      plan_is = no_plan;
    }

-- memory is exhausted
pub refuses_memory : (text : List ℕ) (sizes : Sizes) (place : ℕ) (code : ℤ) → code ≡ MEMORY → RefusesOpening text sizes place code
refuses_memory text sizes place code is =
    subst (RefusesOpening text sizes place) (sym is) (record { not_ok = λ e. cc; not_text = λ e. cc; attributes = λ e. cc; bounds = λ e. cc; others = λ a b. refl })
