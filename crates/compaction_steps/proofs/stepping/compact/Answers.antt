use Rattle.std.proofs.Common.{◌≡◌, Option, None, Some, Result, Ok, Err, refl, sym, ap, subst, ◌∙◌, arith}
use Rattle.std.specs.Option.{IfNone, IfSome}
use Rattle.store_api.specs.declared.store.StoreError.{StoreError}
use Rattle.attr_compaction.specs.Places.{PlanView}
use Rattle.attr_operations.specs.Fields.{trees_of, KeepForms}
use Rattle.entry_ref.specs.Records.{Records}
use Rattle.store_api.specs.Ledgers.{Ledger}
use Rattle.attr_operations.specs.Views.{table_at}
use Rattle.compaction_steps.specs.Units.{ArePlain}
use Rattle.compaction_steps.specs.Counts.{MakesKeys}
use Rattle.compaction_steps.proofs.KeyLemmas.{forms_kept}
use Rattle.compaction_steps.proofs.KeyCounts.{keys_finished, keys_none, keys_sealed}
use Rattle.compaction_steps.specs.Compactions.{BeginsNone, OpensPlan}
use Rattle.compaction_steps.specs.Walks.{Walks}
use Rattle.compaction_steps.specs.declared.walk.Walk.{Walk}
use Rattle.compaction_steps.specs.declared.walk.Walk.TheVariants.{Over, Visited}
use Rattle.compaction_steps.proofs.OpenLemmas.{goes_to, step_over, step_refused, stops_then}
use Rattle.compaction_steps.proofs.stepping.compact.Goals as goal

pub open_plan-requires : goal.open_plan-requires
open_plan-requires g c = (omega arith, (omega arith, (c.requires.few, (c.requires.holds, (c.requires.under_way, (c.requires.last, c.requires.unfinished))))))

pub returns-in_default-clause-sized : goal.returns-in_default-clause-sized
returns-in_default-clause-sized g c = c.requires.sized

pub returns-in_default-clause-compacts : goal.returns-in_default-clause-compacts
returns-in_default-clause-compacts g c =
    let old = c.args.store.now in
    let mid = c.open_plan.new.store in
    let none = subst (λ (o : Option PlanView). IfNone o (BeginsNone g.row.OFFSET_BITS (g.S.Store.ledger old) c.args.before (mid ≡ old))) c.in_default.is c.open_plan.ensures.none in
    record { none = none; gone = refl; trees_are = refl }

pub visit_keys-requires : goal.visit_keys-requires
visit_keys-requires g c =
    let ledger = g.S.Store.ledger in
    let records = g.S.Frozen.records in
    let old = c.args.store.now in
    let mid = c.open_plan.new.store in
    let fields = c.args.fields.now in
    let trees = trees_of fields c.args.roots.now in
    let opens = subst (λ (o : Option PlanView). IfSome o (OpensPlan g.row.OFFSET_BITS c.args.root (ledger old) (ledger mid) (records old) (records mid) fields trees c.args.before)) c.in-Some.is
    c.open_plan.ensures.opens in
    (omega arith, (omega arith, (c.requires.sized, (opens.holds, (opens.under_way, opens.last)))))

pub end_plan-buffer-requires : goal.end_plan-buffer-requires
end_plan-buffer-requires g c =
    let ledger = g.S.Store.ledger in
    let records = g.S.Frozen.records in
    let old = c.args.store.now in
    let mid = c.open_plan.new.store in
    let new = c.visit_keys.new.store in
    let fields = c.args.fields.now in
    let trees = trees_of fields c.args.roots.now in
    let next = trees_of fields c.visit_keys.new.roots in
    let opens = subst (λ (o : Option PlanView). IfSome o (OpensPlan g.row.OFFSET_BITS c.args.root (ledger old) (ledger mid) (records old) (records mid) fields trees c.args.before)) c.in-Some.is
    c.open_plan.ensures.opens in
    let walks : (r : _) → c.visit_keys.result ≡ r → Walks g.row.OFFSET_BITS c.args.root (ledger mid) (ledger new) (records mid) (records new) fields trees next c.in-Some.plan c.visit_keys.new.plan c.args.keys r =
    λ r e. subst (λ (x : Result Walk StoreError). Walks g.row.OFFSET_BITS c.args.root (ledger mid) (ledger new) (records mid) (records new) fields trees next c.in-Some.plan c.visit_keys.new.plan c.args.keys x) e
    c.visit_keys.ensures.walks in
    let over = walks (Ok Over) (c.in-Ok-Over.is ∙ ap Ok c.in-Ok-Over.field-0-is) in
    (omega arith, (omega arith, (over.visits.holds, (over.visits.under_way, (over.visits.last, over.over)))))

pub returns-in-Ok-Visited-clause-sized : goal.returns-in-Ok-Visited-clause-sized
returns-in-Ok-Visited-clause-sized g c = c.visit_keys.ensures.sized

pub returns-in-Ok-Visited-clause-compacts : goal.returns-in-Ok-Visited-clause-compacts
returns-in-Ok-Visited-clause-compacts g c =
    let ledger = g.S.Store.ledger in
    let records = g.S.Frozen.records in
    let old = c.args.store.now in
    let mid = c.open_plan.new.store in
    let new = c.visit_keys.new.store in
    let fields = c.args.fields.now in
    let trees = trees_of fields c.args.roots.now in
    let next = trees_of fields c.visit_keys.new.roots in
    let opens = subst (λ (o : Option PlanView). IfSome o (OpensPlan g.row.OFFSET_BITS c.args.root (ledger old) (ledger mid) (records old) (records mid) fields trees c.args.before)) c.in-Some.is
    c.open_plan.ensures.opens in
    let walks : (r : _) → c.visit_keys.result ≡ r → Walks g.row.OFFSET_BITS c.args.root (ledger mid) (ledger new) (records mid) (records new) fields trees next c.in-Some.plan c.visit_keys.new.plan c.args.keys r =
    λ r e. subst (λ (x : Result Walk StoreError). Walks g.row.OFFSET_BITS c.args.root (ledger mid) (ledger new) (records mid) (records new) fields trees next c.in-Some.plan c.visit_keys.new.plan c.args.keys x) e
    c.visit_keys.ensures.walks in
    let is = walks (Ok (Visited c.in-Ok-Visited.visited c.in-Ok-Visited.stop)) (c.in-Ok-Visited.is ∙ ap Ok c.in-Ok-Visited.field-0-is) in (
      goes_to g.row.OFFSET_BITS c.args.root (ledger old) (ledger mid) (ledger new) (records old) (records mid)
          (records new) fields trees next c.args.before c.in-Some.plan c.visit_keys.new.plan opens c.in-Ok-Visited.visited is.0 (Some c.visit_keys.new.plan) refl,
      stops_then g.row.OFFSET_BITS c.args.root (ledger old) (ledger mid) (ledger new) (records old) (records mid)
          (records new) fields trees next c.args.before c.in-Some.plan c.visit_keys.new.plan opens c.args.keys c.in-Ok-Visited.visited c.in-Ok-Visited.stop is.1,
    )

pub returns-in-Ok-Over-clause-sized : goal.returns-in-Ok-Over-clause-sized
returns-in-Ok-Over-clause-sized g c = c.visit_keys.ensures.sized

pub returns-in-Ok-Over-clause-compacts : goal.returns-in-Ok-Over-clause-compacts
returns-in-Ok-Over-clause-compacts g c =
    let ledger = g.S.Store.ledger in
    let records = g.S.Frozen.records in
    let old = c.args.store.now in
    let mid = c.open_plan.new.store in
    let new = c.visit_keys.new.store in
    let fields = c.args.fields.now in
    let trees = trees_of fields c.args.roots.now in
    let next = trees_of fields c.visit_keys.new.roots in
    let opens = subst (λ (o : Option PlanView). IfSome o (OpensPlan g.row.OFFSET_BITS c.args.root (ledger old) (ledger mid) (records old) (records mid) fields trees c.args.before)) c.in-Some.is
    c.open_plan.ensures.opens in
    let walks : (r : _) → c.visit_keys.result ≡ r → Walks g.row.OFFSET_BITS c.args.root (ledger mid) (ledger new) (records mid) (records new) fields trees next c.in-Some.plan c.visit_keys.new.plan c.args.keys r =
    λ r e. subst (λ (x : Result Walk StoreError). Walks g.row.OFFSET_BITS c.args.root (ledger mid) (ledger new) (records mid) (records new) fields trees next c.in-Some.plan c.visit_keys.new.plan c.args.keys x) e
    c.visit_keys.ensures.walks in
    let over = walks (Ok Over) (c.in-Ok-Over.is ∙ ap Ok c.in-Ok-Over.field-0-is) in
    let end = c.end_plan-buffer.new.store in
    let told = c.end_plan-buffer.ensures in
    step_over g.row.OFFSET_BITS c.args.root (ledger old) (ledger mid) (ledger new) (records old) (records mid)
    (records new) fields trees next c.args.before c.in-Some.plan c.visit_keys.new.plan opens None c.args.keys c.end_plan-buffer.result (ledger end)
    (records end) over refl told.buffer told.ledger told.records told.holds told.apart

pub returns-in-Err-clause-sized : goal.returns-in-Err-clause-sized
returns-in-Err-clause-sized g c = c.visit_keys.ensures.sized

pub returns-in-Err-clause-compacts : goal.returns-in-Err-clause-compacts
returns-in-Err-clause-compacts g c =
    let ledger = g.S.Store.ledger in
    let records = g.S.Frozen.records in
    let old = c.args.store.now in
    let mid = c.open_plan.new.store in
    let new = c.visit_keys.new.store in
    let fields = c.args.fields.now in
    let trees = trees_of fields c.args.roots.now in
    let next = trees_of fields c.visit_keys.new.roots in
    let opens = subst (λ (o : Option PlanView). IfSome o (OpensPlan g.row.OFFSET_BITS c.args.root (ledger old) (ledger mid) (records old) (records mid) fields trees c.args.before)) c.in-Some.is
    c.open_plan.ensures.opens in
    let walks : (r : _) → c.visit_keys.result ≡ r → Walks g.row.OFFSET_BITS c.args.root (ledger mid) (ledger new) (records mid) (records new) fields trees next c.in-Some.plan c.visit_keys.new.plan c.args.keys r =
    λ r e. subst (λ (x : Result Walk StoreError). Walks g.row.OFFSET_BITS c.args.root (ledger mid) (ledger new) (records mid) (records new) fields trees next c.in-Some.plan c.visit_keys.new.plan c.args.keys x) e
    c.visit_keys.ensures.walks in
    let is = walks (Err c.in-Err.error) c.in-Err.is in
    step_refused g.row.OFFSET_BITS c.args.root (ledger old) (ledger mid) (ledger new) (records old) (records mid) (records new) fields trees next c.args.before c.in-Some.plan c.visit_keys.new.plan opens
    (Some c.visit_keys.new.plan) c.in-Err.error refl is

pub returns-in_default-clause-counts : goal.returns-in_default-clause-counts
returns-in_default-clause-counts g c =
    let ledger = g.S.Store.ledger in
    let old = c.args.store.now in
    let mid = c.open_plan.new.store in
    let fields = c.args.fields.now in
    let table = table_at (g.S.Frozen.records old) (trees_of fields c.args.roots.now) in
    let none = subst (λ (o : Option PlanView). IfNone o (BeginsNone g.row.OFFSET_BITS (ledger old) c.args.before (mid ≡ old))) c.in_default.is c.open_plan.ensures.none in
    subst (λ s. MakesKeys (ArePlain (g.S.Frozen.records old) (trees_of fields c.args.roots.now)) fields table (ledger old) (ledger s) c.args.keys) (sym none.store_is) (keys_none fields table (ledger old) c.args.keys)

pub returns-in-Ok-Visited-clause-counts : goal.returns-in-Ok-Visited-clause-counts
returns-in-Ok-Visited-clause-counts g c =
    let ledger = g.S.Store.ledger in
    let records = g.S.Frozen.records in
    let old = c.args.store.now in
    let mid = c.open_plan.new.store in
    let new = c.visit_keys.new.store in
    let fields = c.args.fields.now in
    let trees = trees_of fields c.args.roots.now in
    let opens = subst (λ (o : Option PlanView). IfSome o (OpensPlan g.row.OFFSET_BITS c.args.root (ledger old) (ledger mid) (records old) (records mid) fields trees c.args.before)) c.in-Some.is
    c.open_plan.ensures.opens in
    let table = table_at (records old) trees in
    let visited = subst (λ (f : Records). MakesKeys (ArePlain f trees) fields (table_at f trees) (ledger mid) (ledger new) c.args.keys) opens.left.records c.visit_keys.ensures.counts in
    let made = keys_sealed fields table (ledger old) (ledger mid) (ledger new) c.args.keys opens.counts visited in
    made

pub returns-in-Err-clause-counts : goal.returns-in-Err-clause-counts
returns-in-Err-clause-counts g c =
    let ledger = g.S.Store.ledger in
    let records = g.S.Frozen.records in
    let old = c.args.store.now in
    let mid = c.open_plan.new.store in
    let new = c.visit_keys.new.store in
    let fields = c.args.fields.now in
    let trees = trees_of fields c.args.roots.now in
    let opens = subst (λ (o : Option PlanView). IfSome o (OpensPlan g.row.OFFSET_BITS c.args.root (ledger old) (ledger mid) (records old) (records mid) fields trees c.args.before)) c.in-Some.is
    c.open_plan.ensures.opens in
    let table = table_at (records old) trees in
    let visited = subst (λ (f : Records). MakesKeys (ArePlain f trees) fields (table_at f trees) (ledger mid) (ledger new) c.args.keys) opens.left.records c.visit_keys.ensures.counts in
    let made = keys_sealed fields table (ledger old) (ledger mid) (ledger new) c.args.keys opens.counts visited in
    made

pub returns-in-Ok-Over-clause-counts : goal.returns-in-Ok-Over-clause-counts
returns-in-Ok-Over-clause-counts g c =
    let ledger = g.S.Store.ledger in
    let records = g.S.Frozen.records in
    let old = c.args.store.now in
    let mid = c.open_plan.new.store in
    let new = c.visit_keys.new.store in
    let fields = c.args.fields.now in
    let trees = trees_of fields c.args.roots.now in
    let opens = subst (λ (o : Option PlanView). IfSome o (OpensPlan g.row.OFFSET_BITS c.args.root (ledger old) (ledger mid) (records old) (records mid) fields trees c.args.before)) c.in-Some.is
    c.open_plan.ensures.opens in
    let table = table_at (records old) trees in
    let visited = subst (λ (f : Records). MakesKeys (ArePlain f trees) fields (table_at f trees) (ledger mid) (ledger new) c.args.keys) opens.left.records c.visit_keys.ensures.counts in
    let made = keys_sealed fields table (ledger old) (ledger mid) (ledger new) c.args.keys opens.counts visited in
    let end = c.end_plan-buffer.ensures.ledger in
    subst (λ (l : Ledger _). MakesKeys (ArePlain (records old) trees) fields table (ledger old) l c.args.keys) (sym end) (keys_finished fields table (ledger old) (ledger new) c.args.keys _ made)

pub returns-in_default-clause-forms : goal.returns-in_default-clause-forms
returns-in_default-clause-forms g c =
    let ledger = g.S.Store.ledger in
    let records = g.S.Frozen.records in
    let old = c.args.store.now in
    let mid = c.open_plan.new.store in
    let trees = trees_of c.args.fields.now c.args.roots.now in
    let none = subst (λ (o : Option PlanView). IfNone o (BeginsNone g.row.OFFSET_BITS (ledger old) c.args.before (mid ≡ old))) c.in_default.is c.open_plan.ensures.none in
    subst (λ s. KeepForms (records old) (records s) trees trees) (sym none.store_is) (λ dense are. are)

pub returns-in-Ok-Visited-clause-forms : goal.returns-in-Ok-Visited-clause-forms
returns-in-Ok-Visited-clause-forms g c =
    let ledger = g.S.Store.ledger in
    let records = g.S.Frozen.records in
    let old = c.args.store.now in
    let mid = c.open_plan.new.store in
    let new = c.visit_keys.new.store in
    let fields = c.args.fields.now in
    let trees = trees_of fields c.args.roots.now in
    let next = trees_of fields c.visit_keys.new.roots in
    let opens = subst (λ (o : Option PlanView). IfSome o (OpensPlan g.row.OFFSET_BITS c.args.root (ledger old) (ledger mid) (records old) (records mid) fields trees c.args.before)) c.in-Some.is
    c.open_plan.ensures.opens in
    let walks : (r : _) → c.visit_keys.result ≡ r → Walks g.row.OFFSET_BITS c.args.root (ledger mid) (ledger new) (records mid) (records new) fields trees next c.in-Some.plan c.visit_keys.new.plan c.args.keys r =
    λ r e. subst (λ (x : Result Walk StoreError). Walks g.row.OFFSET_BITS c.args.root (ledger mid) (ledger new) (records mid) (records new) fields trees next c.in-Some.plan c.visit_keys.new.plan c.args.keys x) e
    c.visit_keys.ensures.walks in
    let is = walks (Ok (Visited c.in-Ok-Visited.visited c.in-Ok-Visited.stop)) (c.in-Ok-Visited.is ∙ ap Ok c.in-Ok-Visited.field-0-is) in
    let forms = subst (λ (f : Records). KeepForms f (records new) trees next) opens.left.records (forms_kept (records mid) (records new) trees next is.0.keep) in
    forms

pub returns-in-Ok-Over-clause-forms : goal.returns-in-Ok-Over-clause-forms
returns-in-Ok-Over-clause-forms g c =
    let ledger = g.S.Store.ledger in
    let records = g.S.Frozen.records in
    let old = c.args.store.now in
    let mid = c.open_plan.new.store in
    let new = c.visit_keys.new.store in
    let fields = c.args.fields.now in
    let trees = trees_of fields c.args.roots.now in
    let next = trees_of fields c.visit_keys.new.roots in
    let opens = subst (λ (o : Option PlanView). IfSome o (OpensPlan g.row.OFFSET_BITS c.args.root (ledger old) (ledger mid) (records old) (records mid) fields trees c.args.before)) c.in-Some.is
    c.open_plan.ensures.opens in
    let walks : (r : _) → c.visit_keys.result ≡ r → Walks g.row.OFFSET_BITS c.args.root (ledger mid) (ledger new) (records mid) (records new) fields trees next c.in-Some.plan c.visit_keys.new.plan c.args.keys r =
    λ r e. subst (λ (x : Result Walk StoreError). Walks g.row.OFFSET_BITS c.args.root (ledger mid) (ledger new) (records mid) (records new) fields trees next c.in-Some.plan c.visit_keys.new.plan c.args.keys x) e
    c.visit_keys.ensures.walks in
    let is = walks (Ok Over) (c.in-Ok-Over.is ∙ ap Ok c.in-Ok-Over.field-0-is) in
    let forms = subst (λ (f : Records). KeepForms f (records new) trees next) opens.left.records (forms_kept (records mid) (records new) trees next is.visits.keep) in
    subst (λ (f : Records). KeepForms (records old) f trees next) (sym c.end_plan-buffer.ensures.records) forms

pub returns-in-Err-clause-forms : goal.returns-in-Err-clause-forms
returns-in-Err-clause-forms g c =
    let ledger = g.S.Store.ledger in
    let records = g.S.Frozen.records in
    let old = c.args.store.now in
    let mid = c.open_plan.new.store in
    let new = c.visit_keys.new.store in
    let fields = c.args.fields.now in
    let trees = trees_of fields c.args.roots.now in
    let next = trees_of fields c.visit_keys.new.roots in
    let opens = subst (λ (o : Option PlanView). IfSome o (OpensPlan g.row.OFFSET_BITS c.args.root (ledger old) (ledger mid) (records old) (records mid) fields trees c.args.before)) c.in-Some.is
    c.open_plan.ensures.opens in
    let walks : (r : _) → c.visit_keys.result ≡ r → Walks g.row.OFFSET_BITS c.args.root (ledger mid) (ledger new) (records mid) (records new) fields trees next c.in-Some.plan c.visit_keys.new.plan c.args.keys r =
    λ r e. subst (λ (x : Result Walk StoreError). Walks g.row.OFFSET_BITS c.args.root (ledger mid) (ledger new) (records mid) (records new) fields trees next c.in-Some.plan c.visit_keys.new.plan c.args.keys x) e
    c.visit_keys.ensures.walks in
    let is = walks (Err c.in-Err.error) c.in-Err.is in
    let forms = subst (λ (f : Records). KeepForms f (records new) trees next) opens.left.records (forms_kept (records mid) (records new) trees next is.visits.keep) in
    forms
