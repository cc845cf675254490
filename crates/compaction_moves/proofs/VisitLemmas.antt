-- Which keys were visited: none at first, more at each place, and all past the last phase.
use Rattle.std.proofs.Common.{◌≡◌, ◌≢◌, ℕ, zero, suc, ◌<◌, ◌≤◌, Less, Greater, false, is_lt, inl, inr, refl, sym, ap, ◌∙◌, arith, true≢false}
use Rattle.std.proofs.lemmas.Bool.{cases_eq}
use Rattle.std.proofs.lemmas.Cmp.{tied_itself, nat_cmp_total}
use Rattle.std.specs.Cmp.{nat_cmp_is}
use Rattle.std.specs.declared.cmp.Ordering.{Ordering}
use Rattle.std.specs.Ordering.{nat_cmp, ordering_reverse, ordering_then}
use Rattle.attr_compaction.proofs.PlaceLemmas.{place_total, below}
use Rattle.attr_compaction.specs.Places.{is_start, key_cmp, place_cmp, stage_cmp, first_place, PlanPlace}
use Rattle.attr_compaction.specs.declared.plan.PlanKey.{PlanKey}
use Rattle.attr_compaction.specs.declared.plan.PlanKey.TheVariants.{Start, Value, Doc, Pair}
use Rattle.attr_compaction.specs.declared.plan.TheConstants.{PHASES}
use Rattle.compaction_moves.specs.Laws.{AllIsVisited, NothingIsVisited, VisitedStays}

abbrev place_at : ℕ → ℕ → PlanKey → PlanPlace
place_at field phase key = record { stage = record { field = field; phase = phase }; key = key }

pub number_above : (a b : ℕ) → b < a → nat_cmp a b ≡ Greater
number_above a b h = sym (nat_cmp_is a b Greater h)

-- ---- at first
pub key_above : (key : PlanKey) → is_start key ≡ false → key_cmp key Start ≡ Greater
key_above Start h = absurd (true≢false h)
key_above (Value v) h = refl
key_above (Doc d) h = refl
key_above (Pair v d) h = refl

first_below : (field phase : ℕ) (key : PlanKey) → is_start key ≡ false → place_cmp (place_at field phase key) first_place ≡ Greater
first_below zero zero key h = key_above key h
first_below zero (suc phase) key h = ap (λ (o : Ordering). ordering_then o (key_cmp key Start)) (number_above (suc phase) 0 (omega arith))
first_below (suc field) phase key h = ap (λ (o : Ordering). ordering_then (ordering_then o (nat_cmp phase 0)) (key_cmp key Start)) (number_above (suc field) 0 (omega arith))

pub nothing_visited : NothingIsVisited
nothing_visited field phase key h visited = visited (first_below field phase key h)

-- ---- at each later place
pub visited_stays : VisitedStays
visited_stays at next field phase key rises visited past =
    let here = place_at field phase key in
    let back : place_cmp next here ≡ Less = place_total.antisymm next here ∙ ap ordering_reverse past in
    let under = place_total.trans at next here rises back in
    visited (place_total.antisymm here at ∙ ap ordering_reverse under)

-- ---- past the last phase
pub less_not_greater : (o : Ordering) → o ≡ Less → o ≢ Greater
less_not_greater o less greater = true≢false (sym (ap is_lt less) ∙ ap is_lt greater)

stage_below : (at : PlanPlace) (field phase : ℕ) → at.stage.phase ≡ PHASES → field ≤ at.stage.field → phase < PHASES
    → stage_cmp (record { field = field; phase = phase }) at.stage ≡ Less
stage_below at field phase over few within = elim (cases_eq field at.stage.field) [
  | inl e ↦ ap (λ (o : Ordering). ordering_then o (nat_cmp phase at.stage.phase)) (ap (λ f. nat_cmp f at.stage.field) e ∙ tied_itself nat_cmp_total at.stage.field)
      ∙ below phase at.stage.phase (let same = over in omega arith)
  | inr ne ↦ ap (λ (o : Ordering). ordering_then o (nat_cmp phase at.stage.phase)) (below field at.stage.field (omega arith))
]

pub all_visited : AllIsVisited
all_visited at field phase key over few within past =
    less_not_greater Less refl (sym (ap (λ (o : Ordering). ordering_then o (key_cmp key at.key)) (stage_below at field phase over few within)) ∙ past)
