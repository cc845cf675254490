-- Which keys lie past a place, by their stages.
use Rattle.std.proofs.Common.{◌≡◌, ◌≢◌, ◌⊎◌, ℕ, zero, suc, ◌+◌, ◌<◌, Bool, true, false, cond, nat_lt, List, [], ◌∷◌, map, None, Some, Less, Equal, Greater, is_lt, nat_cmp, true≢false, inl, inr, refl, sym, ap, ◌∙◌}
use Rattle.std.proofs.Common.{arith}
use Rattle.std.proofs.lemmas.Bool.{ltb-false}
use Rattle.std.proofs.lemmas.Cmp.{tied_itself}
use Rattle.std.specs.Cmp.{both_ways, ranks, IsTotalOrder}
use Rattle.std.specs.List.{AllByRecursion}
use Rattle.std.specs.declared.cmp.Ordering.{Ordering}
use Rattle.std.specs.Ordering.{is_gt, ordering_reverse, ordering_then, MatchOrdering}
use Rattle.list_lemmas.proofs.Each.{AllByRecursion-append}
use Rattle.entry_ref.specs.Records.{Records}
use Rattle.attr_compaction.proofs.PlaceLemmas.{key_total, next_above, place_total, stage_total}
use Rattle.attr_compaction.specs.Places.{key_cmp, next_stage, place_after, place_cmp, stage_cmp, PlanPlace}
use Rattle.attr_compaction.specs.declared.plan.PlanKey.{PlanKey}
use Rattle.attr_compaction.specs.declared.plan.PlanKey.TheVariants.{Start, Value, Doc, Pair}
use Rattle.attr_compaction.specs.declared.plan.Stage.{Stage}
use Rattle.attr_compaction.specs.declared.plan.TheConstants.{KEYS, NODES, PHASES}
use Rattle.image_format.specs.Postings.{list_form}
use Rattle.image_format.specs.Tables.{AttributeTrees}
use Rattle.image_format.specs.Values.{stored_value}
use Rattle.attr_types.specs.declared.kind.ValueType.{ValueType}
use Rattle.tree_read.specs.Trees.{tree_pairs}
use Rattle.attr_compaction.specs.PhaseKeys.{document_keys, key_past, keys_of_pairs, value_keys}
use Rattle.posting_store.specs.Moves.{form_docs}
use Rattle.attr_compaction.specs.Counts.{keys_of_phase, place_at}

-- ---- orders
pub gt_turned : (x : Ordering) → is_gt (ordering_reverse x) ≡ is_lt x
gt_turned Less = refl
gt_turned Equal = refl
gt_turned Greater = refl

pub less_is : (o : Ordering) → is_lt o ≡ true → o ≡ Less
less_is Less e = refl
less_is Equal e = absurd (true≢false (sym e))
less_is Greater e = absurd (true≢false (sym e))

pub greater_is : (o : Ordering) → is_gt o ≡ true → o ≡ Greater
greater_is Less e = absurd (true≢false (sym e))
greater_is Equal e = absurd (true≢false (sym e))
greater_is Greater e = refl

not_greater : Less ≡ Greater → ⊥
not_greater e = true≢false (ap is_lt e)

module _ {K : Type 0} {R : K → K → Ordering} (o : IsTotalOrder R) where
  pub gt_back : (x y : K) → is_gt (R x y) ≡ is_lt (R y x)
  gt_back x y = ap is_gt (o.antisymm x y) ∙ gt_turned (R y x)

  -- below what is not above
  pub under : (x y z : K) → R x y ≢ Greater → R y z ≡ Less → R x z ≡ Less
  under x y z few less = by (R x y) refl
    where
      by : (r : Ordering) → R x y ≡ r → R x z ≡ Less
      by Less e = o.trans x y z e less
      by Equal e = o.congr x y z e ∙ less
      by Greater e = absurd (few e)

-- ---- the keys of a phase are keys
abbrev IsKey : PlanKey → Type 0
IsKey key = key_cmp key Start ≡ Greater

module _ (type : ValueType) (m : Records) where
  values_are : (ps : List (ℕ × ℕ)) → AllByRecursion IsKey (map (λ p. Value (stored_value type m p.0)) ps)
  values_are [] = tt
  values_are (p ∷ ps) = (refl, values_are ps)

  documents_are : (ps : List (ℕ × ℕ)) → AllByRecursion IsKey (map (λ p. Doc p.0) ps)
  documents_are [] = tt
  documents_are (p ∷ ps) = (refl, documents_are ps)

  list_are : (key : ℕ) (docs : List ℕ) → AllByRecursion IsKey (map (λ doc. Pair (stored_value type m key) doc) docs)
  list_are key [] = tt
  list_are key (d ∷ docs) = (refl, list_are key docs)

  pairs_are : (ps : List (ℕ × ℕ)) → AllByRecursion IsKey (keys_of_pairs type m ps)
  pairs_are [] = tt
  pairs_are (p ∷ ps) =
      AllByRecursion-append IsKey (map (λ doc. Pair (stored_value type m p.0) doc) (form_docs m (list_form p.1))) (keys_of_pairs type m ps)
      (list_are p.0 (form_docs m (list_form p.1))) (pairs_are ps)

pub keys_are : (m : Records) (a : AttributeTrees) (phase : ℕ) → phase < PHASES → AllByRecursion IsKey (keys_of_phase m a phase)
keys_are m a zero few = values_are a.type m (tree_pairs m a.dictionary)
keys_are m a (suc zero) few = documents_are a.type m (tree_pairs m a.documents)
keys_are m a (suc (suc zero)) few = pairs_are a.type m (tree_pairs m a.dictionary)
keys_are m a (suc (suc (suc zero))) few =
    AllByRecursion-append IsKey (value_keys a.type m a.dictionary) (document_keys m a.documents)
    (values_are a.type m (tree_pairs m a.dictionary)) (documents_are a.type m (tree_pairs m a.documents))
keys_are m a (suc (suc (suc (suc phase)))) few = absurd (omega arith)

-- ---- stages
equal_parts : (a b c d : ℕ) (o q : Ordering) → MatchOrdering o (a < b) (a ≡ b) (b < a) → MatchOrdering q (c < d) (c ≡ d) (d < c)
    → ordering_then o q ≡ Equal → (a ≡ b) × (c ≡ d)
equal_parts a b c d Less q h k e = absurd (true≢false (ap is_lt e))
equal_parts a b c d Equal Less h k e = absurd (true≢false (ap is_lt e))
equal_parts a b c d Equal Equal h k e = (h, k)
equal_parts a b c d Equal Greater h k e = absurd (true≢false (ap is_gt e))
equal_parts a b c d Greater q h k e = absurd (true≢false (ap is_gt e))

pub same_stage : (field phase : ℕ) (stage : Stage) → stage_cmp (record { field = field; phase = phase }) stage ≡ Equal
    → (field ≡ stage.field) × (phase ≡ stage.phase)
same_stage field phase stage e =
    equal_parts field stage.field phase stage.phase (nat_cmp field stage.field) (nat_cmp phase stage.phase) (ranks field stage.field) (ranks phase stage.phase) e

other_by : (o x y : Ordering) → o ≢ Equal → ordering_then o x ≡ ordering_then o y
other_by Less x y ne = refl
other_by Equal x y ne = absurd (ne refl)
other_by Greater x y ne = refl

-- what lies in another stage is past each key of a stage or past none
pub other_past : (at : PlanPlace) (done : PlanKey) (field phase : ℕ) (key : PlanKey) → ((field ≡ at.stage.field) × (phase ≡ at.stage.phase) → ⊥)
    → is_gt (place_cmp (place_at field phase key) (record { stage = at.stage; key = done })) ≡ is_gt (place_cmp (place_at field phase key) at)
other_past at done field phase key apart =
    ap is_gt (other_by (stage_cmp (record { field = field; phase = phase }) at.stage) (key_cmp key done) (key_cmp key at.key)
    (λ e. apart (same_stage field phase at.stage e)))

-- within a stage the keys tell
pub own_past : (stage : Stage) (key done : PlanKey) → place_cmp (record { stage = stage; key = key }) (record { stage = stage; key = done }) ≡ key_cmp key done
own_past stage key done = ap (λ (o : Ordering). ordering_then o (key_cmp key done)) (tied_itself stage_total stage)

greater_parts : (a b c d : ℕ) → ordering_then (nat_cmp a b) (nat_cmp c d) ≡ Greater → (b < a) ⊎ ((a ≡ b) × (d < c))
greater_parts a b c d past = told (nat_cmp a b) (nat_cmp c d) (ranks a b) (ranks c d) past
  where
    told : (o q : Ordering) → MatchOrdering o (a < b) (a ≡ b) (b < a) → MatchOrdering q (c < d) (c ≡ d) (d < c) → ordering_then o q ≡ Greater → (b < a) ⊎ ((a ≡ b) × (d < c))
    told Less q h k e = absurd (not_greater e)
    told Equal Less h k e = absurd (not_greater e)
    told Equal Equal h k e = absurd (true≢false (sym (ap is_gt e)))
    told Equal Greater h k e = inr (h, k)
    told Greater q h k e = inl h

less_parts : (a b c d : ℕ) → ordering_then (nat_cmp a b) (nat_cmp c d) ≡ Less → (a < b) ⊎ ((a ≡ b) × (c < d))
less_parts a b c d past = told (nat_cmp a b) (nat_cmp c d) (ranks a b) (ranks c d) past
  where
    told : (o q : Ordering) → MatchOrdering o (a < b) (a ≡ b) (b < a) → MatchOrdering q (c < d) (c ≡ d) (d < c) → ordering_then o q ≡ Less → (a < b) ⊎ ((a ≡ b) × (c < d))
    told Less q h k e = inl h
    told Equal Less h k e = inr (h, k)
    told Equal Equal h k e = absurd (true≢false (sym (ap is_lt e)))
    told Equal Greater h k e = absurd (true≢false (sym (ap is_lt e)))
    told Greater q h k e = absurd (true≢false (sym (ap is_lt e)))

-- no stage lies between one and the next
none_between : (fields : ℕ) (stage : Stage) (field phase : ℕ) → stage.phase < PHASES → phase < PHASES → field < fields
    → stage_cmp (record { field = field; phase = phase }) stage ≡ Greater → stage_cmp (record { field = field; phase = phase }) (next_stage fields stage) ≡ Less → ⊥
none_between fields stage field phase few low within past under =
    by (nat_lt stage.phase NODES) (nat_lt (stage.field + 1) fields) refl refl under
  where
    above : (stage.field < field) ⊎ ((field ≡ stage.field) × (stage.phase < phase))
    above = greater_parts field stage.field phase stage.phase past

    by : (t u : Bool) → nat_lt stage.phase NODES ≡ t → nat_lt (stage.field + 1) fields ≡ u
        → stage_cmp (record { field = field; phase = phase }) (cond t (record { field = stage.field; phase = stage.phase + 1 })
        (cond u (record { field = stage.field + 1; phase = KEYS }) (record { field = stage.field; phase = PHASES }))) ≡ Less → ⊥
    by true u et eu under = elim (less_parts field stage.field phase (stage.phase + 1) under) [
      | inl less ↦ elim above [
        | inl more ↦ absurd (omega arith)
        | inr same ↦ (let e = same.0 in absurd (omega arith))
      ]
      | inr here ↦ elim above [
        | inl more ↦ (let e = here.0 in absurd (omega arith))
        | inr same ↦ (let e = same.1 in let f = here.1 in absurd (omega arith))
      ]
    ]
    by false true et eu under =
        let high = ltb-false stage.phase NODES et in
        elim (less_parts field (stage.field + 1) phase KEYS under) [
          | inl less ↦ elim above [
            | inl more ↦ absurd (omega arith)
            | inr same ↦ (let e = same.1 in absurd (omega arith))
          ]
          | inr here ↦ (let f = here.1 in absurd (omega arith))
        ]
    by false false et eu under =
        let high = ltb-false stage.phase NODES et in
        let last = ltb-false (stage.field + 1) fields eu in
        elim above [
          | inl more ↦ absurd (omega arith)
          | inr same ↦ (let e = same.1 in absurd (omega arith))
        ]

-- ---- a phase is over
module _ (fields : ℕ) (at : PlanPlace) (few : at.stage.phase < PHASES) (field phase : ℕ) (within : field < fields) (low : phase < PHASES) where
  abbrev here : Stage
  here = record { field = field; phase = phase }

  abbrev next : PlanPlace
  next = place_after fields at Start

  -- what is past the place, and no key of the phase that is over, is past the next place
  past_next : (key : PlanKey) → IsKey key → (field ≡ at.stage.field → phase ≡ at.stage.phase → key_cmp key at.key ≢ Greater)
      → place_cmp (place_at field phase key) at ≡ Greater → place_cmp (place_at field phase key) next ≡ Greater
  past_next key is none past = by (stage_cmp here at.stage) refl
    where
      next_by : (q : Ordering) → stage_cmp here (next_stage fields at.stage) ≡ q → stage_cmp here at.stage ≡ Greater → place_cmp (place_at field phase key) next ≡ Greater
      next_by Less e above = absurd (none_between fields at.stage field phase few low within above e)
      next_by Equal e above = ap (λ (o : Ordering). ordering_then o (key_cmp key Start)) e ∙ is
      next_by Greater e above = ap (λ (o : Ordering). ordering_then o (key_cmp key Start)) e

      by : (o : Ordering) → stage_cmp here at.stage ≡ o → place_cmp (place_at field phase key) next ≡ Greater
      by Less e = absurd (not_greater (sym (ap (λ (o : Ordering). ordering_then o (key_cmp key at.key)) e) ∙ past))
      by Equal e =
          let same = same_stage field phase at.stage e in
          absurd (none same.0 same.1 (sym (ap (λ (o : Ordering). ordering_then o (key_cmp key at.key)) e) ∙ past))
      by Greater e = next_by (stage_cmp here (next_stage fields at.stage)) refl e

  past_before : (key : PlanKey) → place_cmp (place_at field phase key) next ≡ Greater → place_cmp (place_at field phase key) at ≡ Greater
  past_before key past =
      let q = place_at field phase key in
      let back : place_cmp next q ≡ Less = place_total.antisymm next q ∙ ap ordering_reverse past in
      place_total.antisymm q at ∙ ap ordering_reverse (place_total.trans at next q (next_above fields at Start few (inl refl)) back)

  over_past : (key : PlanKey) → IsKey key → (field ≡ at.stage.field → phase ≡ at.stage.phase → key_cmp key at.key ≢ Greater)
      → is_gt (place_cmp (place_at field phase key) next) ≡ is_gt (place_cmp (place_at field phase key) at)
  over_past key is none =
      let q = place_at field phase key in
      both_ways (is_gt (place_cmp q next)) (is_gt (place_cmp q at))
      (λ e. ap is_gt (past_before key (greater_is (place_cmp q next) e)))
      (λ e. ap is_gt (past_next key is none (greater_is (place_cmp q at) e)))

  over_by : (key : PlanKey) (keys : List PlanKey) (t : Bool) → is_lt (key_cmp at.key key) ≡ t → cond t (Some key) (key_past at.key keys) ≡ None
      → (key_cmp key at.key ≢ Greater) × (key_past at.key keys ≡ None)
  over_by key keys true e nothing = cc
  over_by key keys false e nothing = (λ above. true≢false (sym (ap is_lt (key_total.antisymm at.key key ∙ ap ordering_reverse above)) ∙ e), nothing)

  pub all_over : (keys : List PlanKey) → AllByRecursion IsKey keys → (field ≡ at.stage.field → phase ≡ at.stage.phase → key_past at.key keys ≡ None)
      → AllByRecursion (λ key. is_gt (place_cmp (place_at field phase key) next) ≡ is_gt (place_cmp (place_at field phase key) at)) keys
  all_over [] are none = tt
  all_over (key ∷ keys) are none = (
    over_past key are.0 (λ e f. (over_by key keys (is_lt (key_cmp at.key key)) refl (none e f)).0),
    all_over keys are.1 (λ e f. (over_by key keys (is_lt (key_cmp at.key key)) refl (none e f)).1),
  )
