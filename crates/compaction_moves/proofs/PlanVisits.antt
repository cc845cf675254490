-- What was visited one key or one phase further.
use Rattle.std.proofs.Common.{◌≡◌, ◌≢◌, ◌⊎◌, ℕ, ◌+◌, ◌<◌, Bool, true, false, cond, nat_lt, List, [], ◌∷◌, Option, None, Some, Less, Equal, Greater, is_lt, inl, inr, refl, sym, ap, subst, ◌∙◌, arith, true≢false}
use Rattle.std.proofs.lemmas.Bool.{cases_eq, ltb-true, ltb-false}
use Rattle.std.proofs.lemmas.Cmp.{tied_itself, nat_cmp_total}
use Rattle.std.specs.List.{find, AllByRecursion}
use Rattle.std.specs.List.Sorted.{IsStrictlySortedBy}
use Rattle.std.specs.declared.cmp.Ordering.{Ordering}
use Rattle.std.specs.Ordering.{nat_cmp, ordering_reverse, ordering_then}
use Rattle.compaction_moves.proofs.VisitLemmas.{key_above, less_not_greater, number_above}
use Rattle.compaction_moves.specs.Cleared.{IsVisited}
use Rattle.attr_compaction.proofs.PlaceLemmas.{key_total, place_total, below}
use Rattle.attr_compaction.specs.Places.{is_start, key_cmp, place_cmp, stage_cmp, PlanPlace}
use Rattle.attr_compaction.specs.declared.plan.PlanKey.{PlanKey}
use Rattle.attr_compaction.specs.declared.plan.PlanKey.TheVariants.{Start}
use Rattle.attr_compaction.specs.declared.plan.Stage.{Stage}
use Rattle.attr_compaction.specs.declared.plan.TheConstants.{KEYS, NODES, PHASES}
use Rattle.compaction_moves.specs.Visits.{place_at_key, AreAllBefore, EarlierIsVisited, EndIsVisited, IsAmongKeys, IsNoneBehind, NextIsVisited, NextStageIsVisited, OthersAreVisited}

abbrev stage_of : ℕ → ℕ → Stage
stage_of field phase = record { field = field; phase = phase }

abbrev place_of : ℕ → ℕ → PlanKey → PlanPlace
place_of field phase key = record { stage = stage_of field phase; key = key }

equal : (a b : ℕ) → a ≡ b → nat_cmp a b ≡ Equal
equal a b e = ap (λ (x : ℕ). nat_cmp x b) e ∙ tied_itself nat_cmp_total b

-- ---- stages beside each other
stage_less : (field phase : ℕ) (s : Stage) → (field < s.field) ⊎ ((s.field ≡ field) × (phase < s.phase)) → stage_cmp (stage_of field phase) s ≡ Less
stage_less field phase s (inl h) = ap (λ (o : Ordering). ordering_then o (nat_cmp phase s.phase)) (below field s.field h)
stage_less field phase s (inr h) = ap (λ (o : Ordering). ordering_then o (nat_cmp phase s.phase)) (equal field s.field (sym h.0)) ∙ below phase s.phase h.1

stage_greater : (field phase : ℕ) (s : Stage) → (s.field < field) ⊎ ((s.field ≡ field) × (s.phase < phase)) → stage_cmp (stage_of field phase) s ≡ Greater
stage_greater field phase s (inl h) = ap (λ (o : Ordering). ordering_then o (nat_cmp phase s.phase)) (number_above field s.field h)
stage_greater field phase s (inr h) = ap (λ (o : Ordering). ordering_then o (nat_cmp phase s.phase)) (equal field s.field (sym h.0)) ∙ number_above phase s.phase h.1

stage_equal : (field phase : ℕ) (s : Stage) → s.field ≡ field → s.phase ≡ phase → stage_cmp (stage_of field phase) s ≡ Equal
stage_equal field phase s ef ep = ap (λ (o : Ordering). ordering_then o (nat_cmp phase s.phase)) (equal field s.field (sym ef)) ∙ equal phase s.phase (sym ep)

-- below, above, or the same
data Beside (field phase : ℕ) (s : Stage) : Type 0 where
  is_less : (field < s.field) ⊎ ((s.field ≡ field) × (phase < s.phase)) → Beside field phase s
  is_same : s.field ≡ field → s.phase ≡ phase → Beside field phase s
  is_greater : (s.field < field) ⊎ ((s.field ≡ field) × (s.phase < phase)) → Beside field phase s

beside_phase : (field phase : ℕ) (s : Stage) → s.field ≡ field → Beside field phase s
beside_phase field phase s e = elim (cases_eq phase s.phase) [
  | inl same ↦ is_same e (sym same)
  | inr other ↦ told (nat_lt phase s.phase) refl other
]
  where
    told : (t : Bool) → nat_lt phase s.phase ≡ t → phase ≢ s.phase → Beside field phase s
    told true is other = is_less (inr (e, ltb-true phase s.phase is))
    told false is other = is_greater (inr (e, (let most = ltb-false phase s.phase is in omega arith)))

beside : (field phase : ℕ) (s : Stage) → Beside field phase s
beside field phase s = elim (cases_eq field s.field) [
  | inl same ↦ beside_phase field phase s (sym same)
  | inr other ↦ told (nat_lt field s.field) refl other
]
  where
    told : (t : Bool) → nat_lt field s.field ≡ t → field ≢ s.field → Beside field phase s
    told true is other = is_less (inl (ltb-true field s.field is))
    told false is other = is_greater (inl (let most = ltb-false field s.field is in omega arith))

-- ---- earlier and later
pub all_before : AreAllBefore
all_before at field phase key h =
    less_not_greater (place_cmp (place_of field phase key) at) (ap (λ (o : Ordering). ordering_then o (key_cmp key at.key)) (stage_less field phase at.stage h))

pub none_behind : IsNoneBehind
none_behind at field phase key h visited = visited (ap (λ (o : Ordering). ordering_then o (key_cmp key at.key)) (stage_greater field phase at.stage h))

pub earlier_visited : EarlierIsVisited
earlier_visited at field phase later k key h visited past =
    let here = place_of field phase key in
    let there = place_of field later k in
    let up : place_cmp here there ≡ Less = ap (λ (o : Ordering). ordering_then o (key_cmp key k)) (stage_less field phase (stage_of field later) (inr (refl, h))) in
    let back : place_cmp at here ≡ Less = place_total.antisymm at here ∙ ap ordering_reverse past in
    visited (place_total.antisymm there at ∙ ap ordering_reverse (place_total.trans at here there back up))

-- a key of a stage, by the key of the place
at_stage : (at : PlanPlace) (field phase : ℕ) (k : PlanKey) → at.stage.field ≡ field → at.stage.phase ≡ phase → place_cmp (place_of field phase k) at ≡ key_cmp k at.key
at_stage at field phase k ef ep = ap (λ (o : Ordering). ordering_then o (key_cmp k at.key)) (stage_equal field phase at.stage ef ep)

-- ---- one key further
abbrev past : PlanKey → PlanKey → Bool
past key next = is_lt (key_cmp key next)

abbrev key_in : PlanKey → Option PlanKey → PlanKey
key_in key None = key
key_in key (Some found) = found

no_key : (key : PlanKey) → Some key ≢ None
no_key key e = true≢false (ap is_some e)
  where
    is_some : Option PlanKey → Bool
    is_some None = false
    is_some (Some found) = true

up_parts : (x : PlanKey) (keys : List PlanKey) → IsStrictlySortedBy key_cmp (x ∷ keys) → AllByRecursion (λ k. key_cmp x k ≡ Less) keys × IsStrictlySortedBy key_cmp keys
unfolding IsStrictlySortedBy
up_parts x keys up = up

pub all_of : (P : PlanKey → Type 0) (keys : List PlanKey) → AllByRecursion P keys → (k : PlanKey) → IsAmongKeys k keys → P k
all_of P [] all k among = absurd among
all_of P (key ∷ keys) all k (inl e) = subst P (sym e) all.0
all_of P (key ∷ keys) all k (inr later) = all_of P keys all.1 k later

-- the first key past another is below all that are past it
first_least : (at key k : PlanKey) (keys : List PlanKey) → find (past at) keys ≡ Some key → IsStrictlySortedBy key_cmp keys → IsAmongKeys k keys → past at k ≡ true
    → (k ≡ key) ⊎ (key_cmp key k ≡ Less)
first_least at key k [] found up among is = absurd among
first_least at key k (x ∷ keys) found up among is = told (λ f later. first_least at key k keys f (up_parts x keys up).1 later is) (past at x) refl found among
  where
    told : (find (past at) keys ≡ Some key → IsAmongKeys k keys → (k ≡ key) ⊎ (key_cmp key k ≡ Less))
        → (t : Bool) → past at x ≡ t → cond t (Some x) (find (past at) keys) ≡ Some key → IsAmongKeys k (x ∷ keys) → (k ≡ key) ⊎ (key_cmp key k ≡ Less)
    told rest true e found (inl same) = inl (same ∙ ap (key_in key) found)
    told rest true e found (inr later) =
        inr (subst (λ z. key_cmp z k ≡ Less) (ap (key_in key) found) (all_of (λ z. key_cmp x z ≡ Less) keys (up_parts x keys up).0 k later))
    told rest false e found (inl same) = absurd (true≢false (sym is ∙ ap (past at) same ∙ e))
    told rest false e found (inr later) = rest found later

none_past : (at k : PlanKey) (keys : List PlanKey) → find (past at) keys ≡ None → IsAmongKeys k keys → past at k ≡ false
none_past at k [] found among = absurd among
none_past at k (x ∷ keys) found among = told (λ f later. none_past at k keys f later) (past at x) refl found among
  where
    told : (find (past at) keys ≡ None → IsAmongKeys k keys → past at k ≡ false)
        → (t : Bool) → past at x ≡ t → cond t (Some x) (find (past at) keys) ≡ None → IsAmongKeys k (x ∷ keys) → past at k ≡ false
    told rest true e found among = absurd (no_key x found)
    told rest false e found (inl same) = ap (past at) same ∙ e
    told rest false e found (inr later) = rest found later

not_past : (at k : PlanKey) → past at k ≡ false → key_cmp k at ≢ Greater
not_past at k none greater = true≢false (sym (ap is_lt (key_total.antisymm at k ∙ ap ordering_reverse greater)) ∙ none)

visited_within : (at : PlanPlace) (field phase : ℕ) (k : PlanKey) → at.stage.field ≡ field → at.stage.phase ≡ phase → past at.key k ≡ false → IsVisited at field phase k
visited_within at field phase k ef ep none greater = not_past at.key k none (sym (at_stage at field phase k ef ep) ∙ greater)

pub next_visited : NextIsVisited
next_visited at field phase keys key k ef ep found up among visited = told (past at.key k) refl
  where
    told : (t : Bool) → past at.key k ≡ t → IsVisited at field phase k ⊎ (k ≡ key)
    told true is = elim (first_least at.key key k keys found up among is) [
      | inl same ↦ inr same
      | inr less ↦ absurd (visited (at_stage (place_at_key at key) field phase k ef ep ∙ key_total.antisymm k key ∙ ap ordering_reverse less))
    ]
    told false is = inl (visited_within at field phase k ef ep is)

pub end_visited : EndIsVisited
end_visited at field phase keys k ef ep found among = visited_within at field phase k ef ep (none_past at.key k keys found among)

pub others_visited : OthersAreVisited
others_visited at key field phase k other visited = elim (beside field phase at.stage) [
  | is_less h ↦ all_before at field phase k h
  | is_same ef ep ↦ elim other [
    | inl differs ↦ absurd (differs ef)
    | inr differs ↦ absurd (differs ep)
  ]
  | is_greater h ↦ absurd (none_behind (place_at_key at key) field phase k h visited)
]

not_visited_start : (s : Stage) (field phase : ℕ) (k : PlanKey) → is_start k ≡ false → s.field ≡ field → s.phase ≡ phase
    → IsVisited (record { stage = s; key = Start }) field phase k → ⊥
not_visited_start s field phase k some ef ep visited = visited (at_stage (record { stage = s; key = Start }) field phase k ef ep ∙ key_above k some)

-- the stage after another, by the two tests
abbrev stage_by : ℕ → Stage → Bool → Bool → Stage
stage_by fields s t u = cond t (record { field = s.field; phase = s.phase + 1 })
    (cond u (record { field = s.field + 1; phase = KEYS }) (record { field = s.field; phase = PHASES }))

-- what lies behind a stage is the next one or lies behind it
behind_next : (fields : ℕ) (s : Stage) (field phase : ℕ) (k : PlanKey) (t u : Bool) → nat_lt s.phase NODES ≡ t → nat_lt (s.field + 1) fields ≡ u
    → s.phase < PHASES → field < fields → phase < PHASES → is_start k ≡ false → (s.field < field) ⊎ ((s.field ≡ field) × (s.phase < phase))
    → IsVisited (record { stage = stage_by fields s t u; key = Start }) field phase k → ⊥
behind_next fields s field phase k true u et eu few within last some (inl h) visited =
    none_behind (record { stage = stage_by fields s true u; key = Start }) field phase k (inl h) visited
behind_next fields s field phase k true u et eu few within last some (inr h) visited = elim (cases_eq phase (s.phase + 1)) [
  | inl same ↦ not_visited_start (stage_by fields s true u) field phase k some h.0 (sym same) visited
  | inr other ↦ none_behind (record { stage = stage_by fields s true u; key = Start }) field phase k (inr (h.0, (let above = h.1 in omega arith))) visited
]
behind_next fields s field phase k false true et eu few within last some (inl h) visited = elim (cases_eq field (s.field + 1)) [
  | inl same ↦ start_or_behind phase same
  | inr other ↦ none_behind (record { stage = stage_by fields s false true; key = Start }) field phase k (inl (omega arith)) visited
]
  where
    start_or_behind : (p : ℕ) → field ≡ s.field + 1 → ⊥
    start_or_behind p same = elim (cases_eq phase 0) [
      | inl zeroth ↦ not_visited_start (stage_by fields s false true) field phase k some (sym same) (sym zeroth) visited
      | inr other ↦ none_behind (record { stage = stage_by fields s false true; key = Start }) field phase k (inr (sym same, omega arith)) visited
    ]
behind_next fields s field phase k false true et eu few within last some (inr h) visited =
    absurd (let above = h.1 in let nodes = ltb-false s.phase NODES et in omega arith)
behind_next fields s field phase k false false et eu few within last some (inl h) visited =
    absurd (let most = ltb-false (s.field + 1) fields eu in omega arith)
behind_next fields s field phase k false false et eu few within last some (inr h) visited =
    absurd (let above = h.1 in let nodes = ltb-false s.phase NODES et in omega arith)

pub stage_visited : NextStageIsVisited
stage_visited fields at field phase k few within last some visited = elim (beside field phase at.stage) [
  | is_less h ↦ inl (all_before at field phase k h)
  | is_same ef ep ↦ inr (ef, ep)
  | is_greater h ↦ absurd (behind_next fields at.stage field phase k (nat_lt at.stage.phase NODES) (nat_lt (at.stage.field + 1) fields) refl refl few within last some h visited)
]

-- ---- keys made of a list are keys of it
module _ {A : Type 0} (f : A → PlanKey) where
  more_of : (key : PlanKey) (keys : List PlanKey) (xs : List A) → AllByRecursion (λ x. IsAmongKeys (f x) keys) xs → AllByRecursion (λ x. IsAmongKeys (f x) (key ∷ keys)) xs
  more_of key keys [] all = tt
  more_of key keys (x ∷ xs) all = (inr all.0, more_of key keys xs all.1)

  pub all_keys_of : (xs : List A) → AllByRecursion (λ x. IsAmongKeys (f x) (Rattle.std.specs.Prelude.map f xs)) xs
  all_keys_of [] = tt
  all_keys_of (x ∷ xs) = (inl refl, more_of (f x) (Rattle.std.specs.Prelude.map f xs) xs (all_keys_of xs))
