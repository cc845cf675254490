-- Keys one after another in a list that ascends, and what was visited past them.
use Rattle.std.proofs.Common.{◌≡◌, ◌⊎◌, ℕ, Bool, true, false, cond, List, [], ◌∷◌, ◌++◌, Less, is_lt, inl, inr, refl, sym, ap, subst, ◌∙◌}
use Rattle.std.proofs.lemmas.Cmp.{tied_itself}
use Rattle.std.specs.Prelude.{Some}
use Rattle.std.specs.List.{find, AllByRecursion}
use Rattle.std.specs.List.Sorted.{IsStrictlySortedBy}
use Rattle.std.specs.Ordering.{ordering_reverse}
use Rattle.compaction_moves.specs.Cleared.{IsVisited}
use Rattle.compaction_moves.specs.Visits.{place_at_key, IsAmongKeys}
use Rattle.compaction_moves.proofs.PlanVisits.{next_visited, all_of}
use Rattle.attr_compaction.proofs.PlaceLemmas.{key_total}
use Rattle.attr_compaction.specs.Places.{key_cmp, PlanPlace}
use Rattle.attr_compaction.specs.declared.plan.PlanKey.{PlanKey}
use Rattle.attr_compaction.specs.declared.plan.PlanKey.TheVariants.{Start}
use Rattle.attr_compaction.specs.PhaseKeys.{first_item, key_past}
use Rattle.compaction_steps.specs.Passes.{GoesThrough}

abbrev pub Up : List PlanKey → Type 0
Up keys = IsStrictlySortedBy key_cmp keys

abbrev pub past : PlanKey → PlanKey → Bool
past key next = is_lt (key_cmp key next)

-- the keys from the first that is past another on
abbrev pub keys_behind : PlanKey → List PlanKey → List PlanKey
keys_behind key [] = []
keys_behind key (k ∷ ks) = cond (past key k) (k ∷ ks) (keys_behind key ks)

past_first : (key : PlanKey) (ks : List PlanKey) → key_past key ks ≡ first_item (keys_behind key ks)
past_first key [] = refl
past_first key (k ∷ ks) = told (past_first key ks) (past key k)
  where
    told : find (past key) ks ≡ first_item (keys_behind key ks) → (t : Bool) → cond t (Some k) (find (past key) ks) ≡ first_item (cond t (k ∷ ks) (keys_behind key ks))
    told more true = refl
    told more false = more

up_parts : (x : PlanKey) (keys : List PlanKey) → Up (x ∷ keys) → AllByRecursion (λ k. key_cmp x k ≡ Less) keys × Up keys
unfolding IsStrictlySortedBy
up_parts x keys up = up

in_behind : (key k : PlanKey) (ks : List PlanKey) → IsAmongKeys k (keys_behind key ks) → IsAmongKeys k ks
in_behind key k [] among = among
in_behind key k (x ∷ ks) among = told (in_behind key k ks) (past key x) among
  where
    told : (IsAmongKeys k (keys_behind key ks) → IsAmongKeys k ks) → (t : Bool) → IsAmongKeys k (cond t (x ∷ ks) (keys_behind key ks)) → IsAmongKeys k (x ∷ ks)
    told more true here = here
    told more false later = inr (more later)

-- where all are past it
pub whole_behind : (key : PlanKey) (ks : List PlanKey) → AllByRecursion (λ k. key_cmp key k ≡ Less) ks → keys_behind key ks ≡ ks
whole_behind key [] all = refl
whole_behind key (k ∷ ks) all = ap (λ (t : Bool). cond t (k ∷ ks) (keys_behind key ks)) (ap is_lt all.0)

not_past_itself : (k : PlanKey) → past k k ≡ false
not_past_itself k = ap is_lt (tied_itself key_total k)

not_past_below : (x k : PlanKey) → key_cmp x k ≡ Less → past k x ≡ false
not_past_below x k below = ap is_lt (key_total.antisymm k x ∙ ap ordering_reverse below)

abbrev head_of : List PlanKey → PlanKey
head_of [] = Start
head_of (k ∷ ks) = k

abbrev tail_of : List PlanKey → List PlanKey
tail_of [] = []
tail_of (k ∷ ks) = ks

-- the keys behind the first of those behind another
behind_next : (key k : PlanKey) (rest ks : List PlanKey) → Up ks → keys_behind key ks ≡ k ∷ rest → keys_behind k ks ≡ rest
behind_next key k rest [] up is = ap tail_of is
behind_next key k rest (x ∷ ks) up is = told (behind_next key k rest ks (up_parts x ks up).1) (past key x) is
  where
    told : (keys_behind key ks ≡ k ∷ rest → keys_behind k ks ≡ rest) → (t : Bool) → cond t (x ∷ ks) (keys_behind key ks) ≡ k ∷ rest → keys_behind k (x ∷ ks) ≡ rest
    told more true here =
        subst (λ (y : PlanKey). keys_behind y (x ∷ ks) ≡ rest) (ap head_of here)
        (ap (λ (t : Bool). cond t (x ∷ ks) (keys_behind x ks)) (not_past_itself x) ∙ whole_behind x ks (up_parts x ks up).0 ∙ ap tail_of here)
    told more false later =
        let among : IsAmongKeys k ks = in_behind key k ks (subst (IsAmongKeys k) (sym later) (inl refl)) in
        let below = all_of (λ y. key_cmp x y ≡ Less) ks (up_parts x ks up).0 k among in
        ap (λ (t : Bool). cond t (x ∷ ks) (keys_behind k ks)) (not_past_below x k below) ∙ more later

-- the last of keys, or where there are none the one before them
abbrev pub last_from : PlanKey → List PlanKey → PlanKey
last_from from [] = from
last_from from (k ∷ passed) = last_from k passed

pub goes_through : (ks : List PlanKey) → Up ks → (passed rest : List PlanKey) (from : PlanKey) → keys_behind from ks ≡ passed ++ rest → GoesThrough ks from passed (last_from from passed)
goes_through ks up [] rest from is = refl
goes_through ks up (k ∷ passed) rest from is =
    (past_first from ks ∙ ap (λ (xs : List PlanKey). first_item xs) is, goes_through ks up passed rest k (behind_next from k (passed ++ rest) ks up is))

-- of the keys of the phase, what was visited at the last of them was visited before, or is one of them
pub visited_through : (at : PlanPlace) (field phase : ℕ) (ks passed : List PlanKey) (to k : PlanKey) → at.stage.field ≡ field → at.stage.phase ≡ phase → Up ks
    → GoesThrough ks at.key passed to → IsAmongKeys k ks → IsVisited (place_at_key at to) field phase k → IsVisited at field phase k ⊎ IsAmongKeys k passed
visited_through at field phase ks [] to k ef ep up through among visited =
    inl (subst (λ (y : PlanKey). IsVisited (place_at_key at y) field phase k) through visited)
visited_through at field phase ks (key ∷ passed) to k ef ep up through among visited =
    elim (visited_through (place_at_key at key) field phase ks passed to k ef ep up through.1 among visited) [
      | inl before ↦ elim (next_visited at field phase ks key k ef ep through.0 up among before) [
        | inl was ↦ inl was
        | inr e ↦ inr (inl e)
      ]
      | inr later ↦ inr (inr later)
    ]
