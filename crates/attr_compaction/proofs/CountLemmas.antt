-- How many keys lie between two places: one more at the next key, none more at the end of a phase.
use Rattle.std.proofs.Common.{◌≡◌, ◌≢◌, ℕ, zero, suc, ◌+◌, ◌<◌, Bool, true, false, cond, not, List, [], ◌∷◌, ◌++◌, map, length, Some, Less, Greater, is_lt, true≢false, refl, sym, ap, ap₂, subst, ◌∙◌, arith}
use Rattle.std.proofs.lemmas.Cmp.{tied_itself}
use Rattle.std.proofs.lemmas.List.Sums.{sum_by-append, sum_by-cons}
use Rattle.std.specs.Prelude.{◌&&◌, slice_get}
use Rattle.std.specs.List.{count_by, AllByRecursion, AllZip}
use Rattle.std.specs.List.Sorted.{IsStrictlySortedBy}
use Rattle.std.specs.Ordering.{is_gt}
use Rattle.std.proofs.lemmas.Option.{slice_get_within}
use Rattle.list_lemmas.proofs.Options.{same_Some}
use Rattle.entry_ref.specs.Records.{Records}
use Rattle.attr_compaction.proofs.PlaceLemmas.{key_total, place_total}
use Rattle.attr_compaction.specs.Places.{key_cmp, place_after, place_cmp, PlanPlace}
use Rattle.attr_compaction.specs.declared.plan.PlanKey.{PlanKey}
use Rattle.attr_compaction.specs.declared.plan.PlanKey.TheVariants.{Start}
use Rattle.attr_compaction.specs.declared.plan.Stage.{Stage}
use Rattle.attr_compaction.specs.declared.plan.TheConstants.{DOCUMENTS, KEYS, LISTS, NODES, PHASES}
use Rattle.image_format.specs.Tables.{AttributeTrees}
use Rattle.attr_compaction.specs.PhaseKeys.{key_past}
use Rattle.attr_compaction.specs.Counts.{is_between, keys_of_phase, place_at, places_from, places_in}
use Rattle.attr_compaction.specs.CountsLaws.{EndIsNoMore, NextIsOneMore, NoneAreBetween, SameAreBetween}
use Rattle.attr_compaction.proofs.StageLemmas.{all_over, gt_back, keys_are, less_is, other_past, own_past, under}

-- ---- counts
abbrev one_of : Bool → ℕ
one_of t = cond t 1 0

cons_count : (b : PlanPlace → Bool) (x : PlanPlace) (xs : List PlanPlace) → count_by b (x ∷ xs) ≡ cond (b x) 1 0 + count_by b xs
cons_count b x xs = sum_by-cons (λ y. cond (b y) 1 0) x xs

both_count : (b : PlanPlace → Bool) (xs ys : List PlanPlace) → count_by b (xs ++ ys) ≡ count_by b xs + count_by b ys
both_count b xs ys = sum_by-append (λ y. cond (b y) 1 0) xs ys

none_count : (b : PlanPlace → Bool) (f : PlanKey → PlanPlace) (keys : List PlanKey) → AllByRecursion (λ k. b (f k) ≡ false) keys → count_by b (map f keys) ≡ 0
none_count b f [] all = refl
none_count b f (k ∷ keys) all =
    cons_count b (f k) (map f keys) ∙ ap₂ (λ (t : Bool) (n : ℕ). one_of t + n) all.0 (none_count b f keys all.1)

none_of : (b : PlanPlace → Bool) (xs : List PlanPlace) → ((x : PlanPlace) → b x ≡ false) → count_by b xs ≡ 0
none_of b [] out = refl
none_of b (x ∷ xs) out = cons_count b x xs ∙ ap₂ (λ (t : Bool) (n : ℕ). one_of t + n) (out x) (none_of b xs out)

four : (b : PlanPlace → Bool) (m : Records) (field : ℕ) (a : AttributeTrees) (trees : List AttributeTrees) → count_by b (places_from m field (a ∷ trees))
    ≡ count_by b (places_in m field a KEYS) + (count_by b (places_in m field a DOCUMENTS) + (count_by b (places_in m field a LISTS)
    + (count_by b (places_in m field a NODES) + count_by b (places_from m (suc field) trees))))
four b m field a trees =
    let rest = places_from m (suc field) trees in
    let l3 = places_in m field a NODES in
    let l2 = places_in m field a LISTS in
    let l1 = places_in m field a DOCUMENTS in
    let l0 = places_in m field a KEYS in
    both_count b l0 (l1 ++ (l2 ++ (l3 ++ rest)))
    ∙ ap (λ (n : ℕ). count_by b l0 + n) (both_count b l1 (l2 ++ (l3 ++ rest))
    ∙ ap (λ (n : ℕ). count_by b l1 + n) (both_count b l2 (l3 ++ rest) ∙ ap (λ (n : ℕ). count_by b l2 + n) (both_count b l3 rest)))

module _ (b c : PlanPlace → Bool) where
  same_count : (f : PlanKey → PlanPlace) (keys : List PlanKey) → AllByRecursion (λ k. c (f k) ≡ b (f k)) keys → count_by c (map f keys) ≡ count_by b (map f keys)
  same_count f [] all = refl
  same_count f (k ∷ keys) all =
      cons_count c (f k) (map f keys) ∙ ap₂ (λ (t : Bool) (n : ℕ). one_of t + n) all.0 (same_count f keys all.1) ∙ sym (cons_count b (f k) (map f keys))

  abbrev IsSame : Records → ℕ → AttributeTrees → ℕ → Type 0
  IsSame m f a p = count_by c (places_in m f a p) ≡ count_by b (places_in m f a p)

  all_same : (m : Records) (field : ℕ) (trees : List AttributeTrees)
      → ((i f : ℕ) (a : AttributeTrees) (p : ℕ) → f ≡ field + i → slice_get trees i ≡ Some a → p < PHASES → IsSame m f a p)
      → count_by c (places_from m field trees) ≡ count_by b (places_from m field trees)
  all_same m field [] each = refl
  all_same m field (a ∷ trees) each =
      let fb = four b m field a trees in
      let fc = four c m field a trees in
      let h0 = each 0 field a KEYS (omega arith) refl (omega arith) in
      let h1 = each 0 field a DOCUMENTS (omega arith) refl (omega arith) in
      let h2 = each 0 field a LISTS (omega arith) refl (omega arith) in
      let h3 = each 0 field a NODES (omega arith) refl (omega arith) in
      let rest = all_same m (suc field) trees (λ i f x p e there low. each (suc i) f x p (omega arith) there low) in
      omega arith

  -- one stage has one more
  module _ (m : Records) (stage : Stage) where
    abbrev Others : ℕ → List AttributeTrees → Type 0
    Others field trees = (i f : ℕ) (x : AttributeTrees) (p : ℕ) → f ≡ field + i → slice_get trees i ≡ Some x → p < PHASES
        → ((f ≡ stage.field) × (p ≡ stage.phase) → ⊥) → IsSame m f x p

    abbrev IsMore : ℕ → AttributeTrees → ℕ → Type 0
    IsMore f a p = count_by c (places_in m f a p) ≡ suc (count_by b (places_in m f a p))

    head_more : (field : ℕ) (a : AttributeTrees) (trees : List AttributeTrees) (p : ℕ) → p ≡ stage.phase → field ≡ stage.field → p < PHASES → IsMore field a p
        → Others field (a ∷ trees) → count_by c (places_from m (suc field) trees) ≡ count_by b (places_from m (suc field) trees)
        → count_by c (places_from m field (a ∷ trees)) ≡ suc (count_by b (places_from m field (a ∷ trees)))
    head_more field a trees zero e f low own others rest =
        let fb = four b m field a trees in
        let fc = four c m field a trees in
        let h1 = others 0 field a DOCUMENTS (omega arith) refl (omega arith) (λ w. let u = w.1 in absurd (omega arith)) in
        let h2 = others 0 field a LISTS (omega arith) refl (omega arith) (λ w. let u = w.1 in absurd (omega arith)) in
        let h3 = others 0 field a NODES (omega arith) refl (omega arith) (λ w. let u = w.1 in absurd (omega arith)) in
        omega arith
    head_more field a trees (suc zero) e f low own others rest =
        let fb = four b m field a trees in
        let fc = four c m field a trees in
        let h0 = others 0 field a KEYS (omega arith) refl (omega arith) (λ w. let u = w.1 in absurd (omega arith)) in
        let h2 = others 0 field a LISTS (omega arith) refl (omega arith) (λ w. let u = w.1 in absurd (omega arith)) in
        let h3 = others 0 field a NODES (omega arith) refl (omega arith) (λ w. let u = w.1 in absurd (omega arith)) in
        omega arith
    head_more field a trees (suc (suc zero)) e f low own others rest =
        let fb = four b m field a trees in
        let fc = four c m field a trees in
        let h0 = others 0 field a KEYS (omega arith) refl (omega arith) (λ w. let u = w.1 in absurd (omega arith)) in
        let h1 = others 0 field a DOCUMENTS (omega arith) refl (omega arith) (λ w. let u = w.1 in absurd (omega arith)) in
        let h3 = others 0 field a NODES (omega arith) refl (omega arith) (λ w. let u = w.1 in absurd (omega arith)) in
        omega arith
    head_more field a trees (suc (suc (suc zero))) e f low own others rest =
        let fb = four b m field a trees in
        let fc = four c m field a trees in
        let h0 = others 0 field a KEYS (omega arith) refl (omega arith) (λ w. let u = w.1 in absurd (omega arith)) in
        let h1 = others 0 field a DOCUMENTS (omega arith) refl (omega arith) (λ w. let u = w.1 in absurd (omega arith)) in
        let h2 = others 0 field a LISTS (omega arith) refl (omega arith) (λ w. let u = w.1 in absurd (omega arith)) in
        omega arith
    head_more field a trees (suc (suc (suc (suc p)))) e f low own others rest = absurd (omega arith)

    same_some : (x a : AttributeTrees) → Some x ≡ Some a → a ≡ x
    same_some x a e = cc

    one_more : (field j : ℕ) (trees : List AttributeTrees) (a : AttributeTrees) → stage.field ≡ field + j → stage.phase < PHASES → slice_get trees j ≡ Some a
        → IsMore stage.field a stage.phase → Others field trees → count_by c (places_from m field trees) ≡ suc (count_by b (places_from m field trees))
    one_more field j [] a e low there own others = cc
    one_more field zero (x ∷ trees) a e low there own others =
        head_more field x trees stage.phase refl (omega arith) low
        (subst (λ (f : ℕ). IsMore f x stage.phase) (omega arith) (subst (λ y. IsMore stage.field y stage.phase) (same_some x a there) own)) others
        (all_same m (suc field) trees (λ i f y p is at few. others (suc i) f y p (omega arith) at few (λ w. let u = w.0 in absurd (omega arith))))
    one_more field (suc j) (x ∷ trees) a e low there own others =
        let fb = four b m field x trees in
        let fc = four c m field x trees in
        let h0 = others 0 field x KEYS (omega arith) refl (omega arith) (λ w. let u = w.0 in absurd (omega arith)) in
        let h1 = others 0 field x DOCUMENTS (omega arith) refl (omega arith) (λ w. let u = w.0 in absurd (omega arith)) in
        let h2 = others 0 field x LISTS (omega arith) refl (omega arith) (λ w. let u = w.0 in absurd (omega arith)) in
        let h3 = others 0 field x NODES (omega arith) refl (omega arith) (λ w. let u = w.0 in absurd (omega arith)) in
        let rest = one_more (suc field) j trees a (omega arith) low there own (λ i f y p is at few apart. others (suc i) f y p (omega arith) at few apart) in
        omega arith

-- ---- the next key
module _ (from at : PlanPlace) (key : PlanKey) (few : place_cmp from at ≢ Greater) where
  abbrev next : PlanPlace
  next = record { stage = at.stage; key = key }

  abbrev own : PlanKey → PlanPlace
  own k = record { stage = at.stage; key = k }

  outside : (q : PlanPlace) → is_gt (place_cmp q at) ≡ true → is_between from at q ≡ false
  outside q e = ap (λ (t : Bool). is_gt (place_cmp q from) && not t) e ∙ and_false (is_gt (place_cmp q from))
    where
      and_false : (t : Bool) → (t && false) ≡ false
      and_false true = refl
      and_false false = refl

  beyond : (q : PlanPlace) → is_gt (place_cmp q next) ≡ true → is_between from next q ≡ false
  beyond q e = ap (λ (t : Bool). is_gt (place_cmp q from) && not t) e ∙ and_false (is_gt (place_cmp q from))
    where
      and_false : (t : Bool) → (t && false) ≡ false
      and_false true = refl
      and_false false = refl

  past_own : (k done : PlanKey) → is_gt (place_cmp (own k) (own done)) ≡ is_lt (key_cmp done k)
  past_own k done = ap is_gt (own_past at.stage k done) ∙ gt_back key_total k done

  -- the key itself
  own_between : is_lt (key_cmp at.key key) ≡ true → is_between from next (own key) ≡ true
  own_between less =
      let above : place_cmp at (own key) ≡ Less = own_past at.stage at.key key ∙ less_is (key_cmp at.key key) less in
      let past : is_gt (place_cmp (own key) from) ≡ true = gt_back place_total (own key) from ∙ ap is_lt (under place_total from at (own key) few above) in
      let upto : is_gt (place_cmp (own key) next) ≡ false = past_own key key ∙ ap is_lt (tied_itself key_total key) in
      ap₂ (λ (t u : Bool). t && not u) past upto

  later_none : (keys : List PlanKey) → is_lt (key_cmp at.key key) ≡ true → AllByRecursion (λ k. key_cmp key k ≡ Less) keys
      → AllByRecursion (λ k. is_between from next (own k) ≡ false) keys × AllByRecursion (λ k. is_between from at (own k) ≡ false) keys
  later_none [] less all = (tt, tt)
  later_none (k ∷ keys) less all =
      let rest = later_none keys less all.1 in
      let through = key_total.trans at.key key k (less_is (key_cmp at.key key) less) all.0 in (
        (beyond (own k) (past_own k key ∙ ap is_lt all.0), rest.0),
        (outside (own k) (past_own k at.key ∙ ap is_lt through), rest.1),
      )

  -- a key before it
  before_same : (k : PlanKey) → is_lt (key_cmp at.key key) ≡ true → is_lt (key_cmp at.key k) ≡ false → is_between from next (own k) ≡ is_between from at (own k)
  before_same k less not_past =
      ap (λ (t : Bool). is_gt (place_cmp (own k) from) && not t) (past_own k key ∙ by (is_lt (key_cmp key k)) refl ∙ sym (past_own k at.key ∙ not_past))
    where
      by : (t : Bool) → is_lt (key_cmp key k) ≡ t → is_lt (key_cmp key k) ≡ false
      by false e = e
      by true e = absurd (true≢false (sym (ap is_lt (key_total.trans at.key key k (less_is (key_cmp at.key key) less) (less_is (key_cmp key k) e))) ∙ not_past))

  less_by : (k : PlanKey) (keys : List PlanKey) (t : Bool) → (key_past at.key keys ≡ Some key → is_lt (key_cmp at.key key) ≡ true)
      → is_lt (key_cmp at.key k) ≡ t → cond t (Some k) (key_past at.key keys) ≡ Some key → is_lt (key_cmp at.key key) ≡ true
  less_by k keys true rest is here = ap (λ x. is_lt (key_cmp at.key x)) (sym (same_Some k key here)) ∙ is
  less_by k keys false rest is later = rest later

  found_less : (keys : List PlanKey) → key_past at.key keys ≡ Some key → is_lt (key_cmp at.key key) ≡ true
  found_less [] found = cc
  found_less (k ∷ keys) found = less_by k keys (is_lt (key_cmp at.key k)) (found_less keys) refl found

  abbrev IsMoreIn : List PlanKey → Type 0
  IsMoreIn keys = count_by (is_between from next) (map own keys) ≡ suc (count_by (is_between from at) (map own keys))

  more_by : (k : PlanKey) (keys : List PlanKey) (t : Bool) → is_lt (key_cmp at.key key) ≡ true → AllByRecursion (λ y. key_cmp k y ≡ Less) keys
      → (key_past at.key keys ≡ Some key → IsMoreIn keys) → is_lt (key_cmp at.key k) ≡ t → cond t (Some k) (key_past at.key keys) ≡ Some key → IsMoreIn (k ∷ keys)
  more_by k keys true less up rest is here =
      let e = same_Some k key here in
      let later = later_none keys less (subst (λ (x : PlanKey). AllByRecursion (λ y. key_cmp x y ≡ Less) keys) e up) in
      let a1 = cons_count (is_between from next) (own k) (map own keys) in
      let a2 = cons_count (is_between from at) (own k) (map own keys) in
      let b1 = ap one_of (ap (λ (x : PlanKey). is_between from next (own x)) e ∙ own_between less) in
      let b2 = ap one_of (outside (own k) (past_own k at.key ∙ is)) in
      let n1 = none_count (is_between from next) own keys later.0 in
      let n2 = none_count (is_between from at) own keys later.1 in
      omega arith
  more_by k keys false less up rest is later =
      let a1 = cons_count (is_between from next) (own k) (map own keys) in
      let a2 = cons_count (is_between from at) (own k) (map own keys) in
      let b1 : one_of (is_between from next (own k)) ≡ one_of (is_between from at (own k)) = ap one_of (before_same k less is) in
      let more = rest later in
      omega arith

  own_more : (keys : List PlanKey) → IsStrictlySortedBy key_cmp keys → key_past at.key keys ≡ Some key → IsMoreIn keys
  unfolding IsStrictlySortedBy
  own_more [] up found = cc
  own_more (k ∷ keys) up found = more_by k keys (is_lt (key_cmp at.key k)) (found_less (k ∷ keys) found) up.0 (own_more keys up.1) refl found

  other_same : (field phase : ℕ) → ((field ≡ at.stage.field) × (phase ≡ at.stage.phase) → ⊥) → (keys : List PlanKey)
      → AllByRecursion (λ k. is_between from next (place_at field phase k) ≡ is_between from at (place_at field phase k)) keys
  other_same field phase apart [] = tt
  other_same field phase apart (k ∷ keys) = (
    ap (λ (t : Bool). is_gt (place_cmp (place_at field phase k) from) && not t) (other_past at key field phase k apart),
    other_same field phase apart keys,
  )

pub next_more : NextIsOneMore
next_more m trees a from at key there up low few found =
    let old = is_between from at in
    let new = is_between from (record { stage = at.stage; key = key }) in
    one_more old new m at.stage 0 at.stage.field trees a (omega arith) low there
    (own_more from at key few (keys_of_phase m a at.stage.phase) up found)
    (λ i f x p e is low apart. same_count old new (place_at f p) (keys_of_phase m x p) (other_same from at key few f p apart (keys_of_phase m x p)))

same_item : (trees : List AttributeTrees) (i j : ℕ) (a b : AttributeTrees) → slice_get trees i ≡ Some a → slice_get trees j ≡ Some b → i ≡ j → a ≡ b
same_item trees i j a b there here e =
    let same : (x y : AttributeTrees) → Some x ≡ Some y → x ≡ y = λ x y w. cc in
    same a b (sym there ∙ ap (slice_get trees) e ∙ here)

module _ (from at next : PlanPlace) (field phase : ℕ) where
  between_same : (keys : List PlanKey) → AllByRecursion (λ key. is_gt (place_cmp (place_at field phase key) next) ≡ is_gt (place_cmp (place_at field phase key) at)) keys
      → AllByRecursion (λ key. is_between from next (place_at field phase key) ≡ is_between from at (place_at field phase key)) keys
  between_same [] all = tt
  between_same (key ∷ keys) all =
      (ap (λ (t : Bool). is_gt (place_cmp (place_at field phase key) from) && not t) all.0, between_same keys all.1)

pub end_no_more : EndIsNoMore
end_no_more m trees a from at there low none =
    let next = place_after (length trees) at Start in
    all_same (is_between from at) (is_between from next) m 0 trees
    (λ i f x p e is few. same_count (is_between from at) (is_between from next) (place_at f p) (keys_of_phase m x p)
    (between_same from at next f p (keys_of_phase m x p)
    (all_over (length trees) at low f p (let h = slice_get_within trees i x is in omega arith) few (keys_of_phase m x p) (keys_are m x p few)
    (λ u w. let same = same_item trees i at.stage.field x a is there (omega arith) in
    ap (key_past at.key) (ap₂ (λ (y : AttributeTrees) (q : ℕ). keys_of_phase m y q) same w) ∙ none))))

-- ---- none, and the same
pub none_between : NoneAreBetween
none_between m trees at = none_of (is_between at at) (places_from m 0 trees) (λ q. by (is_gt (place_cmp q at)))
  where
    by : (t : Bool) → (t && not t) ≡ false
    by true = refl
    by false = refl

places_same : (m n : Records) (field : ℕ) (trees others : List AttributeTrees)
    → AllZip (λ a b. (phase : ℕ) → keys_of_phase n b phase ≡ keys_of_phase m a phase) trees others → places_from n field others ≡ places_from m field trees
places_same m n field [] [] same = refl
places_same m n field (a ∷ trees) (b ∷ others) same =
    let at : (phase : ℕ) → places_in n field b phase ≡ places_in m field a phase = λ phase. ap (map (place_at field phase)) (same.0 phase) in
    ap₂ (λ (x y : List PlanPlace). x ++ y) (at KEYS) (ap₂ (λ (x y : List PlanPlace). x ++ y) (at DOCUMENTS) (ap₂ (λ (x y : List PlanPlace). x ++ y) (at LISTS)
    (ap₂ (λ (x y : List PlanPlace). x ++ y) (at NODES) (places_same m n (suc field) trees others same.1))))
places_same m n field [] (b ∷ others) same = absurd same
places_same m n field (a ∷ trees) [] same = absurd same

pub same_between : SameAreBetween
same_between m n trees others from to same = ap (count_by (is_between from to)) (places_same m n 0 trees others same)
