-- The order of publishes and reads in the run of a memory, told as a history.
use Rattle.std.proofs.Common.{◌≡◌, ◌⊎◌, ◌∙◌, inl, inr, sym, ap, refl, subst, ℕ, zero, suc, ◌+◌, ◌≤◌, ◌<◌, ◌==◌, nat_le, Bool, true, false, cond, arith, eq-eqb, length-append}
use Rattle.std.proofs.Common.{List, [], ◌∷◌, ◌++◌, length, Option, Some, None}
use Rattle.std.specs.Prelude.{slice_get, if◌then◌else◌}
use Rattle.std.specs.List.{cons_option}
use Rattle.std.proofs.lemmas.Bool.{ne_eqb}
use Rattle.std.proofs.lemmas.Bool.Decides.{eqb_tells, leb_tells, nat_tests}
use Rattle.std.proofs.lemmas.Option.{slice_get_within}
use Rattle.std.specs.List.{AllByRecursion, filter_map}
use Rattle.entry_ref.specs.Records.{Records}
use Rattle.entry_ref.specs.declared.images.Image.{Image}
use Rattle.gen_core.specs.declared.views.Event.{Event}
use Rattle.gen_core.specs.declared.views.Event.TheVariants.{StoreWidth, StoreWord, FindWord, HandOut, Publish, PutOnHold, FreeBuffer, Reopen}
use Rattle.gen_core.specs.declared.views.Event.TheVariants.{StoreNewest, Close, StopAtOldest, Probe, StopAtNewest, Morph, Split, Join, MeetLoad, LoadOwn, LoadNewest, Raise, Bounce, LoadRoot, LoadWord, Release}
use Rattle.gen_core.specs.declared.views.Sizes.{Sizes}
use Rattle.gen_core.specs.Good.{State}
use Rattle.gen_core.specs.Events.{Happens, Happen, opening}
use Rattle.gen_core.specs.Reads.{last_after, is_read_by, reads_from}
use Rattle.attr_engine.specs.Happenings.{told_step}

abbrev pub Steps : Type 0
Steps = List (Option ℕ)

-- how many of them are publishes
abbrev pub nones : Steps → ℕ
nones [] = 0
nones (None ∷ ss) = suc (nones ss)
nones (Some i ∷ ss) = nones ss

-- the commits that reader r reads in them, from 1 on
abbrev pub reads_in : ℕ → ℕ → Steps → List ℕ
reads_in r k [] = []
reads_in r k (None ∷ ss) = reads_in r (suc k) ss
reads_in r k (Some i ∷ ss) = cond (i == r) (k ∷ reads_in r k ss) (reads_in r k ss)

abbrev pub InRange : ℕ → Option ℕ → Type 0
InRange n None = Unit {0}
InRange n (Some i) = (1 ≤ i) × (i ≤ n)

abbrev pub steps_of : ℕ → List Event → Steps
steps_of n events = filter_map (told_step n) events

-- ---- what an event is to a history

record IsOther (n : ℕ) (e : Event) : Type 0 where
  untold : told_step n e ≡ None
  same : (last : ℕ) → last_after last e ≡ last
  unread : (j : ℕ) → is_read_by j e ≡ false

abbrev Sorted : ℕ → Event → Type 0
Sorted n e = ((root : ℕ) × (e ≡ Publish root)) ⊎ (((j : ℕ) × (e ≡ LoadRoot j)) ⊎ IsOther n e)

sorted : (n : ℕ) (e : Event) → Sorted n e
sorted n (StoreWidth b w) = inr (inr (record { untold = refl; same = λ last. refl; unread = λ i. refl }))
sorted n (StoreWord p q) = inr (inr (record { untold = refl; same = λ last. refl; unread = λ i. refl }))
sorted n (FindWord p) = inr (inr (record { untold = refl; same = λ last. refl; unread = λ i. refl }))
sorted n (HandOut b) = inr (inr (record { untold = refl; same = λ last. refl; unread = λ i. refl }))
sorted n (Publish root) = inl (root, refl)
sorted n (PutOnHold b) = inr (inr (record { untold = refl; same = λ last. refl; unread = λ i. refl }))
sorted n (FreeBuffer b) = inr (inr (record { untold = refl; same = λ last. refl; unread = λ i. refl }))
sorted n (Reopen h) = inr (inr (record { untold = refl; same = λ last. refl; unread = λ i. refl }))
sorted n StoreNewest = inr (inr (record { untold = refl; same = λ last. refl; unread = λ i. refl }))
sorted n Close = inr (inr (record { untold = refl; same = λ last. refl; unread = λ i. refl }))
sorted n StopAtOldest = inr (inr (record { untold = refl; same = λ last. refl; unread = λ i. refl }))
sorted n Probe = inr (inr (record { untold = refl; same = λ last. refl; unread = λ i. refl }))
sorted n StopAtNewest = inr (inr (record { untold = refl; same = λ last. refl; unread = λ i. refl }))
sorted n Morph = inr (inr (record { untold = refl; same = λ last. refl; unread = λ i. refl }))
sorted n Split = inr (inr (record { untold = refl; same = λ last. refl; unread = λ i. refl }))
sorted n (Join j) = inr (inr (record { untold = refl; same = λ last. refl; unread = λ i. refl }))
sorted n MeetLoad = inr (inr (record { untold = refl; same = λ last. refl; unread = λ i. refl }))
sorted n (LoadOwn p) = inr (inr (record { untold = refl; same = λ last. refl; unread = λ i. refl }))
sorted n (LoadNewest j) = inr (inr (record { untold = refl; same = λ last. refl; unread = λ i. refl }))
sorted n (Raise j) = inr (inr (record { untold = refl; same = λ last. refl; unread = λ i. refl }))
sorted n (Bounce j) = inr (inr (record { untold = refl; same = λ last. refl; unread = λ i. refl }))
sorted n (LoadRoot j) = inr (inl (j, refl))
sorted n (LoadWord j p) = inr (inr (record { untold = refl; same = λ last. refl; unread = λ i. refl }))
sorted n (Release j) = inr (inr (record { untold = refl; same = λ last. refl; unread = λ i. refl }))

-- by a load of the root
loaded-as : (n i : ℕ) (rest : Steps) (P : Steps → Type 0) → (n ≤ i → P rest) → (i < n → P (Some (i + 1) ∷ rest)) → P (cons_option (if nat_le n i then None else Some (Some (i + 1))) rest)
loaded-as n i rest P past below = elim (leb_tells n i) [
  | inl at ↦ subst (λ (b : Bool). P (cons_option (if b then None else Some (Some (i + 1))) rest)) (sym at.0) (past at.1)
  | inr at ↦ subst (λ (b : Bool). P (cons_option (if b then None else Some (Some (i + 1))) rest)) (sym at.0) (below at.1)
]

-- ---- the reads

pub steps_read : (n j : ℕ) → j < n → (k : ℕ) (events : List Event) → reads_from j k events ≡ reads_in (j + 1) k (steps_of n events)
steps_read n j low k [] = refl
steps_read n j low k (e ∷ events) = elim (sorted n e) [
  | inl publish ↦ subst (λ (x : Event). reads_from j k (x ∷ events) ≡ reads_in (j + 1) k (steps_of n (x ∷ events))) (sym publish.1) (steps_read n j low (suc k) events)
  | inr more ↦ elim more [
    | inl load ↦ subst (λ (x : Event). reads_from j k (x ∷ events) ≡ reads_in (j + 1) k (steps_of n (x ∷ events))) (sym load.1) (by_load (steps_read n j low k events) load.0)
    | inr other ↦
        ap (λ (b : Bool). cond b (k ∷ reads_from j (last_after k e) events) (reads_from j (last_after k e) events)) (other.unread j)
        ∙ ap (λ (m : ℕ). reads_from j m events) (other.same k) ∙ steps_read n j low k events
        ∙ sym (ap (λ (o : Option (Option ℕ)). reads_in (j + 1) k (cons_option o (steps_of n events))) other.untold)
  ]
]
  where
    by_load : reads_from j k events ≡ reads_in (j + 1) k (steps_of n events) → (i : ℕ) → reads_from j k (LoadRoot i ∷ events) ≡ reads_in (j + 1) k (steps_of n (LoadRoot i ∷ events))
    by_load ih i = elim (eqb_tells i j) [
      | inl same ↦
          let is = same.1 in
          let test : ((i + 1) == (j + 1)) ≡ true = grind (arith, nat_tests) in
          ap (λ (b : Bool). cond b (k ∷ reads_from j k events) (reads_from j k events)) same.0
          ∙ loaded-as n i (steps_of n events) (λ (ss : Steps). k ∷ reads_from j k events ≡ reads_in (j + 1) k ss)
          (λ past. absurd (omega (arith, is, past, low)))
          (λ below. ap (λ (list : List ℕ). k ∷ list) ih
          ∙ sym (ap (λ (b : Bool). cond b (k ∷ reads_in (j + 1) k (steps_of n events)) (reads_in (j + 1) k (steps_of n events))) test))
      | inr apart ↦
          let ne = apart.1 in
          let test : ((i + 1) == (j + 1)) ≡ false = ne_eqb (i + 1) (j + 1) (λ same. ne (omega (arith, same))) in
          ap (λ (b : Bool). cond b (k ∷ reads_from j k events) (reads_from j k events)) apart.0
          ∙ loaded-as n i (steps_of n events) (λ (ss : Steps). reads_from j k events ≡ reads_in (j + 1) k ss)
          (λ past. ih)
          (λ below. ih
          ∙ sym (ap (λ (b : Bool). cond b (k ∷ reads_in (j + 1) k (steps_of n events)) (reads_in (j + 1) k (steps_of n events))) test))
    ]

pub steps_within : (n : ℕ) (events : List Event) → AllByRecursion (InRange n) (steps_of n events)
steps_within n [] = tt
steps_within n (e ∷ events) =
    let rest = steps_within n events in
    elim (sorted n e) [
      | inl publish ↦ subst (λ (x : Event). AllByRecursion (InRange n) (steps_of n (x ∷ events))) (sym publish.1) (tt, rest)
      | inr more ↦ elim more [
        | inl load ↦ subst (λ (x : Event). AllByRecursion (InRange n) (steps_of n (x ∷ events))) (sym load.1)
            (loaded-as n load.0 (steps_of n events) (AllByRecursion (InRange n)) (λ past. rest) (λ below. ((omega arith, omega (arith, below)), rest)))
        | inr other ↦ subst (λ (o : Option (Option ℕ)). AllByRecursion (InRange n) (cons_option o (steps_of n events))) (sym other.untold) rest
      ]
    ]

-- ---- the publishes

step_count : (n last : ℕ) (e : Event) (rest : Steps) → last_after last e + nones rest ≡ last + nones (cons_option (told_step n e) rest)
step_count n last e rest = elim (sorted n e) [
  | inl publish ↦ subst (λ (x : Event). last_after last x + nones rest ≡ last + nones (cons_option (told_step n x) rest)) (sym publish.1) (omega arith)
  | inr more ↦ elim more [
    | inl load ↦ subst (λ (x : Event). last_after last x + nones rest ≡ last + nones (cons_option (told_step n x) rest)) (sym load.1)
        (loaded-as n load.0 rest (λ (ss : Steps). last + nones rest ≡ last + nones ss) (λ past. refl) (λ below. refl))
    | inr other ↦ ap (λ (m : ℕ). m + nones rest) (other.same last) ∙ sym (ap (λ (o : Option (Option ℕ)). last + nones (cons_option o rest)) other.untold)
  ]
]

abbrev Counts : ℕ → State → Type 0
Counts last s = length s.writer.commits ≡ suc last

module _ (reaches : ℕ → Records → ℕ → List ℕ) (lawful : ℕ → Records → ℕ → Type 0) where
  counted_on : (last : ℕ) (s t : State) (e : Event) → Happens reaches lawful s e t → Counts last s → Counts (last_after last e) t
  counted_on last s t (StoreWidth b w) x k = subst (Counts last) (sym x.1) k
  counted_on last s t (StoreWord p q) x k = subst (Counts last) (sym x.1) k
  counted_on last s t (FindWord p) x k = subst (Counts last) (sym x.1) k
  counted_on last s t (HandOut b) x k = subst (Counts last) (sym x.1) k
  counted_on last s t (Publish root) x k = subst (Counts (suc last)) (sym x.1) (length-append s.writer.commits (_ ∷ []) ∙ (let more = k in omega (arith, more)))
  counted_on last s t (PutOnHold b) x k = subst (Counts last) (sym x.2) k
  counted_on last s t (FreeBuffer b) x k = subst (Counts last) (sym x.2) k
  counted_on last s t (Reopen h) x k = subst (Counts last) (sym x.1) k
  counted_on last s t StoreNewest x k = subst (Counts last) (sym x.2) k
  counted_on last s t Close x k = subst (Counts last) (sym x.4) k
  counted_on last s t StopAtOldest x k = subst (Counts last) (sym x.4) k
  counted_on last s t Probe x k = subst (Counts last) (sym x.2) k
  counted_on last s t StopAtNewest x k = subst (Counts last) (sym x.2) k
  counted_on last s t Morph x k = subst (Counts last) (sym x.1) k
  counted_on last s t Split x k = subst (Counts last) (sym x.1) k
  counted_on last s t (Join j) x k = subst (Counts last) (sym x.3) k
  counted_on last s t MeetLoad x k = subst (Counts last) (sym x.1) k
  counted_on last s t (LoadOwn p) x k = subst (Counts last) (sym x.1) k
  counted_on last s t (LoadNewest j) x k = subst (Counts last) (sym x.3) k
  counted_on last s t (Raise j) x k = subst (Counts last) (sym x.5) k
  counted_on last s t (Bounce j) x k = subst (Counts last) (sym x.4) k
  counted_on last s t (LoadRoot j) x k = subst (Counts last) (sym x.4) k
  counted_on last s t (LoadWord j p) x k = subst (Counts last) (sym x.3) k
  counted_on last s t (Release j) x k = subst (Counts last) (sym x.5) k

  counted_through : (n : ℕ) (events : List Event) (last : ℕ) (s t : State) → Happen reaches lawful s events t → Counts last s → length t.writer.commits ≡ suc (last + nones (steps_of n events))
  counted_through n [] last s t h k = subst (λ (x : State). length x.writer.commits ≡ suc (last + 0)) (sym h) (k ∙ (let e : suc last ≡ suc (last + 0) = omega arith in e))
  counted_through n (e ∷ events) last s t h k =
      counted_through n events (last_after last e) h.0 t h.2 (counted_on last s h.0 e h.1 k) ∙ ap suc (step_count n last e (steps_of n events))

  -- a commit of this number is in the run, so there are as many publishes
  pub enough : (n : ℕ) (sizes : Sizes) (events : List Event) (end : State) (last : ℕ) (image : Image) → Happen reaches lawful (opening sizes) events end
      → slice_get end.writer.commits last ≡ Some image → last ≤ nones (steps_of n events)
  enough n sizes events end last image run there =
      let long = counted_through n events 0 (opening sizes) end run refl in
      let within = slice_get_within end.writer.commits last image there in
      omega (arith, long, within)

-- ---- a run, cut after so many publishes

abbrev pub first_of : ℕ → Steps → Steps
first_of m [] = []
first_of zero (None ∷ ss) = []
first_of zero (Some i ∷ ss) = Some i ∷ first_of zero ss
first_of (suc m) (None ∷ ss) = None ∷ first_of m ss
first_of (suc m) (Some i ∷ ss) = Some i ∷ first_of (suc m) ss

abbrev pub rest_of : ℕ → Steps → Steps
rest_of m [] = []
rest_of zero (None ∷ ss) = None ∷ ss
rest_of zero (Some i ∷ ss) = rest_of zero ss
rest_of (suc m) (None ∷ ss) = rest_of m ss
rest_of (suc m) (Some i ∷ ss) = rest_of (suc m) ss

pub both_parts : (m : ℕ) (ss : Steps) → first_of m ss ++ rest_of m ss ≡ ss
both_parts m [] = refl
both_parts zero (None ∷ ss) = refl
both_parts zero (Some i ∷ ss) = ap (λ (list : Steps). Some i ∷ list) (both_parts zero ss)
both_parts (suc m) (None ∷ ss) = ap (λ (list : Steps). None ∷ list) (both_parts m ss)
both_parts (suc m) (Some i ∷ ss) = ap (λ (list : Steps). Some i ∷ list) (both_parts (suc m) ss)

pub first_count : (m : ℕ) (ss : Steps) → m ≤ nones ss → nones (first_of m ss) ≡ m
first_count zero [] many = refl
first_count (suc m) [] many = absurd (omega (arith, many))
first_count zero (None ∷ ss) many = refl
first_count zero (Some i ∷ ss) many = first_count zero ss many
first_count (suc m) (None ∷ ss) many = ap suc (first_count m ss (omega (arith, many)))
first_count (suc m) (Some i ∷ ss) many = first_count (suc m) ss many

pub first_within : (n m : ℕ) (ss : Steps) → AllByRecursion (InRange n) ss → AllByRecursion (InRange n) (first_of m ss)
first_within n m [] all = tt
first_within n zero (None ∷ ss) all = tt
first_within n zero (Some i ∷ ss) all = (all.0, first_within n zero ss all.1)
first_within n (suc m) (None ∷ ss) all = (tt, first_within n m ss all.1)
first_within n (suc m) (Some i ∷ ss) all = (all.0, first_within n (suc m) ss all.1)

-- every read of a reader of the run is of a commit up to the last
abbrev pub ReadsUpTo : ℕ → ℕ → ℕ → Steps → Type 0
ReadsUpTo n last k ss = (r : ℕ) → 1 ≤ r → r ≤ n → AllByRecursion (λ c. c ≤ last) (reads_in r k ss)

abbrev pub OnlyPublishes : Steps → Type 0
OnlyPublishes ss = AllByRecursion (λ s. s ≡ None) ss

after_read : (n last k i : ℕ) (ss : Steps) → ReadsUpTo n last k (Some i ∷ ss) → ReadsUpTo n last k ss
after_read n last k i ss reads r least most = by (i == r) (reads r least most)
  where
    by : (b : Bool) → AllByRecursion (λ c. c ≤ last) (cond b (k ∷ reads_in r k ss) (reads_in r k ss)) → AllByRecursion (λ c. c ≤ last) (reads_in r k ss)
    by true all = all.1
    by false all = all

no_more : (n last k : ℕ) (ss : Steps) → last < k → AllByRecursion (InRange n) ss → ReadsUpTo n last k ss → OnlyPublishes ss
no_more n last k [] late within reads = tt
no_more n last k (None ∷ ss) late within reads = (refl, no_more n last (suc k) ss (omega (arith, late)) within.1 reads)
no_more n last k (Some i ∷ ss) late within reads =
    let here = subst (λ (b : Bool). AllByRecursion (λ c. c ≤ last) (cond b (k ∷ reads_in i k ss) (reads_in i k ss))) (eq-eqb i i refl) (reads i within.0.0 within.0.1) in
    let low = here.0 in
    absurd (omega (arith, low, late))

pub rest_publishes : (n last m k : ℕ) (ss : Steps) → k + m ≡ last → AllByRecursion (InRange n) ss → ReadsUpTo n last k ss → OnlyPublishes (rest_of m ss)
rest_publishes n last m k [] is within reads = tt
rest_publishes n last zero k (None ∷ ss) is within reads = (refl, no_more n last (suc k) ss (omega (arith, is)) within.1 reads)
rest_publishes n last zero k (Some i ∷ ss) is within reads = rest_publishes n last zero k ss is within.1 (after_read n last k i ss reads)
rest_publishes n last (suc m) k (None ∷ ss) is within reads = rest_publishes n last m (suc k) ss (omega (arith, is)) within.1 reads
rest_publishes n last (suc m) k (Some i ∷ ss) is within reads = rest_publishes n last (suc m) k ss is within.1 (after_read n last k i ss reads)

unread_in : (r k : ℕ) (ss : Steps) → OnlyPublishes ss → reads_in r k ss ≡ []
unread_in r k [] all = refl
unread_in r k (None ∷ ss) all = unread_in r (suc k) ss all.1
unread_in r k (Some i ∷ ss) all = absurd (let e : Some i ≡ None = all.0 in cc)

pub first_reads : (r m k : ℕ) (ss : Steps) → OnlyPublishes (rest_of m ss) → reads_in r k (first_of m ss) ≡ reads_in r k ss
first_reads r m k [] all = refl
first_reads r zero k (None ∷ ss) all = sym (unread_in r (suc k) ss all.1)
first_reads r zero k (Some i ∷ ss) all = ap (λ (list : List ℕ). cond (i == r) (k ∷ list) list) (first_reads r zero k ss all)
first_reads r (suc m) k (None ∷ ss) all = first_reads r m (suc k) ss all
first_reads r (suc m) k (Some i ∷ ss) all = ap (λ (list : List ℕ). cond (i == r) (k ∷ list) list) (first_reads r (suc m) k ss all)
