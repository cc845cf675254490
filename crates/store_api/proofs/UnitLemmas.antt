-- What the calls of a store turn, and the ends of a unit.
use Rattle.std.proofs.Common.{◌≡◌, ◌≢◌, ℕ, Bool, List, [], ◌∷◌, true, false, true≢false, Option, Some, None, cond, refl, sym, ap, subst, ◌∙◌, arith, inl, inr, ne_eqb, Result, Ok, Err}
use Rattle.std.specs.Prelude.{IfOk, OnErr}
use Rattle.std.proofs.lemmas.Bool.{cases_eq, eq-eqb}
use Rattle.entry_ref.specs.References.{buffer_of}
use Rattle.entry_ref.specs.Records.{Records}
use Rattle.arena_api.specs.Calls.{padded}
use Rattle.arena_api.specs.Works.{Sizes}
use Rattle.store_api.specs.Statuses.{Status, in_use, is_free_status, after_drop, with_status}
use Rattle.store_api.specs.Ledgers.{Ledger, OfWidth, IsSettled, capacity, is_this, with_counts}
use Rattle.store_api.specs.Units.{MayDo, MakesAtMost}
use Rattle.store_api.specs.Calls.{MayGiveBack, Makes, DropsEntry, Accepts, Undoes, took_buffer}
use Rattle.store_api.specs.Parts.{Part, uses, entry, AllStay, Owns, Turns, After}
use Rattle.store_api.proofs.Counts.{at_most-none, at_most-then, at_most-back, at_most-drop, at_most-spare, at_most-buffer, at_most-more}
use Rattle.store_api.proofs.PartLemmas.{after, turns-then, owns-then}
use Rattle.store_api.proofs.Times.{times-same, times-other}
use Rattle.store_api.proofs.Uses.{uses-in, uses-out, in-uses, uses-same, open_unused, used_stays, used_not_free, accept_uses, below_uses, drop_ends, back_uses, with_status-same, with_status-other}

-- the same statuses and records
pub turns-equal : {H : Type 0} (old new : Ledger H) (m n : Records) → new.status ≡ old.status → n ≡ m → Turns old new m n [] []
turns-equal old new m n status records = record {
  kept = λ r h. ap (λ (f : Records). f r) records;
  balance = λ r. let x : uses new r ≡ uses old r = uses-same old new r (ap (λ (f : ℕ → Status). in_use (f r)) status) in omega arith;
}

-- a reclaim changes nothing of what is in use
pub back-uses : {H : Type 0} (old mid : Ledger H) → MayGiveBack old mid → (r : ℕ) → uses mid r ≡ uses old r
back-uses old mid (inl e) r = ap (λ (l : Ledger _). uses l r) e
back-uses old mid (inr back) r = uses-same old mid r (ap in_use (back.status r) ∙ below_uses _ (old.status r))

pub turns-back : {H : Type 0} (old mid : Ledger H) (m n : Records) → MayGiveBack old mid → n ≡ m → Turns old mid m n [] []
turns-back old mid m n back records = record {
  kept = λ r h. ap (λ (f : Records). f r) records;
  balance = λ r. let x = back-uses old mid back r in omega arith;
}

pub back-counts : {H : Type 0} (old mid : Ledger H) → MayGiveBack old mid → (c w : ℕ) → MakesAtMost c 0 (old.of_width w) (mid.of_width w)
back-counts old mid (inl e) c w = subst (λ (l : Ledger _). MakesAtMost c 0 (old.of_width w) (l.of_width w)) (sym e) (at_most-none c (old.of_width w))
back-counts old mid (inr back) c w = at_most-back c _ _ (back.counts w)

pub back-sizes : {H : Type 0} (old mid : Ledger H) → MayGiveBack old mid → mid.work.sizes ≡ old.work.sizes
back-sizes old mid (inl e) = ap (λ (l : Ledger _). l.work.sizes) e
back-sizes old mid (inr back) = ap (λ w. w.sizes) back.work

-- an entry that is made
module _ {H : Type 0} (bits : ℕ) (old new : Ledger H) (m n : Records) (width : ℕ) (words : List ℕ) (q : ℕ) (makes : Makes bits old new m n width words q) where
  status-at : (r : ℕ) → new.status r ≡ with_status makes.mid.status q Status.pending r
  status-at r = ap (λ (f : ℕ → Status). f r) makes.status

  record-at : (r : ℕ) → r ≢ q → n r ≡ m r
  record-at r ne = ap (λ (f : Records). f r) makes.records ∙ ap (λ b. cond b (padded words width) (m r)) (ne_eqb r q ne)

  pub made-record : n q ≡ padded words width
  made-record = ap (λ (f : Records). f q) makes.records ∙ ap (λ b. cond b (padded words width) (m q)) (eq-eqb q q refl)

  pub made-unused : uses old q ≡ 0
  made-unused = sym (back-uses old makes.mid makes.gives_back q) ∙ uses-out makes.mid q (open_unused (makes.mid.status q) makes.was)

  pub makes-turns : Turns old new m n [] (entry q ∷ [])
  makes-turns = record {
    kept = λ r h. record-at r (λ e. let x = ap (uses old) e in let y = made-unused in omega arith);
    balance = λ r. elim (cases_eq r q) [
      | inl e ↦ (let here : uses new r ≡ 1 = uses-in new r (ap in_use (status-at r ∙ with_status-same makes.mid.status q r Status.pending e)) in
          let was : uses old r ≡ 0 = ap (uses old) e ∙ made-unused in let is = times-same r q [] e in omega arith)
      | inr ne ↦ (let here : uses new r ≡ uses makes.mid r = uses-same makes.mid new r (ap in_use (status-at r ∙ with_status-other makes.mid.status q r Status.pending ne)) in
          let before = back-uses old makes.mid makes.gives_back r in let is = times-other r q [] ne in omega arith)
    ];
  }

  counts-same : (c w : ℕ) (counts : OfWidth) → w ≡ width → new.of_width ≡ with_counts makes.mid.of_width width counts → MakesAtMost c 1 (makes.mid.of_width width) counts
      → MakesAtMost c 1 (makes.mid.of_width w) (new.of_width w)
  counts-same c w counts e is bound =
      subst (λ v. MakesAtMost c 1 (makes.mid.of_width v) (new.of_width v)) (sym e)
      (subst (λ k. MakesAtMost c 1 (makes.mid.of_width width) k) (sym (ap (λ (f : ℕ → OfWidth). f width) is ∙ ap (λ b. cond b counts (makes.mid.of_width width)) (eq-eqb width width refl))) bound)

  counts-other : (c w : ℕ) (counts : OfWidth) → w ≢ width → new.of_width ≡ with_counts makes.mid.of_width width counts → MakesAtMost c 0 (makes.mid.of_width w) (new.of_width w)
  counts-other c w counts ne is =
      subst (λ k. MakesAtMost c 0 (makes.mid.of_width w) k) (sym (ap (λ (f : ℕ → OfWidth). f w) is ∙ ap (λ b. cond b counts (makes.mid.of_width w)) (ne_eqb w width ne)))
      (at_most-none c (makes.mid.of_width w))

  mid-capacity : capacity makes.mid.work.sizes.words width ≡ capacity old.work.sizes.words width
  mid-capacity = ap (λ (s : Sizes). capacity s.words width) (back-sizes old makes.mid makes.gives_back)

  -- at most one entry of this width was made, and none of another
  pub makes-here : MakesAtMost (capacity old.work.sizes.words width) 1 (old.of_width width) (new.of_width width)
  makes-here =
      let c = capacity old.work.sizes.words width in
      let back = back-counts old makes.mid makes.gives_back c width in
      elim makes.from [
        | inl spare ↦ at_most-then c 0 1 _ _ _ back (counts-same c width _ refl spare.counts (at_most-spare c _ spare.some))
        | inr from ↦ at_most-then c 0 1 _ _ _ back (counts-same c width _ refl from.1.counts
            (subst (λ k. MakesAtMost c 1 (makes.mid.of_width width) (took_buffer k (buffer_of bits q) (makes.mid.of_width width))) (sym mid-capacity) (at_most-buffer c _ _ from.1.none)))
      ]

  pub makes-elsewhere : (c w : ℕ) → w ≢ width → MakesAtMost c 0 (old.of_width w) (new.of_width w)
  makes-elsewhere c w ne =
      let back = back-counts old makes.mid makes.gives_back c w in
      elim makes.from [
        | inl spare ↦ at_most-then c 0 0 _ _ _ back (counts-other c w _ ne spare.counts)
        | inr from ↦ at_most-then c 0 0 _ _ _ back (counts-other c w _ ne from.1.counts)
      ]

-- the same of a make that may have been refused
module _ {H : Type 0} {E : Type 0} (bits : ℕ) (old new : Ledger H) (m n : Records) (width : ℕ) (words : List ℕ) where
  pub make-turns : (result : Result ℕ E) → IfOk result (Makes bits old new m n width words) → IfOk result (λ r. Turns old new m n [] (entry r ∷ []))
  make-turns (Ok r) makes = makes-turns bits old new m n width words r makes
  make-turns (Err e) makes = tt

  pub make-refused : (result : Result ℕ E) → OnErr result (MayGiveBack old new) → OnErr result (n ≡ m) → OnErr result (Turns old new m n [] [])
  make-refused (Ok r) back left = tt
  make-refused (Err e) back left = turns-back old new m n back left

  pub make-here : (result : Result ℕ E) → IfOk result (Makes bits old new m n width words) → OnErr result (MayGiveBack old new)
      → MakesAtMost (capacity old.work.sizes.words width) 1 (old.of_width width) (new.of_width width)
  make-here (Ok r) makes back = makes-here bits old new m n width words r makes
  make-here (Err e) makes back = at_most-more _ 0 1 _ _ (omega arith) (back-counts old new back _ width)

  pub make-elsewhere : (result : Result ℕ E) → IfOk result (Makes bits old new m n width words) → OnErr result (MayGiveBack old new)
      → (c w : ℕ) → w ≢ width → MakesAtMost c 0 (old.of_width w) (new.of_width w)
  make-elsewhere (Ok r) makes back c w ne = makes-elsewhere bits old new m n width words r makes c w ne
  make-elsewhere (Err e) makes back c w ne = back-counts old new back c w

-- an entry that is dropped
module _ {H : Type 0} (old new : Ledger H) (m n : Records) (q : ℕ) (used : in_use (old.status q) ≡ true) (drops : DropsEntry old new m n q) where
  drop-other : (r : ℕ) → r ≢ q → new.status r ≡ old.status r
  drop-other r ne = ap (λ (f : ℕ → Status). f r) drops.status ∙ with_status-other old.status q r _ ne

  drop-here : (r : ℕ) → r ≡ q → new.status r ≡ after_drop (old.status q) (old.back q)
  drop-here r e = ap (λ (f : ℕ → Status). f r) drops.status ∙ with_status-same old.status q r _ e

  pub drops-turns : Turns old new m n (entry q ∷ []) []
  drops-turns = record {
    kept = λ r h. elim (cases_eq r q) [
      | inl e ↦ (let is = times-same r q [] e in let was = ap (uses old) e in let one = uses-in old q used in absurd (omega arith))
      | inr ne ↦ (let is = times-other r q [] ne in
          ap (λ (f : Records). f r) drops.records ∙ ap (λ b. cond b [] (m r)) (ap is_free_status (drop-other r ne) ∙ used_not_free (old.status r) (in-uses old r (omega arith))))
    ];
    balance = λ r. elim (cases_eq r q) [
      | inl e ↦ (let is = times-same r q [] e in let was = ap (uses old) e in let one = uses-in old q used in
          let out = uses-out new r (ap in_use (drop-here r e) ∙ drop_ends (old.status q) (old.back q) used) in omega arith)
      | inr ne ↦ (let is = times-other r q [] ne in let same = uses-same old new r (ap in_use (drop-other r ne)) in omega arith)
    ];
  }

  pub drops-counts : (c w : ℕ) → MakesAtMost c 0 (old.of_width w) (new.of_width w)
  drops-counts c w = at_most-drop c _ _ (drops.counts w)

-- a unit that is accepted
pub turns-accept : {H : Type 0} (old new : Ledger H) (m n : Records) → Accepts old new m n → Turns old new m n [] []
turns-accept old new m n accepts = record {
  kept = λ r h. ap (λ (f : Records). f r) accepts.records ∙ ap (λ b. cond b [] (m r)) (used_stays (old.status r) (in-uses old r h));
  balance = λ r. let x = uses-same old new r (ap in_use (accepts.status r) ∙ accept_uses (old.status r)) in omega arith;
}

-- a unit that is undone: from before its begin
pub undone : {H : Type 0} (old begun mid new : Ledger H) (m n : Records) → IsSettled old m → begun ≡ record old { unit = true }
    → MayDo begun mid → Undoes mid new n → (n ≡ m) × ((r : ℕ) → uses new r ≡ uses old r)
undone old begun mid new m n settled begins may undoes = (
  undoes.records ∙ may.back_records ∙ ap (λ l. l.back_records) begins ∙ settled.back_records,
  λ r. uses-same old new r (ap (λ (f : ℕ → Status). in_use (f r)) undoes.status ∙ back_uses (begun.back r) (mid.back r) (may.back r)
      ∙ ap (λ l. in_use (l.back r)) begins ∙ ap (λ (f : ℕ → Status). in_use (f r)) settled.back),
)

pub turns-undone : {H : Type 0} (old begun mid new : Ledger H) (m n : Records) → IsSettled old m → begun ≡ record old { unit = true }
    → MayDo begun mid → Undoes mid new n → Turns old new m n [] []
turns-undone old begun mid new m n settled begins may undoes =
    let both = undone old begun mid new m n settled begins may undoes in
    record {
      kept = λ r h. ap (λ (f : Records). f r) both.0;
      balance = λ r. let x = both.1 r in omega arith;
    }

-- a unit's parts from before its begin to its end, which leaves the new ones as they were
module _ {H : Type 0} (old begun mid new : Ledger H) (m k n o : Records) (u v : List Part) (owns : Owns old m u)
    (begins : begun ≡ record old { unit = true }) (records : k ≡ m) (turns : Turns begun mid k n u v) (accepts : Accepts mid new n o) where
  first : After old begun m k u u u
  first = after old begun m k [] [] u u u owns (turns-equal old begun m k (ap (λ l. l.status) begins) records) (λ l r. omega arith) (λ l r. omega arith)

  last : After mid new n o v v v
  last = after mid new n o [] [] v v v (owns-then begun mid k n u v first.owns turns) (turns-accept mid new n o accepts) (λ l r. omega arith) (λ l r. omega arith)

  pub unit-accepts : After old new m o u v []
  unit-accepts = record { owns = last.owns; turns = turns-then _ _ _ _ _ _ u v v (turns-then _ _ _ _ _ _ u u v first.turns turns) last.turns; stay = tt }

  pub accept-stays : AllStay v n o
  accept-stays = last.stay

-- what is not in a sealed buffer is not in the finished one
pub apart-from : (finished : Option ℕ) (sealed : ℕ → Bool) (b : ℕ) → ((a : ℕ) → finished ≡ Some a → sealed a ≡ true) → sealed b ≡ false → is_this finished b ≡ false
apart-from None sealed b all out = refl
apart-from (Some a) sealed b all out = ne_eqb a b (λ same. true≢false (sym (all a refl) ∙ ap sealed same ∙ out))
