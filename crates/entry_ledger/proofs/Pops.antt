-- The list without its first entry that passes a test.
use Rattle.std.proofs.Common.{◌≡◌, ◌≢◌, ℕ, zero, suc, ◌+◌, ◌<◌, ◌≤◌, Bool, true, false, ◌&&◌, ◌||◌, cond, eqb, List, [], ◌∷◌, length, get_or, Option, None, Some, All, refl, sym, ap, subst, ◌∙◌, arith, inl, inr}
use Rattle.std.specs.Prelude.{nat_lt}
use Rattle.std.specs.Option.{option_map}
use Rattle.std.specs.List.{find, remove, list_any}
use Rattle.std.proofs.lemmas.List.Elements.{All-get_or, All-from_get_or}
use Rattle.std.proofs.lemmas.List.Edits.{get_or-remove_below, get_or-remove_above, length-remove}
use Rattle.std.proofs.lemmas.List.Quantifiers.{all_pairs_remove}
use Rattle.std.proofs.lemmas.Bool.{cases_lt, cases_eq, ne_eqb, eqb-true, and_parts, ltb-true, ltb-false, true≢false}
use Rattle.list_lemmas.proofs.Options.{same_Some}
use Rattle.entry_ref.specs.References.{buffer_of}
use Rattle.entry_ledger.specs.declared.state.State.{State}
use Rattle.entry_ledger.specs.declared.state.State.TheVariants.{Free, Returned, Made, InUse, LetGo, DroppedNow, Dropped}
use Rattle.hold_lists.specs.Held.{HeldEntry, HoldTag, untagged, is_tag_below, without_first}
use Rattle.entry_ledger.specs.Entries.{EntriesView}
use Rattle.entry_ledger.specs.Ledgers.{tag_fits, held_fits, is_in_list, IsHeldList}

-- where an element is that a search found
pub record IsAt (test : HeldEntry → Bool) (held : List HeldEntry) (h : HeldEntry) : Type 0 where
  pub place : ℕ
  pub inside : place < length held
  pub is : (d : HeldEntry) → get_or held place d ≡ h
  pub passes : test h ≡ true
  pub rest : without_first test held ≡ remove held place

none_held : (h : HeldEntry) → None ≡ Some h → ⊥
none_held h e = absurd (cc)

pub found-at : (test : HeldEntry → Bool) (held : List HeldEntry) (h : HeldEntry) → find test held ≡ Some h → IsAt test held h
found-at test [] h is = absurd (none_held h is)
found-at test (x ∷ xs) h is = by_test (test x) refl is (λ r. found-at test xs h r)
  where
    by_test : (t : Bool) → test x ≡ t → cond t (Some x) (find test xs) ≡ Some h → (find test xs ≡ Some h → IsAt test xs h) → IsAt test (x ∷ xs) h
    by_test true e found later = record {
      place = 0;
      inside = omega arith;
      is = λ d. same_Some x h found;
      passes = ap test (sym (same_Some x h found)) ∙ e;
      rest = ap (λ t. cond t xs (x ∷ without_first test xs)) e;
    }
    by_test false e found later =
        let at = later found in
        record {
          place = suc at.place;
          inside = omega (arith, at.inside);
          is = at.is;
          passes = at.passes;
          rest = ap (λ t. cond t xs (x ∷ without_first test xs)) e ∙ ap (λ l. x ∷ l) at.rest;
        }

-- where nothing was found, no element passes
pub none-passes : (test : HeldEntry → Bool) (held : List HeldEntry) → find test held ≡ None → (i : ℕ) (d : HeldEntry) → i < length held → test (get_or held i d) ≡ false
none-passes test [] none i d below = absurd (omega (arith, below))
none-passes test (x ∷ xs) none i d below = by_test (test x) refl none i below (λ rest j low. none-passes test xs rest j d low)
  where
    by_test : (t : Bool) → test x ≡ t → cond t (Some x) (find test xs) ≡ None → (j : ℕ) → j < suc (length xs)
        → (find test xs ≡ None → (i : ℕ) → i < length xs → test (get_or xs i d) ≡ false) → test (get_or (x ∷ xs) j d) ≡ false
    by_test true e found j low later = absurd (none_held x (sym found))
    by_test false e found zero low later = e
    by_test false e found (suc j) low later = later found j (omega (arith, low))

-- the entry that a search over the list named
pub record IsNamed (o : Option HeldEntry) (r : ℕ) : Type 0 where
  pub held : HeldEntry
  pub found : o ≡ Some held
  pub entry : held.entry ≡ r

pub named : (o : Option HeldEntry) (r : ℕ) → Some r ≡ option_map (λ (h : HeldEntry). h.entry) o → IsNamed o r
named None r is = absurd (cc)
named (Some h) r is = (let same : r ≡ h.entry = cc in record { held = h; found = refl; entry = sym same })

pub unnamed : (o : Option HeldEntry) → None ≡ option_map (λ (h : HeldEntry). h.entry) o → o ≡ None
unnamed None is = refl
unnamed (Some h) is = absurd (let none : None ≡ Some h.entry = is in cc)

-- what holds of all others holds of all that are left
rest-all : (P : HeldEntry → Type 0) (held : List HeldEntry) (place : ℕ) → place < length held
    → ((i : ℕ) (d : HeldEntry) → i < length held → i ≢ place → P (get_or held i d)) → All P (remove held place)
rest-all P held place inside given = All-from_get_or P (remove held place) (untagged 0) (λ i below. elim (cases_lt i place) [
  | inl low ↦
      subst P (sym (get_or-remove_below held place (untagged 0) i low inside)) (given i (untagged 0) (omega (arith, low, inside)) (λ e. omega (arith, e, low)))
  | inr high ↦
      subst P (sym (get_or-remove_above held place (untagged 0) i high inside))
      (given (i + 1) (untagged 0) (omega (arith, below, length-remove held place inside)) (λ e. omega (arith, e, high)))
])

any-rest : (test : HeldEntry → Bool) (held : List HeldEntry) (place : ℕ) → place < length held → ((d : HeldEntry) → test (get_or held place d) ≡ false)
    → list_any test held ≡ true → list_any test (remove held place) ≡ true
any-rest test [] place inside out is = absurd (omega (arith, inside))
any-rest test (x ∷ xs) zero inside out is = sym (ap (λ t. t || list_any test xs) (out (untagged 0))) ∙ is
any-rest test (x ∷ xs) (suc place) inside out is = by_test (test x) is (λ rest. any-rest test xs place (omega (arith, inside)) out rest)
  where
    by_test : (t : Bool) → (t || list_any test xs) ≡ true → (list_any test xs ≡ true → list_any test (remove xs place) ≡ true) → (t || list_any test (remove xs place)) ≡ true
    by_test true is later = refl
    by_test false is later = later is

-- an entry of the list, by the place where it is
pub any-at : {P : Type 0} (test : HeldEntry → Bool) (held : List HeldEntry) → list_any test held ≡ true
    → ((i : ℕ) → i < length held → test (get_or held i (untagged 0)) ≡ true → P) → P
any-at test [] is at = absurd (true≢false (sym is))
any-at {P} test (x ∷ xs) is at = by_test (test x) refl is (λ rest next. any-at test xs rest next)
  where
    by_test : (t : Bool) → test x ≡ t → (t || list_any test xs) ≡ true
        → (list_any test xs ≡ true → ((i : ℕ) → i < length xs → test (get_or xs i (untagged 0)) ≡ true → P) → P) → P
    by_test true e is later = at 0 (omega arith) e
    by_test false e is later = later is (λ i below passes. at (suc i) (omega (arith, below)) passes)

-- the list without an entry that is dropped no longer, where all others are as before
pub list-without : (bits : ℕ) (e new : EntriesView) (held : List HeldEntry) (h : HeldEntry) (test : HeldEntry → Bool) → IsHeldList bits e held → find test held ≡ Some h
    → new.last ≡ e.last → new.generation ≡ e.generation → ((b : ℕ) → new.mark b ≡ e.mark b) → ((q : ℕ) → q ≢ h.entry → new.state q ≡ e.state q)
    → ((after g : ℕ) → new.state h.entry ≡ Some (Dropped after g) → ⊥) → IsHeldList bits new (without_first test held)
list-without bits e new held h test k found last generation marks states never = subst (IsHeldList bits new) (sym at.rest) (record {
  each = rest-all (λ x. is_in_list bits new x ≡ true) held at.place at.inside (λ i d below ne.
      moved (get_or held i d) (states (get_or held i d).entry (apart i d below ne)) ∙ All-get_or (λ x. is_in_list bits e x ≡ true) held i d below k.each);
  apart = all_pairs_remove (λ a b. a.entry ≢ b.entry) held at.place at.inside k.apart;
  all = λ r after g is. elim (cases_eq r h.entry) [
    | inl same ↦ absurd (never after g (ap new.state (sym same) ∙ is))
    | inr ne ↦
        any-rest (λ (x : HeldEntry). eqb x.entry r) held at.place at.inside (λ d. ap (λ (x : HeldEntry). eqb x.entry r) (at.is d) ∙ ne_eqb h.entry r (λ same. ne (sym same)))
        (k.all r after g (sym (states r ne) ∙ is))
  ];
})
  where
    at : IsAt test held h
    at = found-at test held h found

    apart : (i : ℕ) (d : HeldEntry) → i < length held → i ≢ at.place → (get_or held i d).entry ≢ h.entry
    apart i d below ne same = elim (cases_lt i at.place) [
      | inl low ↦ k.apart i at.place d low at.inside (same ∙ sym (ap (λ (x : HeldEntry). x.entry) (at.is d)))
      | inr high ↦ k.apart at.place i d (omega (arith, high, ne)) below (ap (λ (x : HeldEntry). x.entry) (at.is d) ∙ sym same)
    ]

    moved : (x : HeldEntry) → new.state x.entry ≡ e.state x.entry → is_in_list bits new x ≡ is_in_list bits e x
    moved x is =
        ap (λ n. held_fits n new.generation (new.mark (buffer_of bits x.entry)) x.tag (new.state x.entry)) last
        ∙ ap (λ n. held_fits e.last n (new.mark (buffer_of bits x.entry)) x.tag (new.state x.entry)) generation
        ∙ ap (λ m. held_fits e.last e.generation m x.tag (new.state x.entry)) (marks (buffer_of bits x.entry))
        ∙ ap (λ t. held_fits e.last e.generation (e.mark (buffer_of bits x.entry)) x.tag t) is

-- the first two of three
two-of : (a b c : Bool) → (a && b && c) ≡ true → (a ≡ true) × (b ≡ true)
two-of true true c is = (refl, refl)
two-of true false c is = absurd (true≢false (sym is))
two-of false b c is = absurd (true≢false (sym is))

-- an entry of an active buffer that has a tag below a generation
pub record IsPopped (last oldest : ℕ) (state : Option State) : Type 0 where
  pub after : ℕ
  pub generation : ℕ
  pub is : state ≡ Some (Dropped after generation)
  pub before : after < last
  pub below : generation < oldest

pub popped-tag : (last generation oldest : ℕ) (tag : Option HoldTag) (state : Option State) → tag_fits last generation tag state ≡ true → is_tag_below oldest tag ≡ true
    → IsPopped last oldest state
popped-tag last generation oldest None state fits low = absurd (true≢false (sym low))
popped-tag last generation oldest (Some tag) None fits low = absurd (true≢false (sym fits))
popped-tag last generation oldest (Some tag) (Some Free) fits low = absurd (true≢false (sym fits))
popped-tag last generation oldest (Some tag) (Some Returned) fits low = absurd (true≢false (sym fits))
popped-tag last generation oldest (Some tag) (Some Made) fits low = absurd (true≢false (sym fits))
popped-tag last generation oldest (Some tag) (Some (InUse after)) fits low = absurd (true≢false (sym fits))
popped-tag last generation oldest (Some tag) (Some LetGo) fits low = absurd (true≢false (sym fits))
popped-tag last generation oldest (Some tag) (Some (DroppedNow after)) fits low = absurd (true≢false (sym fits))
popped-tag last generation oldest (Some tag) (Some (Dropped after g)) fits low =
    let parts = two-of (nat_lt after last) (eqb tag.generation g) (eqb tag.commit (suc after)) fits in
    record {
      after = after;
      generation = g;
      is = refl;
      before = ltb-true after last parts.0;
      below = (let same = eqb-true tag.generation g parts.1 in let under = ltb-true tag.generation oldest low in omega (arith, same, under));
    }

-- what has no tag below a generation was dropped under it or later
pub kept-tag : (last generation oldest : ℕ) (tag : Option HoldTag) (after g : ℕ) → oldest ≤ generation → tag_fits last generation tag (Some (Dropped after g)) ≡ true
    → is_tag_below oldest tag ≡ false → oldest ≤ g
kept-tag last generation oldest None after g current fits high =
    (let same = eqb-true g generation (and_parts (eqb after last) (eqb g generation) fits).1 in omega (arith, same, current))
kept-tag last generation oldest (Some tag) after g current fits high =
    let same = eqb-true tag.generation g (two-of (nat_lt after last) (eqb tag.generation g) (eqb tag.commit (suc after)) fits).1 in
    let over = ltb-false tag.generation oldest high in
    omega (arith, same, over)
