-- Refusals of changes that make entries of several widths.
use Rattle.std.proofs.Common.{◌≡◌, ℕ, true, Result, Ok, Err, sym, subst, arith}
use Rattle.std.specs.Prelude.{IfErr}
use Rattle.store_api.specs.Calls.{Refuses, RefusesOf, IsFull}
use Rattle.store_api.specs.Ledgers.{Ledger, is_width}
use Rattle.store_api.specs.Units.{MayDo}
use Rattle.store_api.specs.declared.store.StoreError.{StoreError}
use Rattle.store_api.specs.declared.store.StoreError.TheVariants.{Full, Memory}

-- of other widths, after calls that may be made in a unit
pub of_more : {H : Type 0} (few more : ℕ → Type 0) (a b c : Ledger H) (e : StoreError) → MayDo a b → ((w : ℕ) → few w → more w) → RefusesOf few b c e → RefusesOf more a c e
of_more few more a b c (Full w active held oldest) may rises refuses = record {
  one = rises w refuses.one;
  is = refuses.is;
  full = record {
    spare = refuses.full.spare;
    made = refuses.full.made;
    free = refuses.full.free;
    active_is = refuses.full.active_is;
    held_is = refuses.full.held_is;
    all = refuses.full.all;
    unread = refuses.full.unread;
    generation = refuses.full.generation;
    hold = refuses.full.hold;
    newest = refuses.full.newest;
    stopped = λ old. let s = refuses.full.stopped old in let rises = may.stops in (s.0, s.1, omega arith);
    found = refuses.full.found;
  };
}
of_more few more a b c Memory may rises refuses = tt

-- of one width
one_of : {H : Type 0} (width : ℕ) (a b : Ledger H) (e : StoreError) → is_width width ≡ true → Refuses a b width e → RefusesOf (λ w. w ≡ width) a b e
one_of width a b (Full w active held oldest) is refuses = record {
  one = refuses.0;
  is = subst (λ v. is_width v ≡ true) (sym refuses.0) is;
  full = subst (λ v. IsFull a b v active held oldest) (sym refuses.0) refuses.1;
}
one_of width a b Memory is refuses = tt

pub of_one : {H : Type 0} (among : ℕ → Type 0) (a b c : Ledger H) (width : ℕ) (e : StoreError) → MayDo a b → is_width width ≡ true → among width → Refuses b c width e
    → RefusesOf among a c e
of_one among a b c width e may is one refuses = of_more (λ w. w ≡ width) among a b c e may (λ w same. subst among (sym same) one) (one_of width b c e is refuses)

-- where a call was refused
pub if_more : {A H : Type 0} (few more : ℕ → Type 0) (a b c : Ledger H) (answer : Result A StoreError) → MayDo a b → ((w : ℕ) → few w → more w) → IfErr answer (RefusesOf few b c)
    → IfErr answer (RefusesOf more a c)
if_more few more a b c (Ok x) may rises refuses = tt
if_more few more a b c (Err e) may rises refuses = of_more few more a b c e may rises refuses

pub if_one : {A H : Type 0} (among : ℕ → Type 0) (a b c : Ledger H) (width : ℕ) (answer : Result A StoreError) → MayDo a b → is_width width ≡ true → among width
    → IfErr answer (Refuses b c width) → IfErr answer (RefusesOf among a c)
if_one among a b c width (Ok x) may is one refuses = tt
if_one among a b c width (Err e) may is one refuses = of_one among a b c width e may is one refuses
