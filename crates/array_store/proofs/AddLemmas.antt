-- A record that is made.
use Rattle.std.proofs.Common.{◌≡◌, ℕ, cond, List, length, ap, subst, ◌∙◌, ne_eqb, Result, Ok, Err}
use Rattle.std.proofs.Math.Nat.{pos_of_div-pos}
use Rattle.std.specs.Prelude.{IfOk, OnErr}
use Rattle.image_format.specs.Words.{class_of}
use Rattle.entry_ref.specs.References.{buffer_limit}
use Rattle.entry_ref.specs.Records.{Records}
use Rattle.arena_api.specs.Calls.{padded}
use Rattle.store_api.specs.Ledgers.{Ledger}
use Rattle.store_api.specs.Calls.{MayGiveBack, Makes}
use Rattle.store_api.proofs.UnitLemmas.{makes-turns, made-record, make-here, make-elsewhere, turns-back, back-counts}
use Rattle.array_store.specs.Adding.{AddsRecord, AddsNothing, MakesOneOf}

module _ {H : Type 0} (bits : ℕ) (old new : Ledger H) (m n : Records) (words : List ℕ) where
  adds : (r : ℕ) → Makes bits old new m n (class_of (length words)) words r → AddsRecord bits old new m n words r
  adds r makes = record {
    some = pos_of_div-pos (buffer_limit bits) makes.place.first;
    turns = makes-turns bits old new m n (class_of (length words)) words r makes;
    words_are = made-record bits old new m n (class_of (length words)) words r makes;
    none = makes.none;
    others = λ q ne. ap (λ (f : Records). f q) makes.records ∙ ap (λ b. cond b (padded words (class_of (length words))) (m q)) (ne_eqb q r ne);
    unsealed = makes.unsealed;
  }

  pub adds_record : {E : Type 0} (width : ℕ) (result : Result ℕ E) → width ≡ class_of (length words) → IfOk result (Makes bits old new m n width words)
      → IfOk result (AddsRecord bits old new m n words)
  adds_record width (Ok r) is makes = adds r (subst (λ w. Makes bits old new m n w words r) is makes)
  adds_record width (Err e) is makes = tt

  pub adds_nothing : {E : Type 0} (result : Result ℕ E) → OnErr result (MayGiveBack old new) → OnErr result (n ≡ m) → OnErr result (AddsNothing old new m n)
  adds_nothing (Ok r) back left = tt
  adds_nothing (Err e) back left = record {
    turns = turns-back old new m n back left;
    records = left;
    none_made = λ c w. back-counts old new back c w;
  }

  pub makes_one : {E : Type 0} (width : ℕ) (result : Result ℕ E) → width ≡ class_of (length words) → IfOk result (Makes bits old new m n width words)
      → OnErr result (MayGiveBack old new) → MakesOneOf (class_of (length words)) old new
  makes_one width result is makes back =
      subst (λ w. MakesOneOf w old new) is
      (record { one = make-here bits old new m n width words result makes back; others = make-elsewhere bits old new m n width words result makes back })
