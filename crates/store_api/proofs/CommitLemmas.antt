-- What is in use and owned after a commit.
use Rattle.std.proofs.Common.{◌≡◌, ℕ, zero, suc, ◌<◌, List, [], ◌∷◌, length, Bool, true, false, cond, refl, sym, ap, subst, ◌∙◌, arith, inl, inr, nat_eq, Some, ◌⊎◌, true≢false}
use Rattle.std.proofs.lemmas.Bool.{cases_Bool, cases_eq, ne_eqb, ltb-true, lt-ltb}
use Rattle.std.specs.Option.{unwrap_or}
use Rattle.std.specs.Map.{lookup}
use Rattle.list_lemmas.specs.Counting.{one_if}
use Rattle.entry_ref.specs.References.{buffer_of}
use Rattle.entry_ref.specs.declared.images.Image.{Image}
use Rattle.entry_ref.specs.Images.{image_of, words_at}
use Rattle.entry_ref.specs.Records.{Records, SameAt, AllThere, Among, pairs_of}
use Rattle.entry_ref.proofs.Pairs.{pairs-same, words-among, there-among}
use Rattle.arena_api.specs.Works.{Tag}
use Rattle.store_api.specs.Statuses.{Status, in_use, after_commit}
use Rattle.store_api.specs.Ledgers.{Ledger, is_in, is_this}
use Rattle.store_api.specs.Calls.{IsWhole, StoresCommit}
use Rattle.store_api.specs.declared.store.Stored.{Stored}
use Rattle.store_api.specs.Parts.{Part, times, uses, count_in, OwnsAll}
use Rattle.store_api.proofs.Times.{among-times, times-among, absent-times}
use Rattle.store_api.proofs.Uses.{uses-in, in-uses, uses-few, commit_uses, commit_unused, below_uses}

-- an image has a record of what it was made of alone
words-from : (refs : List ℕ) (m : Records) (root r : ℕ) → 0 < length (words_at (image_of refs m root) r) → Among r refs
words-from [] m root r some = absurd (omega arith)
words-from (q ∷ qs) m root r some = elim (cases_eq r q) [
  | inl e ↦ inl e
  | inr ne ↦ inr (words-from qs m root r (subst (λ b. 0 < length (unwrap_or (cond b (Some (m q)) (lookup (nat_eq r) (pairs_of qs m))) [])) (ne_eqb r q ne) some))
]

pub in-among : (refs : List ℕ) (m : Records) (root r : ℕ) → is_in (image_of refs m root) r ≡ true → Among r refs
in-among refs m root r e = words-from refs m root r (ltb-true _ _ e)

pub among-in : (refs : List ℕ) (m : Records) (root r : ℕ) → AllThere refs m → Among r refs → is_in (image_of refs m root) r ≡ true
among-in refs m root r there among = lt-ltb _ _ (subst (λ ws. 0 < length ws) (sym (words-among refs m root r among)) (there-among refs m r there among))

committed-uses : (gone has : Bool) (tag : Tag) (status : Status) → (has ≡ true → in_use status ≡ true) → (has ≡ true → gone ≡ false)
    → in_use (cond gone Status.unmade (after_commit tag has status)) ≡ has
committed-uses true true tag status used apart = absurd (true≢false (apart refl))
committed-uses true false tag status used apart = refl
committed-uses false true tag status used apart = commit_uses tag true status (used refl)
committed-uses false false tag status used apart = elim (cases_Bool (in_use status)) [
  | inl e ↦ commit_uses tag false status e
  | inr e ↦ commit_unused tag false status e
]

-- in use after a commit is what its image has
pub commit-uses : {H : Type 0} (bits : ℕ) (old new : Ledger H) (image : Image) (answer : Stored) → StoresCommit bits old new image answer
    → (r : ℕ) → (is_in image r ≡ true → in_use (old.status r) ≡ true) → (is_in image r ≡ true → is_this old.finished (buffer_of bits r) ≡ false)
    → uses new r ≡ one_if (is_in image r)
commit-uses bits old new image answer stores r used apart =
    ap one_if (ap in_use (stores.status r) ∙ below_uses _ _ ∙ committed-uses (is_this old.finished (buffer_of bits r)) (is_in image r) _ (old.status r) used apart)

-- what is all that is in use, but for some in sealed buffers, can be committed
pub whole-from : {H : Type 0} (bits : ℕ) (old : Ledger H) (m : Records) (part : Part) (rest : List Part) → OwnsAll old m (part ∷ rest)
    → ((r : ℕ) → 0 < count_in r m rest → old.sealed (buffer_of bits r) ≡ true) → ((r : ℕ) → Among r (part.reach m) → is_this old.finished (buffer_of bits r) ≡ false)
    → IsWhole bits old (part.reach m)
whole-from bits old m part rest all sealed apart = record {
  used = λ r among. let some = among-times r (part.reach m) among in let e = all.each r in in-uses old r (omega arith);
  all = λ r used unsealed.
      let is = uses-in old r used in let e = all.each r in
      elim (none_or (count_in r m rest)) [
        | inl none ↦ times-among r (part.reach m) (omega arith)
        | inr some ↦ absurd (true≢false (sym (sealed r some) ∙ unsealed))
      ];
  apart = apart;
}
  where
    none_or : (n : ℕ) → (n ≡ 0) ⊎ (0 < n)
    none_or zero = inl refl
    none_or (suc n) = inr (omega arith)

-- a part that is committed is all that is in use then, with its records
module _ {H : Type 0} (bits : ℕ) (old new : Ledger H) (m : Records) (part : Part) (rest : List Part) (root : ℕ) (answer : Stored)
    (all : OwnsAll old m (part ∷ rest)) (whole : IsWhole bits old (part.reach m)) (there : AllThere (part.reach m) m)
    (stores : StoresCommit bits old new (image_of (part.reach m) m root) answer) where
  abbrev image : Image
  image = image_of (part.reach m) m root

  pub commit-same : SameAt (part.reach m) m (words_at image)
  commit-same = pairs-same (part.reach m) m

  has-uses : (r : ℕ) → uses new r ≡ one_if (is_in image r)
  has-uses r =
      commit-uses bits old new image answer stores r (λ e. whole.used r (in-among (part.reach m) m root r e)) (λ e. whole.apart r (in-among (part.reach m) m root r e))

  times-in : (r : ℕ) → times r (part.reach m) ≡ one_if (is_in image r)
  times-in r = elim (cases_Bool (is_in image r)) [
    | inl e ↦ (let some = among-times r (part.reach m) (in-among (part.reach m) m root r e) in let few = uses-few old r in let h = all.each r in
        let one : one_if (is_in image r) ≡ 1 = ap one_if e in omega arith)
    | inr e ↦ absent-times r (part.reach m) (λ among. true≢false (sym (among-in (part.reach m) m root r there among) ∙ e)) ∙ sym (ap one_if e)
  ]

  pub commit-owns : OwnsAll new (words_at image) (part ∷ [])
  commit-owns = record {
    each = λ r. let same = ap (times r) (part.stays m (words_at image) commit-same) in let a = times-in r in let b = has-uses r in omega arith;
  }
