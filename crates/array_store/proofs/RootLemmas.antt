-- A root record made in place of the one before.
use Rattle.std.proofs.Common.{◌≡◌, ℕ, zero, suc, ◌<◌, Bool, List, [], ◌∷◌, refl, sym, ap, subst, ◌∙◌, arith}
use Rattle.entry_ref.specs.References.{buffer_of}
use Rattle.entry_ref.specs.Records.{Records}
use Rattle.store_api.specs.Ledgers.{Ledger, capacity}
use Rattle.store_api.specs.Parts.{Part, Owns, Turns, After, entries, entry}
use Rattle.store_api.specs.Units.{MakesAtMost}
use Rattle.store_api.proofs.Counts.{at_most-then}
use Rattle.store_api.proofs.PartLemmas.{after, owns-some, turns-then}
use Rattle.array_store.specs.Adding.{AddsRecord, MakesOneOf}
use Rattle.array_store.specs.Roots.{MakesRootRecord, root_entries}

-- ---- the entry of a root record, if there is one
pub entries_some : (root : ℕ) → 0 < root → root_entries root ≡ root ∷ []
entries_some zero some = absurd (omega arith)
entries_some (suc root) some = refl

pub entries_none : (root : ℕ) → ¬ (0 < root) → root_entries root ≡ []
entries_none zero no_one = refl
entries_none (suc root) no_one = absurd (no_one (omega arith))

abbrev pub roots_part : ℕ → List Part
roots_part root = entries (root_entries root) ∷ []

module _ {H : Type 0} (old new : Ledger H) (m n : Records) (root : ℕ) where
  pub owns_root : 0 < root → Owns old m (entries (root_entries root) ∷ []) → Owns old m (entry root ∷ [])
  owns_root some owns = subst (λ refs. Owns old m (entries refs ∷ [])) (entries_some root some) owns

  pub drops_root : 0 < root → Turns old new m n (entry root ∷ []) [] → Turns old new m n (entries (root_entries root) ∷ []) []
  drops_root some turns = subst (λ refs. Turns old new m n (entries refs ∷ []) []) (sym (entries_some root some)) turns

pub drops_nothing : {H : Type 0} (old : Ledger H) (m : Records) (root : ℕ) → ¬ (0 < root) → Turns old old m m (entries (root_entries root) ∷ []) []
drops_nothing old m root no_one =
    subst (λ refs. Turns old old m m (entries refs ∷ []) []) (sym (entries_none root no_one))
    (record { kept = λ r h. refl; balance = λ r. omega arith })

-- ---- a record made, and the one before dropped
module _ {H : Type 0} (bits : ℕ) (old mid new : Ledger H) (m k n : Records) (words : List ℕ) (before root : ℕ)
    (owns : Owns old m (entries (root_entries before) ∷ [])) (adds : AddsRecord bits old mid m k words root) where
  both : After old mid m k (entries (root_entries before) ∷ []) (entry root ∷ entries (root_entries before) ∷ []) (entries (root_entries before) ∷ [])
  both = after old mid m k [] (entry root ∷ []) (roots_part before) (roots_part before) (entry root ∷ entries (root_entries before) ∷ []) owns adds.turns (λ k r. omega arith) (λ k r. omega arith)

  pub owns_still : Owns mid k (entries (root_entries before) ∷ [])
  owns_still = owns-some mid k (entry root ∷ entries (root_entries before) ∷ []) (roots_part before) both.owns (λ r. omega arith)

  module _ (drops : Turns mid new k n (entries (root_entries before) ∷ []) []) (sealed : new.sealed ≡ mid.sealed) where
    alone : After mid new k n (entry root ∷ entries (root_entries before) ∷ []) (entry root ∷ []) (entry root ∷ [])
    alone = after mid new k n (roots_part before) [] (entry root ∷ []) (entry root ∷ entries (root_entries before) ∷ []) (entry root ∷ []) both.owns drops (λ k r. omega arith) (λ k r. omega arith)

    pub makes_root : MakesRootRecord bits old new m n words before root
    makes_root = record {
      some = adds.some;
      words_are = alone.stay.0.0 ∙ adds.words_are;
      unsealed = ap (λ (s : ℕ → Bool). s (buffer_of bits root)) sealed ∙ adds.unsealed;
      turns = subst (λ refs. Turns old new m n (entries (root_entries before) ∷ []) (entries refs ∷ [])) (sym (entries_some root adds.some))
          (turns-then old mid new m k n (roots_part before) (entry root ∷ entries (root_entries before) ∷ []) (entry root ∷ []) both.turns alone.turns);
    }

-- ---- what is dropped afterwards makes nothing
pub one_dropped : {H : Type 0} (width : ℕ) (a b c : Ledger H) → MakesOneOf width a b → ((k w : ℕ) → MakesAtMost k 0 (b.of_width w) (c.of_width w)) → MakesOneOf width a c
one_dropped width a b c made none = record {
  one = at_most-then (capacity a.work.sizes.words width) 1 0 (a.of_width width) (b.of_width width) (c.of_width width) made.one (none (capacity a.work.sizes.words width) width);
  others = λ k w other. at_most-then k 0 0 (a.of_width w) (b.of_width w) (c.of_width w) (made.others k w other) (none k w);
}
