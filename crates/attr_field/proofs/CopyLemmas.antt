-- What documents refer to, keys of their index and old copies of keys: through a change, and through one after another.
use Rattle.std.proofs.Common.{ℕ, ◌<◌, ◌≤◌, List, arith, inl, inr}
use Rattle.entry_ref.specs.Records.{Records}
use Rattle.store_api.specs.Ledgers.{Ledger}
use Rattle.store_api.specs.Parts.{Part, Turns, count_in}
use Rattle.store_api.proofs.Uses.{uses-few}
use Rattle.attr_types.specs.declared.kind.Kind.{Kind}
use Rattle.value_index.specs.Indexes.{IsKey}
use Rattle.attr_field.specs.Changes.{KeepsCopies}
use Rattle.attr_field.specs.Fields.{RefersBeside, RefersToKeys}

module _ {H : Type 0} (kind : Kind) where
  -- where all are keys, whatever the parts are
  pub refers_keys : (ledger : Ledger H) (m : Records) (documents dictionary : ℕ) (p : List Part) → RefersToKeys kind m documents dictionary
      → RefersBeside ledger kind m documents dictionary p
  refers_keys ledger m documents dictionary p refers = record { each = λ r among. inl (refers.each r among) }

  -- beside fewer parts
  pub refers_some : (ledger : Ledger H) (m : Records) (documents dictionary : ℕ) (p q : List Part) → RefersBeside ledger kind m documents dictionary p
      → ((r : ℕ) → count_in r m q ≤ count_in r m p) → RefersBeside ledger kind m documents dictionary q
  refers_some ledger m documents dictionary p q refers fewer = record {
    each = λ r among. elim (refers.each r among) [
      | inl key ↦ inl key
      | inr free ↦ inr (let few = fewer r in omega arith)
    ];
  }

  pub keeps_some : (old : Ledger H) (m n : Records) (documents : ℕ) (p q : List Part) (next_documents next_dictionary : ℕ)
      → KeepsCopies old kind m n documents p next_documents next_dictionary → ((r : ℕ) → count_in r m q ≤ count_in r m p)
      → KeepsCopies old kind m n documents q next_documents next_dictionary
  keeps_some old m n documents p q next_documents next_dictionary keeps fewer = record {
    each = λ r among. elim (keeps.each r among) [
      | inl key ↦ inl key
      | inr free ↦ inr (free.0, (let less = free.1 in let few = fewer r in omega arith))
    ];
  }

  -- nothing was done
  pub keeps_same : (ledger : Ledger H) (m : Records) (documents dictionary : ℕ) (p : List Part) → RefersBeside ledger kind m documents dictionary p
      → KeepsCopies ledger kind m m documents p documents dictionary
  keeps_same ledger m documents dictionary p refers = record {
    each = λ r among. elim (refers.each r among) [
      | inl key ↦ inl key
      | inr free ↦ inr (among, free)
    ];
  }

  -- what was an old copy is one still
  pub refers_after : (old new : Ledger H) (m n : Records) (documents next_documents next_dictionary : ℕ) (p q : List Part) → Turns old new m n p q
      → KeepsCopies old kind m n documents p next_documents next_dictionary → RefersBeside new kind n next_documents next_dictionary q
  refers_after old new m n documents next_documents next_dictionary p q turns keeps = record {
    each = λ r among. elim (keeps.each r among) [
      | inl key ↦ inl key
      | inr free ↦ inr (let less = free.1 in let t = turns.balance r in omega arith)
    ];
  }

  -- one change after another: a key of what the first made is no old copy
  pub keeps_then : (begun mid : Ledger H) (k m n : Records) (documents next_documents next_dictionary last_documents last_dictionary : ℕ) (p q : List Part)
      → ((r : ℕ) → IsKey m next_dictionary r → 0 < count_in r m q)
      → KeepsCopies begun kind k m documents p next_documents next_dictionary
      → KeepsCopies mid kind m n next_documents q last_documents last_dictionary
      → KeepsCopies begun kind k n documents p last_documents last_dictionary
  keeps_then begun mid k m n documents next_documents next_dictionary last_documents last_dictionary p q owned one two = record {
    each = λ r among. elim (two.each r among) [
      | inl key ↦ inl key
      | inr free ↦ elim (one.each r free.0) [
        | inl key ↦ (let some = owned r key in let few = uses-few mid r in let less = free.1 in absurd (omega arith))
        | inr was ↦ inr was
      ]
    ];
  }
