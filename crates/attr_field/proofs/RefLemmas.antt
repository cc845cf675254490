-- References in lists, and what an attribute owns as two parts.
use Rattle.std.proofs.Common.{◌≡◌, ℕ, [], ◌∷◌, Result, Ok, Err, arith}
use Rattle.std.specs.Prelude.{IfOk}
use Rattle.entry_ref.specs.Records.{Records}
use Rattle.store_api.specs.Ledgers.{Ledger}
use Rattle.store_api.specs.Parts.{Owns, Turns, count_in}
use Rattle.store_api.proofs.PartLemmas.{owns-some, turns-as}
use Rattle.store_api.proofs.Times.{times-append}
use Rattle.attr_field.specs.Documents.{documents_own, documents_part}
use Rattle.attr_types.specs.declared.kind.Kind.{Kind}
use Rattle.value_index.specs.Indexes.{index_part, index_reach}
use Rattle.attr_field.specs.Fields.{field_part}

-- the part of an attribute is that of its documents and that of its index
pub field_count : (kind : Kind) (documents dictionary : ℕ) (m : Records) (r : ℕ) → count_in r m (field_part kind documents dictionary ∷ [])
    ≡ count_in r m (documents_part kind documents ∷ index_part dictionary ∷ [])
field_count kind documents dictionary m r = let e = times-append r (documents_own kind m documents) (index_reach m dictionary) in omega arith

pub field_owns : {H : Type 0} (ledger : Ledger H) (m : Records) (kind : Kind) (documents dictionary : ℕ) → Owns ledger m (field_part kind documents dictionary ∷ [])
    → Owns ledger m (documents_part kind documents ∷ index_part dictionary ∷ [])
field_owns ledger m kind documents dictionary owns =
    owns-some ledger m (field_part kind documents dictionary ∷ []) (documents_part kind documents ∷ index_part dictionary ∷ []) owns
    (λ r. let e = field_count kind documents dictionary m r in omega arith)

pub field_turns : {H : Type 0} (old new : Ledger H) (m n : Records) (kind : Kind) (documents dictionary next_documents next_dictionary : ℕ)
    → Turns old new m n (documents_part kind documents ∷ index_part dictionary ∷ []) (documents_part kind next_documents ∷ index_part next_dictionary ∷ [])
    → Turns old new m n (field_part kind documents dictionary ∷ []) (field_part kind next_documents next_dictionary ∷ [])
field_turns old new m n kind documents dictionary next_documents next_dictionary turns =
    turns-as old new m n (documents_part kind documents ∷ index_part dictionary ∷ []) (documents_part kind next_documents ∷ index_part next_dictionary ∷ [])
    (field_part kind documents dictionary ∷ []) (field_part kind next_documents next_dictionary ∷ []) turns
    (field_count kind documents dictionary m) (field_count kind next_documents next_dictionary n)

-- one of the two parts alone
module _ {H : Type 0} (ledger : Ledger H) (m : Records) (kind : Kind) (documents dictionary : ℕ) (owns : Owns ledger m (documents_part kind documents ∷ index_part dictionary ∷ [])) where
  pub owns_documents : Owns ledger m (documents_part kind documents ∷ [])
  owns_documents = owns-some ledger m (documents_part kind documents ∷ index_part dictionary ∷ []) (documents_part kind documents ∷ []) owns (λ r. omega arith)

  pub owns_index : Owns ledger m (index_part dictionary ∷ [])
  owns_index = owns-some ledger m (documents_part kind documents ∷ index_part dictionary ∷ []) (index_part dictionary ∷ []) owns (λ r. omega arith)

-- what is said of an answer, said otherwise
pub if_ok : {A E : Type 0} (P Q : A → Type 0) (r : Result A E) → IfOk r P → ((a : A) → P a → Q a) → IfOk r Q
if_ok P Q (Ok a) p then_ = then_ a p
if_ok P Q (Err e) p then_ = tt
