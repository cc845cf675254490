-- What a structure owns of a store, and how a call changes it. This is all that structures need in order to share a
-- store.
use Rattle.std.specs.Prelude.{◌≡◌, ℕ, ◌+◌, ◌<◌, ◌≤◌, List, [], ◌∷◌, nat_eq, if◌then◌else◌, refl}
use Rattle.entry_ref.specs.Records.{Records, SameAt}
use Rattle.store_api.specs.Statuses.{in_use}
use Rattle.store_api.specs.Ledgers.{Ledger}

-- how often a reference occurs in a list
abbrev pub times : ℕ → List ℕ → ℕ
times r [] = 0
times r (q ∷ qs) = (if nat_eq r q then 1 else 0) + times r qs

-- no reference occurs twice in a list
abbrev pub EachOnce : List ℕ → Type 0
EachOnce refs = (r : ℕ) → times r refs ≤ 1

-- 1 if an entry is in use, otherwise 0
abbrev pub uses : {H : Type 0} → Ledger H → ℕ → ℕ
uses ledger r = if in_use (ledger.status r) then 1 else 0

-- a structure, by the references that it owns; they depend only on their own records
pub record Part : Type 0 where
  pub reach : Records → List ℕ
  pub stays : (m n : Records) → SameAt (reach m) m n → reach n ≡ reach m

-- one record
abbrev pub entry : ℕ → Part
entry ref = record { reach = λ m. ref ∷ []; stays = λ m n same. refl }

-- a fixed list of records
abbrev pub entries : List ℕ → Part
entries refs = record { reach = λ m. refs; stays = λ m n same. refl }

-- how often the parts own a reference
abbrev pub count_in : ℕ → Records → List Part → ℕ
count_in r m [] = 0
count_in r m (part ∷ parts) = times r (part.reach m) + count_in r m parts

-- each record that the parts own is the same in both
abbrev pub AllStay : List Part → Records → Records → Type 0
AllStay [] m n = Unit {0}
AllStay (part ∷ parts) m n = SameAt (part.reach m) m n × AllStay parts m n

-- what the parts own is in use, and owned once
pub record Owns {H : Type 0} (ledger : Ledger H) (m : Records) (parts : List Part) : Type 0 where
  pub each : (r : ℕ) → count_in r m parts ≤ uses ledger r

-- the parts own all that is in use
pub record OwnsAll {H : Type 0} (ledger : Ledger H) (m : Records) (parts : List Part) : Type 0 where
  pub each : (r : ℕ) → count_in r m parts ≡ uses ledger r

-- parts are replaced by others: whatever else is in use stays in use, with its record, and nothing else comes into
-- use
pub record Turns {H : Type 0} (old new : Ledger H) (m n : Records) (parts next : List Part) : Type 0 where
  pub kept : (r : ℕ) → count_in r m parts < uses old r → n r ≡ m r
  pub balance : (r : ℕ) → uses new r + count_in r m parts ≡ uses old r + count_in r n next

-- the parts after a call: they are owned, they replace the parts before, and the rest is unchanged
pub record After {H : Type 0} (old new : Ledger H) (m n : Records) (parts next rest : List Part) : Type 0 where
  pub owns : Owns new n next
  pub turns : Turns old new m n parts next
  pub stay : AllStay rest m n
