-- The attributes and the last commit's root record are what the store has in use: through an operation.
use Rattle.std.proofs.Common.{◌≡◌, ℕ, ◌<◌, ◌≤◌, [], ◌∷◌, Bool, true, false, Some, inl, inr, true≢false, List, sym, ap, subst, ◌∙◌, arith}
use Rattle.std.specs.List.{AllByRecursion}
use Rattle.entry_ref.specs.References.{buffer_of}
use Rattle.entry_ref.specs.Records.{Records, Among}
use Rattle.store_api.specs.Ledgers.{Ledger, is_this}
use Rattle.store_api.specs.Parts.{OwnsAll, Part, Turns, count_in, entries, uses}
use Rattle.store_api.specs.Statuses.{in_use}
use Rattle.store_api.proofs.Uses.{in-uses, uses-same, back_uses}
use Rattle.image_format.specs.Tables.{AttributeTrees, attributes_reach}
use Rattle.attr_field.specs.Fields.{RefersToKeys}
use Rattle.attr_field.specs.Laws.{FieldReaches}
use Rattle.attr_types.specs.declared.field.Field.{Field}
use Rattle.attr_operations.specs.Calls.{KeepsStore, LeavesEntries}
use Rattle.array_store.specs.Roots.{root_entries}
use Rattle.attr_operations.specs.Fields.{AllReferBeside, AreFields, HoldsAttributes, IsFieldAt, MakesUnsealed, OwnsFields, StillRefer, parts_of}
use Rattle.attr_operations.proofs.Columns.{FieldLaws}
use Rattle.attr_operations.proofs.Committing.{apart_from, finished_this, reach_before, reached_used}
use Rattle.attr_operations.proofs.Referring.{RefersAt, all_weaker}

-- the parts of the attributes alone
pub holds_owns : {H : Type 0} (bits : ℕ) (ledger : Ledger H) (m : Records) (fields : List Field) (trees : List AttributeTrees) (root : ℕ)
    → HoldsAttributes bits ledger m fields trees root → OwnsFields ledger m trees
holds_owns bits ledger m fields trees root holds = record {
  owns = record { each = λ r. let all = holds.owns.each r in omega arith };
  refer = all_weaker ledger ledger m trees (entries (root_entries root) ∷ parts_of trees) (parts_of trees) holds.refer (λ r less. omega arith);
}

-- where no buffer is sealed, attributes and root record are exactly what is in use, and all that documents refer to are keys
pub holds_all : {H : Type 0} (bits : ℕ) (ledger : Ledger H) (m : Records) (fields : List Field) (trees : List AttributeTrees) (root : ℕ)
    → HoldsAttributes bits ledger m fields trees root → ((b : ℕ) → ledger.sealed b ≡ false) → OwnsAll ledger m (entries (root_entries root) ∷ parts_of trees)
holds_all bits ledger m fields trees root holds unsealed = record {
  each = λ r. let few = holds.owns.each r in let most = holds.owns.all r (unsealed (buffer_of bits r)) in omega arith;
}

one_key : {H : Type 0} (ledger : Ledger H) (m : Records) (a : AttributeTrees) (parts : List Part) → RefersAt ledger m parts a → OwnsAll ledger m parts
    → RefersToKeys a.kind m a.documents a.dictionary
one_key ledger m a parts refers all = record {
  each = λ r among. elim (refers.each r among) [
    | inl key ↦ key
    | inr out ↦ (let same = all.each r in absurd (omega arith))
  ];
}

pub keys_all : {H : Type 0} (ledger : Ledger H) (m : Records) (trees : List AttributeTrees) (parts : List Part) → AllReferBeside ledger m trees parts → OwnsAll ledger m parts
    → AllByRecursion (λ (a : AttributeTrees). RefersToKeys a.kind m a.documents a.dictionary) trees
keys_all ledger m [] parts refer all = tt
keys_all ledger m (a ∷ trees) parts refer all = (one_key ledger m a parts refer.0 all, keys_all ledger m trees parts refer.1 all)

-- a buffer that is not sealed was not sealed before
unsealed_before : {H : Type 0} (old new : Ledger H) (b : ℕ) → KeepsStore old new → new.sealed b ≡ false → old.sealed b ≡ false
unsealed_before old new b keeps unsealed = ap (λ (s : ℕ → Bool). s b) (sym keeps.sealed) ∙ unsealed

-- the finished buffer is sealed, by what a store's laws say
pub record IsSealedFinished {H : Type 0} (bits : ℕ) (ledger : Ledger H) : Type 0 where
  pub bits_are : ledger.bits ≡ bits
  pub sealed : (b : ℕ) → ledger.finished ≡ Some b → ledger.sealed b ≡ true

none_beside : {H : Type 0} (ledger : Ledger H) (m : Records) (trees : List AttributeTrees) → AllReferBeside ledger m trees (parts_of trees)
    → AllReferBeside ledger m trees (entries [] ∷ parts_of trees)
none_beside ledger m trees refer = all_weaker ledger ledger m trees (parts_of trees) (entries [] ∷ parts_of trees) refer (λ r less. omega arith)

reach_used : (laws : FieldLaws) (reaches : FieldReaches) {H : Type 0} (bits : ℕ) (ledger : Ledger H) (m : Records) (trees : List AttributeTrees) → AllByRecursion (IsFieldAt m) trees
    → ((r : ℕ) → count_in r m (parts_of trees) ≤ uses ledger r) → AllReferBeside ledger m trees (entries [] ∷ parts_of trees) → (r : ℕ) → Among r (attributes_reach m trees)
    → 0 < uses ledger r
reach_used laws reaches bits ledger m trees each few refer r among =
    let most = few r in
    elim (reached_used reaches m r laws ledger (entries [] ∷ parts_of trees) trees each refer among) [
      | inl own ↦ omega arith
      | inr out ↦ omega arith
    ]

-- the attributes turned into others, beside the root record
pub holds_turned : {H : Type 0} (bits : ℕ) (old new : Ledger H) (m n : Records) (fields : List Field) (trees next : List AttributeTrees) (root : ℕ)
    → FieldLaws → FieldReaches → IsSealedFinished bits old → HoldsAttributes bits old m fields trees root → AreFields n fields next → Turns old new m n (parts_of trees) (parts_of next)
    → StillRefer old new m n trees next → MakesUnsealed old new → KeepsStore old new → HoldsAttributes bits new n fields next root
holds_turned bits old new m n fields trees next root laws reaches finished holds are turns refer unsealed keeps = record {
  are_fields = are;
  owns = record {
    each = λ r. let all = holds.owns.each r in let t = turns.balance r in omega arith;
    all = λ r unsealed. let most = holds.owns.all r (unsealed_before old new (buffer_of bits r) keeps unsealed) in let t = turns.balance r in omega arith;
  };
  refer = refer (root_entries root) holds.refer;
  unit = keeps.unit ∙ holds.unit;
  apart = λ r among. ap (λ f. is_this f (buffer_of bits r)) keeps.finished ∙ apart_from old.finished (buffer_of bits r) (λ is.
      let owns = holds_owns bits old m fields trees root holds in
      let few : (q : ℕ) → count_in q n (parts_of next) ≤ uses new q = λ q. let all = holds.owns.each q in let t = turns.balance q in omega arith in
      let sealed : old.sealed (buffer_of old.bits r) ≡ true = ap (λ (k : ℕ). old.sealed (buffer_of k r)) finished.bits_are ∙ finished.sealed (buffer_of bits r) is in
      let used : in_use (new.status r) ≡ true = in-uses new r (reach_used laws reaches bits new n next are.each few (refer [] (none_beside old m trees owns.refer)) r among) in
      let live = unsealed.each r used sealed in
      let was = reach_before laws reaches old new m n trees next holds.are_fields.each owns.refer are.each few turns refer r live among in
      true≢false (sym (finished_this old.finished (buffer_of bits r) is) ∙ holds.apart r was));
}

-- nothing was changed
left_uses : {H : Type 0} (old new : Ledger H) (m n : Records) → LeavesEntries old new m n → (r : ℕ) → uses new r ≡ uses old r
left_uses old new m n left r = uses-same old new r (back_uses (old.status r) (new.status r) (left.status r))

pub holds_left : {H : Type 0} (bits : ℕ) (old new : Ledger H) (m n : Records) (fields : List Field) (trees : List AttributeTrees) (root : ℕ)
    → HoldsAttributes bits old m fields trees root → LeavesEntries old new m n → KeepsStore old new → HoldsAttributes bits new n fields trees root
holds_left bits old new m n fields trees root holds left keeps = record {
  are_fields = subst (λ f. AreFields f fields trees) (sym left.records) holds.are_fields;
  owns = record {
    each = λ r.
        let all = holds.owns.each r in
        let count = ap (λ (f : Records). count_in r f (parts_of trees)) left.records in
        let same = left_uses old new m n left r in
        omega arith;
    all = λ r unsealed.
        let most = holds.owns.all r (unsealed_before old new (buffer_of bits r) keeps unsealed) in
        let count = ap (λ (f : Records). count_in r f (parts_of trees)) left.records in
        let same = left_uses old new m n left r in
        omega arith;
  };
  refer = subst (λ (f : Records). AllReferBeside new f trees (entries (root_entries root) ∷ parts_of trees)) (sym left.records)
      (all_weaker old new m trees (entries (root_entries root) ∷ parts_of trees) (entries (root_entries root) ∷ parts_of trees) holds.refer
      (λ r less. let same = left_uses old new m n left r in omega arith));
  unit = keeps.unit ∙ holds.unit;
  apart = λ r among. ap (λ f. is_this f (buffer_of bits r)) keeps.finished
      ∙ holds.apart r (subst (λ (f : Records). Among r (attributes_reach f trees)) left.records among);
}
