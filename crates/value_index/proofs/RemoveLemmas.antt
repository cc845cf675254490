-- The walk over the old weights: the document is taken out of the lists of those values that have no new weight.
use Rattle.std.proofs.Common.{◌≡◌, ℕ, ℤ, ◌<◌, List, [], ◌∷◌, ◌++◌, length, true, IsSome, Option, Some, None, refl, sym, ap, subst, ◌∙◌, nat_cmp}
use Rattle.std.specs.BTreeMap.{is_at}
use Rattle.std.specs.List.Sorted.{IsStrictlySortedBy}
use Rattle.std.specs.Map.{keys_of, lookup}
use Rattle.entry_ref.specs.Records.{Records}
use Rattle.store_api.specs.Ledgers.{Ledger}
use Rattle.store_api.specs.Parts.{Owns, Turns}
use Rattle.store_api.specs.Units.{MayDo}
use Rattle.store_api.proofs.May.{may_do-same, may_do-then}
use Rattle.store_api.proofs.PartLemmas.{turns-same, turns-then}
use Rattle.image_format.specs.Postings.{index_of}
use Rattle.image_format.specs.Values.{stored_value}
use Rattle.index_model.proofs.MapLemmas.{IsWalkBack, back_begins, back_there, back_take, back_stay, back_ends}
use Rattle.index_model.specs.Changes.{first_given}
use Rattle.index_model.specs.Index.{IsFormed, list_of, without_posting}
use Rattle.attr_types.specs.Value.{value_cmp, type_of, AreOfType}
use Rattle.attr_types.specs.declared.kind.ValueType.{ValueType}
use Rattle.attr_types.specs.declared.value.Value.{Value}
use Rattle.value_index.specs.Changes.{KeepsKeys, MakesIndex}
use Rattle.value_index.specs.Flows.{FlowsIndex}
use Rattle.value_index.specs.Indexes.{index_part, IsIndex}
use Rattle.value_index.proofs.IndexFlows.{flows_same, flows_then}
use Rattle.value_index.specs.Walks.{WalksIndex}
use Rattle.value_index.proofs.WalksKeyLemmas.{typed_at, keeps_same, keeps_then, without_long}

-- the entries before the rest are taken out, where they have no new weight
pub record RemovesSoFar {H : Type 0} (type : ValueType) (begun now : Ledger H) (k m : Records) (first root doc : ℕ) (added : Value → Option ℤ)
    (entries rest : List (Value × ℤ)) : Type 0 where
  pub unit : now.unit ≡ true
  pub index_is : IsIndex type m root
  pub walk : IsWalkBack (index_of type k first) doc added entries rest (index_of type m root)
  pub keys : KeepsKeys type k m first root
  pub flows : FlowsIndex type begun k m first root
  pub owns : Owns now m (index_part root ∷ [])
  pub turns : Turns begun now k m (index_part first ∷ []) (index_part root ∷ [])
  pub may : MayDo begun now

-- what the index has of the document at first
abbrev pub HasBothAt : ValueType → Records → ℕ → ℕ → (Value → Option ℤ) → List (Value × ℤ) → Type 0
HasBothAt type k first doc added entries = (v : Value)
    → lookup (is_at (nat_cmp doc)) (list_of v (index_of type k first)) ≡ first_given (added v) (lookup (is_at (value_cmp v)) entries)

-- the document is in the list of a value
abbrev pub IsThere : ValueType → Records → ℕ → ℕ → Value → Type 0
IsThere type m root doc value = IsSome (lookup (is_at (nat_cmp doc)) (list_of value (index_of type m root)))

module _ {H : Type 0} (type : ValueType) (begun : Ledger H) (k : Records) (first doc : ℕ) (added : Value → Option ℤ) (entries : List (Value × ℤ)) where
  pub removes_begin : (rest : List (Value × ℤ)) → rest ≡ entries → begun.unit ≡ true → IsIndex type k first → IsFormed (index_of type k first)
      → Owns begun k (index_part first ∷ []) → HasBothAt type k first doc added entries
      → RemovesSoFar type begun begun k k first first doc added entries rest
  removes_begin rest is unit index formed owns has = record {
    unit = unit;
    index_is = index;
    walk = back_begins (index_of type k first) doc added entries rest is formed has;
    keys = keeps_same type k first;
    flows = flows_same type begun k first;
    owns = owns;
    turns = turns-same begun k (index_part first ∷ []);
    may = may_do-same begun;
  }

  module _ (now : Ledger H) (m : Records) (root : ℕ) (rest more : List (Value × ℤ)) (value : Value) (weight : ℤ)
      (up : IsStrictlySortedBy value_cmp (keys_of entries)) (p : RemovesSoFar type begun now k m first root doc added entries rest) (is : rest ≡ (value, weight) ∷ more) where
    pub removes_typed : AreOfType type (keys_of entries) → type_of value ≡ type
    removes_typed typed = typed_at type p.walk.done more value weight
        (subst (λ (es : List (Value × ℤ)). AreOfType type (keys_of es)) (sym (ap (λ es. p.walk.done ++ es) (sym is) ∙ p.walk.joins)) typed)

    pub removes_there : HasBothAt type k first doc added entries → added value ≡ None → IsThere type m root doc value
    removes_there has gone = back_there (index_of type k first) doc added entries rest more value weight (index_of type m root) (index_of type m root) up p.walk is has gone

    pub removes_take : added value ≡ None → (new : Ledger H) (n : Records) (next : ℕ) → MayDo now new
        → MakesIndex type now new m n root (without_posting value doc (index_of type m root)) next
        → RemovesSoFar type begun new k n first next doc added entries more
    removes_take gone new n next may makes = record {
      unit = may.unit ∙ p.unit;
      index_is = makes.index_is;
      walk = back_take (index_of type k first) doc added entries rest more value weight (index_of type m root) (index_of type n next) up p.walk is makes.reads_as gone;
      keys = keeps_then type k m n first root next p.keys makes.keys
          (λ ref key listed. without_long value doc (index_of type m root) p.walk.between.formed (stored_value type k ref)
          (subst (λ index. 0 < length (list_of (stored_value type k ref) index)) makes.reads_as listed));
      flows = flows_then type begun now k m n first root next p.may p.flows makes.flows;
      owns = makes.owns;
      turns = turns-then begun now new k m n (index_part first ∷ []) (index_part root ∷ []) (index_part next ∷ []) p.turns makes.turns;
      may = may_do-then begun now new p.may may;
    }

    pub removes_stay : (other : ℤ) → added value ≡ Some other → RemovesSoFar type begun now k m first root doc added entries more
    removes_stay other stays = record {
      unit = p.unit;
      index_is = p.index_is;
      walk = back_stay (index_of type k first) doc added entries rest more value weight (index_of type m root) (index_of type m root) up p.walk is other refl stays;
      keys = p.keys;
      flows = p.flows;
      owns = p.owns;
      turns = p.turns;
      may = p.may;
    }

  pub removes_end : (now : Ledger H) (m : Records) (root : ℕ) (rest : List (Value × ℤ)) → RemovesSoFar type begun now k m first root doc added entries rest → rest ≡ []
      → WalksIndex type begun now k m first doc added (λ v. lookup (is_at (value_cmp v)) entries) root
  removes_end now m root rest p is = record {
    index_is = p.index_is;
    between = back_ends (index_of type k first) doc added entries rest (index_of type m root) p.walk is;
    keys = p.keys;
    flows = p.flows;
    owns = p.owns;
    turns = p.turns;
  }
