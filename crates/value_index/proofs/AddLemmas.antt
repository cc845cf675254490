-- The walk over the new weights: each is put into its list.
use Rattle.std.proofs.Common.{◌≡◌, ℕ, ℤ, ◌<◌, List, [], ◌∷◌, ◌++◌, length, true, Some, None, refl, sym, ap, subst, ◌∙◌, nat_cmp}
use Rattle.std.specs.BTreeMap.{is_at}
use Rattle.std.specs.List.Sorted.{IsStrictlySortedBy}
use Rattle.std.specs.Map.{keys_of, lookup}
use Rattle.entry_ref.specs.Records.{Records}
use Rattle.store_api.specs.Ledgers.{Ledger}
use Rattle.store_api.specs.Parts.{Owns, Turns}
use Rattle.store_api.specs.Units.{MayDo}
use Rattle.store_api.proofs.May.{may_do-same, may_do-then}
use Rattle.store_api.proofs.PartLemmas.{turns-same, turns-then}
use Rattle.image_format.specs.Postings.{index_of}
use Rattle.image_format.specs.Values.{stored_value}
use Rattle.index_model.proofs.MapLemmas.{IsWalk, walk_put, walk_same, walk_ends}
use Rattle.index_model.specs.Index.{IsFormed, list_of, with_posting}
use Rattle.attr_types.specs.Value.{value_cmp, type_of, AreOfType}
use Rattle.attr_types.specs.declared.kind.ValueType.{ValueType}
use Rattle.attr_types.specs.declared.value.Value.{Value}
use Rattle.value_index.specs.Changes.{KeepsKeys, MakesIndex}
use Rattle.value_index.specs.Flows.{FlowsIndex}
use Rattle.value_index.specs.Indexes.{index_part, IsIndex}
use Rattle.value_index.specs.Laws.{KeyIsRead}
use Rattle.value_index.proofs.IndexFlows.{flows_same, flows_then}
use Rattle.value_index.specs.Walks.{WalksIndex}
use Rattle.value_index.proofs.WalksKeyLemmas.{typed_at, keeps_same, keeps_then, settled_long}

-- the entries before the rest are added
pub record AddsSoFar {H : Type 0} (type : ValueType) (begun now : Ledger H) (k m : Records) (first root doc : ℕ) (entries rest : List (Value × ℤ)) : Type 0 where
  pub unit : now.unit ≡ true
  pub index_is : IsIndex type m root
  pub walk : IsWalk (index_of type k first) doc entries rest (index_of type m root)
  pub keys : KeepsKeys type k m first root
  pub flows : FlowsIndex type begun k m first root
  pub owns : Owns now m (index_part root ∷ [])
  pub turns : Turns begun now k m (index_part first ∷ []) (index_part root ∷ [])
  pub may : MayDo begun now

module _ {H : Type 0} (type : ValueType) (begun : Ledger H) (k : Records) (first doc : ℕ) (entries : List (Value × ℤ)) where
  pub adds_begin : (rest : List (Value × ℤ)) → rest ≡ entries → begun.unit ≡ true → IsIndex type k first → IsFormed (index_of type k first)
      → Owns begun k (index_part first ∷ []) → AddsSoFar type begun begun k k first first doc entries rest
  adds_begin rest is unit index formed owns = record {
    unit = unit;
    index_is = index;
    walk = record { done = []; joins = is; between = record { formed = formed; lists = λ v. refl } };
    keys = keeps_same type k first;
    flows = flows_same type begun k first;
    owns = owns;
    turns = turns-same begun k (index_part first ∷ []);
    may = may_do-same begun;
  }

  module _ (now : Ledger H) (m : Records) (root : ℕ) (rest more : List (Value × ℤ)) (value : Value) (weight : ℤ)
      (up : IsStrictlySortedBy value_cmp (keys_of entries)) (p : AddsSoFar type begun now k m first root doc entries rest) (is : rest ≡ (value, weight) ∷ more) where
    pub adds_typed : AreOfType type (keys_of entries) → type_of value ≡ type
    adds_typed typed = typed_at type p.walk.done more value weight
        (subst (λ (es : List (Value × ℤ)). AreOfType type (keys_of es)) (sym (ap (λ es. p.walk.done ++ es) (sym is) ∙ p.walk.joins)) typed)

    pub adds_put : KeyIsRead → IsIndex type k first → (new : Ledger H) (n : Records) (next : ℕ) → MayDo now new
        → MakesIndex type now new m n root (with_posting value doc weight (index_of type m root)) next
        → AddsSoFar type begun new k n first next doc entries more
    adds_put read index new n next may makes = record {
      unit = may.unit ∙ p.unit;
      index_is = makes.index_is;
      walk = walk_put (index_of type k first) doc entries rest more value weight (index_of type m root) (index_of type n next) up p.walk is makes.reads_as;
      keys = keeps_then type k m n first root next p.keys makes.keys
          (λ ref key listed. subst (λ docs. 0 < length docs) (sym (p.walk.between.lists (stored_value type k ref)))
          (settled_long (lookup (is_at (value_cmp (stored_value type k ref))) p.walk.done) doc (list_of (stored_value type k ref) (index_of type k first)) (read type k first ref index key).filled));
      flows = flows_then type begun now k m n first root next p.may p.flows makes.flows;
      owns = makes.owns;
      turns = turns-then begun now new k m n (index_part first ∷ []) (index_part root ∷ []) (index_part next ∷ []) p.turns makes.turns;
      may = may_do-then begun now new p.may may;
    }

    pub adds_same : lookup (is_at (nat_cmp doc)) (list_of value (index_of type k first)) ≡ Some weight → AddsSoFar type begun now k m first root doc entries more
    adds_same had = record {
      unit = p.unit;
      index_is = p.index_is;
      walk = walk_same (index_of type k first) doc entries rest more value weight (index_of type m root) (index_of type m root) up p.walk is refl had;
      keys = p.keys;
      flows = p.flows;
      owns = p.owns;
      turns = p.turns;
      may = p.may;
    }

  pub adds_end : (now : Ledger H) (m : Records) (root : ℕ) (rest : List (Value × ℤ)) → AddsSoFar type begun now k m first root doc entries rest → rest ≡ []
      → WalksIndex type begun now k m first doc (λ v. lookup (is_at (value_cmp v)) entries) (λ v. None) root
  adds_end now m root rest p is = record {
    index_is = p.index_is;
    between = walk_ends (index_of type k first) doc entries rest (index_of type m root) p.walk is;
    keys = p.keys;
    flows = p.flows;
    owns = p.owns;
    turns = p.turns;
  }
