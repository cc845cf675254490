-- What an attribute takes over of another: nothing was done, a change of the index or of the documents, and one after another.
use Rattle.std.proofs.Common.{ℕ, List, inl, inr}
use Rattle.std.specs.List.{AllByRecursion}
use Rattle.entry_ref.proofs.Among.{Among-all}
use Rattle.entry_ref.specs.Records.{Records, SameAt}
use Rattle.store_api.specs.Ledgers.{Ledger}
use Rattle.store_api.specs.Units.{MayDo}
use Rattle.tree_read.specs.Trees.{tree_nodes}
use Rattle.attr_field.specs.Documents.{documents_own}
use Rattle.attr_field.specs.DocumentsFlows.{own_at, FlowsDocuments}
use Rattle.attr_field.proofs.DocumentsFlowLemmas.{documents_flow_stay}
use Rattle.store_api.proofs.Flows.{began-then, comes-then}
use Rattle.attr_types.specs.declared.kind.Kind.{Kind}
use Rattle.attr_types.specs.declared.kind.ValueType.{ValueType}
use Rattle.value_index.specs.Flows.{FlowsIndex}
use Rattle.value_index.specs.Indexes.{index_reach, IsKey}
use Rattle.value_index.proofs.IndexFlows.{flows_same, flows_stay, flows_then}
use Rattle.attr_field.specs.Flows.{FlowsField}

module _ {H : Type 0} (kind : Kind) (type : ValueType) (a : Ledger H) where
  pub field_flows_same : (m : Records) (documents dictionary : ℕ) → FlowsField kind type a m m documents dictionary documents dictionary
  field_flows_same m documents dictionary = record {
    index = flows_same type a m dictionary;
    nodes = λ r began among. among;
    own = λ doc r began among. among;
    refer = λ doc r began among. inl among;
  }

  -- the index is another
  pub field_flows_index : (m n : Records) (documents dictionary next : ℕ) → SameAt (documents_own kind m documents) m n
      → FlowsIndex type a m n dictionary next → FlowsField kind type a m n documents dictionary documents next
  field_flows_index m n documents dictionary next same index =
      let stay = documents_flow_stay kind a m n documents same in
      record {
        index = index;
        nodes = stay.nodes;
        own = stay.own;
        refer = λ doc r began among. elim (stay.refer doc r among) [
          | inl was ↦ inl was
          | inr none ↦ absurd none
        ];
      }

  -- the documents are others
  pub field_flows_documents : (m n : Records) (documents dictionary next : ℕ) (keys : List ℕ) → SameAt (index_reach m dictionary) m n
      → AllByRecursion (IsKey m dictionary) keys → FlowsDocuments kind a m n documents keys next → FlowsField kind type a m n documents dictionary next dictionary
  field_flows_documents m n documents dictionary next keys same are flows = record {
    index = flows_stay type a m n dictionary same;
    nodes = flows.nodes;
    own = flows.own;
    refer = λ doc r began among. elim (flows.refer doc r among) [
      | inl was ↦ inl was
      | inr given ↦ inr (Among-all (IsKey m dictionary) keys are r given)
    ];
  }

  pub field_flows_then : (b : Ledger H) (k m n : Records) (documents dictionary mid_documents mid_dictionary last_documents last_dictionary : ℕ) → MayDo a b
      → FlowsField kind type a k m documents dictionary mid_documents mid_dictionary
      → FlowsField kind type b m n mid_documents mid_dictionary last_documents last_dictionary
      → FlowsField kind type a k n documents dictionary last_documents last_dictionary
  field_flows_then b k m n documents dictionary mid_documents mid_dictionary last_documents last_dictionary may one two = record {
    index = flows_then type a b k m n dictionary mid_dictionary last_dictionary may one.index two.index;
    nodes = comes-then a b (tree_nodes k documents) (tree_nodes m mid_documents) (tree_nodes n last_documents) may one.nodes two.nodes;
    own = λ doc. comes-then a b (own_at kind k documents doc) (own_at kind m mid_documents doc) (own_at kind n last_documents doc) may (one.own doc) (two.own doc);
    refer = λ doc r began among. elim (two.refer doc r (began-then a b may r began) among) [
      | inl mid ↦ one.refer doc r began mid
      | inr key ↦ inr (one.index.keys r began key)
    ];
  }
