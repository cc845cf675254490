use Rattle.std.specs.Prelude.{◌≡◌, ℕ, false}
use Rattle.std.specs.BTreeMap.{get}
use Rattle.image_format.specs.Postings.{index_of}
use Rattle.attr_types.specs.Value.{value_cmp}
use Rattle.index_model.specs.Index.{list_of}
use Rattle.attr_types.specs.declared.value.Value.{Value}
use Rattle.value_index.specs.Counts.{is_gone, taken_forms, taken_records, value_nodes, RemovesLow}
use Rattle.value_index.specs.Forms.{IsPlainIndex}
use Rattle.value_index.proofs.WalksCountLemmas.{CountsSoFar}
use Rattle.value_index.proofs.RemoveLemmas.{RemovesSoFar}
use Rattle.value_index.proofs.walks_removing.remove_all.Given as goal

-- the entries so far are taken out, and what that made is counted
abbrev pub invariant-loop-value : goal.invariant-loop-value
invariant-loop-value g l =
    let ledger = g.S.Store.ledger in
    let records = g.S.Frozen.records in
    let lists = λ (value : Value). list_of value (index_of l.fn.value_type (records l.fn.store) l.fn.root) in
    let each = taken_records lists l.doc in
    let form = taken_forms l.dense lists l.doc in
    record {
      removes : RemovesSoFar l.fn.value_type (ledger l.fn.store) (ledger l.store) (records l.fn.store) (records l.store) l.fn.root l.next l.doc (get value_cmp l.new) l.old.entries l.value-iterator;
      plain : l.dense ≡ false → IsPlainIndex (records l.store) l.next;
      counts : CountsSoFar 34 each form (ledger l.fn.store) (ledger l.store) (is_gone (get value_cmp l.new)) l.old.entries l.value-iterator;
      low : (levels : ℕ) → RemovesLow levels (index_of l.fn.value_type (records l.fn.store) l.fn.root) l.doc (get value_cmp l.new) l.old.entries
          → CountsSoFar (value_nodes levels) each form (ledger l.fn.store) (ledger l.store) (is_gone (get value_cmp l.new)) l.old.entries l.value-iterator;
    }
