use Rattle.std.proofs.Common.{ℕ, List, sym, ap, ◌∙◌, option_map}
use Rattle.std.specs.Prelude.{ℤ, Vec}
use Rattle.std.specs.List.{find}
use Rattle.std.specs.Ordering.{is_eq}
use Rattle.std.specs.declared.alloc.Global.{Global}
use Rattle.attr_types.specs.Value.{value_cmp}
use Rattle.attr_types.specs.declared.items.Item.{Item}
use Rattle.check_images.proofs.ValueLemmas.{document_more, document_none}
use Rattle.check_images.proofs.dictionary.documents_with.Goals as goal
use Rattle.check_images.proofs.dictionary.documents_with.Goals.{in-Some+in_ok-push, in_default}

pub loop-entry-preserved : goal.loop-entry-preserved
loop-entry-preserved c =
    let value = c.args.value.now in
    let e = c.entry-item.result in
    let told = c.document_with.ensures ∙ ap (λ (xs : List Item). option_map {U = ℕ × ℤ} (λ (item : Item). (e.0, item.weight)) (find (λ (item : Item). is_eq (value_cmp value item.value)) xs)) c.as_slice.ensures in
    elim c.match-document_with.branch [
      | in-Some+in_ok-push w ↦
          document_more value c.args.column.now c.loop-entry.entry-index e c.loop-entry-test.true c.entry-item.is c.loop-entry.list.items c.match-document_with.list.items w.in-Some.pair
          (sym told ∙ w.in-Some.is) c.loop-entry.invariant (ap (λ (v : Vec (ℕ × ℤ) Global). v.items) w.list-is ∙ w.in_ok-push.ensures.items)
      | in_default w ↦
          ap (λ (v : Vec (ℕ × ℤ) Global). v.items) w.list-is
          ∙ document_none value c.args.column.now c.loop-entry.entry-index e c.loop-entry-test.true c.entry-item.is c.loop-entry.list.items (sym told ∙ w.in_default.is) c.loop-entry.invariant
    ]
