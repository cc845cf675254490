-- The document after an operation.
use Rattle.std.proofs.Common.{◌≡◌, Bool, ℕ, cond, List, Option, Some, None, sym, ap, subst, ◌∙◌}
use Rattle.std.proofs.lemmas.Cmp.{nat_cmp_total, tied_itself}
use Rattle.std.specs.Option.{is_none, unwrap_or}
use Rattle.std.specs.Ordering.{is_eq}
use Rattle.store_api.specs.declared.store.StoreError.{StoreError}
use Rattle.store_api.specs.declared.store.StoreError.TheVariants as errors
use Rattle.attr_types.proofs.EntryLemmas.{lookup-remove}
use Rattle.attr_types.proofs.TableLemmas.{Sound, put_is_there}
use Rattle.attr_types.specs.Table.{Table, after_op, document_at, step, with_document, without_document}
use Rattle.attr_types.specs.Value.{Document}
use Rattle.attr_types.specs.declared.field.Field.{Field}
use Rattle.attr_types.specs.declared.op.Op.{Op}
use Rattle.attr_types.specs.declared.op.Op.TheVariants.{Put}
use Rattle.attr_operations.specs.Counts.{document_after, document_before}
use Rattle.attr_operations.specs.Widths.{IsChangedWidth, IsFullAmong, IsOperationWidth}

-- ---- the document after an operation
module _ (fields : List Field) (table : Table) where
  pub put_after : (doc : ℕ) (items : Document) → Some items ≡ document_after fields table (Put doc items)
  put_after doc items = sym (put_is_there table doc items)

  pub with_after : (op : Op) (doc : ℕ) (document : Document) → step fields table op ≡ Some (with_document table doc document)
      → Some document ≡ document_at (after_op fields table op) doc
  with_after op doc document is = sym (ap (λ (o : Option Table). document_at (unwrap_or o table) doc) is ∙ put_is_there table doc document)

  pub without_after : (op : Op) (doc : ℕ) → Sound fields table → step fields table op ≡ Some (without_document table doc)
      → None ≡ document_at (after_op fields table op) doc
  without_after op doc sound is =
      sym (ap (λ (o : Option Table). document_at (unwrap_or o table) doc) is ∙ lookup-remove nat_cmp_total table doc doc sound.0.ascends
      ∙ ap (λ r. cond (is_eq r) None (document_at table doc)) (tied_itself nat_cmp_total doc))

-- ---- a bound by the documents before and after is one by the operation
module _ (fields : List Field) (table : Table) (op : Op) (before after : Option Document) (was : before ≡ document_before table op) (is : after ≡ document_after fields table op) where
  pub of_operation : (P : Option Document → Option Document → Type 0) → P before after → P (document_before table op) (document_after fields table op)
  of_operation P p = subst (λ (d : Option Document). P (document_before table op) d) is (subst (λ (d : Option Document). P d after) was p)

  -- of which width it was refused, by the table after it
  pub width_after : (dense : Bool) (next : Table) (e : StoreError) → step fields table op ≡ Some next → IsFullAmong (IsChangedWidth dense fields next before after) e → IsFullAmong
      (IsOperationWidth dense fields table op) e
  width_after dense next (errors.Full width active held oldest) made full = record {
    changes = ap (λ (o : Option Table). is_none o) made;
    is =
        subst (λ (t : Table). IsChangedWidth dense fields t (document_before table op) (document_after fields table op) width) (sym (ap (λ (o : Option Table). unwrap_or o table) made))
        (of_operation (λ was is. IsChangedWidth dense fields next was is width) full);
  }
  width_after dense next errors.Memory made full = tt
