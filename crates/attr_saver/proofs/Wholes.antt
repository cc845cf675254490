-- Whole documents and whole saves: what is read is what was written, and what was written is read again.
use Rattle.std.proofs.Common.{◌≡◌, ℕ, ◌-◌, ◌^◌, ◌<◌, ◌≤◌, Bool, true, false, cond, ltb, leb, eqb, ◌&&◌, List, [], ◌∷◌, ◌++◌, length, Some, None, Result, Ok, Err, refl, sym, ap, subst, ◌∙◌}
use Rattle.std.proofs.Common.{append_assoc, arith}
use Rattle.std.specs.Int.{w16, w32, to_be_bytes}
use Rattle.std.specs.List.{flat_map}
use Rattle.std.proofs.lemmas.Bool.{ltb-false, ltb-true, le-ltb, lt-ltb, eqb-true, leb-true, le-leb}
use Rattle.std.proofs.lemmas.List.{append-nil, nil_from_length}
use Rattle.attr_types.specs.Lawful.{last_doc}
use Rattle.attr_types.specs.declared.items.Item.{Item}
use Rattle.attr_types.specs.declared.kind.Kind.{Kind}
use Rattle.attr_types.specs.declared.kind.Kind.TheVariants.{Single, Array, WeightedSet}
use Rattle.attr_types.specs.declared.kind.ValueType.{ValueType}
use Rattle.attr_saver.specs.Bytes.{item_bytes, document_bytes, saved_bytes, form_bytes, head_bytes, magic, kind_byte, type_byte}
use Rattle.attr_saver.specs.Fields.{◌>>=◌, bad, read_number, read_magic, read_kind, read_type, read_count, read_item, read_items, read_doc, most_by_kind, read_item_count, read_document, read_documents}
use Rattle.attr_saver.specs.Fields.{read_fields, with_offset, read_of}
use Rattle.attr_saver.specs.Laws.{AreBytes}
use Rattle.attr_saver.specs.Lawful.{IsLawfulSaved}
use Rattle.attr_saver.specs.declared.saved.Saved.{Saved}
use Rattle.attr_saver.specs.declared.saved.SavedDocument.{SavedDocument}
use Rattle.attr_saver.proofs.Columns.{DocumentFits, column_lawful, column_chain, column_few}
use Rattle.attr_saver.proofs.FieldLemmas.{bind_ok, ok_is, unless_ok, where_ok, Takes, Takes-then, wide16, wide32, number_takes, number_again}
use Rattle.attr_saver.proofs.FieldLemmas.{magic_takes, kind_takes, kind_again, type_takes, type_again, count_takes, count_again}
use Rattle.attr_saver.proofs.Rows.{row_takes, row_again}
use Rattle.attr_saver.proofs.SaveLemmas.{ItemFits, item_takes, item_again}

-- ---- documents

and_true : (a b : Bool) → (a && b) ≡ true → (a ≡ true) × (b ≡ true)
and_true true b e = (refl, e)
and_true false b e = absurd cc

doc_takes : (before : ℕ) (bytes : List ℕ) (x : ℕ × List ℕ) → AreBytes bytes → read_doc before bytes ≡ Ok x
    → Takes bytes (to_be_bytes w32 x.0) x.1 × (before < x.0) × (x.0 ≤ last_doc)
unfolding read_doc
doc_takes before bytes x fits e =
    let a = bind_ok (read_number w32 bytes) (λ doc. cond (ltb before doc.0 && leb doc.0 last_doc) (Ok doc) (bad bytes)) x e in
    let g = where_ok (ltb before a.0.0 && leb a.0.0 last_doc) (length bytes) a.0 x a.2 in
    let both = and_true (ltb before a.0.0) (leb a.0.0 last_doc) g.0 in
    let t = number_takes w32 (2 ^ 32) wide32 bytes a.0 fits a.1 in
    subst (λ (y : ℕ × List ℕ). Takes bytes (to_be_bytes w32 y.0) y.1 × (before < y.0) × (y.0 ≤ last_doc)) g.1 (t.0, ltb-true _ _ both.0, leb-true _ _ both.1)

doc_again : (before doc : ℕ) (rest : List ℕ) → before < doc → doc ≤ last_doc → read_doc before (to_be_bytes w32 doc ++ rest) ≡ Ok (doc, rest)
unfolding read_doc
doc_again before doc rest above within =
    rw (number_again w32 (2 ^ 32) wide32 doc rest (omega (arith, within)), lt-ltb before doc above, le-leb doc last_doc within) refl

item_count_takes : (kind : Kind) (bytes : List ℕ) (x : ℕ × List ℕ) → AreBytes bytes → read_item_count kind bytes ≡ Ok x
    → Takes bytes (to_be_bytes w16 x.0) x.1 × (x.0 ≤ most_by_kind kind)
unfolding read_item_count
item_count_takes kind bytes x fits e =
    let a = bind_ok (read_number w16 bytes) (λ count. cond (ltb (most_by_kind kind) count.0) (bad bytes) (Ok count)) x e in
    let g = unless_ok (ltb (most_by_kind kind) a.0.0) (length bytes) a.0 x a.2 in
    let t = number_takes w16 (2 ^ 16) wide16 bytes a.0 fits a.1 in
    subst (λ (y : ℕ × List ℕ). Takes bytes (to_be_bytes w16 y.0) y.1 × (y.0 ≤ most_by_kind kind)) g.1 (t.0, ltb-false _ _ g.0)

small_count : (kind : Kind) (n : ℕ) → n ≤ most_by_kind kind → n < 2 ^ 16
small_count Single n le = omega (arith, le)
small_count Array n le = omega (arith, le)
small_count WeightedSet n le = omega (arith, le)

item_count_again : (kind : Kind) (n : ℕ) (rest : List ℕ) → n ≤ most_by_kind kind → read_item_count kind (to_be_bytes w16 n ++ rest) ≡ Ok (n, rest)
unfolding read_item_count
item_count_again kind n rest le = rw (number_again w16 (2 ^ 16) wide16 n rest (small_count kind n le), le-ltb (most_by_kind kind) n le) refl

abbrev TakesDocument : Kind → ValueType → ℕ → List ℕ → (SavedDocument × List ℕ) → Type 0
TakesDocument kind type before bytes x = Takes bytes (document_bytes kind x.0) x.1 × DocumentFits kind type before x.0

document_takes : (kind : Kind) (type : ValueType) (before : ℕ) (bytes : List ℕ) (x : SavedDocument × List ℕ) → AreBytes bytes
    → read_document kind type before bytes ≡ Ok x → TakesDocument kind type before bytes x
unfolding read_document
document_takes kind type before bytes x fits e =
    let d = bind_ok (read_doc before bytes) (λ doc. read_item_count kind doc.1 >>= λ count. read_items kind type count.0 None count.1 >>= λ items. Ok (record { doc = doc.0; items = items.0 }, items.1)) x e in
    let n = bind_ok (read_item_count kind d.0.1) (λ count. read_items kind type count.0 None count.1 >>= λ items. Ok (record { doc = d.0.0; items = items.0 }, items.1)) x d.2 in
    let i = bind_ok (read_items kind type n.0.0 None n.0.1) (λ items. Ok (record { doc = d.0.0; items = items.0 }, items.1)) x n.2 in
    let doc = doc_takes before bytes d.0 fits d.1 in
    let count = item_count_takes kind d.0.1 n.0 doc.0.rest_fits n.1 in
    let items = row_takes (read_item kind type) (λ (item : Item). Some item.value) (ItemFits kind type) (item_bytes kind) (item_takes kind type) n.0.0 None n.0.1 i.0 count.0.rest_fits i.1 in
    let counted : Takes d.0.1 (to_be_bytes w16 (length i.0.0)) n.0.1 = subst (λ (len : ℕ). Takes d.0.1 (to_be_bytes w16 len) n.0.1) (sym items.1) count.0 in
    let end = Takes-then d.0.1 (to_be_bytes w16 (length i.0.0)) n.0.1 (flat_map (item_bytes kind) i.0.0) i.0.1 counted items.0 in
    let both = Takes-then bytes (to_be_bytes w32 d.0.0) d.0.1 (to_be_bytes w16 (length i.0.0) ++ flat_map (item_bytes kind) i.0.0) i.0.1 doc.0 end in
    let made : SavedDocument × List ℕ = (record { doc = d.0.0; items = i.0.0 }, i.0.1) in
    let few : length i.0.0 ≤ most_by_kind kind = omega (arith, items.1, count.1) in
    subst (TakesDocument kind type before bytes) (ok_is made x i.2) (both, record { above = doc.1; within = doc.2; few = few; items = items.2 })

document_again : (kind : Kind) (type : ValueType) (before : ℕ) (document : SavedDocument) (rest : List ℕ) → DocumentFits kind type before document
    → read_document kind type before (document_bytes kind document ++ rest) ≡ Ok (document, rest)
unfolding read_document
document_again kind type before document rest fits =
    let doc = to_be_bytes w32 document.doc in
    let count = to_be_bytes w16 (length document.items) in
    let items = flat_map (item_bytes kind) document.items in
    let regrouped : document_bytes kind document ++ rest ≡ to_be_bytes w32 document.doc ++ (to_be_bytes w16 (length document.items) ++ (flat_map (item_bytes kind) document.items ++ rest)) =
    append_assoc doc (count ++ items) rest ∙ ap (λ (bytes : List ℕ). doc ++ bytes) (append_assoc count items rest) in
    ap (read_document kind type before) regrouped
    ∙ rw (
      doc_again before document.doc (count ++ (items ++ rest)) fits.above fits.within,
      item_count_again kind (length document.items) (items ++ rest) fits.few,
      row_again (read_item kind type) (λ (item : Item). Some item.value) (ItemFits kind type) (item_bytes kind) (item_again kind type) document.items None rest fits.items,
    ) refl

-- ---- a whole save

ended_ok : {A : Type 0} (rest : List ℕ) (a x : A) → cond (eqb (length rest) 0) (Ok a) (bad rest) ≡ Ok x → (rest ≡ []) × (a ≡ x)
ended_ok rest a x e =
    let g = where_ok (eqb (length rest) 0) (length rest) a x e in
    (nil_from_length rest (eqb-true _ _ g.0), g.1)

-- what a save is of, field by field
abbrev IsSave : List ℕ → Saved → Type 0
IsSave bytes saved = IsLawfulSaved saved × (bytes ≡ saved_bytes saved)

head_parts : (kind : Kind) (type : ValueType) (operations documents : ℕ) (rest : List ℕ)
    → head_bytes kind type operations documents ++ rest
    ≡ magic ++ ((kind_byte kind ∷ []) ++ ((type_byte type ∷ []) ++ (to_be_bytes w32 operations ++ (to_be_bytes w32 documents ++ rest))))
unfolding head_bytes form_bytes
head_parts kind type operations documents rest =
    append_assoc (magic ++ kind_byte kind ∷ type_byte type ∷ []) (to_be_bytes w32 operations ++ to_be_bytes w32 documents) rest
    ∙ ap (λ (bytes : List ℕ). (magic ++ kind_byte kind ∷ type_byte type ∷ []) ++ bytes) (append_assoc (to_be_bytes w32 operations) (to_be_bytes w32 documents) rest)

saved_takes : (bytes : List ℕ) (saved : Saved) → AreBytes bytes → read_fields bytes ≡ Ok saved → IsSave bytes saved
unfolding read_fields
saved_takes bytes saved fits e =
    let m = bind_ok (read_magic bytes) (λ start. read_kind start >>= λ kind. read_type kind.1 >>= λ type. read_number w32 type.1 >>= λ operations. read_count operations.1 >>= λ count.
    read_documents kind.0 type.0 count.0 0 count.1 >>= λ documents. cond (eqb (length documents.1) 0)
    (Ok (record { kind = kind.0; value = type.0; operations = operations.0; table = documents.0 })) (bad documents.1)) saved e in
    let k = bind_ok (read_kind m.0) (λ kind. read_type kind.1 >>= λ type. read_number w32 type.1 >>= λ operations. read_count operations.1 >>= λ count.
    read_documents kind.0 type.0 count.0 0 count.1 >>= λ documents. cond (eqb (length documents.1) 0)
    (Ok (record { kind = kind.0; value = type.0; operations = operations.0; table = documents.0 })) (bad documents.1)) saved m.2 in
    let t = bind_ok (read_type k.0.1) (λ type. read_number w32 type.1 >>= λ operations. read_count operations.1 >>= λ count.
    read_documents k.0.0 type.0 count.0 0 count.1 >>= λ documents. cond (eqb (length documents.1) 0)
    (Ok (record { kind = k.0.0; value = type.0; operations = operations.0; table = documents.0 })) (bad documents.1)) saved k.2 in
    let o = bind_ok (read_number w32 t.0.1) (λ operations. read_count operations.1 >>= λ count.
    read_documents k.0.0 t.0.0 count.0 0 count.1 >>= λ documents. cond (eqb (length documents.1) 0)
    (Ok (record { kind = k.0.0; value = t.0.0; operations = operations.0; table = documents.0 })) (bad documents.1)) saved t.2 in
    let c = bind_ok (read_count o.0.1) (λ count.
    read_documents k.0.0 t.0.0 count.0 0 count.1 >>= λ documents. cond (eqb (length documents.1) 0)
    (Ok (record { kind = k.0.0; value = t.0.0; operations = o.0.0; table = documents.0 })) (bad documents.1)) saved o.2 in
    let d = bind_ok (read_documents k.0.0 t.0.0 c.0.0 0 c.0.1) (λ documents. cond (eqb (length documents.1) 0)
    (Ok (record { kind = k.0.0; value = t.0.0; operations = o.0.0; table = documents.0 })) (bad documents.1)) saved c.2 in
    let kind = k.0.0 in
    let type = t.0.0 in
    let documents = d.0.0 in
    let made : Saved = record { kind = k.0.0; value = t.0.0; operations = o.0.0; table = d.0.0 } in
    let end = ended_ok d.0.1 made saved d.2 in
    let t0 = magic_takes bytes m.0 fits m.1 in
    let t1 = kind_takes m.0 k.0 t0.rest_fits k.1 in
    let t2 = type_takes k.0.1 t.0 t1.rest_fits t.1 in
    let t3 = number_takes w32 (2 ^ 32) wide32 t.0.1 o.0 t2.rest_fits o.1 in
    let t4 = count_takes o.0.1 c.0 t3.0.rest_fits c.1 in
    let t5 = row_takes (read_document k.0.0 t.0.0) (λ (document : SavedDocument). document.doc) (DocumentFits k.0.0 t.0.0) (document_bytes k.0.0)
    (document_takes k.0.0 t.0.0) c.0.0 0 c.0.1 d.0 t4.0.rest_fits d.1 in
    let column = column_lawful k.0.0 t.0.0 d.0.0 t5.2 in
    let rows = flat_map (document_bytes k.0.0) d.0.0 in
    let last : c.0.1 ≡ rows = t5.0.parts ∙ ap (λ (rest : List ℕ). rows ++ rest) end.0 ∙ append-nil rows in
    let counted : o.0.1 ≡ to_be_bytes w32 (length d.0.0) ++ rows =
    t4.0.parts ∙ ap (λ (rest : List ℕ). to_be_bytes w32 c.0.0 ++ rest) last ∙ ap (λ (n : ℕ). to_be_bytes w32 n ++ rows) (sym t5.1) in
    let whole : bytes ≡ magic ++ ((kind_byte k.0.0 ∷ []) ++ ((type_byte t.0.0 ∷ []) ++ (to_be_bytes w32 o.0.0 ++ (to_be_bytes w32 (length d.0.0) ++ rows)))) =
    t0.parts ∙ ap (λ (rest : List ℕ). magic ++ rest) (t1.parts ∙ ap (λ (rest : List ℕ). (kind_byte k.0.0 ∷ []) ++ rest) (t2.parts ∙
    ap (λ (rest : List ℕ). (type_byte t.0.0 ∷ []) ++ rest) (t3.0.parts ∙ ap (λ (rest : List ℕ). to_be_bytes w32 o.0.0 ++ rest) counted))) in
    subst (IsSave bytes) end.1 (
      record { operations = t3.1; column = column.0; storable = column.1 },
      whole ∙ sym (head_parts k.0.0 t.0.0 o.0.0 (length d.0.0) rows),
    )

saved_again : (saved : Saved) → IsLawfulSaved saved → read_fields (saved_bytes saved) ≡ Ok saved
unfolding read_fields
saved_again saved lawful =
    let rows = flat_map (document_bytes saved.kind) saved.table in
    let chain = column_chain saved.kind saved.value saved.table lawful.column lawful.storable in
    let few : length saved.table ≤ last_doc = column_few saved.kind saved.value saved.table lawful.column in
    let count = to_be_bytes w32 (length saved.table) in
    let operations = to_be_bytes w32 saved.operations in
    let read : read_documents saved.kind saved.value (length saved.table) 0 rows ≡ Ok (saved.table, []) =
    ap (read_documents saved.kind saved.value (length saved.table) 0) (sym (append-nil rows))
    ∙ row_again (read_document saved.kind saved.value) (λ (document : SavedDocument). document.doc) (DocumentFits saved.kind saved.value) (document_bytes saved.kind)
    (document_again saved.kind saved.value) saved.table 0 [] chain in
    ap read_fields (head_parts saved.kind saved.value saved.operations (length saved.table) rows)
    ∙ rw (
      kind_again saved.kind ((type_byte saved.value ∷ []) ++ (operations ++ (count ++ rows))),
      type_again saved.value (operations ++ (count ++ rows)),
      number_again w32 (2 ^ 32) wide32 saved.operations (count ++ rows) lawful.operations,
      count_again (length saved.table) rows few,
      read,
    ) refl

placed_ok : {A : Type 0} (len : ℕ) (r : Result A ℕ) (a : A) → with_offset len r ≡ Ok a → r ≡ Ok a
placed_ok len (Ok x) a e = e
placed_ok len (Err left) a e = absurd cc

pub read_ok : (bytes : List ℕ) (saved : Saved) → read_fields bytes ≡ Ok saved → read_of bytes ≡ Ok saved
unfolding read_of
read_ok bytes saved e = ap (with_offset (length bytes)) e

pub read_bad : (bytes : List ℕ) (left : ℕ) → read_fields bytes ≡ Err left → read_of bytes ≡ Err (length bytes - left)
unfolding read_of
read_bad bytes left e = ap (with_offset (length bytes)) e

pub reads_saves : (bytes : List ℕ) (saved : Saved) → AreBytes bytes → read_of bytes ≡ Ok saved → IsLawfulSaved saved × (bytes ≡ saved_bytes saved)
unfolding read_of
reads_saves bytes saved fits e = saved_takes bytes saved fits (placed_ok (length bytes) (read_fields bytes) saved e)

pub read_again : (saved : Saved) → IsLawfulSaved saved → read_of (saved_bytes saved) ≡ Ok saved
unfolding read_of
read_again saved lawful = ap (with_offset (length (saved_bytes saved))) (saved_again saved lawful)

pub saves_differ : (one other : Saved) → IsLawfulSaved one → IsLawfulSaved other → saved_bytes one ≡ saved_bytes other → one ≡ other
saves_differ one other lawful_one lawful_other same =
    ok_is one other (sym (read_again one lawful_one) ∙ (ap read_of same ∙ read_again other lawful_other))
