use Rattle.std.proofs.Common.{◌≡◌, ◌≢◌, ◌∷◌, ◌++◌, List, [], drop, sym, ap, subst, ◌∙◌, arith, true≢false, Some, IsSome}
use Rattle.std.specs.BTreeMap.{insert_entry, is_at}
use Rattle.std.specs.List.{AllByRecursion}
use Rattle.std.specs.Map.{lookup}
use Rattle.std.specs.Ordering.{nat_cmp}
use Rattle.tree_read.specs.Trees.{tree_pairs}
use Rattle.tree_read.specs.SearchPlaces.{IsAt, first_key, pairs_from}
use Rattle.doc_vector.specs.Documents.{IsDocumentPair}
use Rattle.attr_field.specs.Documents.{IsDocuments}
use Rattle.image_format.specs.Documents.{column_at}
use Rattle.index_model.specs.Columns.{column_of}
use Rattle.attr_types.specs.declared.items.Item.{Item}
use Rattle.attr_rounds.proofs.ColumnLemmas.{put_more, there_is, column_ascends, first_number, others, read_pairs}
use Rattle.attr_rounds.proofs.reading.documents_in.Goals as goal

-- the cursor stands at a document of the column
pub push_document-requires : goal.push_document-requires
push_document-requires g c =
    let kind = c.args.kind in
    let type = c.args.value_type in
    let m = g.F.Frozen.records c.args.frozen.now in
    let before = c.loop-alloc.invariant in
    let ps = pairs_from m c.loop-alloc.cursor in
    let some : ps ≢ [] = λ none. true≢false (sym ((c.at_end.ensures.pairs m before.at).1 none) ∙ c.loop-alloc-test.true) in
    let key = c.key.ensures m before.at in
    let least = first_number ps some before.numbers in
    let made = c.new-doc.ensures in
    let doc : c.new-doc.result ≡ first_key ps = omega (arith, key, least, made) in
    let documents = subst (λ (f : g.row.F.Denot). IsDocuments kind type (g.F.Frozen.records f) c.args.root) (sym before.same) c.requires in
    let there = subst (λ (f : g.row.F.Denot). IsSome (lookup (is_at (nat_cmp c.new-doc.result)) (column_at kind type (g.F.Frozen.records f) c.args.root))) (sym before.same)
    (there_is kind type m c.loop-alloc.documents.entries ps (column_at kind type m c.args.root) c.new-doc.result some doc
    (column_ascends kind type m (tree_pairs m c.args.root) c.requires.map_is.tree_is.ascends) before.whole) in
    (omega arith, (documents, there))

pub loop-alloc-preserved : goal.loop-alloc-preserved
loop-alloc-preserved g c =
    let kind = c.args.kind in
    let type = c.args.value_type in
    let m = g.F.Frozen.records c.args.frozen.now in
    let before = c.loop-alloc.invariant in
    let ps = pairs_from m c.loop-alloc.cursor in
    let column = column_at kind type m c.args.root in
    let moved = c.push_document.ensures.same ∙ before.same in
    let some : ps ≢ [] = λ none. true≢false (sym ((c.at_end.ensures.pairs m before.at).1 none) ∙ c.loop-alloc-test.true) in
    let key = c.key.ensures m before.at in
    let least = first_number ps some before.numbers in
    let made = c.new-doc.ensures in
    let doc : c.new-doc.result ≡ first_key ps = omega (arith, key, least, made) in
    let put = subst (λ (f : g.row.F.Denot). (items : List Item) → lookup (is_at (nat_cmp c.new-doc.result)) (column_at kind type (g.F.Frozen.records f) c.args.root) ≡ Some items
    → c.push_document.new.documents.entries ≡ insert_entry nat_cmp c.loop-alloc.documents.entries c.new-doc.result (items ∷ [])) before.same c.in_ok-push_document.ensures.put in
    let rest = subst (λ (f : g.row.F.Denot). pairs_from (g.F.Frozen.records f) c.next.new.self ≡ drop 1 (pairs_from (g.F.Frozen.records f) c.loop-alloc.cursor)) moved c.next.ensures.pairs in
    record {
      same = c.next.ensures.same ∙ moved;
      at = subst (λ (f : g.row.F.Denot). IsAt (g.F.Frozen.records f) c.next.new.self) moved c.next.ensures.at;
      numbers = subst (AllByRecursion IsDocumentPair) (sym rest) (others ps before.numbers);
      whole = ap (λ qs. column_of 0 c.push_document.new.documents.entries ++ read_pairs kind type m qs) rest
          ∙ put_more kind type m c.loop-alloc.documents.entries c.push_document.new.documents.entries ps column c.new-doc.result some doc
          (column_ascends kind type m (tree_pairs m c.args.root) c.requires.map_is.tree_is.ascends) before.whole put;
    }
