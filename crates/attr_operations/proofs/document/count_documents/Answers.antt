use Rattle.std.proofs.Common.{◌<◌, ◌∙◌, length, sym, ap, refl, subst, arith}
use Rattle.std.proofs.lemmas.Option.{slice_get_read}
use Rattle.tree_read.specs.Trees.{tree_pairs, IsRootNode}
use Rattle.attr_field.specs.declared.roots.FieldRoots.{FieldRoots}
use Rattle.attr_operations.proofs.Reading.{reads_count, reads_field}
use Rattle.attr_operations.proofs.document.count_documents.Goals as goal

pub bounds-fields-0 : goal.bounds-fields-0
bounds-fields-0 g c = c.requires.fields.some

pub bounds-roots-0 : goal.bounds-roots-0
bounds-roots-0 g c = let same = c.requires.sized in let some = c.requires.fields.some in omega arith

pub total-requires : goal.total-requires
total-requires g c =
    let m = g.F.Frozen.records c.args.frozen.now in
    let fields = c.args.fields.now in
    let roots = c.args.roots.now in
    let some = c.requires.fields.some in
    let at_field = slice_get_read fields (length fields) 0 c.index-fields-0.result refl some c.index-fields-0.is in
    let at_root = slice_get_read roots (length fields) 0 c.index-roots-0.result (sym c.requires.sized) some c.index-roots-0.is in
    let here = reads_field m fields roots c.requires.fields 0 c.index-fields-0.result c.index-roots-0.result at_field at_root in
    (omega arith, subst (λ (r : FieldRoots g.row.OFFSET_BITS). 0 < r.documents → IsRootNode m r.documents) c.index-roots-0.is here.documents_are.map_is.tree_is.node)

pub returns-clause-count : goal.returns-clause-count
returns-clause-count g c =
    let m = g.F.Frozen.records c.args.frozen.now in
    let fields = c.args.fields.now in
    let roots = c.args.roots.now in
    let some = c.requires.fields.some in
    let at_field = slice_get_read fields (length fields) 0 c.index-fields-0.result refl some c.index-fields-0.is in
    let at_root = slice_get_read roots (length fields) 0 c.index-roots-0.result (sym c.requires.sized) some c.index-roots-0.is in
    c.total.ensures.count ∙ ap (λ (r : FieldRoots g.row.OFFSET_BITS). length (tree_pairs m r.documents)) (sym c.index-roots-0.is)
    ∙ reads_count m fields roots c.requires.fields 0 c.index-fields-0.result c.index-roots-0.result at_field at_root
