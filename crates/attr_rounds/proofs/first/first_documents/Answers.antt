use Rattle.std.proofs.Common.{ℕ, arith, sym, ap, subst, ◌∙◌}
use Rattle.std.proofs.lemmas.Result.{IfOk-weaker}
use Rattle.attr_field.specs.Documents.{IsDocuments}
use Rattle.image_format.specs.Documents.{column_at}
use Rattle.image_format.specs.Images.{table_of, IsLawfulImage}
use Rattle.index_model.specs.Columns.{column_of}
use Rattle.image_format.proofs.ImageLemmas.{field_is_there}
use Rattle.query_eval.proofs.CountLemmas.{has_documents}
use Rattle.attr_rounds.proofs.ImageLemmas.{first_are}
use Rattle.attr_rounds.proofs.first.first_documents.Goals as goal

pub root_at-tree-requires : goal.root_at-tree-requires
root_at-tree-requires g c =
    let frozen = c.args.frozen.now in
    let has = has_documents (g.F.Frozen.shape frozen) (g.F.Frozen.records frozen) c.args.root (g.met.F.Frozen.references frozen) c.requires.image in
    (omega arith, (has.words, has.small))

pub documents_in-requires : goal.documents_in-requires
documents_in-requires g c =
    let frozen = c.args.frozen.now in
    let m = g.F.Frozen.records frozen in
    let field = c.args.field.now in
    let lawful = subst (λ (s : ℕ). IsLawfulImage s m c.args.root) c.requires.shape c.requires.image in
    let is = first_are c.args._fields.now field m c.args.root c.requires.few c.requires.first lawful (g.met.F.Frozen.references frozen) in (
      omega arith,
      subst (λ (f : g.row.F.Denot). IsDocuments field.kind field.value (g.F.Frozen.records f) c.root_at-tree.result) (sym c.root_at-tree.ensures.same)
          (subst (λ (r : ℕ). IsDocuments field.kind field.value m r) (sym c.root_at-tree.ensures.root) is),
    )

pub returns-clause-column : goal.returns-clause-column
returns-clause-column g c =
    let frozen = c.args.frozen.now in
    let m = g.F.Frozen.records frozen in
    let field = c.args.field.now in
    let lawful = subst (λ (s : ℕ). IsLawfulImage s m c.args.root) c.requires.shape c.requires.image in
    let there = (field_is_there c.args._fields.now m c.args.root c.requires.few lawful 0 field c.requires.first).column in
    IfOk-weaker c.documents_in.result _ _
    (λ documents is. is
    ∙ ap (λ (f : g.row.F.Denot). column_at field.kind field.value (g.F.Frozen.records f) c.root_at-tree.result) c.root_at-tree.ensures.same
    ∙ ap (λ (r : ℕ). column_at field.kind field.value m r) c.root_at-tree.ensures.root
    ∙ sym there ∙ ap (λ (s : ℕ). column_of 0 (table_of s m c.args.root)) (sym c.requires.shape))
    c.documents_in.ensures.column
