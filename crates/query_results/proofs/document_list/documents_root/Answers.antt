use Rattle.std.proofs.Common.{ℕ, arith, refl, sym, ap, subst, ◌∙◌}
use Rattle.std.specs.Map.{keys_of}
use Rattle.tree_read.specs.Trees.{tree_pairs}
use Rattle.doc_vector.proofs.DocumentLemmas.{map_nothing}
use Rattle.doc_vector.specs.Documents.{IsDocumentMap}
use Rattle.image_format.specs.Images.{table_of, IsLawfulImage}
use Rattle.query_results.proofs.AttributeLemmas.{field_there, has_root, reads_field}
use Rattle.query_results.proofs.IndexLemmas.{all_keys, no_keys}
use Rattle.query_results.proofs.document_list.documents_root.Goals as goal

pub root_at-requires : goal.root_at-requires
root_at-requires g c =
    let frozen = c.args.frozen.now in
    let m = g.F.Frozen.records frozen in
    let fields = c.args.fields.now in
    let own = c.in-Some.field-0.now in
    let lawful = subst (λ (s : ℕ). IsLawfulImage s m c.args.root) c.requires.shape c.requires.image in
    let at = field_there _ fields 0 own refl c.in-Some.ensures.lookup.3.0 c.in-Some.ensures.lookup.1 in
    (omega arith, has_root fields m c.args.root c.requires.few lawful (g.met.F.Frozen.references frozen) 0 own at)

pub returns-in-Some-clause-map : goal.returns-in-Some-clause-map
returns-in-Some-clause-map g c =
    let frozen = c.args.frozen.now in
    let m = g.F.Frozen.records frozen in
    let fields = c.args.fields.now in
    let own = c.in-Some.field-0.now in
    let lawful = subst (λ (s : ℕ). IsLawfulImage s m c.args.root) c.requires.shape c.requires.image in
    let at = field_there _ fields 0 own refl c.in-Some.ensures.lookup.3.0 c.in-Some.ensures.lookup.1 in
    subst (IsDocumentMap m) (sym c.root_at.ensures.root)
    (reads_field fields m c.args.root c.requires.few lawful (g.met.F.Frozen.references frozen) 0 own at).documents_are.map_is

pub returns-in-Some-clause-keys : goal.returns-in-Some-clause-keys
returns-in-Some-clause-keys g c =
    let m = g.F.Frozen.records c.args.frozen.now in
    let fields = c.args.fields.now in
    let own = c.in-Some.field-0.now in
    let lawful = subst (λ (s : ℕ). IsLawfulImage s m c.args.root) c.requires.shape c.requires.image in
    let at = field_there _ fields 0 own refl c.in-Some.ensures.lookup.3.0 c.in-Some.ensures.lookup.1 in
    ap (λ (r : ℕ). keys_of (tree_pairs m r)) c.root_at.ensures.root
    ∙ all_keys fields m c.args.root c.requires.few lawful 0 own at
    ∙ ap (λ (s : ℕ). keys_of (table_of s m c.args.root)) (sym c.requires.shape)

pub returns-in-None-clause-map : goal.returns-in-None-clause-map
returns-in-None-clause-map g c = subst (IsDocumentMap (g.F.Frozen.records c.args.frozen.now)) (sym c.from_raw.ensures) (map_nothing (g.F.Frozen.records c.args.frozen.now))

pub returns-in-None-clause-keys : goal.returns-in-None-clause-keys
returns-in-None-clause-keys g c =
    let m = g.F.Frozen.records c.args.frozen.now in
    let fields = c.args.fields.now in
    let lawful = subst (λ (s : ℕ). IsLawfulImage s m c.args.root) c.requires.shape c.requires.image in
    ap (λ (r : ℕ). keys_of (tree_pairs m r)) c.from_raw.ensures
    ∙ no_keys fields m c.args.root c.requires.few lawful c.in-None.ensures.lookup.3
    ∙ ap (λ (s : ℕ). keys_of (table_of s m c.args.root)) (sym c.requires.shape)
