use Rattle.std.proofs.Common.{ℕ, length, sym, ap, subst, ◌∙◌, arith}
use Rattle.std.specs.Prelude.{slice_index}
use Rattle.image_format.specs.Images.{root_words, operations_at, table_of}
use Rattle.tree_read.specs.Trees.{tree_pairs}
use Rattle.attr_saver.specs.Stored.{AreStored}
use Rattle.attr_saver.proofs.ImageLemmas.{reads_first, save_size}
use Rattle.attr_saver.proofs.StoredLemmas.{pairs_text}
use Rattle.attr_saver.proofs.images.saved_size.Goals as goal

pub root_word-requires : goal.root_word-requires
root_word-requires g c =
    let frozen = c.args.frozen.now in
    let reads = reads_first c.args.kind c.args.value (g.F.Frozen.shape frozen) (g.F.Frozen.records frozen) c.args.root c.requires.first c.requires.image (g.met.F.Frozen.references frozen) in
    (omega arith, (reads.words, reads.tree_fits))

pub documents_size-requires : goal.documents_size-requires
documents_size-requires g c =
    let frozen = c.args.frozen.now in
    let records = g.F.Frozen.records in
    let m = records frozen in
    let tree = c.from_raw-tree.ensures ∙ c.root_word.ensures.word in
    let reads = reads_first c.args.kind c.args.value (g.F.Frozen.shape frozen) m c.args.root c.requires.first c.requires.image (g.met.F.Frozen.references frozen) in (
      omega arith,
      subst (λ (f : g.row.F.Denot). AreStored c.args.kind c.args.value (records f) c.from_raw-tree.result) (sym c.root_word.ensures.same)
          (subst (λ (r : ℕ). AreStored c.args.kind c.args.value m r) (sym tree) reads.stored),
    )

pub returns-clause-size : goal.returns-clause-size
returns-clause-size g c =
    let frozen = c.args.frozen.now in
    let records = g.F.Frozen.records in
    let m = records frozen in
    let tree = c.from_raw-tree.ensures ∙ c.root_word.ensures.word in
    let reads = reads_first c.args.kind c.args.value (g.F.Frozen.shape frozen) m c.args.root c.requires.first c.requires.image (g.met.F.Frozen.references frozen) in
    let size = c.documents_size.ensures.size
    ∙ ap (λ (f : g.row.F.Denot). length (pairs_text c.args.kind c.args.value (records f) (tree_pairs (records f) c.from_raw-tree.result))) c.root_word.ensures.same
    ∙ ap (λ (r : ℕ). length (pairs_text c.args.kind c.args.value m (tree_pairs m r))) tree in
    let whole = save_size c.args.kind c.args.value (operations_at m c.args.root) (table_of (g.F.Frozen.shape frozen) m c.args.root) m
    (tree_pairs m (slice_index (root_words m c.args.root) 1)) reads.documents in
    omega (arith, size, whole)
