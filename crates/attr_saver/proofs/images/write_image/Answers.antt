use Rattle.std.proofs.Common.{ℕ, ◌<◌, ◌^◌, length, sym, ap, subst, ◌∙◌, arith}
use Rattle.std.specs.Prelude.{slice_index}
use Rattle.image_format.specs.Images.{root_words, operations_at, table_of}
use Rattle.tree_read.specs.Trees.{tree_pairs}
use Rattle.attr_saver.specs.Stored.{AreStored}
use Rattle.attr_saver.proofs.ImageLemmas.{reads_first, save_text}
use Rattle.attr_saver.proofs.WriteLemmas.{writes-as}
use Rattle.attr_saver.proofs.images.write_image.Goals as goal

pub root_word-operations-requires : goal.root_word-operations-requires
root_word-operations-requires g c =
    let frozen = c.args.frozen.now in
    let reads = reads_first c.args.kind c.args.value_type (g.F.Frozen.shape frozen) (g.F.Frozen.records frozen) c.args.root c.requires.first c.requires.image (g.met.F.Frozen.references frozen) in
    (omega arith, (λ some. omega (arith, reads.words some), reads.few))

pub root_word-requires : goal.root_word-requires
root_word-requires g c =
    let frozen = c.args.frozen.now in
    let records = g.F.Frozen.records in
    let back = sym c.root_word-operations.ensures.same in
    let reads = reads_first c.args.kind c.args.value_type (g.F.Frozen.shape frozen) (records frozen) c.args.root c.requires.first c.requires.image (g.met.F.Frozen.references frozen) in (
      omega arith,
      (
        subst (λ (f : g.row.F.Denot). 0 < c.args.root → 1 < length (records f c.args.root)) back reads.words,
        subst (λ (f : g.row.F.Denot). slice_index (root_words (records f) c.args.root) 1 < 2 ^ 32) back reads.tree_fits,
      ),
    )

pub write_save-requires : goal.write_save-requires
write_save-requires g c =
    let frozen = c.args.frozen.now in
    let records = g.F.Frozen.records in
    let m = records frozen in
    let back = c.root_word.ensures.same ∙ c.root_word-operations.ensures.same in
    let tree = c.from_raw-tree.ensures ∙ c.root_word.ensures.word ∙ ap (λ (f : g.row.F.Denot). slice_index (root_words (records f) c.args.root) 1) c.root_word-operations.ensures.same in
    let reads = reads_first c.args.kind c.args.value_type (g.F.Frozen.shape frozen) m c.args.root c.requires.first c.requires.image (g.met.F.Frozen.references frozen) in (
      omega arith,
      subst (λ (f : g.row.F.Denot). AreStored c.args.kind c.args.value_type (records f) c.from_raw-tree.result) (sym back)
          (subst (λ (r : ℕ). AreStored c.args.kind c.args.value_type m r) (sym tree) reads.stored),
    )

pub returns-clause-writes : goal.returns-clause-writes
returns-clause-writes g c =
    let frozen = c.args.frozen.now in
    let records = g.F.Frozen.records in
    let m = records frozen in
    let back = c.root_word.ensures.same ∙ c.root_word-operations.ensures.same in
    let tree = c.from_raw-tree.ensures ∙ c.root_word.ensures.word ∙ ap (λ (f : g.row.F.Denot). slice_index (root_words (records f) c.args.root) 1) c.root_word-operations.ensures.same in
    let reads = reads_first c.args.kind c.args.value_type (g.F.Frozen.shape frozen) m c.args.root c.requires.first c.requires.image (g.met.F.Frozen.references frozen) in
    let wrote = rw (back, tree, c.root_word-operations.ensures.word) at c.write_save.ensures.writes in
    writes-as wrote (save_text c.args.kind c.args.value_type (operations_at m c.args.root) (table_of (g.F.Frozen.shape frozen) m c.args.root) m
    (tree_pairs m (slice_index (root_words m c.args.root) 1)) reads.documents)
