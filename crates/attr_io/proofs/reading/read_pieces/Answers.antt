use Rattle.std.proofs.Common.{◌≡◌, ◌≤◌, ◌<◌, ◌∙◌, refl, sym, subst, arith, ℕ, List, length, take}
use Rattle.attr_io.proofs.ReadLemmas.{TakesPieces, takes_none, reads_none, reads_on, has_more}
use Rattle.attr_io.proofs.reading.read_pieces.Goals as goal

pub loop-source-init : goal.loop-source-init
loop-source-init g c =
    let left = g.S.Source.left c.args.source.now in
    let reads = g.S.Source.reads c.args.source.now in
    record {
      takes = subst (λ (list : List ℕ). TakesPieces list left left reads reads) (sym c.new-bytes.ensures.items) (takes_none left reads);
      reads = reads_none c.args.limit (length c.args.piece.now) left reads;
      kept = refl;
      within = omega (arith, c.new-bytes.ensures.len);
    }

pub loop-source-preserved : goal.loop-source-preserved
loop-source-preserved g c =
    let i = c.loop-source.invariant in
    let n = c.in_ok-count.count in
    let got = take n c.read.new.into in
    let bound = c.in_ok-count.ensures.bound in
    let nonzero = c.if-count-eq0.false in
    let most : length got ≤ length c.loop-source.piece = omega (arith, bound, c.read.auto.into) in
    let some : 0 < length got = omega (arith, bound, nonzero) in
    let more = reads_on c.args.limit (length c.loop-source.piece) (length c.read.new.into) c.loop-source.bytes.items got c.extend_from_slice.new.self.items _ _ _ _ _ _
    c.read.auto.into c.in_ok-extend_from_slice.ensures.items i.takes (omega arith) c.in_ok-count.ensures.bytes.0 most some c.read.ensures.one in
    record {
      takes = more.0;
      reads = more.1;
      kept = c.in_ok-count.ensures.cause.kept ∙ i.kept;
      within = omega (arith, c.in_ok-extend_from_slice.ensures.len, c.read.auto.into);
    }

pub returns-clause-too_long : goal.returns-clause-too_long
returns-clause-too_long g c = λ is.
    has_more c.args.limit (g.S.Source.left c.args.source.now) (g.S.Source.left c.loop-source.source) c.loop-source.bytes.items c.loop-source.invariant.takes.taken (omega arith)
