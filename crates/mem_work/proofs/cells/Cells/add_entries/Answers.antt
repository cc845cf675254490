use Rattle.std.proofs.Common.{◌<◌, ◌∙◌, ap, sym, arith}
use Rattle.entry_ref.specs.References.{buffer_of, offset_of, buffer_limit}
use Rattle.entry_ref.proofs.Bits.{packed-buffer, packed-offset}
use Rattle.entry_ref.specs.Maps.{seen}
use Rattle.entry_ref.proofs.Steps.{next-buffer, first-offset, here-not_yet, reference-more}
use Rattle.mem_work.specs.Cells.{width_in}
use Rattle.mem_work.specs.Entries.{chosen}
use Rattle.mem_work.proofs.Chosen.{none-free, none-first, none-past, entry-made}
use Rattle.mem_work.proofs.cells.Cells.add_entries.Goals as goal

pub returns-then-width-eq0 : goal.returns-then-width-eq0
returns-then-width-eq0 g c =
    let s = c.args.self.now in
    record {
      entries = λ q.
          c.requires.before q
          ∙ next-buffer g.row.OFFSET_BITS (chosen c.args.since s.table.items s.stamps.items g.row.OFFSET_BITS s.buffers s.words) c.args.buffer 0 q (λ of past.
          none-free c.args.since s.table.items s.stamps.items g.row.OFFSET_BITS s.buffers s.words q (ap (width_in s.table.items s.words) of ∙ sym c.width-width.ensures ∙ c.if-width-eq0.true));
    }

pub loop-offset-init : goal.loop-offset-init
loop-offset-init g c =
    let s = c.args.self.now in
    record {
      seen = λ q.
          c.requires.before q
          ∙ first-offset g.row.OFFSET_BITS (chosen c.args.since s.table.items s.stamps.items g.row.OFFSET_BITS s.buffers s.words) c.args.buffer 0 q
          (none-first c.args.since s.table.items s.stamps.items g.row.OFFSET_BITS s.buffers s.words q);
      first = omega arith;
    }

pub returns : goal.returns
returns g c =
    let s = c.args.self.now in
    record {
      entries = λ q.
          c.loop-offset.invariant.seen q
          ∙ next-buffer g.row.OFFSET_BITS (chosen c.args.since s.table.items s.stamps.items g.row.OFFSET_BITS s.buffers s.words) c.args.buffer c.loop-offset.offset q
          (none-past c.args.since s.table.items s.stamps.items g.row.OFFSET_BITS s.buffers s.words q c.args.buffer c.width-width.result c.loop-offset.offset (sym c.width-width.ensures) c.loop-offset-test.false);
    }

pub add_entry-requires : goal.add_entry-requires
add_entry-requires g c =
    let s = c.args.self.now in
    let bits = g.row.OFFSET_BITS in
    let m = chosen c.args.since s.table.items s.stamps.items bits s.buffers s.words in
    let small : c.args.buffer < buffer_limit bits = omega (arith, s.few_buffers, c.requires.inside) in (
      omega arith,
      (
        omega arith,
        (
          entry-made s.table.items bits s.buffers s.words c.width-width.result c.args.buffer c.loop-offset.offset c.new.result c.new.ensures c.requires.inside s.few_buffers
              (sym c.width-width.ensures) (omega (arith, c.if-width-eq0.false)) c.loop-offset.invariant.first c.loop-offset-test.true,
          c.loop-offset.invariant.seen c.new.result
              ∙ here-not_yet bits m c.args.buffer c.loop-offset.offset c.new.result (ap (buffer_of bits) c.new.ensures ∙ packed-buffer bits c.loop-offset.offset c.args.buffer small)
              (ap (offset_of bits) c.new.ensures ∙ packed-offset bits c.loop-offset.offset c.args.buffer small),
        ),
      ),
    )

pub loop-offset-preserved : goal.loop-offset-preserved
loop-offset-preserved g c =
    let s = c.args.self.now in
    let bits = g.row.OFFSET_BITS in
    record {
      seen = λ q. reference-more bits (chosen c.args.since s.table.items s.stamps.items bits s.buffers s.words) c.args.buffer c.loop-offset.offset c.new.result
          (omega (arith, s.few_buffers, c.requires.inside)) c.new.ensures
          (seen c.add_entry.new.map) (seen c.loop-offset.map) c.in_ok-add_entry.ensures.here c.in_ok-add_entry.ensures.others c.loop-offset.invariant.seen q;
      first = omega arith;
    }
