use Rattle.std.proofs.Common.{arith, ap, subst, sym, ◌∙◌, ◌≡◌, ℕ, Option, length, IfSome}
use Rattle.gen_core.specs.Work.{writer_records}
use Rattle.entry_ref.specs.Places.{place, IsEntry}
use Rattle.word_arena.specs.Ruled.{writer_of}
use Rattle.word_arena.proofs.Desks.{the_entry}
use Rattle.word_arena.proofs.writer.WriterFrozen.start_of.Goals as goal

pub place_of-requires : goal.place_of-requires
place_of-requires g c =
    let s = c.args.self.now in
    let wide : length (writer_records (writer_of s.place.me.0) c.args.entry) ≡ c.in-Some.width =
    subst (λ (o : Option ℕ). IfSome o (λ (w : ℕ). length (writer_records (writer_of s.place.me.0) c.args.entry) ≡ w)) c.in-Some.is c.requires.width in
    let entry = subst (λ (n : ℕ). IsEntry g.row.OFFSET_BITS s.seats.arena.value.sizes.buffers s.seats.arena.value.sizes.words n c.args.entry) wide
    (the_entry s.stands c.args.entry 0 c.requires.some) in
    rw c.arena.ensures (omega arith, (entry, entry.wide))

pub returns-clause-start : goal.returns-clause-start
returns-clause-start g c =
    let s = c.args.self.now in
    let wide : length (writer_records (writer_of s.place.me.0) c.args.entry) ≡ c.in-Some.width =
    subst (λ (o : Option ℕ). IfSome o (λ (w : ℕ). length (writer_records (writer_of s.place.me.0) c.args.entry) ≡ w)) c.in-Some.is c.requires.width in
    let at : c.place_of.result ≡ place g.row.OFFSET_BITS s.seats.arena.value.sizes.buffers s.seats.arena.value.sizes.words c.in-Some.width c.args.entry 0 =
    rw c.arena.ensures at c.place_of.ensures in
    at ∙ ap (λ (n : ℕ). place g.row.OFFSET_BITS s.seats.arena.value.sizes.buffers s.seats.arena.value.sizes.words n c.args.entry 0) (sym wide)
