use Rattle.std.proofs.Common.{arith, ap, subst, sym, ◌∙◌, ◌≡◌, ℕ, Option, length, IfSome}
use Rattle.entry_ref.specs.Images.{words_at}
use Rattle.entry_ref.specs.Places.{place, IsEntry}
use Rattle.word_arena.specs.Ruled.{reader_of, seen_image}
use Rattle.word_arena.proofs.Guards.{the_entry}
use Rattle.word_arena.proofs.reader.GuardedFrozen.start_of.Goals as goal

pub place_of-requires : goal.place_of-requires
place_of-requires g c =
    let s = c.args.self.now in
    let wide : length (words_at (seen_image (reader_of s.place.me.0)) c.args.entry) ≡ c.in-Some.width =
    subst (λ (o : Option ℕ). IfSome o (λ (w : ℕ). length (words_at (seen_image (reader_of s.place.me.0)) c.args.entry) ≡ w)) c.in-Some.is c.requires.width in
    let entry = subst (λ (n : ℕ). IsEntry g.row.OFFSET_BITS s.arena.value.sizes.buffers s.arena.value.sizes.words n c.args.entry) wide
    (the_entry s.stands c.args.entry 0 c.requires.some) in
    rw c.deref.ensures (omega arith, (entry, entry.wide))

pub returns-clause-start : goal.returns-clause-start
returns-clause-start g c =
    let s = c.args.self.now in
    let wide : length (words_at (seen_image (reader_of s.place.me.0)) c.args.entry) ≡ c.in-Some.width =
    subst (λ (o : Option ℕ). IfSome o (λ (w : ℕ). length (words_at (seen_image (reader_of s.place.me.0)) c.args.entry) ≡ w)) c.in-Some.is c.requires.width in
    let at : c.place_of.result ≡ place g.row.OFFSET_BITS s.arena.value.sizes.buffers s.arena.value.sizes.words c.in-Some.width c.args.entry 0 =
    rw c.deref.ensures at c.place_of.ensures in
    at ∙ ap (λ (n : ℕ). place g.row.OFFSET_BITS s.arena.value.sizes.buffers s.arena.value.sizes.words n c.args.entry 0) (sym wide)
