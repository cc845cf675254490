use Rattle.std.proofs.Common.{◌≡◌, ℕ, Option, Some, Bool, true, false, cond, refl, sym, subst, arith, ◌∙◌}
use Rattle.std.specs.Prelude.{nat_eq, ◌&&◌}
use Rattle.arena_api.specs.Calls.{MayStore, with_stored}
use Rattle.word_arena.specs.Knows.{place_by, known_by}
use Rattle.word_arena.proofs.Desks.{has_desk, keeps_both}
use Rattle.word_arena.proofs.work.put_in.Goals as goal

-- of two choices by one test the first counts
twice : (b : Bool) (word found : ℕ) (other : Option ℕ) → cond b (Some word) (cond b (Some found) other) ≡ cond b (Some word) other
twice true word found other = refl
twice false word found other = refl

pub store_in-requires : goal.store_in-requires
store_in-requires g c =
    let B : ℕ = g.row.OFFSET_BITS in
    let old = known_by c.args.seat.now in
    let e = c.find_in.ensures in
    let may : MayStore B (record old { stored = with_stored old.stored c.args.entry c.args.i c.find_in.result }) c.args.entry c.args.i =
    record { word = record { entry = c.requires.may.word.entry; inside = c.requires.may.word.inside }; unkept = c.requires.may.unkept } in
    let place : c.args.at ≡ place_by B (known_by c.find_in.new.seat) c.args.entry c.args.i =
    subst (λ v. c.args.at ≡ place_by B v c.args.entry c.args.i) (sym e.knows) c.requires.place in
    (omega arith, (omega arith, (has_desk e.desk c.requires.desk, (subst (λ v. MayStore B v c.args.entry c.args.i) (sym e.knows) may, place))))

pub returns-then-find_in-word-clause-desk : goal.returns-then-find_in-word-clause-desk
returns-then-find_in-word-clause-desk g c = keeps_both c.find_in.ensures.desk c.store_in.ensures.desk

pub returns-then-find_in-word-clause-knows : goal.returns-then-find_in-word-clause-knows
returns-then-find_in-word-clause-knows g c =
    let old = known_by c.args.seat.now in
    let r : ℕ = c.args.entry in
    let i : ℕ = c.args.i in
    let knows = c.find_in.ensures.knows in
    c.store_in.ensures.knows ∙ (λ k. record (knows k) { stored = with_stored (knows k).stored r i c.args.word })
    ∙ (λ k. record old { stored = λ q j. twice (nat_eq q r && nat_eq j i) c.args.word c.find_in.result (old.stored q j) k })
