use Rattle.std.proofs.Common.{subst, refl, ◌≡◌, ◌+◌, ◌≤◌, ℕ, Some, cond, sym, ap, ◌∙◌, arith, inl, inr}
use Rattle.std.proofs.lemmas.Bool.{cases_eq, eq-eqb, ne_eqb, and_from, and_right, and_left}
use Rattle.entry_ref.proofs.Apart.{place-below}
use Rattle.gen_core.specs.declared.views.Sizes.{Sizes}
use Rattle.arena_api.specs.Calls.{MayStore, with_stored}
use Rattle.word_arena.specs.Ruled.{writer_of}
use Rattle.word_arena.specs.Knows.{place_by, known_by}
use Rattle.word_arena.proofs.Desks.{few-buffers, has_desk, keeps_both}
use Rattle.word_arena.proofs.work.put_zeros.Goals as goal

pub overflow_add-first : goal.overflow_add-first
overflow_add-first g c =
    let s = c.args.seat.now in
    let d = c.requires.desk.4 in
    let may = c.requires.may c.loop-i.i c.loop-i-test.true in
    let below = place-below may.word.entry c.loop-i.i may.word.inside in
    let at = c.requires.place in
    let product = d.product in
    let few : (writer_of s.me.0).sizes.buffers ≤ 67108864 = subst (λ (z : Sizes). z.buffers ≤ 67108864) (sym d.same_sizes) (few-buffers d) in
    omega (arith, at, below, product, few)

pub put_in-requires : goal.put_in-requires
put_in-requires g c =
    let B : ℕ = g.row.OFFSET_BITS in
    let old = known_by c.args.seat.now in
    let now = known_by c.loop-i.seat in
    let at = c.requires.place in
    let was = c.requires.may c.loop-i.i c.loop-i-test.true in
    let may : MayStore B (record old { stored = now.stored }) c.args.entry c.loop-i.i =
    record { word = record { entry = was.word.entry; inside = was.word.inside }; unkept = was.unkept } in
    let here : c.args.first + c.loop-i.i ≡ place_by B (record old { stored = now.stored }) c.args.entry c.loop-i.i = omega (arith, at) in
    let place : c.args.first + c.loop-i.i ≡ place_by B now c.args.entry c.loop-i.i =
    subst (λ v. c.args.first + c.loop-i.i ≡ place_by B v c.args.entry c.loop-i.i) (sym c.loop-i.invariant.knows) here in
    (omega arith, (omega arith, (has_desk c.loop-i.invariant.desk c.requires.desk, (subst (λ v. MayStore B v c.args.entry c.loop-i.i) (sym c.loop-i.invariant.knows) may, place))))

pub loop-i-preserved : goal.loop-i-preserved
loop-i-preserved g c =
    let now = known_by c.loop-i.seat in
    let old = known_by c.args.seat.now in
    let word : ℕ = 0 in
    let e = c.put_in.ensures in
    let inv = c.loop-i.invariant in
    record {
      desk = keeps_both inv.desk e.desk;
      knows =
          e.knows ∙ (λ k. record (inv.knows k) { stored = with_stored now.stored c.args.entry c.loop-i.i word }) ∙ (λ k. record old { stored = sym (ap (λ v. v.stored) e.knows) k });
      behind = (let behind = inv.behind in omega arith);
      filled = λ j from lt. ap (λ v. v.stored c.args.entry j) e.knows ∙ elim (cases_eq j c.loop-i.i) [
        | inl same ↦ ap (λ t. cond t (Some 0) (now.stored c.args.entry j)) (and_from _ _ (eq-eqb c.args.entry c.args.entry refl) (eq-eqb j c.loop-i.i same))
        | inr other ↦ ap (λ t. cond t (Some 0) (now.stored c.args.entry j)) (and_right _ _ (ne_eqb j c.loop-i.i other)) ∙ inv.filled j from (omega (arith, lt, other))
      ];
      kept = λ j lt.
          ap (λ v. v.stored c.args.entry j) e.knows ∙ ap (λ t. cond t (Some 0) (now.stored c.args.entry j)) (and_right _ _ (ne_eqb j c.loop-i.i (λ same. let behind = inv.behind in omega (arith, lt, same))))
          ∙ inv.kept j lt;
      apart = λ q j ne. ap (λ v. v.stored q j) e.knows ∙ ap (λ t. cond t (Some word) (now.stored q j)) (and_left _ _ (ne_eqb q c.args.entry ne)) ∙ inv.apart q j ne;
      others = λ q ne. e.others q ne ∙ inv.others q ne;
      shape = e.shape ∙ inv.shape;
    }
