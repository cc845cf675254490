use Rattle.std.proofs.Common.{◌≡◌, ℕ, Some, length, cond, sym, ap, ◌∙◌, arith, inl, inr, List}
use Rattle.std.proofs.lemmas.Bool.{cases_eq, eq-eqb, ne_eqb}
use Rattle.entry_ref.specs.References.{buffer_of}
use Rattle.entry_ref.specs.Records.{with_words}
use Rattle.arena_api.specs.Works.{active_width}
use Rattle.arena_api.specs.Calls.{padded}
use Rattle.arena_api.proofs.Padded.{length-padded, padded-at}
use Rattle.arena_api.proofs.work.Work.put.Goals as goal

pub returns-clause-records : goal.returns-clause-records
returns-clause-records g c = λ k q. at q k
  where
    ws : List ℕ
    ws = padded c.args.words.now c.args.width

    long : length ws ≡ c.args.width
    long = length-padded c.args.words.now c.args.width c.requires.fits

    is : g.Self.Frozen.records c.loop-i.self c.args.entry ≡ ws
    is =
        let wide = c.requires.entry.wide in
        let width : length ws ≡ active_width ((g.Self.Work.knows c.loop-i.self).buffer (buffer_of g.row.OFFSET_BITS c.args.entry)) =
        long ∙ sym c.requires.width ∙ sym (ap (λ v. active_width (v.buffer (buffer_of g.row.OFFSET_BITS c.args.entry))) c.loop-i.invariant.knows) in
        g.met.Self.Work.whole c.loop-i.self c.args.entry ws (omega (arith, long, wide)) width
        (λ i h. c.loop-i.invariant.filled i (omega (arith, h, long, c.loop-i-test.false)) ∙ ap (λ n. Some n) (sym (padded-at c.args.words.now c.args.width i)))

    at : (q : ℕ) → g.Self.Frozen.records c.loop-i.self q ≡ with_words (g.Self.Frozen.records c.args.self.now) c.args.entry ws q
    at q = elim (cases_eq q c.args.entry) [
      | inl e ↦ ap (g.Self.Frozen.records c.loop-i.self) e ∙ is ∙ ap (λ t. cond t ws (g.Self.Frozen.records c.args.self.now q)) (sym (eq-eqb q c.args.entry e))
      | inr ne ↦ c.loop-i.invariant.others q ne ∙ ap (λ t. cond t ws (g.Self.Frozen.records c.args.self.now q)) (sym (ne_eqb q c.args.entry ne))
    ]
