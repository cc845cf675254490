use Rattle.std.proofs.Common.{subst, sym, arith, List, ℕ, [], ◌∷◌, ◌≡◌, rules}
use Rattle.gen_core.specs.declared.views.View.TheVariants.{Writer}
use Rattle.gen_core.specs.Events.{opening_view, opening_words, MayOpen}
use Rattle.word_arena.specs.Watched.{OneRun}
use Rattle.word_arena.specs.Knows.{core_sizes}
use Rattle.word_arena.proofs.Allowed.{opens}
use Rattle.word_arena.proofs.arena.Arena.create.Goals as goal

pub of_words-requires : goal.of_words-requires
of_words-requires g c =
    let sizes = c.sizes_of-sizes.result in
    let same : c.as_slice.result.now ≡ opening_words sizes = search rules in
    let long = c.requires.some_words in
    let may : MayOpen (core_sizes g.row.OFFSET_BITS c.args.config) = record { some_word = omega arith; commit_limit = search rules; generation_limit = c.requires.generations } in
    subst (λ (l : List ℕ). OneRun g.L.Layout.reaches g.L.Layout.lawful sizes (record { words = l; homes = []; views = record { view = Writer (opening_view sizes); seen = []; mine = [] } ∷ [] }))
    (sym same) (opens g.L.Layout.reaches g.L.Layout.lawful sizes (record { empty_reaches = g.L.Layout.empty_reaches; empty_lawful = g.L.Layout.empty_lawful; present = g.L.Layout.present; stays = g.L.Layout.stays })
    (subst MayOpen (sym c.sizes_of-sizes.ensures) may))
