-- The writer's desk at the opening.
use Rattle.std.proofs.Common.{◌≡◌, ℕ, [], ◌∷◌, List, refl, sym, subst, arith}
use Rattle.atomic_table.specs.Table.{Me}
use Rattle.atomic_table.specs.Seated.{TableId}
use Rattle.entry_ref.specs.Records.{Records}
use Rattle.gen_core.specs.declared.views.Sizes.{Sizes}
use Rattle.gen_core.specs.declared.views.Buffer.{Buffer}
use Rattle.gen_core.specs.declared.views.View.{View}
use Rattle.gen_core.specs.Events.{MayOpen, opening, opening_hold}
use Rattle.gen_core.proofs.Opening.{opening_good}
use Rattle.gen_core.proofs.GoodViews.{good_view}
use Rattle.gen_core.proofs.Layouts.{IsLayout}
use Rattle.word_arena.specs.Ruled.{Slot}
use Rattle.word_arena.specs.Knows.{own_hold, IsDesk, IsToken}

pub opening_desk : (reaches : ℕ → Records → ℕ → List ℕ) (lawful : ℕ → Records → ℕ → Type 0) → IsLayout reaches lawful → (bits : ℕ) (arena : TableId) (sizes : Sizes) (buffers : List Buffer) (z : TableId) (me : Me Slot View)
    → IsToken bits sizes buffers z me → z ≡ arena → IsDesk bits arena sizes buffers (own_hold opening_hold ∷ []) 0 0 z me
opening_desk reaches lawful l bits arena sizes buffers z me k own =
    let long = k.limits.some_words in
    let may : MayOpen sizes = record { some_word = omega (arith, long); commit_limit = k.limits.commits; generation_limit = k.limits.generations } in
    subst (IsDesk bits arena sizes buffers (own_hold opening_hold ∷ []) 0 0 z) (sym k.is) (record {
      own = own;
      is = refl;
      words = k.words;
      same_sizes = refl;
      same_bits = k.same_bits;
      limits = k.limits;
      product = k.product;
      same_buffers = sym k.same_buffers;
      same_holds = refl;
      commits = refl;
      readers = (refl, omega arith);
      calm = refl;
      good = good_view reaches lawful (opening sizes) (opening_good reaches lawful l sizes may);
      entries = record { none = λ b x lt none. refl };
    })
