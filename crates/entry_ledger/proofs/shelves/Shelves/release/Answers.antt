use Rattle.std.proofs.Common.{◌≡◌, ◌<◌, true, [], length, get_or, refl, sym, ap, subst, ◌∙◌, arith}
use Rattle.std.proofs.lemmas.List.{get_or_read}
use Rattle.std.proofs.lemmas.Bool.{not-true, and_parts}
use Rattle.entry_ledger.specs.declared.state.State.TheVariants.{Free}
use Rattle.entry_ledger.specs.States.{ShelfView, empty_shelf, can_make, has_touched, is_dropped, state_at, with_state_at}
use Rattle.entry_ledger.proofs.StackSteps.{stack-keep}
use Rattle.entry_ledger.specs.Shelves.{ShelvesView, shelf_at, row_of}
use Rattle.entry_ledger.specs.ShelvesKept.{StackView, stack_at}
use Rattle.entry_ledger.proofs.Gains.{row-room, gained, release-touched}
use Rattle.entry_ledger.proofs.shelves.Shelves.release.Goals as goal

pub enter-requires : goal.enter-requires
enter-requires c e =
    let s = c.self.inside in
    let k = c.self.invariant in
    let xs = s.shelves.items in
    let b = c.args.buffer in
    let h : b < length xs = subst (λ (v : ShelvesView). b < length v.shelves) (sym c.self.view_is) c.requires.inside in
    let there : c.args.place < length (shelf_at xs b).states = subst (λ (v : ShelvesView). c.args.place < length (shelf_at v.shelves b).states) (sym c.self.view_is) c.requires.there in
    let shelf : c.index_mut-shelf.result.now ≡ shelf_at xs b = get_or_read xs b _ h c.index_mut-shelf.ensures.value empty_shelf in
    let new : c.release.new.self ≡ with_state_at (shelf_at xs b) c.args.place Free =
    c.release.ensures ∙ ap (λ (t : ShelfView). with_state_at t c.args.place Free) shelf in
    let row : c.place_of-row.result ≡ row_of (shelf_at xs b).width = c.place_of-row.ensures.place ∙ ap row_of (c.width.ensures ∙ ap (λ (t : ShelfView). t.width) new) in
    let stack : c.index_mut.result.now ≡ stack_at s.stacks.items (shelf_at xs b).width =
    get_or_read s.stacks.items c.place_of-row.result _ (omega (arith, c.place_of-row.ensures.below, k.stack_rows)) c.index_mut.ensures.value (record { list = []; room = 0 })
    ∙ ap (λ p. get_or s.stacks.items p (record { list = []; room = 0 })) row in
    let parts = and_parts _ _ e in
    subst (λ (t : StackView). length t.list < t.room) (sym stack)
    (row-room s.words xs s.made.items s.filled.items s.stacks.items s.touched k b h c.release.new.self c.args.place there (ap (λ (t : ShelfView). t.width) new)
    (ap can_make (sym shelf) ∙ sym c.can_make-could.ensures ∙ not-true _ parts.1) (sym c.can_make.ensures ∙ parts.0))

pub invariant_of-self : goal.invariant_of-self
invariant_of-self c =
    let s = c.self.inside in
    let k = c.self.invariant in
    let xs = s.shelves.items in
    let b = c.args.buffer in
    let h : b < length xs = subst (λ (v : ShelvesView). b < length v.shelves) (sym c.self.view_is) c.requires.inside in
    let there : c.args.place < length (shelf_at xs b).states = subst (λ (v : ShelvesView). c.args.place < length (shelf_at v.shelves b).states) (sym c.self.view_is) c.requires.there in
    let used : is_dropped (state_at (shelf_at xs b).states c.args.place) ≡ true =
    subst (λ (v : ShelvesView). is_dropped (state_at (shelf_at v.shelves b).states c.args.place) ≡ true) (sym c.self.view_is) c.requires.dropped in
    let shelf : c.index_mut-shelf.result.now ≡ shelf_at xs b = get_or_read xs b _ h c.index_mut-shelf.ensures.value empty_shelf in
    let new : c.release.new.self ≡ with_state_at (shelf_at xs b) c.args.place Free =
    c.release.ensures ∙ ap (λ (t : ShelfView). with_state_at t c.args.place Free) shelf in
    let row : c.place_of-row.result ≡ row_of (shelf_at xs b).width = c.place_of-row.ensures.place ∙ ap row_of (c.width.ensures ∙ ap (λ (t : ShelfView). t.width) new) in
    let stack : c.index_mut.result.now ≡ stack_at s.stacks.items (shelf_at xs b).width =
    get_or_read s.stacks.items c.place_of-row.result _ (omega (arith, c.place_of-row.ensures.below, k.stack_rows)) c.index_mut.ensures.value (record { list = []; room = 0 })
    ∙ ap (λ p. get_or s.stacks.items p (record { list = []; room = 0 })) row in
    gained s.words xs s.made.items s.filled.items s.stacks.items s.touched k b h c.args.place Free there (λ e. refl)
    c.can_make.result c.can_make-could.result (c.can_make.ensures ∙ ap can_make new) (c.can_make-could.ensures ∙ ap can_make shelf)
    s.touched (stack-keep empty_shelf has_touched xs s.touched.list k.touched_is b (with_state_at (shelf_at xs b) c.args.place Free) h (release-touched (shelf_at xs b) c.args.place there used)) k.touched_room
    c.release.new.self c.place_of-row.result c.index_mut.result.now c.enter.new.self new row stack c.enter.ensures
