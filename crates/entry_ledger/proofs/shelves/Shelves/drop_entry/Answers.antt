use Rattle.std.proofs.Common.{◌≡◌, ◌<◌, Bool, true, not, ◌&&◌, ◌∷◌, ◌++◌, [], length, set, refl, sym, ap, subst, ◌∙◌, arith}
use Rattle.std.proofs.lemmas.List.{get_or_read}
use Rattle.std.proofs.lemmas.Bool.{not-true, and_parts, true≢false}
use Rattle.entry_ledger.specs.States.{ShelfView, empty_shelf, has_one_spare, has_touched, is_free_state, is_used, state_at, dropped, with_state_at}
use Rattle.entry_ledger.specs.Stacks.{IsStack}
use Rattle.entry_ledger.proofs.StackSteps.{stack-enter}
use Rattle.entry_ledger.proofs.Settling.{used-free}
use Rattle.entry_ledger.specs.Shelves.{ShelvesView, shelf_at}
use Rattle.entry_ledger.specs.ShelvesKept.{StackView, stack_at}
use Rattle.entry_ledger.proofs.Making.{taken-gains}
use Rattle.entry_ledger.proofs.Gains.{row-room, touched-room, gained-row, drop-touched, entered-list, entered-room}
use Rattle.entry_ledger.proofs.shelves.Shelves.drop_entry.Goals as goal
use Rattle.entry_ledger.proofs.shelves.Shelves.drop_entry.Goals.{then-is_free, else-is_free}

pub enter-requires : goal.enter-requires
enter-requires c e =
    let s = c.self.inside in
    let k = c.self.invariant in
    let xs = s.shelves.items in
    let b = c.args.buffer in
    let h : b < length xs = subst (λ (v : ShelvesView). b < length v.shelves) (sym c.self.view_is) c.requires.inside in
    let there : c.args.place < length (shelf_at xs b).states = subst (λ (v : ShelvesView). c.args.place < length (shelf_at v.shelves b).states) (sym c.self.view_is) c.requires.there in
    let used : is_used (state_at (shelf_at xs b).states c.args.place) ≡ true = subst (λ (v : ShelvesView). is_used (state_at (shelf_at v.shelves b).states c.args.place) ≡ true) (sym c.self.view_is) c.requires.used in
    let shelf : c.index_mut-shelf.result.now ≡ shelf_at xs b = get_or_read xs b _ h c.index_mut-shelf.ensures.value empty_shelf in
    let had : c.has_touched-had_touched.result ≡ has_touched (shelf_at xs b) = c.has_touched-had_touched.ensures ∙ ap has_touched shelf in
    touched-room s.words xs s.made.items s.filled.items s.stacks.items s.touched k b h (with_state_at (shelf_at xs b) c.args.place (dropped c.args.last (state_at (shelf_at xs b).states c.args.place)))
    (sym had ∙ not-true _ e) (drop-touched (shelf_at xs b) c.args.place c.args.last there used)

pub enter_row-requires-clause-room : goal.enter_row-requires-clause-room
enter_row-requires-clause-room c e =
    let s = c.self.inside in
    let k = c.self.invariant in
    let xs = s.shelves.items in
    let b = c.args.buffer in
    let h : b < length xs = subst (λ (v : ShelvesView). b < length v.shelves) (sym c.self.view_is) c.requires.inside in
    let there : c.args.place < length (shelf_at xs b).states = subst (λ (v : ShelvesView). c.args.place < length (shelf_at v.shelves b).states) (sym c.self.view_is) c.requires.there in
    let used : is_used (state_at (shelf_at xs b).states c.args.place) ≡ true = subst (λ (v : ShelvesView). is_used (state_at (shelf_at v.shelves b).states c.args.place) ≡ true) (sym c.self.view_is) c.requires.used in
    let shelf : c.index_mut-shelf.result.now ≡ shelf_at xs b = get_or_read xs b _ h c.index_mut-shelf.ensures.value empty_shelf in
    let state = dropped c.args.last (state_at (shelf_at xs b).states c.args.place) in
    let now : c.drop_entry-now.result ≡ state = c.drop_entry-now.ensures.now ∙ ap (λ (t : ShelfView). dropped c.args.last (state_at t.states c.args.place)) shelf in
    let new : c.drop_entry-now.new.self ≡ with_state_at (shelf_at xs b) c.args.place state =
    c.drop_entry-now.ensures.dropped ∙ ap (λ (t : ShelfView). with_state_at t c.args.place (dropped c.args.last (state_at t.states c.args.place))) shelf in
    let wide : c.width-width.result ≡ (shelf_at xs b).width = c.width-width.ensures ∙ ap (λ (t : ShelfView). t.width) new in
    let free : c.is_free.result ≡ is_free_state state = c.is_free.ensures ∙ ap is_free_state now in
    let both : c.if-is_free.enters ≡ (is_free_state state && has_one_spare (with_state_at (shelf_at xs b) c.args.place state)) = elim c.if-is_free.branch [
      | then-is_free w ↦ w.enters-is ∙ w.has_one_spare-enters.ensures ∙ ap has_one_spare new ∙ sym (ap (λ (t : Bool). t && has_one_spare (with_state_at (shelf_at xs b) c.args.place state)) (sym free ∙ w.if-is_free.true))
      | else-is_free w ↦ w.enters-is ∙ w.if-is_free.false ∙ sym (ap (λ (t : Bool). t && has_one_spare (with_state_at (shelf_at xs b) c.args.place state)) (sym free ∙ w.if-is_free.false))
    ] in
    let parts = and_parts _ _ (sym (taken-gains (shelf_at xs b) c.args.place state there (used-free _ used)) ∙ sym both ∙ e) in
    subst (λ w. length (stack_at s.stacks.items w).list < (stack_at s.stacks.items w).room) (sym wide)
    (row-room s.words xs s.made.items s.filled.items s.stacks.items s.touched k b h (with_state_at (shelf_at xs b) c.args.place state) c.args.place there refl (not-true _ parts.1) parts.0)

pub invariant_of-self : goal.invariant_of-self
invariant_of-self c =
    let s = c.self.inside in
    let k = c.self.invariant in
    let xs = s.shelves.items in
    let b = c.args.buffer in
    let h : b < length xs = subst (λ (v : ShelvesView). b < length v.shelves) (sym c.self.view_is) c.requires.inside in
    let there : c.args.place < length (shelf_at xs b).states = subst (λ (v : ShelvesView). c.args.place < length (shelf_at v.shelves b).states) (sym c.self.view_is) c.requires.there in
    let used : is_used (state_at (shelf_at xs b).states c.args.place) ≡ true = subst (λ (v : ShelvesView). is_used (state_at (shelf_at v.shelves b).states c.args.place) ≡ true) (sym c.self.view_is) c.requires.used in
    let shelf : c.index_mut-shelf.result.now ≡ shelf_at xs b = get_or_read xs b _ h c.index_mut-shelf.ensures.value empty_shelf in
    let state = dropped c.args.last (state_at (shelf_at xs b).states c.args.place) in
    let now : c.drop_entry-now.result ≡ state = c.drop_entry-now.ensures.now ∙ ap (λ (t : ShelfView). dropped c.args.last (state_at t.states c.args.place)) shelf in
    let new : c.drop_entry-now.new.self ≡ with_state_at (shelf_at xs b) c.args.place state =
    c.drop_entry-now.ensures.dropped ∙ ap (λ (t : ShelfView). with_state_at t c.args.place (dropped c.args.last (state_at t.states c.args.place))) shelf in
    let wide : c.width-width.result ≡ (shelf_at xs b).width = c.width-width.ensures ∙ ap (λ (t : ShelfView). t.width) new in
    let free : c.is_free.result ≡ is_free_state state = c.is_free.ensures ∙ ap is_free_state now in
    let both : c.if-is_free.enters ≡ (is_free_state state && has_one_spare (with_state_at (shelf_at xs b) c.args.place state)) = elim c.if-is_free.branch [
      | then-is_free w ↦ w.enters-is ∙ w.has_one_spare-enters.ensures ∙ ap has_one_spare new ∙ sym (ap (λ (t : Bool). t && has_one_spare (with_state_at (shelf_at xs b) c.args.place state)) (sym free ∙ w.if-is_free.true))
      | else-is_free w ↦ w.enters-is ∙ w.if-is_free.false ∙ sym (ap (λ (t : Bool). t && has_one_spare (with_state_at (shelf_at xs b) c.args.place state)) (sym free ∙ w.if-is_free.false))
    ] in
    let had : c.has_touched-had_touched.result ≡ has_touched (shelf_at xs b) = c.has_touched-had_touched.ensures ∙ ap has_touched shelf in
    let list = ap (λ (t : StackView). t.list) c.enter.ensures ∙ entered-list (not c.has_touched-had_touched.result) s.touched (s.touched.list ++ b ∷ []) in
    let room = ap (λ (t : StackView). t.room) c.enter.ensures ∙ entered-room (not c.has_touched-had_touched.result) s.touched (s.touched.list ++ b ∷ []) in
    gained-row s.words xs s.made.items s.filled.items s.stacks.items s.touched k b h c.args.place state there
    (λ e. absurd (true≢false (sym e ∙ used-free _ used)))
    c.if-is_free.enters (both ∙ taken-gains (shelf_at xs b) c.args.place state there (used-free _ used))
    c.enter.new.self
    (subst (IsStack empty_shelf has_touched (set xs b (with_state_at (shelf_at xs b) c.args.place state))) (sym list)
    (stack-enter empty_shelf has_touched xs s.touched.list k.touched_is b (with_state_at (shelf_at xs b) c.args.place state) h
    (drop-touched (shelf_at xs b) c.args.place c.args.last there used) c.has_touched-had_touched.result had))
    (omega (arith, k.touched_room, room))
    c.drop_entry-now.new.self c.width-width.result c.enter_row.new.stacks.items new wide c.enter_row.ensures
