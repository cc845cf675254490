use Rattle.std.proofs.Common.{◌≡◌, ◌<◌, ◌≤◌, [], ◌∷◌, ◌++◌, Some, length, get_or, set, sym, ap, subst, ◌∙◌, arith}
use Rattle.std.proofs.lemmas.List.{get_or_read}
use Rattle.store_api.specs.Ledgers.{capacity}
use Rattle.entry_ledger.specs.States.{ShelfView, empty_shelf}
use Rattle.entry_ledger.specs.Shelves.{ShelvesView, shelf_at, row_of, spare_of_width}
use Rattle.entry_ledger.specs.ShelvesKept.{StackView, stack_at, AreShelves}
use Rattle.entry_ledger.proofs.Opening.{opens-room, opens}
use Rattle.entry_ledger.proofs.shelves.Shelves.open.Goals as goal

pub enter-requires : goal.enter-requires
enter-requires c e =
    let s = c.self.inside in
    let k = c.self.invariant in
    let xs = s.shelves.items in
    let b = c.args.buffer in
    let w = c.args.width in
    let h : b < length xs = subst (λ (v : ShelvesView). b < length v.shelves) (sym c.self.view_is) c.requires.inside in
    let many : 8192 ≤ s.words = subst (λ (v : ShelvesView). 8192 ≤ v.words) (sym c.self.view_is) c.requires.words in
    let empty : shelf_at xs b ≡ empty_shelf = subst (λ (v : ShelvesView). shelf_at v.shelves b ≡ empty_shelf) (sym c.self.view_is) c.requires.empty in
    let stack : c.index_mut-3.result.now ≡ stack_at s.stacks.items w =
    get_or_read s.stacks.items c.place_of-row.result _ (omega (arith, c.place_of-row.ensures.below, k.stack_rows)) c.index_mut-3.ensures.value (record { list = []; room = 0 })
    ∙ ap (λ p. get_or s.stacks.items p (record { list = []; room = 0 })) c.place_of-row.ensures.place in
    subst (λ (t : StackView). length t.list < t.room) (sym stack) (opens-room s.words xs s.made.items s.filled.items s.stacks.items s.touched k b h w c.requires.width many empty)

pub invariant_of-self-2 : goal.invariant_of-self-2
invariant_of-self-2 c =
    let s = c.self.inside in
    let k = c.self.invariant in
    let xs = s.shelves.items in
    let b = c.args.buffer in
    let w = c.args.width in
    let h : b < length xs = subst (λ (v : ShelvesView). b < length v.shelves) (sym c.self.view_is) c.requires.inside in
    let many : 8192 ≤ s.words = subst (λ (v : ShelvesView). 8192 ≤ v.words) (sym c.self.view_is) c.requires.words in
    let empty : shelf_at xs b ≡ empty_shelf = subst (λ (v : ShelvesView). shelf_at v.shelves b ≡ empty_shelf) (sym c.self.view_is) c.requires.empty in
    let none : spare_of_width xs w ≡ 0 = subst (λ (v : ShelvesView). spare_of_width v.shelves w ≡ 0) (sym c.self.view_is) c.requires.spare in
    let stack : c.index_mut-3.result.now ≡ stack_at s.stacks.items w =
    get_or_read s.stacks.items c.place_of-row.result _ (omega (arith, c.place_of-row.ensures.below, k.stack_rows)) c.index_mut-3.ensures.value (record { list = []; room = 0 })
    ∙ ap (λ p. get_or s.stacks.items p (record { list = []; room = 0 })) c.place_of-row.ensures.place in
    let new : ShelfView = record empty_shelf { width = w; room = capacity s.words w } in
    let new_is : c.open.new.self ≡ new = c.in_ok-open.ensures.ok in
    let entered : c.enter.new.self ≡ record (stack_at s.stacks.items w) { list = (stack_at s.stacks.items w).list ++ b ∷ [] } =
    c.enter.ensures ∙ ap (λ (t : StackView). record t { list = t.list ++ b ∷ [] }) stack in
    subst (λ (n : ShelfView). AreShelves s.words (set xs b n) s.made.items (set s.filled.items c.place_of-row.result (Some b)) (set s.stacks.items c.place_of-row.result c.enter.new.self) s.touched) (sym new_is)
    (subst (λ p. AreShelves s.words (set xs b new) s.made.items (set s.filled.items p (Some b)) (set s.stacks.items p c.enter.new.self) s.touched) (sym c.place_of-row.ensures.place)
    (subst (λ (t : StackView). AreShelves s.words (set xs b new) s.made.items (set s.filled.items (row_of w) (Some b)) (set s.stacks.items (row_of w) t) s.touched) (sym entered)
    (opens s.words xs s.made.items s.filled.items s.stacks.items s.touched k b h w c.requires.width many empty none)))
