use Rattle.std.proofs.Common.{◌≡◌, ◌<◌, true, false, [], length, get_or, refl, sym, ap, subst, ◌∙◌, arith}
use Rattle.std.proofs.lemmas.List.{get_or_read}
use Rattle.entry_ledger.specs.States.{ShelfView, empty_shelf, can_make}
use Rattle.entry_ledger.specs.Shelves.{ShelvesView, shelf_at, row_of}
use Rattle.entry_ledger.specs.ShelvesKept.{StackView, stack_at}
use Rattle.entry_ledger.proofs.Unsealing.{unseal-room, unseals}
use Rattle.entry_ledger.proofs.shelves.Shelves.unseal.Goals as goal

pub enter-requires : goal.enter-requires
enter-requires c e =
    let s = c.self.inside in
    let k = c.self.invariant in
    let xs = s.shelves.items in
    let b = c.args.buffer in
    let h : b < length xs = subst (λ (v : ShelvesView). b < length v.shelves) (sym c.self.view_is) c.requires.inside in
    let some : 0 < (shelf_at xs b).width = subst (λ (v : ShelvesView). 0 < (shelf_at v.shelves b).width) (sym c.self.view_is) c.requires.opened in
    let sealed : (shelf_at xs b).sealed ≡ true = subst (λ (v : ShelvesView). (shelf_at v.shelves b).sealed ≡ true) (sym c.self.view_is) c.requires.sealed in
    let shelf : c.index_mut-shelf.result.now ≡ shelf_at xs b = get_or_read xs b _ h c.index_mut-shelf.ensures.value empty_shelf in
    let new : c.unseal.new.self ≡ record (shelf_at xs b) { sealed = false } = c.unseal.ensures ∙ ap (λ (t : ShelfView). record t { sealed = false }) shelf in
    let row : c.place_of-row.result ≡ row_of (shelf_at xs b).width = c.place_of-row.ensures.place ∙ ap row_of (c.width.ensures ∙ ap (λ (t : ShelfView). t.width) new) in
    let stack : c.index_mut.result.now ≡ stack_at s.stacks.items (shelf_at xs b).width =
    get_or_read s.stacks.items c.place_of-row.result _ (omega (arith, c.place_of-row.ensures.below, k.stack_rows)) c.index_mut.ensures.value (record { list = []; room = 0 })
    ∙ ap (λ p. get_or s.stacks.items p (record { list = []; room = 0 })) row in
    subst (λ (t : StackView). length t.list < t.room) (sym stack)
    (unseal-room s.words xs s.made.items s.filled.items s.stacks.items s.touched k b h some sealed (ap can_make (sym new) ∙ sym c.can_make-enters.ensures ∙ e))

pub invariant_of-self : goal.invariant_of-self
invariant_of-self c =
    let s = c.self.inside in
    let k = c.self.invariant in
    let xs = s.shelves.items in
    let b = c.args.buffer in
    let h : b < length xs = subst (λ (v : ShelvesView). b < length v.shelves) (sym c.self.view_is) c.requires.inside in
    let some : 0 < (shelf_at xs b).width = subst (λ (v : ShelvesView). 0 < (shelf_at v.shelves b).width) (sym c.self.view_is) c.requires.opened in
    let sealed : (shelf_at xs b).sealed ≡ true = subst (λ (v : ShelvesView). (shelf_at v.shelves b).sealed ≡ true) (sym c.self.view_is) c.requires.sealed in
    let shelf : c.index_mut-shelf.result.now ≡ shelf_at xs b = get_or_read xs b _ h c.index_mut-shelf.ensures.value empty_shelf in
    let new : c.unseal.new.self ≡ record (shelf_at xs b) { sealed = false } = c.unseal.ensures ∙ ap (λ (t : ShelfView). record t { sealed = false }) shelf in
    let row : c.place_of-row.result ≡ row_of (shelf_at xs b).width = c.place_of-row.ensures.place ∙ ap row_of (c.width.ensures ∙ ap (λ (t : ShelfView). t.width) new) in
    let stack : c.index_mut.result.now ≡ stack_at s.stacks.items (shelf_at xs b).width =
    get_or_read s.stacks.items c.place_of-row.result _ (omega (arith, c.place_of-row.ensures.below, k.stack_rows)) c.index_mut.ensures.value (record { list = []; room = 0 })
    ∙ ap (λ p. get_or s.stacks.items p (record { list = []; room = 0 })) row in
    unseals s.words xs s.made.items s.filled.items s.stacks.items s.touched k b h some sealed
    c.can_make-enters.result (c.can_make-enters.ensures ∙ ap can_make new)
    c.unseal.new.self c.place_of-row.result c.index_mut.result.now c.enter.new.self new row stack c.enter.ensures
