use Rattle.std.proofs.Common.{◌≡◌, ◌≢◌, ◌<◌, ℕ, true, [], length, get_or, Some, refl, sym, ap, subst, ◌∙◌, arith}
use Rattle.std.specs.List.{remove}
use Rattle.std.proofs.lemmas.List.{get_or_read}
use Rattle.store_api.specs.Ledgers.{is_width}
use Rattle.entry_ledger.specs.States.{ShelfView, empty_shelf}
use Rattle.entry_ledger.specs.Shelves.{ShelvesView, shelf_at, row_of, filled_at}
use Rattle.entry_ledger.specs.ShelvesKept.{StackView, stack_at}
use Rattle.entry_ledger.proofs.Opening.{seals-there, seals-absent, seal-at}
use Rattle.entry_ledger.proofs.shelves.Shelves.seal.Goals as goal
use Rattle.entry_ledger.proofs.shelves.Shelves.seal.Goals.{in-Some, in_default}

pub invariant_of-self : goal.invariant_of-self
invariant_of-self c =
    let s = c.self.inside in
    let k = c.self.invariant in
    let xs = s.shelves.items in
    let b = c.args.buffer in
    let h : b < length xs = subst (λ (v : ShelvesView). b < length v.shelves) (sym c.self.view_is) c.requires.inside in
    let some : 0 < (shelf_at xs b).width = subst (λ (v : ShelvesView). 0 < (shelf_at v.shelves b).width) (sym c.self.view_is) c.requires.opened in
    let unfilled : filled_at s.filled.items (shelf_at xs b).width ≢ Some b = subst (λ (v : ShelvesView). filled_at v.filled (shelf_at v.shelves b).width ≢ Some b) (sym c.self.view_is) c.requires.unfilled in
    let valid : is_width (shelf_at xs b).width ≡ true = (k.each_shelf b).width some in
    let shelf : c.index_mut-shelf.result.now ≡ shelf_at xs b = get_or_read xs b _ h c.index_mut-shelf.ensures.value empty_shelf in
    let row : c.place_of-row.result ≡ row_of (shelf_at xs b).width = c.place_of-row.ensures.place ∙ ap row_of (c.width.ensures ∙ ap (λ (t : ShelfView). t.width) shelf) in
    let stack : c.index_mut-stack.result.now ≡ stack_at s.stacks.items (shelf_at xs b).width =
    get_or_read s.stacks.items c.place_of-row.result _ (omega (arith, c.place_of-row.ensures.below, k.stack_rows)) c.index_mut-stack.ensures.value (record { list = []; room = 0 })
    ∙ ap (λ p. get_or s.stacks.items p (record { list = []; room = 0 })) row in
    let new : c.seal.new.self ≡ record (shelf_at xs b) { sealed = true } = c.seal.ensures ∙ ap (λ (t : ShelfView). record t { sealed = true }) shelf in
    elim c.match-position.branch [
      | in-Some w ↦
          (let place = w.in-Some.place in
          let entered : w.remove.new.self ≡ record (stack_at s.stacks.items (shelf_at xs b).width) { list = remove (stack_at s.stacks.items (shelf_at xs b).width).list place } =
          w.remove.ensures ∙ ap (λ (t : StackView). record t { list = remove t.list place }) stack in
          rw w.self-inside-is (seal-at s.words xs s.made.items s.filled.items s.stacks.items s.touched b _ _ _ _ _ _ new row entered
          (seals-there s.words xs s.made.items s.filled.items s.stacks.items s.touched k b h valid unfilled place
          (subst (λ (t : StackView). place < length t.list) stack w.in-Some.ensures.there)
          (subst (λ (t : StackView). get_or t.list place 0 ≡ b) stack (w.in-Some.ensures.is place refl)))))
      | in_default w ↦
          rw w.self-inside-is (seal-at s.words xs s.made.items s.filled.items s.stacks.items s.touched b _ _ _ _ _ _ new row stack
          (seals-absent s.words xs s.made.items s.filled.items s.stacks.items s.touched k b h valid unfilled
          (subst (λ (t : StackView). (i : ℕ) → i < length t.list → get_or t.list i 0 ≢ b) stack w.in_default.ensures.none)))
    ]
