use Rattle.std.proofs.Common.{◌≡◌, ◌<◌, true, length, set, sym, subst}
use Rattle.std.specs.List.{count_by}
use Rattle.entry_ledger.specs.States.{ShelfView, is_touched}
use Rattle.entry_ledger.specs.Shelves.{ShelvesView, shelf_at}
use Rattle.entry_ledger.specs.ShelvesKept.{AreShelves}
use Rattle.entry_ledger.proofs.Gains.{closed}
use Rattle.entry_ledger.proofs.shelves.Shelves.close.Goals as goal

pub invariant_of-self : goal.invariant_of-self
invariant_of-self c =
    let s = c.self.inside in
    let xs = s.shelves.items in
    let b = c.args.buffer in
    let h : b < length xs = subst (λ (v : ShelvesView). b < length v.shelves) (sym c.self.view_is) c.requires.inside in
    let sealed : (shelf_at xs b).sealed ≡ true = subst (λ (v : ShelvesView). (shelf_at v.shelves b).sealed ≡ true) (sym c.self.view_is) c.requires.sealed in
    let settled : count_by is_touched (shelf_at xs b).states ≡ 0 = subst (λ (v : ShelvesView). count_by is_touched (shelf_at v.shelves b).states ≡ 0) (sym c.self.view_is) c.requires.settled in
    subst (λ (n : ShelfView). AreShelves s.words (set xs b n) s.made.items s.filled.items s.stacks.items s.touched) (sym c.close.ensures)
    (closed s.words xs s.made.items s.filled.items s.stacks.items s.touched c.self.invariant b h sealed settled)
