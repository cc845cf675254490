use Rattle.std.proofs.Common.{◌≡◌, ◌<◌, ℕ, true, false, not, ◌&&◌, ◌∷◌, ◌++◌, [], nat_eq, length, get_or, set, refl, sym, ap, subst, ◌∙◌, arith}
use Rattle.std.specs.Prelude.{nat_lt}
use Rattle.std.specs.List.{count_by}
use Rattle.std.proofs.Math.ListN.{length-set}
use Rattle.std.proofs.lemmas.List.{get_or_read}
use Rattle.std.proofs.lemmas.Bool.{not-true, true≢false}
use Rattle.store_api.specs.Ledgers.{one_more}
use Rattle.entry_ledger.specs.States.{ShelfView, empty_shelf, spare_of, can_make, has_touched, is_free_state, IsOpen, with_made}
use Rattle.entry_ledger.specs.Stacks.{IsStack}
use Rattle.entry_ledger.proofs.StackSteps.{stack-enter}
use Rattle.entry_ledger.specs.Shelves.{ShelvesView, shelf_at, row_of, made_in, filled_at, spare_of_width}
use Rattle.entry_ledger.specs.ShelvesKept.{StackView, stack_at}
use Rattle.entry_ledger.proofs.Steps.{none-spare, some-spare, of-width, something-spare, first-free}
use Rattle.entry_ledger.proofs.Making.{made-touched}
use Rattle.entry_ledger.proofs.Gains.{touched-room, took, entered-list, entered-room, is-on_row, again-is, with_taken}
use Rattle.entry_ledger.proofs.shelves.Shelves.take_oldest.Goals as goal

pub returns-in_err-at-clause-none : goal.returns-in_err-at-clause-none
returns-in_err-at-clause-none c =
    let s = c.self.inside in
    let k = c.self.invariant in
    let w = c.args.width in
    let xs = s.shelves.items in
    let stack : c.index.result.now ≡ stack_at s.stacks.items w =
    get_or_read s.stacks.items c.place_of-row.result _ (omega (arith, c.place_of-row.ensures.below, k.stack_rows)) c.index.ensures (record { list = []; room = 0 })
    ∙ ap (λ p. get_or s.stacks.items p (record { list = []; room = 0 })) c.place_of-row.ensures.place in
    let nil : (stack_at s.stacks.items w).list ≡ [] = ap (λ (t : StackView). t.list) (sym stack) ∙ c.in_err-at.ensures.none in
    let row = k.each_row w c.requires in
    let none : spare_of_width s.shelves.items w ≡ 0 = none-spare w s.shelves.items (sym row.open_is.count ∙ ap length nil) in
    let there : spare_of_width c.args.self.now.shelves w ≡ 0 = subst (λ (v : ShelvesView). spare_of_width v.shelves w ≡ 0) c.self.view_is none in
    rw c.from_residual.ensures (λ _. there, λ _. refl)

pub enter-requires : goal.enter-requires
enter-requires c e =
    let s = c.self.inside in
    let k = c.self.invariant in
    let w = c.args.width in
    let xs = s.shelves.items in
    let b = c.number_at-buffer.result in
    let x = c.in-Some.place in
    let i = c.in_ok-at.at in
    let row = k.each_row w c.requires in
    let stack : c.index.result.now ≡ stack_at s.stacks.items w =
    get_or_read s.stacks.items c.place_of-row.result _ (omega (arith, c.place_of-row.ensures.below, k.stack_rows)) c.index.ensures (record { list = []; room = 0 })
    ∙ ap (λ p. get_or s.stacks.items p (record { list = []; room = 0 })) c.place_of-row.ensures.place in
    let again : c.index-2.result.now ≡ stack_at s.stacks.items w =
    get_or_read s.stacks.items c.place_of-row.result _ (omega (arith, c.place_of-row.ensures.below, k.stack_rows)) c.index-2.ensures (record { list = []; room = 0 })
    ∙ ap (λ p. get_or s.stacks.items p (record { list = []; room = 0 })) c.place_of-row.ensures.place in
    let within : i < length (stack_at s.stacks.items w).list = subst (λ (t : StackView). i < length t.list) stack c.in_ok-at.ensures.some.0 in
    let is : get_or (stack_at s.stacks.items w).list i 0 ≡ b = sym (c.number_at-buffer.ensures ∙ ap (λ (t : StackView). get_or t.list i 0) again) in
    let on = is-on_row xs (filled_at s.filled.items w) (stack_at s.stacks.items w) w b i row within is in
    let shelf : c.call_next.new.self ≡ shelf_at xs b = c.call_next.ensures ∙ get_or_read xs b _ on.below c.index_mut-shelf.ensures.value empty_shelf in
    let can : IsOpen (shelf_at xs b) x = subst (λ (t : ShelfView). IsOpen t x) shelf c.in-Some.ensures.open in
    let had : c.has_touched-had_touched.result ≡ has_touched (shelf_at xs b) = c.has_touched-had_touched.ensures ∙ ap has_touched shelf in
    touched-room s.words xs s.made.items s.filled.items s.stacks.items s.touched k b on.below (with_made (shelf_at xs b) x) (sym had ∙ not-true _ e) (made-touched (shelf_at xs b) x can)

pub invariant_of-self : goal.invariant_of-self
invariant_of-self c =
    let s = c.self.inside in
    let k = c.self.invariant in
    let w = c.args.width in
    let xs = s.shelves.items in
    let b = c.number_at-buffer.result in
    let x = c.in-Some.place in
    let i = c.in_ok-at.at in
    let row = k.each_row w c.requires in
    let stack : c.index.result.now ≡ stack_at s.stacks.items w =
    get_or_read s.stacks.items c.place_of-row.result _ (omega (arith, c.place_of-row.ensures.below, k.stack_rows)) c.index.ensures (record { list = []; room = 0 })
    ∙ ap (λ p. get_or s.stacks.items p (record { list = []; room = 0 })) c.place_of-row.ensures.place in
    let again : c.index-2.result.now ≡ stack_at s.stacks.items w =
    get_or_read s.stacks.items c.place_of-row.result _ (omega (arith, c.place_of-row.ensures.below, k.stack_rows)) c.index-2.ensures (record { list = []; room = 0 })
    ∙ ap (λ p. get_or s.stacks.items p (record { list = []; room = 0 })) c.place_of-row.ensures.place in
    let within : i < length (stack_at s.stacks.items w).list = subst (λ (t : StackView). i < length t.list) stack c.in_ok-at.ensures.some.0 in
    let is : get_or (stack_at s.stacks.items w).list i 0 ≡ b = sym (c.number_at-buffer.ensures ∙ ap (λ (t : StackView). get_or t.list i 0) again) in
    let on = is-on_row xs (filled_at s.filled.items w) (stack_at s.stacks.items w) w b i row within is in
    let shelf : c.call_next.new.self ≡ shelf_at xs b = c.call_next.ensures ∙ get_or_read xs b _ on.below c.index_mut-shelf.ensures.value empty_shelf in
    let can : IsOpen (shelf_at xs b) x = subst (λ (t : ShelfView). IsOpen t x) shelf c.in-Some.ensures.open in
    let had : c.has_touched-had_touched.result ≡ has_touched (shelf_at xs b) = c.has_touched-had_touched.ensures ∙ ap has_touched shelf in
    let new : c.take.new.self ≡ with_made (shelf_at xs b) x = c.in-Some.ensures.made ∙ ap (λ (t : ShelfView). with_made t x) shelf in
    let still : c.index_mut-2.result.now ≡ stack_at s.stacks.items w =
    get_or_read s.stacks.items c.place_of-row.result _ (omega (arith, c.place_of-row.ensures.below, k.stack_rows)) c.index_mut-2.ensures.value (record { list = []; room = 0 })
    ∙ ap (λ p. get_or s.stacks.items p (record { list = []; room = 0 })) c.place_of-row.ensures.place in
    let more : c.has_spare.result ≡ can_make (with_made (shelf_at xs b) x) =
    c.has_spare.ensures ∙ ap (λ (t : ShelfView). nat_lt 0 (spare_of t)) new
    ∙ sym (ap (λ t. not t && nat_lt 0 (spare_of (with_made (shelf_at xs b) x))) (something-spare (shelf_at xs b) on.can).0) in
    let list = ap (λ (t : StackView). t.list) c.enter.ensures ∙ entered-list (not c.has_touched-had_touched.result) s.touched (s.touched.list ++ b ∷ []) in
    let room = ap (λ (t : StackView). t.room) c.enter.ensures ∙ entered-room (not c.has_touched-had_touched.result) s.touched (s.touched.list ++ b ∷ []) in
    took s.words xs s.made.items s.filled.items s.stacks.items s.touched k b on.below w x i on.wide on.can c.requires can within is
    c.has_spare.result more c.enter.new.self
    (subst (IsStack empty_shelf has_touched (set xs b (with_made (shelf_at xs b) x))) (sym list)
    (stack-enter empty_shelf has_touched xs s.touched.list k.touched_is b (with_made (shelf_at xs b) x) on.below (made-touched (shelf_at xs b) x can) c.has_touched-had_touched.result had))
    (omega (arith, k.touched_room, room))
    (set s.made.items c.place_of-row.result c.saturating_add.result) (length-set {A = ℕ} s.made.items c.place_of-row.result c.saturating_add.result ∙ k.made_rows)
    c.take.new.self c.place_of-row.result c.index_mut-2.result.now c.leave_at.new.self new c.place_of-row.ensures.place still c.leave_at.ensures

pub returns-clause-none : goal.returns-clause-none
returns-clause-none c =
    let s = c.self.inside in
    let k = c.self.invariant in
    let w = c.args.width in
    let xs = s.shelves.items in
    let b = c.number_at-buffer.result in
    let i = c.in_ok-at.at in
    let row = k.each_row w c.requires in
    let stack : c.index.result.now ≡ stack_at s.stacks.items w =
    get_or_read s.stacks.items c.place_of-row.result _ (omega (arith, c.place_of-row.ensures.below, k.stack_rows)) c.index.ensures (record { list = []; room = 0 })
    ∙ ap (λ p. get_or s.stacks.items p (record { list = []; room = 0 })) c.place_of-row.ensures.place in
    let again : c.index-2.result.now ≡ stack_at s.stacks.items w =
    get_or_read s.stacks.items c.place_of-row.result _ (omega (arith, c.place_of-row.ensures.below, k.stack_rows)) c.index-2.ensures (record { list = []; room = 0 })
    ∙ ap (λ p. get_or s.stacks.items p (record { list = []; room = 0 })) c.place_of-row.ensures.place in
    let within : i < length (stack_at s.stacks.items w).list = subst (λ (t : StackView). i < length t.list) stack c.in_ok-at.ensures.some.0 in
    let is : get_or (stack_at s.stacks.items w).list i 0 ≡ b = sym (c.number_at-buffer.ensures ∙ ap (λ (t : StackView). get_or t.list i 0) again) in
    let on = is-on_row xs (filled_at s.filled.items w) (stack_at s.stacks.items w) w b i row within is in
    let some : 0 < spare_of_width xs w = some-spare w xs b on.below (of-width w (shelf_at xs b) on.wide ∙ on.can) in
    let there : 0 < spare_of_width c.args.self.now.shelves w = subst (λ (v : ShelvesView). 0 < spare_of_width v.shelves w) c.self.view_is some in
    (λ e. absurd (true≢false e), λ e. absurd (omega (arith, there, e)))

pub returns-clause-takes : goal.returns-clause-takes
returns-clause-takes c =
    let s = c.self.inside in
    let k = c.self.invariant in
    let w = c.args.width in
    let xs = s.shelves.items in
    let b = c.number_at-buffer.result in
    let x = c.in-Some.place in
    let i = c.in_ok-at.at in
    let row = k.each_row w c.requires in
    let stack : c.index.result.now ≡ stack_at s.stacks.items w =
    get_or_read s.stacks.items c.place_of-row.result _ (omega (arith, c.place_of-row.ensures.below, k.stack_rows)) c.index.ensures (record { list = []; room = 0 })
    ∙ ap (λ p. get_or s.stacks.items p (record { list = []; room = 0 })) c.place_of-row.ensures.place in
    let again : c.index-2.result.now ≡ stack_at s.stacks.items w =
    get_or_read s.stacks.items c.place_of-row.result _ (omega (arith, c.place_of-row.ensures.below, k.stack_rows)) c.index-2.ensures (record { list = []; room = 0 })
    ∙ ap (λ p. get_or s.stacks.items p (record { list = []; room = 0 })) c.place_of-row.ensures.place in
    let within : i < length (stack_at s.stacks.items w).list = subst (λ (t : StackView). i < length t.list) stack c.in_ok-at.ensures.some.0 in
    let is : get_or (stack_at s.stacks.items w).list i 0 ≡ b = sym (c.number_at-buffer.ensures ∙ ap (λ (t : StackView). get_or t.list i 0) again) in
    let on = is-on_row xs (filled_at s.filled.items w) (stack_at s.stacks.items w) w b i row within is in
    let shelf : c.call_next.new.self ≡ shelf_at xs b = c.call_next.ensures ∙ get_or_read xs b _ on.below c.index_mut-shelf.ensures.value empty_shelf in
    let can : IsOpen (shelf_at xs b) x = subst (λ (t : ShelfView). IsOpen t x) shelf c.in-Some.ensures.open in
    let new : c.take.new.self ≡ with_made (shelf_at xs b) x = c.in-Some.ensures.made ∙ ap (λ (t : ShelfView). with_made t x) shelf in
    let one = subst (λ (t : StackView). i ≡ 0 → length t.list ≡ 1) stack c.in_ok-at.ensures.some.1 in
    let known = again-is x c.taken-next.result (length (shelf_at xs b).states) (c.taken-next.ensures.taken ∙ ap (λ (t : ShelfView). length t.states) shelf) can.within in
    let counted : c.saturating_add.result ≡ one_more (made_in s.made.items w) =
    c.saturating_add.ensures ∙ ap one_more (get_or_read s.made.items c.place_of-row.result _ (omega (arith, c.place_of-row.ensures.below, k.made_rows)) c.index-3.ensures 0
    ∙ ap (λ p. get_or s.made.items p 0) c.place_of-row.ensures.place) in
    let v : ShelvesView = record { words = s.words; shelves = xs; made = s.made.items; filled = s.filled.items } in
    record {
      below = subst (λ (v : ShelvesView). b < length v.shelves) c.self.view_is on.below;
      of_width = subst (λ (v : ShelvesView). (shelf_at v.shelves b).width ≡ w) c.self.view_is on.wide;
      unsealed = subst (λ (v : ShelvesView). (shelf_at v.shelves b).sealed ≡ false) c.self.view_is (something-spare (shelf_at xs b) on.can).0;
      is_open = subst (λ (v : ShelvesView). IsOpen (shelf_at v.shelves b) x) c.self.view_is can;
      again = subst (λ (v : ShelvesView). (not (nat_eq x c.taken-next.result) ≡ true → x < length (shelf_at v.shelves b).states)
          × (not (nat_eq x c.taken-next.result) ≡ false → x ≡ length (shelf_at v.shelves b).states)) c.self.view_is known;
      free_first = subst (λ (v : ShelvesView). x ≡ length (shelf_at v.shelves b).states → (a : ℕ) → (shelf_at v.shelves a).width ≡ w → (shelf_at v.shelves a).sealed ≡ false
          → count_by is_free_state (shelf_at v.shelves a).states ≡ 0) c.self.view_is
          (λ next a of unsealed. first-free xs (filled_at s.filled.items w) (stack_at s.stacks.items w) w b x i row within is one on.wide can next a of unsealed);
      new_is =
          ap (λ (n : ShelfView). with_taken v b n c.place_of-row.result c.saturating_add.result) new
          ∙ ap (λ p. with_taken v b (with_made (shelf_at xs b) x) p c.saturating_add.result) c.place_of-row.ensures.place
          ∙ ap (λ m. with_taken v b (with_made (shelf_at xs b) x) (row_of w) m) counted
          ∙ ap (λ (v : ShelvesView). with_taken v b (with_made (shelf_at v.shelves b) x) (row_of w) (one_more (made_in v.made w))) c.self.view_is;
    }
