use Rattle.std.proofs.Common.{◌≡◌, ◌<◌, ◌-◌, Bool, true, false, not, ◌&&◌, cond, take, length, set, refl, sym, ap, subst, ◌∙◌, arith}
use Rattle.std.proofs.lemmas.List.{get_or_read}
use Rattle.std.proofs.lemmas.Bool.{not-true, and_parts}
use Rattle.entry_ledger.specs.declared.state.State.{State}
use Rattle.entry_ledger.specs.States.{ShelfView, empty_shelf, has_one_spare, has_one_touched, has_touched, is_free_state, is_touched, is_freed, state_at, settled_state, with_state_at}
use Rattle.entry_ledger.specs.Stacks.{IsStack}
use Rattle.entry_ledger.proofs.Settling.{settled-free, settled-touched, freed-is}
use Rattle.entry_ledger.specs.Shelves.{shelf_at}
use Rattle.entry_ledger.specs.ShelvesKept.{StackView, stack_at}
use Rattle.entry_ledger.proofs.Making.{state-gains, state-untouched}
use Rattle.entry_ledger.proofs.Gains.{row-room, gained-row, touched-leave, entered-list, entered-room}
use Rattle.entry_ledger.proofs.shelves.Shelves.settle.Goals as goal
use Rattle.entry_ledger.proofs.shelves.Shelves.settle.Goals.{then-frees, else-frees}

pub enter_row-requires-clause-room : goal.enter_row-requires-clause-room
enter_row-requires-clause-room c e =
    let s = c.self.inside in
    let k = c.self.invariant in
    let xs = s.shelves.items in
    let b = c.in_ok-buffer.buffer in
    let x = c.in-Some.step.place in
    let top = c.in_ok-buffer.ensures.last b refl in
    let h : b < length xs = subst (λ n. n < length xs) top.1 (k.touched_is.below (length s.touched.list - 1) (omega (arith, top.0))) in
    let old : ShelfView = shelf_at xs b in
    let shelf : c.index_mut-shelf.result.now ≡ old = get_or_read xs b _ h c.index_mut-shelf.ensures.value empty_shelf in
    let there : x < length old.states = subst (λ (t : ShelfView). x < length t.states) shelf c.in-Some.ensures.settled.below in
    let before : State = state_at old.states x in
    let now : State = c.in-Some.step.now in
    let was : c.in-Some.step.was ≡ before = c.in-Some.ensures.settled.was ∙ ap (λ (t : ShelfView). state_at t.states x) shelf in
    let now_is : now ≡ settled_state c.args.accepts c.args.last c.args.generation before =
    c.in-Some.ensures.settled.now ∙ ap (settled_state c.args.accepts c.args.last c.args.generation) was in
    let keeps : is_free_state before ≡ true → is_free_state now ≡ true = (λ e. ap is_free_state now_is ∙ settled-free c.args.accepts c.args.last c.args.generation _ e) in
    let new : c.settle.new.self ≡ with_state_at old x now = c.in-Some.ensures.settled.same ∙ ap (λ (t : ShelfView). with_state_at t x now) shelf in
    let wide : c.width-width.result ≡ old.width = c.width-width.ensures ∙ ap (λ (t : ShelfView). t.width) new in
    let frees : c.is_freed-frees.result ≡ (is_free_state now && not (is_free_state before)) =
    c.is_freed-frees.ensures ∙ ap (is_freed c.args.accepts) was ∙ freed-is c.args.accepts c.args.last c.args.generation before
    ∙ ap (λ t. is_free_state t && not (is_free_state before)) (sym now_is) in
    let both : c.if-frees.enters ≡ ((is_free_state now && not (is_free_state before)) && has_one_spare (with_state_at old x now)) =
    elim c.if-frees.branch [
      | then-frees w ↦ w.enters-is ∙ w.has_one_spare-enters.ensures ∙ ap has_one_spare new ∙ sym (ap (λ (t : Bool). t && has_one_spare (with_state_at old x now)) (sym frees ∙ w.if-frees.true))
      | else-frees w ↦ w.enters-is ∙ w.if-frees.false ∙ sym (ap (λ (t : Bool). t && has_one_spare (with_state_at old x now)) (sym frees ∙ w.if-frees.false))
    ] in
    let parts = and_parts _ _ (sym (state-gains old x now there keeps) ∙ sym both ∙ e) in
    subst (λ w. length (stack_at s.stacks.items w).list < (stack_at s.stacks.items w).room) (sym wide)
    (row-room s.words xs s.made.items s.filled.items s.stacks.items s.touched k b h (with_state_at old x now) x there refl (not-true _ parts.1) parts.0)

pub invariant_of-self : goal.invariant_of-self
invariant_of-self c =
    let s = c.self.inside in
    let k = c.self.invariant in
    let xs = s.shelves.items in
    let b = c.in_ok-buffer.buffer in
    let x = c.in-Some.step.place in
    let top = c.in_ok-buffer.ensures.last b refl in
    let h : b < length xs = subst (λ n. n < length xs) top.1 (k.touched_is.below (length s.touched.list - 1) (omega (arith, top.0))) in
    let old : ShelfView = shelf_at xs b in
    let shelf : c.index_mut-shelf.result.now ≡ old = get_or_read xs b _ h c.index_mut-shelf.ensures.value empty_shelf in
    let there : x < length old.states = subst (λ (t : ShelfView). x < length t.states) shelf c.in-Some.ensures.settled.below in
    let before : State = state_at old.states x in
    let now : State = c.in-Some.step.now in
    let was : c.in-Some.step.was ≡ before = c.in-Some.ensures.settled.was ∙ ap (λ (t : ShelfView). state_at t.states x) shelf in
    let now_is : now ≡ settled_state c.args.accepts c.args.last c.args.generation before =
    c.in-Some.ensures.settled.now ∙ ap (settled_state c.args.accepts c.args.last c.args.generation) was in
    let keeps : is_free_state before ≡ true → is_free_state now ≡ true = (λ e. ap is_free_state now_is ∙ settled-free c.args.accepts c.args.last c.args.generation _ e) in
    let new : c.settle.new.self ≡ with_state_at old x now = c.in-Some.ensures.settled.same ∙ ap (λ (t : ShelfView). with_state_at t x now) shelf in
    let wide : c.width-width.result ≡ old.width = c.width-width.ensures ∙ ap (λ (t : ShelfView). t.width) new in
    let frees : c.is_freed-frees.result ≡ (is_free_state now && not (is_free_state before)) =
    c.is_freed-frees.ensures ∙ ap (is_freed c.args.accepts) was ∙ freed-is c.args.accepts c.args.last c.args.generation before
    ∙ ap (λ t. is_free_state t && not (is_free_state before)) (sym now_is) in
    let both : c.if-frees.enters ≡ ((is_free_state now && not (is_free_state before)) && has_one_spare (with_state_at old x now)) =
    elim c.if-frees.branch [
      | then-frees w ↦ w.enters-is ∙ w.has_one_spare-enters.ensures ∙ ap has_one_spare new ∙ sym (ap (λ (t : Bool). t && has_one_spare (with_state_at old x now)) (sym frees ∙ w.if-frees.true))
      | else-frees w ↦ w.enters-is ∙ w.if-frees.false ∙ sym (ap (λ (t : Bool). t && has_one_spare (with_state_at old x now)) (sym frees ∙ w.if-frees.false))
    ] in
    let touched : is_touched before ≡ true = ap is_touched (sym was) ∙ c.in-Some.ensures.settled.touched in
    let untouched : is_touched now ≡ false = ap is_touched now_is ∙ settled-touched c.args.accepts c.args.last c.args.generation before in
    let leaves : c.has_one_touched.result ≡ not (has_touched (with_state_at old x now)) =
    c.has_one_touched.ensures ∙ ap has_one_touched shelf ∙ state-untouched old x now there touched untouched in
    let list = ap (λ (t : StackView). t.list) c.leave.ensures ∙ entered-list c.has_one_touched.result s.touched (take (length s.touched.list - 1) s.touched.list)
    ∙ ap (λ t. cond t (take (length s.touched.list - 1) s.touched.list) s.touched.list) leaves in
    let room = ap (λ (t : StackView). t.room) c.leave.ensures ∙ entered-room c.has_one_touched.result s.touched (take (length s.touched.list - 1) s.touched.list) in
    gained-row s.words xs s.made.items s.filled.items s.stacks.items s.touched k b h x now there keeps
    c.if-frees.enters (both ∙ state-gains old x now there keeps)
    c.leave.new.self
    (subst (IsStack empty_shelf has_touched (set xs b (with_state_at old x now))) (sym list)
    (touched-leave s.words xs s.made.items s.filled.items s.stacks.items s.touched k b h (with_state_at old x now) (has_touched (with_state_at old x now)) refl top.0 top.1))
    (omega (arith, k.touched_room, room))
    c.settle.new.self c.width-width.result c.enter_row.new.stacks.items new wide c.enter_row.ensures
