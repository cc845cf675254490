use Rattle.std.proofs.Common.{◌≡◌, ◌<◌, ℕ, true, false, not, ◌∷◌, ◌++◌, [], length, get_or, set, sym, ap, subst, ◌∙◌, arith}
use Rattle.std.specs.List.{count_by}
use Rattle.std.proofs.Math.ListN.{length-set}
use Rattle.std.proofs.lemmas.List.{get_or_read}
use Rattle.std.proofs.lemmas.Bool.{not-true, true≢false}
use Rattle.store_api.specs.Ledgers.{one_more}
use Rattle.entry_ledger.specs.States.{ShelfView, empty_shelf, has_free_and_more, has_touched, is_free_state, IsOpen, with_made}
use Rattle.entry_ledger.specs.Stacks.{IsStack}
use Rattle.entry_ledger.proofs.StackSteps.{stack-enter}
use Rattle.entry_ledger.specs.Shelves.{ShelvesView, shelf_at, row_of, made_in, spare_of_width}
use Rattle.entry_ledger.specs.ShelvesKept.{StackView}
use Rattle.entry_ledger.proofs.Steps.{some-spare, of-width}
use Rattle.entry_ledger.proofs.Making.{made-touched, has-more, open-free}
use Rattle.entry_ledger.proofs.Gains.{touched-room, took-inside, entered-list, entered-room, with_taken}
use Rattle.entry_ledger.proofs.shelves.Shelves.take_free.Goals as goal

pub enter-requires : goal.enter-requires
enter-requires c e =
    let s = c.self.inside in
    let k = c.self.invariant in
    let w = c.args.width in
    let xs = s.shelves.items in
    let b = c.args.buffer in
    let x = c.in-Some.place in
    let below : b < length xs = subst (λ (v : ShelvesView). b < length v.shelves) (sym c.self.view_is) c.requires.inside in
    let wide : (shelf_at xs b).width ≡ w = subst (λ (v : ShelvesView). (shelf_at v.shelves b).width ≡ w) (sym c.self.view_is) c.requires.of in
    let more = has-more (shelf_at xs b) (subst (λ (v : ShelvesView). has_free_and_more (shelf_at v.shelves b) ≡ true) (sym c.self.view_is) c.requires.more) in
    let shelf : c.index_mut-shelf.result.now ≡ shelf_at xs b = get_or_read xs b _ below c.index_mut-shelf.ensures.value empty_shelf in
    let can : IsOpen (shelf_at xs b) x = subst (λ (t : ShelfView). IsOpen t x) shelf c.in-Some.ensures.open in
    let had : c.has_touched-had_touched.result ≡ has_touched (shelf_at xs b) = c.has_touched-had_touched.ensures ∙ ap has_touched shelf in
    touched-room s.words xs s.made.items s.filled.items s.stacks.items s.touched k b below (with_made (shelf_at xs b) x) (sym had ∙ not-true _ e) (made-touched (shelf_at xs b) x can)

pub invariant_of-self : goal.invariant_of-self
invariant_of-self c =
    let s = c.self.inside in
    let k = c.self.invariant in
    let w = c.args.width in
    let xs = s.shelves.items in
    let b = c.args.buffer in
    let x = c.in-Some.place in
    let below : b < length xs = subst (λ (v : ShelvesView). b < length v.shelves) (sym c.self.view_is) c.requires.inside in
    let wide : (shelf_at xs b).width ≡ w = subst (λ (v : ShelvesView). (shelf_at v.shelves b).width ≡ w) (sym c.self.view_is) c.requires.of in
    let more = has-more (shelf_at xs b) (subst (λ (v : ShelvesView). has_free_and_more (shelf_at v.shelves b) ≡ true) (sym c.self.view_is) c.requires.more) in
    let shelf : c.index_mut-shelf.result.now ≡ shelf_at xs b = get_or_read xs b _ below c.index_mut-shelf.ensures.value empty_shelf in
    let can : IsOpen (shelf_at xs b) x = subst (λ (t : ShelfView). IsOpen t x) shelf c.in-Some.ensures.open in
    let had : c.has_touched-had_touched.result ≡ has_touched (shelf_at xs b) = c.has_touched-had_touched.ensures ∙ ap has_touched shelf in
    let new : c.take.new.self ≡ with_made (shelf_at xs b) x = c.in-Some.ensures.made ∙ ap (λ (t : ShelfView). with_made t x) shelf in
    let list = ap (λ (t : StackView). t.list) c.enter.ensures ∙ entered-list (not c.has_touched-had_touched.result) s.touched (s.touched.list ++ b ∷ []) in
    let room = ap (λ (t : StackView). t.room) c.enter.ensures ∙ entered-room (not c.has_touched-had_touched.result) s.touched (s.touched.list ++ b ∷ []) in
    took-inside s.words xs s.made.items s.filled.items s.stacks.items s.touched k b below w x wide more.can c.requires.width can (more.still x (k.each_shelf b).taken can) c.enter.new.self
    (subst (IsStack empty_shelf has_touched (set xs b (with_made (shelf_at xs b) x))) (sym list)
    (stack-enter empty_shelf has_touched xs s.touched.list k.touched_is b (with_made (shelf_at xs b) x) below (made-touched (shelf_at xs b) x can) c.has_touched-had_touched.result had))
    (omega (arith, k.touched_room, room))
    (set s.made.items c.place_of-row.result c.saturating_add.result) (length-set {A = ℕ} s.made.items c.place_of-row.result c.saturating_add.result ∙ k.made_rows)
    c.take.new.self new

pub returns-clause-some : goal.returns-clause-some
returns-clause-some c =
    let s = c.self.inside in
    let w = c.args.width in
    let xs = s.shelves.items in
    let b = c.args.buffer in
    let below : b < length xs = subst (λ (v : ShelvesView). b < length v.shelves) (sym c.self.view_is) c.requires.inside in
    let wide : (shelf_at xs b).width ≡ w = subst (λ (v : ShelvesView). (shelf_at v.shelves b).width ≡ w) (sym c.self.view_is) c.requires.of in
    let more = has-more (shelf_at xs b) (subst (λ (v : ShelvesView). has_free_and_more (shelf_at v.shelves b) ≡ true) (sym c.self.view_is) c.requires.more) in
    subst (λ (v : ShelvesView). 0 < spare_of_width v.shelves w) c.self.view_is (some-spare w xs b below (of-width w (shelf_at xs b) wide ∙ more.can))

pub returns-clause-takes : goal.returns-clause-takes
returns-clause-takes c =
    let s = c.self.inside in
    let k = c.self.invariant in
    let w = c.args.width in
    let xs = s.shelves.items in
    let b = c.args.buffer in
    let x = c.in-Some.place in
    let below : b < length xs = subst (λ (v : ShelvesView). b < length v.shelves) (sym c.self.view_is) c.requires.inside in
    let wide : (shelf_at xs b).width ≡ w = subst (λ (v : ShelvesView). (shelf_at v.shelves b).width ≡ w) (sym c.self.view_is) c.requires.of in
    let more = has-more (shelf_at xs b) (subst (λ (v : ShelvesView). has_free_and_more (shelf_at v.shelves b) ≡ true) (sym c.self.view_is) c.requires.more) in
    let shelf : c.index_mut-shelf.result.now ≡ shelf_at xs b = get_or_read xs b _ below c.index_mut-shelf.ensures.value empty_shelf in
    let can : IsOpen (shelf_at xs b) x = subst (λ (t : ShelfView). IsOpen t x) shelf c.in-Some.ensures.open in
    let new : c.take.new.self ≡ with_made (shelf_at xs b) x = c.in-Some.ensures.made ∙ ap (λ (t : ShelfView). with_made t x) shelf in
    let less : x < length (shelf_at xs b).states = open-free (shelf_at xs b) x can more.free in
    let counted : c.saturating_add.result ≡ one_more (made_in s.made.items w) =
    c.saturating_add.ensures ∙ ap one_more (get_or_read s.made.items c.place_of-row.result _ (omega (arith, c.place_of-row.ensures.below, k.made_rows)) c.index.ensures 0
    ∙ ap (λ p. get_or s.made.items p 0) c.place_of-row.ensures.place) in
    let v : ShelvesView = record { words = s.words; shelves = xs; made = s.made.items; filled = s.filled.items } in
    record {
      below = c.requires.inside;
      of_width = c.requires.of;
      unsealed = subst (λ (v : ShelvesView). (shelf_at v.shelves b).sealed ≡ false) c.self.view_is more.unsealed;
      is_open = subst (λ (v : ShelvesView). IsOpen (shelf_at v.shelves b) x) c.self.view_is can;
      again = (λ t. subst (λ (v : ShelvesView). x < length (shelf_at v.shelves b).states) c.self.view_is less, λ f. absurd (true≢false f));
      free_first = subst (λ (v : ShelvesView). x ≡ length (shelf_at v.shelves b).states → (a : ℕ) → (shelf_at v.shelves a).width ≡ w → (shelf_at v.shelves a).sealed ≡ false
          → count_by is_free_state (shelf_at v.shelves a).states ≡ 0) c.self.view_is (λ next a of unsealed. absurd (omega (arith, next, less)));
      new_is =
          ap (λ (n : ShelfView). with_taken v b n c.place_of-row.result c.saturating_add.result) new
          ∙ ap (λ p. with_taken v b (with_made (shelf_at xs b) x) p c.saturating_add.result) c.place_of-row.ensures.place
          ∙ ap (λ m. with_taken v b (with_made (shelf_at xs b) x) (row_of w) m) counted
          ∙ ap (λ (v : ShelvesView). with_taken v b (with_made (shelf_at v.shelves b) x) (row_of w) (one_more (made_in v.made w))) c.self.view_is;
    }
