-- Entries stand apart: a store of one word leaves the words of all others.
use Rattle.std.proofs.Common.{Option, Some, None, ◌≡◌, ◌≢◌, ℕ, suc, ◌+◌, ◌-◌, ◌*◌, ◌<◌, ◌≤◌, ◌⊎◌, inl, inr, Bool, true, false, cond, ◌&&◌, ltb, leb, List, [], length, get_or, set, take, drop, refl, sym}
use Rattle.std.proofs.Common.{ap, subst, ◌∙◌, arith, length-take, length-drop, get_or-set_other, get_or-set_same, ◌∷◌}
use Rattle.std.proofs.lemmas.List.{get_or-take, get_or-drop, drop-set-lt, drop-set-add, take-set-le}
use Rattle.std.specs.List.{list_all}
use Rattle.std.proofs.Math.Nat.{mul-le-mul_right, mul-le-mul_left}
use Rattle.std.proofs.lemmas.Nat.{same_from_place}
use Rattle.std.proofs.lemmas.Bool.{cases_lt, cases_eq, eq-eqb, ne_eqb, ltb-true, lt-ltb, cond-true, cond-false, and_from, and_left, and_right, and_parts, or_right, or_cases, leb-true, le-leb}
use Rattle.entry_ref.specs.References.{buffer_of, offset_of}
use Rattle.entry_ref.proofs.Bits.{same-ref}
use Rattle.entry_ref.specs.Places.{IsEntry}
use Rattle.entry_ref.proofs.Apart.{one_place, place-base, within}
use Rattle.mem_work.specs.Cells.{width_in, begin_of, stamp_at, names_entry, standing, was_stored_since, is_whole, stored_since}
use Rattle.arena_api.specs.Calls.{with_stored}
use Rattle.mem_work.specs.ProofsForMemory.{names_entry-true, names_entry-from}

-- a range without the place that is written stays
pub range-set_other : (ws : List ℕ) (p q w v : ℕ) → (p < q) ⊎ (q + w ≤ p) → take w (drop q (set ws p v)) ≡ take w (drop q ws)
range-set_other ws p q w v (inl h) = ap (take w) (drop-set-lt q ws p v h)
range-set_other ws p q w v (inr h) =
    let at : q + (p - q) ≡ p = omega arith in
    ap (λ n. take w (drop q (set ws n v))) (sym at) ∙ ap (take w) (drop-set-add q ws (p - q) v) ∙ take-set-le w (drop q ws) (p - q) v (omega arith)

-- a range that lacks a place lies on one side of it
pub lacks : (p q w : ℕ) → ((j : ℕ) → j < w → p ≢ q + j) → (p < q) ⊎ (q + w ≤ p)
lacks p q w none = elim (cases_lt p q) [ inl h ↦ inl h | inr h ↦ elim (cases_lt p (q + w)) [ inl k ↦ absurd (none (p - q) (omega arith) (omega arith)) | inr k ↦ inr k ] ]

-- two words at one place are one word of one entry
pub one_cell : (bits buffers words v w r q i j : ℕ) → IsEntry bits buffers words v r → IsEntry bits buffers words w q → (buffer_of bits r ≡ buffer_of bits q → v ≡ w) → i < v → j < w
    → begin_of bits words v r + i ≡ begin_of bits words w q + j → (r ≡ q) × (i ≡ j)
one_cell bits buffers words v w r q i j e f widths h k same =
    one_place bits buffers words v w r q i j e f widths h k (omega arith)

-- no word of an entry is a buffer's first
pub not_first : (bits buffers words width r i b : ℕ) → IsEntry bits buffers words width r → i < width → begin_of bits words width r + i ≢ b * words
not_first bits buffers words width r i b e h same = place-base bits buffers words width r i b e h (omega arith)

-- an entry's words are among the words
pub cell-below : (bits buffers words width r i : ℕ) → IsEntry bits buffers words width r → i < width → begin_of bits words width r + i < buffers * words
cell-below bits buffers words width r i e h =
    let inside = (within e i h).1 in
    let more : suc (buffer_of bits r) * words ≤ buffers * words = mul-le-mul_right words e.inside in
    omega arith

pub cond-same : {A : Type 0} (t : Bool) (x y z : A) → (t ≡ true → x ≡ y) → cond t x z ≡ cond t y z
cond-same true x y z same = same refl
cond-same false x y z same = refl

pub and-same : (t a b : Bool) → (t ≡ true → a ≡ b) → (t && a) ≡ (t && b)
and-same true a b same = same refl
and-same false a b same = refl

pub cond-and : {A : Type 0} (a b c d : Bool) (x y z : A) → (a ≡ true → b ≡ true → (c ≡ d) × (x ≡ y)) → cond (a && (b && c)) x z ≡ cond (a && (b && d)) y z
cond-and true true c d x y z same = let both = same refl refl in ap (λ t. cond t x z) both.0 ∙ ap (λ w. cond d w z) both.1
cond-and true false c d x y z same = refl
cond-and false b c d x y z same = refl

-- an entry's offset is one of its buffer's words
pub entry-offset : (bits buffers words width r : ℕ) → IsEntry bits buffers words width r → offset_of bits r < words
entry-offset bits buffers words width r e =
    let some : offset_of bits r * 1 ≤ offset_of bits r * width = mul-le-mul_left (offset_of bits r) e.wide in
    let last = (within e 0 e.wide).1 in
    omega arith

-- the stamp of an entry lies behind those of all words
pub stamp-below : (bits buffers words width r : ℕ) → IsEntry bits buffers words width r → stamp_at bits buffers words r < buffers * words + buffers * words
stamp-below bits buffers words width r e =
    let more : suc (buffer_of bits r) * words ≤ buffers * words = mul-le-mul_right words e.inside in
    omega (arith, entry-offset bits buffers words width r e)

-- no other entry has it
pub one_stamp : (bits buffers words v w r q : ℕ) → IsEntry bits buffers words v r → IsEntry bits buffers words w q → stamp_at bits buffers words r ≡ stamp_at bits buffers words q → r ≡ q
one_stamp bits buffers words v w r q e f same =
    let both = same_from_place (buffer_of bits r) (offset_of bits r) (buffer_of bits q) (offset_of bits q) words (entry-offset bits buffers words v r e)
    (entry-offset bits buffers words w q f) (omega (arith, same)) in
    same-ref bits r q both.1 both.0

-- what was stored since a stamp was so with its entry, or alone
pub since-parts : (n a b : ℕ) → was_stored_since n a b ≡ true → (n ≤ a) ⊎ (n ≤ b)
since-parts n a b is = elim (or_cases (leb n a) (leb n b) is) [ inl h ↦ inl (leb-true n a h) | inr h ↦ inr (leb-true n b h) ]

-- one word of an entry is stored
module _ (table : List ℕ) (bits buffers words r i : ℕ) (e : IsEntry bits buffers words (width_in table words (buffer_of bits r)) r) (h : i < width_in table words (buffer_of bits r)) where
  -- no other entry has its place
  range_other : (ts : List ℕ) (q x : ℕ) → q ≢ r → names_entry bits buffers words (width_in table words (buffer_of bits q)) q ≡ true
      → take (width_in table words (buffer_of bits q)) (drop (begin_of bits words (width_in table words (buffer_of bits q)) q) (set ts (begin_of bits words (width_in table words (buffer_of bits r)) r + i) x))
      ≡ take (width_in table words (buffer_of bits q)) (drop (begin_of bits words (width_in table words (buffer_of bits q)) q) ts)
  range_other ts q x ne there =
      range-set_other ts _ _ _ x (lacks _ _ _ (λ j k same.
      ne (sym (one_cell bits buffers words _ _ r q i j e (names_entry-true _ _ _ _ q there) (λ b. ap (width_in table words) b) h k same).0)))

  -- the widths stay
  pub width-store : (v b : ℕ) → width_in (set table (begin_of bits words (width_in table words (buffer_of bits r)) r + i) v) words b ≡ width_in table words b
  width-store v b = get_or-set_other table _ (b * words) v 0 (λ same. not_first bits buffers words _ r i b e h (sym same))

  -- and what stands elsewhere
  pub standing-other : (v q : ℕ) → q ≢ r → standing (set table (begin_of bits words (width_in table words (buffer_of bits r)) r + i) v) bits buffers words q ≡ standing table bits buffers words q
  unfolding standing
  standing-other v q ne =
      ap (λ w. cond (names_entry bits buffers words w q) (take w (drop (begin_of bits words w q) (set table (begin_of bits words (width_in table words (buffer_of bits r)) r + i) v))) [])
      (width-store v (buffer_of bits q))
      ∙ cond-same _ _ _ [] (range_other table q v ne)

  -- and whether that was stored whole
  pub whole-other : (stamps : List ℕ) (v n q : ℕ) → length stamps ≡ buffers * words + buffers * words → q ≢ r
      → is_whole (set table (begin_of bits words (width_in table words (buffer_of bits r)) r + i) v) (set stamps (begin_of bits words (width_in table words (buffer_of bits r)) r + i) n) bits buffers words n q
      ≡ is_whole table stamps bits buffers words n q
  unfolding is_whole
  whole-other stamps v n q also ne =
      let place = begin_of bits words (width_in table words (buffer_of bits r)) r + i in
      let s = set stamps place n in
      let w = width_in table words (buffer_of bits q) in
      ap (λ u. names_entry bits buffers words u q && list_all (was_stored_since n (get_or s (stamp_at bits buffers words q) 0)) (take u (drop (begin_of bits words u q) s))) (width-store v (buffer_of bits q))
      ∙ ap (λ x. names_entry bits buffers words w q && list_all (was_stored_since n x) (take w (drop (begin_of bits words w q) s)))
      (get_or-set_other stamps place (stamp_at bits buffers words q) n 0 (λ same.
      omega (arith, same, cell-below bits buffers words (width_in table words (buffer_of bits r)) r i e h)))
      ∙ and-same _ _ _ (λ there. ap (list_all (was_stored_since n (get_or stamps (stamp_at bits buffers words q) 0))) (range_other stamps q n ne there))

  -- what was stored is one word more
  pub stored-store : (stamps : List ℕ) (v n q j : ℕ) → length table ≡ buffers * words → length stamps ≡ buffers * words + buffers * words
      → stored_since (set table (begin_of bits words (width_in table words (buffer_of bits r)) r + i) v) (set stamps (begin_of bits words (width_in table words (buffer_of bits r)) r + i) n) bits buffers words n q j
      ≡ with_stored (stored_since table stamps bits buffers words n) r i v q j
  unfolding stored_since
  stored-store stamps v n q j room also = moved ∙ elim (cases_eq q r) [
    | inl e ↦ elim (cases_eq j i) [
      | inl f ↦ subst (λ k. here k j ≡ with_stored before r i v k j) (sym e) (subst (λ k. here r k ≡ with_stored before r i v r k) (sym f) at_place)
      | inr f ↦ apart_from (λ g. f g.1) ∙ sym (cond-false _ _ _ (and_right _ _ (ne_eqb j i f)))
    ]
    | inr e ↦ apart_from (λ g. e g.0) ∙ sym (cond-false _ _ _ (and_left _ _ (ne_eqb q r e)))
  ]
    where
      before : ℕ → ℕ → Option ℕ
      before = stored_since table stamps bits buffers words n

      place : ℕ
      place = begin_of bits words (width_in table words (buffer_of bits r)) r + i

      s : List ℕ
      s = set stamps place n

      with_width : ℕ → ℕ → ℕ → Option ℕ
      with_width k l w =
          cond (names_entry bits buffers words w k && (ltb l w && was_stored_since n (get_or s (stamp_at bits buffers words k) 0) (get_or s (begin_of bits words w k + l) 0)))
          (Some (get_or (set table place v) (begin_of bits words w k + l) 0)) None

      here : ℕ → ℕ → Option ℕ
      here k l = with_width k l (width_in table words (buffer_of bits k))

      moved : stored_since (set table (begin_of bits words (width_in table words (buffer_of bits r)) r + i) v) s bits buffers words n q j ≡ here q j
      moved = ap (with_width q j) (width-store v (buffer_of bits q))

      below : begin_of bits words (width_in table words (buffer_of bits r)) r + i < buffers * words
      below = cell-below bits buffers words (width_in table words (buffer_of bits r)) r i e h

      apart_from : ((q ≡ r) × (j ≡ i) → ⊥) → here q j ≡ before q j
      apart_from ne =
          cond-and _ _ _ _ _ _ _ (λ there less.
          let other : begin_of bits words (width_in table words (buffer_of bits q)) q + j ≢ begin_of bits words (width_in table words (buffer_of bits r)) r + i =
          (λ same. ne (one_cell bits buffers words _ _ q r j i (names_entry-true _ _ _ _ q there) e (λ b. ap (width_in table words) b) (ltb-true _ _ less) h same)) in
          let w = width_in table words (buffer_of bits q) in (
            ap (λ x. was_stored_since n x (get_or s (begin_of bits words w q + j) 0))
                (get_or-set_other stamps place (stamp_at bits buffers words q) n 0 (λ same. omega (arith, same, below)))
                ∙ ap (was_stored_since n (get_or stamps (stamp_at bits buffers words q) 0)) (get_or-set_other stamps _ _ _ 0 other),
            ap Some (get_or-set_other table _ _ v 0 other),
          ))

      at_place : here r i ≡ with_stored before r i v r i
      at_place =
          cond-true _ _ _ (and_from _ _ (names_entry-from bits buffers words (width_in table words (buffer_of bits r)) r e)
          (and_from _ _ (lt-ltb _ _ h) (or_right _ _ (le-leb n (get_or s place 0) (omega (arith, get_or-set_same stamps place n 0 (omega (arith, below, also))))))))
          ∙ ap Some (get_or-set_same table _ v 0 (omega (arith, below, room)))
          ∙ sym (cond-true _ _ _ (and_from _ _ (eq-eqb r r refl) (eq-eqb i i refl)))

first_from : (p : ℕ → Bool) (xs : List ℕ) → 0 < length xs → list_all p xs ≡ true → p (get_or xs 0 0) ≡ true
first_from p [] some all = absurd (omega arith)
first_from p (x ∷ xs) some all = (and_parts _ _ all).0

-- what was stored whole has its first word stored
pub whole-first : (table stamps : List ℕ) (bits buffers words n r : ℕ) → length stamps ≡ buffers * words + buffers * words → is_whole table stamps bits buffers words n r ≡ true
    → IsEntry bits buffers words (width_in table words (buffer_of bits r)) r
    × (was_stored_since n (get_or stamps (stamp_at bits buffers words r) 0) (get_or stamps (begin_of bits words (width_in table words (buffer_of bits r)) r + 0) 0) ≡ true)
unfolding is_whole
whole-first table stamps bits buffers words n r room is =
    let width = width_in table words (buffer_of bits r) in
    let parts = and_parts _ _ is in
    let e = names_entry-true bits buffers words width r parts.0 in
    let below = cell-below bits buffers words width r 0 e e.wide in
    let wide = e.wide in
    let some : 0 < length (take width (drop (begin_of bits words width r) stamps)) = simp (length-take, length-drop) (omega arith) in
    let since = was_stored_since n (get_or stamps (stamp_at bits buffers words r) 0) in
    (e, sym (ap since (get_or-take width (drop (begin_of bits words width r) stamps) 0 0 wide ∙ get_or-drop _ stamps 0 0)) ∙ first_from since _ some parts.1)
