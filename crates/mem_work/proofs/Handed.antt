-- A free buffer gets a width: nothing stands or was stored in it.
use Rattle.std.proofs.Common.{◌≡◌, ◌≢◌, ℕ, zero, suc, ◌+◌, ◌*◌, ◌<◌, inl, inr, true, cond, ◌&&◌, ltb, List, [], length, get_or, set, take, drop, Option, Some, None, refl, sym, ap, subst, ◌∙◌, arith, get_or-set_other}
use Rattle.std.proofs.Common.{get_or-set_same}
use Rattle.std.specs.List.{list_all}
use Rattle.std.proofs.lemmas.Bool.{cases_eq, false_from_ne_true, eq-eqb, ne_eqb, ltb-true}
use Rattle.std.proofs.lemmas.Nat.{same_from_place}
use Rattle.entry_ref.specs.References.{buffer_of, offset_of}
use Rattle.entry_ref.specs.Places.{IsEntry}
use Rattle.entry_ref.proofs.Apart.{within}
use Rattle.arena_api.specs.Works.{Buffer, last_tag}
use Rattle.arena_api.specs.Calls.{with_buffer}
use Rattle.mem_work.specs.Cells.{width_in, begin_of, stamp_at, names_entry, standing, was_stored_since, is_whole, stored_since, buffer_by, buffer_in}
use Rattle.mem_work.proofs.Standing.{range-set_other, lacks, not_first, cond-same, cond-and}
use Rattle.mem_work.specs.ProofsForMemory.{names_entry-true}
use Rattle.mem_work.proofs.Standing.{since-parts, whole-first, entry-offset}
use Rattle.mem_work.specs.ProofsForMemory.{is_stored}

pub none-from : (o : Option ℕ) → ((x : ℕ) → o ≡ Some x → ⊥) → o ≡ None
none-from None never = refl
none-from (Some x) never = absurd (never x refl)

module _ (table : List ℕ) (bits buffers words b width : ℕ) (free : width_in table words b ≡ 0) (some : 0 < words) (inside : b * words < length table) (wide : 0 < width) where
  pub width-other : (a : ℕ) → a ≢ b → width_in (set table (b * words) width) words a ≡ width_in table words a
  width-other a ne = get_or-set_other table (b * words) (a * words) width 0 (λ same. ne (same_from_place a 0 b 0 words some some (omega (arith, same))).0)

  pub width-new : width_in (set table (b * words) width) words b ≡ width
  width-new = get_or-set_same table (b * words) width 0 inside

  pub buffers-handed : (a : ℕ) → buffer_in (set table (b * words) width) words a ≡ with_buffer (buffer_in table words) b (Buffer.active width (last_tag (buffer_in table words b))) a
  buffers-handed a = elim (cases_eq a b) [
    | inl e ↦
        ap (λ c. buffer_in (set table (b * words) width) words c) e
        ∙ ap buffer_by width-new ∙ made width wide
        ∙ ap (λ n. Buffer.active width (last_tag (buffer_by n))) (sym free)
        ∙ ap (λ t. cond t (Buffer.active width (last_tag (buffer_in table words b))) (buffer_in table words a)) (sym (eq-eqb a b e))
    | inr ne ↦
        ap buffer_by (width-other a ne)
        ∙ ap (λ t. cond t (Buffer.active width (last_tag (buffer_in table words b))) (buffer_in table words a)) (sym (ne_eqb a b ne))
  ]
    where
      made : (w : ℕ) → 0 < w → buffer_by w ≡ Buffer.active w None
      made zero h = absurd (omega arith)
      made (suc w) h = refl

  -- the words of entries of the other buffers stay
  range-handed : (q : ℕ) → names_entry bits buffers words (width_in table words (buffer_of bits q)) q ≡ true
      → take (width_in table words (buffer_of bits q)) (drop (begin_of bits words (width_in table words (buffer_of bits q)) q) (set table (b * words) width))
      ≡ take (width_in table words (buffer_of bits q)) (drop (begin_of bits words (width_in table words (buffer_of bits q)) q) table)
  range-handed q there = range-set_other table (b * words) _ _ width (lacks _ _ _ (λ j h same. not_first bits buffers words _ q j b (names_entry-true _ _ _ _ q there) h (sym same)))

  word-handed : (q i : ℕ) → names_entry bits buffers words (width_in table words (buffer_of bits q)) q ≡ true → ltb i (width_in table words (buffer_of bits q)) ≡ true
      → get_or (set table (b * words) width) (begin_of bits words (width_in table words (buffer_of bits q)) q + i) 0 ≡ get_or table (begin_of bits words (width_in table words (buffer_of bits q)) q + i) 0
  word-handed q i there below = get_or-set_other table _ _ width 0 (λ same. not_first bits buffers words _ q i b (names_entry-true _ _ _ _ q there) (ltb-true _ _ below) same)

  pub standing-handed : (q : ℕ) → buffer_of bits q ≢ b → standing (set table (b * words) width) bits buffers words q ≡ standing table bits buffers words q
  unfolding standing
  standing-handed q ne =
      ap (λ w. cond (names_entry bits buffers words w q) (take w (drop (begin_of bits words w q) (set table (b * words) width))) []) (width-other (buffer_of bits q) ne)
      ∙ cond-same _ _ _ [] (range-handed q)

  -- each word of the buffer was stored before a stamp
  module _ (stamps : List ℕ) (n : ℕ) (room : length stamps ≡ buffers * words + buffers * words)
      (none : (x : ℕ) → x < words → (get_or stamps (b * words + x) 0 < n) × (get_or stamps (buffers * words + (b * words + x)) 0 < n)) where
    early : (q i w : ℕ) → buffer_of bits q ≡ b → IsEntry bits buffers words w q → i < w → get_or stamps (begin_of bits words w q + i) 0 < n
    early q i w at e below =
        let moved : b * words ≡ buffer_of bits q * words = ap (λ k. k * words) (sym at) in
        let place : b * words + (offset_of bits q * w + i) ≡ begin_of bits words w q + i = omega (arith, moved) in
        subst (λ k. get_or stamps k 0 < n) place (none (offset_of bits q * w + i) (within e i below).1).0

    early-entry : (q w : ℕ) → buffer_of bits q ≡ b → IsEntry bits buffers words w q → get_or stamps (stamp_at bits buffers words q) 0 < n
    early-entry q w at e =
        let moved : b * words ≡ buffer_of bits q * words = ap (λ k. k * words) (sym at) in
        let place : buffers * words + (b * words + offset_of bits q) ≡ stamp_at bits buffers words q = omega (arith, moved) in
        subst (λ k. get_or stamps k 0 < n) place (none (offset_of bits q) (entry-offset bits buffers words w q e)).1

    fresh : (q i w : ℕ) → buffer_of bits q ≡ b → IsEntry bits buffers words w q → i < w
        → was_stored_since n (get_or stamps (stamp_at bits buffers words q) 0) (get_or stamps (begin_of bits words w q + i) 0) ≡ true → ⊥
    fresh q i w at e below since = elim (since-parts n _ _ since) [
      | inl late ↦ omega (arith, late, early-entry q w at e)
      | inr late ↦ omega (arith, late, early q i w at e below)
    ]

    pub whole-handed : (q : ℕ) → is_whole (set table (b * words) width) stamps bits buffers words n q ≡ is_whole table stamps bits buffers words n q
    unfolding is_whole
    whole-handed q = elim (cases_eq (buffer_of bits q) b) [
      | inl e ↦
          false_from_ne_true _ (λ is. let both = whole-first (set table (b * words) width) stamps bits buffers words n q room is in fresh q 0 _ e both.0 both.0.wide both.1)
          ∙ sym (false_from_ne_true _ (λ is. let wide : 0 < width_in table words (buffer_of bits q) = (whole-first table stamps bits buffers words n q room is).0.wide in
          omega (arith, wide, ap (width_in table words) e, free)))
      | inr ne ↦
          ap (λ w. names_entry bits buffers words w q && list_all (was_stored_since n (get_or stamps (stamp_at bits buffers words q) 0)) (take w (drop (begin_of bits words w q) stamps)))
          (width-other (buffer_of bits q) ne)
    ]

    pub stored-handed : (q i : ℕ) → stored_since (set table (b * words) width) stamps bits buffers words n q i ≡ stored_since table stamps bits buffers words n q i
    unfolding stored_since
    stored-handed q i = elim (cases_eq (buffer_of bits q) b) [
      | inl e ↦
          none-from _ (λ x is. let s = is_stored (set table (b * words) width) stamps bits buffers words n q i x is in fresh q i _ e s.entry s.inside s.stamp)
          ∙ sym (none-from _ (λ x is. let wide = (is_stored table stamps bits buffers words n q i x is).entry.wide in omega (arith, wide, ap (width_in table words) e, free)))
      | inr ne ↦
          ap (λ w. cond (names_entry bits buffers words w q && (ltb i w && was_stored_since n (get_or stamps (stamp_at bits buffers words q) 0) (get_or stamps (begin_of bits words w q + i) 0)))
          (Some (get_or (set table (b * words) width) (begin_of bits words w q + i) 0)) None)
          (width-other (buffer_of bits q) ne)
          ∙ cond-and _ _ _ _ _ _ _ (λ there below. (refl, ap Some (word-handed q i there below)))
    ]
