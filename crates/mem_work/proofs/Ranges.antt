-- The words of an entry are replaced all at once: they stand, and what stands elsewhere stays.
use Rattle.std.proofs.Common.{◌≡◌, ◌≢◌, ℕ, suc, ◌+◌, ◌-◌, ◌*◌, ◌<◌, ◌≤◌, ◌⊎◌, inl, inr, Bool, true, false, Option, Some, None, ltb, cond, ◌&&◌, leb, List, [], ◌++◌, length, get_or, set, take, drop, refl, sym, ap, subst, ◌∙◌, arith, length-take}
use Rattle.std.proofs.Common.{length-drop, get_or-set_other, get_or-set_same, length-append}
use Rattle.std.specs.List.{list_all}
use Rattle.std.proofs.Math.ListN.{get_or-append}
use Rattle.std.proofs.Math.Nat.{mul-le-mul_right}
use Rattle.std.proofs.lemmas.List.{get_or-take, get_or-drop, get_or-append_right}
use Rattle.std.proofs.lemmas.Bool.{cases_eq, or_left, le-leb, ltb-true}
use Rattle.std.proofs.lemmas.Grind.{same_number_lists}
use Rattle.std.proofs.lemmas.Nat.{same_from_place}
use Rattle.entry_ref.specs.References.{buffer_of, offset_of}
use Rattle.entry_ref.specs.Places.{IsEntry}
use Rattle.mem_work.specs.Cells.{width_in, begin_of, stamp_at, with_range, names_entry, standing, was_stored_since, IsUnused, is_whole, stored_since}
use Rattle.mem_work.proofs.Standing.{range-set_other, lacks, one_cell, not_first, cond-same, and-same, entry-offset, stamp-below, one_stamp}
use Rattle.mem_work.specs.ProofsForMemory.{names_entry-true, length-standing, word-standing}
use Rattle.mem_work.specs.ProofsForMemory.{whole-from}

-- words in the place of others
module _ (table : List ℕ) (p : ℕ) (ws : List ℕ) (n : ℕ) (long : length ws ≡ n) (fits : p + n ≤ length table) where
  length-first : length (take p table) ≡ p
  length-first = simp length-take (omega (arith, fits))

  pub length-range : length (with_range table p ws) ≡ length table
  length-range =
      let rest : length (drop (p + length ws) table) ≡ length table - (p + length ws) = length-drop (p + length ws) table in
      let last = length-append ws (drop (p + length ws) table) in
      length-append (take p table) (ws ++ drop (p + length ws) table) ∙ omega (arith, length-first, rest, last, long, fits)

  pub range-at : (i : ℕ) → i < n → get_or (with_range table p ws) (p + i) 0 ≡ get_or ws i 0
  range-at i h =
      let at : p + i - p ≡ i = omega arith in
      get_or-append_right (take p table) (ws ++ drop (p + length ws) table) p (p + i) 0 length-first (omega arith)
      ∙ ap (λ k. get_or (ws ++ drop (p + length ws) table) k 0) at ∙ get_or-append ws (drop (p + length ws) table) 0 i (omega (arith, h, long))

  pub range-elsewhere : (k : ℕ) → (k < p) ⊎ (p + n ≤ k) → get_or (with_range table p ws) k 0 ≡ get_or table k 0
  range-elsewhere k (inl h) = get_or-append (take p table) (ws ++ drop (p + length ws) table) 0 k (omega (arith, length-first, h)) ∙ get_or-take p table k 0 h
  range-elsewhere k (inr h) =
      let at : p + length ws + (k - p - length ws) ≡ k = omega (arith, h, long) in
      get_or-append_right (take p table) (ws ++ drop (p + length ws) table) p k 0 length-first (omega (arith, h))
      ∙ get_or-append_right ws (drop (p + length ws) table) (length ws) (k - p) 0 refl (omega (arith, h, long))
      ∙ get_or-drop (p + length ws) table (k - p - length ws) 0 ∙ ap (λ m. get_or table m 0) at

-- an entry lies among the words
pub range-fits : (bits buffers words width r n : ℕ) → IsEntry bits buffers words width r → n ≡ buffers * words → begin_of bits words width r + width ≤ n
range-fits bits buffers words width r n e room =
    let more : suc (buffer_of bits r) * words ≤ buffers * words = mul-le-mul_right words e.inside in
    let last = e.last in
    omega arith

-- the words of one entry are replaced
module _ (table : List ℕ) (bits buffers words r width : ℕ) (is : width_in table words (buffer_of bits r) ≡ width) (e : IsEntry bits buffers words width r)
    (ws : List ℕ) (long : length ws ≡ width) (room : length table ≡ buffers * words) where
  place-fits : begin_of bits words width r + width ≤ length table
  place-fits = range-fits bits buffers words width r (length table) e room

  -- the widths stay
  pub width-range : (b : ℕ) → width_in (with_range table (begin_of bits words width r) ws) words b ≡ width_in table words b
  width-range b =
      range-elsewhere table (begin_of bits words width r) ws width long place-fits (b * words)
      (lacks (b * words) (begin_of bits words width r) width (λ j h same. not_first bits buffers words width r j b e h (sym same)))

  -- no other entry has a place of it
  range-apart : (ts vs : List ℕ) (q : ℕ) → length ts ≡ buffers * words → length vs ≡ width → q ≢ r → names_entry bits buffers words (width_in table words (buffer_of bits q)) q ≡ true
      → take (width_in table words (buffer_of bits q)) (drop (begin_of bits words (width_in table words (buffer_of bits q)) q) (with_range ts (begin_of bits words width r) vs))
      ≡ take (width_in table words (buffer_of bits q)) (drop (begin_of bits words (width_in table words (buffer_of bits q)) q) ts)
  range-apart ts vs q whole size ne there =
      let w = width_in table words (buffer_of bits q) in
      let from = begin_of bits words w q in
      let here = begin_of bits words width r in
      let inside : here + width ≤ length ts = range-fits bits buffers words width r (length ts) e whole in
      let same_long : length (with_range ts here vs) ≡ length ts = length-range ts here vs width size inside in
      same_number_lists (take w (drop from (with_range ts here vs))) (take w (drop from ts)) (simp (length-take, length-drop) (omega (arith, same_long))) (λ k h.
      let below : k < w = omega (arith, simp length-take at h) in
      get_or-take w (drop from (with_range ts here vs)) k 0 below ∙ get_or-drop from (with_range ts here vs) k 0
      ∙ range-elsewhere ts here vs width size inside (from + k) (lacks (from + k) here width (λ j less same.
      ne (one_cell bits buffers words w width q r k j (names_entry-true bits buffers words w q there) e (λ b. ap (width_in table words) b ∙ is) below less same).0))
      ∙ sym (get_or-take w (drop from ts) k 0 below ∙ get_or-drop from ts k 0))

  -- and what stands elsewhere
  pub standing-elsewhere : (q : ℕ) → q ≢ r → standing (with_range table (begin_of bits words width r) ws) bits buffers words q ≡ standing table bits buffers words q
  unfolding standing
  standing-elsewhere q ne =
      ap (λ w. cond (names_entry bits buffers words w q) (take w (drop (begin_of bits words w q) (with_range table (begin_of bits words width r) ws))) []) (width-range (buffer_of bits q))
      ∙ cond-same _ _ _ [] (range-apart table ws q room long ne)

  -- the entry's words stand
  pub standing-range : standing (with_range table (begin_of bits words width r) ws) bits buffers words r ≡ ws
  standing-range =
      let t = with_range table (begin_of bits words width r) ws in
      let now : width_in t words (buffer_of bits r) ≡ width = width-range (buffer_of bits r) ∙ is in
      let f : IsEntry bits buffers words (width_in t words (buffer_of bits r)) r = subst (λ w. IsEntry bits buffers words w r) (sym now) e in
      let size = length-standing t bits buffers words r (length-range table (begin_of bits words width r) ws width long place-fits ∙ room) f in
      same_number_lists _ ws (size ∙ now ∙ sym long) (λ k h.
      let below : k < width_in t words (buffer_of bits r) = omega (arith, h, size) in
      word-standing t bits buffers words r k f below ∙ ap (λ w. get_or t (begin_of bits words w r + k) 0) now
      ∙ range-at table (begin_of bits words width r) ws width long place-fits k (omega (arith, below, now)))

  -- its stamp is set
  module _ (stamps : List ℕ) (n : ℕ) (also : length stamps ≡ buffers * words + buffers * words) where
    abbrev here : ℕ
    here = stamp_at bits buffers words r

    place-below : here < length stamps
    place-below = omega (arith, stamp-below bits buffers words width r e, also)

    -- whether another was stored whole stays
    pub whole-elsewhere : (m q : ℕ) → q ≢ r
        → is_whole (with_range table (begin_of bits words width r) ws) (set stamps (stamp_at bits buffers words r) n) bits buffers words m q ≡ is_whole table stamps bits buffers words m q
    unfolding is_whole
    whole-elsewhere m q ne =
        let s = set stamps here n in
        let place = stamp_at bits buffers words q in
        ap (λ w. names_entry bits buffers words w q && list_all (was_stored_since m (get_or s place 0)) (take w (drop (begin_of bits words w q) s))) (width-range (buffer_of bits q))
        ∙ and-same _ _ _ (λ there.
        let w = width_in table words (buffer_of bits q) in
        let from = begin_of bits words w q in
        let f = names_entry-true bits buffers words w q there in
        ap (λ x. list_all (was_stored_since m x) (take w (drop from s)))
        (get_or-set_other stamps here place n 0 (λ same. ne (one_stamp bits buffers words w width q r f e same)))
        ∙ ap (list_all (was_stored_since m (get_or stamps place 0)))
        (range-set_other stamps here from w n (inr (omega (arith, range-fits bits buffers words w q (buffers * words) f refl)))))

    -- and so does what was stored of it
    pub stored-elsewhere : (m q i : ℕ) → q ≢ r
        → stored_since (with_range table (begin_of bits words width r) ws) (set stamps (stamp_at bits buffers words r) n) bits buffers words m q i ≡ stored_since table stamps bits buffers words m q i
    unfolding stored_since
    stored-elsewhere m q i ne =
        let t = with_range table (begin_of bits words width r) ws in
        let s = set stamps here n in
        let place = stamp_at bits buffers words q in
        ap (λ w. cond (names_entry bits buffers words w q && (ltb i w && was_stored_since m (get_or s place 0) (get_or s (begin_of bits words w q + i) 0))) (Some (get_or t (begin_of bits words w q + i) 0)) None)
        (width-range (buffer_of bits q))
        ∙ where-both _ _ (λ there inside.
        let w = width_in table words (buffer_of bits q) in
        let from = begin_of bits words w q in
        let f = names_entry-true bits buffers words w q there in
        let below : i < w = ltb-true i w inside in
        let one : get_or s place 0 ≡ get_or stamps place 0 = get_or-set_other stamps here place n 0 (λ same. ne (one_stamp bits buffers words w width q r f e same)) in
        let two : get_or s (from + i) 0 ≡ get_or stamps (from + i) 0 =
        get_or-set_other stamps here (from + i) n 0 (λ same. omega (arith, same, below, range-fits bits buffers words w q (buffers * words) f refl)) in
        let word : get_or t (from + i) 0 ≡ get_or table (from + i) 0 =
        range-elsewhere table (begin_of bits words width r) ws width long place-fits (from + i) (lacks (from + i) (begin_of bits words width r) width (λ j less same.
        ne (one_cell bits buffers words w width q r i j f e (λ b. ap (width_in table words) b ∙ is) below less same).0)) in
        ((λ k. was_stored_since m (one k) (two k)), ap (λ x. Some x) word))
      where
        where-both : (a b : Bool) {c d : Bool} {x y : Option ℕ} → (a ≡ true → b ≡ true → (c ≡ d) × (x ≡ y)) → cond (a && (b && c)) x None ≡ cond (a && (b && d)) y None
        where-both false b same = refl
        where-both true false same = refl
        where-both true true same = let both = same refl refl in (λ k. cond (both.0 k) (both.1 k) None)

    -- and the entry was, if its stamp is that or past it
    pub whole-range : (m : ℕ) → m ≤ n → is_whole (with_range table (begin_of bits words width r) ws) (set stamps (stamp_at bits buffers words r) n) bits buffers words m r ≡ true
    whole-range m late =
        let t = with_range table (begin_of bits words width r) ws in
        let s = set stamps here n in
        let now : width_in t words (buffer_of bits r) ≡ width = width-range (buffer_of bits r) ∙ is in
        whole-from t s bits buffers words m r (subst (λ w. IsEntry bits buffers words w r) (sym now) e) (λ i h.
        or_left (leb m (get_or s here 0)) _ (le-leb m (get_or s here 0) (omega (arith, late, get_or-set_same stamps here n 0 place-below))))

    -- no stamp is beyond the highest
    pub stamps-range : ((p : ℕ) → get_or stamps p 0 ≤ n) → (p : ℕ) → get_or (set stamps (stamp_at bits buffers words r) n) p 0 ≤ n
    stamps-range old p = elim (cases_eq p here) [
      | inl same ↦ omega (arith, ap (λ k. get_or (set stamps here n) k 0) same, get_or-set_same stamps here n 0 place-below)
      | inr ne ↦ omega (arith, old p, get_or-set_other stamps here p n 0 ne)
    ]

    -- those in a free buffer stay
    pub unused-range : (m : ℕ) → IsUnused table stamps buffers words m
        → IsUnused (with_range table (begin_of bits words width r) ws) (set stamps (stamp_at bits buffers words r) n) buffers words m
    unused-range m old b x inside below free =
        let none : width_in table words b ≡ 0 = sym (width-range b) ∙ free in
        let more : suc b * words ≤ buffers * words = mul-le-mul_right words inside in
        let before = old b x inside below none in
        let apart : buffers * words + (b * words + x) ≢ here =
        (λ same.
        let wide = e.wide in
        let one = (same_from_place b x (buffer_of bits r) (offset_of bits r) words below (entry-offset bits buffers words width r e) (omega (arith, same))).0 in
        omega (arith, wide, ap (width_in table words) one, none, is)) in (
          omega (arith, before.0, get_or-set_other stamps here (b * words + x) n 0 (λ same. omega (arith, same, below, more))),
          omega (arith, before.1, get_or-set_other stamps here (buffers * words + (b * words + x)) n 0 apart),
        )
