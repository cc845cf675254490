-- Proofs of the laws of `Work`. They are in specs/ since an implementation can cite laws only from there; they are
-- not part of the specification.
use Rattle.std.proofs.Common.{Some, ◌≡◌, ℕ, suc, ◌+◌, ◌*◌, ◌^◌, ◌<◌, ◌≤◌, ◌⊎◌, inl, inr, Bool, true, false, cond, List, [], length}
use Rattle.std.proofs.Common.{get_or, take, drop, refl, sym, ap, subst, ◌∙◌, arith, length-take, length-drop, zero, ◌∷◌}
use Rattle.std.proofs.lemmas.List.{get_or-take, get_or-drop}
use Rattle.std.specs.List.{list_all, AllByRecursion}
use Rattle.std.proofs.Math.Nat.{mul-le-mul_right}
use Rattle.std.proofs.lemmas.Bool.{cases_Bool, cond-false, lt-ltb, ltb-true, cond-true, and_from, and_parts, cond_both}
use Rattle.std.proofs.lemmas.Bool.Decides.{nat_tests}
use Rattle.entry_ref.specs.References.{buffer_of, buffer_limit, offset_limit}
use Rattle.entry_ref.specs.Places.{IsEntry}
use Rattle.entry_ref.proofs.Apart.{entry-small}
use Rattle.mem_work.specs.Cells.{width_in, begin_of, stamp_at, names_entry, standing, was_stored_since, is_whole, stored_since, buffer_by}
use Rattle.mem_work.specs.Cells.{image_in, records_in, buffer_in, sizes_of, memory_view}
use Rattle.mem_work.specs.Marks.{tag_of, mark_at, marked, marked_buffers, only_hold, with_marks, IsHeldMark, IsMarkOfWidth}
use Rattle.mem_work.specs.declared.marks.Mark.{Mark}
use Rattle.mem_work.specs.declared.marks.Mark.TheVariants.{Fresh, Past, Held}
use Rattle.arena_api.specs.Calls.{FitsEntry, IsWordIn, IsInOrder, IsWithinLimits}
use Rattle.arena_api.specs.Generations.{IsQueue, IsHeldUnder}
use Rattle.std.proofs.lemmas.Option.{cond_some}
use Rattle.arena_api.specs.Works.{active_width, width_of, Tag, Buffer, Hold, WorkView}
use Rattle.std.proofs.lemmas.Grind.{same_number_lists}
use Rattle.entry_ref.specs.Images.{words_at}
use Rattle.entry_ref.specs.Records.{Records}
use Rattle.entry_ref.proofs.Pairs.{words-found}

pub names_entry-true : (bits buffers words width r : ℕ) → names_entry bits buffers words width r ≡ true → IsEntry bits buffers words width r
unfolding names_entry
names_entry-true bits buffers words width r e =
    record {
      inside = grind (arith, nat_tests);
      wide = grind (arith, nat_tests);
      first = grind (arith, nat_tests);
      last = grind (arith, nat_tests);
    }

pub names_entry-from : (bits buffers words width r : ℕ) → IsEntry bits buffers words width r → names_entry bits buffers words width r ≡ true
unfolding names_entry
names_entry-from bits buffers words width r e =
    let inside = e.inside in
    let wide = e.wide in
    let first = e.first in
    let last = e.last in
    grind (arith, nat_tests)

-- words that come from a choice between some and none come from its first part
cond-some : (t : Bool) (xs : List ℕ) (i : ℕ) → i < length (cond t xs []) → (t ≡ true) × (i < length xs)
cond-some true xs i h = (refl, h)
cond-some false xs i h = absurd (omega arith)

-- a word belongs to an entry that is wider than its index
pub standing-entry : (table : List ℕ) (bits buffers words r i : ℕ) → i < length (standing table bits buffers words r)
    → IsEntry bits buffers words (width_in table words (buffer_of bits r)) r × (i < width_in table words (buffer_of bits r))
unfolding standing
standing-entry table bits buffers words r i h =
    let part = cond-some _ _ i h in
    (names_entry-true _ _ _ _ _ part.0, omega (arith, simp length-take at part.1))

-- each entry has all its words
pub length-standing : (table : List ℕ) (bits buffers words r : ℕ) → length table ≡ buffers * words
    → IsEntry bits buffers words (width_in table words (buffer_of bits r)) r
    → length (standing table bits buffers words r) ≡ width_in table words (buffer_of bits r)
unfolding standing
length-standing table bits buffers words r room e =
    let width = width_in table words (buffer_of bits r) in
    let more : suc (buffer_of bits r) * words ≤ buffers * words = mul-le-mul_right words e.inside in
    let last = e.last in
    ap (λ t. length (cond t (take width (drop (begin_of bits words width r) table)) [])) (names_entry-from bits buffers words width r e)
    ∙ simp (length-take, length-drop) (omega arith)

pub word-standing : (table : List ℕ) (bits buffers words r i : ℕ) → IsEntry bits buffers words (width_in table words (buffer_of bits r)) r
    → i < width_in table words (buffer_of bits r)
    → get_or (standing table bits buffers words r) i 0
    ≡ get_or table (begin_of bits words (width_in table words (buffer_of bits r)) r + i) 0
unfolding standing
word-standing table bits buffers words r i e h =
    let width = width_in table words (buffer_of bits r) in
    ap (λ t. get_or (cond t (take width (drop (begin_of bits words width r) table)) []) i 0) (names_entry-from bits buffers words width r e)
    ∙ get_or-take _ _ i 0 h ∙ get_or-drop _ table i 0

-- a buffer has its width, whatever its mark
pub active_width-by : (m : Mark) (w : ℕ) → active_width (marked m (buffer_by w)) ≡ w
active_width-by Fresh zero = refl
active_width-by Fresh (suc w) = refl
active_width-by (Past g c) zero = refl
active_width-by (Past g c) (suc w) = refl
active_width-by (Held g c v) zero = refl
active_width-by (Held g c v) (suc w) = refl

pub width_of-by : (m : Mark) (w : ℕ) → 0 < w → width_of (marked m (buffer_by w)) ≡ w
width_of-by m zero some = absurd (omega arith)
width_of-by Fresh (suc w) some = refl
width_of-by (Past g c) (suc w) some = refl
width_of-by (Held g c v) (suc w) some = refl

-- a list of numbers that all pass a test
all_from : (p : ℕ → Bool) (xs : List ℕ) → ((k : ℕ) → k < length xs → p (get_or xs k 0) ≡ true) → list_all p xs ≡ true
all_from p [] each = refl
all_from p (x ∷ xs) each = and_from _ _ (each 0 (omega arith)) (all_from p xs (λ k h. each (suc k) (omega arith)))

-- what follows from one stored word
pub record IsStored (table stamps : List ℕ) (bits buffers words n r i x : ℕ) : Type 0 where
  pub entry : IsEntry bits buffers words (width_in table words (buffer_of bits r)) r
  pub inside : i < width_in table words (buffer_of bits r)
  pub stamp : was_stored_since n (get_or stamps (stamp_at bits buffers words r) 0)
      (get_or stamps (begin_of bits words (width_in table words (buffer_of bits r)) r + i) 0) ≡ true
  pub word : get_or table (begin_of bits words (width_in table words (buffer_of bits r)) r + i) 0 ≡ x

pub is_stored : (table stamps : List ℕ) (bits buffers words n r i x : ℕ) → stored_since table stamps bits buffers words n r i ≡ Some x
    → IsStored table stamps bits buffers words n r i x
unfolding stored_since
is_stored table stamps bits buffers words n r i x is =
    let parts = cond_some _ _ _ is in
    let tests = and_parts _ _ parts.0 in
    let inner = and_parts _ _ tests.1 in
    record { entry = names_entry-true _ _ _ _ r tests.0; inside = ltb-true _ _ inner.0; stamp = inner.1; word = parts.1 }

-- if each word is stored, the entry was stored whole, with these words
pub whole-from : (table stamps : List ℕ) (bits buffers words n r : ℕ)
    → IsEntry bits buffers words (width_in table words (buffer_of bits r)) r
    → ((i : ℕ) → i < width_in table words (buffer_of bits r)
    → was_stored_since n (get_or stamps (stamp_at bits buffers words r) 0)
    (get_or stamps (begin_of bits words (width_in table words (buffer_of bits r)) r + i) 0) ≡ true)
    → is_whole table stamps bits buffers words n r ≡ true
unfolding is_whole
whole-from table stamps bits buffers words n r e each =
    let width = width_in table words (buffer_of bits r) in
    let since = was_stored_since n (get_or stamps (stamp_at bits buffers words r) 0) in
    and_from _ _ (names_entry-from bits buffers words width r e)
    (all_from since (take width (drop (begin_of bits words width r) stamps)) (λ k h.
    let below : k < width = omega (arith, simp length-take at h) in
    ap since (get_or-take width _ k 0 below ∙ get_or-drop _ stamps k 0) ∙ each k below))

no_words : (ws : List ℕ) → (0 < length ws → ⊥) → ws ≡ []
no_words [] none = refl
no_words (w ∷ ws) none = absurd (none (omega arith))

all_at : (p : ℕ → Bool) (xs : List ℕ) (i : ℕ) → list_all p xs ≡ true → i < length xs → p (get_or xs i 0) ≡ true
all_at p [] i all lt = absurd (omega arith)
all_at p (x ∷ xs) zero all lt = (and_parts _ _ all).0
all_at p (x ∷ xs) (suc i) all lt = all_at p xs i (and_parts _ _ all).1 (omega arith)

-- each word of an entry that was stored whole is stored
pub stored-whole : (table stamps : List ℕ) (bits buffers words n r i : ℕ) → length stamps ≡ buffers * words + buffers * words
    → is_whole table stamps bits buffers words n r ≡ true
    → i < width_in table words (buffer_of bits r)
    → stored_since table stamps bits buffers words n r i
    ≡ Some (get_or table (begin_of bits words (width_in table words (buffer_of bits r)) r + i) 0)
unfolding is_whole stored_since
stored-whole table stamps bits buffers words n r i room is lt =
    let width = width_in table words (buffer_of bits r) in
    let parts = and_parts _ _ is in
    let e = names_entry-true bits buffers words width r parts.0 in
    let more : suc (buffer_of bits r) * words ≤ buffers * words = mul-le-mul_right words e.inside in
    let last = e.last in
    let long : i < length (take width (drop (begin_of bits words width r) stamps)) = simp (length-take, length-drop) (omega arith) in
    let since = was_stored_since n (get_or stamps (stamp_at bits buffers words r) 0) in
    let stamp = sym (ap since (get_or-take width (drop (begin_of bits words width r) stamps) i 0 lt ∙ get_or-drop _ stamps i 0))
    ∙ all_at since _ i parts.1 long in
    cond-true _ _ _ (and_from _ _ parts.0 (and_from _ _ (lt-ltb i width lt) stamp))

pub memory_limits : (bits buffers words : ℕ) → 1 ≤ buffers → buffers < buffer_limit bits → 8192 ≤ words → words ≤ 65536
    → words ≤ offset_limit bits → IsWithinLimits bits (sizes_of buffers words)
memory_limits bits buffers words some few long short offsets =
    record {
      some_buffers = some;
      few_buffers = few;
      some_words = long;
      few_words = short;
      offsets = offsets;
      commits = omega arith;
      generations = omega arith;
    }

-- the last tag of a free buffer is below the generation
pub memory_tags : (generation first last w : ℕ) (m : Mark) → IsMarkOfWidth generation first last w m → (t : Tag)
    → marked m (buffer_by w) ≡ Buffer.free (Some t)
    → AllByRecursion (λ (h : Hold). t.generation < h.generation) (only_hold generation first ∷ [])
memory_tags generation first last zero Fresh is t same = absurd (cc)
memory_tags generation first last (suc w) Fresh is t same = absurd (cc)
memory_tags generation first last zero (Past g c) is t same =
    let at : tag_of g c ≡ t = cc in (subst (λ x. x.generation < generation) at (is.past g c refl), tt)
memory_tags generation first last (suc w) (Past g c) is t same = absurd (cc)
memory_tags generation first last zero (Held g c v) is t same = absurd (cc)
memory_tags generation first last (suc w) (Held g c v) is t same = absurd (cc)

held-mark : (generation first last w : ℕ) (m : Mark) → IsMarkOfWidth generation first last w m → (v : ℕ) (t : Tag)
    → marked m (buffer_by w) ≡ Buffer.held v t
    → IsHeldMark generation first last w t.generation t.commit
held-mark generation first last zero Fresh is v t same = absurd (cc)
held-mark generation first last (suc w) Fresh is v t same = absurd (cc)
held-mark generation first last zero (Past g c) is v t same = absurd (cc)
held-mark generation first last (suc w) (Past g c) is v t same = absurd (cc)
held-mark generation first last zero (Held g c u) is v t same =
    let at : tag_of g c ≡ t = cc in
    subst (λ x. IsHeldMark generation first last zero x.generation x.commit) at (is.held g c u refl)
held-mark generation first last (suc w) (Held g c u) is v t same = absurd (cc)

pub memory_queue : (work : WorkView (Unit {0})) (marks : List Mark) (generation first : ℕ) → first ≤ work.commits.last
    → generation ≤ work.sizes.generations
    → IsQueue (with_marks work marks generation first)
memory_queue work marks generation first early few = record {
  some = omega arith;
  few = omega arith;
  order = (tt, tt);
  each = (record { hold = omega arith; first = early; generation = few }, tt);
}

module _ (reaches : ℕ → Records → ℕ → List ℕ) (shape : ℕ) (table stamps : List ℕ) (bits buffers words last root : ℕ) where
  -- a record's words are the current words
  pub records-stand : (r : ℕ) → 0 < length (records_in reaches shape table stamps bits buffers words last root r)
      → standing table bits buffers words r ≡ records_in reaches shape table stamps bits buffers words last root r
  records-stand r = cond_both (is_whole table stamps bits buffers words (last + 1) r) (standing table bits buffers words r)
      (words_at (image_in reaches shape table bits buffers words root) r)
      (λ ws. 0 < length ws → standing table bits buffers words r ≡ ws) (λ e h. refl)
      (λ e h. words-found _ (standing table bits buffers words) root r h)

  pub memory_order : (marks : List Mark) (generation first : ℕ) → first ≤ last → last < 2 ^ 32
      → IsInOrder (with_marks (memory_view reaches shape table stamps bits buffers words last root) marks generation first)
  memory_order marks generation first early small = record { floor = omega arith; limit = omega arith; oldest = early }

  pub memory_references : words ≤ 65536 → words ≤ offset_limit bits → (r : ℕ)
      → 0 < length (records_in reaches shape table stamps bits buffers words last root r) → r < 2 ^ 32
  memory_references few offsets r some = entry-small
      (standing-entry table bits buffers words r 0 (subst (λ ws. 0 < length ws) (sym (records-stand r some)) some)).0 few offsets

  -- current words fill an entry of their buffer's width
  fits : (width r : ℕ) (ws : List ℕ) → length table ≡ buffers * words → width ≡ width_in table words (buffer_of bits r)
      → standing table bits buffers words r ≡ ws → 0 < length ws
      → FitsEntry bits (sizes_of buffers words) width r (length ws)
  fits width r ws room is stands some =
      let e = (standing-entry table bits buffers words r 0 (subst (λ x. 0 < length x) (sym stands) some)).0 in
      record {
        entry = subst (λ w. IsEntry bits buffers words w r) (sym is) e;
        whole = ap length (sym stands) ∙ length-standing table bits buffers words r room e ∙ sym is;
      }

  pub memory_entries : length table ≡ buffers * words → (marks : List Mark) (r : ℕ)
      → 0 < length (records_in reaches shape table stamps bits buffers words last root r)
      → FitsEntry bits (sizes_of buffers words) (active_width (marked_buffers marks (buffer_in table words) (buffer_of bits r))) r
      (length (records_in reaches shape table stamps bits buffers words last root r))
  memory_entries room marks r some = fits _ r _ room
      (active_width-by (mark_at marks (buffer_of bits r)) (width_in table words (buffer_of bits r))) (records-stand r some) some

  pub memory_kept : length table ≡ buffers * words → (marks : List Mark) (r : ℕ)
      → 0 < length (words_at (image_in reaches shape table bits buffers words root) r)
      → FitsEntry bits (sizes_of buffers words) (width_of (marked_buffers marks (buffer_in table words) (buffer_of bits r))) r
      (length (words_at (image_in reaches shape table bits buffers words root) r))
  memory_kept room marks r some =
      let stands = words-found _ (standing table bits buffers words) root r some in
      let wide = (standing-entry table bits buffers words r 0 (subst (λ x. 0 < length x) (sym stands) some)).0.wide in
      fits _ r _ room (width_of-by (mark_at marks (buffer_of bits r)) (width_in table words (buffer_of bits r)) wide) stands some

  pub memory_last : (r : ℕ) → 0 < length (words_at (image_in reaches shape table bits buffers words root) r)
      → records_in reaches shape table stamps bits buffers words last root r
      ≡ words_at (image_in reaches shape table bits buffers words root) r
  memory_last r some = cond_both (is_whole table stamps bits buffers words (last + 1) r) (standing table bits buffers words r)
      (words_at (image_in reaches shape table bits buffers words root) r)
      (λ ws. ws ≡ words_at (image_in reaches shape table bits buffers words root) r)
      (λ e. words-found _ (standing table bits buffers words) root r some) (λ e. refl)

  pub memory_stored : (marks : List Mark) (generation first r i w : ℕ)
      → stored_since table stamps bits buffers words (last + 1) r i ≡ Some w
      → IsWordIn bits (with_marks (memory_view reaches shape table stamps bits buffers words last root) marks generation first) r i
  memory_stored marks generation first r i w is =
      let s = is_stored table stamps bits buffers words (last + 1) r i w is in
      let at = active_width-by (mark_at marks (buffer_of bits r)) (width_in table words (buffer_of bits r)) in
      record { entry = subst (λ x. IsEntry bits buffers words x r) (sym at) s.entry; inside = subst (λ x. i < x) (sym at) s.inside }

  pub memory_whole : length table ≡ buffers * words → (marks : List Mark) (r : ℕ) (ws : List ℕ) → 0 < length ws
      → length ws ≡ active_width (marked_buffers marks (buffer_in table words) (buffer_of bits r))
      → ((i : ℕ) → i < length ws → stored_since table stamps bits buffers words (last + 1) r i ≡ Some (get_or ws i 0))
      → records_in reaches shape table stamps bits buffers words last root r ≡ ws
  memory_whole room marks r ws some long each =
      let width = width_in table words (buffer_of bits r) in
      let is : length ws ≡ width = long ∙ active_width-by (mark_at marks (buffer_of bits r)) width in
      let e : IsEntry bits buffers words width r =
      (is_stored table stamps bits buffers words (last + 1) r 0 (get_or ws 0 0) (each 0 some)).entry in
      cond-true _ _ _ (whole-from table stamps bits buffers words (last + 1) r e
      (λ i h. (is_stored table stamps bits buffers words (last + 1) r i (get_or ws i 0) (each i (omega (arith, h, is)))).stamp))
      ∙ same_number_lists _ ws (length-standing table bits buffers words r room e ∙ sym is) (λ k h.
      let below : k < width = omega (arith, h, length-standing table bits buffers words r room e) in
      word-standing table bits buffers words r k e below
      ∙ (is_stored table stamps bits buffers words (last + 1) r k (get_or ws k 0) (each k (omega (arith, below, is)))).word)

  -- there are no words in a buffer whose first word is 0
  none-standing : (r : ℕ) → width_in table words (buffer_of bits r) ≡ 0 → standing table bits buffers words r ≡ []
  none-standing r none = no_words (standing table bits buffers words r) (λ some.
      let wide = (standing-entry table bits buffers words r 0 some).0.wide in omega arith)

  pub memory_held : (marks : List Mark) (generation first : ℕ)
      → ((b : ℕ) → IsMarkOfWidth generation first last (width_in table words b) (mark_at marks b))
      → (b w : ℕ) (t : Tag) → marked_buffers marks (buffer_in table words) b ≡ Buffer.held w t
      → IsHeldUnder bits (with_marks (memory_view reaches shape table stamps bits buffers words last root) marks generation first) b t
  memory_held marks generation first good b w t held =
      let m = held-mark generation first last (width_in table words b) (mark_at marks b) (good b) w t held in
      record {
        generation = m.few;
        commit = m.commit;
        unused = λ n r kept from at. no_words _ (λ some.
            let stands = words-found _ (standing table bits buffers words) root r some in
            let wide = (standing-entry table bits buffers words r 0 (subst (λ x. 0 < length x) (sym stands) some)).0.wide in
            let none = m.none in
            omega (arith, wide, ap (width_in table words) at, none));
        later = (m.later, tt);
      }

  -- each word of a record that was stored whole is stored
  pub memory_only : length stamps ≡ buffers * words + buffers * words → (r : ℕ)
      → 0 < length (records_in reaches shape table stamps bits buffers words last root r)
      → (records_in reaches shape table stamps bits buffers words last root r
      ≡ words_at (image_in reaches shape table bits buffers words root) r)
      ⊎ ((i : ℕ) → i < length (records_in reaches shape table stamps bits buffers words last root r)
      → stored_since table stamps bits buffers words (last + 1) r i
      ≡ Some (get_or (records_in reaches shape table stamps bits buffers words last root r) i 0))
  memory_only also r some = elim (cases_Bool (is_whole table stamps bits buffers words (last + 1) r)) [
    | inl whole ↦
        (let width = width_in table words (buffer_of bits r) in
        let stands : records_in reaches shape table stamps bits buffers words last root r ≡ standing table bits buffers words r =
        cond-true _ _ _ whole in
        inr (λ i lt.
        let at = standing-entry table bits buffers words r i (subst (λ ws. i < length ws) stands lt) in
        stored-whole table stamps bits buffers words (last + 1) r i also whole at.1
        ∙ ap Some (sym (ap (λ ws. get_or ws i 0) stands ∙ word-standing table bits buffers words r i at.0 at.1))))
    | inr not ↦ inl (cond-false _ _ _ not)
  ]
