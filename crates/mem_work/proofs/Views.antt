-- What a work in memory knows, and which records it has, after each call.
use Rattle.std.proofs.Common.{◌≡◌, ◌≢◌, ℕ, suc, ◌+◌, ◌*◌, ◌<◌, ◌≤◌, inl, inr, true, false, cond, List, [], length, take, drop, length-take, length-drop, get_or, set, Option, Some, None, refl, sym, ap, subst, ◌∙◌}
use Rattle.std.proofs.Common.{arith, get_or-set_same, get_or-set_other}
use Rattle.std.specs.Option.{IfSome, IfNone}
use Rattle.std.proofs.Math.Nat.{mul-le-mul_right}
use Rattle.std.proofs.Math.ListN.{replicate}
use Rattle.std.proofs.lemmas.List.{length-replicate, get_or-take, get_or-drop}
use Rattle.std.proofs.lemmas.Grind.{same_number_lists}
use Rattle.mem_work.proofs.Ranges.{range-fits}
use Rattle.std.proofs.lemmas.Bool.{false_from_ne_true, cases_eq, cond-false}
use Rattle.std.proofs.lemmas.Nat.{same_from_place}
use Rattle.list_lemmas.proofs.Places.{slice_index-zeros}
use Rattle.entry_ref.specs.References.{buffer_of, offset_of}
use Rattle.entry_ref.specs.Images.{no_image, words_at, image_of}
use Rattle.entry_ref.proofs.Apart.{within}
use Rattle.entry_ref.specs.Places.{IsEntry}
use Rattle.entry_ref.specs.Records.{Records, SameAt, AllThere}
use Rattle.arena_api.specs.Calls.{next_image, with_stored, handed_out, published, AddsCommit, IsLowestFree, opened}
use Rattle.mem_work.specs.Cells.{width_in, begin_of, stamp_at, standing, was_stored_since, IsUnused, is_whole, stored_since, image_in, records_in, buffer_by, buffer_in, memory_view, sizes_of}
use Rattle.mem_work.specs.Marks.{mark_at, marked, marked_buffers, with_marks, IsMarkOfWidth}
use Rattle.mem_work.specs.declared.marks.Mark.{Mark}
use Rattle.mem_work.specs.declared.marks.Mark.TheVariants.{Fresh}
use Rattle.mem_work.proofs.Marked.{fresh-at, free-width, mark-handed, with_marks-handed}
use Rattle.mem_work.specs.ProofsForMemory.{standing-entry, length-standing, word-standing}
use Rattle.mem_work.proofs.Standing.{standing-other, whole-other, stored-store, width-store, cond-same, cell-below}
use Rattle.mem_work.proofs.Standing.{since-parts, whole-first}
use Rattle.mem_work.specs.ProofsForMemory.{is_stored}
use Rattle.entry_ref.proofs.Pairs.{words-found, same-from, there-among}
use Rattle.arena_api.proofs.Reached.{image-same, lawful-kept, next_image-kept}
use Rattle.mem_work.specs.ProofsForMemory.{records-stand}
use Rattle.mem_work.proofs.Handed.{none-from, width-other, buffers-handed, standing-handed, whole-handed, stored-handed}

-- a layout, and words that its last root's image stands in
module _ (reaches : ℕ → Records → ℕ → List ℕ) (lawful : ℕ → Records → ℕ → Type 0)
    (present : (shape : ℕ) (m : Records) (root : ℕ) → lawful shape m root → AllThere (reaches shape m root) m)
    (stays : (shape : ℕ) (m n : Records) (root : ℕ) → SameAt (reaches shape m root) m n → lawful shape m root → lawful shape n root × (reaches shape n root ≡ reaches shape m root))
    (shape : ℕ) (table stamps : List ℕ) (bits buffers words last root : ℕ) (law : ∥ lawful shape (standing table bits buffers words) root ∥₁) where
  -- a word of an entry that the last commit lacks is stored
  module _ (r i v : ℕ) (e : IsEntry bits buffers words (width_in table words (buffer_of bits r)) r) (h : i < width_in table words (buffer_of bits r))
      (unkept : words_at (image_in reaches shape table bits buffers words root) r ≡ []) where
    kept-store : (q : ℕ) → 0 < length (words_at (image_in reaches shape table bits buffers words root) q)
        → standing (set table (begin_of bits words (width_in table words (buffer_of bits r)) r + i) v) bits buffers words q ≡ standing table bits buffers words q
    kept-store q some =
        standing-other table bits buffers words r i e h v q (λ same. let none = ap (λ x. length (words_at (image_in reaches shape table bits buffers words root) x)) same ∙ ap length unkept in omega (arith, some, none))

    pub lawful-store : ∥ lawful shape (standing (set table (begin_of bits words (width_in table words (buffer_of bits r)) r + i) v) bits buffers words) root ∥₁
    lawful-store = lawful-kept reaches lawful present stays shape (standing table bits buffers words) _ root law kept-store

    image-store : image_in reaches shape (set table (begin_of bits words (width_in table words (buffer_of bits r)) r + i) v) bits buffers words root ≡ image_in reaches shape table bits buffers words root
    image-store = next_image-kept reaches lawful present stays shape (standing table bits buffers words) _ root law kept-store

    pub view-store : length table ≡ buffers * words → length stamps ≡ buffers * words + buffers * words
        → memory_view reaches shape (set table (begin_of bits words (width_in table words (buffer_of bits r)) r + i) v)
        (set stamps (begin_of bits words (width_in table words (buffer_of bits r)) r + i) (last + 1)) bits buffers words last root
        ≡ record (memory_view reaches shape table stamps bits buffers words last root) { stored = with_stored (stored_since table stamps bits buffers words (last + 1)) r i v }
    view-store room also = λ k. record (memory_view reaches shape table stamps bits buffers words last root) {
      buffer = λ b. buffer_by (width-store table bits buffers words r i e h v b k);
      commits = record { floor = last; last = last; image = λ n. image-store k };
      stored = λ q j. stored-store table bits buffers words r i e h stamps v (last + 1) q j room also k;
    }

    pub records-store : length stamps ≡ buffers * words + buffers * words → (q : ℕ) → q ≢ r
        → records_in reaches shape (set table (begin_of bits words (width_in table words (buffer_of bits r)) r + i) v)
        (set stamps (begin_of bits words (width_in table words (buffer_of bits r)) r + i) (last + 1)) bits buffers words last root q
        ≡ records_in reaches shape table stamps bits buffers words last root q
    records-store also q ne =
        ap (λ t. cond t (standing (set table (begin_of bits words (width_in table words (buffer_of bits r)) r + i) v) bits buffers words q)
        (words_at (image_in reaches shape (set table (begin_of bits words (width_in table words (buffer_of bits r)) r + i) v) bits buffers words root) q))
        (whole-other table bits buffers words r i e h stamps v (last + 1) q also ne)
        ∙ ap (λ ws. cond (is_whole table stamps bits buffers words (last + 1) q) ws
        (words_at (image_in reaches shape (set table (begin_of bits words (width_in table words (buffer_of bits r)) r + i) v) bits buffers words root) q))
        (standing-other table bits buffers words r i e h v q ne)
        ∙ ap (λ image. cond (is_whole table stamps bits buffers words (last + 1) q) (standing table bits buffers words q) (words_at image q)) image-store

  -- the stamps after a store
  module _ (r i : ℕ) (e : IsEntry bits buffers words (width_in table words (buffer_of bits r)) r) (h : i < width_in table words (buffer_of bits r)) (also : length stamps ≡ buffers * words + buffers * words) where
    pub stamps-store : ((p : ℕ) → get_or stamps p 0 ≤ last + 1)
        → (p : ℕ) → get_or (set stamps (begin_of bits words (width_in table words (buffer_of bits r)) r + i) (last + 1)) p 0 ≤ last + 1
    stamps-store old p =
        let place = begin_of bits words (width_in table words (buffer_of bits r)) r + i in
        elim (cases_eq p place) [
          | inl same ↦
              subst (λ q. get_or (set stamps place (last + 1)) q 0 ≤ last + 1) (sym same)
              (omega (
                arith,
                old place,
                get_or-set_same stamps place (last + 1) 0
                    (omega (arith, cell-below bits buffers words (width_in table words (buffer_of bits r)) r i e h, also)),
              ))
          | inr ne ↦ omega (arith, old p, get_or-set_other stamps place p (last + 1) 0 ne)
        ]

    pub unused-store : (v : ℕ) → IsUnused table stamps buffers words (last + 1)
        → IsUnused (set table (begin_of bits words (width_in table words (buffer_of bits r)) r + i) v)
        (set stamps (begin_of bits words (width_in table words (buffer_of bits r)) r + i) (last + 1)) buffers words (last + 1)
    unused-store v old b x inside below free =
        let none : width_in table words b ≡ 0 = sym (width-store table bits buffers words r i e h v b) ∙ free in
        let before = old b x inside below none in
        let place = begin_of bits words (width_in table words (buffer_of bits r)) r + i in
        let ne : b * words + x ≢ place =
        (λ same.
        let w = width_in table words (buffer_of bits r) in
        let one = (same_from_place b x (buffer_of bits r) (offset_of bits r * w + i) words below (within e i h).1 (omega (arith, same))).0 in
        omega (arith, h, ap (width_in table words) one, none)) in
        let last_word = cell-below bits buffers words (width_in table words (buffer_of bits r)) r i e h in (
          omega (arith, before.0, get_or-set_other stamps place (b * words + x) (last + 1) 0 ne),
          omega (arith, before.1, get_or-set_other stamps place (buffers * words + (b * words + x)) (last + 1) 0 (λ same. omega (arith, same, last_word))),
        )

  -- a free buffer gets a width
  module _ (b width : ℕ) (free : width_in table words b ≡ 0) (some : 0 < words) (inside : b * words < length table) (wide : 0 < width)
      (room : length stamps ≡ buffers * words + buffers * words) (none : (x : ℕ) → x < words → (get_or stamps (b * words + x) 0 < last + 1) × (get_or stamps (buffers * words + (b * words + x)) 0 < last + 1)) where
    kept-handed : (q : ℕ) → 0 < length (words_at (image_in reaches shape table bits buffers words root) q)
        → standing (set table (b * words) width) bits buffers words q ≡ standing table bits buffers words q
    kept-handed q there =
        standing-handed table bits buffers words b width free some inside wide q (λ same.
        let stands = words-found _ (standing table bits buffers words) root q there in
        let length_is = ap length stands in
        let at = (standing-entry table bits buffers words q 0 (omega (arith, there, length_is))).0.wide in
        omega (arith, at, ap (width_in table words) same, free))

    pub lawful-handed : ∥ lawful shape (standing (set table (b * words) width) bits buffers words) root ∥₁
    lawful-handed = lawful-kept reaches lawful present stays shape (standing table bits buffers words) _ root law kept-handed

    image-handed : image_in reaches shape (set table (b * words) width) bits buffers words root ≡ image_in reaches shape table bits buffers words root
    image-handed = next_image-kept reaches lawful present stays shape (standing table bits buffers words) _ root law kept-handed

    pub view-handed : memory_view reaches shape (set table (b * words) width) stamps bits buffers words last root
        ≡ handed_out (memory_view reaches shape table stamps bits buffers words last root) b width
    view-handed = λ k. record (memory_view reaches shape table stamps bits buffers words last root) {
      buffer = λ a. buffers-handed table bits buffers words b width free some inside wide a k;
      commits = record { floor = last; last = last; image = λ n. image-handed k };
      stored = λ q i. stored-handed table bits buffers words b width free some inside wide stamps (last + 1) room none q i k;
    }

    pub records-handed : (q : ℕ) → records_in reaches shape (set table (b * words) width) stamps bits buffers words last root q ≡ records_in reaches shape table stamps bits buffers words last root q
    records-handed q =
        ap (λ t. cond t (standing (set table (b * words) width) bits buffers words q) (words_at (image_in reaches shape (set table (b * words) width) bits buffers words root) q))
        (whole-handed table bits buffers words b width free some inside wide stamps (last + 1) room none q)
        ∙ ap (λ image. cond (is_whole table stamps bits buffers words (last + 1) q) (standing (set table (b * words) width) bits buffers words q) (words_at image q)) image-handed
        ∙ cond-same _ _ _ _ (λ is.
        let e = (whole-first table stamps bits buffers words (last + 1) q room is).0 in
        standing-handed table bits buffers words b width free some inside wide q (λ same. let at = e.wide in omega (arith, at, ap (width_in table words) same, free)))

  -- a root is published
  module _ (next : ℕ) (room : length stamps ≡ buffers * words + buffers * words) (old : (p : ℕ) → get_or stamps p 0 ≤ last + 1)
      (law' : lawful shape (records_in reaches shape table stamps bits buffers words last root) next) where
    same-read : SameAt (reaches shape (records_in reaches shape table stamps bits buffers words last root) next) (records_in reaches shape table stamps bits buffers words last root) (standing table bits buffers words)
    same-read = same-from _ _ (standing table bits buffers words) (λ q among.
        records-stand reaches shape table stamps bits buffers words last root q (there-among _ _ q (present shape (records_in reaches shape table stamps bits buffers words last root) next law') among))

    both : lawful shape (standing table bits buffers words) next
        × (image_in reaches shape table bits buffers words next ≡ next_image reaches shape (records_in reaches shape table stamps bits buffers words last root) next)
    both = image-same reaches lawful present stays shape (records_in reaches shape table stamps bits buffers words last root) (standing table bits buffers words) next same-read law'

    pub lawful-publish : ∥ lawful shape (standing table bits buffers words) next ∥₁
    lawful-publish = ∣ both.0 ∣₁

    none_since : (q i : ℕ) → was_stored_since (last + 1 + 1) (get_or stamps (stamp_at bits buffers words q) 0)
        (get_or stamps (begin_of bits words (width_in table words (buffer_of bits q)) q + i) 0) ≡ true → ⊥
    none_since q i since =
        let begin = begin_of bits words (width_in table words (buffer_of bits q)) q in
        elim (since-parts (last + 1 + 1) (get_or stamps (stamp_at bits buffers words q) 0) (get_or stamps (begin + i) 0) since) [
          | inl late ↦ omega (arith, late, old (stamp_at bits buffers words q))
          | inr late ↦ omega (arith, late, old (begin + i))
        ]

    none_whole : (q : ℕ) → is_whole table stamps bits buffers words (last + 1 + 1) q ≡ false
    none_whole q = false_from_ne_true _ (λ is. none_since q 0 (whole-first table stamps bits buffers words (last + 1 + 1) q room is).1)

    none_stored_yet : (q i : ℕ) → stored_since table stamps bits buffers words (last + 1 + 1) q i ≡ None
    none_stored_yet q i = none-from _ (λ x is. none_since q i (is_stored table stamps bits buffers words (last + 1 + 1) q i x is).stamp)

    pub records-publish : (q : ℕ) → records_in reaches shape table stamps bits buffers words (last + 1) next q
        ≡ words_at (next_image reaches shape (records_in reaches shape table stamps bits buffers words last root) next) q
    records-publish q = cond-false _ _ _ (none_whole q) ∙ ap (λ image. words_at image q) both.1

    pub view-publish : memory_view reaches shape table stamps bits buffers words (last + 1) next
        ≡ published (memory_view reaches shape table stamps bits buffers words last root) (memory_view reaches shape table stamps bits buffers words (last + 1) next).commits
        (next_image reaches shape (records_in reaches shape table stamps bits buffers words last root) next)
    view-publish = λ k. record (memory_view reaches shape table stamps bits buffers words (last + 1) next) { stored = λ q i. none_stored_yet q i k }

    pub commit-publish : AddsCommit (memory_view reaches shape table stamps bits buffers words last root).commits (memory_view reaches shape table stamps bits buffers words (last + 1) next).commits
        (next_image reaches shape (records_in reaches shape table stamps bits buffers words last root) next)
    commit-publish = record { last = refl; image_is = both.1; rises = omega arith; within = omega arith; kept = λ n from to. absurd (omega arith) }

  -- what a word of a record is
  pub record-word : (r i : ℕ) → i < length (records_in reaches shape table stamps bits buffers words last root r)
      → IsEntry bits buffers words (width_in table words (buffer_of bits r)) r × (i < width_in table words (buffer_of bits r))
      × (get_or (records_in reaches shape table stamps bits buffers words last root r) i 0 ≡ get_or table (begin_of bits words (width_in table words (buffer_of bits r)) r + i) 0)
  record-word r i h =
      let stands = records-stand reaches shape table stamps bits buffers words last root r (omega arith) in
      let at = standing-entry table bits buffers words r i (subst (λ ws. i < length ws) (sym stands) h) in
      (at.0, at.1, ap (λ ws. get_or ws i 0) (sym stands) ∙ word-standing table bits buffers words r i at.0 at.1)

  -- words of a record are those that stand
  pub record-words : length table ≡ buffers * words → (r first n : ℕ) → 0 < n → first + n ≤ length (records_in reaches shape table stamps bits buffers words last root r)
      → IsEntry bits buffers words (width_in table words (buffer_of bits r)) r × (first + n ≤ width_in table words (buffer_of bits r))
      × (take n (drop (begin_of bits words (width_in table words (buffer_of bits r)) r + first) table) ≡ take n (drop first (records_in reaches shape table stamps bits buffers words last root r)))
  record-words room r first n some within_it =
      let w = width_in table words (buffer_of bits r) in
      let from = begin_of bits words w r in
      let all = records_in reaches shape table stamps bits buffers words last root r in
      let stands = records-stand reaches shape table stamps bits buffers words last root r (omega arith) in
      let e = (standing-entry table bits buffers words r 0 (omega (arith, ap length stands))).0 in
      let long = length-standing table bits buffers words r room e in
      let wide : first + n ≤ w = omega (arith, within_it, ap length stands, long) in
      let fits = range-fits bits buffers words w r (length table) e room in (
        e,
        wide,
        same_number_lists (take n (drop (from + first) table)) (take n (drop first all)) (simp (length-take, length-drop) (omega (arith, fits, within_it))) (λ k h.
            let less : k < n = omega (arith, simp length-take at h) in
            get_or-take n (drop (from + first) table) k 0 less ∙ get_or-drop (from + first) table k 0
            ∙ ap (λ i. get_or table i 0) (let at : from + first + k ≡ from + (first + k) = omega arith in at)
            ∙ sym (word-standing table bits buffers words r (first + k) e (omega (arith, less, wide)))
            ∙ ap (λ ws. get_or ws (first + k) 0) stands
            ∙ sym (get_or-take n (drop first all) k 0 less ∙ get_or-drop first all k 0)),
      )

  -- a buffer is handed out, or none is
  module _ (marks : List Mark) (width : ℕ) (wide : 0 < width) (some : 0 < words) (room : length table ≡ buffers * words) (also : length stamps ≡ buffers * words + buffers * words)
      (unused : IsUnused table stamps buffers words (last + 1)) where
    first-inside : (b : ℕ) → b < buffers → b * words < length table
    first-inside b below =
        let more : suc b * words ≤ buffers * words = mul-le-mul_right words below in
        omega arith

    pub hand_out-view : (generation first : ℕ) (o : Option ℕ) (t : List ℕ) → IfSome o (IsLowestFree (marked_buffers marks (buffer_in table words)) buffers) → IfSome o (λ b. t ≡ set table (b * words) width)
        → IfSome o (λ b. with_marks (memory_view reaches shape t stamps bits buffers words last root) marks generation first
        ≡ handed_out (with_marks (memory_view reaches shape table stamps bits buffers words last root) marks generation first) b width)
    hand_out-view generation first None t low at = tt
    hand_out-view generation first (Some b) t low at =
        let free = free-width _ _ low.free in
        ap (λ (ws : List ℕ). with_marks (memory_view reaches shape ws stamps bits buffers words last root) marks generation first) at
        ∙ ap (λ v. with_marks v marks generation first) (view-handed b width free some (first-inside b low.below) wide also (λ x h. unused b x low.below h free))
        ∙ with_marks-handed (memory_view reaches shape table stamps bits buffers words last root) marks generation first b width (width_in table words b) wide refl low.free

    pub hand_out-marks : (generation first : ℕ) (o : Option ℕ) (t : List ℕ) → IfSome o (IsLowestFree (marked_buffers marks (buffer_in table words)) buffers)
        → IfSome o (λ b. t ≡ set table (b * words) width) → IfNone o (t ≡ table)
        → ((b : ℕ) → IsMarkOfWidth generation first last (width_in table words b) (mark_at marks b))
        → (b : ℕ) → IsMarkOfWidth generation first last (width_in t words b) (mark_at marks b)
    hand_out-marks generation first None t low at same old b = subst (λ (ws : List ℕ). IsMarkOfWidth generation first last (width_in ws words b) (mark_at marks b)) (sym same) (old b)
    hand_out-marks generation first (Some a) t low at same old b =
        let free = free-width _ _ low.free in
        subst (λ (ws : List ℕ). IsMarkOfWidth generation first last (width_in ws words b) (mark_at marks b)) (sym at) (elim (cases_eq b a) [
          | inl e ↦ subst (λ k. IsMarkOfWidth generation first last (width_in (set table (a * words) width) words k) (mark_at marks k)) (sym e)
              (mark-handed generation first last (width_in table words a) (mark_at marks a) low.free (old a) _)
          | inr ne ↦ subst (λ w. IsMarkOfWidth generation first last w (mark_at marks b)) (sym (width-other table bits buffers words a width free some (first-inside a low.below) wide b ne)) (old b)
        ])

    pub hand_out-records : (o : Option ℕ) (t : List ℕ) → IfSome o (IsLowestFree (marked_buffers marks (buffer_in table words)) buffers) → IfSome o (λ b. t ≡ set table (b * words) width) → IfNone o (t ≡ table)
        → records_in reaches shape t stamps bits buffers words last root ≡ records_in reaches shape table stamps bits buffers words last root
    hand_out-records None t low at same = ap (λ (ws : List ℕ). records_in reaches shape ws stamps bits buffers words last root) same
    hand_out-records (Some b) t low at same =
        let free = free-width _ _ low.free in
        ap (λ (ws : List ℕ). records_in reaches shape ws stamps bits buffers words last root) at
        ∙ (λ k q. records-handed b width free some (first-inside b low.below) wide also (λ x h. unused b x low.below h free) q k)

    pub hand_out-lawful : (o : Option ℕ) (t : List ℕ) → IfSome o (IsLowestFree (marked_buffers marks (buffer_in table words)) buffers) → IfSome o (λ b. t ≡ set table (b * words) width) → IfNone o (t ≡ table)
        → ∥ lawful shape (standing t bits buffers words) root ∥₁
    hand_out-lawful None t low at same = subst (λ (ws : List ℕ). ∥ lawful shape (standing ws bits buffers words) root ∥₁) (sym same) law
    hand_out-lawful (Some b) t low at same =
        let free = free-width _ _ low.free in
        subst (λ (ws : List ℕ). ∥ lawful shape (standing ws bits buffers words) root ∥₁) (sym at)
        (lawful-handed b width free some (first-inside b low.below) wide also (λ x h. unused b x low.below h free))

    pub hand_out-unused : (o : Option ℕ) (t : List ℕ) → IfSome o (IsLowestFree (marked_buffers marks (buffer_in table words)) buffers) → IfSome o (λ b. t ≡ set table (b * words) width) → IfNone o (t ≡ table)
        → IsUnused t stamps buffers words (last + 1)
    hand_out-unused None t low at same b x inside h free = unused b x inside h (subst (λ (ws : List ℕ). width_in ws words b ≡ 0) same free)
    hand_out-unused (Some a) t low at same b x inside h free =
        unused b x inside h (elim (cases_eq b a) [
          | inl e ↦ subst (λ k. width_in table words k ≡ 0) (sym e) (free-width _ _ low.free)
          | inr ne ↦
              sym (width-other table bits buffers words a width (free-width _ _ low.free) some (first-inside a low.below) wide b ne)
              ∙ subst (λ (ws : List ℕ). width_in ws words b ≡ 0) at free
        ])

abbrev zeros : ℕ → List ℕ
zeros n = replicate n 0

length-zeros : (n : ℕ) → length (zeros n) ≡ n
length-zeros n = length-replicate n 0

-- at the start nothing is there
module _ (reaches : ℕ → Records → ℕ → List ℕ) (empty : (shape : ℕ) (m : Records) → reaches shape m 0 ≡ []) (shape n bits buffers words : ℕ) (room : n ≡ buffers * words) where
  no_image-opened : image_in reaches shape (zeros n) bits buffers words 0 ≡ no_image
  no_image-opened = ap (λ refs. image_of refs (standing (zeros n) bits buffers words) 0) (empty shape (standing (zeros n) bits buffers words))

  pub view-opened : with_marks (memory_view reaches shape (zeros n) (zeros (n + n)) bits buffers words 0 0) (replicate buffers Fresh) 0 0 ≡ opened tt (sizes_of buffers words) []
  view-opened = λ k. record (opened tt (sizes_of buffers words) []) {
    buffer = λ b. marked (fresh-at buffers b k) (buffer_by (slice_index-zeros n (b * words) k));
    commits = record { floor = 0; last = 0; image = λ m. no_image-opened k };
    stored = λ r i.
        none-from (stored_since (zeros n) (zeros (n + n)) bits buffers words (0 + 1) r i) (λ x is.
        let wide = (is_stored (zeros n) (zeros (n + n)) bits buffers words (0 + 1) r i x is).entry.wide in omega (arith, wide, slice_index-zeros n (buffer_of bits r * words))) k;
  }

  pub records-opened : (r : ℕ) → records_in reaches shape (zeros n) (zeros (n + n)) bits buffers words 0 0 r ≡ []
  records-opened r =
      cond-false _ _ _ (false_from_ne_true _ (λ is.
      let wide = (whole-first (zeros n) (zeros (n + n)) bits buffers words (0 + 1) r (length-zeros (n + n) ∙ omega (arith, room)) is).0.wide in omega (arith, wide, slice_index-zeros n (buffer_of bits r * words))))
      ∙ ap (λ image. words_at image r) no_image-opened
