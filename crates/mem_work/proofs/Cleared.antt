-- A buffer in which nothing is of the last commit, and nothing was stored since, goes on hold: its words tell nothing any more.
use Rattle.std.proofs.Common.{◌≡◌, ◌≢◌, ℕ, suc, ◌+◌, ◌-◌, ◌*◌, ◌<◌, ◌≤◌, ◌⊎◌, inl, inr, true, cond, ◌&&◌, ltb, List, [], length, get_or, set, take, drop, Some, None, sym, ap}
use Rattle.std.proofs.Common.{subst, ◌∙◌, arith, length-take, length-drop, get_or-set_other, get_or-set_same}
use Rattle.std.specs.List.{list_all}
use Rattle.std.proofs.Math.ListN.{replicate}
use Rattle.std.proofs.Math.Nat.{mul-le-mul_right}
use Rattle.std.proofs.lemmas.List.{get_or-take, get_or-drop, length-replicate}
use Rattle.std.proofs.lemmas.Bool.{cases_eq, cases_lt, false_from_ne_true, eq-eqb, ne_eqb, ltb-true}
use Rattle.std.proofs.lemmas.Grind.{same_number_lists}
use Rattle.std.proofs.lemmas.Nat.{same_from_place}
use Rattle.list_lemmas.proofs.Places.{slice_index-zeros}
use Rattle.entry_ref.specs.References.{buffer_of}
use Rattle.entry_ref.specs.Images.{words_at}
use Rattle.entry_ref.specs.Places.{IsEntry}
use Rattle.entry_ref.specs.Records.{Records, SameAt, AllThere}
use Rattle.entry_ref.proofs.Apart.{within}
use Rattle.arena_api.proofs.Reached.{lawful-kept, next_image-kept}
use Rattle.arena_api.specs.Works.{Buffer, active_width}
use Rattle.arena_api.specs.Generations.{retired}
use Rattle.mem_work.specs.Cells.{width_in, begin_of, stamp_at, with_range, without_stamps, names_entry, standing, was_stored_since, IsUnused, is_whole, stored_since, image_in, records_in, memory_view, buffer_by}
use Rattle.mem_work.specs.Marks.{tag_of, mark_at, marked, with_marks, IsMarkOfWidth}
use Rattle.mem_work.specs.declared.marks.Mark.{Mark}
use Rattle.mem_work.specs.declared.marks.Mark.TheVariants.{Fresh, Held}
use Rattle.mem_work.specs.ProofsForMemory.{names_entry-true, is_stored, stored-whole, active_width-by}
use Rattle.mem_work.proofs.Standing.{range-set_other, lacks, not_first, cell-below, entry-offset, cond-same, cond-and, and-same, whole-first}
use Rattle.mem_work.proofs.Handed.{none-from}
use Rattle.mem_work.proofs.Ranges.{range-elsewhere, range-at, length-range}

module _ (reaches : ℕ → Records → ℕ → List ℕ) (lawful : ℕ → Records → ℕ → Type 0)
    (present : (shape : ℕ) (m : Records) (root : ℕ) → lawful shape m root → AllThere (reaches shape m root) m)
    (stays : (shape : ℕ) (m n : Records) (root : ℕ) → SameAt (reaches shape m root) m n → lawful shape m root → lawful shape n root × (reaches shape n root ≡ reaches shape m root))
    (shape : ℕ) (table stamps : List ℕ) (bits buffers words last root : ℕ) (law : ∥ lawful shape (standing table bits buffers words) root ∥₁)
    (b : ℕ) (below : b < buffers) (some : 0 < words) (room : length table ≡ buffers * words) (also : length stamps ≡ buffers * words + buffers * words)
    (uncommitted : (r : ℕ) → buffer_of bits r ≡ b → words_at (image_in reaches shape table bits buffers words root) r ≡ [])
    (unstored : (r i : ℕ) → buffer_of bits r ≡ b → stored_since table stamps bits buffers words (last + 1) r i ≡ None) where
  inside : b * words + words ≤ buffers * words
  inside = let more : suc b * words ≤ buffers * words = mul-le-mul_right words below in omega arith

  abbrev t : List ℕ
  t = set table (b * words) 0

  abbrev s : List ℕ
  s = without_stamps stamps buffers words b

  -- stamps without those of the buffer's words
  abbrev s_words : List ℕ
  s_words = with_range stamps (b * words) (replicate words 0)

  pub width-here : width_in t words b ≡ 0
  width-here = get_or-set_same table (b * words) 0 0 (omega (arith, inside, room, some))

  pub width-other : (a : ℕ) → a ≢ b → width_in t words a ≡ width_in table words a
  width-other a ne = get_or-set_other table (b * words) (a * words) 0 0 (λ same. ne (same_from_place a 0 b 0 words some some (omega (arith, same))).0)

  -- a word of an entry elsewhere lies outside the buffer
  outside : (q i width : ℕ) → IsEntry bits buffers words width q → i < width → buffer_of bits q ≢ b
      → (begin_of bits words width q + i < b * words) ⊎ (b * words + words ≤ begin_of bits words width q + i)
  outside q i width e h ne =
      let at = (within e i h).1 in
      elim (cases_lt (buffer_of bits q) b) [
        | inl less ↦ (let more : suc (buffer_of bits q) * words ≤ b * words = mul-le-mul_right words less in inl (omega arith))
        | inr not ↦ (let more : suc b * words ≤ buffer_of bits q * words = mul-le-mul_right words (omega (arith, not, ne)) in inr (omega arith))
      ]

  fits-words : b * words + words ≤ length stamps
  fits-words = omega (arith, inside, also)

  words-long : length s_words ≡ length stamps
  words-long = length-range stamps (b * words) (replicate words 0) words (length-replicate words 0) fits-words

  fits-entries : buffers * words + b * words + words ≤ length s_words
  fits-entries = omega (arith, inside, also, words-long)

  stamps-long : length s ≡ length stamps
  stamps-long = length-range s_words (buffers * words + b * words) (replicate words 0) words (length-replicate words 0) fits-entries ∙ words-long

  -- a stamp of another buffer stays
  stamp-kept : (k : ℕ) → (k < b * words) ⊎ (b * words + words ≤ k) → (k < buffers * words + b * words) ⊎ (buffers * words + b * words + words ≤ k) → get_or s k 0 ≡ get_or stamps k 0
  stamp-kept k of_words of_entries =
      range-elsewhere s_words (buffers * words + b * words) (replicate words 0) words (length-replicate words 0) fits-entries k of_entries
      ∙ range-elsewhere stamps (b * words) (replicate words 0) words (length-replicate words 0) fits-words k of_words

  stamp-other : (q i width : ℕ) → IsEntry bits buffers words width q → i < width → buffer_of bits q ≢ b → get_or s (begin_of bits words width q + i) 0 ≡ get_or stamps (begin_of bits words width q + i) 0
  stamp-other q i width e h ne =
      stamp-kept (begin_of bits words width q + i) (outside q i width e h ne) (inl (omega (arith, cell-below bits buffers words width q i e h)))

  entry-other : (q width : ℕ) → IsEntry bits buffers words width q → buffer_of bits q ≢ b → get_or s (stamp_at bits buffers words q) 0 ≡ get_or stamps (stamp_at bits buffers words q) 0
  entry-other q width e ne =
      let low = entry-offset bits buffers words width q e in
      stamp-kept (stamp_at bits buffers words q) (inr (omega (arith, inside))) (elim (cases_lt (buffer_of bits q) b) [
        | inl less ↦ (let more : suc (buffer_of bits q) * words ≤ b * words = mul-le-mul_right words less in inl (omega (arith, low, more)))
        | inr not ↦ (let more : suc b * words ≤ buffer_of bits q * words = mul-le-mul_right words (omega (arith, not, ne)) in inr (omega (arith, more)))
      ])

  stamps-other : (q : ℕ) → buffer_of bits q ≢ b → names_entry bits buffers words (width_in table words (buffer_of bits q)) q ≡ true
      → take (width_in table words (buffer_of bits q)) (drop (begin_of bits words (width_in table words (buffer_of bits q)) q) s)
      ≡ take (width_in table words (buffer_of bits q)) (drop (begin_of bits words (width_in table words (buffer_of bits q)) q) stamps)
  stamps-other q ne there =
      let w = width_in table words (buffer_of bits q) in
      let from = begin_of bits words w q in
      same_number_lists (take w (drop from s)) (take w (drop from stamps)) (simp (length-take, length-drop) (omega (arith, stamps-long))) (λ k h.
      let less : k < w = omega (arith, simp length-take at h) in
      get_or-take w (drop from s) k 0 less ∙ get_or-drop from s k 0
      ∙ stamp-other q k w (names_entry-true bits buffers words w q there) less ne
      ∙ sym (get_or-take w (drop from stamps) k 0 less ∙ get_or-drop from stamps k 0))

  standing-elsewhere : (q : ℕ) → buffer_of bits q ≢ b → standing t bits buffers words q ≡ standing table bits buffers words q
  unfolding standing
  standing-elsewhere q ne =
      ap (λ w. cond (names_entry bits buffers words w q) (take w (drop (begin_of bits words w q) t)) []) (width-other (buffer_of bits q) ne)
      ∙ cond-same (names_entry bits buffers words (width_in table words (buffer_of bits q)) q) _ _ [] (λ there.
      let w = width_in table words (buffer_of bits q) in
      range-set_other table (b * words) (begin_of bits words w q) w 0
      (lacks (b * words) (begin_of bits words w q) w (λ j h same. not_first bits buffers words w q j b (names_entry-true bits buffers words w q there) h (sym same))))

  kept : (q : ℕ) → 0 < length (words_at (image_in reaches shape table bits buffers words root) q) → standing t bits buffers words q ≡ standing table bits buffers words q
  kept q there = standing-elsewhere q (λ same. let none = ap length (uncommitted q same) in omega (arith, there, none))

  pub lawful-cleared : ∥ lawful shape (standing t bits buffers words) root ∥₁
  lawful-cleared = lawful-kept reaches lawful present stays shape (standing table bits buffers words) _ root law kept

  image-cleared : image_in reaches shape t bits buffers words root ≡ image_in reaches shape table bits buffers words root
  image-cleared = next_image-kept reaches lawful present stays shape (standing table bits buffers words) _ root law kept

  no_entry : (q : ℕ) → buffer_of bits q ≡ b → 0 < width_in t words (buffer_of bits q) → ⊥
  no_entry q at wide = omega (arith, wide, ap (width_in t words) at, width-here)

  whole-cleared : (q : ℕ) → is_whole t s bits buffers words (last + 1) q ≡ is_whole table stamps bits buffers words (last + 1) q
  unfolding is_whole
  whole-cleared q = elim (cases_eq (buffer_of bits q) b) [
    | inl e ↦
        false_from_ne_true _ (λ is. no_entry q e (whole-first t s bits buffers words (last + 1) q (stamps-long ∙ also) is).0.wide)
        ∙ sym (false_from_ne_true _ (λ is.
        let wide = (whole-first table stamps bits buffers words (last + 1) q also is).0.wide in
        let one = stored-whole table stamps bits buffers words (last + 1) q 0 also is wide in
        let none = unstored q 0 e in cc))
    | inr ne ↦
        ap (λ w. names_entry bits buffers words w q && list_all (was_stored_since (last + 1) (get_or s (stamp_at bits buffers words q) 0)) (take w (drop (begin_of bits words w q) s)))
        (width-other (buffer_of bits q) ne)
        ∙ and-same _ _ _ (λ there.
        let w = width_in table words (buffer_of bits q) in
        ap (λ x. list_all (was_stored_since (last + 1) x) (take w (drop (begin_of bits words w q) s))) (entry-other q w (names_entry-true bits buffers words w q there) ne)
        ∙ ap (list_all (was_stored_since (last + 1) (get_or stamps (stamp_at bits buffers words q) 0))) (stamps-other q ne there))
  ]

  stored-cleared : (q i : ℕ) → stored_since t s bits buffers words (last + 1) q i ≡ stored_since table stamps bits buffers words (last + 1) q i
  unfolding stored_since
  stored-cleared q i = elim (cases_eq (buffer_of bits q) b) [
    | inl e ↦
        none-from _ (λ x is. no_entry q e (is_stored t s bits buffers words (last + 1) q i x is).entry.wide)
        ∙ sym (unstored q i e)
    | inr ne ↦
        ap (λ w. cond (names_entry bits buffers words w q && (ltb i w && was_stored_since (last + 1) (get_or s (stamp_at bits buffers words q) 0) (get_or s (begin_of bits words w q + i) 0)))
        (Some (get_or t (begin_of bits words w q + i) 0)) None)
        (width-other (buffer_of bits q) ne)
        ∙ cond-and _ _ _ _ _ _ _ (λ there less.
        let w = width_in table words (buffer_of bits q) in
        let e = names_entry-true bits buffers words w q there in
        let lt = ltb-true i w less in (
          ap (λ x. was_stored_since (last + 1) x (get_or s (begin_of bits words w q + i) 0)) (entry-other q w e ne)
              ∙ ap (was_stored_since (last + 1) (get_or stamps (stamp_at bits buffers words q) 0)) (stamp-other q i w e lt ne),
          ap Some (get_or-set_other table (b * words) _ 0 0 (λ same. not_first bits buffers words w q i b e lt same)),
        ))
  ]

  pub records-cleared : (q : ℕ) → records_in reaches shape t s bits buffers words last root q ≡ records_in reaches shape table stamps bits buffers words last root q
  records-cleared q =
      ap (λ x. cond x (standing t bits buffers words q) (words_at (image_in reaches shape t bits buffers words root) q)) (whole-cleared q)
      ∙ ap (λ image. cond (is_whole table stamps bits buffers words (last + 1) q) (standing t bits buffers words q) (words_at image q)) image-cleared
      ∙ cond-same _ _ _ _ (λ is. standing-elsewhere q (λ at.
      let wide = (whole-first table stamps bits buffers words (last + 1) q also is).0.wide in
      let one = stored-whole table stamps bits buffers words (last + 1) q 0 also is wide in
      let none = unstored q 0 at in absurd (cc)))

  -- the stamps
  word-here : (x : ℕ) → x < words → get_or s (b * words + x) 0 ≡ 0
  word-here x h =
      range-elsewhere s_words (buffers * words + b * words) (replicate words 0) words (length-replicate words 0) fits-entries (b * words + x) (inl (omega (arith, h, inside)))
      ∙ range-at stamps (b * words) (replicate words 0) words (length-replicate words 0) fits-words x h ∙ slice_index-zeros words x

  entry-here : (x : ℕ) → x < words → get_or s (buffers * words + b * words + x) 0 ≡ 0
  entry-here x h =
      range-at s_words (buffers * words + b * words) (replicate words 0) words (length-replicate words 0) fits-entries x h ∙ slice_index-zeros words x

  -- each is 0 or as it was
  stamp-is : (p : ℕ) → (get_or s p 0 ≡ 0) ⊎ (get_or s p 0 ≡ get_or stamps p 0)
  stamp-is p = elim (cases_lt p (b * words)) [
    | inl h ↦ inr (stamp-kept p (inl h) (inl (omega (arith, h))))
    | inr h ↦ elim (cases_lt p (b * words + words)) [
      | inl g ↦ (let at : b * words + (p - b * words) ≡ p = omega (arith, h) in inl (subst (λ k. get_or s k 0 ≡ 0) at (word-here (p - b * words) (omega (arith, g, h)))))
      | inr g ↦ elim (cases_lt p (buffers * words + b * words)) [
        | inl before ↦ inr (stamp-kept p (inr g) (inl before))
        | inr not ↦ elim (cases_lt p (buffers * words + b * words + words)) [
          | inl less ↦
              (let at : buffers * words + b * words + (p - (buffers * words + b * words)) ≡ p = omega (arith, not) in
              inl (subst (λ k. get_or s k 0 ≡ 0) at (entry-here (p - (buffers * words + b * words)) (omega (arith, not, less)))))
          | inr past ↦ inr (stamp-kept p (inr g) (inr past))
        ]
      ]
    ]
  ]

  pub stamped-cleared : (n : ℕ) → ((p : ℕ) → get_or stamps p 0 ≤ n) → (p : ℕ) → get_or s p 0 ≤ n
  stamped-cleared n old p = elim (stamp-is p) [ inl none ↦ omega (arith, none) | inr same ↦ omega (arith, old p, same) ]

  pub unused-cleared : IsUnused table stamps buffers words (last + 1) → IsUnused t s buffers words (last + 1)
  unused-cleared old a x in_memory h none = elim (cases_eq a b) [
    | inl e ↦
        (let place : buffers * words + (a * words + x) ≡ buffers * words + b * words + x = omega (arith, ap (λ k. k * words) e) in (
          omega (arith, ap (λ k. get_or s (k * words + x) 0) e, word-here x h),
          omega (arith, ap (λ k. get_or s k 0) place, entry-here x h),
        ))
    | inr ne ↦
        (let before = old a x in_memory h (sym (width-other a ne) ∙ none) in (
          elim (stamp-is (a * words + x)) [ inl zero ↦ omega (arith, zero) | inr same ↦ omega (arith, before.0, same) ],
          elim (stamp-is (buffers * words + (a * words + x))) [ inl zero ↦ omega (arith, zero) | inr same ↦ omega (arith, before.1, same) ],
        ))
  ]

  module _ (marks : List Mark) (size : length marks ≡ buffers) (generation first : ℕ) where
    abbrev m : List Mark
    m = set marks b (Held generation last (width_in table words b))

    mark-here : mark_at m b ≡ Held generation last (width_in table words b)
    mark-here = get_or-set_same marks b _ Fresh (omega (arith, below, size))

    mark-other : (a : ℕ) → a ≢ b → mark_at m a ≡ mark_at marks a
    mark-other a ne = get_or-set_other marks b a _ Fresh ne

    pub marks-cleared : ((a : ℕ) → IsMarkOfWidth generation first last (width_in table words a) (mark_at marks a))
        → (a : ℕ) → IsMarkOfWidth generation first last (width_in t words a) (mark_at m a)
    marks-cleared old a = elim (cases_eq a b) [
      | inl e ↦ subst (λ k. IsMarkOfWidth generation first last (width_in t words k) (mark_at m k)) (sym e) (record {
        past = λ g c same. absurd (let at = mark-here in cc);
        held = λ g c v same.
            let both : Held generation last (width_in table words b) ≡ Held g c v = sym mark-here ∙ same in
            let gen : generation ≡ g = cc in
            let at_commit : last ≡ c = cc in
            record { few = omega (arith, gen); commit = omega (arith, at_commit); later = λ less. absurd (omega (arith, less, gen)); none = width-here };
      })
      | inr ne ↦
          subst (λ k. IsMarkOfWidth generation first last (width_in t words a) k) (sym (mark-other a ne))
          (subst (λ w. IsMarkOfWidth generation first last w (mark_at marks a)) (sym (width-other a ne)) (old a))
    ]

    buffer-cleared : (a : ℕ) → marked (mark_at m a) (buffer_by (width_in t words a))
        ≡ (retired (with_marks (memory_view reaches shape table stamps bits buffers words last root) marks generation first) b).buffer a
    buffer-cleared a = elim (cases_eq a b) [
      | inl e ↦
          ap (λ k. marked (mark_at m k) (buffer_by (width_in t words k))) e
          ∙ ap (λ k. marked k (buffer_by (width_in t words b))) mark-here
          ∙ ap (λ w. marked (Held generation last (width_in table words b)) (buffer_by w)) width-here
          ∙ ap (λ w. Buffer.held w (tag_of generation last)) (sym (active_width-by (mark_at marks b) (width_in table words b)))
          ∙ ap (λ x. cond x (Buffer.held (active_width (marked (mark_at marks b) (buffer_by (width_in table words b)))) (tag_of generation last)) (marked (mark_at marks a) (buffer_by (width_in table words a))))
          (sym (eq-eqb a b e))
      | inr ne ↦
          ap (λ k. marked k (buffer_by (width_in t words a))) (mark-other a ne)
          ∙ ap (λ w. marked (mark_at marks a) (buffer_by w)) (width-other a ne)
          ∙ ap (λ x. cond x (Buffer.held (active_width (marked (mark_at marks b) (buffer_by (width_in table words b)))) (tag_of generation last)) (marked (mark_at marks a) (buffer_by (width_in table words a))))
          (sym (ne_eqb a b ne))
    ]

    pub view-cleared : with_marks (memory_view reaches shape t s bits buffers words last root) m generation first
        ≡ retired (with_marks (memory_view reaches shape table stamps bits buffers words last root) marks generation first) b
    view-cleared = λ k. record (retired (with_marks (memory_view reaches shape table stamps bits buffers words last root) marks generation first) b) {
      buffer = λ a. buffer-cleared a k;
      commits = record { floor = last; last = last; image = λ n. image-cleared k };
      stored = λ q i. stored-cleared q i k;
    }
