-- What a work in memory knows, and which records it has, after a record is stored whole.
use Rattle.std.proofs.Common.{◌≡◌, ◌≢◌, ℕ, ◌+◌, ◌*◌, ◌<◌, inl, inr, cond, List, [], length, set, sym, ap, ◌∙◌, arith}
use Rattle.std.proofs.lemmas.Bool.{cases_eq, eq-eqb, ne_eqb, cond-true}
use Rattle.entry_ref.specs.References.{buffer_of}
use Rattle.entry_ref.specs.Images.{words_at}
use Rattle.entry_ref.specs.Places.{IsEntry}
use Rattle.entry_ref.specs.Records.{Records, SameAt, AllThere, with_words}
use Rattle.mem_work.specs.Cells.{width_in, begin_of, stamp_at, with_range, standing, is_whole, stored_since, image_in, records_in, buffer_by, memory_view}
use Rattle.arena_api.proofs.Reached.{lawful-kept, next_image-kept}
use Rattle.mem_work.proofs.Ranges.{width-range, standing-elsewhere, standing-range, whole-elsewhere, whole-range, stored-elsewhere}

-- a layout, and words that its last root's image stands in; those of an entry that this image lacks are replaced
module _ (reaches : ℕ → Records → ℕ → List ℕ) (lawful : ℕ → Records → ℕ → Type 0)
    (present : (shape : ℕ) (m : Records) (root : ℕ) → lawful shape m root → AllThere (reaches shape m root) m)
    (stays : (shape : ℕ) (m n : Records) (root : ℕ) → SameAt (reaches shape m root) m n → lawful shape m root → lawful shape n root × (reaches shape n root ≡ reaches shape m root))
    (shape : ℕ) (table stamps : List ℕ) (bits buffers words last root : ℕ) (law : ∥ lawful shape (standing table bits buffers words) root ∥₁)
    (r width : ℕ) (is : width_in table words (buffer_of bits r) ≡ width) (e : IsEntry bits buffers words width r) (ws : List ℕ) (long : length ws ≡ width)
    (room : length table ≡ buffers * words) (also : length stamps ≡ buffers * words + buffers * words) (unkept : words_at (image_in reaches shape table bits buffers words root) r ≡ []) where
  kept-put : (q : ℕ) → 0 < length (words_at (image_in reaches shape table bits buffers words root) q)
      → standing (with_range table (begin_of bits words width r) ws) bits buffers words q ≡ standing table bits buffers words q
  kept-put q some =
      standing-elsewhere table bits buffers words r width is e ws long room q (λ same.
      let none = ap (λ x. length (words_at (image_in reaches shape table bits buffers words root) x)) same ∙ ap length unkept in omega (arith, some, none))

  pub lawful-put : ∥ lawful shape (standing (with_range table (begin_of bits words width r) ws) bits buffers words) root ∥₁
  lawful-put = lawful-kept reaches lawful present stays shape (standing table bits buffers words) _ root law kept-put

  image-put : image_in reaches shape (with_range table (begin_of bits words width r) ws) bits buffers words root ≡ image_in reaches shape table bits buffers words root
  image-put = next_image-kept reaches lawful present stays shape (standing table bits buffers words) _ root law kept-put

  pub view-put : memory_view reaches shape (with_range table (begin_of bits words width r) ws) (set stamps (stamp_at bits buffers words r) (last + 1)) bits buffers words last root
      ≡ record (memory_view reaches shape table stamps bits buffers words last root) {
        stored = stored_since (with_range table (begin_of bits words width r) ws) (set stamps (stamp_at bits buffers words r) (last + 1)) bits buffers words (last + 1);
      }
  view-put = λ k. record (memory_view reaches shape (with_range table (begin_of bits words width r) ws) (set stamps (stamp_at bits buffers words r) (last + 1)) bits buffers words last root) {
    buffer = λ b. buffer_by (width-range table bits buffers words r width is e ws long room b k);
    commits = record { floor = last; last = last; image = λ n. image-put k };
  }

  pub stored-put : (q i : ℕ) → q ≢ r
      → stored_since (with_range table (begin_of bits words width r) ws) (set stamps (stamp_at bits buffers words r) (last + 1)) bits buffers words (last + 1) q i ≡ stored_since table stamps bits buffers words (last + 1) q i
  stored-put q i ne = stored-elsewhere table bits buffers words r width is e ws long room stamps (last + 1) also (last + 1) q i ne

  records-elsewhere : (q : ℕ) → q ≢ r
      → records_in reaches shape (with_range table (begin_of bits words width r) ws) (set stamps (stamp_at bits buffers words r) (last + 1)) bits buffers words last root q
      ≡ records_in reaches shape table stamps bits buffers words last root q
  records-elsewhere q ne =
      ap (λ t. cond t (standing (with_range table (begin_of bits words width r) ws) bits buffers words q) (words_at (image_in reaches shape (with_range table (begin_of bits words width r) ws) bits buffers words root) q))
      (whole-elsewhere table bits buffers words r width is e ws long room stamps (last + 1) also (last + 1) q ne)
      ∙ ap (λ x. cond (is_whole table stamps bits buffers words (last + 1) q) x (words_at (image_in reaches shape (with_range table (begin_of bits words width r) ws) bits buffers words root) q))
      (standing-elsewhere table bits buffers words r width is e ws long room q ne)
      ∙ ap (λ image. cond (is_whole table stamps bits buffers words (last + 1) q) (standing table bits buffers words q) (words_at image q)) image-put

  pub records-put : (q : ℕ) → records_in reaches shape (with_range table (begin_of bits words width r) ws) (set stamps (stamp_at bits buffers words r) (last + 1)) bits buffers words last root q
      ≡ with_words (records_in reaches shape table stamps bits buffers words last root) r ws q
  records-put q = elim (cases_eq q r) [
    | inl same ↦
        ap (records_in reaches shape (with_range table (begin_of bits words width r) ws) (set stamps (stamp_at bits buffers words r) (last + 1)) bits buffers words last root) same
        ∙ cond-true _ _ _ (whole-range table bits buffers words r width is e ws long room stamps (last + 1) also (last + 1) (omega arith))
        ∙ standing-range table bits buffers words r width is e ws long room
        ∙ ap (λ t. cond t ws (records_in reaches shape table stamps bits buffers words last root q)) (sym (eq-eqb q r same))
    | inr ne ↦ records-elsewhere q ne ∙ ap (λ t. cond t ws (records_in reaches shape table stamps bits buffers words last root q)) (sym (ne_eqb q r ne))
  ]
