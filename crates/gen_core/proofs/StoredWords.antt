-- The words that were stored since the last commit, entry by entry: one more word, and one more buffer.
use Rattle.list_lemmas.proofs.Places.{slice_get-set_same, slice_get-set_other}
use Rattle.std.proofs.Common.{◌≡◌, ◌≢◌, inl, inr, ℕ, zero, suc, ◌+◌, ◌*◌, ◌<◌, List, [], ◌∷◌, length, set, Option, Some, None, Bool, true, false, cond, eqb, refl, sym, ap, ◌∙◌, arith, ne_eqb, eq-eqb}
use Rattle.std.specs.Prelude.{slice_get, option_and_then, nat_eq, nat_lt, ◌&&◌, if◌then◌else◌}
use Rattle.std.specs.Option.{unwrap_or}
use Rattle.std.proofs.lemmas.Bool.{cases_eq, ltb-true, lt-ltb, and_parts, and_left, and_right, and_from}
use Rattle.std.proofs.lemmas.Option.{slice_get_within}
use Rattle.list_lemmas.proofs.Options.{same_Some}
use Rattle.entry_ref.specs.Images.{words_at}
use Rattle.entry_ref.specs.Places.{IsEntry}
use Rattle.entry_ref.proofs.Apart.{within, one_place}
use Rattle.gen_core.specs.Views.{last_image, active_width, active_in, last_tag, last_tag_in}
use Rattle.gen_core.specs.Conditions.{MayStoreWidth, MayHandOut}
use Rattle.gen_core.specs.Good.{GoodView}
use Rattle.gen_core.specs.Events.{stored, with_buffer, widened, handed_out}
use Rattle.gen_core.specs.Work.{work_at, place_in, prepend, run_at, is_entry, only_if, whole_by, writer_records, stored_in, stored_by}
use Rattle.gen_core.proofs.WriterRecords.{entry-true}
use Rattle.gen_core.proofs.Work.{is_entry-true}
use Rattle.gen_core.specs.declared.views.Tag.{Tag}
use Rattle.gen_core.specs.declared.views.WriterView.{WriterView}
use Rattle.entry_ref.specs.References.{buffer_of, offset_of}
use Rattle.gen_core.specs.declared.views.Pending.TheVariants.{Nothing}
use Rattle.gen_core.specs.declared.views.Buffer.TheVariants.{Free, Active}

-- a stored word
pub record IsStored (w : WriterView) (r i x : ℕ) : Type 0 where
  pub width : ℕ
  pub active : active_in w.buffers (buffer_of w.sizes.offset_bits r) ≡ Some width
  pub entry : IsEntry w.sizes.offset_bits w.sizes.buffers w.sizes.words width r
  pub inside : i < width
  pub word : work_at w.work (place_in w.sizes width r i) ≡ Some x

pub is_stored : (w : WriterView) (r i x : ℕ) → stored_by w r i ≡ Some x → IsStored w r i x
is_stored w r i x e = by_width (active_in w.buffers (buffer_of w.sizes.offset_bits r)) refl e
  where
    by_test : (width : ℕ) → active_in w.buffers (buffer_of w.sizes.offset_bits r) ≡ Some width → (t : Bool) → (is_entry w.sizes width r && nat_lt i width) ≡ t
        → only_if t (work_at w.work (place_in w.sizes width r i)) ≡ Some x → IsStored w r i x
    by_test width at false test is = absurd (cc)
    by_test width at true test is = record {
      width = width;
      active = at;
      entry = is_entry-true w.sizes width r (and_parts _ _ test).0;
      inside = ltb-true i width (and_parts _ _ test).1;
      word = is;
    }

    by_width : (o : Option ℕ) → active_in w.buffers (buffer_of w.sizes.offset_bits r) ≡ o → stored_in w r i o ≡ Some x → IsStored w r i x
    by_width None at is = absurd (cc)
    by_width (Some width) at is = by_test width at (is_entry w.sizes width r && nat_lt i width) refl is

pub stored-there : (w : WriterView) (r i width : ℕ) → active_in w.buffers (buffer_of w.sizes.offset_bits r) ≡ Some width → IsEntry w.sizes.offset_bits w.sizes.buffers w.sizes.words width r → i < width
    → stored_by w r i ≡ work_at w.work (place_in w.sizes width r i)
stored-there w r i width at e lt =
    ap (stored_in w r i) at ∙ ap (λ t. only_if t (work_at w.work (place_in w.sizes width r i))) (and_from _ _ (entry-true w.sizes width r e) (lt-ltb i width lt))

-- a word that is stored elsewhere leaves what was stored here
stored-other : (w : WriterView) (p n q j : ℕ) → ((v : ℕ) → active_in w.buffers (buffer_of w.sizes.offset_bits q) ≡ Some v → IsEntry w.sizes.offset_bits w.sizes.buffers w.sizes.words v q → j < v
    → place_in w.sizes v q j ≢ p)
    → stored_by (stored w p n) q j ≡ stored_by w q j
stored-other w p n q j clear = by_width (active_in w.buffers (buffer_of w.sizes.offset_bits q)) refl
  where
    by_test : (v : ℕ) → active_in w.buffers (buffer_of w.sizes.offset_bits q) ≡ Some v → (t : Bool) → (is_entry w.sizes v q && nat_lt j v) ≡ t
        → only_if t (cond (eqb (place_in w.sizes v q j) p) (Some n) (work_at w.work (place_in w.sizes v q j))) ≡ only_if t (work_at w.work (place_in w.sizes v q j))
    by_test v at false test = refl
    by_test v at true test =
        let parts = and_parts _ _ test in
        ap (λ t. cond t (Some n) (work_at w.work (place_in w.sizes v q j))) (ne_eqb _ p (clear v at (is_entry-true w.sizes v q parts.0) (ltb-true j v parts.1)))

    by_width : (o : Option ℕ) → active_in w.buffers (buffer_of w.sizes.offset_bits q) ≡ o → stored_in (stored w p n) q j o ≡ stored_in w q j o
    by_width None at = refl
    by_width (Some v) at = by_test v at (is_entry w.sizes v q && nat_lt j v) refl

module _ (w : WriterView) (r i width n : ℕ) (active : active_in w.buffers (buffer_of w.sizes.offset_bits r) ≡ Some width) (entry : IsEntry w.sizes.offset_bits w.sizes.buffers w.sizes.words width r)
    (inside : i < width) where
  abbrev pub p : ℕ
  p = place_in w.sizes width r i

  -- one word more is stored
  pub stored-step : (q j : ℕ) → stored_by (stored w (place_in w.sizes width r i) n) q j ≡ (if nat_eq q r && nat_eq j i then Some n else stored_by w q j)
  stored-step q j = elim (cases_eq q r) [
    | inl e ↦ elim (cases_eq j i) [
      | inl f ↦
          (λ k. stored_by (stored w p n) (e k) (f k))
          ∙ stored-there (stored w p n) r i width active entry inside
          ∙ ap (λ t. cond t (Some n) (work_at w.work p)) (eq-eqb p p refl)
          ∙ ap (λ t. cond t (Some n) (stored_by w q j)) (sym (and_from _ _ (eq-eqb q r e) (eq-eqb j i f)))
      | inr f ↦ other q j (λ v at there lt same. f (one q j v at there lt same).1) ∙ ap (λ t. cond t (Some n) (stored_by w q j)) (sym (and_right _ _ (ne_eqb j i f)))
    ]
    | inr e ↦ other q j (λ v at there lt same. e (one q j v at there lt same).0) ∙ ap (λ t. cond t (Some n) (stored_by w q j)) (sym (and_left _ _ (ne_eqb q r e)))
  ]
    where
      one : (q j v : ℕ) → active_in w.buffers (buffer_of w.sizes.offset_bits q) ≡ Some v → IsEntry w.sizes.offset_bits w.sizes.buffers w.sizes.words v q → j < v → place_in w.sizes v q j ≡ p → (q ≡ r) × (j ≡ i)
      one q j v at there lt same = one_place w.sizes.offset_bits w.sizes.buffers w.sizes.words v width q r j i there entry (λ b. same_Some v width (sym at ∙ ap (active_in w.buffers) b ∙ active)) lt inside same

      other : (q j : ℕ) → ((v : ℕ) → active_in w.buffers (buffer_of w.sizes.offset_bits q) ≡ Some v → IsEntry w.sizes.offset_bits w.sizes.buffers w.sizes.words v q → j < v → place_in w.sizes v q j ≢ p)
          → stored_by (stored w p n) q j ≡ stored_by w q j
      other q j clear = stored-other w p n q j clear

-- a buffer written twice
set-set : {A : Type 0} (l : List A) (b : ℕ) (x y : A) → set (set l b x) b y ≡ set l b y
set-set [] b x y = refl
set-set (z ∷ zs) zero x y = refl
set-set (z ∷ zs) (suc b) x y = λ k. z ∷ set-set zs b x y k

module _ (w : WriterView) (g : GoodView w) (b : ℕ) (tag : Option Tag) (width : ℕ) (free : slice_get w.buffers b ≡ Some (Free tag)) (some : 0 < width) where
  within-buffers : b < length w.buffers
  within-buffers = slice_get_within w.buffers b (Free tag) free

  pub may-hand-out : w.queue.pending ≡ Nothing → MayHandOut w b
  may-hand-out calm = record { calm = calm; tag = tag; free = free }

  pub may-width : w.queue.pending ≡ Nothing → MayStoreWidth (handed_out w b) b width
  may-width calm = record { calm = calm; none_yet = ap (option_and_then active_width) (slice_get-set_same w.buffers b (Active 0 (last_tag_in w.buffers b)) within-buffers); some = some }

  -- a buffer that is handed out and then gets its width
  abbrev pub given : WriterView
  given = with_buffer w b (Active width tag)

  pub two-steps : widened (handed_out w b) b width ≡ given
  two-steps =
      let last : last_tag_in w.buffers b ≡ tag = ap (option_and_then last_tag) free in
      let there : last_tag_in (set w.buffers b (Active 0 (last_tag_in w.buffers b))) b ≡ tag =
      ap (option_and_then last_tag) (slice_get-set_same w.buffers b (Active 0 (last_tag_in w.buffers b)) within-buffers) ∙ last in
      let list : set (set w.buffers b (Active 0 (last_tag_in w.buffers b))) b (Active width (last_tag_in (set w.buffers b (Active 0 (last_tag_in w.buffers b))) b)) ≡ set w.buffers b (Active width tag) =
      set-set w.buffers b _ _ ∙ ap (λ t. set w.buffers b (Active width t)) there in
      (λ k. record w { buffers = list k })

  here : slice_get (set w.buffers b (Active width tag)) b ≡ Some (Active width tag)
  here = slice_get-set_same w.buffers b (Active width tag) within-buffers

  other : (a : ℕ) → a ≢ b → slice_get (set w.buffers b (Active width tag)) a ≡ slice_get w.buffers a
  other a ne = slice_get-set_other w.buffers b a (Active width tag) ne

  -- nothing was stored in the buffer
  idle : active_in w.buffers b ≡ None
  idle = ap (option_and_then active_width) free

  nothing-there : (q v i : ℕ) → buffer_of w.sizes.offset_bits q ≡ b → IsEntry w.sizes.offset_bits w.sizes.buffers w.sizes.words v q → i < v → work_at w.work (place_in w.sizes v q i) ≡ None
  nothing-there q v i same e lt = g.unstored (buffer_of w.sizes.offset_bits q) (offset_of w.sizes.offset_bits q * v + i) (within e i lt).1 (ap (active_in w.buffers) same ∙ idle)

  given-active : (q : ℕ) → buffer_of w.sizes.offset_bits q ≡ b → active_in (set w.buffers b (Active width tag)) (buffer_of w.sizes.offset_bits q) ≡ Some width
  given-active q same = ap (active_in (set w.buffers b (Active width tag))) same ∙ ap (option_and_then active_width) here

  pub stored-given : (q i : ℕ) → stored_by given q i ≡ stored_by w q i
  stored-given q i = elim (cases_eq (buffer_of w.sizes.offset_bits q) b) [
    | inl e ↦ ap (stored_in given q i) (given-active q e) ∙ by_test e (is_entry w.sizes width q && nat_lt i width) refl ∙ sym (ap (stored_in w q i) (ap (active_in w.buffers) e ∙ idle))
    | inr ne ↦ ap (stored_in w q i) (ap (option_and_then active_width) (other (buffer_of w.sizes.offset_bits q) ne))
  ]
    where
      by_test : buffer_of w.sizes.offset_bits q ≡ b → (t : Bool) → (is_entry w.sizes width q && nat_lt i width) ≡ t → only_if t (work_at w.work (place_in w.sizes width q i)) ≡ None
      by_test e false test = refl
      by_test e true test = let parts = and_parts _ _ test in nothing-there q width i e (is_entry-true w.sizes width q parts.0) (ltb-true i width parts.1)

  -- no record came or went
  records-given : (q : ℕ) → writer_records given q ≡ writer_records w q
  unfolding run_at
  records-given q = ap (λ o. unwrap_or o (words_at (last_image w.commits) q)) (elim (cases_eq (buffer_of w.sizes.offset_bits q) b) [
    | inl e ↦ ap (whole_by given q) (given-active q e) ∙ by_test e (is_entry w.sizes width q) refl ∙ sym (ap (whole_by w q) (ap (active_in w.buffers) e ∙ idle))
    | inr ne ↦ ap (whole_by w q) (ap (option_and_then active_width) (other (buffer_of w.sizes.offset_bits q) ne))
  ])
    where
      no-run : (work : List (ℕ × ℕ)) (start n : ℕ) → 0 < n → work_at work start ≡ None → run_at work start n ≡ None
      no-run work start zero h none = absurd (omega arith)
      no-run work start (suc n) h none = ap (λ o. prepend o (run_at work (suc start) n)) none

      by_test : buffer_of w.sizes.offset_bits q ≡ b → (t : Bool) → is_entry w.sizes width q ≡ t → only_if t (run_at w.work (place_in w.sizes width q 0) width) ≡ None
      by_test e false test = refl
      by_test e true test = no-run w.work (place_in w.sizes width q 0) width some (nothing-there q width 0 e (is_entry-true w.sizes width q test) some)

  pub hand-records : writer_records given ≡ writer_records w
  hand-records k q = records-given q k
