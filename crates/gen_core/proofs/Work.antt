-- What the writer's records hold.
use Rattle.std.proofs.Common.{◌≡◌, ◌⊎◌, ℕ, zero, suc, ◌+◌, ◌<◌, List, [], ◌∷◌, length, Option, Some, None, Bool, true, false, refl, sym, ap, ◌∙◌, subst, inl, inr, arith, slice_index}
use Rattle.std.specs.Option.{unwrap_or}
use Rattle.std.proofs.lemmas.Bool.Decides.{nat_tests}
use Rattle.entry_ref.specs.References.{buffer_of}
use Rattle.entry_ref.specs.Images.{record_at, words_at}
use Rattle.entry_ref.specs.Places.{IsEntry}
use Rattle.gen_core.specs.declared.views.Sizes.{Sizes}
use Rattle.gen_core.specs.declared.views.WriterView.{WriterView}
use Rattle.gen_core.specs.Views.{active_in, last_image}
use Rattle.gen_core.specs.Work.{work_at, place_in, IsRecordStored, prepend, run_at, is_entry, only_if, whole_by, whole_at, writer_records}

-- a run's words
pub run-words : (work : List (ℕ × ℕ)) (p n : ℕ) (ws : List ℕ) → run_at work p n ≡ Some ws → (length ws ≡ n) × ((i : ℕ) → i < length ws → work_at work (p + i) ≡ Some (slice_index ws i))
unfolding run_at
run-words work p zero ws e = let is : [] ≡ ws = cc in (ap length (sym is), λ i lt. absurd (let none : length ws ≡ 0 = ap length (sym is) in omega arith))
run-words work p (suc n) ws e = by_first (work_at work p) refl (run_at work (suc p) n) (run-words work (suc p) n) e
  where
    by_first : (o : Option ℕ) → work_at work p ≡ o → (t : Option (List ℕ))
        → ((xs : List ℕ) → t ≡ Some xs → (length xs ≡ n) × ((i : ℕ) → i < length xs → work_at work (suc p + i) ≡ Some (slice_index xs i)))
        → prepend o t ≡ Some ws → (length ws ≡ suc n) × ((i : ℕ) → i < length ws → work_at work (p + i) ≡ Some (slice_index ws i))
    by_first None first t rest is = absurd (cc)
    by_first (Some x) first None rest is = absurd (cc)
    by_first (Some x) first (Some xs) rest is =
        let same : x ∷ xs ≡ ws = cc in
        let r = rest xs refl in
        subst (λ l. (length l ≡ suc n) × ((i : ℕ) → i < length l → work_at work (p + i) ≡ Some (slice_index l i))) same
        (ap suc r.0, each x xs first r.1)
      where
        each : (x : ℕ) (xs : List ℕ) → work_at work p ≡ Some x → ((i : ℕ) → i < length xs → work_at work (suc p + i) ≡ Some (slice_index xs i))
            → (i : ℕ) → i < length (x ∷ xs) → work_at work (p + i) ≡ Some (slice_index (x ∷ xs) i)
        each x xs first later zero lt = let at : p + 0 ≡ p = omega arith in ap (work_at work) at ∙ first
        each x xs first later (suc i) lt = let at : p + suc i ≡ suc p + i = omega arith in ap (work_at work) at ∙ later i (omega arith)

-- the test of an entry
pub is_entry-true : (sizes : Sizes) (width ref : ℕ) → is_entry sizes width ref ≡ true → IsEntry sizes.offset_bits sizes.buffers sizes.words width ref
unfolding is_entry
is_entry-true sizes width ref test = record {
  inside = grind (arith, nat_tests, test);
  wide = grind (arith, nat_tests, test);
  first = grind (arith, nat_tests, test);
  last = grind (arith, nat_tests, test);
}

-- what was stored whole
pub whole-found : (w : WriterView) (ref : ℕ) (ws : List ℕ) → whole_at w ref ≡ Some ws → IsRecordStored w ref ws
whole-found w ref ws e = by_width (active_in w.buffers (buffer_of w.sizes.offset_bits ref)) refl e
  where
    by_entry : (width : ℕ) → active_in w.buffers (buffer_of w.sizes.offset_bits ref) ≡ Some width → (t : Bool) → is_entry w.sizes width ref ≡ t
        → only_if t (run_at w.work (place_in w.sizes width ref 0) width) ≡ Some ws → IsRecordStored w ref ws
    by_entry width at false test is = absurd (cc)
    by_entry width at true test is =
        let run = run-words w.work (place_in w.sizes width ref 0) width ws is in
        let long : length ws ≡ width = run.0 in
        record {
          entry = subst (λ n. IsEntry w.sizes.offset_bits w.sizes.buffers w.sizes.words n ref) (sym long) (is_entry-true w.sizes width ref test);
          active = at ∙ ap Some (sym long);
          words = λ i lt.
              let there : place_in w.sizes width ref 0 + i ≡ place_in w.sizes (length ws) ref i = subst (λ n. place_in w.sizes width ref 0 + i ≡ place_in w.sizes n ref i) (sym long) (omega arith) in
              ap (work_at w.work) (sym there) ∙ run.1 i lt;
        }

    by_width : (o : Option ℕ) → active_in w.buffers (buffer_of w.sizes.offset_bits ref) ≡ o → whole_by w ref o ≡ Some ws → IsRecordStored w ref ws
    by_width None at is = absurd (cc)
    by_width (Some width) at is = by_entry width at (is_entry w.sizes width ref) refl is

-- a record of the writer is whole in the work, or of the last commit
pub records-found : (w : WriterView) (ref : ℕ) → 0 < length (writer_records w ref) → (record_at (last_image w.commits) ref ≡ Some (writer_records w ref)) ⊎ IsRecordStored w ref (writer_records w ref)
records-found w ref some = by_whole (whole_at w ref) refl some
  where
    by_last : (o : Option (List ℕ)) → 0 < length (unwrap_or o []) → o ≡ Some (unwrap_or o [])
    by_last None h = absurd (omega arith)
    by_last (Some ws) h = refl

    by_whole : (o : Option (List ℕ)) → whole_at w ref ≡ o → 0 < length (unwrap_or o (words_at (last_image w.commits) ref))
        → (record_at (last_image w.commits) ref ≡ Some (unwrap_or o (words_at (last_image w.commits) ref))) ⊎ IsRecordStored w ref (unwrap_or o (words_at (last_image w.commits) ref))
    by_whole None e h = inl (by_last (record_at (last_image w.commits) ref) h)
    by_whole (Some ws) e h = inr (whole-found w ref ws e)
