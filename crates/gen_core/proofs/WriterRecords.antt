-- The writer's records, for who writes entries and for the calls that read words.
use Rattle.std.proofs.Common.{◌≡◌, ◌≢◌, ℕ, zero, suc, ◌+◌, ◌<◌, ◌≤◌, List, [], ◌∷◌, length, Option, Some, None, Bool, cond, eqb, true, false, ne_eqb, refl, sym, ap, ◌∙◌, subst, ⊎_elim, arith, slice_index, ◌^◌}
use Rattle.std.specs.Option.{unwrap_or}
use Rattle.std.specs.Prelude.{All}
use Rattle.std.proofs.lemmas.Bool.Decides.{nat_tests}
use Rattle.list_lemmas.proofs.Options.{same_Some}
use Rattle.entry_ref.specs.References.{buffer_of, offset_limit}
use Rattle.entry_ref.specs.declared.images.Image.{Image}
use Rattle.entry_ref.specs.Records.{Records, SameAt}
use Rattle.entry_ref.specs.Images.{record_at, words_at}
use Rattle.entry_ref.specs.Places.{IsEntry}
use Rattle.entry_ref.proofs.Apart.{one_place, entry-small}
use Rattle.entry_ref.proofs.Pairs.{pairs-same}
use Rattle.gen_core.specs.declared.views.Sizes.{Sizes}
use Rattle.gen_core.specs.declared.views.WriterView.{WriterView}
use Rattle.gen_core.specs.Views.{active_in, last_image}
use Rattle.gen_core.specs.Work.{work_at, place_in, IsRecordStored, prepend, run_at, is_entry, only_if, whole_by, whole_at, writer_records, next_image}
use Rattle.gen_core.specs.Good.{IsPlaced}
use Rattle.gen_core.specs.Events.{stored, published}
use Rattle.gen_core.proofs.Lists.{all_found}
use Rattle.gen_core.proofs.Work.{is_entry-true, whole-found, records-found}
use Rattle.gen_core.proofs.ViewLemmas.{last_image-push}

run-made : (work : List (ℕ × ℕ)) (ws : List ℕ) (p : ℕ) → ((i : ℕ) → i < length ws → work_at work (p + i) ≡ Some (slice_index ws i)) → run_at work p (length ws) ≡ Some ws
unfolding run_at
run-made work [] p each = refl
run-made work (x ∷ xs) p each =
    let at : p + 0 ≡ p = omega arith in
    let first : work_at work p ≡ Some x = ap (work_at work) (sym at) ∙ each 0 (omega arith) in
    let rest : run_at work (suc p) (length xs) ≡ Some xs = run-made work xs (suc p) (λ i lt. let next : suc p + i ≡ p + suc i = omega arith in ap (work_at work) next ∙ each (suc i) (omega arith)) in
    (λ k. prepend (first k) (rest k))

-- the test of an entry holds of an entry
pub entry-true : (sizes : Sizes) (width ref : ℕ) → IsEntry sizes.offset_bits sizes.buffers sizes.words width ref → is_entry sizes width ref ≡ true
unfolding is_entry
entry-true sizes width ref e =
    let inside = e.inside in
    let wide = e.wide in
    let first = e.first in
    let last = e.last in
    grind (arith, nat_tests, inside, wide, first, last)

-- what was stored whole is the writer's record
pub whole-made : (w : WriterView) (ref : ℕ) (ws : List ℕ) → IsRecordStored w ref ws → whole_at w ref ≡ Some ws
whole-made w ref ws h =
    let start : ℕ = place_in w.sizes (length ws) ref 0 in
    ap (whole_by w ref) h.active
    ∙ ap (λ t. only_if t (run_at w.work start (length ws))) (entry-true w.sizes (length ws) ref h.entry)
    ∙ run-made w.work ws start (λ i lt. let at : start + i ≡ place_in w.sizes (length ws) ref i = omega arith in ap (work_at w.work) at ∙ h.words i lt)

pub records-whole : (w : WriterView) (ref : ℕ) (ws : List ℕ) → IsRecordStored w ref ws → writer_records w ref ≡ ws
records-whole w ref ws h = ap (λ o. unwrap_or o (words_at (last_image w.commits) ref)) (whole-made w ref ws h)

-- after a publish the records are the image's
pub records-published : (w : WriterView) (image : Image) (ref : ℕ) → writer_records (published w image) ref ≡ words_at image ref
records-published w image ref = by_whole (whole_at (published w image) ref) refl ∙ ap (λ x. words_at x ref) (last_image-push w.commits image)
  where
    by_whole : (o : Option (List ℕ)) → whole_at (published w image) ref ≡ o
        → unwrap_or o (words_at (last_image (published w image).commits) ref) ≡ words_at (last_image (published w image).commits) ref
    by_whole None e = refl
    by_whole (Some ws) e =
        let h = whole-found (published w image) ref ws e in
        let first : work_at [] (place_in w.sizes (length ws) ref 0) ≡ Some (slice_index ws 0) = h.words 0 h.entry.wide in
        absurd (cc)

-- what is reached has the same words after its publish
pub publish-tells : (reaches : ℕ → Records → ℕ → List ℕ) (w : WriterView) (root : ℕ)
    → SameAt (reaches w.sizes.shape (writer_records w) root) (writer_records w) (writer_records (published w (next_image reaches w root)))
publish-tells reaches w root =
    let refs : List ℕ = reaches w.sizes.shape (writer_records w) root in
    let image : Image = next_image reaches w root in
    subst (λ (m : Records). SameAt refs (writer_records w) m) (λ k ref. sym (records-published w image ref) k) (pairs-same refs (writer_records w))

-- a stored word leaves what is read beside it
run-other : (work : List (ℕ × ℕ)) (p n start count : ℕ) → ((i : ℕ) → i < count → start + i ≢ p) → run_at ((p, n) ∷ work) start count ≡ run_at work start count
unfolding run_at
run-other work p n start zero apart = refl
run-other work p n start (suc count) apart =
    let here : eqb start p ≡ false = ne_eqb start p (λ e. apart 0 (omega arith) (omega (arith, e))) in
    let rest = run-other work p n (suc start) count (λ i lt e. apart (suc i) (omega arith) (omega (arith, e))) in
    (λ k. prepend (cond (here k) (Some n) (work_at work start)) (rest k))

-- storing a word of one entry leaves the other records
pub records-others : (w : WriterView) (ref width i n : ℕ) → active_in w.buffers (buffer_of w.sizes.offset_bits ref) ≡ Some width → IsEntry w.sizes.offset_bits w.sizes.buffers w.sizes.words width ref → i < width
    → (q : ℕ) → q ≢ ref → writer_records (stored w (place_in w.sizes width ref i) n) q ≡ writer_records w q
records-others w ref width i n at e lt q other = ap (λ o. unwrap_or o (words_at (last_image w.commits) q)) (by_width (active_in w.buffers (buffer_of w.sizes.offset_bits q)) refl)
  where
    p : ℕ
    p = place_in w.sizes width ref i

    by_entry : (x : ℕ) → active_in w.buffers (buffer_of w.sizes.offset_bits q) ≡ Some x → (t : Bool) → is_entry w.sizes x q ≡ t
        → only_if t (run_at ((p, n) ∷ w.work) (place_in w.sizes x q 0) x) ≡ only_if t (run_at w.work (place_in w.sizes x q 0) x)
    by_entry x there false test = refl
    by_entry x there true test = run-other w.work p n (place_in w.sizes x q 0) x
        (λ j less same. other (one_place w.sizes.offset_bits w.sizes.buffers w.sizes.words x width q ref j i (is_entry-true w.sizes x q test) e
        (λ b. same_Some x width (sym there ∙ ap (active_in w.buffers) b ∙ at)) less lt (omega (arith, same))).0)

    by_width : (o : Option ℕ) → active_in w.buffers (buffer_of w.sizes.offset_bits q) ≡ o → whole_by (stored w p n) q o ≡ whole_by w q o
    by_width None there = refl
    by_width (Some x) there = by_entry x there (is_entry w.sizes x q) refl

-- a record of the writer has a reference of 32 bits, where its last commit's records lie in their buffers
pub records-small : (w : WriterView) → w.sizes.words ≤ 65536 → w.sizes.words ≤ offset_limit w.sizes.offset_bits → All (IsPlaced w.sizes w.buffers) (last_image w.commits).records
    → (ref : ℕ) → 0 < length (writer_records w ref) → ref < 2 ^ 32
records-small w few limit placed ref there = ⊎_elim
    (λ (old : record_at (last_image w.commits) ref ≡ Some (writer_records w ref)). entry-small (all_found (IsPlaced w.sizes w.buffers) (last_image w.commits).records ref _ placed old).inside few limit)
    (λ (whole : IsRecordStored w ref (writer_records w ref)). entry-small whole.entry few limit)
    (records-found w ref there)
