-- Buffers with their marks, and what each call makes of the marks.
use Rattle.std.proofs.Common.{◌≡◌, ℕ, zero, suc, ◌+◌, ◌<◌, Bool, true, false, cond, eqb, ltb, List, map, Some, None, refl, sym, ap, subst, ◌∙◌, arith}
use Rattle.std.proofs.Math.ListN.{replicate, get_or-map}
use Rattle.std.proofs.lemmas.Bool.{ltb-true, eqb-true}
use Rattle.arena_api.specs.Works.{WorkView, Buffer, is_free, last_tag}
use Rattle.arena_api.specs.Calls.{handed_out, with_buffer}
use Rattle.arena_api.specs.Generations.{freed_below}
use Rattle.mem_work.specs.Cells.{buffer_by}
use Rattle.mem_work.specs.Marks.{tag_of, mark_freed, mark_at, marked, marked_buffers, with_marks, IsMarkOfWidth}
use Rattle.mem_work.specs.declared.marks.Mark.{Mark}
use Rattle.mem_work.specs.declared.marks.Mark.TheVariants.{Fresh, Past, Held}

pub fresh-at : (n b : ℕ) → mark_at (replicate n Fresh) b ≡ Fresh
fresh-at zero b = refl
fresh-at (suc n) zero = refl
fresh-at (suc n) (suc b) = fresh-at n b

pub mark-fresh : (w : ℕ) (m : Mark) → m ≡ Fresh → IsMarkOfWidth 0 0 0 w m
mark-fresh w m fresh = record { past = λ g c at. absurd (cc); held = λ g c v at. absurd (cc) }

-- a free buffer has no width and is not on hold
pub free-width : (m : Mark) (w : ℕ) → is_free (marked m (buffer_by w)) ≡ true → w ≡ 0
free-width m zero free = refl
free-width Fresh (suc w) free = absurd (cc)
free-width (Past g c) (suc w) free = absurd (cc)
free-width (Held g c v) (suc w) free = absurd (cc)

free-unheld : (w g c v : ℕ) (m : Mark) → is_free (marked m (buffer_by w)) ≡ true → m ≡ Held g c v → ⊥
free-unheld zero g c v Fresh free same = cc
free-unheld (suc w) g c v Fresh free same = cc
free-unheld zero g c v (Past h d) free same = cc
free-unheld (suc w) g c v (Past h d) free same = cc
free-unheld zero g c v (Held h d u) free same = cc
free-unheld (suc w) g c v (Held h d u) free same = cc

-- a mark stays one while its buffer has the same first word
pub mark-word : (generation first last v w : ℕ) (m : Mark) → w ≡ v → IsMarkOfWidth generation first last v m → IsMarkOfWidth generation first last w m
mark-word generation first last v w m same is = subst (λ x. IsMarkOfWidth generation first last x m) (sym same) is

-- where a buffer is handed out, its mark stays one
pub mark-handed : (generation first last v : ℕ) (m : Mark) → is_free (marked m (buffer_by v)) ≡ true → IsMarkOfWidth generation first last v m → (w : ℕ) → IsMarkOfWidth generation first last w m
mark-handed generation first last v m free is w = record {
  past = is.past;
  held = λ g c u at. absurd (free-unheld v g c u m free at);
}

pub mark-later : (generation first last w : ℕ) (m : Mark) → IsMarkOfWidth generation first last w m → IsMarkOfWidth generation first (last + 1) w m
mark-later generation first last w m is = record {
  past = is.past;
  held = λ g c v at. (let h = is.held g c v at in record { few = h.few; commit = omega (arith, h.commit); later = h.later; none = h.none });
}

pub mark-advanced : (generation first last w : ℕ) (m : Mark) → IsMarkOfWidth generation first last w m → IsMarkOfWidth (generation + 1) last last w m
mark-advanced generation first last w m is = record {
  past = λ g c at. (let h = is.past g c at in omega (arith, h));
  held = λ g c v at. (let h = is.held g c v at in record { few = omega (arith, h.few); commit = h.commit; later = λ below. h.commit; none = h.none });
}

-- what is tagged below the generation is past
freed-past : (generation g c v : ℕ) (t : Bool) → t ≡ ltb g generation → (h d : ℕ) → cond t (Past g c) (Held g c v) ≡ Past h d → h < generation
freed-past generation g c v true test h d same = let at : g ≡ h = cc in subst (λ x. x < generation) at (ltb-true g generation (sym test))
freed-past generation g c v false test h d same = absurd (cc)

freed-held : (generation g c v : ℕ) (t : Bool) (h d u : ℕ) → cond t (Past g c) (Held g c v) ≡ Held h d u → Held g c v ≡ Held h d u
freed-held generation g c v true h d u same = absurd (cc)
freed-held generation g c v false h d u same = same

pub mark-freed : (generation first last w : ℕ) (m : Mark) → IsMarkOfWidth generation first last w m → IsMarkOfWidth generation first last w (mark_freed generation m)
mark-freed generation first last w Fresh is = is
mark-freed generation first last w (Past g c) is = is
mark-freed generation first last w (Held g c v) is = record {
  past = λ h d same. freed-past generation g c v (ltb g generation) refl h d same;
  held = λ h d u same. is.held h d u (freed-held generation g c v (ltb g generation) h d u same);
}

buffer-freed : (generation g c v : ℕ) (t : Bool) → marked (cond t (Past g c) (Held g c v)) (Buffer.free None) ≡ cond t (Buffer.free (Some (tag_of g c))) (Buffer.held v (tag_of g c))
buffer-freed generation g c v true = refl
buffer-freed generation g c v false = refl

-- and its buffer free
pub marked-freed : (generation first last w : ℕ) (m : Mark) → IsMarkOfWidth generation first last w m → marked (mark_freed generation m) (buffer_by w) ≡ freed_below generation (marked m (buffer_by w))
marked-freed generation first last zero Fresh is = refl
marked-freed generation first last (suc w) Fresh is = refl
marked-freed generation first last zero (Past g c) is = refl
marked-freed generation first last (suc w) (Past g c) is = refl
marked-freed generation first last zero (Held g c v) is = buffer-freed generation g c v (ltb g generation)
marked-freed generation first last (suc w) (Held g c v) is = let none = (is.held g c v refl).none in absurd (omega arith)

pub freed-at : (generation : ℕ) (marks : List Mark) (b : ℕ) → mark_at (map (mark_freed generation) marks) b ≡ mark_freed generation (mark_at marks b)
freed-at generation marks b = get_or-map (mark_freed generation) marks b Fresh

-- a buffer with a mark gets a width
handed-marked : (m : Mark) (w width : ℕ) → 0 < width → is_free (marked m (buffer_by w)) ≡ true
    → marked m (Buffer.active width (last_tag (buffer_by w))) ≡ Buffer.active width (last_tag (marked m (buffer_by w)))
handed-marked Fresh zero width wide free = refl
handed-marked Fresh (suc w) width wide free = absurd (cc)
handed-marked (Past g c) zero width wide free = refl
handed-marked (Past g c) (suc w) width wide free = absurd (cc)
handed-marked (Held g c v) zero width wide free = absurd (cc)
handed-marked (Held g c v) (suc w) width wide free = absurd (cc)

pub with_marks-handed : {H : Type 0} (work : WorkView H) (marks : List Mark) (generation first b width w : ℕ) → 0 < width → work.buffer b ≡ buffer_by w
    → is_free (marked (mark_at marks b) (buffer_by w)) ≡ true
    → with_marks (handed_out work b width) marks generation first ≡ handed_out (with_marks work marks generation first) b width
with_marks-handed work marks generation first b width w wide at free = λ k. record (with_marks work marks generation first) { buffer = λ a. same a k }
  where
    one : (t : Bool) (a : ℕ) → (t ≡ true → a ≡ b) → marked (mark_at marks a) (cond t (Buffer.active width (last_tag (work.buffer b))) (work.buffer a))
        ≡ cond t (Buffer.active width (last_tag (marked (mark_at marks b) (work.buffer b)))) (marked (mark_at marks a) (work.buffer a))
    one true a here =
        ap (λ x. marked (mark_at marks x) (Buffer.active width (last_tag (work.buffer b)))) (here refl)
        ∙ subst (λ x. marked (mark_at marks b) (Buffer.active width (last_tag x)) ≡ Buffer.active width (last_tag (marked (mark_at marks b) x))) (sym at)
        (handed-marked (mark_at marks b) w width wide free)
    one false a here = refl

    same : (a : ℕ) → marked (mark_at marks a) (with_buffer work.buffer b (Buffer.active width (last_tag (work.buffer b))) a)
        ≡ with_buffer (marked_buffers marks work.buffer) b (Buffer.active width (last_tag (marked (mark_at marks b) (work.buffer b)))) a
    same a = one (eqb a b) a (λ e. eqb-true a b e)
