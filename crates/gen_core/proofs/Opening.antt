-- The opening state meets the invariant.
use Rattle.list_lemmas.proofs.Places.{slice_index-zeros}
use Rattle.std.proofs.Common.{◌≡◌, ℕ, zero, suc, ◌+◌, ◌*◌, ◌<◌, List, [], ◌∷◌, ◌++◌, length, get_or, Option, Some, None, false, ne_eqb, refl, sym, ap, ◌∙◌, arith, length-append, slice_index}
use Rattle.std.specs.Prelude.{slice_get, replicate, option_and_then, ◌||◌}
use Rattle.std.proofs.lemmas.List.{length-replicate, get_or-replicate, get_or_append_left, get_or-append-add}
use Rattle.std.proofs.lemmas.List.Elements.{All-nil, All-cons}
use Rattle.std.proofs.lemmas.Option.{slice_get_within, get_or_from_slice_get}
use Rattle.entry_ref.specs.declared.images.Image.{Image}
use Rattle.entry_ref.specs.Records.{Records}
use Rattle.entry_ref.specs.Images.{no_image, words_at}
use Rattle.gen_core.specs.declared.views.Sizes.{Sizes}
use Rattle.gen_core.specs.declared.views.Pending.TheVariants.{Nothing}
use Rattle.gen_core.specs.declared.views.Buffer.{Buffer}
use Rattle.gen_core.specs.declared.views.Buffer.TheVariants.{Free, Held}
use Rattle.gen_core.specs.Views.{IsCommit, hold_place, is_open_hold, state_word, record_width, width_in, queue_of}
use Rattle.gen_core.specs.Good.{HoldFits, hold_word, IsLawfulCommit, Good}
use Rattle.gen_core.specs.Events.{opening_words, opening, MayOpen, opening_hold}
use Rattle.gen_core.proofs.Layouts.{IsLayout}

-- every element of a replicate is its element
at_replicate : {A : Type 0} (n k : ℕ) (a b : A) → slice_get (replicate n a) k ≡ Some b → a ≡ b
at_replicate n k a b at = sym (get_or-replicate n k a b (let lt = slice_get_within (replicate n a) k b at in omega (arith, lt, length-replicate n a))) ∙ get_or_from_slice_get (replicate n a) k b b at

-- behind the counts every word is 0
word-zero : (sizes : Sizes) (i : ℕ) → slice_index (opening_words sizes) (18 + i) ≡ 0
word-zero sizes i = get_or-append-add (0 ∷ 0 ∷ 0 ∷ replicate 15 1) (replicate (sizes.buffers + sizes.buffers * sizes.words) 0) i 0 ∙ slice_index-zeros (sizes.buffers + sizes.buffers * sizes.words) i

-- holds 1 to 15 are closed
count-one : (h : ℕ) (ys : List ℕ) → h < 15 → slice_index (replicate 15 1 ++ ys) h ≡ 1
count-one h ys lt = get_or_append_left (replicate 15 1) ys 0 h lt ∙ get_or-replicate 15 h 1 0 lt

closed : (h : ℕ) → is_open_hold (queue_of [] opening_hold Nothing) (suc h) ≡ false
closed h = ap (λ t. (t || false) || false) (ne_eqb 0 (suc h) (λ e. omega arith))

counts-first : (sizes : Sizes) (h : ℕ) → h < 16 → slice_index (opening_words sizes) (hold_place h) ≡ hold_word 0 (is_open_hold (queue_of [] opening_hold Nothing) h)
counts-first sizes zero lt = refl
counts-first sizes (suc h) lt = let at : hold_place (suc h) ≡ 3 + h = omega arith in
    ap (slice_index (opening_words sizes)) at ∙ get_or-append-add (0 ∷ 0 ∷ 0 ∷ []) (replicate 15 1 ++ replicate (sizes.buffers + sizes.buffers * sizes.words) 0) h 0
    ∙ count-one h (replicate (sizes.buffers + sizes.buffers * sizes.words) 0) (omega arith) ∙ sym (ap (hold_word 0) (closed h))

module _ (reaches : ℕ → Records → ℕ → List ℕ) (lawful : ℕ → Records → ℕ → Type 0) where
  pub opening_good : IsLayout reaches lawful → (sizes : Sizes) → MayOpen sizes → Good reaches lawful (opening sizes)
  opening_good l sizes may = record {
    sizes = record {
      table = omega (arith, length-append {A = ℕ} (0 ∷ 0 ∷ 0 ∷ replicate 15 1) (replicate (sizes.buffers + sizes.buffers * sizes.words) 0), length-replicate {A = ℕ} (sizes.buffers + sizes.buffers * sizes.words) 0);
      count = length-replicate sizes.buffers (Free None);
      some_word = may.some_word;
      commit_limit = may.commit_limit;
      generation_limit = may.generation_limit;
    };
    queue = record {
      few = omega arith;
      rising = λ i j d lt less. absurd (omega arith);
      each = All-cons (HoldFits (no_image ∷ [])) opening_hold [] (record { hold = omega arith; first_commit = omega arith }) (All-nil (HoldFits (no_image ∷ [])));
      next = λ h e. absurd (cc);
      generation = omega arith;
      commit = omega arith;
    };
    tags = record {
      free = λ b last at. absurd (let same : Free None ≡ Free (Some last) = at_replicate sizes.buffers b (Free None) (Free (Some last)) at in cc);
      held = λ b width tag at. absurd (let same : Free None ≡ Held width tag = at_replicate sizes.buffers b (Free None) (Held width tag) at in cc);
    };
    commits = record {
      empty = refl;
      each = All-cons (IsLawfulCommit reaches lawful sizes.shape) no_image []
          (record { lawful_image = l.empty_lawful sizes.shape (words_at no_image); reached = sym (l.empty_reaches sizes.shape (words_at no_image)); small = omega arith })
          (All-nil (IsLawfulCommit reaches lawful sizes.shape));
      seen = All-nil (IsCommit (no_image ∷ []));
    };
    places = record { records = λ k d lt l e less. absurd (nothing k d lt l less); stored = λ p n there. absurd (cc) };
    names = record {
      root = refl;
      newest_hold = refl;
      states = λ b x at. word-zero sizes b ∙ ap state_word (at_replicate sizes.buffers b (Free None) x at);
    };
    memory = record {
      records = λ k d lt l e less. absurd (nothing k d lt l less);
      stored = λ p n there. absurd (cc);
      widths = λ b width is some. absurd (let free : None ≡ Some width = sym (free-width b) ∙ is in cc);
    };
    counts = record { counts = counts-first sizes; views = refl; few = omega arith };
    readers = λ k d lt. absurd (omega arith);
  }
    where
      nothing : (k : ℕ) (d : Image) → k < 1 → (l : ℕ) → l < length (get_or (no_image ∷ []) k d).records → ⊥
      nothing zero d lt l less = omega arith
      nothing (suc k) d lt l less = omega arith

      free-width : (b : ℕ) → width_in (replicate sizes.buffers (Free None)) b ≡ None
      free-width b = by_buffer (slice_get (replicate sizes.buffers (Free None)) b) refl
        where
          by_buffer : (o : Option Buffer) → slice_get (replicate sizes.buffers (Free None)) b ≡ o → option_and_then record_width o ≡ None
          by_buffer None at = refl
          by_buffer (Some x) at = ap record_width (sym (at_replicate sizes.buffers b (Free None) x at))
