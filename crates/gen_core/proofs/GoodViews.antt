-- What is good of the writer's view alone, and what follows for who has no more than that.
use Rattle.std.proofs.lemmas.List.Elements.{All-tail, All-head}
use Rattle.std.specs.Map.{lookup}
use Rattle.std.proofs.lemmas.Option.{slice_get_within}
use Rattle.entry_ref.specs.Images.{words_at, record_at}
use Rattle.std.proofs.Common.{true, false, zero, suc, Bool, suc, nat_eq, cond, subst, [], ⊎_elim, unwrap_or, get_or, slice_get, length, option_and_then, eq-eqb, ◌≡◌, ◌≢◌, ℕ, ◌+◌, ◌<◌, ◌≤◌, List, ◌∷◌, Option, Some, None}
use Rattle.std.proofs.Common.{refl, sym, ap, ◌∙◌, arith}
use Rattle.entry_ref.specs.Places.{IsEntry, base}
use Rattle.entry_ref.proofs.Apart.{one_place}
use Rattle.gen_core.specs.Views.{active_in, floor_of, kept_of, last_number, last_image, record_width, width_in, active_width}
use Rattle.gen_core.specs.Good.{State, GoodView, Good, HoldFits, HasNothingIn, IsPlaced, IsApart, Avoids}
use Rattle.gen_core.specs.Work.{work_at, place_in, IsRecordStored, whole_at, writer_records}
use Rattle.entry_ref.specs.Records.{records_of, Records}
use Rattle.gen_core.proofs.Holds.{at_oldest}
use Rattle.gen_core.proofs.Lists.{all_drop-at, all_found}
use Rattle.gen_core.proofs.ViewLemmas.{active-width, last_at}
use Rattle.gen_core.proofs.Work.{whole-found, records-found}
use Rattle.gen_core.specs.declared.views.Tag.{Tag}
use Rattle.gen_core.specs.declared.views.Buffer.{Buffer}
use Rattle.gen_core.specs.declared.views.WriterView.{WriterView}
use Rattle.entry_ref.specs.declared.images.Image.{Image}
use Rattle.entry_ref.specs.References.{buffer_of}
use Rattle.std.proofs.lemmas.Nat.{same_from_place}
use Rattle.std.specs.Prelude.{All}
use Rattle.list_lemmas.proofs.Options.{same_Some}
use Rattle.gen_core.specs.declared.views.Buffer.TheVariants.{Free, Active, Held}

-- a buffer that has records and is not on hold is active
not-held-active : (o : Option Buffer) (n : ℕ) → option_and_then record_width o ≡ Some n → ((width : ℕ) (tag : Tag) → o ≡ Some (Held width tag) → ⊥) → option_and_then active_width o ≡ Some n
not-held-active None n e free = absurd (cc)
not-held-active (Some (Free tag)) n e free = absurd (cc)
not-held-active (Some (Active width tag)) n e free = e
not-held-active (Some (Held width tag)) n e free = absurd (free width tag refl)

-- a pair with words is found with words
pub found-some : (pairs : List (ℕ × List ℕ)) (r l : ℕ) (e : ℕ × List ℕ) → All (λ p. 0 < length p.1) pairs → l < length pairs → (get_or pairs l e).0 ≡ r → 0 < length (records_of pairs r)
found-some [] r l e all lt is = absurd (omega arith)
found-some (q ∷ qs) r zero e all lt is = subst (λ t. 0 < length (unwrap_or (cond t (Some q.1) (lookup (nat_eq r) qs)) [])) (sym (eq-eqb r q.0 (sym is))) (All-head (λ p. 0 < length p.1) q qs all)
found-some (q ∷ qs) r (suc l) e all lt is = by_test (nat_eq r q.0) (found-some qs r l e (All-tail (λ p. 0 < length p.1) q qs all) (omega arith) is)
  where
    by_test : (t : Bool) → 0 < length (records_of qs r) → 0 < length (unwrap_or (cond t (Some q.1) (lookup (nat_eq r) qs)) [])
    by_test true h = All-head (λ p. 0 < length p.1) q qs all
    by_test false h = h

module _ (reaches : ℕ → Records → ℕ → List ℕ) (lawful : ℕ → Records → ℕ → Type 0) where
  pub good_view : (s : State) → Good reaches lawful s → GoodView s.writer
  good_view s g = record {
    count = g.sizes.count;
    some_word = g.sizes.some_word;
    queue = g.queue;
    tags = g.tags;
    empty = g.commits.empty;
    records = g.places.records;
    apart = λ p n there. (g.places.stored p n there).apart;
    unstored = λ b x lt idle. by_word b x lt idle (work_at s.writer.work (base s.writer.sizes.buffers s.writer.sizes.words b + x)) refl;
  }
    where
      by_word : (b x : ℕ) → x < s.writer.sizes.words → active_in s.writer.buffers b ≡ None → (o : Option ℕ)
          → work_at s.writer.work (base s.writer.sizes.buffers s.writer.sizes.words b + x) ≡ o → o ≡ None
      by_word b x lt idle None e = refl
      by_word b x lt idle (Some n) e =
          let a = (g.places.stored _ n e).active in
          let is = a.is in
          let same = (same_from_place b x a.b a.x s.writer.sizes.words lt a.inside (omega (arith, is))).0 in
          let none : Some a.width ≡ None = sym a.active ∙ ap (active_in s.writer.buffers) (sym same) ∙ idle in
          absurd (cc)

module _ (w : WriterView) (g : GoodView w) where
  -- there is a commit, and the last one is kept
  pub some-commit : 0 < length w.commits
  some-commit = slice_get_within w.commits 0 _ g.empty

  pub floor-last : floor_of w ≤ last_number w.commits
  floor-last = (at_oldest (HoldFits w.commits) w.queue.older w.queue.newest g.queue.each).first_commit

  pub last-in : slice_get w.commits (last_number w.commits) ≡ Some (last_image w.commits)
  last-in = last_at w.commits some-commit

  -- what holds of each kept commit holds of the last
  pub last-kept : (P : Image → Type 0) → All P (kept_of w) → P (last_image w.commits)
  last-kept P all = all_drop-at P (floor_of w) w.commits (last_number w.commits) (last_image w.commits) all floor-last last-in

  -- a record of a kept commit is placed
  pub kept-placed : (n : ℕ) (image : Image) → floor_of w ≤ n → slice_get w.commits n ≡ Some image → (ref : ℕ) (ws : List ℕ) → record_at image ref ≡ Some ws → IsPlaced w.sizes w.buffers (ref, ws)
  kept-placed n image from is ref ws at =
      all_found (IsPlaced w.sizes w.buffers) image.records ref ws (all_drop-at (λ image. All (IsPlaced w.sizes w.buffers) image.records) (floor_of w) w.commits n image g.records from is) at

  pub last-placed : (ref : ℕ) (ws : List ℕ) → record_at (last_image w.commits) ref ≡ Some ws → IsPlaced w.sizes w.buffers (ref, ws)
  last-placed = kept-placed (last_number w.commits) (last_image w.commits) floor-last last-in

  -- the last commit has no record in a buffer on hold
  pub not-held : (ref : ℕ) (ws : List ℕ) → record_at (last_image w.commits) ref ≡ Some ws → (width : ℕ) (tag : Tag) → slice_get w.buffers (buffer_of w.sizes.offset_bits ref) ≡ Some (Held width tag) → ⊥
  not-held ref ws at width tag held =
      let b : ℕ = buffer_of w.sizes.offset_bits ref in
      let t = g.tags.held b width tag held in
      let none : HasNothingIn w.sizes.offset_bits b (last_image w.commits) =
      all_drop-at (HasNothingIn w.sizes.offset_bits b) tag.commit w.commits (last_number w.commits) (last_image w.commits) t.unused t.commit last-in in
      all_found (λ pair. buffer_of w.sizes.offset_bits pair.0 ≢ b) (last_image w.commits).records ref ws none at refl

  -- the last commit's records are the writer's
  pub records-last : (ref : ℕ) (ws : List ℕ) → record_at (last_image w.commits) ref ≡ Some ws → writer_records w ref ≡ ws
  records-last ref ws at = by_whole (whole_at w ref) refl
    where
      by_whole : (o : Option (List ℕ)) → whole_at w ref ≡ o → unwrap_or o (words_at (last_image w.commits) ref) ≡ ws
      by_whole None e = ap (λ o. unwrap_or o []) at
      by_whole (Some xs) e =
          let h = whole-found w ref xs e in
          let placed = last-placed ref ws at in
          let long : length xs ≡ length ws = same_Some _ _ (sym (active-width w.buffers _ _ h.active) ∙ placed.width) in
          let p : ℕ = place_in w.sizes (length xs) ref 0 in
          let far = all_found (λ pair. IsApart w.sizes p (length pair.1) pair.0) (last_image w.commits).records ref ws
          (last-kept (Avoids w.sizes p) (g.apart p _ (h.words 0 h.entry.wide))).records at in
          absurd (far.each 0 placed.inside.wide (ap (λ n. place_in w.sizes n ref 0) (sym long)))

  -- a record of the writer lies in an active buffer of its width
  pub records-placed : (ref : ℕ) → 0 < length (writer_records w ref) → IsPlaced w.sizes w.buffers (ref, writer_records w ref)
  records-placed ref some = ⊎_elim
      (λ (old : record_at (last_image w.commits) ref ≡ Some (writer_records w ref)). last-placed ref _ old)
      (λ (whole : IsRecordStored w ref (writer_records w ref)). record { inside = whole.entry; width = active-width w.buffers _ _ whole.active })
      (records-found w ref some)

  pub records-active : (ref : ℕ) → 0 < length (writer_records w ref) → active_in w.buffers (buffer_of w.sizes.offset_bits ref) ≡ Some (length (writer_records w ref))
  records-active ref some = ⊎_elim
      (λ (old : record_at (last_image w.commits) ref ≡ Some (writer_records w ref)).
      not-held-active (slice_get w.buffers (buffer_of w.sizes.offset_bits ref)) _ (last-placed ref _ old).width (not-held ref _ old))
      (λ (whole : IsRecordStored w ref (writer_records w ref)). whole.active)
      (records-found w ref some)

  -- a place of an entry that no kept commit has as a record is apart from each of them
  pub unkept-avoids : (ref i width : ℕ) → active_in w.buffers (buffer_of w.sizes.offset_bits ref) ≡ Some width → IsEntry w.sizes.offset_bits w.sizes.buffers w.sizes.words width ref → i < width
      → All (λ image. words_at image ref ≡ []) (kept_of w) → All (Avoids w.sizes (place_in w.sizes width ref i)) (kept_of w)
  unkept-avoids ref i width active entry inside unkept k d lt =
      let image : Image = get_or (kept_of w) k d in
      let placed : All (IsPlaced w.sizes w.buffers) image.records = g.records k d lt in
      record {
        records = λ l e less. record {
          each = λ j at same.
              let other = placed l e less in
              let both = one_place w.sizes.offset_bits w.sizes.buffers w.sizes.words _ width _ ref j i other.inside entry
              (λ b. same_Some _ _ (sym other.width ∙ ap (width_in w.buffers) b ∙ active-width w.buffers (buffer_of w.sizes.offset_bits ref) width active)) at inside same in
              let some = found-some image.records ref l e (λ m x h. (placed m x h).inside.wide) less both.0 in
              let zero : length (words_at image ref) ≡ 0 = ap length (unkept k d lt) in
              omega (arith, some, zero);
        };
      }
