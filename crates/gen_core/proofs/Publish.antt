-- A publish keeps the invariant: the new image is lawful, and its records stand where they were stored.
use Rattle.std.proofs.Common.{None, ap, ◌≢◌, ◌≡◌, ℕ, ◌<◌, List, [], ◌∷◌, ◌++◌, length, drop, Some, sym, ◌∙◌, ⊎_elim, arith, length-append}
use Rattle.std.proofs.Math.Seq.{get_or-set_other, get_or-set_same}
use Rattle.std.specs.Prelude.{slice_get, All, option_and_then}
use Rattle.entry_ref.specs.References.{buffer_of}
use Rattle.gen_core.specs.declared.views.Tag.{Tag}
use Rattle.std.proofs.lemmas.List.Elements.{All-push, All-weaker}
use Rattle.entry_ref.specs.declared.images.Image.{Image}
use Rattle.entry_ref.specs.Records.{Records, AllThere}
use Rattle.entry_ref.specs.Images.{record_at, words_at}
use Rattle.entry_ref.specs.Places.{base, state_place}
use Rattle.entry_ref.proofs.Pairs.{references-pairs, pairs-same}
use Rattle.gen_core.specs.declared.views.Sizes.{Sizes}
use Rattle.gen_core.specs.declared.views.Pending.TheVariants.{Nothing}
use Rattle.gen_core.specs.declared.views.Buffer.TheVariants.{Held}
use Rattle.gen_core.specs.declared.views.ReaderState.{ReaderState}
use Rattle.gen_core.specs.declared.views.ReaderState.TheVariants.{Idle, Aimed, Raised, Bounced, Guarded, Spent}
use Rattle.gen_core.specs.declared.views.ReaderView.{ReaderView}
use Rattle.gen_core.specs.declared.views.WriterView.{WriterView}
use Rattle.gen_core.specs.Views.{floor_of, last_number, last_image, root_word, active_in, active_width}
use Rattle.gen_core.specs.Work.{IsRecordStored, writer_records, next_image}
use Rattle.gen_core.specs.Good.{State, IsPlaced, WordsStand, GoodReaderState, GoodReader, HasNothingIn, GoodTag, IsLawfulCommit, Good}
use Rattle.gen_core.specs.Conditions.{MayPublish}
use Rattle.gen_core.specs.Events.{after_publish}
use Rattle.gen_core.proofs.Lists.{at_longer, all_drop-push, all_drop-at, all_found}
use Rattle.gen_core.proofs.Work.{records-found}
use Rattle.gen_core.proofs.Frames.{behind-high, counts-set, records-set, records-behind, sizes-set}
use Rattle.gen_core.specs.declared.views.Queue.{Queue}
use Rattle.gen_core.proofs.GoodViews.{good_view, some-commit, last-kept, records-placed}
use Rattle.gen_core.proofs.ViewLemmas.{last_at, last_image-push, commits-longer, all_pairs}
use Rattle.gen_core.proofs.Layouts.{IsLayout}

-- with one commit more, nothing that was said of a reader is lost
reader_longer : (sizes : Sizes) (queue : Queue) (commits : List Image) (image : Image) → queue.pending ≡ Nothing
    → (r : ReaderView) → GoodReader sizes queue commits r → GoodReader sizes queue (commits ++ image ∷ []) r
reader_longer sizes queue commits image calm r h = record {
  same_sizes = h.same_sizes;
  seen = let le = h.seen in omega (arith, le, longer);
  saw = commits-longer commits image r.saw h.saw;
  least = h.least;
  state = states r.state h.state;
}
  where
    longer : last_number (commits ++ image ∷ []) ≡ length commits
    longer = omega (arith, length-append commits (image ∷ []))

    states : (t : ReaderState) → GoodReaderState queue commits r t → GoodReaderState queue (commits ++ image ∷ []) r t
    states Idle k = k
    states (Aimed generation hold) k = k
    states (Raised hold) k = k
    states (Bounced hold) k = k
    states (Guarded hold c) k = record {
      raised = k.raised;
      commit = let le = k.commit in omega (arith, le, longer);
      first_commit = k.first_commit;
      next = λ e. absurd (let n = calm in cc);
      probed = λ e _. absurd (let n = calm in cc);
      image = k.image;
      seen = k.seen;
    }
    states Spent k = k

module _ (reaches : ℕ → Records → ℕ → List ℕ) (lawful : ℕ → Records → ℕ → Type 0) where
  pub next-lawful : IsLayout reaches lawful → (w : WriterView) (root : ℕ) → MayPublish lawful w root → IsLawfulCommit reaches lawful w.sizes.shape (next_image reaches w root)
  next-lawful l w root may =
      let shape = w.sizes.shape in
      let refs = reaches shape (writer_records w) root in
      let h = l.stays shape (writer_records w) (words_at (next_image reaches w root)) root (pairs-same refs (writer_records w)) may.lawful_root in
      record { lawful_image = h.0; reached = references-pairs refs (writer_records w) ∙ sym h.1; small = may.small }

  -- each word of a record of the writer stands
  pub records-stands : (s : State) → Good reaches lawful s → (ref : ℕ) → 0 < length (writer_records s.writer ref) → WordsStand s.writer.sizes s.words (ref, writer_records s.writer ref)
  records-stands s g ref some =
      let stand : ℕ × List ℕ → Type 0 = WordsStand s.writer.sizes s.words in
      ⊎_elim
      (λ (old : record_at (last_image s.writer.commits) ref ≡ Some (writer_records s.writer ref)).
      all_found stand (last_image s.writer.commits).records ref (writer_records s.writer ref) (last-kept s.writer (good_view reaches lawful s g) (λ image. All stand image.records) g.memory.records) old)
      (λ (whole : IsRecordStored s.writer ref (writer_records s.writer ref)). λ i lt. g.memory.stored _ _ (whole.words i lt))
      (records-found s.writer ref some)

  pub publish_keeps : IsLayout reaches lawful → (s : State) (root : ℕ) → Good reaches lawful s → MayPublish lawful s.writer root
      → Good reaches lawful (after_publish s (next_image reaches s.writer root))
  publish_keeps l s root g may =
      let w : WriterView = s.writer in
      let sizes : Sizes = w.sizes in
      let n : ℕ = root_word (length w.commits) image in
      record {
        sizes = sizes-set g.sizes 0 n;
        queue = let q = g.queue in record {
          few = q.few;
          rising = q.rising;
          each = λ k d lt. let e = q.each k d lt in record { hold = e.hold; first_commit = let le = e.first_commit in omega (arith, le, longer) };
          next = q.next;
          generation = q.generation;
          commit = let left = may.left in omega (arith, left, longer, some-commit s.writer (good_view reaches lawful s g));
        };
        tags = record { free = g.tags.free; held = tagged };
        commits = record {
          empty = at_longer w.commits (image ∷ []) 0 _ g.commits.empty;
          each = All-push (IsLawfulCommit reaches lawful sizes.shape) w.commits image g.commits.each (next-lawful l w root may);
          seen = commits-longer w.commits image w.saw g.commits.seen;
        };
        places = record { records = placed; stored = λ p m there. absurd (cc) };
        names = record {
          root = get_or-set_same s.words 0 n 0 (omega (arith, g.sizes.table)) ∙ sym (λ i. root_word (longer i) (last_image-push w.commits image i));
          newest_hold = get_or-set_other s.words 0 1 n 0 (λ e. omega arith) ∙ g.names.newest_hold;
          states = λ b x at. get_or-set_other s.words 0 (state_place b) n 0 (λ e. omega arith) ∙ g.names.states b x at;
        };
        memory = record {
          records = records-set sizes s.words kept 0 n (records-behind sizes w.buffers kept 0 (λ q h e. let high = behind-high sizes q h in omega arith) placed) stand;
          stored = λ p m there. absurd (cc);
          widths = λ b width is some. get_or-set_other s.words 0 (base sizes.buffers sizes.words b) n 0 (λ e. omega arith) ∙ g.memory.widths b width is some;
        };
        counts = counts-set g.counts 0 n (λ h lt e. omega arith);
        readers = All-weaker (GoodReader sizes w.queue w.commits) (GoodReader sizes w.queue (w.commits ++ image ∷ []))
            (reader_longer sizes w.queue w.commits image may.calm) s.readers g.readers;
      }
    where
      image : Image
      image = next_image reaches s.writer root

      longer : last_number (s.writer.commits ++ image ∷ []) ≡ length s.writer.commits
      longer = omega (arith, length-append s.writer.commits (image ∷ []))

      kept : List Image
      kept = drop (floor_of s.writer) (s.writer.commits ++ image ∷ [])

      there : AllThere (reaches s.writer.sizes.shape (writer_records s.writer) root) (writer_records s.writer)
      there = l.present s.writer.sizes.shape (writer_records s.writer) root may.lawful_root

      -- the last commit has no record in a buffer on hold, and nothing was stored in one
      nothing : (b width : ℕ) (tag : Tag) → slice_get s.writer.buffers b ≡ Some (Held width tag) → HasNothingIn s.writer.sizes.offset_bits b image
      nothing b width tag at =
          let t = g.tags.held b width tag at in
          let old : HasNothingIn s.writer.sizes.offset_bits b (last_image s.writer.commits) =
          all_drop-at (HasNothingIn s.writer.sizes.offset_bits b) tag.commit s.writer.commits (last_number s.writer.commits) (last_image s.writer.commits) t.unused t.commit
          (last_at s.writer.commits (some-commit s.writer (good_view reaches lawful s g))) in
          all_pairs (λ pair. buffer_of s.writer.sizes.offset_bits pair.0 ≢ b) (reaches s.writer.sizes.shape (writer_records s.writer) root) (writer_records s.writer) there
          (λ r some. ⊎_elim
          (λ (h : record_at (last_image s.writer.commits) r ≡ Some (writer_records s.writer r)). all_found (λ pair. buffer_of s.writer.sizes.offset_bits pair.0 ≢ b) (last_image s.writer.commits).records r _ old h)
          (λ (h : IsRecordStored s.writer r (writer_records s.writer r)). λ same.
          let none : active_in s.writer.buffers (buffer_of s.writer.sizes.offset_bits r) ≡ None = ap (active_in s.writer.buffers) same ∙ ap (option_and_then active_width) at in
          let is = h.active in absurd (cc))
          (records-found s.writer r some))

      tagged : (b width : ℕ) (tag : Tag) → slice_get s.writer.buffers b ≡ Some (Held width tag) → GoodTag s.writer.sizes.offset_bits s.writer.queue (s.writer.commits ++ image ∷ []) b tag
      tagged b width tag at =
          let t = g.tags.held b width tag at in
          record {
            generation = t.generation;
            commit = let le = t.commit in omega (arith, le, longer);
            first_commits = t.first_commits;
            unused = all_drop-push (HasNothingIn s.writer.sizes.offset_bits b) tag.commit s.writer.commits image t.unused (nothing b width tag at);
          }

      placed : All (λ image. All (IsPlaced s.writer.sizes s.writer.buffers) image.records) kept
      placed = all_drop-push (λ image. All (IsPlaced s.writer.sizes s.writer.buffers) image.records) (floor_of s.writer) s.writer.commits image g.places.records
          (all_pairs (IsPlaced s.writer.sizes s.writer.buffers) (reaches s.writer.sizes.shape (writer_records s.writer) root) (writer_records s.writer) there (records-placed s.writer (good_view reaches lawful s g)))

      stand : All (λ image. All (WordsStand s.writer.sizes s.words) image.records) kept
      stand = all_drop-push (λ image. All (WordsStand s.writer.sizes s.words) image.records) (floor_of s.writer) s.writer.commits image g.memory.records
          (all_pairs (WordsStand s.writer.sizes s.words) (reaches s.writer.sizes.shape (writer_records s.writer) root) (writer_records s.writer) there (records-stands s g))
