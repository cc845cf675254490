-- What a reclaim makes of the writer's view is what it makes of a work.
use Rattle.std.proofs.Common.{◌≡◌, ◌≢◌, ℕ, zero, suc, ◌+◌, ◌<◌, ◌≤◌, List, [], ◌∷◌, ◌++◌, map, length, drop, Bool, true, false, cond, Option, Some, None, refl, sym, ap, subst, ◌∙◌, arith, length-drop, inl, inr, ◌⊎◌}
use native.Mathlib.Decide.{ℕ_discrete}
use mathlib.Core.Logic.{dite}
use Rattle.std.specs.Prelude.{slice_get, nat_lt, option_and_then, option_map}
use Rattle.std.specs.Option.{unwrap_or}
use Rattle.std.proofs.lemmas.Bool.{cases_eq, lt-ltb, ltb-true}
use Rattle.std.proofs.lemmas.Option.{slice_get_within}
use Rattle.list_lemmas.proofs.Places.{slice_get-set_same, slice_get-set_other}
use Rattle.entry_ref.specs.Images.{words_at}
use Rattle.entry_ref.specs.References.{buffer_of}
use Rattle.gen_core.specs.declared.views.OpenHold.{OpenHold}
use Rattle.gen_core.specs.declared.views.Tag.{Tag}
use Rattle.gen_core.specs.declared.views.Buffer.{Buffer}
use Rattle.gen_core.specs.declared.views.Buffer.TheVariants.{Free, Active, Held}
use Rattle.gen_core.specs.declared.views.WriterView.{WriterView}
use Rattle.gen_core.specs.Views.{open_holds, oldest_in, oldest_of, floor_of, last_number, last_image, active_width, active_in}
use Rattle.gen_core.specs.Work.{writer_records, stored_by, stored_in, whole_by}
use Rattle.gen_core.specs.Good.{GoodView}
use Rattle.gen_core.specs.Events.{freed}
use Rattle.gen_core.proofs.GoodViews.{floor-last}
use Rattle.gen_core.proofs.Holds.{oldest-rises}
use Rattle.std.specs.Prelude.{AllPairs}
use Rattle.gen_core.specs.Good.{IsBefore}
use Rattle.arena_api.specs.Works.{Hold, oldest_of as api_oldest}
use Rattle.arena_api.specs.Generations.{LetsGo, freed_below, Reclaims, reclaimed}
use Rattle.word_arena.specs.Knows.{api_hold, api_buffer, view_of}
use Rattle.word_arena.specs.ProofsForWork.{length-holds}
use Rattle.word_arena.specs.WriterSteps.{without_oldest, ClosesUnused, let_go, held_tag_below, WithBuffersOf, FreesOne, FreesBelow, FreesUnused}

-- the next one behind those that were dropped
pub drop-next : {A : Type 0} (xs : List A) (k : ℕ) → k < length xs → (x : A) × (drop k xs ≡ x ∷ drop (suc k) xs)
drop-next {A} [] k lt = absurd (omega arith)
drop-next {A} (x ∷ xs) zero lt = (x, refl)
drop-next {A} (x ∷ xs) (suc k) lt = drop-next xs k (omega arith)

drop-holds : (k : ℕ) (older : List OpenHold) (newest : OpenHold) → k ≤ length older → map api_hold (drop k older ++ newest ∷ []) ≡ drop k (map api_hold (older ++ newest ∷ []))
drop-holds zero older newest few = refl
drop-holds (suc k) [] newest few = absurd (omega arith)
drop-holds (suc k) (x ∷ xs) newest few = drop-holds k xs newest (omega arith)

oldest-api : (older : List OpenHold) (newest : OpenHold) → api_oldest (map api_hold (older ++ newest ∷ [])) ≡ api_hold (oldest_in older newest)
oldest-api [] newest = refl
oldest-api (x ∷ xs) newest = refl

-- the floor does not fall where the oldest are closed
floor-rises : (k : ℕ) (older : List OpenHold) (newest : OpenHold) → AllPairs IsBefore (older ++ newest ∷ []) → k ≤ length older → (oldest_in older newest).first_commit ≤ (oldest_in (drop k older) newest).first_commit
floor-rises zero older newest rising few = omega arith
floor-rises (suc k) [] newest rising few = absurd (omega arith)
floor-rises (suc k) (x ∷ xs) newest rising few =
    let a = oldest-rises x xs newest rising in
    let b = floor-rises k xs newest (λ i j d less more. rising (suc i) (suc j) d (omega arith) (omega arith)) (omega arith) in
    omega (arith, a, b)

-- a buffer that is let go has the same active width
same-active : (generation : ℕ) (o : Option Buffer) → option_and_then active_width (option_map (let_go generation) o) ≡ option_and_then active_width o
same-active generation None = refl
same-active generation (Some (Free last)) = refl
same-active generation (Some (Active width last)) = refl
same-active generation (Some (Held width tag)) = by_test (nat_lt tag.generation generation)
  where
    by_test : (t : Bool) → option_and_then active_width (Some (cond t (Free (Some tag)) (Held width tag))) ≡ None
    by_test true = refl
    by_test false = refl

same-buffer : (generation : ℕ) (o : Option Buffer) → api_buffer (option_map (let_go generation) o) ≡ freed_below generation (api_buffer o)
same-buffer generation None = refl
same-buffer generation (Some (Free last)) = refl
same-buffer generation (Some (Active width last)) = refl
same-buffer generation (Some (Held width tag)) = by_test (nat_lt tag.generation generation)
  where
    by_test : (t : Bool) → api_buffer (Some (cond t (Free (Some tag)) (Held width tag))) ≡ cond t (api_buffer (Some (Free (Some tag)))) (api_buffer (Some (Held width tag)))
    by_test true = refl
    by_test false = refl

-- buffers whose active widths are the same leave what was stored, and the records
module _ (w v : WriterView) (same : WithBuffersOf w v) (each : (a : ℕ) → active_in v.buffers a ≡ active_in w.buffers a) where
  pub stored-same : stored_by v ≡ stored_by w
  stored-same = ap stored_by same ∙ (λ k r i. stored_in w r i (each (buffer_of w.sizes.offset_bits r) k))

  pub records-same : writer_records v ≡ writer_records w
  records-same = ap writer_records same ∙ (λ k r. unwrap_or (whole_by w r (each (buffer_of w.sizes.offset_bits r) k)) (words_at (last_image w.commits) r))

pub frees-active : (w v : WriterView) → FreesUnused w v → (a : ℕ) → active_in v.buffers a ≡ active_in w.buffers a
frees-active w v f a = ap (option_and_then active_width) (f.each a) ∙ same-active (oldest_of w.queue).generation (slice_get w.buffers a)

-- u is w with the oldest holds closed, and then v is u with the buffers freed
module _ (found : ℕ) (w u v : WriterView) (g : GoodView w) (c : ClosesUnused found w u) (f : FreesUnused u v) {H : Type 0} (home : H) where
  -- the count that was found, and how often one was
  counts : ℕ × ℕ
  counts = (u.stops.count, u.stops.found)

  -- what the closes left alone
  record Left : Type 0 where
    queue : u.queue ≡ (without_oldest w c.count).queue
    rest : u ≡ record (without_oldest w c.count) { stops = u.stops }

  left : Left
  left = dite (ℕ_discrete found 0)
      (λ zero. let e = (c.all zero).1 in record {
        queue = ap (λ (x : WriterView). x.queue) e;
        rest = e ∙ (λ k. record (without_oldest w c.count) { stops = sym (ap (λ (x : WriterView). x.stops) e) k });
      })
      (λ ne. let e = (c.stops ne).1 in record {
        queue = ap (λ (x : WriterView). x.queue) e;
        rest = e ∙ (λ k. record (without_oldest w c.count) { stops = sym (ap (λ (x : WriterView). x.stops) e) k });
      })

  -- u and v have the same but the buffers
  queue-v : v.queue ≡ (without_oldest w c.count).queue
  queue-v = ap (λ (x : WriterView). x.queue) f.same ∙ left.queue

  commits-v : v.commits ≡ w.commits
  commits-v = ap (λ (x : WriterView). x.commits) f.same ∙ ap (λ (x : WriterView). x.commits) left.rest

  stops-v : v.stops ≡ u.stops
  stops-v = ap (λ (x : WriterView). x.stops) f.same

  buffers-u : u.buffers ≡ w.buffers
  buffers-u = ap (λ (x : WriterView). x.buffers) left.rest

  api-queue : (view_of home v).queue ≡ drop c.count (view_of home w).queue
  api-queue = ap (λ q. map api_hold (open_holds q)) queue-v ∙ drop-holds c.count w.queue.older w.queue.newest c.few

  oldest-v : api_oldest (view_of home v).queue ≡ api_hold (oldest_of u.queue)
  oldest-v = oldest-api v.queue.older v.queue.newest ∙ ap (λ (x : WriterView). api_hold (oldest_of x.queue)) f.same

  left-length : length (view_of home v).queue ≡ length (drop c.count w.queue.older) + 1
  left-length = length-holds v.queue.older v.queue.newest ∙ ap (λ q. length q + 1) (ap (λ q. q.older) queue-v)

  pub reclaim-holds : (generation hold : ℕ) (newest : Bool) → generation ≡ (oldest_of u.queue).generation → hold ≡ (oldest_of u.queue).hold → (newest ≡ true → found ≡ 0) → (newest ≡ false → found ≢ 0)
      → Reclaims (record { generation = generation; hold = hold; found = found; newest = newest }) (view_of home w) (view_of home v)
  reclaim-holds generation hold newest a b when unless = record {
    closed = c.count;
    queue = api-queue;
    left = (let few = c.few in omega (arith, few, length-holds w.queue.older w.queue.newest));
    buffer = λ k b. (ap api_buffer (f.each b) ∙ same-buffer (oldest_of u.queue).generation (slice_get u.buffers b)
        ∙ (λ j. freed_below (sym (ap (λ (h : Hold). h.generation) oldest-v) j) (api_buffer (slice_get (buffers-u j) b)))) k;
    generation = a ∙ sym (ap (λ (h : Hold). h.generation) oldest-v);
    hold = b ∙ sym (ap (λ (h : Hold). h.hold) oldest-v);
    newest = λ is.
        let zero = when is in
        let all = c.all zero in
        let none : length (drop c.count w.queue.older) ≡ 0 = (let e = all.0 in omega (arith, e, length-drop c.count w.queue.older)) in
        (omega (arith, none, left-length), zero, ap (λ s. s.count) stops-v ∙ ap (λ (x : WriterView). x.stops.count) all.1, ap (λ s. s.found) stops-v ∙ ap (λ (x : WriterView). x.stops.found) all.1);
    stopped = λ is.
        let some = unless is in
        let all = c.stops some in
        let more : 0 < length (drop c.count w.queue.older) = (let e = all.0 in omega (arith, e, length-drop c.count w.queue.older)) in
        let count : v.stops.count ≡ w.stops.count + 1 = ap (λ s. s.count) stops-v ∙ ap (λ (x : WriterView). x.stops.count) all.1 in
        (omega (arith, more, left-length), omega (arith, some), omega (arith, count), ap (λ s. s.found) stops-v ∙ ap (λ (x : WriterView). x.stops.found) all.1);
  }

  pub reclaim-commits : GoodView v → LetsGo (view_of home w).commits (view_of home v).commits
  reclaim-commits good =
      let up = floor-rises c.count w.queue.older w.queue.newest g.queue.rising c.few in
      let floor : floor_of v ≡ (oldest_in (drop c.count w.queue.older) w.queue.newest).first_commit = ap (λ q. (oldest_of q).first_commit) queue-v in
      record {
        last = ap last_number commits-v;
        rises = omega (arith, up, floor);
        within = floor-last v good;
        kept = λ n from to. ap (λ cs. (view_of home (record w { commits = cs })).commits.image n) commits-v;
      }

  -- the records of u and what was stored are those of w
  stored-u : stored_by u ≡ stored_by w
  stored-u = ap stored_by left.rest

  records-u : writer_records u ≡ writer_records w
  records-u = ap writer_records left.rest

  pub reclaim-records : writer_records v ≡ writer_records w
  reclaim-records = records-same u v f.same (frees-active u v f) ∙ records-u

  pub reclaim-knows : view_of home v ≡ reclaimed (view_of home w) (view_of home v)
  reclaim-knows = λ k. record (view_of home v) {
    sizes = (ap (λ (x : WriterView). (view_of home x).sizes) f.same ∙ ap (λ (x : WriterView). (view_of home x).sizes) left.rest) k;
    stored = (stored-same u v f.same (frees-active u v f) ∙ stored-u) k;
    told = commits-v k;
    made = (ap (λ (x : WriterView). x.made) f.same ∙ ap (λ (x : WriterView). x.made) left.rest) k;
  }

  pub reclaim-shape : v.sizes.shape ≡ w.sizes.shape
  reclaim-shape = ap (λ (x : WriterView). x.sizes.shape) f.same ∙ ap (λ (x : WriterView). x.sizes.shape) left.rest

  pub reclaim-alone : w.made ≡ 0 → v.stops.count ≡ w.stops.count
  reclaim-alone none = ap (λ s. s.count) stops-v ∙ ap (λ (x : WriterView). x.stops.count) (c.all (c.alone none)).1

-- buffer by buffer
pub tag-found : (g : ℕ) (o : Option Buffer) (t : Tag) → option_and_then (held_tag_below g) o ≡ Some t → (width : ℕ) × (o ≡ Some (Held width t)) × (t.generation < g)
tag-found g None t is = absurd (cc)
tag-found g (Some (Free last)) t is = absurd (cc)
tag-found g (Some (Active width last)) t is = absurd (cc)
tag-found g (Some (Held width tag)) t is = by_test (nat_lt tag.generation g) refl is
  where
    by_test : (u : Bool) → nat_lt tag.generation g ≡ u → cond u (Some tag) None ≡ Some t → (n : ℕ) × (Some (Held width tag) ≡ Some (Held n t)) × (t.generation < g)
    by_test true test e = let same : tag ≡ t = cc in (width, ap (λ x. Some (Held width x)) same, subst (λ (x : Tag). x.generation < g) same (ltb-true _ _ test))
    by_test false test e = absurd (cc)

pub tag-none : (g : ℕ) (o : Option Buffer) → option_and_then (held_tag_below g) o ≡ None → option_map (let_go g) o ≡ o
tag-none g None is = refl
tag-none g (Some (Free last)) is = refl
tag-none g (Some (Active width last)) is = refl
tag-none g (Some (Held width tag)) is = by_test (nat_lt tag.generation g) is
  where
    by_test : (u : Bool) → cond u (Some tag) None ≡ None → Some (cond u (Free (Some tag)) (Held width tag)) ≡ Some (Held width tag)
    by_test true e = absurd (cc)
    by_test false e = refl

pub frees-one : (w : WriterView) (b width g : ℕ) (tag : Tag) → slice_get w.buffers b ≡ Some (Held width tag) → tag.generation < g → FreesOne g b w (freed w b tag)
frees-one w b width g tag held low = record {
  here = slice_get-set_same w.buffers b (Free (Some tag)) (slice_get_within w.buffers b (Held width tag) held)
      ∙ sym (ap (option_map (let_go g)) held ∙ ap (λ t. Some (cond t (Free (Some tag)) (Held width tag))) (lt-ltb tag.generation g low));
  others = λ a ne. slice_get-set_other w.buffers b a (Free (Some tag)) ne;
  same = refl;
}

pub frees-none : (w : WriterView) (b g : ℕ) → option_map (let_go g) (slice_get w.buffers b) ≡ slice_get w.buffers b → FreesOne g b w w
frees-none w b g stays = record { here = sym stays; others = λ a ne. refl; same = refl }

pub freed-active : (w : WriterView) (b width : ℕ) (tag : Tag) → slice_get w.buffers b ≡ Some (Held width tag) → (a : ℕ) → active_in (freed w b tag).buffers a ≡ active_in w.buffers a
freed-active w b width tag held a = elim (cases_eq a b) [
  | inl e ↦
      ap (active_in (freed w b tag).buffers) e
      ∙ ap (option_and_then active_width) (slice_get-set_same w.buffers b (Free (Some tag)) (slice_get_within w.buffers b (Held width tag) held))
      ∙ sym (ap (active_in w.buffers) e ∙ ap (option_and_then active_width) held)
  | inr ne ↦ ap (option_and_then active_width) (slice_get-set_other w.buffers b a (Free (Some tag)) ne)
]

pub frees-more : (g n : ℕ) (w u v : WriterView) → FreesBelow g n w u → FreesOne g n u v → FreesBelow g (n + 1) w v
frees-more g n w u v f o = record {
  each = λ a lt. elim (cases_eq a n) [
    | inl e ↦ ap (slice_get v.buffers) e ∙ o.here ∙ ap (option_map (let_go g)) (f.rest n (omega arith) ∙ ap (slice_get w.buffers) (sym e))
    | inr ne ↦ o.others a ne ∙ f.each a (omega (arith, lt, ne))
  ];
  rest = λ a le. o.others a (λ e. omega arith) ∙ f.rest a (omega arith);
  same = o.same ∙ (λ k. record (f.same k) { buffers = v.buffers });
}

none-beyond : (l : List Buffer) (a : ℕ) → length l ≤ a → slice_get l a ≡ None
none-beyond [] a le = refl
none-beyond (x ∷ xs) zero le = absurd (omega arith)
none-beyond (x ∷ xs) (suc a) le = none-beyond xs a (omega arith)

pub frees-all : (n : ℕ) (w v : WriterView) → length w.buffers ≤ n → FreesBelow (oldest_of w.queue).generation n w v → FreesUnused w v
frees-all n w v all f = record {
  each = λ a. elim (cases_lt a n) [
    | inl lt ↦ f.each a lt
    | inr le ↦
        (let beyond = none-beyond w.buffers a (omega (arith, all, le)) in
        f.rest a le ∙ beyond ∙ sym (ap (option_map (let_go (oldest_of w.queue).generation)) beyond))
  ];
  same = f.same;
}
  where
    cases_lt : (a m : ℕ) → (a < m) ⊎ (m ≤ a)
    cases_lt a zero = inr (omega arith)
    cases_lt zero (suc m) = inl (omega arith)
    cases_lt (suc a) (suc m) = elim (cases_lt a m) [
      | inl lt ↦ inl (omega (arith, lt))
      | inr le ↦ inr (omega (arith, le))
    ]
