-- What the ghost fields of a reader and of a guard give at a call.
use Rattle.std.proofs.Common.{inl, inr, ◌^◌, mul-le-mul_left, cond, eq-eqb, ne_eqb, ◌≡◌, ◌≢◌, ℕ, suc, ◌+◌, ◌*◌, ◌%◌, ◌<◌, ◌≤◌, List, [], ◌∷◌, length, slice_index, Some, refl, sym, ap, ◌∙◌, subst, arith}
use Rattle.std.proofs.Common.{mul-le-mul_right, suc-mul}
use mathlib.Core.Logic.{dite}
use native.Mathlib.Decide.{ℕ_discrete}
use Rattle.std.specs.Prelude.{slice_get, All, Bool}
use Rattle.std.proofs.Props.{props}
use Rattle.entry_ref.specs.References.{buffer_of}
use Rattle.atomic_table.specs.Table.{Me, step}
use Rattle.atomic_table.specs.Seated.{TableId}
use Rattle.atomic_table.specs.declared.shared.Seat.{Seat}
use mathlib.Core.Option.{none}
use Rattle.entry_ref.specs.declared.images.Image.{Image}
use Rattle.entry_ref.specs.Records.{Records}
use Rattle.entry_ref.specs.Images.{words_at}
use Rattle.entry_ref.specs.Places.{base, place, size_of, IsEntry}
use Rattle.entry_ref.proofs.Apart.{within, place-below}
use Rattle.gen_core.specs.declared.views.Sizes.{Sizes}
use Rattle.gen_core.specs.declared.views.ReaderView.{ReaderView}
use Rattle.gen_core.specs.declared.views.View.{View}
use Rattle.gen_core.specs.declared.views.View.TheVariants.{Reader}
use Rattle.gen_core.specs.declared.views.OpenHold.{OpenHold}
use Rattle.gen_core.specs.declared.views.ReaderState.TheVariants.{Idle, Aimed, Raised, Bounced, Guarded}
use Rattle.gen_core.specs.Views.{newest_word, stands_on}
use Rattle.gen_core.specs.Good.{IsLawfulCommit}
use Rattle.gen_core.specs.Conditions.{IsUnder, MayLoadWord}
use Rattle.gen_core.specs.declared.views.Misses.{Misses as MissCount}
use Rattle.gen_core.specs.Events.{first_aim, aims, meets, bounced, sees, found_state, found_misses}
use Rattle.word_arena.specs.ProofsForGuards.{in_image, image-entry}
use Rattle.word_arena.specs.declared.rule.Watched.{Watched}
use Rattle.word_arena.specs.Ruled.{Climbs, Missed, Tries, IsAim, IsAimOf, Slot, reader_in, ToldLoadRoot, ToldLoadNewest, told_raise, ToldLoadWord, first_seen, seen_image, seen_number, IsPost, IsWatch, IsGuard, IsLater}

-- a seat after a step to the view v
pub post_after : {bits : ℕ} {arena : TableId} {sizes : Sizes} {z z' : TableId} {me me' : Me Slot View} → IsPost bits arena sizes z me → z' ≡ z → (v : ReaderView) → me' ≡ (Reader v, me.1)
    → v.sizes ≡ (reader_in me.0).sizes
    → IsPost bits arena sizes z' me' × (reader_in me'.0 ≡ v)
post_after {bits} {arena} {sizes} {z} {z'} {me} {me'} i same v is size =
    let slots : me.1 ≡ [] = ap (λ (m : Me Slot View). m.1) i.is in
    let view : reader_in me'.0 ≡ v = ap (λ (m : Me Slot View). reader_in m.0) is in (
      record {
        own = same ∙ i.own;
        is = is ∙ (λ k. (Reader (sym view k), slots k));
        words = ap (λ (x : TableId). x.words) same ∙ i.words;
        same_sizes = ap (λ (x : ReaderView). x.sizes) view ∙ size ∙ i.same_sizes;
        same_bits = i.same_bits;
        limits = i.limits;
        product = i.product;
      },
      view,
    )

-- what was seen since, after what had been seen
pub saw_on : {x : ℕ × Image} {now middle before : List (ℕ × Image)} → now ≡ x ∷ middle → middle ≡ before → now ≡ x ∷ before
saw_on {x} is same = is ∙ ap (λ seen. x ∷ seen) same

-- a load of the root on this hold changes the view as the core says
pub record Loads (h : ℕ) (r v : ReaderView) : Type 0 where
  pub is : v ≡ sees r h (seen_number v) (seen_image v)

-- what a load of the root leaves
pub guards : {reaches : ℕ → Records → ℕ → List ℕ} {lawful : ℕ → Records → ℕ → Type 0} {bits : ℕ} {arena : TableId} {sizes : Sizes} {z z' : TableId} {me me' : Me Slot View} {found : ℕ} (h : ℕ)
    → IsPost bits arena sizes z me → h < 16 → stands_on (reader_in me.0).state ≡ Some h → Climbs (reader_in me.0) → z' ≡ z → ToldLoadRoot reaches lawful me found me'
    → IsGuard bits arena sizes h found z' me' × IsLater reaches lawful (reader_in me.0) (reader_in me'.0) × Loads h (reader_in me.0) (reader_in me'.0)
guards {reaches} {lawful} {bits} {arena} {sizes} {z} {z'} {me} {me'} {found} h i low stands climbs same told =
    let s = told.sees_commit in
    let r : ReaderView = reader_in me.0 in
    let v : ReaderView = sees r s.hold s.number s.image in
    let hold : s.hold ≡ h = one_hold s.hold h (sym s.stands ∙ stands) in
    let is : me' ≡ (Reader v, me.1) = told.is ∙ ap (λ (x : ReaderView). (Reader x, me.1)) s.is in
    let p = post_after i same v is refl in
    let some : 0 < length v.saw = omega arith in (
      record {
        post = p.0;
        low = low;
        guarded = subst (λ (x : ReaderView). x.state ≡ Guarded h (seen_number x)) (sym p.1) (ap (λ n. Guarded n s.number) hold);
        climbs = subst Climbs (sym p.1) climbs;
        seen = subst (λ (x : ReaderView). x.seen ≡ seen_number x) (sym p.1) refl;
        some = subst (λ (x : ReaderView). 0 < length x.saw) (sym p.1) some;
        root = subst (λ (x : ReaderView). found ≡ seen_number x * 2 ^ 32 + (seen_image x).root) (sym p.1) s.found_root;
        small = subst (λ (x : ReaderView). (seen_image x).root < 2 ^ 32) (sym p.1) s.commit.small;
        small_number = subst (λ (x : ReaderView). seen_number x < 2 ^ 32) (sym p.1) s.small_number;
        entries = subst (λ (x : ReaderView). All (λ pair. IsEntry bits sizes.buffers sizes.words (length pair.1) pair.0) (seen_image x).records) (sym p.1)
            (subst (λ b. All (λ pair. IsEntry b sizes.buffers sizes.words (length pair.1) pair.0) s.image.records) i.same_bits
            (subst (λ (y : Sizes). All (λ pair. IsEntry y.offset_bits y.buffers y.words (length pair.1) pair.0) s.image.records) i.same_sizes s.entries));
      },
      record {
        same_sizes = ap (λ (x : ReaderView). x.sizes) p.1;
        same_number = ap (λ (x : ReaderView). x.number) p.1;
        later = subst (λ (x : ReaderView). r.seen ≤ seen_number x) (sym p.1) s.later;
        seen = subst (λ (x : ReaderView). x.seen ≡ seen_number x) (sym p.1) refl;
        saw = subst (λ (x : ReaderView). x.saw ≡ (seen_number x, seen_image x) ∷ r.saw) (sym p.1) refl;
        least = subst (λ (x : ReaderView). r.least ≤ x.least) (sym p.1) (omega arith);
        commit = subst (λ (x : ReaderView). IsLawfulCommit reaches lawful x.sizes.shape (seen_image x)) (sym p.1) s.commit;
      },
      subst (Loads h r) (sym p.1) (record { is = ap (λ n. sees r n s.number s.image) hold }),
    )
  where
    one_hold : (a b : ℕ) → Some a ≡ Some b → a ≡ b
    one_hold a b e = cc

-- the hold of a last word
pub hold-found : (found : ℕ) (e : OpenHold) → found ≡ newest_word e → e.hold < 16 → found % 65536 ≡ e.hold
hold-found found e is low = omega (arith, is, low)

-- a count that is even was of an open hold
pub even-state : (found h : ℕ) → found % 2 ≡ 0 → found_state found h ≡ Raised h
even-state found h e = ap (λ t. cond t (Raised h) (Bounced h)) (eq-eqb (found % 2) 0 e)

pub odd-state : (found h : ℕ) → found % 2 ≢ 0 → found_state found h ≡ Bounced h
odd-state found h ne = ap (λ t. cond t (Raised h) (Bounced h)) (ne_eqb (found % 2) 0 ne)

-- the first words of a table are inside it
pub low-inside : {bits : ℕ} {arena : TableId} {sizes : Sizes} {z : TableId} {me : Me Slot View} → IsPost bits arena sizes z me → (p : ℕ) → p < 18 → p < arena.words
low-inside {bits} {arena} {sizes} {z} {me} i p low = subst (λ (x : TableId). p < x.words) i.own (let h = i.words in omega arith)

-- the first word of a buffer is inside the table
pub base-inside : (buffers words b : ℕ) → b < buffers → 0 < words → base buffers words b < size_of buffers words
base-inside buffers words b lt some =
    let more : suc b * words ≤ buffers * words = mul-le-mul_right words lt in
    omega (arith, suc-mul b words)

-- a seat that a step left
pub seat_same : (s t : Seat Slot Watched) → t.table_id ≡ s.table_id → t.id ≡ s.id → t.me ≡ s.me → t ≡ s
seat_same s t a b c i = record { marker = t.marker; table_id = a i; id = b i; me = c i }

-- the buffers of a table are few
pub post-buffers : {bits : ℕ} {arena : TableId} {sizes : Sizes} {z : TableId} {me : Me Slot View} → IsPost bits arena sizes z me → sizes.buffers ≤ 67108864
post-buffers {bits} {arena} {sizes} i =
    let product = i.product in
    let some : 1 ≤ sizes.words = (let long = i.limits.some_words in omega arith) in
    let more : sizes.buffers * 1 ≤ sizes.buffers * sizes.words = mul-le-mul_left sizes.buffers some in
    omega (arith, product, more)

pub guard-prop : (bits : ℕ) (arena : TableId) (sizes : Sizes) (hold word : ℕ) (z : TableId) (me : Me Slot View) → IsProp (IsGuard bits arena sizes hold word z me)
guard-prop bits arena sizes hold word z me = hlevel props

module _ {bits : ℕ} {arena : TableId} {sizes : Sizes} {hold word : ℕ} {z : TableId} {me : Me Slot View} (g : IsGuard bits arena sizes hold word z me) where
  abbrev pub r : ReaderView
  r = reader_in me.0

  abbrev pub m : Records
  m = words_at (seen_image r)

  -- the width of references
  view-bits : (reader_in me.0).sizes.offset_bits ≡ bits
  view-bits = ap (λ (x : Sizes). x.offset_bits) g.post.same_sizes ∙ g.post.same_bits

  -- the reader is under the guard's commit
  under : IsUnder r (seen_number r) (seen_image r)
  under = record { hold = hold; guarded = g.guarded; seen = by_saw r.saw g.some }
    where
      by_saw : (l : List (ℕ × Image)) → 0 < length l → slice_get l 0 ≡ Some ((first_seen l).0, (first_seen l).1)
      by_saw [] h = absurd (omega arith)
      by_saw (x ∷ xs) h = refl

  pub few-buffers : sizes.buffers ≤ 67108864
  few-buffers = post-buffers g.post

  module _ (ref i : ℕ) (inside : i < length (m ref)) where
    some : 0 < length (m ref)
    some = omega (arith, inside)

    pub the_entry : IsEntry bits sizes.buffers sizes.words (length (m ref)) ref
    the_entry = image-entry bits sizes (seen_image r) g.entries ref some

    arena-words : arena.words ≡ size_of sizes.buffers sizes.words
    arena-words = ap (λ (x : TableId). x.words) (sym g.post.own) ∙ g.post.words

    pub base-below : (p : ℕ) → p ≡ base sizes.buffers sizes.words (buffer_of bits ref) → p < arena.words
    base-below p is = let e = the_entry in let lt = base-inside sizes.buffers sizes.words (buffer_of bits ref) e.inside (omega (arith, (within e 0 e.wide).1)) in omega (arith, lt, is, arena-words)

    pub place-inside : (p : ℕ) → p ≡ place bits sizes.buffers sizes.words (length (m ref)) ref i → p < arena.words
    place-inside p is = let lt = place-below the_entry i inside in omega (arith, lt, is, arena-words)

    -- it may load the width, and the word
    pub may_load_width : (p : ℕ) → p ≡ base sizes.buffers sizes.words (buffer_of bits ref) → MayLoadWord r p
    may_load_width p is = record {
      number = seen_number r;
      image = seen_image r;
      under = under;
      word = (ref, m ref, in_image (seen_image r) ref some, inr (is ∙ (λ k. base (sym g.post.same_sizes k).buffers (sym g.post.same_sizes k).words (buffer_of (sym view-bits k) ref))));
    }

    pub may_load_word : (p : ℕ) → p ≡ place bits sizes.buffers sizes.words (length (m ref)) ref i → MayLoadWord r p
    may_load_word p is = record {
      number = seen_number r;
      image = seen_image r;
      under = under;
      word = (ref, m ref, in_image (seen_image r) ref some, inl (i, inside, is ∙ (λ k. place (sym view-bits k) (sym g.post.same_sizes k).buffers (sym g.post.same_sizes k).words (length (m ref)) ref i)));
    }

    -- the width that was found
    pub width_found : {slots p found : ℕ} {me' : Me Slot View} → p ≡ base sizes.buffers sizes.words (buffer_of bits ref) → ToldLoadWord (step slots p 0 0 none) me found me' → found ≡ length (m ref)
    width_found {slots} {p} {found} {me'} is told =
        (told.word (seen_number r) (seen_image r) under).width ref (m ref) (in_image (seen_image r) ref some)
        (is ∙ (λ k. base (sym g.post.same_sizes k).buffers (sym g.post.same_sizes k).words (buffer_of (sym view-bits k) ref)))

    -- and the word
    pub word_found : {slots p found : ℕ} {me1 me' : Me Slot View} → me1 ≡ me → p ≡ place bits sizes.buffers sizes.words (length (m ref)) ref i
        → ToldLoadWord (step slots p 0 0 none) me1 found me' → found ≡ slice_index (m ref) i
    word_found {slots} {p} {found} {me1} {me'} same is told =
        let here : ToldLoadWord (step slots p 0 0 none) me found me' = subst (λ (x : Me Slot View). ToldLoadWord (step slots p 0 0 none) x found me') same told in
        (here.word (seen_number r) (seen_image r) under).word ref (m ref) i (in_image (seen_image r) ref some) inside
        (is ∙ (λ k. place (sym view-bits k) (sym g.post.same_sizes k).buffers (sym g.post.same_sizes k).words (length (m ref)) ref i))

-- an aim is at the first generation, or above the misses since
aim-climbs : (r : ReaderView) (e : OpenHold) → Climbs r → r.least ≤ e.generation → Climbs (aims r e)
aim-climbs r e climbs least = dite (ℕ_discrete r.misses.count 0)
    (λ none.
    let first : first_aim r e.generation ≡ e.generation = ap (λ (t : Bool). cond t e.generation r.first) (eq-eqb r.misses.count 0 none) in
    omega (arith, first, none))
    (λ some.
    let first : first_aim r e.generation ≡ r.first = ap (λ (t : Bool). cond t e.generation r.first) (ne_eqb r.misses.count 0 some) in
    omega (arith, first, climbs, least))

-- an aim, and a raise behind it
pub try_of : {r m r' : ReaderView} {n : ℕ} → IsAimOf r m → Missed m r' n → Tries r r' n
try_of {r} {m} {r'} {n} aim missed =
    let rises = missed.rises in
    let least = aim.least in
    let count : m.misses.count ≡ r.misses.count = ap (λ (x : MissCount). x.count) aim.misses in
    record {
      rises = omega (arith, rises, least);
      counted = missed.counted ∙ ap (λ k. k + n) count;
      fresh = λ none.
          let first : r'.first ≡ m.least = missed.first ∙ aim.first ∙ ap (λ (t : Bool). cond t m.least r.first) (eq-eqb r.misses.count 0 none) in
          omega (arith, first, least);
      going = λ some. missed.first ∙ aim.first ∙ ap (λ (t : Bool). cond t m.least r.first) (ne_eqb r.misses.count 0 (λ e. omega (arith, some, e)));
    }

-- tries, all of which missed
pub record AllMissed (r : ReaderView) (r' : ReaderView) (count : ℕ) : Type 0 where
  pub rises : r.least + count ≤ r'.least
  pub counted : r'.misses.count ≡ r.misses.count + count
  pub fresh : r.misses.count ≡ 0 → 0 < count → r.least ≤ r'.first
  pub going : 0 < r.misses.count → r'.first ≡ r.first

pub none_missed : (r : ReaderView) → AllMissed r r 0
none_missed r = record { rises = omega arith; counted = omega arith; fresh = λ none some. absurd (omega (arith, some)); going = λ some. refl }

pub try_after : {r m r' : ReaderView} {n k : ℕ} → AllMissed r m n → Tries m r' k → Tries r r' (n + k)
try_after {r} {m} {r'} {n} {k} before next =
    let rises = before.rises in
    let more = next.rises in
    let counted = before.counted in
    let count = next.counted in
    record {
      rises = omega (arith, rises, more);
      counted = omega (arith, counted, count);
      fresh = λ none. dite (ℕ_discrete n 0)
          (λ nought. let low = next.fresh (omega (arith, counted, none, nought)) in omega (arith, low, rises))
          (λ some. let same = next.going (omega (arith, counted, some)) in let low = before.fresh none (omega (arith, some)) in omega (arith, same, low));
      going = λ some. next.going (omega (arith, counted, some)) ∙ before.going some;
    }

pub missed_after : {r m r' : ReaderView} {n k : ℕ} → AllMissed r m n → Tries m r' k → AllMissed r r' (n + k)
missed_after {r} {m} {r'} {n} {k} before next =
    let t = try_after before next in
    record { rises = t.rises; counted = t.counted; fresh = λ none some. t.fresh none; going = t.going }

-- a reader that aims
pub aimed_post : {bits : ℕ} {arena : TableId} {sizes : Sizes} {z z1 : TableId} {me me1 : Me Slot View} {last : ℕ} → IsWatch bits arena sizes z me → z1 ≡ z → ToldLoadNewest me last me1
    → IsAim bits arena sizes (last % 65536) z1 me1 × IsAimOf (reader_in me.0) (reader_in me1.0)
aimed_post {bits} {arena} {sizes} {z} {z1} {me} {me1} {last} i same told =
    let v : ReaderView = aims (reader_in me.0) told.entry in
    let p = post_after i.post same v told.is refl in
    let hold = hold-found last told.entry told.found_last told.low in (
      record {
        post = p.0;
        low = (let l = told.low in omega (arith, hold, l));
        aimed = subst (λ (x : ReaderView). x.state ≡ Aimed x.least (last % 65536)) (sym p.1) (ap (Aimed told.entry.generation) (sym hold));
        climbs = subst Climbs (sym p.1) (aim-climbs (reader_in me.0) told.entry i.climbs told.least);
      },
      record {
        same_sizes = ap (λ (x : ReaderView). x.sizes) p.1;
        same_number = ap (λ (x : ReaderView). x.number) p.1;
        seen = ap (λ (x : ReaderView). x.seen) p.1;
        saw = ap (λ (x : ReaderView). x.saw) p.1;
        least = subst (λ (x : ReaderView). (reader_in me.0).least ≤ x.least) (sym p.1) told.least;
        first = subst (λ (x : ReaderView). x.first ≡ first_aim (reader_in me.0) x.least) (sym p.1) refl;
        misses = ap (λ (x : ReaderView). x.misses) p.1;
      },
    )

-- a reader that has raised a hold
pub record RaisedPost (bits : ℕ) (arena : TableId) (sizes : Sizes) (r : ReaderView) (hold count : ℕ) (z : TableId) (me : Me Slot View) : Type 0 where
  pub post : IsPost bits arena sizes z me
  pub state : (reader_in me.0).state ≡ found_state count hold
  pub low : hold < 16
  pub sizes_same : (reader_in me.0).sizes ≡ r.sizes
  pub number_same : (reader_in me.0).number ≡ r.number
  pub seen : (reader_in me.0).seen ≡ r.seen
  pub saw : (reader_in me.0).saw ≡ r.saw
  pub least : (reader_in me.0).least ≡ r.least
  pub first : (reader_in me.0).first ≡ r.first
  pub misses : (reader_in me.0).misses ≡ found_misses count r.misses
  pub climbs : Climbs r

pub raised_post : {bits : ℕ} {arena : TableId} {sizes : Sizes} {hold count : ℕ} {z z1 : TableId} {me me1 : Me Slot View} → IsAim bits arena sizes hold z me → z1 ≡ z → told_raise (step 0 (2 + hold) 2 0 none) me count me1
    → RaisedPost bits arena sizes (reader_in me.0) hold count z1 me1
raised_post {bits} {arena} {sizes} {hold} {count} {z} {z1} {me} {me1} a same told =
    let v : ReaderView = meets (reader_in me.0) count hold in
    let p = post_after a.post same v (told hold refl) refl in
    record {
      post = p.0;
      state = ap (λ (x : ReaderView). x.state) p.1;
      low = a.low;
      sizes_same = ap (λ (x : ReaderView). x.sizes) p.1;
      number_same = ap (λ (x : ReaderView). x.number) p.1;
      seen = ap (λ (x : ReaderView). x.seen) p.1;
      saw = ap (λ (x : ReaderView). x.saw) p.1;
      least = ap (λ (x : ReaderView). x.least) p.1;
      first = ap (λ (x : ReaderView). x.first) p.1;
      misses = ap (λ (x : ReaderView). x.misses) p.1;
      climbs = a.climbs;
    }

-- an even count was no miss, and an odd one was
pub even-misses : (found : ℕ) (misses : MissCount) → found % 2 ≡ 0 → found_misses found misses ≡ misses
even-misses found misses e = ap (λ (t : Bool). cond t misses (record { count = misses.count + 1; found = found })) (eq-eqb (found % 2) 0 e)

pub odd-misses : (found : ℕ) (misses : MissCount) → found % 2 ≢ 0 → found_misses found misses ≡ record { count = misses.count + 1; found = found }
odd-misses found misses ne = ap (λ (t : Bool). cond t misses (record { count = misses.count + 1; found = found })) (ne_eqb (found % 2) 0 ne)

module _ {bits : ℕ} {arena : TableId} {sizes : Sizes} {r : ReaderView} {hold count : ℕ} {z : TableId} {me : Me Slot View} (b : RaisedPost bits arena sizes r hold count z me) where
  -- raised: nothing was missed
  module _ (even : count % 2 ≡ 0) where
    no-miss : (reader_in me.0).misses.count ≡ r.misses.count
    no-miss = ap (λ (x : MissCount). x.count) (b.misses ∙ even-misses count r.misses even)

    pub raised-stands : stands_on (reader_in me.0).state ≡ Some hold
    raised-stands = ap stands_on (b.state ∙ even-state count hold even)

    pub raised-climbs : Climbs (reader_in me.0)
    raised-climbs = let climbs = b.climbs in let first = b.first in let least = b.least in omega (arith, climbs, first, least, no-miss)

    -- also under a guard that only adds what was seen
    pub hit : (v : ReaderView) (number : ℕ) (image : Image) → v ≡ sees (reader_in me.0) hold number image → Missed r v 0
    hit v number image is = subst (λ (x : ReaderView). Missed r x 0) (sym is) (record {
      rises = (let least = b.least in omega (arith, least));
      counted = no-miss ∙ omega arith;
      first = b.first;
    })

  -- on its way back: one was
  module _ (odd : count % 2 ≢ 0) (v : ReaderView) (is : v ≡ bounced (reader_in me.0)) where
    one : (reader_in me.0).misses ≡ record { count = r.misses.count + 1; found = count }
    one = b.misses ∙ odd-misses count r.misses odd

    pub miss : Missed r v 1
    miss = subst (λ (x : ReaderView). Missed r x 1) (sym is) (record {
      rises = (let least = b.least in omega (arith, least));
      counted = ap (λ (x : MissCount). x.count) one;
      first = b.first;
    })

    pub miss-found : count ≡ v.misses.found
    miss-found = sym (ap (λ (x : ReaderView). x.misses.found) is ∙ ap (λ (x : MissCount). x.found) one)

    pub miss-climbs : Climbs v
    miss-climbs = subst Climbs (sym is) (let climbs = b.climbs in let first = b.first in let least = b.least in omega (arith, climbs, first, least, ap (λ (x : MissCount). x.count) one))

-- and one that stands on nothing again
pub watch_after : {bits : ℕ} {arena : TableId} {sizes : Sizes} {z z' : TableId} {me me' : Me Slot View} → IsPost bits arena sizes z me → z' ≡ z → (v : ReaderView) → me' ≡ (Reader v, me.1)
    → v.sizes ≡ (reader_in me.0).sizes → v.state ≡ Idle → Climbs v
    → IsWatch bits arena sizes z' me'
watch_after i same v is size idle climbs =
    let p = post_after i same v is size in
    record { post = p.0; idle = ap (λ (x : ReaderView). x.state) p.1 ∙ idle; climbs = subst Climbs (sym p.1) climbs }
