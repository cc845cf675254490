-- Where a loading stands between two batches.
use Rattle.std.proofs.Common.{◌≡◌, ℕ, zero, suc, ◌+◌, ◌-◌, ◌*◌, ◌/◌, ◌<◌, ◌≤◌, List, [], ◌∷◌, ◌++◌, length, false, Some, None, ◌⊎◌, inl, inr, mul-zero, refl, sym, ap, ◌∙◌, subst, arith}
use Rattle.std.specs.Prelude.{take, drop, min, slice_get}
use Rattle.std.proofs.lemmas.List.{length-append, length-take, length-drop, take-take}
use Rattle.std.proofs.lemmas.Bool.{cases_lt}
use Rattle.std.proofs.lemmas.Option.{slice_get_within, get_or_from_slice_get}
use Rattle.std.proofs.Math.Nat.{mul-le-mul}
use Rattle.std.proofs.Math.Seq.{take-add}
use Rattle.entry_ref.specs.declared.images.Image.{Image}
use Rattle.entry_ref.specs.Images.{no_image, words_at}
use Rattle.arena_api.specs.Calls.{told_after}
use Rattle.arena_api.specs.Generations.{current}
use Rattle.arena_api.specs.Works.{Sizes}
use Rattle.attr_loader.specs.Runs.{IsOwed, IsSmall}
use Rattle.attr_loader.specs.Room.{load_of, HasMadeNothing}
use Rattle.store_api.specs.Ledgers.{Ledger}
use Rattle.image_format.specs.Images.{IsLawfulImage, table_of}
use Rattle.image_format.specs.Shapes.{shape_of, types_of}
use Rattle.attr_types.specs.Table.{after_ops, after, skipped, skipped_ops}
use Rattle.attr_types.specs.declared.field.Field.{Field}
use Rattle.attr_types.specs.declared.op.Op.{Op}
use Rattle.attribute_kinds.specs.Views.{AttributeView}
use Rattle.attr_loader.specs.Loading.{commit_point, IsFullAt, IsImageAfter, AreCommits, told_of, IsAtStart, IsSpent, StaysIn, Loads}
use Rattle.attr_loader.specs.Refusals.{IsRefusedCall}
use Rattle.attr_loader.specs.Batches.{FindsNoRoom, HasNoCommit, LoadsAll}
use Rattle.attr_loader.specs.declared.error.LoadError.{LoadError}
use Rattle.attr_loader.specs.declared.error.LoadError.TheVariants.{CommitsSpent, Memory}
use Rattle.attr_loader.proofs.Applying.{after_ops-append, skipped_ops-append, skipped_ops-few, stays_on}
use Rattle.attr_loader.proofs.Points.{whole, next_point, batch_of}

-- one image more
get_before : (told : List Image) (image x : Image) (k : ℕ) → slice_get (told ++ image ∷ []) k ≡ Some x → k < length told → slice_get told k ≡ Some x
get_before [] image x k is below = absurd (omega (arith, below))
get_before (i ∷ told) image x zero is below = is
get_before (i ∷ told) image x (suc k) is below = get_before told image x k is (omega (arith, below))

get_last : (told : List Image) (image x : Image) (k : ℕ) → slice_get (told ++ image ∷ []) k ≡ Some x → length told ≤ k → (k ≡ length told) × (x ≡ image)
get_last [] image x zero is from = (refl, (let e : Some image ≡ Some x = is in cc))
get_last [] image x (suc k) is from = absurd (let e : None ≡ Some x = is in cc)
get_last (i ∷ told) image x zero is from = absurd (omega (arith, from))
get_last (i ∷ told) image x (suc k) is from = let h = get_last told image x k is (omega (arith, from)) in (omega (arith, h.0), h.1)

-- what is read of a front and of a back
take_reads : {A : Type 0} (n k : ℕ) (xs : List A) (x : A) → slice_get (take n xs) k ≡ Some x → slice_get xs k ≡ Some x
take_reads zero k xs x is = absurd (let e : None ≡ Some x = is in cc)
take_reads (suc n) k [] x is = absurd (let e : None ≡ Some x = is in cc)
take_reads (suc n) zero (y ∷ xs) x is = is
take_reads (suc n) (suc k) (y ∷ xs) x is = take_reads n k xs x is

drop_reads : {A : Type 0} (n k : ℕ) (xs : List A) (x : A) → slice_get (drop n xs) k ≡ Some x → slice_get xs (n + k) ≡ Some x
drop_reads zero k xs x is = subst (λ j. slice_get xs j ≡ Some x) (let e : k ≡ 0 + k = omega arith in e) is
drop_reads (suc n) k [] x is = absurd (let e : None ≡ Some x = is in cc)
drop_reads (suc n) k (y ∷ xs) x is = subst (λ j. slice_get (y ∷ xs) j ≡ Some x) (let e : suc (n + k) ≡ suc n + k = omega arith in e) (drop_reads n k xs x is)

module _ (fields : List Field) (batch : ℕ) (ops : List Op) where
  pub one_image_more : (last : ℕ) (told : List Image) (image : Image) → AreCommits fields batch ops last told → IsImageAfter fields ops (commit_point batch (length ops) (suc last)) image
      → AreCommits fields batch ops (suc last) (told_after told image)
  one_image_more last [] image commits is = record { count = λ some. absurd (omega (arith, some)); each = commits.each }
  one_image_more last (i ∷ told) image commits is = record {
    count = λ some. (let long = length-append (i ∷ told) (image ∷ []) in let count = commits.count (omega arith) in omega (arith, long, count));
    each = λ k x at. elim (cases_lt k (length (i ∷ told))) [
      | inl below ↦ commits.each k x (get_before (i ∷ told) image x k at below)
      | inr above ↦
          let h = get_last (i ∷ told) image x k at above in
          let count = commits.count (omega arith) in
          let here = h.0 in
          let place : k ≡ suc last = omega (arith, here, count) in
          subst (λ (y : Image). IsImageAfter fields ops (commit_point batch (length ops) k) y) (sym h.1)
          (subst (λ n. IsImageAfter fields ops (commit_point batch (length ops) n) image) (sym place) is)
    ];
  }

-- after so many operations, of which so many were skipped, all of them committed
pub record Stands {S H : Type 0} (ledger : S → Ledger H) (batch : ℕ) (ops : List Op) (start now : AttributeView S) (count skips : ℕ) : Type 0 where
  pub stays : StaysIn ledger start now
  pub last : ℕ
  pub told : AreCommits start.fields batch ops last (told_of ledger now)
  pub commits : (ledger now.store).work.commits.last ≡ (ledger start.store).work.commits.last + last
  pub point : count ≡ commit_point batch (length ops) last
  pub table : now.table ≡ after start.fields ops count
  pub operations : now.operations ≡ count
  pub committed : now.committed ≡ now.table
  pub committed_operations : now.committed_operations ≡ count
  pub skips_are : skips ≡ skipped start.fields ops count

module _ {S H : Type 0} (ledger : S → Ledger H) (batch : ℕ) (ops : List Op) (start : AttributeView S) where
  module _ (empty : (shape : ℕ) (m : ℕ → List ℕ) → table_of shape m 0 ≡ []) (at : IsAtStart ledger start) where
    first_image : (n : ℕ) → n ≡ 0 → IsImageAfter start.fields ops n no_image
    first_image n none = subst (λ k. IsImageAfter start.fields ops k no_image) (sym none) (record { lawful = tt; operations = refl; table = empty (shape_of (types_of start.fields)) (words_at no_image) })

    pub starts : Stands ledger batch ops start start 0 0
    starts = record {
      stays = record { home = refl; sizes = refl; readers = refl; fields = refl; dense = refl };
      last = 0;
      told = record {
        count = λ some. (let few = at.few in omega (arith, few, some));
        each = λ k image is.
            let below = slice_get_within (told_of ledger start) k image is in
            let few = at.few in
            let is_none : image ≡ no_image = sym (get_or_from_slice_get (told_of ledger start) k image image is) ∙ at.empty k image below in
            subst (λ (y : Image). IsImageAfter start.fields ops (commit_point batch (length ops) k) y) (sym is_none)
            (first_image (commit_point batch (length ops) k) (let z : k ≡ 0 = omega (arith, below, few) in let e = ap (λ n. batch * n) z in let m = mul-zero batch in omega (arith, e, m)));
      };
      commits = omega arith;
      point = (let m = mul-zero batch in omega (arith, m));
      table = at.table;
      operations = at.operations;
      committed = at.committed ∙ sym at.table;
      committed_operations = at.committed_operations;
      skips_are = refl;
    }

  module _ (b : AttributeView S) (count skips : ℕ) (stands : Stands ledger batch ops start b count skips) (rest part : List Op) (rest_is : rest ≡ drop count ops) (part_is : part ≡ take (min (length rest) batch) rest)
      (below : count < length ops) where
    rest-long : length rest ≡ length ops - count
    rest-long = ap length rest_is ∙ length-drop count ops

    pub part-long : length part ≡ min (length ops - count) batch
    part-long =
        let a = ap length part_is ∙ length-take (min (length rest) batch) rest in
        let l = rest-long in
        omega (arith, a, l)

    pub front : take (count + length part) ops ≡ take count ops ++ part
    front =
        take-add count (length part) ops
        ∙ ap (λ xs. take count ops ++ xs) (ap (λ xs. take (length part) xs) (sym rest_is) ∙ ap (λ n. take n rest) (let p = part-long in let l = rest-long in omega (arith, p, l)) ∙ sym part_is)

    table_after : after_ops start.fields (after start.fields ops count) part ≡ after start.fields ops (count + length part)
    table_after = sym (after_ops-append start.fields [] (take count ops) part) ∙ ap (after_ops start.fields []) (sym front)

    -- the table after a front of the part
    pub front_of : (n : ℕ) → n ≤ length part → take (count + n) ops ≡ take count ops ++ take n part
    front_of n few =
        let a = ap length part_is ∙ length-take (min (length rest) batch) rest in
        let within : n ≤ min (length rest) batch = omega (arith, a, few) in
        take-add count n ops
        ∙ ap (λ xs. take count ops ++ xs) (ap (λ xs. take n xs) (sym rest_is) ∙ sym (ap (λ xs. take n xs) part_is ∙ take-take n (min (length rest) batch) rest within))

    after_part : (n : ℕ) → n ≤ length part → after_ops b.fields b.table (take n part) ≡ after start.fields ops (count + n)
    after_part n few =
        ap (λ fields. after_ops fields b.table (take n part)) stands.stays.fields ∙ ap (λ t. after_ops start.fields t (take n part)) stands.table
        ∙ sym (after_ops-append start.fields [] (take count ops) (take n part)) ∙ ap (after_ops start.fields []) (sym (front_of n few))

    after_all : after_ops b.fields b.table part ≡ after start.fields ops (count + length part)
    after_all =
        ap (λ fields. after_ops fields b.table part) stands.stays.fields ∙ ap (λ t. after_ops start.fields t part) stands.table ∙ table_after

    skips_after : skipped start.fields ops count + skipped_ops start.fields (after start.fields ops count) part ≡ skipped start.fields ops (count + length part)
    skips_after = sym (skipped_ops-append start.fields [] (take count ops) part) ∙ ap (skipped_ops start.fields []) (sym front)

    pub more_few : (more : ℕ) → more ≡ skipped_ops b.fields b.table part → skips + more ≤ length ops
    more_few more is =
        let first = stands.skips_are in
        let a = skipped_ops-few start.fields [] (take count ops) in
        let l = length-take count ops in
        let m = skipped_ops-few b.fields b.table part in
        let p = part-long in
        omega (arith, first, a, l, m, p, is, below)

    module _ (c : AttributeView S) (more : ℕ) (loads : LoadsAll ledger b c part more) where
      all : StaysIn ledger b loads.mid
      all = loads.applies.keeps.stays

      fields_mid : loads.mid.fields ≡ start.fields
      fields_mid = all.fields ∙ stands.stays.fields

      table_now : c.table ≡ after start.fields ops (count + length part)
      table_now =
          loads.commits.table ∙ loads.applies.table ∙ ap (λ fields. after_ops fields b.table part) stands.stays.fields
          ∙ ap (λ t. after_ops start.fields t part) stands.table ∙ table_after

      operations_now : c.operations ≡ count + length part
      operations_now = loads.commits.operations ∙ loads.applies.operations ∙ ap (λ n. n + length part) stands.operations

      fields_now : c.fields ≡ start.fields
      fields_now = loads.commits.stays.fields ∙ fields_mid

      point_now : count + length part ≡ commit_point batch (length ops) (suc stands.last)
      point_now = next_point batch (length ops) stands.last count (length part) stands.point below part-long

      image_now : IsImageAfter start.fields ops (count + length part) loads.commits.image
      image_now = record {
        lawful = subst (λ fields. IsLawfulImage (shape_of (types_of fields)) (words_at loads.commits.image) loads.commits.image.root) fields_now loads.commits.lawful;
        operations = loads.commits.image_operations ∙ operations_now;
        table = ap (λ fields. table_of (shape_of (types_of fields)) (words_at loads.commits.image) loads.commits.image.root) (sym fields_now) ∙ loads.commits.image_table ∙ table_now;
      }

      pub stands_on : Stands ledger batch ops start c (count + length part) (skips + more)
      stands_on = record {
        stays = stays_on ledger start b c stands.stays (stays_on ledger b loads.mid c all loads.commits.stays);
        last = suc stands.last;
        told = subst (AreCommits start.fields batch ops (suc stands.last)) (sym (loads.commits.told ∙ ap (λ told. told_after told loads.commits.image) loads.applies.keeps.told))
            (one_image_more start.fields batch ops stands.last (told_of ledger b) loads.commits.image stands.told (subst (λ n. IsImageAfter start.fields ops n loads.commits.image) point_now image_now));
        commits = (let number = loads.commits.number in let same = loads.applies.keeps.last in let before = stands.commits in omega (arith, number, same, before));
        point = point_now;
        table = table_now;
        operations = operations_now;
        committed = loads.commits.committed;
        committed_operations = loads.commits.committed_operations ∙ operations_now;
        skips_are =
            let first = stands.skips_are in
            let more_is : more ≡ skipped_ops start.fields (after start.fields ops count) part = loads.applies.skips ∙ ap (λ fields. skipped_ops fields b.table part) stands.stays.fields
            ∙ ap (λ t. skipped_ops start.fields t part) stands.table in
            let s = skips_after in
            omega (arith, first, more_is, s);
      }

    -- the operations of the part are those from here on
    read_on : (k : ℕ) (op : Op) → slice_get part k ≡ Some op → slice_get ops (count + k) ≡ Some op
    read_on k op is =
        drop_reads count k ops op (subst (λ (xs : List Op). slice_get xs k ≡ Some op) rest_is
        (take_reads (min (length rest) batch) k rest op (subst (λ (xs : List Op). slice_get xs k ≡ Some op) part_is is)))

    -- the refused call, as one of the whole load
    call_on : (c : AttributeView S) (before active held applied now : ℕ) → now ≡ count + applied
        → IsRefusedCall c.fields c.dense c.table part applied (length part) (ledger c.store) (record { operation = before; active = active; held = held })
        → IsRefusedCall c.fields c.dense c.table ops now (min (count + batch) (length ops)) (ledger c.store) (record { operation = count + before; active = active; held = held })
    call_on c before active held applied now now_is full = record {
      old = full.old;
      keeps = full.keeps;
      width = full.width;
      oldest = full.oldest;
      call = elim full.call [
        | inl next ↦ inl (record {
          number_is = (let number = next.number_is in omega (arith, number, now_is));
          op = next.op;
          is_next = subst (λ n. slice_get ops n ≡ Some next.op) (sym now_is) (read_on applied next.op next.is_next);
          refuses = next.refuses;
        })
        | inr commit ↦ inr (record {
          number_is = (let number = commit.number_is in omega (arith, number, now_is));
          is_last = (let p = part-long in let long = commit.is_last in omega (arith, p, long, below, now_is));
          refuses = commit.refuses;
        })
      ];
    }

    -- where the operation that found no room was refused
    full_at : (c : AttributeView S) (before active held : ℕ) → FindsNoRoom ledger b c part before active held
        → IsFullAt ledger batch ops start c count (record { operation = count + before; active = active; held = held })
    full_at c before active held full =
        let now : c.operations ≡ count + full.applied = (let more = full.operations in let here = stands.operations in omega (arith, more, here)) in
        record {
          free = full.full.free;
          active_is = full.full.active_is;
          held_is = full.full.held_is;
          table = full.table ∙ after_part full.applied full.fits ∙ ap (λ n. after start.fields ops n) (sym now);
          refused = call_on c before active held full.applied c.operations now full.refused;
        }

    pub finds_no_room : (c : AttributeView S) (before active held : ℕ) → 0 < batch → FindsNoRoom ledger b c part before active held
        → (start.dense ≡ false → length start.fields ≡ 1 → HasMadeNothing (ledger start.store) → IsOwed (load_of (ledger start.store).work.sizes.buffers (ledger start.store).work.sizes.words start.fields batch ops)
        (count + before) count)
        → (length start.fields ≡ 1 → HasMadeNothing (ledger start.store) → start.plan ≡ None → 8 ≤ (ledger start.store).work.sizes.buffers
        → ¬ IsSmall (load_of (ledger start.store).work.sizes.buffers (ledger start.store).work.sizes.words start.fields batch ops))
        → current (ledger c.store).work ≤ (ledger c.store).work.commits.last
        → Loads ledger batch ops start c (record { operations = count; skipped = skips; full = Some (record { operation = count + before; active = active; held = held }) })
    finds_no_room c before active held some full owed small timely = record {
      stays = stays_on ledger start b c stands.stays full.keeps.stays;
      last = stands.last;
      told = subst (AreCommits start.fields batch ops stands.last) (sym full.keeps.told) stands.told;
      point = stands.point;
      committed = full.keeps.committed ∙ stands.committed ∙ stands.table;
      committed_operations = full.keeps.committed_operations ∙ stands.committed_operations;
      skips = stands.skips_are;
      commits = (let same = full.keeps.last in let before = stands.commits in omega (arith, same, before));
      ends =
          let first = full.some in
          let most = full.most in
          let p = part-long in
          let k = stands.last in
          let here : count ≡ batch * k = whole batch (length ops) k count stands.point below in
          let same : batch * k + before - 1 ≡ count + before - 1 = omega (arith, here) in
          let batch_is : (count + before - 1) / batch ≡ k = ap (λ n. n / batch) (sym same) ∙ batch_of batch k before some first (omega (arith, most, p)) in (
            omega (arith, first),
            omega (arith, most, p, below),
            here ∙ ap (λ n. batch * n) (sym batch_is),
            full.full.all,
          );
      full = full_at c before active held full;
      owed = owed;
      small = λ one nothing plan many is. absurd (small one nothing plan many is);
      unheld = λ none few.
          let stays = stays_on ledger start b c stands.stays full.keeps.stays in
          let same = full.keeps.last in
          let before = stands.commits in
          let generations = ap (λ (s : Sizes). s.generations) stays.sizes in
          let k = stands.last in
          let here : count ≡ batch * k = whole batch (length ops) k count stands.point below in
          let fewer : 1 * k ≤ batch * k = mul-le-mul some (omega arith) in
          full.full.unread (stays.readers ∙ none) (omega (arith, timely, same, before, generations, few, here, fewer, below));
    }

    -- no commit is left: fewer were made than there are operations
    is_spent : 0 < batch → (ledger b.store).work.commits.last ≡ (ledger b.store).work.sizes.commits
        → (ledger start.store).work.sizes.commits < (ledger start.store).work.commits.last + length ops
    is_spent some spent =
        let k = stands.last in
        let here : count ≡ batch * k = whole batch (length ops) k count stands.point below in
        let few : 1 * k ≤ batch * k = mul-le-mul some (omega arith) in
        let made = stands.commits in
        let same = ap (λ (sizes : Sizes). sizes.commits) stands.stays.sizes in
        omega (arith, here, few, made, same, spent, below)

    pub given_up : 0 < batch → (error : LoadError) → HasNoCommit ledger b error → IsSpent ledger ops start error
    given_up some CommitsSpent spent = is_spent some spent
    given_up some Memory spent = tt

  pub ends_all : (b : AttributeView S) (count skips : ℕ) → Stands ledger batch ops start b count skips → count ≡ length ops → Loads ledger batch ops start b (record { operations = count; skipped = skips; full = None })
  ends_all b count skips stands all = record {
    stays = stands.stays;
    last = stands.last;
    told = stands.told;
    commits = stands.commits;
    full = tt;
    owed = λ off one nothing. tt;
    small = λ one nothing plan many is. refl;
    unheld = λ none few. tt;
    point = stands.point;
    committed = stands.committed ∙ stands.table;
    committed_operations = stands.committed_operations;
    skips = stands.skips_are;
    ends = all;
  }
