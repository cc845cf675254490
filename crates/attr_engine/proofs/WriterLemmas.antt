-- What stays of a writer, and what a loading makes of it.
use Rattle.std.proofs.Common.{◌≡◌, ◌<◌, ◌≤◌, ◌+◌, ℕ, zero, suc, List, [], ◌∷◌, length, None, Some, refl, sym, ap, subst, ◌∙◌, arith, false}
use Rattle.std.specs.Prelude.{slice_get, min, All, Bool, IfSome, Option, ◌^◌}
use Rattle.std.specs.List.{AllByRecursion}
use Rattle.std.proofs.lemmas.Option.{slice_get_within, IfSome_then}
use Rattle.atomic_table.specs.Seated.{TableId}
use Rattle.atomic_table.specs.declared.badge.Badge.{Badge}
use Rattle.entry_ref.specs.declared.images.Image.{Image}
use Rattle.entry_ref.specs.Images.{no_image, words_at}
use Rattle.entry_ref.specs.Records.{Records}
use Rattle.arena_api.specs.Works.{Sizes as ApiSizes, WorkView, free_count, last_image}
use Rattle.gen_core.specs.declared.views.WriterView.{WriterView}
use Rattle.gen_core.specs.declared.views.ReaderView.{ReaderView}
use Rattle.gen_core.specs.Views.{last_number}
use Rattle.store_api.specs.Ledgers.{Ledger, active_count, held_count}
use Rattle.word_arena.specs.Knows.{view_of}
use Rattle.word_arena.specs.Ruled.{writer_of}
use Rattle.word_arena.specs.declared.rule.Watched.{Watched}
use Rattle.image_format.specs.Images.{table_of, operations_at}
use Rattle.attr_loader.specs.Runs.{IsOwed, IsSmall}
use Rattle.image_format.specs.Shapes.{shape_of, types_of}
use Rattle.attr_types.specs.Lawful.{OpFits}
use Rattle.attr_types.specs.Table.{Table, after, skipped}
use Rattle.attr_types.specs.declared.field.Field.{Field}
use Rattle.attr_types.specs.declared.op.Op.{Op}
use Rattle.attr_loader.specs.Attributes.{AttributeView, HasCommit}
use Rattle.attr_loader.specs.Loading.{CanLoad, IsAtStart, IsFullAt, Loads, AreCommits, EndsAt}
use Rattle.attr_loader.specs.Refusals.{IsRefusedCall}
use Rattle.attr_loader.specs.Room.{load_of, HasMadeNothing}
use Rattle.attr_loader.specs.declared.loaded.Loaded.{Loaded}
use Rattle.attr_loader.specs.declared.loaded.NoRoom.{NoRoom}
use Rattle.attr_report.specs.Run.{Run}
use Rattle.attr_engine.specs.FullWriter.{IsFullAtEnd, IsFullWriter}
use Rattle.attr_engine.specs.Steps.{KeepsWriter, IsReader, IsNewWriter, LoadsInto}

pub keeps_on : (a b c : WriterView) → KeepsWriter a b → KeepsWriter b c → KeepsWriter a c
keeps_on a b c first second = second ∙ ap (λ (x : WriterView). record x { saw = c.saw; taken = c.taken; made = c.made }) first

pub reader_on : (a b : WriterView) (home z : TableId) (r : ReaderView) (table : TableId) → KeepsWriter a b → z ≡ home → IsReader b z r table → IsReader a home r table
reader_on a b home z r table keeps same is = record {
  same_sizes = is.same_sizes ∙ ap (λ (x : WriterView). x.sizes) keeps;
  seen_last = is.seen_last ∙ ap (λ (x : WriterView). last_number x.commits) keeps;
  nothing = is.nothing;
  at_home = is.at_home ∙ same;
}

-- no buffer of a work is free
abbrev CountsFull : WorkView TableId → NoRoom → Type 0
CountsFull x room = (free_count x.buffer x.sizes.buffers ≡ 0) × (room.active ≡ active_count x.buffer x.sizes.buffers) × (room.held ≡ held_count x.buffer x.sizes.buffers)

-- a loading by attributes over a writer, as the writer sees it
module _ {S : Type 0} (ledger : S → Ledger TableId) (fields : List Field) (batch : ℕ) (ops : List Op) (a b : AttributeView S) (loaded : Loaded) (home z : TableId) (w v : WriterView)
    (loads : Loads ledger batch ops a b loaded) (fields_are : a.fields ≡ fields) (from : (ledger a.store).work ≡ view_of home w) (to : view_of z v ≡ (ledger b.store).work) where
  told_is : (ledger b.store).work.told ≡ v.commits
  told_is = ap (λ (x : WorkView TableId). x.told) (sym to)

  pub table_stays : z ≡ home
  table_stays = ap (λ (x : WorkView TableId). x.home) to ∙ loads.stays.home ∙ ap (λ (x : WorkView TableId). x.home) from

  buffers_stay : (ledger b.store).work.sizes.buffers ≡ w.sizes.buffers
  buffers_stay = ap (λ (x : ApiSizes). x.buffers) loads.stays.sizes ∙ ap (λ (x : WorkView TableId). x.sizes.buffers) from

  -- as many readers were made
  pub made_stays : v.made ≡ w.made
  made_stays = ap (λ (x : WorkView TableId). x.made) to ∙ loads.stays.readers ∙ ap (λ (x : WorkView TableId). x.made) from

  owed_into : HasMadeNothing (ledger a.store) → a.dense ≡ false → length fields ≡ 1
      → IfSome loaded.full (λ full. IsOwed (load_of w.sizes.buffers w.sizes.words fields batch ops) full.operation loaded.operations)
  owed_into nothing off one =
      subst (λ (x : WorkView TableId). IfSome loaded.full (λ (full : NoRoom). IsOwed (load_of x.sizes.buffers x.sizes.words fields batch ops) full.operation loaded.operations)) from
      (subst (λ (fs : List Field). IfSome loaded.full (λ (full : NoRoom). IsOwed (load_of (ledger a.store).work.sizes.buffers (ledger a.store).work.sizes.words fs batch ops)
      full.operation loaded.operations)) fields_are
      (loads.owed off (ap length fields_are ∙ one) nothing))

  small_into : HasMadeNothing (ledger a.store) → a.plan ≡ None → length fields ≡ 1 → 8 ≤ w.sizes.buffers → IsSmall (load_of w.sizes.buffers w.sizes.words fields batch ops) → loaded.full ≡ None
  small_into nothing plan one many small =
      loads.small (ap length fields_are ∙ one) nothing plan (subst (λ (x : WorkView TableId). 8 ≤ x.sizes.buffers) (sym from) many)
      (subst (λ (fs : List Field). IsSmall (load_of (ledger a.store).work.sizes.buffers (ledger a.store).work.sizes.words fs batch ops)) (sym fields_are)
      (subst (λ (x : WorkView TableId). IsSmall (load_of x.sizes.buffers x.sizes.words fields batch ops)) (sym from) small))

  unheld_into : IsNewWriter fields home w → length ops < 2 ^ 32 → v.made ≡ 0 → IfSome loaded.full (λ full. full.held ≡ 0)
  unheld_into new few none =
      let last : (ledger a.store).work.commits.last ≡ 0 = ap (λ (x : WorkView TableId). x.commits.last) from ∙ new.fresh.last in
      let generations : (ledger a.store).work.sizes.generations ≡ 281474976710655 = ap (λ (x : WorkView TableId). x.sizes.generations) from ∙ new.generations in
      loads.unheld (ap (λ (x : WorkView TableId). x.made) from ∙ sym made_stays ∙ none) (omega (arith, last, generations, few))

  full_into : (dense : Bool) → a.dense ≡ dense → (room : NoRoom) → IsFullAt ledger batch ops a b loaded.operations room → IsFullWriter fields dense batch ops loaded.operations v room
  full_into dense dense_is room at =
      let here = subst (λ (x : WorkView TableId). CountsFull x room) (sym to) (at.free, at.active_is, at.held_is) in
      let last = min (loaded.operations + batch) (length ops) in
      let store = ledger b.store in
      record {
        free = here.0;
        active_is = here.1;
        held_is = here.2;
        home = z;
        store = store;
        knows = sym to ∙ ap (λ n. record (view_of z v) { made = n }) (ap (λ (x : WorkView TableId). x.made) to);
        applied = b.operations;
        refused = subst (λ (fs : List Field). IsRefusedCall fs dense (after fields ops b.operations) ops b.operations last store room) (loads.stays.fields ∙ fields_are)
            (subst (λ d. IsRefusedCall b.fields d (after fields ops b.operations) ops b.operations last store room) (loads.stays.dense ∙ dense_is)
            (subst (λ (t : Table). IsRefusedCall b.fields b.dense t ops b.operations last store room) (at.table ∙ ap (λ fs. after fs ops b.operations) fields_are) at.refused));
      }

  pub loads_into : v.sizes.shape ≡ shape_of (types_of b.fields) → IsNewWriter fields home w → length ops < 2 ^ 32 → slice_get v.commits 0 ≡ Some no_image → HasMadeNothing (ledger a.store)
      → (dense : Bool) → a.dense ≡ dense → a.plan ≡ None → LoadsInto fields dense batch ops w v loaded
  loads_into shape_now new few first nothing dense dense_is plan =
      let are : AreCommits fields batch ops loads.last v.commits =
      subst (AreCommits fields batch ops loads.last) told_is (subst (λ fs. AreCommits fs batch ops loads.last ((ledger b.store).work.told)) fields_are loads.told) in
      let long = are.count (slice_get_within v.commits 0 no_image first) in
      record {
        shape_is = shape_now ∙ ap (λ fs. shape_of (types_of fs)) (loads.stays.fields ∙ fields_are) ∙ sym new.shape_is;
        last = loads.last;
        commits = are;
        count = omega (arith, long);
        point = loads.point;
        skips = loads.skips ∙ ap (λ fs. skipped fs ops loaded.operations) fields_are;
        ends = subst (λ n. EndsAt batch (length ops) n loaded.operations loaded.full) buffers_stay loads.ends;
        full = IfSome_then loaded.full loads.full (λ room at. full_into dense dense_is room at);
        owed = λ off. owed_into nothing (dense_is ∙ off);
        small = small_into nothing plan;
        unheld = unheld_into new few;
      }

pub new_on : (fields : List Field) (home z : TableId) (w v : WriterView) → KeepsWriter w v → z ≡ home → IsNewWriter fields home w → IsNewWriter fields z v
new_on fields home z w v keeps same is =
    subst (IsNewWriter fields z) (sym keeps) (subst (λ (h : TableId). IsNewWriter fields h (record w { saw = v.saw; taken = v.taken; made = v.made })) (sym same) (record {
      some = is.some;
      few = is.few;
      shape_is = is.shape_is;
      fresh = record { queue = is.fresh.queue; floor = is.fresh.floor; last = is.fresh.last; image = is.fresh.image; buffers = is.fresh.buffers };
      commits = is.commits;
      limit = is.limit;
      generations = is.generations;
    }))

-- a loading into a writer that had got readers before is one into the writer that it was
pub loads_from : (fields : List Field) (dense : Bool) (batch : ℕ) (ops : List Op) (w v x : WriterView) (loaded : Loaded) → KeepsWriter w v → LoadsInto fields dense batch ops v x loaded
    → LoadsInto fields dense batch ops w x loaded
loads_from fields dense batch ops w v x loaded keeps is =
    let moved = subst (λ (y : WriterView). LoadsInto fields dense batch ops y x loaded) keeps is in
    record {
      shape_is = moved.shape_is;
      last = moved.last;
      commits = moved.commits;
      count = moved.count;
      point = moved.point;
      skips = moved.skips;
      ends = moved.ends;
      full = moved.full;
      owed = moved.owed;
      small = moved.small;
      unheld = moved.unheld;
    }

-- a full writer stays full where only readers are made and taken in
kept_full : (fields : List Field) (dense : Bool) (batch : ℕ) (ops : List Op) (loaded : ℕ) (v x : WriterView) (room : NoRoom) → IsFullWriter fields dense batch ops loaded v room
    → IsFullWriter fields dense batch ops loaded (record v { saw = x.saw; taken = x.taken; made = x.made }) room
kept_full fields dense batch ops loaded v x room at =
    record { free = at.free; active_is = at.active_is; held_is = at.held_is; home = at.home; store = at.store; knows = at.knows; applied = at.applied; refused = at.refused }

pub full_at_end : (run : Run) (ops : List Op) (loaded : ℕ) (v : WriterView) (seat : Badge Watched) (knew : Watched) (full : Option NoRoom) → seat.views ≡ knew ∷ [] → KeepsWriter v (writer_of knew)
    → IfSome full (IsFullWriter run.fields run.dense run.batch ops loaded v) → IfSome full (IsFullAtEnd run ops loaded seat)
full_at_end run ops loaded v seat knew full is keeps at = IfSome_then full at (λ room there. record {
  knew = knew;
  is = is;
  full = subst (λ (y : WriterView). IsFullWriter run.fields run.dense run.batch ops loaded y room) (sym keeps) (kept_full run.fields run.dense run.batch ops loaded v (writer_of knew) room there);
})

-- and one into a writer that then took readers in
pub loads_kept : (fields : List Field) (dense : Bool) (batch : ℕ) (ops : List Op) (w v x : WriterView) (loaded : Loaded) → KeepsWriter v x → x.made ≡ v.made
    → LoadsInto fields dense batch ops w v loaded → LoadsInto fields dense batch ops w x loaded
loads_kept fields dense batch ops w v x loaded keeps made is =
    subst (λ (y : WriterView). LoadsInto fields dense batch ops w y loaded) (sym keeps)
    (record {
      shape_is = is.shape_is;
      last = is.last;
      commits = is.commits;
      count = is.count;
      point = is.point;
      skips = is.skips;
      ends = is.ends;
      full = IfSome_then loaded.full is.full (λ room at. kept_full fields dense batch ops loaded.operations v x room at);
      owed = is.owed;
      small = is.small;
      unheld = λ none. is.unheld (sym made ∙ none);
    })

one_image : (image : Image) → All (λ x. x ≡ image) (image ∷ [])
one_image image zero d below = refl
one_image image (suc k) d below = absurd (omega (arith, below))

-- attributes that were made over a new writer, with what its last commit is
pub at_start : {S : Type 0} (ledger : S → Ledger TableId) (fields : List Field) (home : TableId) (w : WriterView) (a : AttributeView S)
    → ((shape : ℕ) (m : Records) → table_of shape m 0 ≡ []) → IsNewWriter fields home w → (ledger a.store).work ≡ view_of home w
    → a.table ≡ [] → a.operations ≡ 0 → a.root ≡ 0 → HasCommit (ledger a.store) a.fields a.root a.committed a.committed_operations → IsAtStart ledger a
at_start ledger fields home w a empty new work table operations root has =
    let told : (ledger a.store).work.told ≡ no_image ∷ [] = ap (λ (x : WorkView TableId). x.told) work ∙ new.commits in
    let m : Records = words_at (last_image (ledger a.store).work.commits) in
    let long : length ((ledger a.store).work.told) ≡ 1 = ap length told in
    record {
      table = table;
      operations = operations;
      committed = sym has.table_is ∙ ap (λ r. table_of (shape_of (types_of a.fields)) m r) root ∙ empty (shape_of (types_of a.fields)) m;
      committed_operations = sym has.operations_are ∙ ap (λ r. operations_at m r) root;
      few = omega (arith, long);
      empty = subst (λ (list : List Image). All (λ image. image ≡ no_image) list) (sym told) (one_image no_image);
    }

pub can_load : {S : Type 0} (ledger : S → Ledger TableId) (fields : List Field) (batch : ℕ) (ops : List Op) (a : AttributeView S) → a.fields ≡ fields → 0 < batch
    → length ops < 2 ^ 32 → AllByRecursion (OpFits fields) ops → IsAtStart ledger a → CanLoad ledger batch ops a
can_load ledger fields batch ops a same some few fit start = record {
  some = some;
  few = few;
  fit = subst (λ fs. AllByRecursion (OpFits fs) ops) (sym same) fit;
  start = start;
}

-- the commits that are left to attributes over a new writer are enough
pub commits_left : {S : Type 0} (ledger : S → Ledger TableId) (fields : List Field) (home : TableId) (w : WriterView) (a : AttributeView S) (ops : List Op) → IsAtStart ledger a → IsNewWriter fields home w
    → (ledger a.store).work ≡ view_of home w → length ops < 2 ^ 32 → (ledger a.store).work.commits.last + length ops ≤ (ledger a.store).work.sizes.commits
commits_left ledger fields home w a ops start new work few =
    let last : (ledger a.store).work.commits.last ≡ 0 = ap (λ (x : WorkView TableId). x.commits.last) work ∙ new.fresh.last in
    let limit : (ledger a.store).work.sizes.commits ≡ 4294967295 = ap (λ (x : WorkView TableId). x.sizes.commits) work ∙ new.limit in
    omega (arith, last, limit, few)
