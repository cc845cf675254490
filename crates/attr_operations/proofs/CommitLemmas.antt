-- What a commit of attributes asks for, and what it makes of them.
use Rattle.std.proofs.Common.{◌≡◌, ◌⊎◌, ℕ, ◌+◌, ◌<◌, ◌≤◌, ◌^◌, Bool, cond, nat_lt, List, [], ◌∷◌, length, true, false, Option, None, Some, true≢false, refl, sym, ap, subst, ◌∙◌, arith, inl, inr}
use Rattle.std.proofs.lemmas.Bool.{cases_Bool}
use Rattle.std.specs.List.{AllByRecursion}
use Rattle.entry_ref.proofs.Among.{SameAt-then}
use Rattle.entry_ref.specs.References.{buffer_of}
use Rattle.entry_ref.specs.Images.{image_of, words_at}
use Rattle.entry_ref.specs.Records.{Records, Among, SameAt}
use Rattle.entry_ref.specs.declared.images.Image.{Image}
use Rattle.arena_api.specs.Calls.{AddsCommit, next_image, published, told_after}
use Rattle.arena_api.specs.Generations.{tag_now}
use Rattle.arena_api.specs.Works.{Tag, WorkView, last_image, oldest_of}
use Rattle.store_api.specs.Calls.{IsWhole, StoresCommit, committed_status, with_hold}
use Rattle.store_api.specs.Ledgers.{Ledger, is_in, is_this}
use Rattle.store_api.specs.Parts.{After, AllStay, Owns, Part, Turns, count_in, entries, times, uses}
use Rattle.store_api.specs.Statuses.{Status, after_commit, free_below, in_use, is_dead, is_held_status, is_taken}
use Rattle.store_api.specs.declared.store.Stored.{Stored}
use Rattle.store_api.proofs.PartLemmas.{after, count-stays}
use Rattle.store_api.proofs.Times.{times-same, times-among}
use Rattle.store_api.proofs.Uses.{below_uses, commit_unused, uses-few, uses-in, uses-out}
use Rattle.attr_field.specs.Laws.{FieldReaches}
use Rattle.attr_field.specs.declared.roots.FieldRoots.{FieldRoots}
use Rattle.image_format.specs.Attributes.{IsLawfulAttribute}
use Rattle.image_format.specs.Images.{IsLawfulImage, attr_reaches, root_record}
use Rattle.image_format.specs.Laws.{IsImageOf, RootMakesImage}
use Rattle.image_format.specs.ProofsForImages.{attr_present}
use Rattle.image_format.specs.Shapes.{shape_of, types_of}
use Rattle.image_format.specs.Tables.{AttributeTrees, AreLawfulAttributes, attributes_reach, types_at}
use Rattle.image_format.specs.Words.{filled}
use Rattle.array_store.specs.Roots.{MakesRootRecord, root_entries}
use Rattle.array_store.proofs.RootLemmas.{entries_some}
use Rattle.attr_types.specs.declared.field.Field.{Field}
use Rattle.attr_types.specs.declared.field.TheConstants.{MOST_FIELDS}
use Rattle.attr_operations.specs.Calls.{KeepsStore}
use Rattle.attr_operations.specs.Commits.{CommitsAttributes, TurnsRoot, roots_listed}
use Rattle.attr_operations.specs.Fields.{AllReferBeside, AreFields, HoldsAttributes, IsFieldAt, OwnsOutside, parts_of, trees_of}
use Rattle.attr_operations.specs.Views.{table_at}
use Rattle.attr_operations.proofs.Columns.{FieldLaws}
use Rattle.attr_operations.proofs.Committing.{apart_from, either_some, reach_same, owned_reached, reached_moved, reached_owns, reached_record, reached_same, reached_stay, reached_used, reached_uses, reached_whole}
use Rattle.attr_operations.proofs.Referring.{AreSame, all_moved, each_same}
use Rattle.attr_operations.proofs.RootLemmas.{listed_trees}
use Rattle.attr_operations.proofs.TreeLists.{trees_length}
use Rattle.attr_operations.proofs.Units.{fields_stay, table_stays}

-- the shape of the trees is that of the fields
pub types_same : {bits : ℕ} (fields : List Field) (roots : List (FieldRoots bits)) → length roots ≡ length fields → types_at (trees_of fields roots) ≡ types_of fields
types_same [] roots same = refl
types_same (field ∷ fields) [] same = absurd (omega arith)
types_same (field ∷ fields) (root ∷ roots) same = ap (λ ts. (field.kind, field.value) ∷ ts) (types_same fields roots (omega arith))

-- what a commit tells, whether or not a buffer goes on hold
hold_told : {H : Type 0} (work : WorkView H) (finished : Option ℕ) → (with_hold work finished).told ≡ work.told
hold_told work None = refl
hold_told work (Some b) = refl

told_committed : {H : Type 0} (bits : ℕ) (old new : Ledger H) (image : Image) (answer : Stored) → StoresCommit bits old new image answer
    → new.work.told ≡ told_after old.work.told image
told_committed bits old new image answer stores =
    ap (λ (w : WorkView _). w.told) stores.work
    ∙ ap (λ (w : WorkView _). w.told) stores.next_is
    ∙ hold_told (published old.work stores.commits image) old.finished

-- ---- what a commit leaves out, and that it brings nothing into use
gone_unused : (gone has : Bool) (tag : Tag) (status : Status) → in_use status ≡ false → in_use (cond gone Status.unmade (after_commit tag has status)) ≡ false
gone_unused true has tag status unused = refl
gone_unused false has tag status unused = commit_unused tag has status unused

freed_left : (test : Bool) (tag : Tag) → cond test Status.free (Status.held tag) ≡ Status.left → ⊥
freed_left true tag is = true≢false (ap is_dead is)
freed_left false tag is = true≢false (ap is_dead is)

below_left : (generation : ℕ) (status : Status) → free_below generation status ≡ Status.left → status ≡ Status.left
below_left generation Status.unmade is = is
below_left generation Status.free is = is
below_left generation Status.pending is = is
below_left generation Status.live is = is
below_left generation Status.dropped is = is
below_left generation Status.let_go is = is
below_left generation (Status.held tag) is = absurd (freed_left (nat_lt tag.generation generation) tag is)
below_left generation Status.left is = is

commit_left : (tag : Tag) (has : Bool) (status : Status) → after_commit tag has status ≡ Status.left → (status ≡ Status.left) ⊎ (in_use status ≡ true)
commit_left tag has Status.unmade is = inl is
commit_left tag has Status.free is = inl is
commit_left tag has Status.pending is = inr refl
commit_left tag has Status.live is = inr refl
commit_left tag has Status.dropped is = absurd (true≢false (ap is_held_status is))
commit_left tag has Status.let_go is = inl is
commit_left tag has (Status.held t) is = inl is
commit_left tag has Status.left is = inl is

gone_left : (gone has : Bool) (tag : Tag) (status : Status) → cond gone Status.unmade (after_commit tag has status) ≡ Status.left → (status ≡ Status.left) ⊎ (in_use status ≡ true)
gone_left true has tag status is = absurd (true≢false (sym (ap is_taken is)))
gone_left false has tag status is = commit_left tag has status is

module _ {H : Type 0} (bits : ℕ) (old new : Ledger H) (image : Image) (answer : Stored) (stores : StoresCommit bits old new image answer) where
  abbrev tag_of : Tag
  tag_of = tag_now (published old.work stores.commits image)

  stored_left : (r : ℕ) → new.status r ≡ Status.left → (old.status r ≡ Status.left) ⊎ (in_use (old.status r) ≡ true)
  stored_left r is = gone_left (is_this old.finished (buffer_of bits r)) (is_in image r) tag_of (old.status r)
      (below_left (oldest_of new.work.queue).generation (committed_status bits old tag_of image r) (sym (stores.status r) ∙ is))

  stored_unused : (r : ℕ) → in_use (old.status r) ≡ false → in_use (new.status r) ≡ false
  stored_unused r unused =
      ap in_use (stores.status r)
      ∙ below_uses (oldest_of new.work.queue).generation (committed_status bits old tag_of image r)
      ∙ gone_unused (is_this old.finished (buffer_of bits r)) (is_in image r) tag_of (old.status r) unused

  stored_uses : (r : ℕ) → uses new r ≤ uses old r
  stored_uses r = elim (cases_Bool (in_use (old.status r))) [
    | inl e ↦ (let one = uses-in old r e in let few = uses-few new r in omega arith)
    | inr e ↦ (let none = uses-out new r (stored_unused r e) in omega arith)
  ]

-- a root record is made in place of the previous one, and then the store commits
pub turns_root : {H : Type 0} (bits : ℕ) (old mid new : Ledger H) (m k : Records) (image : Image) (answer : Stored) (before root : ℕ) → KeepsStore old mid
    → Turns old mid m k (entries (root_entries before) ∷ []) (entries (root_entries root) ∷ []) → StoresCommit bits mid new image answer → TurnsRoot old new before root
turns_root bits old mid new m k image answer before root keeps turns stores = record {
  used = λ r. let less = stored_uses bits mid new image answer stores r in let t = turns.balance r in omega arith;
  left = λ r is. elim (stored_left bits mid new image answer stores r is) [
    | inl was ↦ inl (keeps.left r was)
    | inr used ↦ inr (let one = uses-in mid r used in let t = turns.balance r in omega arith)
  ];
}

lawful_each : (laws : FieldLaws) (m : Records) (trees : List AttributeTrees) → AllByRecursion (IsFieldAt m) trees
    → AllByRecursion (λ a. IsLawfulAttribute a.kind a.type m a.documents a.dictionary) trees
lawful_each laws m [] each = tt
lawful_each laws m (a ∷ trees) each = (laws.lawful a m each.0, lawful_each laws m trees each.1)

lawful_trees : (laws : FieldLaws) (m : Records) (fields : List Field) (trees : List AttributeTrees) → AreFields m fields trees → AreLawfulAttributes m trees
lawful_trees laws m fields trees are = record { each = lawful_each laws m trees are.each; documents = are.documents }

stay_then : (m k n : Records) (parts : List Part) → AllStay parts m k → AllStay parts k n → AllStay parts m n
stay_then m k n [] one two = tt
stay_then m k n (part ∷ parts) one two =
    (SameAt-then m k n (part.reach m) one.0 (subst (λ (refs : List ℕ). SameAt refs k n) (part.stays m k one.0) two.0), stay_then m k n parts one.1 two.1)

-- the root record is owned
pub before_owns : {H : Type 0} (bits : ℕ) (ledger : Ledger H) (m : Records) (fields : List Field) (trees : List AttributeTrees) (root : ℕ)
    → HoldsAttributes bits ledger m fields trees root → Owns ledger m (entries (root_entries root) ∷ [])
before_owns bits ledger m fields trees root holds = record { each = λ r. let all = holds.owns.each r in omega arith }

module _ (laws : FieldLaws) (reaches : FieldReaches) (images : RootMakesImage) {H : Type 0} {bits : ℕ} (old mid : Ledger H) (m k : Records)
    (fields : List Field) (roots : List (FieldRoots bits)) (operations before root : ℕ)
    (sized : length roots ≡ length fields) (few : length fields ≤ MOST_FIELDS) (below : operations < 2 ^ 32) (holds : HoldsAttributes bits old m fields (trees_of fields roots) before)
    (keeps : KeepsStore old mid) (makes : MakesRootRecord bits old mid m k (operations ∷ roots_listed roots) before root)
    (finished : (b : ℕ) → mid.finished ≡ Some b → mid.sealed b ≡ true) where
  abbrev trees : List AttributeTrees
  trees = trees_of fields roots

  abbrev shape : ℕ
  shape = shape_of (types_of fields)

  -- ---- the root record is made
  whole : After old mid m k (entries (root_entries before) ∷ parts_of trees) (entries (root_entries root) ∷ parts_of trees) (parts_of trees)
  whole = after old mid m k (entries (root_entries before) ∷ []) (entries (root_entries root) ∷ []) (parts_of trees) (entries (root_entries before) ∷ parts_of trees)
      (entries (root_entries root) ∷ parts_of trees) (record { each = holds.owns.each }) makes.turns (λ k r. omega arith) (λ k r. omega arith)

  mid_owns : OwnsOutside bits mid k (entries (root_entries root) ∷ parts_of trees)
  mid_owns = record {
    each = whole.owns.each;
    all = λ r unsealed.
        let was : old.sealed (buffer_of bits r) ≡ false = ap (λ (s : ℕ → Bool). s (buffer_of bits r)) (sym keeps.sealed) ∙ unsealed in
        let most = holds.owns.all r was in
        let t = whole.turns.balance r in
        omega arith;
  }

  mid_same : AreSame m k trees
  mid_same = each_same laws old m k trees (entries (root_entries before) ∷ parts_of trees) holds.are_fields.each holds.refer whole.stay whole.turns.kept

  mid_refer : AllReferBeside mid k trees (entries (root_entries root) ∷ parts_of trees)
  mid_refer = all_moved old mid m k trees (entries (root_entries before) ∷ parts_of trees) (entries (root_entries root) ∷ parts_of trees) mid_same holds.refer
      (λ r less. let t = whole.turns.balance r in omega arith)

  mid_fields : AreFields k fields trees
  mid_fields = fields_stay m k fields trees holds.are_fields mid_same

  words_is : k root ≡ root_record operations trees
  words_is = makes.words_are ∙ ap (λ ws. filled (operations ∷ ws)) (listed_trees fields roots sized)

  image_at : (n : Records) → AreFields n fields trees → n root ≡ root_record operations trees → IsImageOf operations trees shape n root
  image_at n are is =
      let size : length trees ≤ MOST_FIELDS = subst (λ l. l ≤ MOST_FIELDS) (sym (trees_length fields roots sized)) few in
      subst (λ ts. IsImageOf operations trees (shape_of ts) n root) (types_same fields roots sized) (images operations trees n root makes.some below size is (lawful_trees laws n fields trees are))

  mid_image : IsImageOf operations trees shape k root
  mid_image = image_at k mid_fields words_is

  in_front : (r : ℕ) → Among r (root ∷ attributes_reach k trees) → 0 < uses mid r
  in_front r among = let most = mid_owns.each r in elim among [
    | inl e ↦ (let here : times r (root_entries root) ≡ 1 = ap (times r) (entries_some root makes.some) ∙ times-same r root [] e in omega arith)
    | inr there ↦ elim (reached_used reaches k r laws mid (entries (root_entries root) ∷ parts_of trees) trees mid_fields.each mid_refer there) [
      | inl own ↦ omega arith
      | inr out ↦ omega arith
    ]
  ]

  among_front : (r : ℕ) → 0 < count_in r k (entries (root_entries root) ∷ parts_of trees) → Among r (root ∷ attributes_reach k trees)
  among_front r some = elim (either_some (times r (root_entries root)) (count_in r k (parts_of trees)) some) [
    | inl here ↦ (let is : 0 < times r (root ∷ []) = subst (λ refs. 0 < times r refs) (entries_some root makes.some) here in one_or (times-among r (root ∷ []) is))
    | inr there ↦ inr (owned_reached reaches k r trees there)
  ]
    where
      one_or : Among r (root ∷ []) → Among r (root ∷ attributes_reach k trees)
      one_or (inl e) = inl e
      one_or (inr no_one) = absurd no_one

  reached_is_used : (r : ℕ) → Among r (attr_reaches shape k root) → 0 < uses mid r
  reached_is_used r among = in_front r (subst (Among r) mid_image.reach among)

  owned_is_reached : (r : ℕ) → 0 < count_in r k (entries (root_entries root) ∷ parts_of trees) → Among r (attr_reaches shape k root)
  owned_is_reached r some = subst (Among r) (sym mid_image.reach) (among_front r some)

  none_finished : (r : ℕ) → Among r (attr_reaches shape k root) → is_this mid.finished (buffer_of bits r) ≡ false
  none_finished r among = elim (subst (Among r) mid_image.reach among) [
    | inl e ↦ apart_from mid.finished (buffer_of bits r)
        (λ is. true≢false (sym (finished (buffer_of bits r) is) ∙ ap (λ q. mid.sealed (buffer_of bits q)) e ∙ makes.unsealed))
    | inr there ↦ ap (λ f. is_this f (buffer_of bits r)) keeps.finished ∙ holds.apart r (reach_same reaches m k trees mid_same whole.stay r there)
  ]

  -- ---- what the commit asks for
  module _ (s : ℕ) (shape_is : s ≡ shape) where
    pub mid_unit : mid.unit ≡ false
    mid_unit = keeps.unit ∙ holds.unit

    pub mid_lawful : IsLawfulImage s k root
    mid_lawful = subst (λ t. IsLawfulImage t k root) (sym shape_is) mid_image.lawful

    pub mid_whole : IsWhole bits mid (attr_reaches s k root)
    mid_whole = subst (λ t. IsWhole bits mid (attr_reaches t k root)) (sym shape_is)
        (reached_whole bits mid k (attr_reaches shape k root) (entries (root_entries root) ∷ parts_of trees) mid_owns reached_is_used owned_is_reached none_finished)

    -- ---- what it makes
    module _ (new : Ledger H) (n : Records) (answer : Stored) (adds : AddsCommit mid.work.commits new.work.commits (next_image attr_reaches s k root))
        (stores : StoresCommit bits mid new (next_image attr_reaches s k root) answer) (records : n ≡ words_at (next_image attr_reaches s k root)) where
      abbrev image : Image
      image = image_of (attr_reaches shape k root) k root

      image_is : next_image attr_reaches s k root ≡ image
      image_is = ap (λ t. next_image attr_reaches t k root) shape_is

      stored : StoresCommit bits mid new image answer
      stored = subst (λ i. StoresCommit bits mid new i answer) image_is stores

      last_is : last_image new.work.commits ≡ image
      last_is = adds.image_is ∙ image_is

      stay : AllStay (entries (root_entries root) ∷ parts_of trees) k (words_at image)
      stay = reached_stay bits mid k (attr_reaches shape k root) (entries (root_entries root) ∷ parts_of trees) mid_owns reached_is_used owned_is_reached none_finished root

      image_same : AreSame k (words_at image) trees
      image_same = reached_same laws reaches k (words_at image) trees mid_fields.each
          (λ r there. reached_record bits mid k (attr_reaches shape k root) (entries (root_entries root) ∷ parts_of trees) mid_owns reached_is_used owned_is_reached none_finished root r
          (subst (Among r) (sym mid_image.reach) (inr there)))

      new_fields : AreFields (words_at image) fields trees
      new_fields = fields_stay k (words_at image) fields trees mid_fields image_same

      new_words : words_at image root ≡ root_record operations trees
      new_words =
          let there : SameAt (root ∷ []) k (words_at image) = subst (λ refs. SameAt refs k (words_at image)) (entries_some root makes.some) stay.0 in
          there.0 ∙ words_is

      new_owns : OwnsOutside bits new (words_at image) (entries (root_entries root) ∷ parts_of trees)
      new_owns = reached_owns bits mid k (attr_reaches shape k root) (entries (root_entries root) ∷ parts_of trees) mid_owns reached_is_used owned_is_reached none_finished root
          (attr_present shape k root mid_image.lawful) new answer stored

      new_refer : AllReferBeside new (words_at image) trees (entries (root_entries root) ∷ parts_of trees)
      new_refer = reached_moved reaches mid new k (words_at image) trees (entries (root_entries root) ∷ parts_of trees) (entries (root_entries root) ∷ parts_of trees) image_same mid_refer
          (λ r there less.
          let is = reached_uses bits mid k (attr_reaches shape k root) (entries (root_entries root) ∷ parts_of trees) mid_owns reached_is_used owned_is_reached none_finished root
          (attr_present shape k root mid_image.lawful) new answer stored r (subst (Among r) (sym mid_image.reach) (inr there)) in
          let stays = count-stays (entries (root_entries root) ∷ parts_of trees) k (words_at image) r stay in
          let few = uses-few mid r in
          omega arith)

      new_is : n ≡ words_at image
      new_is = records ∙ ap words_at image_is

      new_holds : HoldsAttributes bits new (words_at image) fields trees root
      new_holds = record { are_fields = new_fields; owns = new_owns; refer = new_refer; unit = stored.unit; apart = λ r among. ap (λ f. is_this f (buffer_of bits r)) stored.finished }

      same_table : table_at (words_at image) trees ≡ table_at m trees
      same_table = table_stays k (words_at image) trees image_same ∙ table_stays m k trees mid_same

      pub commits_attributes : CommitsAttributes bits fields trees operations old new m n root answer
      commits_attributes = record {
        mid = mid;
        prepares = keeps;
        stores = subst (λ i. StoresCommit bits mid new i answer) (sym last_is) stored;
        holds = subst (λ f. HoldsAttributes bits new f fields trees root) (sym new_is) new_holds;
        same = ap (λ f. table_at f trees) new_is ∙ same_table;
        stay = subst (λ (f : Records). AllStay (parts_of trees) m f) (sym new_is) (stay_then m k (words_at image) (parts_of trees) whole.stay stay.1);
        records = new_is ∙ ap words_at (sym last_is);
        root_is = ap (λ (i : Image). i.root) last_is;
        image = subst (λ (i : Image). IsImageOf operations trees shape (words_at i) root) (sym last_is) (image_at (words_at image) new_fields new_words);
        number = stored.number ∙ ap (λ n. n + 1) keeps.commits.last;
        last = adds.last ∙ ap (λ n. n + 1) keeps.commits.last;
        told = told_committed bits mid new image answer stored ∙ ap (λ t. told_after t image) keeps.told ∙ ap (told_after old.work.told) (sym last_is);
      }
