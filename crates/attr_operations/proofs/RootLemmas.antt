-- The words of a root record, and the record made in place of the one before.
use Rattle.std.proofs.Common.{◌≡◌, ℕ, zero, suc, ◌+◌, ◌*◌, ◌≤◌, Bool, List, [], ◌∷◌, ◌++◌, length, drop, true, Some, refl, sym, ap, subst, ◌∙◌, arith}
use Rattle.std.specs.Prelude.{slice_get}
use Rattle.std.proofs.lemmas.List.{append_assoc}
use Rattle.list_lemmas.proofs.Options.{same_Some}
use Rattle.entry_ref.specs.References.{buffer_of}
use Rattle.entry_ref.specs.Records.{Records, SameAt}
use Rattle.arena_api.specs.Works.{Sizes, free_count}
use Rattle.attr_field.specs.declared.roots.FieldRoots.{FieldRoots}
use Rattle.image_format.specs.Tables.{AttributeTrees}
use Rattle.image_format.specs.Words.{class_of}
use Rattle.attr_types.specs.declared.field.Field.{Field}
use Rattle.array_store.specs.Roots.{MakesRootRecord, root_entries}
use Rattle.array_store.proofs.RootLemmas.{entries_some, roots_part}
use Rattle.array_store.specs.Adding.{MakesOneOf}
use Rattle.store_api.specs.Calls.{Accepts, Undoes, Refuses}
use Rattle.store_api.specs.Ledgers.{Ledger, OfWidth, IsSettled, buffers_in, is_width, widths}
use Rattle.store_api.specs.Parts.{Owns, After, AllStay, entries, uses}
use Rattle.store_api.specs.Units.{MakesAtMost}
use Rattle.store_api.specs.declared.store.StoreError.{StoreError}
use Rattle.store_api.specs.declared.store.StoreError.TheVariants.{Full, Memory}
use Rattle.store_api.proofs.UnitLemmas.{unit-accepts, accept-stays}
use Rattle.attr_operations.specs.Calls.{RefusesUnit}
use Rattle.attr_operations.specs.Commits.{IsForWidth, RefusesRoot, roots_listed}
use Rattle.attr_operations.specs.Fields.{trees_of}
use Rattle.posting_store.proofs.RefusalLemmas.{of_one}
use Rattle.store_api.proofs.May.{may_do-same}
use Rattle.attr_operations.proofs.Units.{refused_among}

-- ---- the words
module _ {bits : ℕ} where
  listed_at : (ws : List ℕ) (roots : List (FieldRoots bits)) (i : ℕ) (root : FieldRoots bits) → slice_get roots i ≡ Some root
      → ((ws ++ root.documents ∷ []) ++ root.dictionary ∷ []) ++ roots_listed (drop (suc i) roots) ≡ ws ++ roots_listed (drop i roots)
  listed_at ws [] i root at = cc
  listed_at ws (first ∷ roots) zero root at =
      subst (λ (r : FieldRoots bits). ((ws ++ r.documents ∷ []) ++ r.dictionary ∷ []) ++ roots_listed roots ≡ ws ++ (first.documents ∷ first.dictionary ∷ roots_listed roots)) (same_Some first root at)
      (append_assoc (ws ++ first.documents ∷ []) (first.dictionary ∷ []) (roots_listed roots) ∙ append_assoc ws (first.documents ∷ []) (first.dictionary ∷ roots_listed roots))
  listed_at ws (first ∷ roots) (suc i) root at = listed_at ws roots i root at

  pub listed_more : (ws all : List ℕ) (roots : List (FieldRoots bits)) (i next : ℕ) (root : FieldRoots bits) → slice_get roots i ≡ Some root → next ≡ suc i
      → ws ++ roots_listed (drop i roots) ≡ all → ((ws ++ root.documents ∷ []) ++ root.dictionary ∷ []) ++ roots_listed (drop next roots) ≡ all
  listed_more ws all roots i next root at is before =
      ap (λ j. ((ws ++ root.documents ∷ []) ++ root.dictionary ∷ []) ++ roots_listed (drop j roots)) is ∙ listed_at ws roots i root at ∙ before

  pub listed_size : (roots : List (FieldRoots bits)) → length (roots_listed roots) ≡ 2 * length roots
  listed_size [] = refl
  listed_size (root ∷ roots) = let rest = listed_size roots in omega arith

  pub listed_trees : (fields : List Field) (roots : List (FieldRoots bits)) → length roots ≡ length fields
      → roots_listed roots ≡ Rattle.std.specs.List.flat_map (λ (a : AttributeTrees). a.documents ∷ a.dictionary ∷ []) (trees_of fields roots)
  listed_trees [] [] same = refl
  listed_trees [] (root ∷ roots) same = absurd (omega arith)
  listed_trees (field ∷ fields) [] same = refl
  listed_trees (field ∷ fields) (root ∷ roots) same = ap (λ ws. root.documents ∷ root.dictionary ∷ ws) (listed_trees fields roots (omega arith))

-- ---- the unit
module _ {H : Type 0} (old begun mid new : Ledger H) (m k n o : Records) (words : List ℕ) (before root : ℕ)
    (begins : begun ≡ record old { unit = true }) (records : k ≡ m) (owns : Owns old m (entries (root_entries before) ∷ [])) where
  pub begun_root : Owns begun k (entries (root_entries before) ∷ [])
  begun_root = record {
    each = λ r. let each = owns.each r in let same : uses begun r ≡ uses old r = ap (λ (l : Ledger H). uses l r) begins in omega arith;
  }

  module _ (bits : ℕ) (makes : MakesRootRecord bits begun mid k n words before root) (accepts : Accepts mid new n o) where
    whole : After old new m o (entries (root_entries before) ∷ []) (entries (root_entries root) ∷ []) []
    whole = unit-accepts old begun mid new m k n o (roots_part before) (roots_part root) owns begins records makes.turns accepts

    stays : AllStay (entries (root_entries root) ∷ []) n o
    stays = accept-stays old begun mid new m k n o (roots_part before) (roots_part root) owns begins records makes.turns accepts

    pub accepts_root : MakesRootRecord bits old new m o words before root
    accepts_root =
        let there : SameAt (root ∷ []) n o = subst (λ refs. SameAt refs n o) (entries_some root makes.some) stays.0 in
        record {
          some = makes.some;
          words_are = there.0 ∙ makes.words_are;
          unsealed = ap (λ (s : ℕ → Bool). s (buffer_of bits root)) accepts.sealed ∙ makes.unsealed;
          turns = whole.turns;
        }

-- where nothing was made no width has a buffer more, so that no buffer less is free
fewer_buffers : (f g : ℕ → OfWidth) (ws : List ℕ) → ((w : ℕ) → (g w).buffers ≤ (f w).buffers) → buffers_in g ws ≤ buffers_in f ws
fewer_buffers f g [] fewer = omega arith
fewer_buffers f g (w ∷ ws) fewer = let here = fewer w in let rest = fewer_buffers f g ws fewer in omega arith

abbrev IsCounted : {H : Type 0} → Ledger H → Type 0
IsCounted ledger = free_count ledger.work.buffer ledger.work.sizes.buffers + buffers_in ledger.of_width widths ≡ ledger.work.sizes.buffers

none_before : {H : Type 0} (old mid : Ledger H) → IsCounted old → IsCounted mid → mid.work.sizes ≡ old.work.sizes → ((c w : ℕ) → MakesAtMost c 0 (old.of_width w) (mid.of_width w))
    → free_count mid.work.buffer mid.work.sizes.buffers ≡ 0 → free_count old.work.buffer old.work.sizes.buffers ≡ 0
none_before old mid before after sizes none_made none =
    let fewer = fewer_buffers old.of_width mid.of_width widths (λ w. let most = (none_made 0 w).buffers in omega arith) in
    let same : mid.work.sizes.buffers ≡ old.work.sizes.buffers = ap (λ (s : Sizes). s.buffers) sizes in
    omega arith

-- a refusal: nothing was made, so an undo gives nothing to spare
pub refuses_root : {H : Type 0} (old mid new : Ledger H) (m o : Records) (width : ℕ) (e : StoreError) → is_width width ≡ true → IsSettled old m → Refuses (record old { unit = true }) mid width e
    → ((c w : ℕ) → MakesAtMost c 0 (old.of_width w) (mid.of_width w)) → Undoes mid new o → IsCounted old → IsCounted mid → mid.work.sizes ≡ old.work.sizes → RefusesRoot old new e
refuses_root old mid new m o width (Full w active held oldest) is settled refuses none_made undoes before after sizes =
    let unit : RefusesUnit old new (Full w active held oldest) =
    refused_among (λ v. Unit {0}) old mid new (Full w active held oldest) undoes.work undoes.counts
    (of_one (λ v. Unit {0}) (record old { unit = true }) (record old { unit = true }) mid width (Full w active held oldest) (may_do-same (record old { unit = true })) is tt refuses) in
    let fresh = (none_made 0 w).fresh in
    let none = settled.fresh w in
    let spare : (mid.of_width w).spare ≡ 0 = subst (λ v. (mid.of_width v).spare ≡ 0) (sym refuses.0) refuses.1.spare in
    let back = undoes.spare w in
    (unit, omega arith, none_before old mid before after sizes none_made refuses.1.free)
refuses_root old mid new m o width Memory is settled refuses none_made undoes before after sizes = tt

-- and the width is that of the root record
pub for_width : {H : Type 0} (begun mid : Ledger H) (width : ℕ) (e : StoreError) → Refuses begun mid width e → IsForWidth width e
for_width begun mid width (Full w active held oldest) refuses = refuses.0
for_width begun mid width Memory refuses = tt

pub for_fields : {bits : ℕ} (fields : List Field) (roots : List (FieldRoots bits)) (operations : ℕ) (e : StoreError) → length roots ≡ length fields
    → IsForWidth (class_of (length (operations ∷ roots_listed roots))) e → IsForWidth (class_of (1 + 2 * length fields)) e
for_fields fields roots operations e sized is =
    let words = listed_size roots in
    let same : length (operations ∷ roots_listed roots) ≡ 1 + 2 * length fields = omega (arith, words, sized) in
    subst (λ n. IsForWidth (class_of n) e) same is

pub one_of_fields : {H : Type 0} {bits : ℕ} (fields : List Field) (roots : List (FieldRoots bits)) (operations : ℕ) (old new : Ledger H) → length roots ≡ length fields
    → MakesOneOf (class_of (length (operations ∷ roots_listed roots))) old new → MakesOneOf (class_of (1 + 2 * length fields)) old new
one_of_fields fields roots operations old new sized made =
    let words = listed_size roots in
    let same : length (operations ∷ roots_listed roots) ≡ 1 + 2 * length fields = omega (arith, words, sized) in
    subst (λ n. MakesOneOf (class_of n) old new) same made
