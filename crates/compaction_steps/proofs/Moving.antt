-- One key moved in one attribute: what all attributes are in the unit, and after it.
use Rattle.std.proofs.Common.{◌≡◌, ◌≢◌, ℕ, zero, suc, ◌<◌, Bool, true, false, List, [], ◌∷◌, set, None, Some, true≢false, inl, inr, ◌⊎◌, refl, sym, ap, ap₂, subst, ◌∙◌, arith}
use Rattle.std.proofs.lemmas.Bool.{cases_eq}
use Rattle.std.specs.Prelude.{slice_get}
use Rattle.std.specs.List.{AllByRecursion}
use Rattle.list_lemmas.proofs.Options.{same_Some}
use Rattle.list_lemmas.proofs.Places.{slice_get-set_other}
use Rattle.list_lemmas.proofs.Each.{AllByRecursion-slice_get}
use Rattle.entry_ref.specs.References.{buffer_of}
use Rattle.entry_ref.specs.Records.{Records, Among, SameAt}
use Rattle.store_api.specs.Calls.{Accepts}
use Rattle.store_api.specs.Ledgers.{Ledger, is_this}
use Rattle.store_api.specs.Statuses.{Status}
use Rattle.store_api.specs.Parts.{After, AllStay, Owns, Part, Turns, count_in, entries, times, uses}
use Rattle.store_api.proofs.PartLemmas.{after, count-stays}
use Rattle.store_api.proofs.Times.{absent-times, among-times}
use Rattle.store_api.proofs.UnitLemmas.{turns-accept}
use Rattle.store_api.proofs.Uses.{uses-few}
use Rattle.attr_field.specs.Documents.{documents_refer}
use Rattle.image_format.specs.Tables.{AttributeTrees, HaveSameDocuments, columns_at, table_of_columns}
use Rattle.index_model.specs.Columns.{Column}
use Rattle.attr_types.specs.declared.field.Field.{Field}
use Rattle.value_index.specs.Indexes.{IsKey}
use Rattle.array_store.specs.Roots.{root_entries}
use Rattle.attr_operations.specs.Fields.{AllReferBeside, AreFields, HoldsAttributes, IsFieldAt, OwnsOutside, column_in, part_of, parts_of}
use Rattle.attr_operations.specs.Views.{table_at}
use Rattle.attr_operations.proofs.Columns.{FieldLaws}
use Rattle.attr_operations.proofs.PartLists.{count_at, count_set, stay_at}
use Rattle.attr_operations.proofs.Referring.{AreSame, IsSameAt, RefersAt, all_changed, all_moved, each_same, key_owned, stays_beside}
use Rattle.attr_operations.proofs.TreeLists.{all_from, get_set-same, rest_at, set_length}
use Rattle.attr_operations.proofs.Units.{fields_stay, table_stays}
use Rattle.compaction_steps.specs.Units.{KeepsKeys, OwnsBuffer}

-- a key moved in one attribute's part: the old copies that it left lie in the victim, and a clean move left none
pub record MovesPart {H : Type 0} (bits victim : ℕ) (clean : Type 0) (old new : Ledger H) (m n : Records) (a b : AttributeTrees) : Type 0 where
  pub left : List ℕ
  pub left_none : clean → left ≡ []
  pub left_in : (r : ℕ) → Among r left → buffer_of bits r ≡ victim
  pub is_field : IsFieldAt n b
  pub column_is : column_in n b ≡ column_in m a
  pub refers : (r : ℕ) → Among r (documents_refer b.kind n b.documents)
      → IsKey n b.dictionary r ⊎ (Among r left ⊎ (Among r (documents_refer a.kind m a.documents) × (count_in r m (part_of a ∷ []) < uses old r)))
  pub keys : KeepsKeys m n a b
  pub turns : Turns old new m n (part_of a ∷ []) (part_of b ∷ entries left ∷ [])

-- ---- columns with one replaced
columns_same : (m n : Records) (trees : List AttributeTrees) → ((j : ℕ) (c : AttributeTrees) → slice_get trees j ≡ Some c → column_in n c ≡ column_in m c)
    → columns_at n trees ≡ columns_at m trees
columns_same m n [] each = refl
columns_same m n (c ∷ trees) each =
    ap₂ (λ (x : Column) (xs : List Column). x ∷ xs) (each 0 c refl) (columns_same m n trees (λ j d there. each (suc j) d there))

columns_set : (m n : Records) (trees : List AttributeTrees) (i : ℕ) (a b : AttributeTrees) → slice_get trees i ≡ Some a → column_in n b ≡ column_in m a
    → ((j : ℕ) (c : AttributeTrees) → j ≢ i → slice_get trees j ≡ Some c → column_in n c ≡ column_in m c) → columns_at n (set trees i b) ≡ columns_at m trees
columns_set m n [] i a b at here others = cc
columns_set m n (c ∷ trees) zero a b at here others =
    ap₂ (λ (x : Column) (xs : List Column). x ∷ xs) (here ∙ ap (column_in m) (sym (same_Some c a at)))
    (columns_same m n trees (λ j d there. others (suc j) d (λ e. absurd (omega arith)) there))
columns_set m n (c ∷ trees) (suc i) a b at here others =
    ap₂ (λ (x : Column) (xs : List Column). x ∷ xs) (others 0 c (λ e. absurd (omega arith)) refl)
    (columns_set m n trees i a b at here (λ j d apart there. others (suc j) d (λ e. apart (omega arith)) there))

-- ---- in the unit
module _ (laws : FieldLaws) {H : Type 0} {clean : Type 0} (bits victim : ℕ) (begun mid : Ledger H) (m n : Records) (fields : List Field) (trees : List AttributeTrees) (root i : ℕ) (a b : AttributeTrees)
    (at : slice_get trees i ≡ Some a) (are : AreFields m fields trees) (owns : Owns begun m (entries (root_entries root) ∷ parts_of trees))
    (refer : AllReferBeside begun m trees (entries (root_entries root) ∷ parts_of trees)) (part : MovesPart bits victim clean begun mid m n a b) where
  abbrev before : List Part
  before = entries (root_entries root) ∷ parts_of trees

  abbrev behind : List Part
  behind = entries (root_entries root) ∷ parts_of (set trees i b)

  -- with the old copies
  abbrev whole : List Part
  whole = entries part.left ∷ entries (root_entries root) ∷ parts_of (set trees i b)

  turned : After begun mid m n before whole (entries (root_entries root) ∷ parts_of (rest_at trees i))
  turned = after begun mid m n (part_of a ∷ []) (part_of b ∷ entries part.left ∷ []) (entries (root_entries root) ∷ parts_of (rest_at trees i)) before whole owns part.turns
      (λ k r. let e = count_at trees i a k r at in omega arith)
      (λ k r. let e = count_set trees i a b k r at in omega arith)

  pub other_stays : (j : ℕ) (c : AttributeTrees) → j ≢ i → slice_get trees j ≡ Some c → SameAt ((part_of c).reach m) m n
  other_stays j c apart there = stay_at trees i j c m n turned.stay.1 there apart

  other : (j : ℕ) (c : AttributeTrees) → j ≢ i → slice_get trees j ≡ Some c → IsSameAt m n c
  other j c apart there =
      stays_beside laws m n c (AllByRecursion-slice_get (IsFieldAt m) trees j c are.each there) begun before
      (AllByRecursion-slice_get (RefersAt begun m before) trees j c refer there) (other_stays j c apart there) turned.turns.kept

  -- the attribute moved refers to keys, or to old copies beside all parts
  here_refers : RefersAt mid n behind b
  here_refers = record {
    each = λ r among. elim (part.refers r among) [
      | inl key ↦ inl key
      | inr out ↦ elim out [
        | inl left ↦ inr (let some = among-times r part.left left in let few = turned.owns.each r in omega arith)
        | inr was ↦ elim ((AllByRecursion-slice_get (RefersAt begun m before) trees i a refer at).each r was.0) [
          | inl key ↦ (let some = key_owned laws m n a (AllByRecursion-slice_get (IsFieldAt m) trees i a are.each at) r key in
              let few = uses-few begun r in let less = was.1 in absurd (omega arith))
          | inr beside ↦ inr (let t = turned.turns.balance r in omega arith)
        ]
      ]
    ];
  }

  pub mid_refer : AllReferBeside mid n (set trees i b) behind
  mid_refer = all_changed begun mid m n trees i a b before behind at refer here_refers other (λ r less. let t = turned.turns.balance r in omega arith)

  mid_fields : AllByRecursion (IsFieldAt n) (set trees i b)
  mid_fields = all_from (IsFieldAt n) (set trees i b) (λ j c there. elim (cases_eq j i) [
    | inl e ↦ subst (IsFieldAt n) (same_Some b c (sym (get_set-same trees i a b at) ∙ ap (slice_get (set trees i b)) (sym e) ∙ there)) part.is_field
    | inr apart ↦ (other j c apart (sym (slice_get-set_other trees i j b apart) ∙ there)).field_is
  ])

  mid_columns : columns_at n (set trees i b) ≡ columns_at m trees
  mid_columns = columns_set m n trees i a b at part.column_is (λ j c apart there. (other j c apart there).column_is)

  pub mid_are : AreFields n fields (set trees i b)
  mid_are = record {
    some = are.some;
    sized = set_length trees i b ∙ are.sized;
    each = mid_fields;
    documents = subst HaveSameDocuments (sym mid_columns) are.documents;
  }

  -- ---- and after it
  module _ (new : Ledger H) (o : Records) (accepts : Accepts mid new n o) where
    ended : Turns mid new n o [] []
    ended = turns-accept mid new n o accepts

    closed : After mid new n o whole whole whole
    closed = after mid new n o [] [] whole whole whole turned.owns ended (λ k r. omega arith) (λ k r. omega arith)

    pub all_stay : AllStay (parts_of (set trees i b)) n o
    all_stay = closed.stay.1.1

    are_same : AreSame n o (set trees i b)
    are_same = each_same laws mid n o (set trees i b) behind mid_fields mid_refer all_stay (λ r less. ended.kept r (omega arith))

    pub new_fields : AreFields o fields (set trees i b)
    new_fields = fields_stay n o fields (set trees i b) mid_are are_same

    pub new_table : table_at o (set trees i b) ≡ table_at m trees
    new_table = table_stays n o (set trees i b) are_same ∙ ap table_of_columns mid_columns

    new_refer : AllReferBeside new o (set trees i b) behind
    new_refer = all_moved mid new n o (set trees i b) behind behind are_same mid_refer
        (λ r less. let e = ended.balance r in let same = count-stays behind n o r closed.stay.1 in omega arith)

    module _ (old : Ledger H) (sealed : old.sealed victim ≡ true) (same_uses : (r : ℕ) → uses begun r ≡ uses old r) (outside : OwnsOutside bits old m before)
        (new_sealed : new.sealed ≡ old.sealed) where
      none_left : (r : ℕ) → new.sealed (buffer_of bits r) ≡ false → times r part.left ≡ 0
      none_left r unsealed = absent-times r part.left (λ among.
          true≢false (sym sealed ∙ ap old.sealed (sym (part.left_in r among)) ∙ ap (λ (s : ℕ → Bool). s (buffer_of bits r)) (sym new_sealed) ∙ unsealed))

      new_outside : OwnsOutside bits new o behind
      new_outside = record {
        each = λ r. let few = closed.owns.each r in omega arith;
        all = λ r unsealed.
            let was : old.sealed (buffer_of bits r) ≡ false = ap (λ (s : ℕ → Bool). s (buffer_of bits r)) (sym new_sealed) ∙ unsealed in
            let most = outside.all r was in
            let same = same_uses r in
            let t = turned.turns.balance r in
            let e = ended.balance r in
            let stays = count-stays whole n o r closed.stay in
            let none = none_left r unsealed in
            omega arith;
      }

      -- after a clean move, what is in use in the victim is owned if it was owned before
      pub new_owned : clean → ((r : ℕ) → new.status r ≡ Status.left → old.status r ≡ Status.left) → OwnsBuffer bits root old m trees victim
          → OwnsBuffer bits root new o (set trees i b) victim
      new_owned is left was = record {
        owned = λ r lies.
            let most = was.owned r lies in
            let same = same_uses r in
            let t = turned.turns.balance r in
            let e = ended.balance r in
            let stays = count-stays whole n o r closed.stay in
            let none : times r part.left ≡ 0 = ap (times r) (part.left_none is) in
            omega arith;
        none_left = λ r gone. was.none_left r (left r gone);
      }

      pub new_holds : new.unit ≡ false → new.finished ≡ None → HoldsAttributes bits new o fields (set trees i b) root
      new_holds unit finished = record {
        are_fields = new_fields;
        owns = new_outside;
        refer = new_refer;
        unit = unit;
        apart = λ r among. ap (λ f. is_this f (buffer_of bits r)) finished;
      }
