-- What the documents of attributes refer to, keys and old copies: where the attributes stay, and where one is changed.
use Rattle.std.proofs.Common.{◌≡◌, ◌≢◌, Bool, ℕ, ◌<◌, List, [], ◌∷◌, set, Some, sym, ap, subst, ◌∙◌, arith, inl, inr}
use Rattle.std.proofs.lemmas.Bool.{cases_eq}
use Rattle.std.specs.Prelude.{slice_get}
use Rattle.std.specs.List.{AllByRecursion}
use Rattle.list_lemmas.proofs.Options.{same_Some}
use Rattle.entry_ref.proofs.Pairs.{same-from}
use Rattle.entry_ref.proofs.Among.{SameAt-among}
use Rattle.list_lemmas.proofs.Places.{slice_get-set_other}
use Rattle.list_lemmas.proofs.Each.{AllByRecursion-slice_get}
use Rattle.entry_ref.specs.Records.{Records, Among, SameAt}
use Rattle.store_api.specs.Ledgers.{Ledger}
use Rattle.store_api.specs.Parts.{Part, AllStay, count_in, times, uses}
use Rattle.store_api.proofs.Times.{among-times}
use Rattle.store_api.proofs.Uses.{uses-few}
use Rattle.tree_read.specs.ProofsForTrees.{SameAt-right}
use Rattle.attr_field.specs.Documents.{documents_own, documents_refer}
use Rattle.attr_field.specs.Changes.{KeepsCopies}
use Rattle.attr_field.specs.Fields.{RefersBeside}
use Rattle.attr_field.specs.Laws.{FieldIsSame}
use Rattle.image_format.specs.Tables.{AttributeTrees}
use Rattle.value_index.specs.Forms.{IsOfForm}
use Rattle.value_index.specs.Indexes.{index_reach, IsKey}
use Rattle.value_index.specs.Laws.{FormStays, NothingIsOfForm}
use Rattle.attr_field.specs.Forms.{wants}
use Rattle.attr_operations.specs.Fields.{AllReferBeside, HaveForms, IsFieldAt, part_of, parts_of}
use Rattle.attr_operations.proofs.Columns.{FieldLaws}
use Rattle.attr_operations.proofs.TreeLists.{all_from, get_set-same}

-- attributes in other records, the same
abbrev pub IsSameAt : Records → Records → AttributeTrees → Type 0
IsSameAt m n a = FieldIsSame a.kind a.type m n a.documents a.dictionary

abbrev pub AreSame : Records → Records → List AttributeTrees → Type 0
AreSame m n trees = AllByRecursion (IsSameAt m n) trees

-- so they are of the same form
pub forms_same : (dense : Bool) (m n : Records) (trees : List AttributeTrees) → AreSame m n trees → HaveForms dense m trees → HaveForms dense n trees
forms_same dense m n [] same forms = tt
forms_same dense m n (a ∷ trees) same forms = (same.0.form (wants dense a.kind) forms.0, forms_same dense m n trees same.1 forms.1)

pub forms_stay : FormStays → (dense : Bool) (m n : Records) (trees : List AttributeTrees) → AllStay (parts_of trees) m n → HaveForms dense m trees → HaveForms dense n trees
forms_stay stays dense m n [] stay forms = tt
forms_stay stays dense m n (a ∷ trees) stay forms = (
  stays a.type m n a.dictionary (SameAt-right m n (documents_own a.kind m a.documents) (index_reach m a.dictionary) stay.0) (wants dense a.kind) forms.0,
  forms_stay stays dense m n trees stay.1 forms.1,
)

-- attributes without documents
pub forms_none : NothingIsOfForm → (dense : Bool) (m : Records) (trees : List AttributeTrees) → AllByRecursion (λ (a : AttributeTrees). a.dictionary ≡ 0) trees → HaveForms dense m trees
forms_none nothing dense m [] all = tt
forms_none nothing dense m (a ∷ trees) all = (
  subst (λ (root : ℕ). IsOfForm (wants dense a.kind) a.type m root) (sym all.0) (nothing (wants dense a.kind) a.type m),
  forms_none nothing dense m trees all.1,
)

-- what one refers to beside some parts
abbrev pub RefersAt : {H : Type 0} → Ledger H → Records → List Part → AttributeTrees → Type 0
RefersAt ledger m parts a = RefersBeside ledger a.kind m a.documents a.dictionary parts

-- ---- one attribute
module _ (laws : FieldLaws) (m n : Records) (a : AttributeTrees) (is : IsFieldAt m a) where
  pub key_owned : (r : ℕ) → IsKey m a.dictionary r → 0 < times r ((part_of a).reach m)
  key_owned r key = among-times r ((part_of a).reach m) (laws.keys a m r is key)

  -- it stays where its part stays, and what none of these parts own
  pub stays_beside : {H : Type 0} (ledger : Ledger H) (parts : List Part) → RefersAt ledger m parts a → SameAt ((part_of a).reach m) m n
      → ((r : ℕ) → count_in r m parts < uses ledger r → n r ≡ m r) → IsSameAt m n a
  stays_beside ledger parts refers stay free =
      let refer = same-from (documents_refer a.kind m a.documents) m n (λ r among. elim (refers.each r among) [
        | inl key ↦ SameAt-among m n ((part_of a).reach m) stay r (laws.keys a m r is key)
        | inr out ↦ free r out
      ]) in
      laws.stays a m n stay refer is

  -- another in its place refers to keys, or to what it referred to and did not own
  pub changed_refers : {H : Type 0} (old new : Ledger H) (b : AttributeTrees) (p q : List Part) → b.kind ≡ a.kind → RefersAt old m p a
      → KeepsCopies old a.kind m n a.documents (part_of a ∷ []) b.documents b.dictionary
      → ((r : ℕ) → count_in r m p < uses old r → count_in r n q < uses new r) → RefersAt new n q b
  changed_refers old new b p q kind refers keeps free = subst (λ k. RefersBeside new k n b.documents b.dictionary q) (sym kind) (record {
    each = λ r among. elim (keeps.each r among) [
      | inl key ↦ inl key
      | inr out ↦ elim (refers.each r out.0) [
        | inl key ↦ (let some = key_owned r key in let few = uses-few old r in let less = out.1 in absurd (omega arith))
        | inr beside ↦ inr (free r beside)
      ]
    ];
  })

-- the same attribute, in another ledger and beside other parts
pub refers_moved : {H : Type 0} (old new : Ledger H) (m n : Records) (a : AttributeTrees) (p q : List Part) → IsSameAt m n a → RefersAt old m p a
    → ((r : ℕ) → count_in r m p < uses old r → count_in r n q < uses new r) → RefersAt new n q a
refers_moved old new m n a p q same refers free = record {
  each = λ r among. elim (refers.each r (subst (Among r) same.refers among)) [
    | inl key ↦ inl (same.keys r key)
    | inr out ↦ inr (free r out)
  ];
}

-- ---- all of them
pub each_same : (laws : FieldLaws) {H : Type 0} (ledger : Ledger H) (m n : Records) (trees : List AttributeTrees) (parts : List Part) → AllByRecursion (IsFieldAt m) trees
    → AllReferBeside ledger m trees parts → AllStay (parts_of trees) m n → ((r : ℕ) → count_in r m parts < uses ledger r → n r ≡ m r) → AreSame m n trees
each_same laws ledger m n [] parts each refer stay free = tt
each_same laws ledger m n (a ∷ trees) parts each refer stay free =
    (stays_beside laws m n a each.0 ledger parts refer.0 stay.0 free, each_same laws ledger m n trees parts each.1 refer.1 stay.1 free)

pub all_moved : {H : Type 0} (old new : Ledger H) (m n : Records) (trees : List AttributeTrees) (p q : List Part) → AreSame m n trees → AllReferBeside old m trees p
    → ((r : ℕ) → count_in r m p < uses old r → count_in r n q < uses new r) → AllReferBeside new n trees q
all_moved old new m n [] p q same refer free = tt
all_moved old new m n (a ∷ trees) p q same refer free =
    (refers_moved old new m n a p q same.0 refer.0 free, all_moved old new m n trees p q same.1 refer.1 free)

-- in the same records
one_weaker : {H : Type 0} (old new : Ledger H) (m : Records) (a : AttributeTrees) (p q : List Part) → RefersAt old m p a
    → ((r : ℕ) → count_in r m p < uses old r → count_in r m q < uses new r) → RefersAt new m q a
one_weaker old new m a p q refers free = record {
  each = λ r among. elim (refers.each r among) [
    | inl key ↦ inl key
    | inr out ↦ inr (free r out)
  ];
}

pub all_weaker : {H : Type 0} (old new : Ledger H) (m : Records) (trees : List AttributeTrees) (p q : List Part) → AllReferBeside old m trees p
    → ((r : ℕ) → count_in r m p < uses old r → count_in r m q < uses new r) → AllReferBeside new m trees q
all_weaker old new m [] p q refer free = tt
all_weaker old new m (a ∷ trees) p q refer free = (one_weaker old new m a p q refer.0 free, all_weaker old new m trees p q refer.1 free)

-- one of them is another, and the others are the same
pub all_changed : {H : Type 0} (old new : Ledger H) (m n : Records) (trees : List AttributeTrees) (i : ℕ) (a b : AttributeTrees) (p q : List Part) → slice_get trees i ≡ Some a
    → AllReferBeside old m trees p → RefersAt new n q b → ((j : ℕ) (c : AttributeTrees) → j ≢ i → slice_get trees j ≡ Some c → IsSameAt m n c)
    → ((r : ℕ) → count_in r m p < uses old r → count_in r n q < uses new r) → AllReferBeside new n (set trees i b) q
all_changed old new m n trees i a b p q at refer here others free = all_from (RefersAt new n q) (set trees i b) (λ j c there. elim (cases_eq j i) [
  | inl e ↦ subst (RefersAt new n q) (same_Some b c (sym (get_set-same trees i a b at) ∙ ap (slice_get (set trees i b)) (sym e) ∙ there)) here
  | inr apart ↦ (let was = sym (slice_get-set_other trees i j b apart) ∙ there in
      refers_moved old new m n c p q (others j c apart was) (AllByRecursion-slice_get (RefersAt old m p) trees j c refer was) free)
])
