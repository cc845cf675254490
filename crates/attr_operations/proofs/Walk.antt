-- A document changed in one attribute after another.
use Rattle.std.proofs.Common.{◌≡◌, ◌≢◌, Bool, ℕ, suc, ◌<◌, ◌≤◌, List, [], ◌∷◌, length, set, Option, Some, option_map, sym, ap, subst, ◌∙◌, arith, inl, inr}
use Rattle.std.proofs.lemmas.Bool.{cases_eq}
use Rattle.std.specs.Prelude.{slice_get}
use Rattle.std.specs.List.{AllZip}
use Rattle.std.specs.Option.{IfSome}
use Rattle.list_lemmas.proofs.Options.{same_Some}
use Rattle.list_lemmas.proofs.Places.{slice_get-set_other}
use Rattle.list_lemmas.proofs.Each.{AllByRecursion-slice_get}
use Rattle.entry_ref.specs.Records.{Records}
use Rattle.store_api.specs.Ledgers.{Ledger}
use Rattle.store_api.specs.Parts.{Part, After, Owns, Turns, count_in, entries, uses}
use Rattle.store_api.specs.Units.{MayDo}
use Rattle.store_api.proofs.PartLemmas.{turns-same, turns-then}
use Rattle.attr_field.specs.Changes.{KeepsCopies}
use Rattle.attr_field.specs.Forms.{wants}
use Rattle.index_model.specs.Columns.{column_of, with_change}
use Rattle.image_format.specs.Tables.{AttributeTrees}
use Rattle.attr_types.proofs.TableLemmas.{Sound}
use Rattle.attr_types.specs.Lawful.{IsDocNumber}
use Rattle.attr_types.specs.Query.{items_in}
use Rattle.attr_types.specs.Table.{Table}
use Rattle.attr_types.specs.Value.{Document}
use Rattle.attr_types.specs.declared.field.Field.{Field}
use Rattle.attr_types.specs.declared.items.Item.{Item}
use Rattle.attr_operations.specs.Fields.{AllReferBeside, AreFields, ChangesFields, FitsFields, FlowsTrees, HaveForms, IsFieldAt, IsOfFormAt, KeepsWords, OwnsFields, StillRefer, column_in, part_of, parts_of, table_with}
use Rattle.attr_operations.specs.Views.{table_at}
use Rattle.attr_operations.proofs.Flowing.{all_same, all_step, may_unsealed, one_stays, step_set}
use Rattle.attr_operations.proofs.Referring.{IsSameAt, RefersAt, all_changed, changed_refers, stays_beside}
use Rattle.attr_operations.proofs.TreeLists.{all_from, get_set-same, rest_at, set_length}
use Rattle.attr_operations.proofs.PartLists.{stay_at, turn_at}
use Rattle.attr_operations.proofs.Columns.{FieldLaws, ArePartly, column_with, done_fields, done_table, partly_begins, sound_changed}

-- the change of one attribute's part
pub record ChangesPart {H : Type 0} (old new : Ledger H) (m n : Records) (a b : AttributeTrees) (doc : ℕ) (items : Option (List Item)) : Type 0 where
  pub is_field : IsFieldAt n b
  pub column_is : column_in n b ≡ with_change (column_in m a) doc items
  pub turns : Turns old new m n (part_of a ∷ []) (part_of b ∷ [])
  pub kind : b.kind ≡ a.kind
  pub refers : KeepsCopies old a.kind m n a.documents (part_of a ∷ []) b.documents b.dictionary
  pub flows : FlowsTrees old m n a b

-- one more of the trees
module _ (laws : FieldLaws) {H : Type 0} (now new : Ledger H) (m n : Records) (trees : List AttributeTrees) (before after : Table) (i : ℕ) (a b : AttributeTrees) (at : slice_get trees i ≡ Some a)
    (partly : ArePartly m trees before after i) (refers : AllReferBeside now m trees (parts_of trees)) (turned : After now new m n (parts_of trees) (parts_of (set trees i b)) (parts_of (rest_at trees i)))
    (is_field : IsFieldAt n b) (column_is : column_in n b ≡ column_of i after) where
  other : (j : ℕ) (c : AttributeTrees) → j ≢ i → slice_get trees j ≡ Some c → IsSameAt m n c
  other j c apart there = stays_beside laws m n c (AllByRecursion-slice_get (IsFieldAt m) trees j c partly.each there) now (parts_of trees)
      (AllByRecursion-slice_get (RefersAt now m (parts_of trees)) trees j c refers there)
      (stay_at trees i j c m n turned.stay there apart) turned.turns.kept

  field_at : (j : ℕ) (c : AttributeTrees) → slice_get (set trees i b) j ≡ Some c → IsFieldAt n c
  field_at j c there = elim (cases_eq j i) [
    | inl e ↦ subst (IsFieldAt n) (same_Some b c (sym (get_set-same trees i a b at) ∙ ap (slice_get (set trees i b)) (sym e) ∙ there)) is_field
    | inr apart ↦ (other j c apart (sym (slice_get-set_other trees i j b apart) ∙ there)).field_is
  ]

  column_at : (j : ℕ) (c : AttributeTrees) → j < suc i → slice_get (set trees i b) j ≡ Some c → column_in n c ≡ column_of j after
  column_at j c below there = elim (cases_eq j i) [
    | inl e ↦ (let same : b ≡ c = same_Some b c (sym (get_set-same trees i a b at) ∙ ap (slice_get (set trees i b)) (sym e) ∙ there) in
        subst (λ d. column_in n d ≡ column_of j after) same (column_is ∙ ap (λ k. column_of k after) (sym e)))
    | inr apart ↦ (let was = sym (slice_get-set_other trees i j b apart) ∙ there in (other j c apart was).column_is ∙ partly.done j c (omega arith) was)
  ]

  rest_at_place : (j : ℕ) (c : AttributeTrees) → suc i ≤ j → slice_get (set trees i b) j ≡ Some c → column_in n c ≡ column_of j before
  rest_at_place j c above there =
      let apart : j ≢ i = λ e. absurd (omega arith) in
      let was = sym (slice_get-set_other trees i j b apart) ∙ there in
      (other j c apart was).column_is ∙ partly.rest j c (omega arith) was

  pub partly_more : ArePartly n (set trees i b) before after (suc i)
  partly_more = record { each = all_from (IsFieldAt n) (set trees i b) field_at; done = column_at; rest = rest_at_place }

  -- the forms of the others, and of the changed one
  pub forms_more : (dense : Bool) → HaveForms dense m trees → IsOfFormAt dense n b → HaveForms dense n (set trees i b)
  forms_more dense forms here = all_from (IsOfFormAt dense n) (set trees i b) (λ j c there. elim (cases_eq j i) [
    | inl e ↦ subst (IsOfFormAt dense n) (same_Some b c (sym (get_set-same trees i a b at) ∙ ap (slice_get (set trees i b)) (sym e) ∙ there)) here
    | inr apart ↦ (let was = sym (slice_get-set_other trees i j b apart) ∙ there in
        (other j c apart was).form (wants dense c.kind) (AllByRecursion-slice_get (IsOfFormAt dense m) trees j c forms was))
  ])

  -- what the others refer to, and the changed one
  pub refer_more : b.kind ≡ a.kind → KeepsCopies now a.kind m n a.documents (part_of a ∷ []) b.documents b.dictionary → (p q : List Part) → AllReferBeside now m trees p
      → ((r : ℕ) → count_in r m p < uses now r → count_in r n q < uses new r) → AllReferBeside new n (set trees i b) q
  refer_more kind keeps p q refer free =
      all_changed now new m n trees i a b p q at refer
      (changed_refers laws m n a (AllByRecursion-slice_get (IsFieldAt m) trees i a partly.each at) now new b p q kind (AllByRecursion-slice_get (RefersAt now m p) trees i a refer at) keeps free)
      other free

-- the walk over all attributes
pub record IsPartway {H : Type 0} (begun now : Ledger H) (k m : Records) (fields : List Field) (trees next : List AttributeTrees) (after : Table) (i : ℕ) : Type 0 where
  pub sized : length next ≡ length fields
  pub partly : ArePartly m next (table_at k trees) after i
  pub owns : Owns now m (parts_of next)
  pub turns : Turns begun now k m (parts_of trees) (parts_of next)
  pub refers : AllReferBeside now m next (parts_of next)
  pub refer : StillRefer begun now k m trees next
  pub flows : AllZip (FlowsTrees begun k m) trees next

pub way_begins : {H : Type 0} (begun : Ledger H) (k : Records) (fields : List Field) (trees : List AttributeTrees) (after : Table) → AreFields k fields trees
    → OwnsFields begun k trees → IsPartway begun begun k k fields trees trees after 0
way_begins begun k fields trees after are owns = record {
  sized = are.sized;
  partly = partly_begins k fields trees after are;
  owns = owns.owns;
  turns = turns-same begun k (parts_of trees);
  refers = owns.refer;
  refer = λ others all. all;
  flows = all_same begun k trees;
}

pub way_more : (laws : FieldLaws) {H : Type 0} (begun now new : Ledger H) → MayDo begun now → (k m n : Records) (fields : List Field) (trees next : List AttributeTrees) (doc : ℕ)
    (document : Option Document) (i : ℕ) (a b : AttributeTrees) → Sound fields (table_at k trees) → slice_get next i ≡ Some a
    → IsPartway begun now k m fields trees next (table_with (table_at k trees) doc document) i
    → ChangesPart now new m n a b doc (option_map (λ d. items_in d i) document)
    → IsPartway begun new k n fields trees (set next i b) (table_with (table_at k trees) doc document) (suc i)
way_more laws begun now new may k m n fields trees next doc document i a b sound at way part =
    let turned = turn_at now new m n next i a b way.owns at part.turns in
    let column : column_in n b ≡ column_of i (table_with (table_at k trees) doc document) =
    part.column_is
    ∙ ap (λ column. with_change column doc (option_map (λ d. items_in d i) document)) (way.partly.rest i a (omega arith) at)
    ∙ sym (column_with fields (table_at k trees) doc i document sound.0) in
    let more = refer_more laws now new m n next (table_at k trees) (table_with (table_at k trees) doc document) i a b at way.partly way.refers turned part.is_field column part.kind part.refers in
    record {
      sized = set_length next i b ∙ way.sized;
      partly = partly_more laws now new m n next (table_at k trees) (table_with (table_at k trees) doc document) i a b at way.partly way.refers turned part.is_field column;
      owns = turned.owns;
      refers = more (parts_of next) (parts_of (set next i b)) way.refers (λ r less. let t = turned.turns.balance r in omega arith);
      refer = λ others all. more (entries others ∷ parts_of next) (entries others ∷ parts_of (set next i b)) (way.refer others all)
          (λ r less. let t = turned.turns.balance r in omega arith);
      flows = all_step begun now k m n trees next (set next i b) may way.flows (set_length next i b)
          (step_set now m n next i a b at part.flows (λ j c apart there. one_stays now m n c (stay_at next i j c m n turned.stay there apart)));
      turns = turns-then begun now new k m n (parts_of trees) (parts_of next) (parts_of (set next i b)) way.turns turned.turns;
    }

-- and the forms with it
pub way_forms : (laws : FieldLaws) (dense : Bool) {H : Type 0} (begun now new : Ledger H) (k m n : Records) (fields : List Field) (trees next : List AttributeTrees) (doc : ℕ)
    (document : Option Document) (i : ℕ) (a b : AttributeTrees) → Sound fields (table_at k trees) → slice_get next i ≡ Some a
    → IsPartway begun now k m fields trees next (table_with (table_at k trees) doc document) i
    → ChangesPart now new m n a b doc (option_map (λ d. items_in d i) document) → HaveForms dense m next → IsOfFormAt dense n b → HaveForms dense n (set next i b)
way_forms laws dense begun now new k m n fields trees next doc document i a b sound at way part forms here =
    let turned = turn_at now new m n next i a b way.owns at part.turns in
    let column : column_in n b ≡ column_of i (table_with (table_at k trees) doc document) =
    part.column_is
    ∙ ap (λ column. with_change column doc (option_map (λ d. items_in d i) document)) (way.partly.rest i a (omega arith) at)
    ∙ sym (column_with fields (table_at k trees) doc i document sound.0) in
    forms_more laws now new m n next (table_at k trees) (table_with (table_at k trees) doc document) i a b at way.partly way.refers turned part.is_field column dense forms here

pub way_ends : {H : Type 0} (begun now : Ledger H) → MayDo begun now → (k m : Records) (fields : List Field) (trees next : List AttributeTrees) (doc : ℕ) (document : Option Document)
    → KeepsWords begun now k m → 0 < length fields → Sound fields (table_at k trees) → IsDocNumber doc → IfSome document (FitsFields fields)
    → IsPartway begun now k m fields trees next (table_with (table_at k trees) doc document) (length fields)
    → ChangesFields fields begun now k m trees doc document next
way_ends begun now may k m fields trees next doc document words some sound number fits way =
    let after = table_with (table_at k trees) doc document in
    let partly = subst (ArePartly m next (table_at k trees) after) (sym way.sized) way.partly in
    record {
      are_fields = done_fields m fields next (table_at k trees) after partly some way.sized;
      table_is = done_table m fields next (table_at k trees) after partly some way.sized (sound_changed fields (table_at k trees) doc document sound number fits).0;
      turns = way.turns;
      owns = way.owns;
      refer = way.refer;
      flows = way.flows;
      unsealed = may_unsealed begun now may;
      words = words;
    }
