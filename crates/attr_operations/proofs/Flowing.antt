-- What attributes take over of others that stood in their place, one by one.
use Rattle.std.proofs.Common.{◌≡◌, ◌≢◌, ℕ, zero, suc, Bool, List, [], ◌∷◌, length, set, true, Some, refl, sym, ap, subst, ◌∙◌, arith, inl, inr}
use Rattle.std.proofs.lemmas.Bool.{cases_eq}
use Rattle.std.specs.Prelude.{slice_get}
use Rattle.std.specs.List.{AllZip}
use Rattle.list_lemmas.proofs.Options.{same_Some}
use Rattle.list_lemmas.proofs.Places.{slice_get-set_other}
use Rattle.entry_ref.specs.References.{buffer_of}
use Rattle.entry_ref.specs.Records.{Records, SameAt}
use Rattle.tree_read.specs.ProofsForTrees.{SameAt-left, SameAt-right}
use Rattle.store_api.specs.Ledgers.{Ledger}
use Rattle.store_api.specs.Parts.{AllStay}
use Rattle.store_api.specs.Statuses.{Status, in_use}
use Rattle.store_api.specs.Units.{MayDo}
use Rattle.attr_field.specs.Documents.{documents_own}
use Rattle.store_api.proofs.Flows.{began-then}
use Rattle.attr_field.specs.Flows.{FlowsField}
use Rattle.attr_field.proofs.FlowLemmas.{field_flows_index, field_flows_same, field_flows_then}
use Rattle.image_format.specs.Tables.{AttributeTrees}
use Rattle.attr_types.specs.declared.kind.Kind.{Kind}
use Rattle.attr_types.specs.declared.kind.ValueType.{ValueType}
use Rattle.value_index.specs.Indexes.{index_reach}
use Rattle.value_index.proofs.IndexFlows.{flows_stay}
use Rattle.attr_operations.specs.Fields.{FlowsTrees, KeepsWords, MakesUnsealed, part_of, parts_of}
use Rattle.attr_operations.proofs.TreeLists.{get_set-same}

-- ---- one attribute
module _ {H : Type 0} (begun : Ledger H) where
  pub one_same : (m : Records) (a : AttributeTrees) → FlowsTrees begun m m a a
  one_same m a = record { kind = refl; type = refl; flows = field_flows_same a.kind a.type begun m a.documents a.dictionary }

  pub one_stays : (m n : Records) (a : AttributeTrees) → SameAt ((part_of a).reach m) m n → FlowsTrees begun m n a a
  one_stays m n a same = record {
    kind = refl;
    type = refl;
    flows =
        let own = SameAt-left m n (documents_own a.kind m a.documents) (index_reach m a.dictionary) same in
        let rest = SameAt-right m n (documents_own a.kind m a.documents) (index_reach m a.dictionary) same in
        field_flows_index a.kind a.type begun m n a.documents a.dictionary a.dictionary own (flows_stay a.type begun m n a.dictionary rest);
  }

  pub one_then : (mid : Ledger H) (k m n : Records) (a b c : AttributeTrees) → MayDo begun mid → FlowsTrees begun k m a b → FlowsTrees mid m n b c → FlowsTrees begun k n a c
  one_then mid k m n a b c may one two = record {
    kind = two.kind ∙ one.kind;
    type = two.type ∙ one.type;
    flows = field_flows_then a.kind a.type begun mid k m n a.documents a.dictionary b.documents b.dictionary c.documents c.dictionary may one.flows
        (subst (λ (kind : Kind). FlowsField kind a.type mid m n b.documents b.dictionary c.documents c.dictionary) one.kind
        (subst (λ (type : ValueType). FlowsField b.kind type mid m n b.documents b.dictionary c.documents c.dictionary) one.type two.flows));
  }

  -- what was in use when the unit began is told by what an undo gives back alone
  pub one_began : (old : Ledger H) (m n : Records) (a b : AttributeTrees) → begun.back ≡ old.back → FlowsTrees begun m n a b → FlowsTrees old m n a b
  one_began old m n a b same flows =
      let back : (r : ℕ) → in_use (old.back r) ≡ true → in_use (begun.back r) ≡ true = λ r began. ap (λ (s : ℕ → Status). in_use (s r)) same ∙ began in
      let f = flows.flows in
      record {
        kind = flows.kind;
        type = flows.type;
        flows = record {
          index = record {
            keys = λ r began among. f.index.keys r (back r began) among;
            nodes = λ r began among. f.index.nodes r (back r began) among;
            lists = λ value typed r began among. f.index.lists value typed r (back r began) among;
            blocks = λ value typed. record {
              blocks = record { each = λ k r there began. (f.index.blocks value typed).blocks.each k r there (back r began) };
              anew = λ changed r began among. (f.index.blocks value typed).anew changed r (back r began) among;
            };
          };
          nodes = λ r began among. f.nodes r (back r began) among;
          own = λ doc r began among. f.own doc r (back r began) among;
          refer = λ doc r began among. f.refer doc r (back r began) among;
        };
      }

-- ---- all of them
module _ {H : Type 0} (begun : Ledger H) where
  pub all_same : (m : Records) (trees : List AttributeTrees) → AllZip (FlowsTrees begun m m) trees trees
  all_same m [] = tt
  all_same m (a ∷ trees) = (one_same begun m a, all_same m trees)

  pub all_began : (old : Ledger H) (m n : Records) (trees next : List AttributeTrees) → begun.back ≡ old.back → AllZip (FlowsTrees begun m n) trees next → AllZip (FlowsTrees old m n) trees next
  all_began old m n [] [] same all = tt
  all_began old m n [] (b ∷ next) same all = absurd all
  all_began old m n (a ∷ trees) [] same all = absurd all
  all_began old m n (a ∷ trees) (b ∷ next) same all = (one_began begun old m n a b same all.0, all_began old m n trees next same all.1)

  -- one step after another, place by place
  pub all_step : (mid : Ledger H) (k m n : Records) (trees next last : List AttributeTrees) → MayDo begun mid → AllZip (FlowsTrees begun k m) trees next → length last ≡ length next
      → ((j : ℕ) (b c : AttributeTrees) → slice_get next j ≡ Some b → slice_get last j ≡ Some c → FlowsTrees mid m n b c) → AllZip (FlowsTrees begun k n) trees last
  all_step mid k m n [] [] [] may all sized step = tt
  all_step mid k m n [] [] (c ∷ last) may all sized step = absurd (omega arith)
  all_step mid k m n [] (b ∷ next) last may all sized step = absurd all
  all_step mid k m n (a ∷ trees) [] last may all sized step = absurd all
  all_step mid k m n (a ∷ trees) (b ∷ next) [] may all sized step = absurd (omega arith)
  all_step mid k m n (a ∷ trees) (b ∷ next) (c ∷ last) may all sized step = (
    one_then begun mid k m n a b c may all.0 (step 0 b c refl refl),
    all_step mid k m n trees next last may all.1 (omega arith) (λ j x y at there. step (suc j) x y at there),
  )

-- what a unit may do makes nothing in a sealed buffer
pub may_unsealed : {H : Type 0} (old new : Ledger H) → MayDo old new → MakesUnsealed old new
may_unsealed old new may = record {
  each = λ r used sealed. may.unsealed r used
      (ap (λ (s : ℕ → Bool). s (buffer_of new.bits r)) may.sealed ∙ ap (λ (bits : ℕ). old.sealed (buffer_of bits r)) may.bits ∙ sealed);
}

-- and what was in use when the unit began keeps its words
pub words_kept : {H : Type 0} (old new : Ledger H) (m n : Records) → MayDo old new → ((r : ℕ) → in_use (old.back r) ≡ true → m r ≡ old.back_records r)
    → ((r : ℕ) → in_use (new.back r) ≡ true → n r ≡ new.back_records r) → KeepsWords old new m n
words_kept old new m n may before after = record {
  each = λ r began used. after r (began-then old new may r began) ∙ ap (λ (f : Records). f r) may.back_records ∙ sym (before r began);
}

-- a step in which one is another
pub step_set : {H : Type 0} (mid : Ledger H) (m n : Records) (next : List AttributeTrees) (i : ℕ) (a b : AttributeTrees) → slice_get next i ≡ Some a → FlowsTrees mid m n a b
    → ((j : ℕ) (c : AttributeTrees) → j ≢ i → slice_get next j ≡ Some c → FlowsTrees mid m n c c)
    → (j : ℕ) (c d : AttributeTrees) → slice_get next j ≡ Some c → slice_get (set next i b) j ≡ Some d → FlowsTrees mid m n c d
step_set mid m n next i a b at here others j c d was there = elim (cases_eq j i) [
  | inl e ↦ (let first : a ≡ c = same_Some a c (sym at ∙ ap (slice_get next) (sym e) ∙ was) in
      let last : b ≡ d = same_Some b d (sym (get_set-same next i a b at) ∙ ap (slice_get (set next i b)) (sym e) ∙ there) in
      subst (λ (x : AttributeTrees). FlowsTrees mid m n x d) first (subst (λ (y : AttributeTrees). FlowsTrees mid m n a y) last here))
  | inr apart ↦ (let same : c ≡ d = same_Some c d (sym was ∙ sym (slice_get-set_other next i j b apart) ∙ there) in
      subst (λ (y : AttributeTrees). FlowsTrees mid m n c y) same (others j c apart was))
]

-- a step in which all stay
pub step_stays : {H : Type 0} (mid : Ledger H) (m n : Records) (trees : List AttributeTrees) → AllStay (parts_of trees) m n
    → (j : ℕ) (c d : AttributeTrees) → slice_get trees j ≡ Some c → slice_get trees j ≡ Some d → FlowsTrees mid m n c d
step_stays mid m n [] stay j c d at there = cc
step_stays mid m n (first ∷ trees) stay zero c d at there =
    subst (λ (x : AttributeTrees). FlowsTrees mid m n x d) (same_Some first c at)
    (subst (λ (y : AttributeTrees). FlowsTrees mid m n first y) (same_Some first d there) (one_stays mid m n first stay.0))
step_stays mid m n (first ∷ trees) stay (suc j) c d at there = step_stays mid m n trees stay.1 j c d at there
