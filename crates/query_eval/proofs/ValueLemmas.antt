-- A leaf of one value is met by that value alone.
use Rattle.std.proofs.Common.{sym, subst, ◌≡◌, ℕ, ℤ, List, [], ◌∷◌, ◌++◌, Option, Some, None, IfSome, cond, refl, ap, ◌∙◌}
use Rattle.std.proofs.Common.{Ordering, Less, Equal, Greater, is_eq}
use Rattle.std.proofs.lemmas.List.{append-nil}
use Rattle.std.specs.BTreeMap.{is_at}
use Rattle.std.specs.List.{AllByRecursion}
use Rattle.std.specs.List.Sorted.{IsStrictlySortedBy}
use Rattle.std.specs.Map.{keys_of, lookup}
use Rattle.std.specs.Option.{unwrap_or}
use Rattle.entry_ref.specs.Records.{Records}
use Rattle.tree_read.specs.Trees.{tree_pairs}
use Rattle.image_format.specs.Postings.{index_of, list_form, postings_at}
use Rattle.index_model.specs.Index.{Index, list_of}
use Rattle.attr_types.specs.ProofsForOrder.{value_cmp_total}
use Rattle.attr_types.specs.Value.{value_cmp}
use Rattle.attr_types.specs.declared.kind.ValueType.{ValueType}
use Rattle.attr_types.specs.declared.query.Leaf.TheVariants.{Is}
use Rattle.attr_types.specs.declared.value.Value.{Value}
use Rattle.index_model.specs.Leaves.{listed, meeting}
use Rattle.query_eval.proofs.PartLemmas.{keys_are}
use Rattle.query_eval.specs.Parts.{IsIndexed}
use Rattle.query_eval.specs.Weights.{word_list}

module _ (v : Value) where
  above : (w : Value) (vs : List Value) → value_cmp v w ≡ Equal → AllByRecursion (λ x. value_cmp w x ≡ Less) vs → AllByRecursion (λ x. value_cmp v x ≡ Less) vs
  above w [] is all = tt
  above w (x ∷ xs) is all = (value_cmp_total.congr v w x is ∙ all.0, above w xs is all.1)

  none_above : (es : Index) → AllByRecursion (λ x. value_cmp v x ≡ Less) (keys_of es) → meeting (Is v) es ≡ []
  none_above [] all = refl
  none_above (e ∷ es) all = ap (λ (o : Ordering). cond (is_eq o) (e ∷ meeting (Is v) es) (meeting (Is v) es)) all.0 ∙ none_above es all.1

  one_value : (es : Index) → IsStrictlySortedBy value_cmp (keys_of es) → listed (meeting (Is v) es) ≡ keys_of (list_of v es)
  unfolding IsStrictlySortedBy
  one_value [] up = refl
  one_value (e ∷ es) up =
      (elim (value_cmp v e.0) as (λ o. value_cmp v e.0 ≡ o
      → listed (cond (is_eq o) (e ∷ meeting (Is v) es) (meeting (Is v) es)) ≡ keys_of (unwrap_or (cond (is_eq o) (Some e.1) (lookup (is_at (value_cmp v)) es)) [])) [
        | Less ↦ λ is. one_value es up.1
        | Equal ↦ λ is. ap (λ (index : Index). keys_of e.1 ++ listed index) (none_above es (above e.0 (keys_of es) is up.0)) ∙ append-nil (keys_of e.1)
        | Greater ↦ λ is. one_value es up.1
      ]) refl

-- the documents of the values that meet it are those of its list
pub value_listed : (type : ValueType) (m : Records) (root : ℕ) (value : Value) → IsIndexed type m root
    → listed (meeting (Is value) (index_of type m root)) ≡ keys_of (list_of value (index_of type m root))
value_listed type m root value is =
    one_value value (index_of type m root) (subst (IsStrictlySortedBy value_cmp) (sym (keys_are type m (tree_pairs m root))) is.tree_is.ascends)

-- and so are those of its word, where it has one
pub word_listed : (m : Records) (word : Option ℕ) (list : List (ℕ × ℤ)) (docs : List ℕ) → word_list m word ≡ list → keys_of list ≡ docs
    → IfSome word (λ w. keys_of (postings_at m (list_form w)) ≡ docs)
word_listed m None list docs is same = tt
word_listed m (Some w) list docs is same = ap (λ (ps : List (ℕ × ℤ)). keys_of ps) is ∙ same
