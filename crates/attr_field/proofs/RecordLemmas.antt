-- The items of documents where their records stay.
use Rattle.std.proofs.Common.{◌≡◌, ℕ, zero, suc, ℤ, List, [], ◌∷◌, ◌++◌, map, refl, sym, ap, subst, ◌∙◌}
use Rattle.std.specs.List.{flat_map, AllByRecursion}
use Rattle.entry_ref.specs.Records.{Records, SameAt}
use Rattle.tree_read.specs.ProofsForTrees.{SameAt-left, SameAt-right}
use Rattle.image_format.specs.Documents.{weighted, items_at, IsItemsRecord}
use Rattle.image_format.specs.Values.{value_of, IsValueRecord}
use Rattle.image_format.specs.Words.{IsStoredList}
use Rattle.attr_types.specs.Change.{most_items}
use Rattle.attr_types.specs.Lawful.{IsLawfulItems}
use Rattle.attr_types.specs.declared.items.Item.{Item}
use Rattle.attr_types.specs.declared.kind.Kind.{Kind}
use Rattle.attr_types.specs.declared.kind.Kind.TheVariants.{Single, Array, WeightedSet}
use Rattle.attr_types.specs.declared.kind.ValueType.{ValueType}
use Rattle.attr_field.specs.Documents.{items_own, items_refer, AreItemsAt}
use Rattle.attr_field.specs.Items.{item_of}

pub weighted-on : (kind : Kind) (m n : Records) (ref : ℕ) → SameAt (items_own kind ref) m n → weighted kind ref (n ref) ≡ weighted kind ref (m ref)
weighted-on kind m n zero same = refl
weighted-on Single m n (suc ref) same = refl
weighted-on Array m n (suc ref) same = ap (weighted Array (suc ref)) same.0
weighted-on WeightedSet m n (suc ref) same = ap (weighted WeightedSet (suc ref)) same.0

pub form-on : (kind : Kind) (m n : Records) (ref : ℕ) → SameAt (items_own kind ref) m n → IsItemsRecord kind ref (m ref) → IsItemsRecord kind ref (n ref)
form-on kind m n zero same form = tt
form-on Single m n (suc ref) same form = tt
form-on Array m n (suc ref) same form = subst (IsStoredList most_items) (sym same.0) form
form-on WeightedSet m n (suc ref) same form = subst (IsStoredList most_items) (sym same.0) form

pub own-nothing : (kind : Kind) → items_own kind 0 ≡ []
own-nothing kind = refl

abbrev item_by : ValueType → ℤ → List ℕ → Item
item_by type weight ws = record { value = value_of type ws; weight = weight }

module _ (type : ValueType) (m n : Records) where
  pub values-on : (es : List (ℕ × ℤ)) → SameAt (map (λ e. e.0) es) m n → AllByRecursion (λ e. IsValueRecord type (m e.0)) es → AllByRecursion (λ e. IsValueRecord type (n e.0)) es
  values-on [] same all = tt
  values-on (e ∷ es) same all = (subst (IsValueRecord type) (sym same.0) all.0, values-on es same.1 all.1)

  pub items-same : (es : List (ℕ × ℤ)) → SameAt (map (λ e. e.0) es) m n → map (item_of type n) es ≡ map (item_of type m) es
  items-same [] same = refl
  items-same (e ∷ es) same =
      ap (λ ws. item_by type e.1 ws ∷ map (item_of type n) es) same.0 ∙ ap (λ xs. item_of type m e ∷ xs) (items-same es same.1)

module _ (kind : Kind) (type : ValueType) (m n : Records) where
  pub items_at-on : (ref : ℕ) → SameAt (items_own kind ref) m n → SameAt (items_refer kind ref (m ref)) m n → items_at kind type n ref ≡ items_at kind type m ref
  items_at-on ref own refer =
      ap (map (item_of type n)) (weighted-on kind m n ref own) ∙ items-same type m n (weighted kind ref (m ref)) refer

  pub at-on : (ref : ℕ) → SameAt (items_own kind ref) m n → SameAt (items_refer kind ref (m ref)) m n → AreItemsAt kind type m ref → AreItemsAt kind type n ref
  at-on ref own refer it = record {
    records = (
      form-on kind m n ref own it.records.0,
      subst (AllByRecursion (λ e. IsValueRecord type (n e.0))) (sym (weighted-on kind m n ref own)) (values-on type m n (weighted kind ref (m ref)) refer it.records.1),
    );
    lawful = subst (IsLawfulItems kind) (sym (items_at-on ref own refer)) it.lawful;
  }

  -- a pair whose records stay
  abbrev pub Stays : ℕ × ℕ → Type 0
  Stays p = SameAt (items_own kind p.1) m n × SameAt (items_refer kind p.1 (m p.1)) m n

  pub pairs-stay : (ps : List (ℕ × ℕ)) → SameAt (flat_map (λ p. items_own kind p.1) ps) m n → SameAt (flat_map (λ p. items_refer kind p.1 (m p.1)) ps) m n → AllByRecursion Stays ps
  pairs-stay [] own refer = tt
  pairs-stay (p ∷ ps) own refer = (
    (
      SameAt-left m n (items_own kind p.1) (flat_map (λ q. items_own kind q.1) ps) own,
      SameAt-left m n (items_refer kind p.1 (m p.1)) (flat_map (λ q. items_refer kind q.1 (m q.1)) ps) refer,
    ),
    pairs-stay ps (SameAt-right m n (items_own kind p.1) (flat_map (λ q. items_own kind q.1) ps) own)
        (SameAt-right m n (items_refer kind p.1 (m p.1)) (flat_map (λ q. items_refer kind q.1 (m q.1)) ps) refer),
  )

  pub all-on : (ps : List (ℕ × ℕ)) → AllByRecursion Stays ps → AllByRecursion (λ p. AreItemsAt kind type m p.1) ps → AllByRecursion (λ p. AreItemsAt kind type n p.1) ps
  all-on [] stays all = tt
  all-on (p ∷ ps) stays all = (at-on p.1 stays.0.0 stays.0.1 all.0, all-on ps stays.1 all.1)

  pub same-on : (ps : List (ℕ × ℕ)) → AllByRecursion Stays ps → AllByRecursion (λ p. items_at kind type n p.1 ≡ items_at kind type m p.1) ps
  same-on [] stays = tt
  same-on (p ∷ ps) stays = (items_at-on p.1 stays.0.0 stays.0.1, same-on ps stays.1)

  pub refer-on : (ps : List (ℕ × ℕ)) → AllByRecursion Stays ps → flat_map (λ p. items_refer kind p.1 (n p.1)) ps ≡ flat_map (λ p. items_refer kind p.1 (m p.1)) ps
  refer-on [] stays = refl
  refer-on (p ∷ ps) stays =
      ap (λ es. map (λ e. e.0) es ++ flat_map (λ q. items_refer kind q.1 (n q.1)) ps) (weighted-on kind m n p.1 stays.0.0)
      ∙ ap (λ rs. items_refer kind p.1 (m p.1) ++ rs) (refer-on ps stays.1)
