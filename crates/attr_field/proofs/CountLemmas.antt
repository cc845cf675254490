-- How many records the steps of a change make.
use Rattle.std.proofs.Common.{◌≡◌, ℕ, ℤ, ◌+◌, ◌*◌, ◌^◌, ◌<◌, ◌≤◌, Bool, true, false, cond, nat_eq, not, List, [], ◌∷◌, length, Option, Some, None, refl, sym, ap, subst, ◌∙◌, arith}
use Rattle.std.proofs.lemmas.Bool.{true≢false}
use Rattle.std.proofs.lemmas.List.{length-map}
use Rattle.std.proofs.lemmas.List.Sums.{sum_by-cons}
use Rattle.std.specs.Option.{is_some}
use Rattle.entry_ref.specs.Records.{Records}
use Rattle.store_api.specs.Ledgers.{Ledger}
use Rattle.store_api.specs.Units.{MayDo, MakesWithin}
use Rattle.store_api.proofs.May.{may_do-then}
use Rattle.tree_read.specs.Trees.{tree_pairs}
use Rattle.frozen_btree.specs.Changes.{levels}
use Rattle.frozen_btree.specs.Makes.{CountsNodes}
use Rattle.attr_field.specs.DocumentsChanges.{documents_most}
use Rattle.attr_field.specs.Documents.{IsDocuments}
use Rattle.attr_field.specs.Items.{items_record}
use Rattle.image_format.specs.Documents.{column_at, items_at}
use Rattle.index_model.specs.Changes.{settled, IsBetween}
use Rattle.index_model.specs.Columns.{Column, documents_with}
use Rattle.index_model.specs.Index.{Index, IsIndexOf, list_of}
use Rattle.attr_types.specs.declared.kind.Kind.{Kind}
use Rattle.attr_types.specs.declared.kind.ValueType.{ValueType}
use Rattle.attr_types.specs.declared.value.Value.{Value}
use Rattle.value_index.proofs.CountLemmas.{within_more, within_nodes}
use Rattle.value_index.specs.Changes.{nodes_most}
use Rattle.value_index.specs.Counts.{added_forms, added_records, besides, by_width, gone_count, gone_forms, gone_records, is_added, is_gone, put_forms, put_records, taken_forms, taken_records, value_nodes, walk_records}
use Rattle.value_index.proofs.WalksCountLemmas.{besides_more, besides_none, besides_then, levels_few, width_more}
use Rattle.value_index.proofs.LevelLemmas.{levels_low}
use Rattle.attr_field.specs.Counts.{entry_weight, field_forms, field_nodes, field_records, lost_values, low_nodes, new_values}

abbrev Docs : Type 0
Docs = List (ℕ × ℤ)

-- ---- the same lists make the same
walk_same : (changes : Value × ℤ → Bool) (f h : Value × ℤ → ℕ → ℕ) (w : ℕ) → ((e : Value × ℤ) → changes e ≡ true → f e w ≡ h e w) → (es : List (Value × ℤ))
    → walk_records changes f es w ≡ walk_records changes h es w
walk_same changes f h w same [] = refl
walk_same changes f h w same (e ∷ es) =
    let here = told (changes e) refl in
    let rest = walk_same changes f h w same es in
    let a = sum_by-cons (λ (x : Value × ℤ). cond (changes x) (f x w) 0) e es in
    let b = sum_by-cons (λ (x : Value × ℤ). cond (changes x) (h x w) 0) e es in
    omega (arith, here, rest, a, b)
  where
    told : (t : Bool) → changes e ≡ t → cond (changes e) (f e w) 0 ≡ cond (changes e) (h e w) 0
    told true is = ap (λ x. cond (changes e) x 0) (same e is)
    told false is = ap (λ t. cond t (f e w) 0) is ∙ sym (ap (λ t. cond t (h e w) 0) is)

gone_none : (o : Option ℤ) → not (is_some o) ≡ true → o ≡ None
gone_none None is = refl
gone_none (Some x) is = absurd (true≢false (sym is))

module _ (column : Column) (start : Index) (doc : ℕ) (of : IsIndexOf column start) where
  pub added_same : (old : Value → Option ℤ) (es : List (Value × ℤ)) (w : ℕ)
      → added_records (λ v. list_of v start) doc old es w ≡ added_records (λ v. documents_with v column) doc old es w
  added_same old es w =
      walk_same (is_added old) (put_records (λ v. list_of v start) doc) (put_records (λ v. documents_with v column) doc) w
      (λ e changed. ap (λ (docs : Docs). put_records (λ v. docs) doc e w) (of.lists e.0)) es

  pub added_forms_same : (dense : Bool) (old : Value → Option ℤ) (es : List (Value × ℤ)) (w : ℕ)
      → added_forms dense (λ v. list_of v start) doc old es w ≡ added_forms dense (λ v. documents_with v column) doc old es w
  added_forms_same dense old es w =
      walk_same (is_added old) (put_forms dense (λ v. list_of v start) doc) (put_forms dense (λ v. documents_with v column) doc) w
      (λ e changed. ap (λ (docs : Docs). put_forms dense (λ v. docs) doc e w) (of.lists e.0)) es

  -- after the walk over the new values
  module _ (new : Value → Option ℤ) (middle : Index) (added : IsBetween start doc new (λ v. None) middle) where
    gone_list : (value : Value) → new value ≡ None → list_of value middle ≡ documents_with value column
    gone_list value none = added.lists value ∙ ap (λ (o : Option ℤ). settled o None doc (list_of value start)) none ∙ of.lists value

    pub gone_same : (es : List (Value × ℤ)) (w : ℕ) → gone_records (λ v. list_of v middle) doc new es w ≡ gone_records (λ v. documents_with v column) doc new es w
    gone_same es w =
        walk_same (is_gone new) (taken_records (λ v. list_of v middle) doc) (taken_records (λ v. documents_with v column) doc) w
        (λ e changed. ap (λ (docs : Docs). taken_records (λ v. docs) doc e w) (gone_list e.0 (gone_none (new e.0) changed))) es

    pub gone_forms_same : (dense : Bool) (es : List (Value × ℤ)) (w : ℕ)
        → gone_forms dense (λ v. list_of v middle) doc new es w ≡ gone_forms dense (λ v. documents_with v column) doc new es w
    gone_forms_same dense es w =
        walk_same (is_gone new) (taken_forms dense (λ v. list_of v middle) doc) (taken_forms dense (λ v. documents_with v column) doc) w
        (λ e changed. ap (λ (docs : Docs). taken_forms dense (λ v. docs) doc e w) (gone_list e.0 (gone_none (new e.0) changed))) es

pub same_within : {H : Type 0} (a b : Ledger H) (nodes : ℕ) (f h p q : ℕ → ℕ) → ((w : ℕ) → f w ≡ h w) → ((w : ℕ) → p w ≡ q w) → MakesWithin a b (besides (by_width nodes f) p)
    → MakesWithin a b (besides (by_width nodes h) q)
same_within a b nodes f h p q same form made =
    besides_more a b nodes nodes f h p q (omega arith) (λ w. let is = same w in omega (arith, is)) (λ w. let is = form w in omega (arith, is)) made

-- ---- the document's entry
pub few_entry : {H : Type 0} (a b : Ledger H) (m : Records) (root : ℕ) (kind : Kind) (count : ℕ) → MakesWithin a b (documents_most kind count (2 * levels m root + 1)) → MakesWithin a b (documents_most kind count 17)
few_entry a b m root kind count made =
    width_more a b (2 * levels m root + 1) 17 (items_record kind count) (items_record kind count) (let few = levels_few m root in omega arith) (λ w. omega arith) made

nodes_by : (h n w : ℕ) → 2 * h + 1 ≤ n → nodes_most h w ≤ by_width n (λ v. 0) w
nodes_by h n w few = told (nat_eq w 34)
  where
    told : (t : Bool) → cond t (2 * h + 1) 0 ≤ cond t n 0
    told true = few
    told false = omega arith

pub low_taken : {H : Type 0} (a b : Ledger H) (m : Records) (root most : ℕ) → levels m root ≤ most → CountsNodes a b (levels m root + 1) → MakesWithin a b (by_width (2 * most + 1) (λ w. 0))
low_taken a b m root most low counts =
    within_more a b (nodes_most (levels m root)) (by_width (2 * most + 1) (λ w. 0)) (λ w. nodes_by (levels m root) (2 * most + 1) w (omega arith))
    (within_nodes a b (levels m root) (levels m root + 1) (omega arith) counts)

pub few_taken : {H : Type 0} (a b : Ledger H) (m : Records) (root : ℕ) → CountsNodes a b (levels m root + 1) → MakesWithin a b (by_width 17 (λ w. 0))
few_taken a b m root counts = low_taken a b m root 8 (levels_few m root) counts

pub documents_low : (kind : Kind) (type : ValueType) (m : Records) (root most : ℕ) → IsDocuments kind type m root → 0 < most → length (column_at kind type m root) < 2 * 8 ^ most
    → levels m root ≤ most
documents_low kind type m root most is some few =
    levels_low m root most is.map_is.tree_is.node some
    (subst (λ n. n < 2 * 8 ^ most) (length-map (tree_pairs m root) (λ (p : ℕ × ℕ). (p.0, items_at kind type m p.1))) few)

pub low_entry : {H : Type 0} (a b : Ledger H) (m : Records) (root : ℕ) (kind : Kind) (count most : ℕ) → levels m root ≤ most → MakesWithin a b (documents_most kind count (2 * levels m root + 1))
    → MakesWithin a b (documents_most kind count (2 * most + 1))
low_entry a b m root kind count most low made =
    width_more a b (2 * levels m root + 1) (2 * most + 1) (items_record kind count) (items_record kind count) (omega arith) (λ w. omega arith) made

-- ---- three steps one after another, of which the last may be missing, or the last two
first_of : (x e y : ℕ) → x ≤ x + e + y
first_of x e y = omega arith

two_of : (x e y : ℕ) → x + e ≤ x + e + y
two_of x e y = omega arith

left_of : (p q : ℕ) → p ≤ p + q
left_of p q = omega arith

right_of : (p q : ℕ) → q ≤ p + q
right_of p q = omega arith

-- what lists need besides is made by the first and by the last
module _ {H : Type 0} (x e y : ℕ) (f h k p q : ℕ → ℕ) (a b c d : Ledger H) where
  abbrev all_three : ℕ → ℕ
  all_three = besides (by_width (x + e + y) (λ w. f w + h w + k w)) (λ w. p w + q w)

  abbrev both_forms : ℕ → ℕ
  both_forms w = p w + q w

  pub one_step : MakesWithin a b (besides (by_width x f) p) → MakesWithin a b all_three
  one_step made = besides_more a b x (x + e + y) f (λ w. f w + h w + k w) p both_forms (first_of x e y) (λ w. first_of (f w) (h w) (k w)) (λ w. left_of (p w) (q w)) made

  two_made : MayDo a b → MakesWithin a b (besides (by_width x f) p) → MakesWithin b c (by_width e h) → MakesWithin a c (besides (by_width (x + e) (λ w. f w + h w)) (λ w. p w + 0))
  two_made may first second = besides_then a b c x e f h p (λ w. 0) may first (besides_none b c (by_width e h) (λ w. 0) second)

  pub two_steps : MayDo a b → MakesWithin a b (besides (by_width x f) p) → MakesWithin b c (by_width e h) → MakesWithin a c all_three
  two_steps may first second =
      besides_more a c (x + e) (x + e + y) (λ w. f w + h w) (λ w. f w + h w + k w) (λ w. p w + 0) both_forms (two_of x e y) (λ w. two_of (f w) (h w) (k w)) (λ w. omega arith)
      (two_made may first second)

  pub three_steps : MayDo a b → MayDo a c → MakesWithin a b (besides (by_width x f) p) → MakesWithin b c (by_width e h) → MakesWithin c d (besides (by_width y k) q) → MakesWithin a d all_three
  three_steps may both first second third =
      besides_more a d (x + e + y) (x + e + y) (λ w. f w + h w + k w) (λ w. f w + h w + k w) (λ w. p w + 0 + q w) both_forms (omega arith) (λ w. omega arith) (λ w. omega arith)
      (besides_then a c d (x + e) y (λ w. f w + h w) k (λ w. p w + 0) q both (two_made may first second) third)

mid_of : (x e y : ℕ) → e ≤ x + e + y
mid_of x e y = omega arith

last_of : (x e y : ℕ) → e + y ≤ x + e + y
last_of x e y = omega arith

-- the last two alone, of which the first makes nodes
module _ {H : Type 0} (x e y : ℕ) (f h k p q : ℕ → ℕ) (b c d : Ledger H) where
  abbrev all_steps : ℕ → ℕ
  all_steps = besides (by_width (x + e + y) (λ w. f w + h w + k w)) (λ w. p w + q w)

  pub entry_step : MakesWithin b c (by_width e (λ w. 0)) → MakesWithin b c all_steps
  entry_step made =
      besides_more b c e (x + e + y) (λ w. 0) (λ w. f w + h w + k w) (λ w. 0) (λ w. p w + q w) (mid_of x e y) (λ w. omega arith) (λ w. omega arith) (besides_none b c (by_width e (λ w. 0)) (λ w. 0) made)

  pub last_steps : MayDo b c → MakesWithin b c (by_width e (λ w. 0)) → MakesWithin c d (besides (by_width y k) q) → MakesWithin b d all_steps
  last_steps may second third =
      besides_more b d (e + y) (x + e + y) (λ w. 0 + k w) (λ w. f w + h w + k w) (λ w. 0 + q w) (λ w. p w + q w) (last_of x e y) (λ w. omega arith) (λ w. omega arith)
      (besides_then b c d e y (λ w. 0) k (λ w. 0) q may (besides_none b c (by_width e (λ w. 0)) (λ w. 0) second) third)

-- ---- what a document's change makes
module _ {H : Type 0} (kind : Kind) (column : Column) (start : Index) (doc count : ℕ) (of : IsIndexOf column start) (old new : List (Value × ℤ)) (dense : Bool) (x e y : ℕ)
    (a b c d : Ledger H) where
  abbrev made_added : ℕ → ℕ
  made_added = added_records (λ v. documents_with v column) doc (entry_weight old) new

  abbrev made_gone : ℕ → ℕ
  made_gone = gone_records (λ v. documents_with v column) doc (entry_weight new) old

  abbrev formed_added : ℕ → ℕ
  formed_added = added_forms dense (λ v. documents_with v column) doc (entry_weight old) new

  abbrev formed_gone : ℕ → ℕ
  formed_gone = gone_forms dense (λ v. documents_with v column) doc (entry_weight new) old

  abbrev start_added : ℕ → ℕ
  start_added = besides (by_width x (added_records (λ v. list_of v start) doc (entry_weight old) new)) (added_forms dense (λ v. list_of v start) doc (entry_weight old) new)

  abbrev field_most : ℕ → ℕ
  field_most = besides (by_width (x + e + y) (field_records kind column doc count old new)) (field_forms dense column doc old new)

  adds_within : MakesWithin a b start_added → MakesWithin a b (besides (by_width x made_added) formed_added)
  adds_within made =
      same_within a b x (added_records (λ v. list_of v start) doc (entry_weight old) new) made_added (added_forms dense (λ v. list_of v start) doc (entry_weight old) new) formed_added
      (added_same column start doc of (entry_weight old) new) (added_forms_same column start doc of dense (entry_weight old) new) made

  pub put_one : MakesWithin a b start_added → MakesWithin a b field_most
  put_one added = one_step x e y made_added (items_record kind count) made_gone formed_added formed_gone a b c d (adds_within added)

  pub put_two : MayDo a b → MakesWithin a b start_added → MakesWithin b c (documents_most kind count e) → MakesWithin a c field_most
  put_two may added entry = two_steps x e y made_added (items_record kind count) made_gone formed_added formed_gone a b c d may (adds_within added) entry

  module _ (middle : Index) (between : IsBetween start doc (entry_weight new) (λ v. None) middle) where
    abbrev middle_gone : ℕ → ℕ
    middle_gone = besides (by_width y (gone_records (λ v. list_of v middle) doc (entry_weight new) old)) (gone_forms dense (λ v. list_of v middle) doc (entry_weight new) old)

    gone_within : MakesWithin c d middle_gone → MakesWithin c d (besides (by_width y made_gone) formed_gone)
    gone_within made =
        same_within c d y (gone_records (λ v. list_of v middle) doc (entry_weight new) old) made_gone (gone_forms dense (λ v. list_of v middle) doc (entry_weight new) old) formed_gone
        (gone_same column start doc of (entry_weight new) middle between old) (gone_forms_same column start doc of (entry_weight new) middle between dense old) made

    pub put_three : MayDo a b → MayDo b c → MakesWithin a b start_added → MakesWithin b c (documents_most kind count e) → MakesWithin c d middle_gone → MakesWithin a d field_most
    put_three may goes added entry gone =
        three_steps x e y made_added (items_record kind count) made_gone formed_added formed_gone a b c d may (may_do-then a b c may goes) (adds_within added) entry (gone_within gone)

    -- a document is taken out: nothing is added
    pub out_two : MayDo b c → MakesWithin b c (by_width e (λ w. 0)) → MakesWithin c d middle_gone → MakesWithin b d field_most
    out_two may entry gone = last_steps x e y made_added (items_record kind count) made_gone formed_added formed_gone b c d may entry (gone_within gone)

  pub out_one : MakesWithin b c (by_width e (λ w. 0)) → MakesWithin b c field_most
  out_one entry = entry_step x e y made_added (items_record kind count) made_gone formed_added formed_gone b c d entry

-- no weights were given
module _ (kind : Kind) (column : Column) (start : Index) (doc : ℕ) (of : IsIndexOf column start) (old none : List (Value × ℤ)) (empty : none ≡ []) (dense : Bool) where
  abbrev gone_from : ℕ → Index → ℕ → ℕ
  gone_from per middle = besides (by_width (per * gone_count (entry_weight none) old) (gone_records (λ v. list_of v middle) doc (entry_weight none) old))
      (gone_forms dense (λ v. list_of v middle) doc (entry_weight none) old)

  abbrev out_most : ℕ → ℕ → ℕ
  out_most nodes = besides (by_width nodes (field_records kind column doc 0 old [])) (field_forms dense column doc old [])

  module _ {H : Type 0} where
    out_empty : (per e : ℕ) (b c d : Ledger H) (middle : Index) → IsBetween start doc (entry_weight none) (λ v. None) middle → MayDo b c → MakesWithin b c (by_width e (λ w. 0))
        → MakesWithin c d (gone_from per middle) → MakesWithin b d (out_most (per * new_values old [] + e + per * lost_values old []))
    out_empty per e b c d middle between may entry gone =
        subst (λ (es : List (Value × ℤ)). MakesWithin b d (besides (by_width (per * new_values old es + e + per * lost_values old es) (field_records kind column doc 0 old es))
        (field_forms dense column doc old es))) empty
        (out_two kind column start doc 0 of old none dense (per * new_values old none) e (per * lost_values old none) b b c d middle between may entry gone)

    module _ (b c d : Ledger H) (middle : Index) (between : IsBetween start doc (entry_weight none) (λ v. None) middle) (may : MayDo b c) where
      pub out_counts : MakesWithin b c (by_width 17 (λ w. 0)) → MakesWithin c d (gone_from 34 middle) → MakesWithin b d (out_most (field_nodes old []))
      out_counts entry gone = out_empty 34 17 b c d middle between may entry gone

    pub out_low : (levels : ℕ) (b c d : Ledger H) (middle : Index) → IsBetween start doc (entry_weight none) (λ v. None) middle → MayDo b c → MakesWithin b c (by_width (2 * levels + 1) (λ w. 0))
        → MakesWithin c d (gone_from (value_nodes levels) middle) → MakesWithin b d (out_most (low_nodes levels old []))
    out_low levels b c d middle between may entry gone = out_empty (value_nodes levels) (2 * levels + 1) b c d middle between may entry gone
