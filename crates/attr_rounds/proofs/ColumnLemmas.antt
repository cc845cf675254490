-- Documents put in one after another, in order.
use Rattle.tree_read.specs.SearchPlaces.{first_key}
use Rattle.doc_vector.specs.Documents.{IsDocumentPair}
use Rattle.std.proofs.Common.{◌≡◌, ◌≢◌, ◌<◌, ◌≤◌, ℕ, cond, List, [], ◌∷◌, ◌++◌, map, drop, refl, sym, ap, subst, ◌∙◌, arith, Some, IsSome}
use Rattle.std.proofs.lemmas.Cmp.{nat_cmp_total}
use Rattle.std.specs.BTreeMap.{insert_entry, is_at}
use Rattle.std.specs.Cmp.{ranks}
use Rattle.std.specs.declared.cmp.Ordering.{Ordering}
use Rattle.std.specs.declared.cmp.Ordering.TheVariants.{Less, Equal, Greater}
use Rattle.std.specs.List.{AllByRecursion}
use Rattle.std.specs.List.Sorted.{IsStrictlySortedBy}
use Rattle.std.specs.Map.{keys_of, lookup}
use Rattle.std.specs.Ordering.{nat_cmp, match_ordering, is_eq, MatchOrdering, ordering_reverse}
use Rattle.entry_ref.specs.Records.{Records}
use Rattle.image_format.specs.Documents.{items_at}
use Rattle.index_model.specs.Columns.{Column, column_of}
use Rattle.attr_types.specs.Query.{items_in}
use Rattle.attr_types.specs.Table.{Table}
use Rattle.attr_types.specs.declared.items.Item.{Item}
use Rattle.attr_types.specs.declared.kind.Kind.{Kind}
use Rattle.attr_types.specs.declared.kind.ValueType.{ValueType}

flip : (x y : ℕ) → nat_cmp x y ≡ Less → nat_cmp y x ≡ Greater
flip x y is = nat_cmp_total.antisymm y x ∙ ap ordering_reverse is

alike : (x : ℕ) → nat_cmp x x ≡ Equal
alike x = told (nat_cmp x x) refl (ranks x x)
  where
    told : (o : Ordering) → nat_cmp x x ≡ o → MatchOrdering o (x < x) (x ≡ x) (x < x) → nat_cmp x x ≡ Equal
    told Less is rank = absurd (omega arith)
    told Equal is rank = is
    told Greater is rank = absurd (omega arith)

abbrev pub Ascends : Column → Type 0
Ascends column = IsStrictlySortedBy nat_cmp (keys_of column)

-- what holds of all keys holds of one between
at_middle : (P : ℕ → Type 0) (front : Column) (doc : ℕ) (items : List Item) (rest : Column) → AllByRecursion P (keys_of (front ++ (doc, items) ∷ rest)) → P doc
at_middle P [] doc items rest all = all.0
at_middle P (e ∷ front) doc items rest all = at_middle P front doc items rest all.1

-- a document is found where it stands
pub lookup_there : (front : Column) (doc : ℕ) (items : List Item) (rest : Column) → Ascends (front ++ (doc, items) ∷ rest)
    → lookup (is_at (nat_cmp doc)) (front ++ (doc, items) ∷ rest) ≡ Some items
unfolding IsStrictlySortedBy
lookup_there [] doc items rest up = ap (λ r. cond (is_eq r) (Some items) (lookup (is_at (nat_cmp doc)) rest)) (alike doc)
lookup_there (e ∷ front) doc items rest up =
    ap (λ r. cond (is_eq r) (Some e.1) (lookup (is_at (nat_cmp doc)) (front ++ (doc, items) ∷ rest)))
    (flip e.0 doc (at_middle (λ y. nat_cmp e.0 y ≡ Less) front doc items rest up.0))
    ∙ lookup_there front doc items rest up.1

-- and put in, it comes behind those before it
pub put_behind : (es : Table) (doc : ℕ) (items : List Item) (rest : Column) → Ascends (column_of 0 es ++ (doc, items) ∷ rest)
    → column_of 0 (insert_entry nat_cmp es doc (items ∷ [])) ++ rest ≡ column_of 0 es ++ (doc, items) ∷ rest
unfolding IsStrictlySortedBy
put_behind [] doc items rest up = refl
put_behind (e ∷ es) doc items rest up =
    ap (λ r. column_of 0 (match_ordering r ((doc, items ∷ []) ∷ e ∷ es) ((e.0, items ∷ []) ∷ es) (e ∷ insert_entry nat_cmp es doc (items ∷ []))) ++ rest)
    (flip e.0 doc (at_middle (λ y. nat_cmp e.0 y ≡ Less) (column_of 0 es) doc items rest up.0))
    ∙ ap (λ (t : Column). (e.0, items_in e.1 0) ∷ t) (put_behind es doc items rest up.1)

-- pairs of a document tree, as documents with their items
abbrev pub read_pairs : Kind → ValueType → Records → List (ℕ × ℕ) → Column
read_pairs kind type m ps = map (λ p. (p.0, items_at kind type m p.1)) ps

-- one step: what was put in and what is left are the whole column
pub put_next : (kind : Kind) (type : ValueType) (m : Records) (es es' : Table) (p : ℕ × ℕ) (ps : List (ℕ × ℕ)) (column : Column) → Ascends column
    → column_of 0 es ++ read_pairs kind type m (p ∷ ps) ≡ column
    → ((items : List Item) → lookup (is_at (nat_cmp p.0)) column ≡ Some items → es' ≡ insert_entry nat_cmp es p.0 (items ∷ []))
    → column_of 0 es' ++ read_pairs kind type m ps ≡ column
put_next kind type m es es' p ps column up whole put =
    let items = items_at kind type m p.1 in
    let rest = read_pairs kind type m ps in
    let up' : Ascends (column_of 0 es ++ (p.0, items) ∷ rest) = subst Ascends (sym whole) up in
    let there : lookup (is_at (nat_cmp p.0)) column ≡ Some items =
    subst (λ (c : Column). lookup (is_at (nat_cmp p.0)) c ≡ Some items) whole (lookup_there (column_of 0 es) p.0 items rest up') in
    ap (λ (t : Table). column_of 0 t ++ rest) (put items there) ∙ put_behind es p.0 items rest up' ∙ whole

keys_read : (kind : Kind) (type : ValueType) (m : Records) (ps : List (ℕ × ℕ)) → keys_of (read_pairs kind type m ps) ≡ map (λ p. p.0) ps
keys_read kind type m [] = refl
keys_read kind type m (p ∷ ps) = ap (λ (ks : List ℕ). p.0 ∷ ks) (keys_read kind type m ps)

-- the documents of a tree ascend
pub column_ascends : (kind : Kind) (type : ValueType) (m : Records) (ps : List (ℕ × ℕ)) → IsStrictlySortedBy nat_cmp (map (λ p. p.0) ps) → Ascends (read_pairs kind type m ps)
column_ascends kind type m ps up = subst (IsStrictlySortedBy nat_cmp) (sym (keys_read kind type m ps)) up

-- the step, by the number of the document
pub put_more : (kind : Kind) (type : ValueType) (m : Records) (es es' : Table) (ps : List (ℕ × ℕ)) (column : Column) (doc : ℕ) → ps ≢ [] → doc ≡ first_key ps → Ascends column
    → column_of 0 es ++ read_pairs kind type m ps ≡ column
    → ((items : List Item) → lookup (is_at (nat_cmp doc)) column ≡ Some items → es' ≡ insert_entry nat_cmp es doc (items ∷ []))
    → column_of 0 es' ++ read_pairs kind type m (drop 1 ps) ≡ column
put_more kind type m es es' [] column doc some is up whole put = absurd (some refl)
put_more kind type m es es' (p ∷ ps) column doc some is up whole put =
    put_next kind type m es es' p ps column up whole
    (subst (λ (d : ℕ). (items : List Item) → lookup (is_at (nat_cmp d)) column ≡ Some items → es' ≡ insert_entry nat_cmp es d (items ∷ [])) is put)

-- the document that comes next is there
pub there_is : (kind : Kind) (type : ValueType) (m : Records) (es : Table) (ps : List (ℕ × ℕ)) (column : Column) (doc : ℕ) → ps ≢ [] → doc ≡ first_key ps → Ascends column
    → column_of 0 es ++ read_pairs kind type m ps ≡ column → IsSome (lookup (is_at (nat_cmp doc)) column)
there_is kind type m es [] column doc some is up whole = absurd (some refl)
there_is kind type m es (p ∷ ps) column doc some is up whole =
    let items = items_at kind type m p.1 in
    let rest = read_pairs kind type m ps in
    let there : lookup (is_at (nat_cmp p.0)) column ≡ Some items =
    subst (λ (c : Column). lookup (is_at (nat_cmp p.0)) c ≡ Some items) whole (lookup_there (column_of 0 es) p.0 items rest (subst Ascends (sym whole) up)) in
    subst (λ (d : ℕ). IsSome (lookup (is_at (nat_cmp d)) column)) (sym is) (subst IsSome (sym there) refl)

pub first_number : (ps : List (ℕ × ℕ)) → ps ≢ [] → AllByRecursion IsDocumentPair ps → first_key ps ≤ 1048575
first_number [] some all = absurd (some refl)
first_number (p ∷ ps) some all = all.0.document.1

pub others : (ps : List (ℕ × ℕ)) → AllByRecursion IsDocumentPair ps → AllByRecursion IsDocumentPair (drop 1 ps)
others [] all = tt
others (p ∷ ps) all = all.1
