-- A root record that is made of attributes names these attributes.
use Rattle.std.proofs.Common.{◌≡◌, ℕ, zero, suc, ◌+◌, ◌-◌, ◌*◌, ◌<◌, ◌≤◌, ◌^◌, List, [], ◌∷◌, ◌++◌, length, length-append, drop, replicate, get_or, Some, refl, sym, ap, subst, ◌∙◌, arith}
use Rattle.std.specs.Prelude.{Bool, true, false, cond, nat_le, slice_index}
use Rattle.std.proofs.Math.Seq.{get_or-append_seam, drop-append_seam}
use Rattle.std.proofs.lemmas.Bool.{leb-true}
use Rattle.std.proofs.lemmas.List.{get_or-append-add, append_assoc, length-replicate, length-map}
use Rattle.std.specs.List.{find, flat_map, AllByRecursion}
use Rattle.std.specs.Option.{unwrap_or}
use Rattle.entry_ref.specs.Records.{Records}
use Rattle.image_format.proofs.ImageLemmas.{image_lawful}
use Rattle.image_format.proofs.ShapeLemmas.{shape_tells}
use Rattle.image_format.specs.Images.{attributes_from, attributes_of, root_record, IsRootRecord, IsLawfulImage}
use Rattle.image_format.specs.Laws.{IsImageOf}
use Rattle.image_format.specs.Shapes.{shape_of, types_of_shape, types_of}
use Rattle.image_format.specs.Tables.{AttributeTrees, types_at, table_of_columns, columns_at, attributes_reach, AreLawfulAttributes}
use Rattle.image_format.specs.Words.{classes, class_of, filled}
use Rattle.attr_types.specs.declared.field.Field.{Field}
use Rattle.attr_types.specs.declared.field.TheConstants.{MOST_FIELDS}

-- ---- the width of words
fits_width : (n : ℕ) (widths : List ℕ) → n ≤ 1024 → n ≤ unwrap_or (find (nat_le n) widths) 1024
fits_width n [] few = few
fits_width n (w ∷ widths) few = choose (nat_le n w) refl (fits_width n widths few)
  where
    choose : (found : Bool) → nat_le n w ≡ found → n ≤ unwrap_or (find (nat_le n) widths) 1024 → n ≤ unwrap_or (cond found (Some w) (find (nat_le n) widths)) 1024
    choose true is later = leb-true n w is
    choose false is later = later

fits_class : (n : ℕ) → n ≤ 1024 → n ≤ class_of n
fits_class n few = fits_width n classes few

pub length-filled : (ws : List ℕ) → length ws ≤ 1024 → length (filled ws) ≡ class_of (length ws)
length-filled ws few =
    let fits = fits_class (length ws) few in
    length-append ws (replicate (class_of (length ws) - length ws) 0)
    ∙ ap (λ k. length ws + k) (length-replicate (class_of (length ws) - length ws) 0)
    ∙ (let whole : length ws + (class_of (length ws) - length ws) ≡ class_of (length ws) = omega arith in whole)

zeros_all : (n : ℕ) → AllByRecursion (λ (w : ℕ). w ≡ 0) (replicate n 0)
zeros_all zero = tt
zeros_all (suc n) = (refl, zeros_all n)

-- ---- the words of attributes
abbrev roots_of : List AttributeTrees → List ℕ
roots_of attributes = flat_map (λ a. a.documents ∷ a.dictionary ∷ []) attributes

length-roots : (attributes : List AttributeTrees) → length (roots_of attributes) ≡ 2 * length attributes
length-roots [] = refl
length-roots (a ∷ attributes) = let rest = length-roots attributes in omega arith

named_back : (i : ℕ) (attributes : List AttributeTrees) (front rest : List ℕ) → length front ≡ 1 + 2 * i
    → attributes_from i (types_at attributes) (front ++ (roots_of attributes ++ rest)) ≡ attributes
named_back i [] front rest size = refl
named_back i (a ∷ attributes) front rest size =
    let later : List ℕ = roots_of attributes ++ rest in
    let ws : List ℕ = front ++ (a.documents ∷ a.dictionary ∷ later) in
    let types = types_at attributes in
    let first : slice_index ws (1 + 2 * i) ≡ a.documents = subst (λ n. get_or ws n 0 ≡ a.documents) size (get_or-append_seam front a.documents (a.dictionary ∷ later) 0) in
    let place : length front + 1 ≡ 2 + 2 * i = omega arith in
    let second : slice_index ws (2 + 2 * i) ≡ a.dictionary = subst (λ n. get_or ws n 0 ≡ a.dictionary) place (get_or-append-add front (a.documents ∷ a.dictionary ∷ later) 1 0) in
    let more : length (front ++ a.documents ∷ a.dictionary ∷ []) ≡ 1 + 2 * suc i = (let both = length-append front (a.documents ∷ a.dictionary ∷ []) in omega arith) in
    ap (λ d. record { kind = a.kind; type = a.type; documents = d; dictionary = slice_index ws (2 + 2 * i) } ∷ attributes_from (suc i) types ws) first
    ∙ ap (λ d. record { kind = a.kind; type = a.type; documents = a.documents; dictionary = d } ∷ attributes_from (suc i) types ws) second
    ∙ ap (λ words. a ∷ attributes_from (suc i) types words) (sym (append_assoc front (a.documents ∷ a.dictionary ∷ []) later))
    ∙ ap (λ others. a ∷ others) (named_back (suc i) attributes (front ++ a.documents ∷ a.dictionary ∷ []) rest more)

module _ (operations : ℕ) (attributes : List AttributeTrees) (below : operations < 2 ^ 32) (few : length attributes ≤ MOST_FIELDS) where
  front_size : length (operations ∷ roots_of attributes) ≡ 1 + 2 * length attributes
  front_size = let size = length-roots attributes in omega arith

  has_form : IsRootRecord (length attributes) (root_record operations attributes)
  has_form =
      let front : List ℕ = operations ∷ roots_of attributes in
      let zeros : List ℕ = replicate (class_of (length front) - length front) 0 in
      let fits : length front ≤ 1024 = (let less : length attributes ≤ 8 = few in let size = front_size in omega arith) in
      record {
        size = length-filled front fits ∙ ap class_of front_size;
        few = below;
        zeros = subst (λ n. AllByRecursion (λ (w : ℕ). w ≡ 0) (drop n (front ++ zeros))) front_size
            (subst (AllByRecursion (λ (w : ℕ). w ≡ 0)) (sym (drop-append_seam front zeros)) (zeros_all (class_of (length front) - length front)));
      }

  names : attributes_from 0 (types_at attributes) (root_record operations attributes) ≡ attributes
  names =
      let front : List ℕ = operations ∷ roots_of attributes in
      named_back 0 attributes (operations ∷ []) (replicate (class_of (length front) - length front) 0) refl

types_length : (attributes : List AttributeTrees) → length (types_at attributes) ≡ length attributes
types_length attributes = length-map attributes (λ (a : AttributeTrees). (a.kind, a.type))

pub root_makes_image : (operations : ℕ) (attributes : List AttributeTrees) (m : Records) (root : ℕ) → 0 < root → operations < 2 ^ 32
    → length attributes ≤ MOST_FIELDS → m root ≡ root_record operations attributes → AreLawfulAttributes m attributes
    → IsImageOf operations attributes (shape_of (types_at attributes)) m root
root_makes_image operations attributes m zero some small few is lawful = absurd (omega arith)
root_makes_image operations attributes m (suc root) some small few is lawful =
    let shape = shape_of (types_at attributes) in
    let tells : types_of_shape shape ≡ types_at attributes = shape_tells (types_at attributes) (subst (λ n. n ≤ MOST_FIELDS) (sym (types_length attributes)) few) in
    let named : attributes_of shape m (suc root) ≡ attributes =
    ap (λ ts. attributes_from 0 ts (m (suc root))) tells ∙ ap (attributes_from 0 (types_at attributes)) is ∙ names operations attributes small few in
    let count : length attributes ≡ length (types_of_shape shape) = sym (ap length tells ∙ types_length attributes) in
    let form : IsRootRecord (length (types_of_shape shape)) (m (suc root)) =
    subst (λ n. IsRootRecord n (m (suc root))) count (subst (IsRootRecord (length attributes)) (sym is) (has_form operations attributes small few)) in
    record {
      lawful = image_lawful shape m (suc root) form (subst (AreLawfulAttributes m) (sym named) lawful);
      named = named;
      applied = ap (λ ws. slice_index ws 0) is;
      table = ap (λ list. table_of_columns (columns_at m list)) named;
      reach = ap (λ list. suc root ∷ attributes_reach m list) named;
    }

small : (n : ℕ) → n ≤ MOST_FIELDS → 1 + 2 * n ≤ 1024
small n few = let less : n ≤ 8 = few in omega arith

pub root_has_words : (fields : List Field) (m : Records) (root : ℕ) → length fields ≤ MOST_FIELDS → 0 < root
    → IsLawfulImage (shape_of (types_of fields)) m root → 1 + 2 * length fields ≤ length (m root)
root_has_words fields m zero few some lawful = absurd (omega arith)
root_has_words fields m (suc root) few some lawful =
    let size = length-map fields (λ (f : Field). (f.kind, f.value)) in
    let tells = shape_tells (types_of fields) (subst (λ n. n ≤ MOST_FIELDS) (sym size) few) in
    let count : length (types_of_shape (shape_of (types_of fields))) ≡ length fields = ap length tells ∙ size in
    let wide : length (m (suc root)) ≡ class_of (1 + 2 * length fields) = lawful.root_record.size ∙ ap (λ n. class_of (1 + 2 * n)) count in
    let fits : 1 + 2 * length fields ≤ class_of (1 + 2 * length fields) = fits_class (1 + 2 * length fields) (small (length fields) few) in
    subst (λ n. 1 + 2 * length fields ≤ n) (sym wide) fits
