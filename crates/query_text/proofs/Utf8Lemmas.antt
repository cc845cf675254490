-- The texts in a query's text are UTF-8 where the whole is.
use Rattle.std.proofs.Common.{◌≡◌, ◌<◌, ◌+◌, ℕ, List, [], ◌∷◌, ◌++◌, length, get_or, true, false, ◌&&◌, ◌||◌, ◌==◌, cond, Option, Some, None, option_to_list, refl, sym, ap₂, subst, ◌∙◌, append_assoc, append-nil, codes}
use Rattle.std.proofs.Common.{arith}
use Rattle.std.specs.List.{flat_map, list_all}
use Rattle.std.specs.Str.{IsUtf8}
use Rattle.std.proofs.Math.Seq.{take-append_seam, drop-append-add, get_or-append_seam}
use Rattle.std.proofs.lemmas.Bool.Decides.{nat_tests}
use Rattle.std.proofs.lemmas.List.{length-append}
use Rattle.std.proofs.lemmas.List.Folds.{list_all-append}
use Rattle.std.proofs.lemmas.Str.{IsUtf8-append, IsUtf8-take, IsUtf8-drop, IsCharBoundary-before_ascii, IsCharBoundary-after_ascii, is_utf8-from_IsUtf8, IsUtf8-from_ascii}
use Rattle.std.proofs.lemmas.Str.Ascii.{IsAscii-cons, IsAscii-nil}
use Rattle.std.proofs.lemmas.Bool.{and_parts}
use Rattle.attr_types.specs.declared.value.Value.{Value}
use Rattle.attr_types.specs.declared.value.Value.TheVariants as values
use Rattle.attr_types.specs.declared.query.Leaf.{Leaf}
use Rattle.attr_types.specs.declared.query.Leaf.TheVariants as leaves
use Rattle.query_text.specs.Grammar.{NamedTree, NamedTrees, one, and, or, no_trees, tree, escaped, quoted, value_text, option_text, leaf_text, tree_text, list_text, leaf_values, is_in_range, tree_in_range, list_in_range}
use Rattle.query_text.proofs.ReadBack.{IsReadable, IsReadableEnd, IsReadableLeaf, IsReadableTree, AreReadable}

-- a text may be cut at a byte below 128
pub cut : (front rest : List ℕ) (byte : ℕ) → byte < 128 → IsUtf8 (front ++ (byte ∷ rest)) → IsUtf8 front × IsUtf8 rest
cut front rest byte small u =
    let whole = front ++ (byte ∷ rest) in
    let inside : length front < length whole = omega (arith, length-append front (byte ∷ rest)) in
    let ascii : get_or whole (length front) 0 < 128 = rw (get_or-append_seam front byte rest 0) small in (
      subst IsUtf8 (take-append_seam front (byte ∷ rest))
          (IsUtf8-take whole (length front) u (IsCharBoundary-before_ascii whole (length front) inside ascii)),
      subst IsUtf8 (drop-append-add front (byte ∷ rest) 1)
          (IsUtf8-drop whole (length front + 1) u (IsCharBoundary-after_ascii whole (length front) u inside ascii)),
    )

pub utf8_tail : (byte : ℕ) (rest : List ℕ) → byte < 128 → IsUtf8 (byte ∷ rest) → IsUtf8 rest
utf8_tail byte rest small u = (cut [] rest byte small u).1

utf8_byte : (byte : ℕ) → byte < 128 → IsUtf8 (byte ∷ [])
utf8_byte byte small = IsUtf8-from_ascii (byte ∷ []) (IsAscii-cons byte [] small IsAscii-nil)

-- without the escapes
unescaped : (front bytes : List ℕ) → IsUtf8 (front ++ flat_map escaped bytes) → IsUtf8 (front ++ bytes)
unescaped front [] u = u
unescaped front (byte ∷ bytes) u =
    (elim ((byte == 34) || (byte == 92)) as (λ b. ((byte == 34) || (byte == 92)) ≡ b
    → IsUtf8 (front ++ (cond b (92 ∷ byte ∷ []) (byte ∷ []) ++ flat_map escaped bytes)) → IsUtf8 (front ++ (byte ∷ bytes))) [
      | true ↦ λ h u.
          let small : byte < 128 = grind (arith, nat_tests) in
          let parts : IsUtf8 front × IsUtf8 (byte ∷ flat_map escaped bytes) = cut front (byte ∷ flat_map escaped bytes) 92 (omega arith) u in
          IsUtf8-append front (byte ∷ bytes) parts.0
          (IsUtf8-append (byte ∷ []) bytes (utf8_byte byte small) (unescaped [] bytes (utf8_tail byte (flat_map escaped bytes) small parts.1)))
      | false ↦ λ h u. subst IsUtf8 (append_assoc front (byte ∷ []) bytes)
          (unescaped (front ++ byte ∷ []) bytes (subst IsUtf8 (sym (append_assoc front (byte ∷ []) (flat_map escaped bytes))) u))
    ]) refl u

quoted_utf8 : (bytes rest : List ℕ) → IsUtf8 (quoted bytes ++ rest) → IsUtf8 bytes
quoted_utf8 bytes rest u =
    let inner : IsUtf8 ((flat_map escaped bytes ++ 34 ∷ []) ++ rest) = utf8_tail 34 _ (omega arith) u in
    unescaped [] bytes (cut (flat_map escaped bytes) rest 34 (omega arith) (subst IsUtf8 (append_assoc (flat_map escaped bytes) (34 ∷ []) rest) inner)).0

pub value_readable : (v : Value) (rest : List ℕ) → IsUtf8 (value_text v ++ rest) → is_in_range v ≡ true → IsReadable v
value_readable (values.Long z) rest u h = h
value_readable (values.Text bytes) rest u h = ap₂ (λ a b. a && b) h (is_utf8-from_IsUtf8 bytes (quoted_utf8 bytes rest u))

end_readable : (end : Option Value) (rest : List ℕ) → IsUtf8 (option_text end ++ rest) → list_all is_in_range (option_to_list end) ≡ true → IsReadableEnd end
end_readable None rest u h = tt
end_readable (Some v) rest u h = value_readable v rest u (and_parts (is_in_range v) true h).0

range_text : (low high : List ℕ) → (((codes "[" ++ low) ++ codes ";") ++ high) ++ codes "]" ≡ 91 ∷ (low ++ (59 ∷ (high ++ (93 ∷ []))))
range_text low high = simp append_assoc

leaf_readable : (leaf : Leaf) → IsUtf8 (leaf_text leaf) → list_all is_in_range (leaf_values leaf) ≡ true → IsReadableLeaf leaf
leaf_readable (leaves.Is v) u h = value_readable v [] (subst IsUtf8 (sym (append-nil (value_text v))) u) (and_parts (is_in_range v) true h).0
leaf_readable (leaves.Prefix bytes) u h = value_readable (values.Text bytes) (codes "*") u (and_parts (is_in_range (values.Text bytes)) true h).0
leaf_readable (leaves.Range low high) u h =
    let inner : IsUtf8 (option_text low ++ (59 ∷ (option_text high ++ (93 ∷ [])))) =
    utf8_tail 91 _ (omega arith) (subst IsUtf8 (range_text (option_text low) (option_text high)) u) in
    let ranges : (list_all is_in_range (option_to_list low) ≡ true) × (list_all is_in_range (option_to_list high) ≡ true) =
    and_parts _ _ (sym (list_all-append is_in_range (option_to_list low) (option_to_list high)) ∙ h) in
    (end_readable low _ inner ranges.0, end_readable high (93 ∷ []) (cut (option_text low) _ 59 (omega arith) inner).1 ranges.1)
leaf_readable (leaves.Below v) u h =
    value_readable v [] (subst IsUtf8 (sym (append-nil (value_text v))) (utf8_tail 60 _ (omega arith) u)) (and_parts (is_in_range v) true h).0
leaf_readable (leaves.Above v) u h =
    value_readable v [] (subst IsUtf8 (sym (append-nil (value_text v))) (utf8_tail 62 _ (omega arith) u)) (and_parts (is_in_range v) true h).0

list_inside : (list : List ℕ) → IsUtf8 (list ++ codes ")") → IsUtf8 list
list_inside list u = (cut list [] 41 (omega arith) u).0

named_readable : (name : Option (List ℕ)) (leaf : Leaf) → IsUtf8 (tree_text (one name leaf)) → tree_in_range (one name leaf) ≡ true → IsReadableLeaf leaf
named_readable None leaf u h = leaf_readable leaf u h
named_readable (Some name) leaf u h =
    leaf_readable leaf (cut name (leaf_text leaf) 58 (omega arith) (subst IsUtf8 (append_assoc name (codes ":") (leaf_text leaf)) u)).1 h

mutual
  pub tree_readable : (query : NamedTree) → IsUtf8 (tree_text query) → tree_in_range query ≡ true → IsReadableTree query
  tree_readable (one name leaf) u h = named_readable name leaf u h
  tree_readable (and list) u h =
      list_readable list (list_inside (list_text list)
      (utf8_tail 40 _ (omega arith) (utf8_tail 100 _ (omega arith) (utf8_tail 110 _ (omega arith) (utf8_tail 97 _ (omega arith) u))))) h
  tree_readable (or list) u h =
      list_readable list (list_inside (list_text list)
      (utf8_tail 40 _ (omega arith) (utf8_tail 114 _ (omega arith) (utf8_tail 111 _ (omega arith) u)))) h

  list_readable : (list : NamedTrees) → IsUtf8 (list_text list) → list_in_range list ≡ true → AreReadable list
  list_readable no_trees u h = tt
  list_readable (tree first no_trees) u h =
      (tree_readable first (subst IsUtf8 (append-nil (tree_text first)) u) (and_parts (tree_in_range first) true h).0, tt)
  list_readable (tree first (tree second others)) u h =
      let parts : IsUtf8 (tree_text first) × IsUtf8 (list_text (tree second others)) = cut (tree_text first) (list_text (tree second others)) 44 (omega arith) u in
      let ranges = and_parts (tree_in_range first) (list_in_range (tree second others)) h in
      (tree_readable first parts.0 ranges.0, list_readable (tree second others) parts.1 ranges.1)
