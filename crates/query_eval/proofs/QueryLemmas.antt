-- Members of a query.
use Rattle.std.proofs.Common.{◌≡◌, ◌≤◌, ◌<◌, ◌+◌, ℕ, Bool, true, false, zero, suc, ◌&&◌, List, [], ◌∷◌, length, drop, get_or, refl, sym, ap, ap₂, subst, ◌∙◌, Some, arith}
use mathlib.Core.Bool.{and-true}
use Rattle.std.specs.Prelude.{slice_get}
use Rattle.std.proofs.lemmas.List.{drop_all, at_drop_more}
use Rattle.std.proofs.lemmas.Option.{slice_get_read}
use Rattle.list_lemmas.proofs.Options.{same_Some}
use Rattle.index_model.specs.Index.{Index}
use Rattle.attr_types.specs.Query.{and, tree_of, query_trees}
use Rattle.attr_types.specs.declared.query.Query.{Query}
use Rattle.index_model.specs.Sets.{has, Holds}
use Rattle.index_model.specs.Found.{found, found_all, is_listed}
use Rattle.query_eval.specs.Indexes.{AreMatched, IsMatched}

module _ (indexes : List Index) (doc : ℕ) where
  -- what all members match a member does
  member_found : (queries : List Query) (n : ℕ) (query : Query) → slice_get queries n ≡ Some query
      → (found (tree_of query) indexes doc && found_all (query_trees queries) indexes doc) ≡ found_all (query_trees queries) indexes doc
  member_found [] n query at = absurd (grind (arith, at))
  member_found (q ∷ queries) zero query at =
      ap (λ (r : Query). found (tree_of r) indexes doc && found_all (query_trees (q ∷ queries)) indexes doc) (same_Some query q (sym at))
      ∙ twice (found (tree_of q) indexes doc) (found_all (query_trees queries) indexes doc)
    where
      twice : (a b : Bool) → (a && (a && b)) ≡ (a && b)
      twice true b = refl
      twice false b = refl
  member_found (q ∷ queries) (suc n) query at =
      inside (found (tree_of query) indexes doc) (found (tree_of q) indexes doc) (found_all (query_trees queries) indexes doc)
      (member_found queries n query at)
    where
      inside : (a b c : Bool) → (a && c) ≡ c → (a && (b && c)) ≡ (b && c)
      inside true b c h = refl
      inside false true c h = h
      inside false false c h = refl

  and_found : (queries : List Query) (n : ℕ) (query : Query) → slice_get queries n ≡ Some query
      → found_all (query_trees queries) indexes doc ≡ found (and (query_trees queries)) indexes doc
  and_found [] n query at = absurd (grind (arith, at))
  and_found (q ∷ queries) n query at = refl

  -- the documents of one member that all match
  common_found : (queries : List Query) (n : ℕ) (query : Query) (common docs : List ℕ) → slice_get queries n ≡ Some query
      → has docs doc ≡ found (tree_of query) indexes doc → has common doc ≡ (has docs doc && found_all (query_trees queries) indexes doc)
      → has common doc ≡ found (and (query_trees queries)) indexes doc
  common_found queries n query common docs at own is =
      is ∙ ap (λ b. b && found_all (query_trees queries) indexes doc) own
      ∙ member_found queries n query at ∙ and_found queries n query at

  -- two members
  pub two_found : (queries : List Query) (one other : Query) → 2 ≤ length queries → length queries ≤ 2 → one ≡ get_or queries 0 one
      → other ≡ get_or queries 1 other
      → (found (tree_of one) indexes doc && found (tree_of other) indexes doc) ≡ found (and (query_trees queries)) indexes doc
  two_found [] one other least most first second = absurd (omega (arith, least))
  two_found (a ∷ []) one other least most first second = absurd (omega (arith, least))
  two_found (a ∷ b ∷ []) one other least most first second =
      ap₂ (λ (p q : Query). found (tree_of p) indexes doc && found (tree_of q) indexes doc) first second
      ∙ ap (λ (x : Bool). found (tree_of a) indexes doc && x) (sym (and-true (found (tree_of b) indexes doc)))
  two_found (a ∷ b ∷ c ∷ rest) one other least most first second = absurd (omega (arith, most))

  -- without members
  pub none_found : (queries : List Query) (n : ℕ) → (0 < length queries → n < length queries) → length queries ≤ n
      → is_listed indexes doc ≡ found (and (query_trees queries)) indexes doc
  none_found [] n within past = refl
  none_found (q ∷ queries) n within past = let below = within (omega arith) in absurd (omega (arith, below, past))

  -- one member more
  member_more : (queries : List Query) (n : ℕ) (query : Query) (common next all : Bool) → n < length queries → query ≡ get_or queries n query
      → next ≡ (common && found (tree_of query) indexes doc)
      → (common && found_all (query_trees (drop n queries)) indexes doc) ≡ all
      → (next && found_all (query_trees (drop (n + 1) queries)) indexes doc) ≡ all
  member_more queries n query common next all within item narrows whole =
      ap (λ b. b && found_all (query_trees (drop (n + 1) queries)) indexes doc) narrows
      ∙ apart common (found (tree_of query) indexes doc) (found_all (query_trees (drop (n + 1) queries)) indexes doc)
      ∙ ap (λ q. common && (found (tree_of q) indexes doc && found_all (query_trees (drop (n + 1) queries)) indexes doc)) item
      ∙ sym (at_drop_more (λ qs. common && found_all (query_trees qs) indexes doc) queries n query within)
      ∙ whole
    where
      apart : (a b c : Bool) → ((a && b) && c) ≡ (a && (b && c))
      apart true b c = refl
      apart false b c = refl

  -- at the end, and where none is left
  pub all_members : (queries : List Query) (n : ℕ) (common all : Bool) → length queries ≤ n
      → (common && found_all (query_trees (drop n queries)) indexes doc) ≡ all → common ≡ all
  all_members queries n common all past whole =
      sym (and-true common) ∙ ap (λ rest. common && found_all (query_trees rest) indexes doc) (sym (drop_all n queries past)) ∙ whole

  pub none_left : (rest : Bool) (common : List ℕ) (all : Bool) → common ≡ [] → (has common doc && rest) ≡ all → has common doc ≡ all
  none_left rest common all none whole =
      ap (λ xs. has xs doc) none ∙ sym (ap (λ xs. has xs doc && rest) none) ∙ whole

pub kept_known : (a b : Bool) → (a ≡ true → b ≡ true) → a ≡ (a && b)
kept_known true b h = sym (h refl)
kept_known false b h = refl

pub query_there : (xs queries : List Query) (n : ℕ) (query : Query) → xs ≡ queries → n < length xs → query ≡ get_or xs n query → slice_get queries n ≡ Some query
query_there xs queries n query same within item = subst (λ qs. slice_get qs n ≡ Some query) same (slice_get_read xs (length xs) n query refl within item)

module _ (indexes : List Index) where
  -- the documents of one member, and those of them that all match
  pub common_of : (queries : List Query) (n : ℕ) (query : Query) (common docs : List ℕ) → slice_get queries n ≡ Some query
      → Holds docs (found (tree_of query) indexes)
      → (AreMatched docs (slice_get queries n) indexes → (doc : ℕ) → has common doc ≡ (has docs doc && found_all (query_trees queries) indexes doc))
      → (doc : ℕ) → has common doc ≡ found (and (query_trees queries)) indexes doc
  common_of queries n query common docs at holds are doc =
      common_found indexes doc queries n query common docs at (holds.exact doc)
      (are (subst (λ o. AreMatched docs o indexes) (sym at) (λ other there. sym (holds.exact other) ∙ there)) doc)

  -- what is common to the members so far lies in the documents that there were, and with the members that are left it is what all match
  abbrev pub IsCommon : List Query → ℕ → List ℕ → List ℕ → ℕ → Type 0
  IsCommon queries n docs common doc =
      (has common doc ≡ true → has docs doc ≡ true)
      × ((has common doc && found_all (query_trees (drop n queries)) indexes doc) ≡ (has docs doc && found_all (query_trees queries) indexes doc))

  pub one_more : (queries : List Query) (n known : ℕ) (query : Query) (docs common next : List ℕ) → slice_get queries n ≡ Some query
      → n < length queries → query ≡ get_or queries n query → AreMatched docs (slice_get queries known) indexes
      → ((doc : ℕ) → IsCommon queries n docs common doc)
      → ((n ≡ known → IsMatched common query indexes) → (doc : ℕ) → has next doc ≡ (has common doc && found (tree_of query) indexes doc))
      → (doc : ℕ) → IsCommon queries (n + 1) docs next doc
  one_more queries n known query docs common next at within item matched before narrows doc = (
    λ there. (before doc).0 (left (has common doc) (found (tree_of query) indexes doc) (sym is ∙ there)),
    member_more indexes doc queries n query (has common doc) (has next doc) (has docs doc && found_all (query_trees queries) indexes doc) within item is (before doc).1,
  )
    where
      left : (a b : Bool) → (a && b) ≡ true → a ≡ true
      left true b h = refl
      left false b h = h

      here : n ≡ known → IsMatched docs query indexes
      here same = subst (λ o. AreMatched docs o indexes) (ap (slice_get queries) (sym same) ∙ at) matched

      is : has next doc ≡ (has common doc && found (tree_of query) indexes doc)
      is = narrows (λ same other there. here same other ((before other).0 there)) doc
