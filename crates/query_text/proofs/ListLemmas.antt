-- Reading a list member by member.
use Rattle.std.proofs.Common.{◌≡◌, ◌<◌, ◌≤◌, ◌+◌, ◌-◌, ℕ, zero, suc, List, [], ◌∷◌, ◌++◌, true, false, Option, Some, None, refl, sym, ap, ◌∙◌, append_assoc, arith}
use Rattle.attr_types.specs.declared.field.Field.{Field}
use Rattle.attr_types.specs.Query.{QueryTree}
use Rattle.query_text.specs.declared.read.ReadError.{ReadError}
use Rattle.query_text.specs.declared.read.ReadError.TheVariants as errors
use Rattle.query_text.specs.Reading.{FindsNone, with_tree, after_mark, mark_front, after_list, list_front, query_with, query_front}

pub append-middle : (first second third fourth : List ℕ) → (first ++ second) ++ (third ++ fourth) ≡ first ++ ((second ++ third) ++ fourth)
append-middle first second third fourth = simp append_assoc

-- members that were read before
abbrev pub after_trees : List QueryTree → Option (List QueryTree × List ℕ) → Option (List QueryTree × List ℕ)
after_trees front None = None
after_trees front (Some found) = Some (front ++ found.0, found.1)

pub after_trees-member : (front : List QueryTree) (member : QueryTree) (more : Option (List QueryTree × List ℕ))
    → after_trees front (with_tree member more) ≡ after_trees (front ++ member ∷ []) more
after_trees-member front member None = refl
after_trees-member front member (Some found) = ap (λ list. Some (list, found.1)) (sym (append_assoc front (member ∷ []) found.0))

-- an error of a part is one of the whole
pub FindsNone-along : {X Y : Type 0} → (error : ReadError) (part : Option X) (whole : Option Y) → (part ≡ None → whole ≡ None) → FindsNone error part → FindsNone error whole
FindsNone-along errors.Memory part whole along h = tt
FindsNone-along errors.NotRead part whole along h = along h

-- one member more
pub list_front-member : (member : List ℕ → Option (QueryTree × List ℕ)) (n i : ℕ) (bytes : List ℕ) → i < n
    → list_front member (n - i) bytes ≡ after_list (member bytes) (list_front member (n - (i + 1)))
unfolding list_front
list_front-member member n i bytes h =
    let counted : n - i ≡ suc (n - (i + 1)) = omega arith in
    ap (λ k. list_front member k bytes) counted

pub list_front-end : (member : List ℕ → Option (QueryTree × List ℕ)) (n i : ℕ) (bytes : List ℕ) → n ≤ i → list_front member (n - i) bytes ≡ None
unfolding list_front
list_front-end member n i bytes h =
    let counted : n - i ≡ zero = omega arith in
    ap (λ k. list_front member k bytes) counted

pub query_front-zero : (fields : List Field) (levels : ℕ) (bytes : List ℕ) → levels ≡ 0 → query_front fields levels bytes ≡ None
unfolding query_front
query_front-zero fields levels bytes h = ap (λ n. query_front fields n bytes) h

pub query_front-suc : (fields : List Field) (levels : ℕ) (bytes : List ℕ) → (levels ≡ 0 → ⊥)
    → query_front fields levels bytes ≡ query_with fields (query_front fields (levels - 1)) bytes
unfolding query_front
query_front-suc fields levels bytes h =
    let counted : levels ≡ suc (levels - 1) = omega arith in
    ap (λ n. query_front fields n bytes) counted

-- the list with the members read before, where the next member is read or not
module _ (member : List ℕ → Option (QueryTree × List ℕ)) (front : List QueryTree) (n i : ℕ) (rest : List ℕ)
    (whole : Option (List QueryTree × List ℕ)) (so_far : after_trees front (list_front member (n - i) rest) ≡ whole) (inside : i < n) where
  step : (read : Option (QueryTree × List ℕ)) → member rest ≡ read → after_trees front (after_list read (list_front member (n - (i + 1)))) ≡ whole
  step read e = sym (ap (after_trees front) (list_front-member member n i rest inside ∙ ap (λ o. after_list o (list_front member (n - (i + 1)))) e)) ∙ so_far

  pub no_member : member rest ≡ None → whole ≡ None
  no_member e = sym (step None e)

  pub no_mark : (first : QueryTree) (next : List ℕ) → member rest ≡ Some (first, next) → mark_front next ≡ None → whole ≡ None
  no_mark first next e none =
      sym (step (Some (first, next)) e) ∙ ap (λ o. after_trees front (after_mark first o (list_front member (n - (i + 1))))) none

  pub last_member : (first : QueryTree) (next end : List ℕ) → member rest ≡ Some (first, next) → mark_front next ≡ Some (false, end)
      → whole ≡ Some (front ++ first ∷ [], end)
  last_member first next end e last =
      sym (step (Some (first, next)) e) ∙ ap (λ o. after_trees front (after_mark first o (list_front member (n - (i + 1))))) last

  pub one_member : (first : QueryTree) (next others : List ℕ) → member rest ≡ Some (first, next) → mark_front next ≡ Some (true, others)
      → after_trees (front ++ first ∷ []) (list_front member (n - (i + 1)) others) ≡ whole
  one_member first next others e more =
      sym (after_trees-member front first (list_front member (n - (i + 1)) others))
      ∙ sym (ap (λ o. after_trees front (after_mark first o (list_front member (n - (i + 1))))) more)
      ∙ step (Some (first, next)) e
