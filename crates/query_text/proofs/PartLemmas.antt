-- Reading the parts of a dot product one by one.
use Rattle.std.proofs.Common.{◌≡◌, ◌<◌, ◌≤◌, ◌+◌, ◌-◌, ℕ, zero, suc, List, [], ◌∷◌, ◌++◌, true, false, Option, Some, None, refl, sym, ap, ◌∙◌, append_assoc, arith}
use Rattle.attr_types.specs.declared.part.Part.{Part}
use Rattle.query_text.specs.Reading.{mark_front}
use Rattle.query_text.specs.Dot.{part_front, parts_front, part_listed, part_marked, with_part}

-- parts that were read before
abbrev pub after_parts : List Part → Option (List Part) → Option (List Part)
after_parts front None = None
after_parts front (Some parts) = Some (front ++ parts)

after_parts-part : (front : List Part) (part : Part) (more : Option (List Part))
    → after_parts front (with_part part more) ≡ after_parts (front ++ part ∷ []) more
after_parts-part front part None = refl
after_parts-part front part (Some parts) = ap (λ list. Some list) (sym (append_assoc front (part ∷ []) parts))

-- one part more
parts_front-part : (n i : ℕ) (bytes : List ℕ) → i < n → parts_front (n - i) bytes ≡ part_listed (part_front bytes) (parts_front (n - (i + 1)))
unfolding parts_front
parts_front-part n i bytes h =
    let counted : n - i ≡ suc (n - (i + 1)) = omega (arith, h) in
    ap (λ k. parts_front k bytes) counted

pub parts_front-end : (n i : ℕ) (bytes : List ℕ) → n ≤ i → parts_front (n - i) bytes ≡ None
unfolding parts_front
parts_front-end n i bytes h =
    let counted : n - i ≡ zero = omega (arith, h) in
    ap (λ k. parts_front k bytes) counted

-- the list with the parts read before, where the next part is read or not
module _ (front : List Part) (n i : ℕ) (rest : List ℕ)
    (whole : Option (List Part)) (so_far : after_parts front (parts_front (n - i) rest) ≡ whole) (inside : i < n) where
  step : (read : Option (Part × List ℕ)) → part_front rest ≡ read → after_parts front (part_listed read (parts_front (n - (i + 1)))) ≡ whole
  step read e = sym (ap (after_parts front) (parts_front-part n i rest inside ∙ ap (λ o. part_listed o (parts_front (n - (i + 1)))) e)) ∙ so_far

  pub no_part : part_front rest ≡ None → whole ≡ None
  no_part e = sym (step None e)

  pub no_part_mark : (first : Part) (next : List ℕ) → part_front rest ≡ Some (first, next) → mark_front next ≡ None → whole ≡ None
  no_part_mark first next e none =
      sym (step (Some (first, next)) e) ∙ ap (λ o. after_parts front (part_marked first o (parts_front (n - (i + 1))))) none

  pub last_part : (first : Part) (next end : List ℕ) → part_front rest ≡ Some (first, next) → mark_front next ≡ Some (false, end)
      → whole ≡ Some (front ++ first ∷ [])
  last_part first next end e last =
      sym (step (Some (first, next)) e) ∙ ap (λ o. after_parts front (part_marked first o (parts_front (n - (i + 1))))) last

  pub one_part : (first : Part) (next others : List ℕ) → part_front rest ≡ Some (first, next) → mark_front next ≡ Some (true, others)
      → after_parts (front ++ first ∷ []) (parts_front (n - (i + 1)) others) ≡ whole
  one_part first next others e more =
      sym (after_parts-part front first (parts_front (n - (i + 1)) others))
      ∙ sym (ap (λ o. after_parts front (part_marked first o (parts_front (n - (i + 1))))) more)
      ∙ step (Some (first, next)) e
