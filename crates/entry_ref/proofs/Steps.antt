-- The records of a map, buffer by buffer and offset by offset.
use Rattle.std.proofs.Common.{◌≡◌, ◌≢◌, ℕ, ◌+◌, ◌*◌, ◌/◌, ◌%◌, ◌<◌, ◌≤◌, Bool, true, false, cond, List, [], ◌∷◌, length, refl, sym, ap, ◌∙◌, arith, inl, inr}
use Rattle.std.proofs.lemmas.Bool.{cond-true, cond-false, cases_eq, cases_lt, cases_order, eq-eqb, ne_eqb, lt-ltb, le-ltb, or_left, or_right, or_from, and_from, and_left, and_right}
use Rattle.std.proofs.lemmas.Nat.{div-add-mod'}
use Rattle.std.proofs.Math.Nat.{mul-le-mul_right}
use Rattle.entry_ref.specs.References.{buffer_of, offset_of, packed, buffer_limit}
use Rattle.entry_ref.proofs.Bits.{packed-buffer, packed-offset, packed-same}
use Rattle.entry_ref.specs.Places.{IsEntry}
use Rattle.entry_ref.specs.Records.{Records}
use Rattle.entry_ref.specs.Before.{is_before, those_before}

-- an entry by its offset and its buffer
pub made-of : (bits q buffer offset : ℕ) → buffer_of bits q ≡ buffer → offset_of bits q ≡ offset → q ≡ packed bits offset buffer
made-of bits q buffer offset b o = sym (packed-same bits q) ∙ ap (λ n. packed bits n (buffer_of bits q)) o ∙ ap (packed bits offset) b

module _ (bits : ℕ) (m : Records) (buffer offset q : ℕ) where
  in_before : buffer_of bits q < buffer → those_before bits m buffer offset q ≡ m q
  in_before low = cond-true _ (m q) [] (or_left _ _ (lt-ltb _ _ low))

  in_here : buffer_of bits q ≡ buffer → offset_of bits q < offset → those_before bits m buffer offset q ≡ m q
  in_here same low = cond-true _ (m q) [] (or_right _ _ (and_from _ _ (eq-eqb _ _ same) (lt-ltb _ _ low)))

  not_yet : buffer_of bits q ≡ buffer → offset ≤ offset_of bits q → those_before bits m buffer offset q ≡ []
  not_yet same high = cond-false _ (m q) [] (or_from _ _ (le-ltb _ _ (omega arith)) (and_right _ _ (le-ltb _ _ high)))

  in_later : buffer < buffer_of bits q → those_before bits m buffer offset q ≡ []
  in_later high = cond-false _ (m q) [] (or_from _ _ (le-ltb _ _ (omega arith)) (and_left _ _ (ne_eqb (buffer_of bits q) buffer (λ same. omega arith))))

  pub before-none : m q ≡ [] → those_before bits m buffer offset q ≡ []
  before-none none = by_test (is_before bits buffer offset q)
    where
      by_test : (t : Bool) → cond t (m q) [] ≡ []
      by_test true = none
      by_test false = refl

module _ (bits : ℕ) (m : Records) (buffer offset q : ℕ) where
  -- of another entry the same is so before the next offset
  pub before-other : q ≢ packed bits offset buffer → those_before bits m buffer (offset + 1) q ≡ those_before bits m buffer offset q
  before-other ne = elim (cases_order (buffer_of bits q) buffer) [
    | inl same ↦ elim (cases_lt (offset_of bits q) offset) [
      | inl low ↦ in_here bits m buffer (offset + 1) q same (omega arith) ∙ sym (in_here bits m buffer offset q same low)
      | inr high ↦
          (let apart : offset_of bits q ≢ offset = (λ o. ne (made-of bits q buffer offset same o)) in
          not_yet bits m buffer (offset + 1) q same (omega arith) ∙ sym (not_yet bits m buffer offset q same high))
    ]
    | inr (inl low) ↦ in_before bits m buffer (offset + 1) q low ∙ sym (in_before bits m buffer offset q low)
    | inr (inr high) ↦ in_later bits m buffer (offset + 1) q high ∙ sym (in_later bits m buffer offset q high)
  ]

  pub before-here : buffer_of bits q ≡ buffer → offset_of bits q ≡ offset → those_before bits m buffer (offset + 1) q ≡ m q
  before-here same o = in_here bits m buffer (offset + 1) q same (omega arith)

  pub here-not_yet : buffer_of bits q ≡ buffer → offset_of bits q ≡ offset → those_before bits m buffer offset q ≡ []
  here-not_yet same o = not_yet bits m buffer offset q same (omega arith)

  -- from one buffer to the next, where the rest of the one has no record
  pub next-buffer : (buffer_of bits q ≡ buffer → offset ≤ offset_of bits q → m q ≡ []) → those_before bits m buffer offset q ≡ those_before bits m (buffer + 1) 0 q
  next-buffer none = elim (cases_order (buffer_of bits q) buffer) [
    | inl same ↦ elim (cases_lt (offset_of bits q) offset) [
      | inl low ↦ in_here bits m buffer offset q same low ∙ sym (in_before bits m (buffer + 1) 0 q (omega arith))
      | inr high ↦ not_yet bits m buffer offset q same high ∙ sym (before-none bits m (buffer + 1) 0 q (none same high))
    ]
    | inr (inl low) ↦ in_before bits m buffer offset q low ∙ sym (in_before bits m (buffer + 1) 0 q (omega arith))
    | inr (inr high) ↦ in_later bits m buffer offset q high ∙ sym (elim (cases_eq (buffer_of bits q) (buffer + 1)) [
      | inl at ↦ not_yet bits m (buffer + 1) 0 q at (omega arith)
      | inr ne ↦ in_later bits m (buffer + 1) 0 q (omega arith)
    ])
  ]

  -- offset 0 has no record
  pub first-offset : (offset_of bits q ≡ 0 → m q ≡ []) → those_before bits m buffer 0 q ≡ those_before bits m buffer 1 q
  first-offset none = elim (cases_eq (offset_of bits q) 0) [
    | inl o ↦ before-none bits m buffer 0 q (none o) ∙ sym (before-none bits m buffer 1 q (none o))
    | inr ne ↦ elim (cases_order (buffer_of bits q) buffer) [
      | inl same ↦ not_yet bits m buffer 0 q same (omega arith) ∙ sym (not_yet bits m buffer 1 q same (omega arith))
      | inr (inl low) ↦ in_before bits m buffer 0 q low ∙ sym (in_before bits m buffer 1 q low)
      | inr (inr high) ↦ in_later bits m buffer 0 q high ∙ sym (in_later bits m buffer 1 q high)
    ]
  ]

  -- all records are before the end
  pub all-before : (buffer ≤ buffer_of bits q → m q ≡ []) → those_before bits m buffer 0 q ≡ m q
  all-before none = elim (cases_lt (buffer_of bits q) buffer) [
    | inl low ↦ in_before bits m buffer 0 q low
    | inr high ↦ before-none bits m buffer 0 q (none high) ∙ sym (none high)
  ]

pub none-or : (ws : List ℕ) → (0 < length ws → ⊥) → ws ≡ []
none-or [] not_some = refl
none-or (w ∷ ws) not_some = absurd (not_some (omega arith))

-- an entry's offset is one of its width's
pub offset-within : (bits buffers words width q : ℕ) → IsEntry bits buffers words width q → offset_of bits q < words / width
offset-within bits buffers words width q e = elim (cases_lt (offset_of bits q) (words / width)) [
  | inl low ↦ low
  | inr high ↦
      (let wide : words / width * width ≤ offset_of bits q * width = mul-le-mul_right width high in
      let last = e.last in
      let some = e.wide in
      let is : words / width * width + words % width ≡ words = div-add-mod' words width in
      let rest : words % width < width = omega arith in
      absurd (omega arith))
]

-- one entry more is there
pub reference-more : (bits : ℕ) (m : Records) (buffer offset r : ℕ) → buffer < buffer_limit bits → r ≡ packed bits offset buffer → (f g : Records) → f r ≡ m r → ((q : ℕ) → q ≢ r → f q ≡ g q)
    → ((q : ℕ) → g q ≡ those_before bits m buffer offset q) → (q : ℕ) → f q ≡ those_before bits m buffer (offset + 1) q
reference-more bits m buffer offset r small is f g here others before q = elim (cases_eq q r) [
  | inl same ↦
      (let at : q ≡ packed bits offset buffer = same ∙ is in
      ap f same ∙ here ∙ ap m (sym same)
      ∙ sym (before-here bits m buffer offset q (ap (buffer_of bits) at ∙ packed-buffer bits offset buffer small) (ap (offset_of bits) at ∙ packed-offset bits offset buffer small)))
  | inr ne ↦ others q ne ∙ before q ∙ sym (before-other bits m buffer offset q (λ same. ne (same ∙ sym is)))
]
