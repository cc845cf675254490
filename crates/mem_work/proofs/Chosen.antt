-- The entries of a memory as a map: one by one, buffer by buffer, and with what the last root reaches.
use Rattle.std.proofs.Common.{◌≡◌, ◌≢◌, ℕ, ◌+◌, ◌-◌, ◌*◌, ◌/◌, ◌%◌, ◌<◌, ◌≤◌, Bool, true, false, cond, ◌&&◌, eqb, nat_eq, List, [], ◌∷◌, ◌++◌, length, get_or, take, drop, Option, Some, refl, sym, ap, subst, ◌∙◌}
use Rattle.std.proofs.Common.{arith, inl, inr}
use Rattle.std.specs.List.{list_all}
use Rattle.std.specs.Map.{lookup}
use Rattle.std.specs.Option.{unwrap_or}
use Rattle.std.proofs.lemmas.Bool.{cond-true, cond-false, cases_eq, eq-eqb, ne_eqb, eqb-true}
use Rattle.std.proofs.lemmas.Nat.{div-add-mod'}
use Rattle.std.proofs.Math.Nat.{mul-le-mul_right}
use Rattle.entry_ref.specs.References.{buffer_of, offset_of, packed, buffer_limit}
use Rattle.entry_ref.proofs.Bits.{packed-buffer, packed-offset}
use Rattle.entry_ref.specs.Places.{IsEntry}
use Rattle.entry_ref.specs.Records.{Records, pairs_of}
use Rattle.entry_ref.proofs.Steps.{none-or, offset-within}
use Rattle.mem_work.specs.Cells.{width_in, begin_of, stamp_at, standing, was_stored_since, is_whole, records_in}
use Rattle.mem_work.specs.Entries.{is_chosen, chosen, with_those}
use Rattle.mem_work.specs.ProofsForMemory.{names_entry-from, standing-entry}

-- an entry's words are those at its place
pub words-at : (table ts : List ℕ) (bits buffers words r b o w : ℕ) → ts ≡ table → b ≡ buffer_of bits r → o ≡ offset_of bits r → w ≡ width_in table words b
    → IsEntry bits buffers words (width_in table words (buffer_of bits r)) r
    → take (b * words + o * w + w - (b * words + o * w)) (drop (b * words + o * w) ts) ≡ standing table bits buffers words r
unfolding standing
words-at table ts bits buffers words r b o w st sb so sw e =
    ap (λ n. take n (drop (b * words + o * w) ts)) (omega arith)
    ∙ ap (λ l. take w (drop (b * words + o * w) l)) st
    ∙ ap (λ n. take w (drop (n * words + o * w) table)) sb
    ∙ ap (λ n. take w (drop (buffer_of bits r * words + n * w) table)) so
    ∙ ap (λ n. take n (drop (buffer_of bits r * words + offset_of bits r * n) table)) (sw ∙ ap (width_in table words) sb)
    ∙ sym (cond-true _ _ [] (names_entry-from bits buffers words (width_in table words (buffer_of bits r)) r e))

-- an entry whose words were all stored since a stamp was stored whole
pub whole-is : (table stamps : List ℕ) (bits buffers words n r : ℕ) → IsEntry bits buffers words (width_in table words (buffer_of bits r)) r
    → (whole : ℕ) (own : List ℕ) → whole ≡ get_or stamps (stamp_at bits buffers words r) 0
    → own ≡ take (width_in table words (buffer_of bits r)) (drop (begin_of bits words (width_in table words (buffer_of bits r)) r) stamps)
    → list_all (was_stored_since n whole) own ≡ is_whole table stamps bits buffers words n r
unfolding is_whole
whole-is table stamps bits buffers words n r e whole own at is =
    let w = width_in table words (buffer_of bits r) in
    let all = list_all (was_stored_since n (get_or stamps (stamp_at bits buffers words r) 0)) (take w (drop (begin_of bits words w r) stamps)) in
    ap (λ xs. list_all (was_stored_since n whole) xs) is
    ∙ ap (λ x. list_all (was_stored_since n x) (take w (drop (begin_of bits words w r) stamps))) at
    ∙ sym (ap (λ t. t && all) (names_entry-from bits buffers words w r e))

some-of : (t : Bool) (xs : List ℕ) → 0 < length (cond t xs []) → 0 < length xs
some-of true xs h = h
some-of false xs h = absurd (omega arith)

module _ (number : Option ℕ) (table stamps : List ℕ) (bits buffers words q : ℕ) where
  entry-of : 0 < length (chosen number table stamps bits buffers words q) → IsEntry bits buffers words (width_in table words (buffer_of bits q)) q
  entry-of some = (standing-entry table bits buffers words q 0 (some-of (is_chosen number table stamps bits buffers words q) _ some)).0

  -- a free buffer has no entries
  pub none-free : width_in table words (buffer_of bits q) ≡ 0 → chosen number table stamps bits buffers words q ≡ []
  none-free free = none-or _ (λ some. let wide = (entry-of some).wide in omega (arith, free))

  -- offset 0 has none
  pub none-first : offset_of bits q ≡ 0 → chosen number table stamps bits buffers words q ≡ []
  none-first zero = none-or _ (λ some. let first = (entry-of some).first in omega (arith, zero))

  -- none stand past the last offset
  pub none-past : (buffer width offset : ℕ) → width_in table words buffer ≡ width → words / width ≤ offset → buffer_of bits q ≡ buffer → offset ≤ offset_of bits q
      → chosen number table stamps bits buffers words q ≡ []
  none-past buffer width offset wide end of past = none-or _ (λ some.
      let same : width_in table words (buffer_of bits q) ≡ width = ap (width_in table words) of ∙ wide in
      let low = offset-within bits buffers words (width_in table words (buffer_of bits q)) q (entry-of some) in
      let last : words / width_in table words (buffer_of bits q) ≡ words / width = ap (λ n. words / n) same in
      omega arith)

  -- nor past the last buffer
  pub none-outside : (buffer : ℕ) → buffers ≤ buffer → buffer ≤ buffer_of bits q → chosen number table stamps bits buffers words q ≡ []
  none-outside buffer end past = none-or _ (λ some. let inside = (entry-of some).inside in omega arith)

-- what an offset and a buffer make is an entry, where there is room
pub entry-made : (table : List ℕ) (bits buffers words width buffer offset r : ℕ) → r ≡ packed bits offset buffer → buffer < buffers → buffers < buffer_limit bits
    → width_in table words buffer ≡ width → 0 < width → 0 < offset → offset < words / width → IsEntry bits buffers words (width_in table words (buffer_of bits r)) r
entry-made table bits buffers words width buffer offset r made inside few is wide first low =
    let b : buffer_of bits r ≡ buffer = ap (buffer_of bits) made ∙ packed-buffer bits offset buffer (omega arith) in
    let o : offset_of bits r ≡ offset = ap (offset_of bits) made ∙ packed-offset bits offset buffer (omega arith) in
    let same : width_in table words (buffer_of bits r) ≡ width = ap (width_in table words) b ∙ is in
    let more : (offset + 1) * width ≤ words / width * width = mul-le-mul_right width (omega arith) in
    let whole : words / width * width + words % width ≡ words = div-add-mod' words width in
    subst (λ w. IsEntry bits buffers words w r) (sym same) (record {
      inside = omega (arith, b);
      wide = wide;
      first = omega (arith, o);
      last = subst (λ n. n * width + width ≤ words) (sym o) (omega arith);
    })

-- the last of some references is put in first
pub those-last : (rs : List ℕ) (r : ℕ) (m n f : Records) → ((q : ℕ) → f q ≡ cond (eqb q r) (m r) (n q)) → (q : ℕ) → with_those rs m f q ≡ with_those (rs ++ r ∷ []) m n q
those-last [] r m n f is q = is q
those-last (p ∷ ps) r m n f is q = ap (cond (eqb q p) (m p)) (those-last ps r m n f is q)

-- in the same records the same is put
pub those-same : (rs : List ℕ) (m m' n n' : Records) → ((q : ℕ) → m' q ≡ m q) → ((q : ℕ) → n' q ≡ n q) → (q : ℕ) → with_those rs m' n' q ≡ with_those rs m n q
those-same [] m m' n n' e f q = f q
those-same (p ∷ ps) m m' n n' e f q = ap (λ ws. cond (eqb q p) ws (with_those ps m' n' q)) (e p) ∙ ap (cond (eqb q p) (m p)) (those-same ps m m' n n' e f q)

-- what was stored whole, with what a root reaches
pub those-records : (refs : List ℕ) (m : Records) (t : Bool) (q : ℕ) (n : Records) → n q ≡ cond t (m q) [] → with_those refs m n q ≡ cond t (m q) (unwrap_or (lookup (nat_eq q) (pairs_of refs m)) [])
those-records [] m t q n is = is
those-records (r ∷ rs) m t q n is = by_test (eqb q r) refl (those-records rs m t q n is)
  where
    both : (t : Bool) (ws : List ℕ) → ws ≡ cond t ws ws
    both true ws = refl
    both false ws = refl

    by_test : (s : Bool) → eqb q r ≡ s → with_those rs m n q ≡ cond t (m q) (unwrap_or (lookup (nat_eq q) (pairs_of rs m)) [])
        → cond s (m r) (with_those rs m n q) ≡ cond t (m q) (unwrap_or (cond s (Some (m r)) (lookup (nat_eq q) (pairs_of rs m))) [])
    by_test true e later = both t (m r) ∙ ap (λ p. cond t (m p) (m r)) (sym (eqb-true q r e))
    by_test false e later = later

-- one record is put in
pub put-is : (f n : Records) (ws : List ℕ) (r : ℕ) → f r ≡ ws → ((q : ℕ) → q ≢ r → f q ≡ n q) → (q : ℕ) → f q ≡ cond (eqb q r) ws (n q)
put-is f n ws r here others q = elim (cases_eq q r) [
  | inl same ↦ ap f same ∙ here ∙ sym (cond-true _ ws (n q) (eq-eqb q r same))
  | inr ne ↦ others q ne ∙ sym (cond-false _ ws (n q) (ne_eqb q r ne))
]

-- with what the last root reaches, the entries that were stored whole since are the records
pub map-records : (reaches : ℕ → Records → ℕ → List ℕ) (shape : ℕ) (table stamps : List ℕ) (bits buffers words last root n : ℕ) (refs : List ℕ) (all whole new : Records) → n ≡ last + 1
    → ((q : ℕ) → all q ≡ standing table bits buffers words q) → refs ≡ reaches shape all root → ((q : ℕ) → whole q ≡ chosen (Some n) table stamps bits buffers words q)
    → ((q : ℕ) → new q ≡ with_those refs all whole q) → new ≡ records_in reaches shape table stamps bits buffers words last root
map-records reaches shape table stamps bits buffers words last root n refs all whole new next stands reached chose added = λ k q. (step q) k
  where
    m : Records
    m = standing table bits buffers words

    step : (q : ℕ) → new q ≡ records_in reaches shape table stamps bits buffers words last root q
    step q =
        added q
        ∙ those-same refs m all (chosen (Some (last + 1)) table stamps bits buffers words) whole stands (λ p. chose p ∙ ap (λ x. chosen (Some x) table stamps bits buffers words p) next) q
        ∙ those-records refs m (is_whole table stamps bits buffers words (last + 1) q) q (chosen (Some (last + 1)) table stamps bits buffers words) refl
        ∙ ap (λ rs. cond (is_whole table stamps bits buffers words (last + 1) q) (m q) (unwrap_or (lookup (nat_eq q) (pairs_of rs m)) []))
        (reached ∙ ap (λ (f : Records). reaches shape f root) (λ k p. (stands p) k))
