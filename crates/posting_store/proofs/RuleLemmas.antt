-- The rule by which a changed list is a bit vector, and what a change in two steps makes.
use Rattle.std.proofs.Common.{◌≡◌, ℕ, ℤ, pos, ◌+◌, ◌*◌, ◌<◌, ◌≤◌, Bool, true, false, cond, nat_eq, nat_le, ◌&&◌, ◌||◌, true≢false, List, [], ◌∷◌, inl, inr, length, Result, Ok, Err, refl, sym, ap, subst, ◌∙◌, arith}
use Rattle.std.specs.Prelude.{IfOk, IfErr}
use Rattle.std.proofs.lemmas.Bool.{and_parts, eqb-true, leb-true, le-leb}
use Rattle.std.specs.Map.{keys_of}
use Rattle.list_lemmas.proofs.Tests.{too_many}
use Rattle.entry_ref.specs.Records.{Records}
use Rattle.frozen_btree.specs.Builds.{nodes_of}
use Rattle.store_api.specs.Calls.{RefusesOf}
use Rattle.store_api.specs.Ledgers.{Ledger}
use Rattle.store_api.specs.Parts.{Owns}
use Rattle.store_api.specs.Statuses.{in_use}
use Rattle.store_api.specs.Units.{MayDo, MakesWithin}
use Rattle.store_api.specs.declared.store.StoreError.{StoreError}
use Rattle.store_api.proofs.PartLemmas.{turns-same, turns-then}
use Rattle.image_format.specs.Postings.{is_dense}
use Rattle.bit_vector.specs.Changes.{vector_most, IsVectorWidth}
use Rattle.bit_vector.specs.Vectors.{count_blocks}
use Rattle.posting_store.specs.Lists.{list_at, is_vector, IsList, IsPlain}
use Rattle.posting_store.specs.Changes.{list_part, list_most, list_change_most, form_most, IsListWidth, IsFormWidth, IsListChangeWidth, MakesByRule, MakesList}
use Rattle.posting_store.proofs.ChangeLemmas.{counts_both, counts_weaker, tree_most}
use Rattle.posting_store.proofs.FlowLemmas.{flows_both, flows_nothing}
use Rattle.posting_store.proofs.FormLemmas.{no_vector, plain_of}
use Rattle.posting_store.proofs.RefusalLemmas.{if_more}
use Rattle.posting_store.proofs.VectorLemmas.{vector_many}

-- only a long list is dense
pub dense_many : (dense : Bool) (count documents : ℕ) → is_dense dense count documents ≡ true → 8 < count
dense_many dense count documents is =
    let both = and_parts (dense && nat_le 128 count) (nat_le documents (32 * count)) is in
    let long = leb-true 128 count (and_parts dense (nat_le 128 count) both.0).1 in
    omega (arith, long)

pub short_sparse : (dense : Bool) (count documents : ℕ) → count ≤ 8 → is_dense dense count documents ≡ false
short_sparse dense count documents few = told (is_dense dense count documents) refl
  where
    told : (b : Bool) → is_dense dense count documents ≡ b → b ≡ false
    told true is = absurd (let many = dense_many dense count documents is in omega (arith, many, few))
    told false is = refl

pub none_dense : (dense : Bool) (count documents : ℕ) → dense ≡ false → is_dense dense count documents ≡ false
none_dense dense count documents is = ap (λ d. is_dense d count documents) is

-- ---- bounds
abbrev at_width : Bool → Bool → ℕ → ℕ → ℕ
at_width block node blocks nodes = cond block blocks (cond node nodes 0)

-- nodes on a path, and then blocks and nodes of a bit vector
path_then : (w path blocks nodes : ℕ) → cond (nat_eq w 34) path 0 + vector_most blocks nodes w ≤ vector_most blocks (path + nodes) w
path_then w path blocks nodes = told (nat_eq w 64) refl
  where
    told : (x : Bool) → nat_eq w 64 ≡ x → cond (nat_eq w 34) path 0 + at_width x (nat_eq w 34) blocks nodes ≤ at_width x (nat_eq w 34) blocks (path + nodes)
    told true is =
        subst (λ t. cond t path 0 + blocks ≤ blocks) (sym (let e : nat_eq w 34 ≡ false = ap (λ v. nat_eq v 34) (eqb-true w 64 is) in e)) (omega arith)
    told false is = elim (nat_eq w 34) as (λ t. cond t path 0 + cond t nodes 0 ≤ cond t (path + nodes) 0) [
      | true ↦ omega arith
      | false ↦ omega arith
    ]

-- a block and nodes of a bit vector, and then nodes
block_then : (w path nodes : ℕ) → vector_most 1 path w + vector_most 0 nodes w ≤ vector_most 1 (path + nodes) w
block_then w path nodes =
    elim (nat_eq w 64) as (λ x. at_width x (nat_eq w 34) 1 path + at_width x (nat_eq w 34) 0 nodes ≤ at_width x (nat_eq w 34) 1 (path + nodes)) [
      | true ↦ omega arith
      | false ↦ elim (nat_eq w 34) as (λ t. cond t path 0 + cond t nodes 0 ≤ cond t (path + nodes) 0) [
        | true ↦ omega arith
        | false ↦ omega arith
      ]
    ]

pub most_then : (was is : Bool) (levels : ℕ) (docs : List (ℕ × ℤ)) (w : ℕ) → (was ≡ true → 8 < length docs) → (is ≡ true → 8 < length docs)
    → list_change_most was was levels docs w + form_most was is docs w ≤ list_change_most was is levels docs w
most_then false false levels docs w was is = let e : list_most levels (length docs) w + 0 ≤ list_most levels (length docs) w = omega arith in e
most_then true true levels docs w was is = let e : vector_most 1 (2 * levels + 1) w + 0 ≤ vector_most 1 (2 * levels + 1) w = omega arith in e
most_then false true levels docs w was is =
    let b = count_blocks (keys_of docs) in
    subst (λ k. k + vector_most b (nodes_of b) w ≤ vector_most b (2 * levels + 1 + nodes_of b) w) (sym (tree_most levels (length docs) w (is refl)))
    (path_then w (2 * levels + 1) b (nodes_of b))
most_then true false levels docs w was is =
    subst (λ t. vector_most 1 (2 * levels + 1) w + vector_most 0 (nodes_of (length docs)) w
    ≤ cond t (list_most levels (length docs) w) (vector_most 1 (2 * levels + 1 + nodes_of (length docs)) w)) (sym (too_many (length docs) 8 (was refl)))
    (block_then w (2 * levels + 1) (nodes_of (length docs)))

-- a list that is short in the end
pub short_counts : {H : Type 0} (a b : Ledger H) (was dense : Bool) (documents levels : ℕ) (docs : List (ℕ × ℤ)) → length docs ≤ 8
    → MakesWithin a b (list_most levels (length docs)) → MakesWithin a b (list_change_most was (is_dense dense (length docs) documents) levels docs)
short_counts a b was dense documents levels docs few made =
    subst (λ is. MakesWithin a b (list_change_most was is levels docs)) (sym (short_sparse dense (length docs) documents few))
    (counts_weaker a b (list_most levels (length docs)) (list_change_most was false levels docs) (most was) made)
  where
    most : (was : Bool) (w : ℕ) → list_most levels (length docs) w ≤ list_change_most was false levels docs w
    most false w = omega arith
    most true w =
        subst (λ t. list_most levels (length docs) w ≤ cond t (list_most levels (length docs) w) (vector_most 1 (2 * levels + 1 + nodes_of (length docs)) w))
        (sym (le-leb (length docs) 8 few)) (omega arith)

-- ---- widths
pub changed_more : (was is : Bool) (count w : ℕ) → IsListChangeWidth was count w → IsListChangeWidth (was || is) count w
changed_more false false count w one = one
changed_more false true count w one = inl one
changed_more true is count w one = one

pub changed_list : (was : Bool) (count w : ℕ) → IsListWidth count w → IsListChangeWidth was count w
changed_list false count w one = one
changed_list true count w one = inl one

pub changed_form : (was is : Bool) (count w : ℕ) → (was ≡ true → 8 < count) → (is ≡ true → 8 < count) → IsFormWidth was is w → IsListChangeWidth (was || is) count w
changed_form false false count w was is one = absurd one
changed_form true true count w was is one = absurd one
changed_form false true count w was is one = inr (record { many = is refl; width_is = one })
changed_form true false count w was is one = inr (record { many = was refl; width_is = one })

pub changed_vector : (count w : ℕ) → 8 < count → IsVectorWidth w → IsListChangeWidth true count w
changed_vector count w many one = inr (record { many = many; width_is = one })

-- ---- a list that stays
pub makes_same : {H : Type 0} (a : Ledger H) (m : Records) (word : ℕ) (dense : Bool) → IsList m word → is_vector word ≡ dense → Owns a m (list_part word ∷ [])
    → MakesList a a m m word (list_at m word) dense word
makes_same a m word dense list form owns = record {
  list_is = list;
  form = form;
  docs_are = refl;
  flows = flows_nothing (λ r. in_use (a.back r) ≡ true) m word;
  owns = owns;
  turns = turns-same a m (list_part word ∷ []);
}

-- ---- a list that was changed, and then its form
module _ {H : Type 0} (a b c : Ledger H) (m n o : Records) (word mid : ℕ) (docs : List (ℕ × ℤ)) (was : Bool) (makes : MakesList a b m n word docs was mid) where
  long : was ≡ true → 8 < length docs
  long is = subst (λ (es : List (ℕ × ℤ)). 8 < length es) makes.docs_are (vector_many n mid (makes.form ∙ is) makes.list_is)

  pub makes_then : (next : ℕ) (dense : Bool) → MayDo a b → MayDo b c → MakesList b c n o mid (list_at n mid) dense next → MakesList a c m o word docs dense next
  makes_then next dense first then second = record {
    list_is = second.list_is;
    form = second.form;
    docs_are = second.docs_are ∙ makes.docs_are;
    flows = flows_both a b c m n o word mid next first then second.turns makes.flows second.flows;
    owns = second.owns;
    turns = turns-then a b c m n o (list_part word ∷ []) (list_part mid ∷ []) (list_part next ∷ []) makes.turns second.turns;
  }

  pub rule_makes : MayDo a b → MayDo b c → (result : Result ℕ StoreError) (dense : Bool) (documents : ℕ) → IfOk result (MakesByRule dense documents b c n o mid (list_at n mid))
      → IfOk result (MakesByRule dense documents a c m o word docs)
  rule_makes first then (Ok next) dense documents second =
      subst (λ (es : List (ℕ × ℤ)). MakesList a c m o word docs (is_dense dense (length es) documents) next) makes.docs_are
      (makes_then next (is_dense dense (length (list_at n mid)) documents) first then second)
  rule_makes first then (Err e) dense documents second = tt

  pub rule_counts : (dense : Bool) (documents levels : ℕ) → MayDo a b → MakesWithin a b (list_change_most was was levels docs)
      → MakesWithin b c (form_most (is_vector mid) (is_dense dense (length (list_at n mid)) documents) (list_at n mid))
      → MakesWithin a c (list_change_most was (is_dense dense (length docs) documents) levels docs)
  rule_counts dense documents levels may first second =
      let is = is_dense dense (length docs) documents in
      let moved : MakesWithin b c (form_most was is docs)
      = subst (λ v. MakesWithin b c (form_most v is docs)) makes.form
      (subst (λ (es : List (ℕ × ℤ)). MakesWithin b c (form_most (is_vector mid) (is_dense dense (length es) documents) es)) makes.docs_are second) in
      counts_weaker a c (λ w. list_change_most was was levels docs w + form_most was is docs w) (list_change_most was is levels docs)
      (λ w. most_then was is levels docs w long (dense_many dense (length docs) documents))
      (counts_both a b c (list_change_most was was levels docs) (form_most was is docs) may first moved)

  pub rule_refuses : (result : Result ℕ StoreError) (dense : Bool) (documents : ℕ) → MayDo a b
      → IfErr result (RefusesOf (IsFormWidth (is_vector mid) (is_dense dense (length (list_at n mid)) documents)) b c)
      → IfErr result (RefusesOf (IsListChangeWidth (was || is_dense dense (length docs) documents) (length docs)) a c)
  rule_refuses result dense documents may second =
      let is = is_dense dense (length docs) documents in
      let moved : IfErr result (RefusesOf (IsFormWidth was is) b c)
      = subst (λ v. IfErr result (RefusesOf (IsFormWidth v is) b c)) makes.form
      (subst (λ (es : List (ℕ × ℤ)). IfErr result (RefusesOf (IsFormWidth (is_vector mid) (is_dense dense (length es) documents)) b c)) makes.docs_are second) in
      if_more (IsFormWidth was is) (IsListChangeWidth (was || is) (length docs)) a b c result may
      (λ w one. changed_form was is (length docs) w long (dense_many dense (length docs) documents) one) moved

  pub rule_plain : (dense : Bool) → (dense ≡ false → IsPlain word) → was ≡ is_vector word → dense ≡ false → IsPlain mid
  rule_plain dense plain kept none = plain_of mid (makes.form ∙ kept ∙ no_vector word (plain none))

-- a weight that a bit vector gets
pub one_weight : (dense : Bool) (word : ℕ) (weight : ℤ) → (dense ≡ false → IsPlain word) → (dense ≡ true → weight ≡ pos 1) → is_vector word ≡ true → weight ≡ pos 1
one_weight true word weight plain one is = one refl
one_weight false word weight plain one is = absurd (true≢false (sym is ∙ no_vector word (plain refl)))

-- the first step alone
pub first_counts : {H : Type 0} (a b : Ledger H) (was is : Bool) (levels : ℕ) (docs : List (ℕ × ℤ)) → (was ≡ true → 8 < length docs) → (is ≡ true → 8 < length docs)
    → MakesWithin a b (list_change_most was was levels docs) → MakesWithin a b (list_change_most was is levels docs)
first_counts a b was is levels docs long dense made =
    counts_weaker a b (list_change_most was was levels docs) (list_change_most was is levels docs) (λ w. let e = most_then was is levels docs w long dense in omega (arith, e)) made
