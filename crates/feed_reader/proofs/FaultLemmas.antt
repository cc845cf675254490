-- The first faulty line of a feed.
use Rattle.std.proofs.Common.{◌≡◌, ℕ, ◌+◌, Bool, true, false, cond, List, [], ◌∷◌, ◌++◌, length, Result, Ok, Err, refl, sym, ◌∙◌, ap, subst, arith, inl, inr}
use Rattle.std.specs.Prelude.{◌⊎◌, IsOk, filter, not}
use Rattle.std.specs.List.{AllByRecursion, AllZip}
use Rattle.attr_types.specs.declared.field.Field.{Field}
use Rattle.attr_types.specs.declared.op.Op.{Op}
use Rattle.feed_reader.specs.declared.refusal.Refusal.{Refusal}
use Rattle.feed_reader.specs.Lines.{lines_of, is_blank}
use Rattle.feed_reader.specs.Grammar.{op_of_line}
use Rattle.feed_reader.specs.Feed.{Fault, with_op, ops_of_lines, feed_of}
use Rattle.feed_reader.specs.Rows.{IsSoundLine, IsFirstFault, RefusedByFirstFault, GivesEachOp}

-- the fault of lines that are numbered from n
record FaultFrom (fields : List Field) (n : ℕ) (lines : List (List ℕ)) (line : ℕ) (refusal : Refusal) : Type 0 where
  before : List (List ℕ)
  text : List ℕ
  after : List (List ℕ)
  cut : lines ≡ before ++ (text ∷ after)
  place : line ≡ n + length before
  sound : AllByRecursion (IsSoundLine fields) before
  faulty : (is_blank text ≡ false) × (op_of_line fields text ≡ Err refusal)

past : (fields : List Field) (n : ℕ) (text : List ℕ) (lines : List (List ℕ)) (line : ℕ) (refusal : Refusal) → IsSoundLine fields text → FaultFrom fields (n + 1) lines line refusal
    → FaultFrom fields n (text ∷ lines) line refusal
past fields n text lines line refusal sound fault = record {
  before = text ∷ fault.before;
  text = fault.text;
  after = fault.after;
  cut = ap (λ ls. text ∷ ls) fault.cut;
  place = omega (arith, fault.place);
  sound = (sound, fault.sound);
  faulty = fault.faulty;
}

-- a line by its three cases
at_line : (fields : List Field) (n : ℕ) (text : List ℕ) (lines : List (List ℕ)) (line : ℕ) (refusal : Refusal) (blank : Bool) (said : Result Op Refusal) (more : Result (List Op) Fault)
    → is_blank text ≡ blank → op_of_line fields text ≡ said → (more ≡ Err (line, refusal) → FaultFrom fields (n + 1) lines line refusal)
    → cond blank more (with_op n said more) ≡ Err (line, refusal) → FaultFrom fields n (text ∷ lines) line refusal
at_line fields n text lines line refusal true said more is says later e = past fields n text lines line refusal (inl is) (later e)
at_line fields n text lines line refusal false (Err other) more is says later e =
    let pair : (n, other) ≡ (line, refusal) = cc in
    let place = ap (λ (p : Fault). p.0) pair in
    let same = ap (λ (p : Fault). p.1) pair in
    record { before = []; text = text; after = lines; cut = refl; place = omega (arith, place); sound = tt; faulty = (is, subst (λ (r : Refusal). op_of_line fields text ≡ Err r) same says) }
at_line fields n text lines line refusal false (Ok op) (Ok ops) is says later e = cc
at_line fields n text lines line refusal false (Ok op) (Err fault) is says later e =
    past fields n text lines line refusal (inr (subst IsOk (sym says) refl)) (later (same fault e)) where
      same : (fault : Fault) → (let said : Result (List Op) Fault = Err fault in said ≡ Err (line, refusal)) → (let said : Result (List Op) Fault = Err fault in said ≡ Err (line, refusal))
      same fault e = e

fault_from : (fields : List Field) (n : ℕ) (lines : List (List ℕ)) (line : ℕ) (refusal : Refusal) → ops_of_lines fields n lines ≡ Err (line, refusal) → FaultFrom fields n lines line refusal
unfolding ops_of_lines
fault_from fields n [] line refusal e = cc
fault_from fields n (text ∷ lines) line refusal e =
    at_line fields n text lines line refusal (is_blank text) (op_of_line fields text) (ops_of_lines fields (n + 1) lines) refl refl (fault_from fields (n + 1) lines line refusal) e

-- and back: sound lines before a fault change nothing of it
over_sound : (n : ℕ) (blank : Bool) (said : Result Op Refusal) (fault : Fault) → (blank ≡ true) ⊎ IsOk said → cond blank (Err fault) (with_op n said (Err fault)) ≡ Err fault
over_sound n true said fault sound = refl
over_sound n false (Ok op) fault sound = refl
over_sound n false (Err refusal) fault (inl e) = cc
over_sound n false (Err refusal) fault (inr e) = cc

to_fault : (fields : List Field) (before : List (List ℕ)) (text : List ℕ) (after : List (List ℕ)) (n : ℕ) (refusal : Refusal) → AllByRecursion (IsSoundLine fields) before → is_blank text ≡ false
    → op_of_line fields text ≡ Err refusal
    → ops_of_lines fields n (before ++ (text ∷ after)) ≡ Err (n + length before, refusal)
unfolding ops_of_lines
to_fault fields [] text after n refusal sound blank says =
    let place : n ≡ n + 0 = omega arith in
    rw (blank, says) (ap (λ (k : ℕ). let said : Result (List Op) Fault = Err (k, refusal) in said) place)
to_fault fields (first ∷ before) text after n refusal sound blank says =
    let more = to_fault fields before text after (n + 1) refusal sound.1 blank says in
    let place : n + 1 + length before ≡ n + length (first ∷ before) = omega arith in
    ap (λ (r : Result (List Op) Fault). cond (is_blank first) r (with_op n (op_of_line fields first) r)) more
    ∙ over_sound n (is_blank first) (op_of_line fields first) (n + 1 + length before, refusal) sound.0
    ∙ ap (λ (k : ℕ). let said : Result (List Op) Fault = Err (k, refusal) in said) place

pub refused_by_fault : RefusedByFirstFault
unfolding feed_of
refused_by_fault fields bytes line refusal = (to, from) where
  to : ops_of_lines fields 1 (lines_of bytes) ≡ Err (line, refusal) → IsFirstFault fields (lines_of bytes) line refusal
  to e = let fault = fault_from fields 1 (lines_of bytes) line refusal e in
      record { before = fault.before; text = fault.text; after = fault.after; cut = fault.cut; place = omega (arith, fault.place); sound = fault.sound; faulty = fault.faulty }

  from : IsFirstFault fields (lines_of bytes) line refusal → ops_of_lines fields 1 (lines_of bytes) ≡ Err (line, refusal)
  from fault =
      let place : 1 + length fault.before ≡ line = omega (arith, fault.place) in
      ap (ops_of_lines fields 1) fault.cut ∙ to_fault fields fault.before fault.text fault.after 1 refusal fault.sound fault.faulty.0 fault.faulty.1
      ∙ ap (λ (k : ℕ). let said : Result (List Op) Fault = Err (k, refusal) in said) place

-- ---- operations

abbrev Gives : List Field → List ℕ → Op → Type 0
Gives fields line op = op_of_line fields line ≡ Ok op

abbrev said : List (List ℕ) → List (List ℕ)
said lines = filter (λ line. not (is_blank line)) lines

-- a line by its cases
op_at : (fields : List Field) (n : ℕ) (text : List ℕ) (rest : List (List ℕ)) (blank : Bool) (says : Result Op Refusal) (more : Result (List Op) Fault) (ops : List Op)
    → op_of_line fields text ≡ says → ((ops : List Op) → more ≡ Ok ops → AllZip (Gives fields) rest ops)
    → cond blank more (with_op n says more) ≡ Ok ops → AllZip (Gives fields) (cond (not blank) (text ∷ rest) rest) ops
op_at fields n text rest true says more ops is later e = later ops e
op_at fields n text rest false (Err refusal) more ops is later e = cc
op_at fields n text rest false (Ok op) (Err fault) ops is later e = cc
op_at fields n text rest false (Ok op) (Ok others) ops is later e =
    let whole : op ∷ others ≡ ops = cc in
    subst (λ (os : List Op). AllZip (Gives fields) (text ∷ rest) os) whole (is, later others refl)

ops_from : (fields : List Field) (n : ℕ) (lines : List (List ℕ)) (ops : List Op) → ops_of_lines fields n lines ≡ Ok ops → AllZip (Gives fields) (said lines) ops
unfolding ops_of_lines
ops_from fields n [] ops e = let is : [] ≡ ops = cc in subst (λ (os : List Op). AllZip (Gives fields) [] os) is tt
ops_from fields n (text ∷ lines) ops e =
    op_at fields n text (said lines) (is_blank text) (op_of_line fields text) (ops_of_lines fields (n + 1) lines) ops refl (ops_from fields (n + 1) lines) e

op_back : (fields : List Field) (n : ℕ) (text : List ℕ) (rest : List (List ℕ)) (blank : Bool) (more : Result (List Op) Fault) (ops : List Op)
    → ((ops : List Op) → AllZip (Gives fields) rest ops → more ≡ Ok ops)
    → AllZip (Gives fields) (cond (not blank) (text ∷ rest) rest) ops → cond blank more (with_op n (op_of_line fields text) more) ≡ Ok ops
op_back fields n text rest true more ops later given = later ops given
op_back fields n text rest false more [] later given = absurd given
op_back fields n text rest false more (op ∷ ops) later given =
    ap (λ (r : Result Op Refusal). with_op n r more) given.0 ∙ ap (with_op n (Ok op)) (later ops given.1)

ops_back : (fields : List Field) (n : ℕ) (lines : List (List ℕ)) (ops : List Op) → AllZip (Gives fields) (said lines) ops → ops_of_lines fields n lines ≡ Ok ops
unfolding ops_of_lines
ops_back fields n [] [] given = refl
ops_back fields n [] (op ∷ ops) given = absurd given
ops_back fields n (text ∷ lines) ops given = op_back fields n text (said lines) (is_blank text) (ops_of_lines fields (n + 1) lines) ops (ops_back fields (n + 1) lines) given

pub gives_each : GivesEachOp
unfolding feed_of
gives_each fields bytes ops = (ops_from fields 1 (lines_of bytes) ops, ops_back fields 1 (lines_of bytes) ops)
