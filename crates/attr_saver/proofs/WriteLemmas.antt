-- What is written in one call after another.
use Rattle.std.proofs.Common.{◌≡◌, ℕ, suc, ◌+◌, List, [], ◌∷◌, ◌++◌, length, take, Option, Result, Ok, Err, refl, sym, ap, subst, ◌∙◌, append_assoc, length-append, arith}
use Rattle.std.proofs.KnownBytes.{Appends-nil, Appends-trans}
use Rattle.std.proofs.lemmas.List.{append-nil, take-append-le}
use Rattle.std.specs.Io.KnownBytes.{Appends}
use Rattle.attr_io.specs.Bytes.{AppendsFront}
use Rattle.attr_io.specs.Faults.{Rose}
use Rattle.attr_saver.specs.Stored.{Writes}

take-past : {A : Type 0} (xs ys : List A) (n : ℕ) → take (length xs + n) (xs ++ ys) ≡ xs ++ take n ys
take-past [] ys n = ap (λ k. take k ys) (let e : 0 + n ≡ n = omega arith in e)
take-past (x ∷ xs) ys n =
    ap (λ k. take k (x ∷ (xs ++ ys))) (let e : suc (length xs) + n ≡ suc (length xs + n) = omega arith in e)
    ∙ ap (λ zs. x ∷ zs) (take-past xs ys n)

-- a front of what comes first is a front of both
front-of : (a b : Option (List ℕ)) (xs ys : List ℕ) → AppendsFront a b xs → AppendsFront a b (xs ++ ys)
front-of a b xs ys (n, below, wrote) =
    let len = length-append xs ys in
    (n, omega (arith, below, len), subst (Appends a b) (sym (take-append-le n xs ys (omega (arith, below)))) wrote)

-- and a front of what comes behind, once the first is written
front-behind : (a b c : Option (List ℕ)) (xs ys : List ℕ) → Appends a b xs → AppendsFront b c ys → AppendsFront a c (xs ++ ys)
front-behind a b c xs ys first (n, below, wrote) =
    let len = length-append xs ys in
    (length xs + n, omega (arith, below, len), subst (Appends a c) (sym (take-past xs ys n)) (Appends-trans a b c xs (take n ys) first wrote))

module _ {T E : Type 0} (a b : Option (List ℕ)) (f g : ℕ) (xs : List ℕ) where
  -- a refusal stands for all that was to be written
  pub writes-cut : (ys : List ℕ) (e : E) → Writes {T = T} a b f g (Err e) xs → Writes {T = T} a b f g (Err e) (xs ++ ys)
  writes-cut ys e w = record { whole = tt; front = front-of a b xs ys w.front; cause = w.cause }

  pub writes-then : {U F : Type 0} (c : Option (List ℕ)) (h : ℕ) (ys : List ℕ) (x : T) (r : Result U F) → Writes {T = T} {E = E} a b f g (Ok x) xs → Writes b c g h r ys → Writes a c f h r (xs ++ ys)
  writes-then c h ys x (Ok y) first next = record {
    whole = Appends-trans a b c xs ys first.whole next.whole;
    front = tt;
    cause = record { later = omega (arith, first.cause.later, next.cause.later); kept = next.cause.kept ∙ first.cause.kept; failed = tt };
  }
  writes-then c h ys x (Err e) first next = record {
    whole = tt;
    front = front-behind a b c xs ys first.whole next.front;
    cause = record {
      later = omega (arith, first.cause.later, next.cause.later);
      kept = tt;
      failed = subst (λ k. Rose k h) first.cause.kept next.cause.failed;
    };
  }

-- the same text, written otherwise
pub writes-as : {T E : Type 0} {a b : Option (List ℕ)} {f g : ℕ} {r : Result T E} {xs ys : List ℕ} → Writes a b f g r xs → xs ≡ ys → Writes a b f g r ys
writes-as {T} {E} {a} {b} {f} {g} {r} w same = subst (λ text. Writes a b f g r text) same w

-- what was written so far, and what is left of the whole
pub record IsFront (old new : Option (List ℕ)) (faults_old faults_new : ℕ) (rest whole : List ℕ) : Type 0 where
  pub front : List ℕ
  pub parts : front ++ rest ≡ whole
  pub written : Appends old new front
  pub kept : faults_new ≡ faults_old

pub front-start : (a : Option (List ℕ)) (f : ℕ) (whole : List ℕ) → IsFront a a f f whole whole
front-start a f whole = record { front = []; parts = refl; written = Appends-nil a; kept = refl }

module _ (a b : Option (List ℕ)) (f g : ℕ) (rest whole : List ℕ) (is : IsFront a b f g rest whole) where
  pub front-on : {T E : Type 0} (c : Option (List ℕ)) (h : ℕ) (piece more : List ℕ) (x : T) → rest ≡ piece ++ more → Writes {T = T} {E = E} b c g h (Ok x) piece → IsFront a c f h more whole
  front-on c h piece more x split next = record {
    front = is.front ++ piece;
    parts = append_assoc is.front piece more ∙ ap (λ xs. is.front ++ xs) (sym split) ∙ is.parts;
    written = Appends-trans a b c is.front piece is.written next.whole;
    kept = next.cause.kept ∙ is.kept;
  }

  pub front-cut : {T E : Type 0} (c : Option (List ℕ)) (h : ℕ) (piece more : List ℕ) (e : E) → rest ≡ piece ++ more → Writes {T = T} b c g h (Err e) piece → Writes {T = T} a c f h (Err e) whole
  front-cut c h piece more e split next = record {
    whole = tt;
    front = subst (AppendsFront a c) (ap (λ xs. is.front ++ xs) (sym split) ∙ is.parts)
        (front-behind a b c is.front (piece ++ more) is.written (front-of b c piece more next.front));
    cause = record {
      later = omega (arith, is.kept, next.cause.later);
      kept = tt;
      failed = subst (λ k. Rose k h) is.kept next.cause.failed;
    };
  }

  pub front-end : {T E : Type 0} (x : T) → rest ≡ [] → Writes {T = T} {E = E} a b f g (Ok x) whole
  front-end x none = record {
    whole = subst (Appends a b) (sym (append-nil is.front) ∙ ap (λ xs. is.front ++ xs) (sym none) ∙ is.parts) is.written;
    front = tt;
    cause = record { later = omega (arith, is.kept); kept = is.kept; failed = tt };
  }
