-- Reads of a list that is given piece by piece.
use Rattle.std.proofs.Common.{◌≡◌, ℕ, ◌+◌, ◌-◌, ◌<◌, ◌≤◌, List, [], ◌∷◌, ◌++◌, length, take, drop, refl, sym, ◌∙◌, ap, subst, arith, length-append, append-nil, append_assoc, All, Option, Some, None}
use Rattle.std.proofs.KnownBytes.{Consumes-nil, Consumes-trans}
use Rattle.std.proofs.lemmas.List.{drop-drop, take_rest, take-append-drop, take-take}
use Rattle.std.specs.Io.KnownBytes.{Consumes}
use Rattle.std.proofs.lemmas.List.Elements.{All-nil, All-push}
use Rattle.attr_io.specs.Bytes.{joined, ReadsPieces, HasMoreThan}

-- a read that gives the first bytes from a place on, and no more than were offered, loses just these
pub drop-read : (xs got : List ℕ) (at most n : ℕ) → n ≤ most
    → take n got ≡ take n (take most (take (length xs - at) (drop at xs)))
    → drop at xs ≡ take n got ++ drop (at + n) xs
drop-read xs got at most n few given =
    let first : take n got ≡ take n (drop at xs) =
    given ∙ (ap (λ rest. take n (take most rest)) (take_rest xs at) ∙ take-take n most (drop at xs) few) in
    rw (first, ← drop-drop n at xs) (sym (take-append-drop n (drop at xs)))

-- what comes behind
joined-more : (pieces : List (List ℕ)) (got : List ℕ) → joined (pieces ++ got ∷ []) ≡ joined pieces ++ got
joined-more [] got = append-nil got
joined-more (piece ∷ pieces) got = ap (λ rest. piece ++ rest) (joined-more pieces got) ∙ sym (append_assoc piece (joined pieces) got)

-- the reads so far, each of which took a byte at least
pub record TakesPieces (bytes : List ℕ) (old new : Option (List ℕ)) (reads_old reads_new : ℕ) : Type 0 where
  pub pieces : List (List ℕ)
  pub whole : bytes ≡ joined pieces
  pub taken : Consumes old new bytes
  pub some : All (λ got. 0 < length got) pieces
  pub count : reads_new ≤ reads_old + length pieces

pub takes_none : (old : Option (List ℕ)) (reads : ℕ) → TakesPieces [] old old reads reads
takes_none old reads = record { pieces = []; whole = refl; taken = Consumes-nil old; some = All-nil (λ (piece : List ℕ). 0 < length piece); count = omega arith }

pub takes_more : (bytes got : List ℕ) (old now new : Option (List ℕ)) (reads_old reads_now reads_new : ℕ) → TakesPieces bytes old now reads_old reads_now
    → Consumes now new got → 0 < length got → reads_new ≤ reads_now + 1 → TakesPieces (bytes ++ got) old new reads_old reads_new
takes_more bytes got old now new reads_old reads_now reads_new so_far taken some one = record {
  pieces = so_far.pieces ++ got ∷ [];
  whole = ap (λ front. front ++ got) so_far.whole ∙ sym (joined-more so_far.pieces got);
  taken = Consumes-trans old now new bytes got so_far.taken taken;
  some = All-push (λ (piece : List ℕ). 0 < length piece) so_far.pieces got so_far.some some;
  count = (let count = so_far.count in let long = length-append so_far.pieces (got ∷ []) in omega (arith, count, one, long));
}

pub reads_none : (limit piece : ℕ) (old : Option (List ℕ)) (reads : ℕ) → ReadsPieces limit piece old old reads reads
reads_none limit piece old reads =
    record { pieces = []; last = []; taken = Consumes-nil old; some = All-nil (λ (piece : List ℕ). 0 < length piece); within = omega arith; short = omega arith; count = omega arith }

-- one read more, whatever it gave
pub reads_more : (limit piece : ℕ) (bytes got : List ℕ) (old now new : Option (List ℕ)) (reads_old reads_now reads_new : ℕ) → TakesPieces bytes old now reads_old reads_now
    → length bytes ≤ limit → Consumes now new got → length got ≤ piece → reads_new ≤ reads_now + 1 → ReadsPieces limit piece old new reads_old reads_new
reads_more limit piece bytes got old now new reads_old reads_now reads_new so_far room taken short one = record {
  pieces = so_far.pieces;
  last = got;
  taken = subst (λ (front : List ℕ). Consumes old new (front ++ got)) so_far.whole (Consumes-trans old now new bytes got so_far.taken taken);
  some = so_far.some;
  within = subst (λ (front : List ℕ). length front ≤ limit) so_far.whole room;
  short = short;
  count = (let count = so_far.count in omega (arith, count, one));
}

-- the same of the reads so far and of the last one, by the names that a loop has for them
pub reads_on : (limit most most' : ℕ) (bytes got all : List ℕ) (old now new : Option (List ℕ)) (reads_old reads_now reads_new : ℕ) → most' ≡ most → all ≡ bytes ++ got
    → TakesPieces bytes old now reads_old reads_now → length bytes ≤ limit → Consumes now new got → length got ≤ most → 0 < length got → reads_new ≤ reads_now + 1
    → TakesPieces all old new reads_old reads_new × ReadsPieces limit most' old new reads_old reads_new
reads_on limit most most' bytes got all old now new reads_old reads_now reads_new same is so_far room taken short some one = (
  subst (λ (list : List ℕ). TakesPieces list old new reads_old reads_new) (sym is) (takes_more bytes got old now new reads_old reads_now reads_new so_far taken some one),
  subst (λ (n : ℕ). ReadsPieces limit n old new reads_old reads_new) (sym same) (reads_more limit most bytes got old now new reads_old reads_now reads_new so_far room taken short one),
)

-- what was read was there
pub has_more : (most : ℕ) (old new : Option (List ℕ)) (bytes : List ℕ) → Consumes old new bytes → most < length bytes → HasMoreThan most old
has_more most None new bytes taken many = (bytes, tt, many)
has_more most (Some known) None bytes taken many = absurd taken
has_more most (Some known) (Some rest) bytes taken many = (known, refl, (let long = ap length taken in let parts = length-append bytes rest in omega (arith, long, parts, many)))
