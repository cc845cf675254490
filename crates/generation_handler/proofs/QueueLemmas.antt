-- Which holds a queue has room for, and that it stays a queue.
use Rattle.std.proofs.Common.{◌≡◌, ◌≢◌, ℕ, zero, suc, ◌-◌, ◌<◌, ◌≤◌, List, [], ◌∷◌, ◌++◌, length, map, get_or, take, Bool, true, false, ◌||◌, nat_eq, refl, sym, ap, ap₂, subst, ◌∙◌, ⊎_elim, arith}
use Rattle.std.specs.Prelude.{All}
use Rattle.std.specs.List.{AllByRecursion, IsDistinct, list_any}
use Rattle.std.proofs.lemmas.List.{length-map, length_push, get_or-map, map-append, take_at}
use Rattle.std.proofs.Math.Seq.{get_or-append_seam}
use Rattle.std.proofs.lemmas.List.Elements.{All-head, All-tail, All-push}
use Rattle.std.proofs.lemmas.List.Quantifiers.{all_pairs_push}
use Rattle.std.proofs.lemmas.List.Folds.{list_any-append}
use Rattle.std.proofs.lemmas.Bool.{or_cases, eq-eqb, eqb-true, ne_eqb, true≢false}
use Rattle.std.proofs.lemmas.Bool.Decides.{Decides-eqb}
use Rattle.std.proofs.lemmas.Cmp.{nat_eq_equiv}
use Rattle.std.proofs.lemmas.Map.Keys.{IsDistinct-push}
use Rattle.std.proofs.lemmas.Map.Made.{IsDistinct-from_AllPairs, length-le_from_is_member}
use Rattle.std.proofs.lemmas.Map.Steps.{length-le_from_distinct_below}
use Rattle.generation_handler.specs.Queues.{first_entry, newest_of, renewed, has_hold, IsQueue}
use Rattle.generation_handler.specs.declared.HoldEntry.{HoldEntry}

abbrev holds_of : List HoldEntry → List ℕ
holds_of queue = map (λ entry. entry.hold) queue

hold-at : (queue : List HoldEntry) (i : ℕ) (d : HoldEntry) (n : ℕ) → i < length queue → get_or (holds_of queue) i n ≡ (get_or queue i d).hold
hold-at queue i d n below = get_or-map (λ entry. entry.hold) queue i d n below

-- a hold is open exactly where it is among the numbers of the open ones
member-holds : (queue : List HoldEntry) (hold : ℕ) → list_any (nat_eq hold) (holds_of queue) ≡ has_hold queue hold
member-holds [] hold = refl
member-holds (entry ∷ queue) hold = ap₂ (λ a b. a || b) (nat_eq_equiv.symm hold entry.hold) (member-holds queue hold)

member-below : (queue : List HoldEntry) → All (λ entry. entry.hold < 16) queue → (hold : ℕ) → has_hold queue hold ≡ true → hold < 16
member-below [] below hold is = absurd (true≢false (sym is))
member-below (entry ∷ queue) below hold is = ⊎_elim
    (λ same. subst (λ h. h < 16) (eqb-true entry.hold hold same) (All-head (λ (e : HoldEntry). e.hold < 16) entry queue below))
    (λ later. member-below queue (All-tail (λ (e : HoldEntry). e.hold < 16) entry queue below) hold later)
    (or_cases (nat_eq entry.hold hold) (has_hold queue hold) is)

distinct-holds : (queue : List HoldEntry) → IsQueue queue → IsDistinct nat_eq (holds_of queue)
distinct-holds queue is = IsDistinct-from_AllPairs Decides-eqb (holds_of queue) (λ i j d before below same.
    let size = length-map queue (λ (entry : HoldEntry). entry.hold) in
    is.apart i j first_entry before (omega arith) (sym (hold-at queue i first_entry d (omega arith)) ∙ same ∙ hold-at queue j first_entry d (omega arith)))

-- a queue has at most 16
pub few-holds : (queue : List HoldEntry) → IsQueue queue → length queue ≤ 16
few-holds queue is =
    let few : length (holds_of queue) ≤ 16 = length-le_from_distinct_below (holds_of queue) 16 (distinct-holds queue is)
    (λ h there. member-below queue is.below h (sym (member-holds queue h) ∙ there)) in
    omega (arith, few, length-map queue (λ (entry : HoldEntry). entry.hold))

-- a queue with a closed hold has room for it
pub closed-room : (queue : List HoldEntry) (hold : ℕ) → IsQueue queue → hold < 16 → has_hold queue hold ≡ false → length queue < 16
closed-room queue hold is low closed =
    let more = holds_of queue ++ hold ∷ [] in
    let few : length more ≤ 16 = length-le_from_distinct_below more 16
    (IsDistinct-push nat_eq_equiv (holds_of queue) hold (distinct-holds queue is) (member-holds queue hold ∙ closed))
    (λ h there. ⊎_elim
    (λ old. member-below queue is.below h (sym (member-holds queue h) ∙ old))
    (λ new. ⊎_elim (λ same. subst (λ k. k < 16) (sym (eqb-true h hold same)) low) (λ no. absurd (true≢false (sym no))) (or_cases (nat_eq h hold) false new))
    (or_cases (list_any (nat_eq h) (holds_of queue)) (list_any (nat_eq h) (hold ∷ [])) (sym (list_any-append (nat_eq h) (holds_of queue) (hold ∷ [])) ∙ there))) in
    omega (arith, few, length_push (holds_of queue) hold, length-map queue (λ (entry : HoldEntry). entry.hold))

-- the numbers below n
abbrev below_list : ℕ → List ℕ
below_list zero = []
below_list (suc n) = n ∷ below_list n

length-below_list : (n : ℕ) → length (below_list n) ≡ n
length-below_list zero = refl
length-below_list (suc n) = ap suc (length-below_list n)

below_list-member : (n k : ℕ) → list_any (nat_eq k) (below_list n) ≡ true → k < n
below_list-member zero k is = absurd (true≢false (sym is))
below_list-member (suc n) k is = ⊎_elim
    (λ same. let e = eqb-true k n same in omega arith)
    (λ later. let below = below_list-member n k later in omega arith)
    (or_cases (nat_eq k n) (list_any (nat_eq k) (below_list n)) is)

below_list-apart : (n m : ℕ) → m ≤ n → AllByRecursion (λ y. nat_eq n y ≡ false) (below_list m)
below_list-apart n zero low = tt
below_list-apart n (suc m) low = (ne_eqb n m (λ e. omega arith), below_list-apart n m (omega arith))

below_list-distinct : (n : ℕ) → IsDistinct nat_eq (below_list n)
unfolding IsDistinct
below_list-distinct zero = tt
below_list-distinct (suc n) = (below_list-apart n n (omega arith), below_list-distinct n)

-- where each hold is open there are 16
pub all-open : (queue : List HoldEntry) → ((k : ℕ) → k < 16 → has_hold queue k ≡ true) → 16 ≤ length queue
all-open queue open_holds =
    let many = length-le_from_is_member nat_eq_equiv (below_list 16) (holds_of queue) (below_list-distinct 16)
    (λ k there. member-holds queue k ∙ open_holds k (below_list-member 16 k there)) in
    omega (arith, many, length-below_list 16, length-map queue (λ (entry : HoldEntry). entry.hold))

closed-apart : (queue : List HoldEntry) (hold : ℕ) → has_hold queue hold ≡ false → (k : ℕ) (d : HoldEntry) → k < length queue → (get_or queue k d).hold ≢ hold
closed-apart [] hold closed k d below same = omega arith
closed-apart (entry ∷ queue) hold closed zero d below same =
    true≢false (sym (ap (λ b. b || has_hold queue hold) (eq-eqb entry.hold hold same)) ∙ closed)
closed-apart (entry ∷ queue) hold closed (suc k) d below same =
    closed-apart queue hold (neither (nat_eq entry.hold hold) (has_hold queue hold) closed) k d (omega arith) same
  where
    neither : (a b : Bool) → (a || b) ≡ false → b ≡ false
    neither true b is = absurd (true≢false is)
    neither false b is = is

pub queue-append : (queue : List HoldEntry) (entry : HoldEntry) → IsQueue queue → entry.hold < 16 → has_hold queue entry.hold ≡ false → IsQueue (queue ++ entry ∷ [])
queue-append queue entry is low closed = record {
  some = omega (arith, length_push queue entry);
  below = All-push (λ (e : HoldEntry). e.hold < 16) queue entry is.below low;
  apart = all_pairs_push (λ (older : HoldEntry) (newer : HoldEntry). older.hold ≢ newer.hold) queue entry is.apart (closed-apart queue entry.hold closed);
}

-- a queue of the same holds
same-holds : (queue next : List HoldEntry) → holds_of next ≡ holds_of queue → IsQueue queue → IsQueue next
same-holds queue next same is =
    let size : length next ≡ length queue = sym (length-map next (λ (e : HoldEntry). e.hold)) ∙ ap length same ∙ length-map queue (λ (e : HoldEntry). e.hold) in
    let at : (i : ℕ) (d : HoldEntry) → i < length next → (get_or next i d).hold ≡ (get_or queue i d).hold =
    λ i d below. sym (hold-at next i d 0 below) ∙ ap (λ holds. get_or holds i 0) same ∙ hold-at queue i d 0 (omega arith) in
    record {
      some = let some = is.some in omega arith;
      below = λ i d below. subst (λ h. h < 16) (sym (at i d below)) (is.below i d (omega arith));
      apart = λ i j d before below e. is.apart i j d before (omega arith) (sym (at i d (omega arith)) ∙ e ∙ at j d below);
    }

-- the newest hold with another generation
pub queue-renewed : (older : List HoldEntry) (newest next : HoldEntry) → next.hold ≡ newest.hold → IsQueue (older ++ newest ∷ []) → IsQueue (older ++ next ∷ [])
queue-renewed older newest next same is = same-holds (older ++ newest ∷ []) (older ++ next ∷ [])
    (map-append (λ (e : HoldEntry). e.hold) older (next ∷ []) ∙ ap (λ h. holds_of older ++ h ∷ []) same ∙ sym (map-append (λ (e : HoldEntry). e.hold) older (newest ∷ [])))
    is

-- the newest of a queue that is written out, and that queue with its newest renewed
pub newest_of-append : (older : List HoldEntry) (newest : HoldEntry) → newest_of (older ++ newest ∷ []) ≡ newest
newest_of-append older newest =
    let last : length (older ++ newest ∷ []) - 1 ≡ length older = omega (arith, length_push older newest) in
    ap (λ i. get_or (older ++ newest ∷ []) i first_entry) last ∙ get_or-append_seam older newest [] first_entry

pub renewed-append : (older : List HoldEntry) (newest : HoldEntry) (generation first_commit : ℕ)
    → renewed (older ++ newest ∷ []) generation first_commit ≡ older ++ record newest { generation = generation; first_commit = first_commit } ∷ []
renewed-append older newest generation first_commit =
    let last : length (older ++ newest ∷ []) - 1 ≡ length older = omega (arith, length_push older newest) in
    let next = λ (e : HoldEntry). record e { generation = generation; first_commit = first_commit } in
    ap (λ i. take i (older ++ newest ∷ []) ++ next (newest_of (older ++ newest ∷ [])) ∷ []) last
    ∙ ap (λ front. front ++ next (newest_of (older ++ newest ∷ [])) ∷ []) (take_at older (newest ∷ []) (length older) refl)
    ∙ ap (λ e. older ++ next e ∷ []) (newest_of-append older newest)
