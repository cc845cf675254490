-- What rows with budgets spend.
use Rattle.std.proofs.Common.{set, get_or, ◌≡◌, ℕ, zero, suc, ◌+◌, ◌-◌, ◌*◌, ◌<◌, ◌≤◌, List, [], ◌∷◌, ◌++◌, length, refl, sym, ap, subst, ◌∙◌, arith, length-append, take, drop, Bool, true, false, true≢false}
use Rattle.std.proofs.Math.Nat.{mul-le-mul}
use Rattle.std.specs.List.{zip}
use Rattle.store_api.specs.Ledgers.{Ledger}
use Rattle.store_api.specs.Units.{MayDo}
use Rattle.store_api.proofs.Counts.{at_most-more}
use Rattle.frozen_nodes.specs.Makes.{CountsNodes}
use Rattle.frozen_nodes.proofs.MakesLemmas.{counts-then, counts-none}
use Rattle.frozen_btree.specs.Builds.{groups}
use Rattle.frozen_btree.specs.declared.rows.Row.{Row}
use Rattle.tree_changes.specs.Counts.{slots_of, slots_in, Sinks, Grows, LengthensFirst, Gains, FitBudgets, all_of, last_of, HasRoom, first_slots, IsShort, SpendsRows, SpendsBelow, SpendsSlots, Settles, Reaches, gain_of}
use Rattle.tree_changes.specs.Layers.{AreEmpty}
use Rattle.tree_changes.proofs.CountLemmas.{sinks-same, sinks-grow, grows-then, grows-above, first-made, fit-gained, gained, grows-gained, gained-last, front_of, front-size, front-all, fit-front, FitsFirst, fit-last, fit-more, last-more, all-more}

-- the first of these rows has room for the slots of a node
abbrev RoomFirst : ℕ → ℕ → List Row → Type 0
RoomFirst below budget [] = ⊥
RoomFirst below budget (row ∷ rows) = slots_of row + 2 * below < 17 * budget

-- all slots are in the first row, and fewer than a node has
room-none : (below budget : ℕ) (budgets : List ℕ) (rows : List Row) → 0 < below → FitBudgets below (budget ∷ budgets) rows → slots_in rows ≡ 0 → HasRoom below (budget ∷ budgets) rows
room-none below budget budgets [] some fit none = absurd fit
room-none below budget [] (row ∷ rows) some fit none = let rises = fit.0.rises in omega arith
room-none below budget (next ∷ budgets) (row ∷ rows) some fit none = let rises = fit.0.rises in room-none budget next budgets rows (omega arith) fit.1 (omega arith)

room-short : (budgets : List ℕ) (rows : List Row) → 0 < length budgets → FitBudgets 0 budgets rows → IsShort rows → slots_in (drop 1 rows) ≡ 0 → HasRoom 0 budgets rows
room-short [] rows some fit short none = absurd (omega arith)
room-short (budget ∷ budgets) [] some fit short none = absurd fit
room-short (budget ∷ []) (row ∷ rows) some fit short none = let paid = fit.0.paid in let one = short.some in let few = short.few in omega arith
room-short (budget ∷ next ∷ budgets) (row ∷ rows) some fit short none =
    let paid = fit.0.paid in let one = short.some in room-none budget next budgets rows (omega arith) fit.1 none

slots-drop : (k : ℕ) (rows : List Row) → slots_in rows ≡ 0 → slots_in (drop k rows) ≡ 0
slots-drop zero rows none = none
slots-drop (suc k) [] none = refl
slots-drop (suc k) (row ∷ rows) none = slots-drop k rows (omega arith)

room-next : (budgets : List ℕ) (row : Row) (rows : List Row) → HasRoom 0 budgets rows → HasRoom 0 (0 ∷ budgets) (row ∷ rows)
room-next [] row rows room = absurd room
room-next (next ∷ budgets) row rows room = room

fit-set : (below : ℕ) (budgets : List ℕ) (rows : List Row) (k : ℕ) (row : Row) → length budgets ≡ k → FitBudgets below budgets rows → FitBudgets below budgets (set rows k row)
fit-set below [] rows k row size fit = tt
fit-set below (budget ∷ budgets) [] k row size fit = absurd fit
fit-set below (budget ∷ budgets) (p ∷ rows) zero row size fit = absurd (omega arith)
fit-set below (budget ∷ budgets) (p ∷ rows) (suc k) row size fit = (fit.0, fit-set budget budgets rows k row (omega arith) fit.1)

grows-push : (spent gain k : ℕ) (a rows : List Row) (row d : Row) → k < length rows → length row.keys.items ≡ suc (length (get_or rows k d).keys.items)
    → Grows spent gain a (drop k rows) → Grows spent (gain + 1) a (drop k (set rows k row))
grows-push spent gain k a [] row d low more x = absurd (omega arith)
grows-push spent gain zero [] (q ∷ rows) row d low more x = absurd x
grows-push spent gain zero (p ∷ a) (q ∷ rows) row d low more x =
    let most = x.0.most in let alone = x.0.alone in
    (record { most = omega arith; alone = omega arith }, x.1)
grows-push spent gain (suc k) a (q ∷ rows) row d low more x = grows-push spent gain k a rows row d (omega arith) more x

room-last : (below : ℕ) (budgets : List ℕ) (rows : List Row) → HasRoom below budgets rows → RoomFirst (last_of below (front_of budgets)) (last_of below budgets) (drop (length (front_of budgets)) rows)
room-last below [] rows room = absurd room
room-last below (budget ∷ budgets) [] room = absurd room
room-last below (budget ∷ []) (row ∷ rows) room = room
room-last below (budget ∷ next ∷ budgets) (row ∷ rows) room = room-last budget (next ∷ budgets) rows room

-- a row that had room, after the slots of a node
fits-filled : (below below2 budget gain : ℕ) (a b : List Row) → RoomFirst below budget a → slots_in (drop 1 a) ≡ 0 → gain ≤ 16 → below2 ≤ budget
    → Grows (2 * below2) (2 * below + gain) a b → FitsFirst below2 budget b
fits-filled below below2 budget gain [] b room none few low x = absurd room
fits-filled below below2 budget gain (p ∷ a) [] room none few low x = absurd x
fits-filled below below2 budget gain (p ∷ a) (q ∷ b) room none few low x =
    let alone = x.0.alone in
    record { rises = low; paid = omega arith; most = omega arith }

drop-again : (k j : ℕ) (xs : List Row) → j ≡ suc k → drop 1 (drop k xs) ≡ drop j xs
drop-again k zero xs is = absurd (omega arith)
drop-again k (suc j) xs is = drop-one k xs ∙ ap (λ i. drop i xs) (sym is)
  where
    drop-one : (k : ℕ) (xs : List Row) → drop 1 (drop k xs) ≡ drop (suc k) xs
    drop-one zero xs = refl
    drop-one (suc k) [] = refl
    drop-one (suc k) (x ∷ xs) = drop-one k xs

-- the nodes of the first row, and what settling the rows above makes at most
pub first-counts : (budgets : List ℕ) (rows : List Row) (row : Row) (above : List Row) → 0 < length budgets → FitBudgets 0 budgets rows → LengthensFirst rows (row ∷ above)
    → groups (slots_of row) ≤ 2 * all_of budgets
first-counts [] rows row above some fit lengthens = absurd (omega arith)
first-counts (budget ∷ budgets) [] row above some fit lengthens = absurd fit
first-counts (budget ∷ budgets) (p ∷ a) row above some fit lengthens =
    let low = first-made budget (slots_of p) (slots_in a) (slots_of row) fit.0 lengthens.0 in omega arith

-- a row after the changes of a node below it
fits-closed : (below below2 budget changes gain : ℕ) (a b : List Row) → FitsFirst below budget a → gain ≤ 15 + 2 * changes → 0 < changes → below2 ≤ below + changes
    → Grows (2 * below2) (2 * below + gain) a b → FitsFirst below2 (budget + changes) b
fits-closed below below2 budget changes gain [] b fit few some low x = absurd fit
fits-closed below below2 budget changes gain (p ∷ a) [] fit few some low x = absurd x
fits-closed below below2 budget changes gain (p ∷ a) (q ∷ b) fit few some low x =
    let rises = fit.rises in let paid = fit.paid in let room = fit.most in let most = x.0.most in
    record { rises = omega arith; paid = omega arith; most = omega arith }

gain-some : (changes : ℕ) → 0 < changes → gain_of changes ≡ 2 * changes
gain-some zero some = absurd (omega arith)
gain-some (suc changes) some = refl

slots-gain : (slot first changes gain : ℕ) → 2 * first ≤ gain → suc gain ≤ slot + 2 * first + (1 - first) → (2 * (first + changes) ≤ gain + gain_of changes)
    × (suc (gain + gain_of changes) ≤ (slot + 1) + 2 * (first + changes) + (1 - (first + changes)))
slots-gain slot first zero gain least fewer = (omega arith, omega arith)
slots-gain slot first (suc changes) gain least fewer = (omega arith, omega arith)

slice-size : {A : Type 0} (xs : List A) (k : ℕ) → length (drop k xs) ≡ length xs - k
slice-size xs zero = omega arith
slice-size [] (suc k) = omega arith
slice-size (x ∷ xs) (suc k) = let rest = slice-size xs k in omega arith

slice-take : {A : Type 0} (xs : List A) (k : ℕ) → k ≤ length xs → length (take k xs) ≡ k
slice-take xs zero low = refl
slice-take [] (suc k) low = absurd (omega arith)
slice-take (x ∷ xs) (suc k) low = ap suc (slice-take xs k (omega arith))

pub slice-length : {A : Type 0} (xs : List A) (from to : ℕ) → from ≤ to → to ≤ length xs → length (take (to - from) (drop from xs)) ≡ to - from
slice-length xs from to low within = let size = slice-size xs from in slice-take (drop from xs) (to - from) (omega arith)

-- the lengths of two lists of one length
pub zip-size : (xs ys : List ℕ) → length xs ≡ length ys → length (zip xs ys) ≡ length xs
zip-size [] [] e = refl
zip-size [] (y ∷ ys) e = absurd (omega arith)
zip-size (x ∷ xs) [] e = absurd (omega arith)
zip-size (x ∷ xs) (y ∷ ys) e = ap suc (zip-size xs ys (omega arith))

-- the slots of a row that has more pairs
pub leaf-slots : (row row2 : Row) (more : List (ℕ × ℕ)) → length row.keys.items ≡ length row.nodes.items → length row2.keys.items ≡ length row2.nodes.items
    → zip row2.keys.items row2.nodes.items ≡ zip row.keys.items row.nodes.items ++ more → slots_of row2 ≡ slots_of row + length more
leaf-slots row row2 more even even2 pairs =
    let a = zip-size row.keys.items row.nodes.items even in
    let b = zip-size row2.keys.items row2.nodes.items even2 in
    let d = length-append (zip row.keys.items row.nodes.items) more in
    let e = ap length pairs in
    omega arith

module _ {H : Type 0} where
  pub counts-more : (old new : Ledger H) (few most : ℕ) → few ≤ most → CountsNodes old new few → CountsNodes old new most
  counts-more old new few most room x = record { nodes = at_most-more _ few most _ _ room x.nodes; others = x.others }

  -- nothing was appended
  pub spends-none : (ledger : Ledger H) (budgets : List ℕ) (rows : List Row) → FitBudgets 0 budgets rows → SpendsRows ledger ledger 0 0 budgets rows rows
  spends-none ledger budgets rows fit = record {
    left = budgets;
    made = 0;
    spends = record { counts = counts-none ledger 0; size = refl; within = omega arith; lower = omega arith; fits = fit };
    grows = sinks-grow (2 * last_of 0 budgets) (2 * last_of 0 budgets + 0) _ _ (omega arith) (sinks-same (drop (length budgets) rows));
  }

  -- one thing after another
  pub spends-then : (old mid new : Ledger H) (g1 c1 g2 c2 : ℕ) (budgets : List ℕ) (a b c : List Row) → 2 * c1 ≤ g1 → MayDo old mid
      → (x : SpendsRows old mid g1 c1 budgets a b) → SpendsRows mid new g2 c2 x.left b c → SpendsRows old new (g1 + g2) (c1 + c2) budgets a c
  spends-then old mid new g1 c1 g2 c2 budgets a b c low may x y =
      let size = x.spends.size in
      let product : length x.left * c2 ≡ length budgets * c2 = ap (λ k. k * c2) size in
      let first = x.spends.within in
      let second = y.spends.within in
      let lower1 = x.spends.lower in
      let lower2 = y.spends.lower in
      let grows2 : Grows (2 * last_of 0 y.left) (2 * last_of 0 x.left + g2) (drop (length budgets) b) (drop (length budgets) c) =
      subst (λ k. Grows (2 * last_of 0 y.left) (2 * last_of 0 x.left + g2) (drop k b) (drop k c)) size y.grows in
      let whole : 2 * last_of 0 budgets + g1 + g2 ≡ 2 * last_of 0 budgets + (g1 + g2) = omega arith in
      record {
        left = y.left;
        made = x.made + y.made;
        spends = record {
          counts = counts-then old mid new x.made y.made (x.made + y.made) (omega arith) may x.spends.counts y.spends.counts;
          size = y.spends.size ∙ size;
          within = omega arith;
          lower = omega arith;
          fits = y.spends.fits;
        };
        grows = subst (λ g. Grows (2 * last_of 0 y.left) g (drop (length budgets) a) (drop (length budgets) c)) whole
            (grows-then (2 * last_of 0 x.left) (2 * last_of 0 budgets + g1) (2 * last_of 0 y.left) g2 _ (drop (length budgets) b) _ (omega arith) x.grows grows2);
      }

  pub settles-short : (ledger : Ledger H) (budgets : List ℕ) (rows : List Row) → 0 < length budgets → FitBudgets 0 budgets rows → IsShort rows → slots_in (drop 1 rows) ≡ 0
      → Settles ledger ledger budgets rows rows false
  unfolding spends-none
  settles-short ledger [] rows some fit short none = absurd (omega arith)
  settles-short ledger (budget ∷ budgets) [] some fit short none = absurd fit
  settles-short ledger (budget ∷ budgets) (row ∷ rows) some fit short none = record {
    spends = spends-none ledger (budget ∷ budgets) (row ∷ rows) fit;
    room = λ is. room-short (budget ∷ budgets) (row ∷ rows) some fit short none;
    none = λ is. slots-drop (length budgets) rows none;
  }

  -- the first row became nodes, and then the rows above settled
  pub settles-more : (old mid new : Ledger H) (settled : Bool) (budgets : List ℕ) (rows : List Row) (row row2 : Row) (above above2 above3 : List Row) (count : ℕ)
      → length budgets ≡ count → 0 < count → FitBudgets 0 budgets rows → LengthensFirst rows (row ∷ above) → (first_slots rows ≡ 0 → row ∷ above ≡ rows)
      → Gains (groups (slots_of row)) above above2 → CountsNodes old mid (groups (slots_of row)) → MayDo old mid → row2.keys.items ≡ []
      → ((bs : List ℕ) → length bs ≡ count - 1 → FitBudgets 0 bs above2 → Settles mid new bs above2 above3 settled)
      → Settles old new budgets rows (row2 ∷ above3) settled
  settles-more old mid new settled [] rows row row2 above above2 above3 count size some fit lengthens idle gains counts may empty rest = absurd (omega arith)
  settles-more old mid new settled (budget ∷ budgets) [] row row2 above above2 above3 count size some fit lengthens idle gains counts may empty rest = absurd fit
  settles-more old mid new settled (budget ∷ budgets) (p ∷ a) row row2 above above2 above3 count size some fit lengthens idle gains counts may empty rest =
      let made = groups (slots_of row) in
      let low = first-made budget (slots_of p) (slots_in a) (slots_of row) fit.0 lengthens.0 in
      let paid = fit.0.paid in
      let still : budget ≡ 0 → above ≡ a = λ none. ap (drop 1) (idle (omega arith)) in
      let next = rest budgets (omega arith) (fit-gained budget budgets a above above2 made low fit.1 lengthens.1 still gains) in
      let x = next.spends in
      let within = x.spends.within in
      let lower = x.spends.lower in
      let monotone = rises-last budget budgets a fit.1 in
      let none : length row2.keys.items ≡ 0 = ap length empty in
      let more : 2 * last_of 0 budgets + 0 ≡ 0 + (2 * last_of 0 budgets + 0) = omega arith in
      let gain : gained budget budgets + (2 * last_of 0 budgets + 0) ≡ 2 * last_of budget budgets + 0 = let e = gained-last budget budgets in omega arith in
      record {
        spends = record {
          left = 0 ∷ x.left;
          made = made + x.made;
          spends = record {
            counts = counts-then old mid new made x.made (made + x.made) (omega arith) may counts x.spends.counts;
            size = ap suc x.spends.size;
            within = omega arith;
            lower = omega arith;
            fits = (record { rises = omega arith; paid = omega arith; most = omega arith }, x.spends.fits);
          };
          grows = subst (λ g. Grows (2 * last_of 0 x.left) g (drop (length budgets) a) (drop (length budgets) above3)) gain
              (grows-then 0 (gained budget budgets) (2 * last_of 0 x.left) (2 * last_of 0 budgets + 0) _ (drop (length budgets) above2) _ (omega arith)
              (grows-gained budget budgets a above above2 made low lengthens.1 gains)
              (subst (λ g. Grows (2 * last_of 0 x.left) g (drop (length budgets) above2) (drop (length budgets) above3)) more x.grows));
        };
        room = λ is. room-next x.left row2 above3 (next.room is);
        none = next.none;
      }
    where
      rises-last : (below : ℕ) (budgets : List ℕ) (rows : List Row) → FitBudgets below budgets rows → last_of 0 budgets ≤ last_of below budgets
      rises-last below [] rows fit = omega arith
      rises-last below (budget ∷ budgets) rows fit = omega arith

  -- a slot more behind settled rows
  pub spends-push : (old mid : Ledger H) (budgets : List ℕ) (k : ℕ) (rows mid_rows : List Row) (row d : Row) (key : ℕ) → length budgets ≡ k → k < length mid_rows
      → row.keys.items ≡ (get_or mid_rows k d).keys.items ++ key ∷ [] → SpendsRows old mid 0 0 budgets rows mid_rows → SpendsRows old mid 1 0 budgets rows (set mid_rows k row)
  spends-push old mid budgets k rows mid_rows row d key size low keys x =
      let more : length row.keys.items ≡ suc (length (get_or mid_rows k d).keys.items) = (let a = ap length keys in let b = length-append (get_or mid_rows k d).keys.items (key ∷ []) in omega arith) in
      let here : Grows (2 * last_of 0 x.left) (2 * last_of 0 budgets + 0) (drop k rows) (drop k mid_rows) =
      subst (λ i. Grows (2 * last_of 0 x.left) (2 * last_of 0 budgets + 0) (drop i rows) (drop i mid_rows)) size x.grows in
      let pushed = grows-push (2 * last_of 0 x.left) (2 * last_of 0 budgets + 0) k (drop k rows) mid_rows row d low more here in
      let gain : 2 * last_of 0 budgets + 0 + 1 ≡ 2 * last_of 0 budgets + 1 = omega arith in
      record {
        left = x.left;
        made = x.made;
        spends = record {
          counts = x.spends.counts;
          size = x.spends.size;
          within = x.spends.within;
          lower = x.spends.lower;
          fits = fit-set 0 x.left mid_rows k row (x.spends.size ∙ size) x.spends.fits;
        };
        grows = subst (λ i. Grows (2 * last_of 0 x.left) (2 * last_of 0 budgets + 1) (drop i rows) (drop i (set mid_rows k row))) (sym size)
            (subst (λ g. Grows (2 * last_of 0 x.left) g (drop k rows) (drop k (set mid_rows k row))) gain pushed);
      }

  -- the slots of a node in place of one whose rows below were fewer than a node has
  pub spends-opened : (old mid new : Ledger H) (budgets : List ℕ) (rows rows1 rows2 : List Row) (level slots : ℕ) → length budgets ≡ suc level → slots ≤ 16 → MayDo old mid
      → Settles old mid budgets rows rows1 false
      → ((bs : List ℕ) → length bs ≡ level → FitBudgets 0 bs rows1 → SpendsRows mid new slots 0 bs rows1 rows2)
      → SpendsRows old new 1 0 budgets rows rows2
  spends-opened old mid new budgets rows rows1 rows2 level slots size few may settles puts =
      let x = settles.spends in
      let some : 0 < length x.left = (let s = x.spends.size in omega arith) in
      let low = front_of x.left in
      let last = last_of 0 x.left in
      let low_size : length low ≡ level = (let s = front-size x.left some in let t = x.spends.size in omega arith) in
      let y = puts low low_size (fit-front 0 x.left rows1 x.spends.fits) in
      let last_fits = fit-last 0 x.left rows1 some x.spends.fits in
      let room = room-last 0 x.left rows1 (settles.room refl) in
      let none : slots_in (drop 1 (drop (length low) rows1)) ≡ 0 = subst (λ l. slots_in l ≡ 0) (sym (drop-again (length low) (length budgets) rows1 (size ∙ sym (ap suc low_size)))) (settles.none refl) in
      let below : last_of 0 low ≤ last = rises-first (last_of 0 low) last (drop (length low) rows1) last_fits in
      let lower1 = x.spends.lower in
      let lower2 = y.spends.lower in
      let within1 = x.spends.within in
      let within2 = y.spends.within in
      let whole = front-all 0 x.left some in
      let left = y.left ++ last ∷ [] in
      let all = all-more y.left last in
      let first : FitsFirst (last_of 0 y.left) last (drop (length y.left) rows2) =
      subst (λ k. FitsFirst (last_of 0 y.left) last (drop k rows2)) (sym y.spends.size)
      (fits-filled (last_of 0 low) (last_of 0 y.left) last slots (drop (length low) rows1) (drop (length low) rows2) room none few (omega arith) y.grows) in
      let last_is : last_of 0 left ≡ last = last-more 0 y.left last in
      let above = grows-above (2 * last_of 0 y.left) (2 * last_of 0 low + slots) (length low) rows1 rows2 y.grows in
      let sinks2 : Sinks (drop (length budgets) rows1) (drop (length budgets) rows2) =
      subst (λ k. Sinks (drop k rows1) (drop k rows2)) (ap suc low_size ∙ sym size) above in
      let gain : 2 * last_of 0 budgets + 0 + 1 ≡ 2 * last_of 0 budgets + 1 = omega arith in
      record {
        left = left;
        made = x.made + y.made;
        spends = record {
          counts = counts-then old mid new x.made y.made (x.made + y.made) (omega arith) may x.spends.counts y.spends.counts;
          size = (let a = length-append y.left (last ∷ []) in let b = y.spends.size in omega arith);
          within = omega arith;
          lower = omega arith;
          fits = fit-more 0 y.left last rows2 y.spends.fits first;
        };
        grows = subst (λ l. Grows (2 * l) (2 * last_of 0 budgets + 1) (drop (length budgets) rows) (drop (length budgets) rows2)) (sym last_is)
            (subst (λ g. Grows (2 * last) g (drop (length budgets) rows) (drop (length budgets) rows2)) gain
            (grows-then (2 * last) (2 * last_of 0 budgets + 0) (2 * last) 1 _ (drop (length budgets) rows1) _ (omega arith) x.grows
            (sinks-grow (2 * last) (2 * last + 1) _ _ (omega arith) sinks2)));
      }
    where
      rises-first : (below budget : ℕ) (rows : List Row) → FitsFirst below budget rows → below ≤ budget
      rises-first below budget [] fit = absurd fit
      rises-first below budget (row ∷ rows) fit = fit.rises

  pub settles-none : (ledger : Ledger H) (budgets : List ℕ) (rows : List Row) → FitBudgets 0 budgets rows → Settles ledger ledger budgets rows rows true
  settles-none ledger budgets rows fit = record { spends = spends-none ledger budgets rows fit; room = λ is. absurd (true≢false is); none = λ is. absurd (true≢false is) }

  pub settles-counts : (old mid new : Ledger H) (budgets : List ℕ) (rows : List Row) (row : Row) (above above2 : List Row) (count : ℕ)
      → length budgets ≡ count → 0 < count → FitBudgets 0 budgets rows → LengthensFirst rows (row ∷ above) → (first_slots rows ≡ 0 → row ∷ above ≡ rows)
      → Gains (groups (slots_of row)) above above2 → CountsNodes old mid (groups (slots_of row)) → MayDo old mid
      → ((bs : List ℕ) → length bs ≡ count - 1 → FitBudgets 0 bs above2 → CountsNodes mid new (2 * all_of bs))
      → CountsNodes old new (2 * all_of budgets)
  settles-counts old mid new [] rows row above above2 count size some fit lengthens idle gains counts may rest = absurd (omega arith)
  settles-counts old mid new (budget ∷ budgets) [] row above above2 count size some fit lengthens idle gains counts may rest = absurd fit
  settles-counts old mid new (budget ∷ budgets) (p ∷ a) row above above2 count size some fit lengthens idle gains counts may rest =
      let made = groups (slots_of row) in
      let low = first-made budget (slots_of p) (slots_in a) (slots_of row) fit.0 lengthens.0 in
      let paid = fit.0.paid in
      let still : budget ≡ 0 → above ≡ a = λ none. ap (drop 1) (idle (omega arith)) in
      let next = rest budgets (omega arith) (fit-gained budget budgets a above above2 made low fit.1 lengthens.1 still gains) in
      counts-then old mid new made (2 * all_of budgets) _ (omega arith) may counts next

  -- the slots of a node, or what they make at most
  pub opened-counts : (old mid new : Ledger H) (budgets : List ℕ) (rows rows1 : List Row) (level : ℕ) → length budgets ≡ suc level → MayDo old mid
      → Settles old mid budgets rows rows1 false
      → ((bs : List ℕ) → length bs ≡ level → FitBudgets 0 bs rows1 → CountsNodes mid new (2 * all_of bs))
      → CountsNodes old new (2 * all_of budgets)
  opened-counts old mid new budgets rows rows1 level size may settles puts =
      let x = settles.spends in
      let some : 0 < length x.left = (let s = x.spends.size in omega arith) in
      let low = front_of x.left in
      let low_size : length low ≡ level = (let s = front-size x.left some in let t = x.spends.size in omega arith) in
      let y = puts low low_size (fit-front 0 x.left rows1 x.spends.fits) in
      let within = x.spends.within in
      let whole = front-all 0 x.left some in
      counts-then old mid new x.made (2 * all_of low) _ (omega arith) may x.spends.counts y

  -- what was spent so far, and what the rest makes at most
  spent-counts : (old mid new : Ledger H) (gain changes more : ℕ) (budgets : List ℕ) (a b : List Row) → MayDo old mid → (x : SpendsRows old mid gain changes budgets a b)
      → CountsNodes mid new (2 * all_of x.left + 2 * (length x.left * more)) → CountsNodes old new (2 * all_of budgets + 2 * (length budgets * (changes + more)))
  spent-counts old mid new gain changes more budgets a b may x y =
      let within = x.spends.within in
      let product : length x.left * more ≡ length budgets * more = ap (λ k. k * more) x.spends.size in
      counts-then old mid new x.made _ _ (omega arith) may x.spends.counts y

  pub put-counts : (old mid new : Ledger H) (gain : ℕ) (budgets : List ℕ) (a b : List Row) → MayDo old mid → (x : SpendsRows old mid gain 0 budgets a b)
      → CountsNodes mid new (2 * all_of x.left) → CountsNodes old new (2 * all_of budgets)
  put-counts old mid new gain budgets a b may x y = let within = x.spends.within in counts-then old mid new x.made _ _ (omega arith) may x.spends.counts y

  -- slots that were appended to rows with budgets, as rows that grow by what these become
  pub below-rows : (old new : Ledger H) (changes : ℕ) (budgets : List ℕ) (a b : List Row) → 0 < changes → SpendsBelow old new changes budgets a b
      → SpendsRows old new (gain_of changes) changes budgets a b
  below-rows old new changes budgets a b some x =
      let lower = x.spends.lower in
      let gain = gain-some changes some in
      record {
        left = x.left;
        made = x.made;
        spends = x.spends;
        grows = sinks-grow (2 * last_of 0 x.left) (2 * last_of 0 budgets + gain_of changes) _ _ (omega arith) x.sinks;
      }

  pub slots-none : (ledger : Ledger H) (budgets : List ℕ) (rows : List Row) → FitBudgets 0 budgets rows → SpendsSlots ledger ledger 0 0 budgets rows rows
  slots-none ledger budgets rows fit = record { gain = 0; least = omega arith; fewer = omega arith; spends = spends-none ledger budgets rows fit }

  pub slots-more : (old mid new : Ledger H) (slot next first changes end : ℕ) (budgets : List ℕ) (a b c : List Row) → next ≡ slot + 1 → end ≡ first + changes → MayDo old mid
      → (x : SpendsSlots old mid slot first budgets a b) → SpendsRows mid new (gain_of changes) changes x.spends.left b c → SpendsSlots old new next end budgets a c
  slots-more old mid new slot next first changes end budgets a b c next_is end_is may x y =
      let gains = slots-gain slot first changes x.gain x.least x.fewer in
      subst (λ k. SpendsSlots old new k end budgets a c) (sym next_is) (subst (λ k. SpendsSlots old new (slot + 1) k budgets a c) (sym end_is) (record {
        gain = x.gain + gain_of changes;
        least = gains.0;
        fewer = gains.1;
        spends = spends-then old mid new x.gain first (gain_of changes) changes budgets a b c x.least may x.spends y;
      }))

  pub spends-closed : (old new : Ledger H) (slot changes : ℕ) (budgets : List ℕ) (a b : List Row) → 0 < length budgets → slot ≤ 16 → 0 < changes → FitBudgets 0 budgets a
      → SpendsSlots old new slot changes (front_of budgets) a b → SpendsBelow old new changes budgets a b
  spends-closed old new slot changes budgets a b size few some fit x =
      let y = x.spends in
      let front = front_of budgets in
      let last = last_of 0 budgets in
      let fewer = x.fewer in
      let front_size = front-size budgets size in
      let whole = front-all 0 budgets size in
      let lower = y.spends.lower in
      let within = y.spends.within in
      let product : suc (length front) * changes ≡ length budgets * changes = ap (λ k. k * changes) front_size in
      let all = all-more y.left (last + changes) in
      let last_is : last_of 0 (y.left ++ (last + changes) ∷ []) ≡ last + changes = last-more 0 y.left (last + changes) in
      let first : FitsFirst (last_of 0 y.left) (last + changes) (drop (length front) b) =
      fits-closed (last_of 0 front) (last_of 0 y.left) last changes x.gain (drop (length front) a) (drop (length front) b) (fit-last 0 budgets a size fit) (omega arith) some lower y.grows in
      record {
        left = y.left ++ (last + changes) ∷ [];
        made = y.made;
        spends = record {
          counts = y.spends.counts;
          size = (let e = length-append y.left ((last + changes) ∷ []) in let f = y.spends.size in omega arith);
          within = omega arith;
          lower = omega arith;
          fits = fit-more 0 y.left (last + changes) b y.spends.fits (subst (λ k. FitsFirst (last_of 0 y.left) (last + changes) (drop k b)) (sym y.spends.size) first);
        };
        some = omega arith;
        sinks = subst (λ k. Sinks (drop k a) (drop k b)) front_size (grows-above (2 * last_of 0 y.left) (2 * last_of 0 front + x.gain) (length front) a b y.grows);
      }

  -- the pairs of a leaf, and those of its changes
  pub spends-leaf : (ledger : Ledger H) (changes : ℕ) (budgets : List ℕ) (rows : List Row) (row d : Row) → length budgets ≡ 1 → 0 < length rows → 0 < changes
      → slots_of row ≤ slots_of (get_or rows 0 d) + 16 + changes → FitBudgets 0 budgets rows → SpendsBelow ledger ledger changes budgets rows (set rows 0 row)
  spends-leaf ledger changes [] rows row d size some more few fit = absurd (omega arith)
  spends-leaf ledger changes (budget ∷ next ∷ budgets) rows row d size some more few fit = absurd (omega arith)
  spends-leaf ledger changes (budget ∷ []) [] row d size some more few fit = absurd (omega arith)
  spends-leaf ledger changes (budget ∷ []) (p ∷ rows) row d size some more few fit =
      let paid = fit.0.paid in let most = fit.0.most in
      record {
        left = (budget + changes) ∷ [];
        made = 0;
        spends = record {
          counts = counts-none ledger 0;
          size = refl;
          within = omega arith;
          lower = omega arith;
          fits = (record { rises = omega arith; paid = omega arith; most = omega arith }, tt);
        };
        some = omega arith;
        sinks = sinks-same rows;
      }

  -- what the slots so far made, and what the next one makes at most
  pub slots-counts : (old mid new : Ledger H) (slot first changes all : ℕ) (budgets : List ℕ) (a b : List Row) → 0 < length budgets → first + changes ≤ all → MayDo old mid
      → (x : SpendsSlots old mid slot first (front_of budgets) a b)
      → CountsNodes mid new (2 * all_of x.spends.left + 2 * (length x.spends.left * changes)) → CountsNodes old new (2 * all_of budgets + 2 * (length budgets * all))
  slots-counts old mid new slot first changes all budgets a b size low may x y =
      let whole = front-all 0 budgets size in
      let front_size = front-size budgets size in
      let product : length (front_of budgets) * (first + changes) ≤ length budgets * all = mul-le-mul (let e : length (front_of budgets) ≤ length budgets = omega arith in e) low in
      counts-more old new _ _ (omega arith) (spent-counts old mid new x.gain first changes (front_of budgets) a b may x.spends y)

pub empty-slots : (rows : List Row) → AreEmpty rows → slots_in rows ≡ 0
empty-slots [] empty = refl
empty-slots (row ∷ rows) empty = let rest = empty-slots rows empty.1 in let one = ap length empty.0 in omega arith

pub reaches-same : (rows : List Row) → Reaches rows rows
reaches-same [] = tt
reaches-same (row ∷ rows) = (record { most = omega arith; alone = omega arith }, sinks-same rows)

pub lengthens-same : (rows : List Row) → LengthensFirst rows rows
lengthens-same [] = tt
lengthens-same (row ∷ rows) = (record { most = omega arith; none = omega arith; alone = omega arith }, sinks-same rows)
