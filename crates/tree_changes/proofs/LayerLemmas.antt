-- Rows of slots: one that became nodes, and one whose last node was opened.
use Rattle.std.proofs.Common.{set, get_or, ◌≡◌, ℕ, zero, suc, ◌-◌, ◌<◌, ◌≤◌, ◌^◌, List, [], ◌∷◌, ◌++◌, length, refl, sym, ap, subst, ◌∙◌, arith, length-append, append_assoc, OnOk, IfOk, Result, Ok, Err, Bool, true, take}
use Rattle.std.specs.List.{zip}
use Rattle.list_lemmas.proofs.Pairs.{zip-append}
use Rattle.list_lemmas.proofs.Each.{AllByRecursion-append}
use Rattle.entry_ref.specs.Records.{Records}
use Rattle.store_api.specs.Ledgers.{Ledger}
use Rattle.store_api.specs.Parts.{times}
use Rattle.store_api.proofs.Times.{times-append}
use Rattle.tree_read.specs.Nodes.{used_of, node_keys, node_values}
use Rattle.tree_read.specs.Trees.{IsNode, Keeps}
use Rattle.tree_read.specs.Slots.{slot_pairs, slot_nodes, IsInHand}
use Rattle.tree_read.proofs.CountLemmas.{leaf_count}
use Rattle.tree_read.proofs.ChildLemmas.{keys-length}
use Rattle.tree_read.proofs.TreeLemmas.{IsNode-form}
use Rattle.tree_read.proofs.ReadLemmas.{node-size, node-room, node-even, hand-read}
use Rattle.tree_read.proofs.SlotLemmas.{hand-none, slot_pairs-append, slot_nodes-append, hand-append, hand-left, hand-right, hand-kept, slot_pairs-kept, slot_nodes-kept, slot_pairs-inner, slot_nodes-inner, slot_pairs-leaf, slot_nodes-leaf, child_nodes, slot_pairs-one, slot_nodes-one, pairs-slots, nodes-slots}
use Rattle.frozen_btree.specs.Builds.{groups, AddsPart}
use Rattle.tree_changes.specs.Layers.{rows_pairs, rows_nodes, AreInHand, AreNodes, ClosesRow, OpensLast, OpensRows, RaisesRow, HasFirst, TurnsRows, AreEmpty}
use Rattle.frozen_btree.specs.declared.rows.Row.{Row}
use Rattle.frozen_btree.proofs.RowLemmas.{row-none, row-more}

-- what follows from an answer that is none of a refusal
pub on_ok : {A E P Q : Type 0} (result : Result A E) → (P → Q) → OnOk result P → OnOk result Q
on_ok (Ok x) f p = f p
on_ok (Err e) f p = tt

pub on_ok_both : {A E P Q R : Type 0} (result : Result A E) → (P → Q → R) → OnOk result P → OnOk result Q → OnOk result R
on_ok_both (Ok x) f p q = f p q
on_ok_both (Err e) f p q = tt

pub one-group : (n : ℕ) → 0 < n → n ≤ 16 → groups n ≡ 1
one-group n some few = omega arith

-- at most 16 slots have few pairs, at the leaves in any case
pub close-few : (m : Records) (level : ℕ) (ks vs : List ℕ) → IsInHand m level ks vs → length ks ≤ 16
    → (0 < level → length (slot_pairs m level ks vs) < 2 ^ 32) → length (slot_pairs m level ks vs) < 2 ^ 32
close-few m zero ks vs hand small few = let count = leaf_count m ks vs 0 refl hand in omega arith
close-few m (suc level) ks vs hand small few = few (omega arith)

-- slots became one node
pub close-one : {H : Type 0} (old new : Ledger H) (m n : Records) (level : ℕ) (keys values above_keys above_nodes keys_after nodes_after : List ℕ)
    → IsInHand m level keys values → 8 ≤ length keys → length keys ≤ 16
    → AddsPart old new m n level keys values above_keys above_nodes keys_after nodes_after
    → ClosesRow old new m n level keys values above_keys above_nodes keys_after nodes_after
close-one old new m n level keys values above_keys above_nodes keys_after nodes_after hand many few adds = record {
  made_keys = adds.part.key ∷ [];
  made_nodes = adds.part.node ∷ [];
  made = row-more old old new m m n level [] [] keys values [] [] (adds.part.key ∷ []) (adds.part.node ∷ []) refl hand (λ r there. refl)
      (row-none old m level) many (record { part = adds.part; made = adds.made; keys_are = refl; nodes_are = refl });
  size = sym (one-group (length keys) (omega arith) few);
  keys_are = adds.keys_are;
  nodes_are = adds.nodes_are;
}

-- the last node of a row
module _ (m : Records) (level : ℕ) (above_keys above_nodes above_keys_after above_nodes_after : List ℕ) (key value : ℕ)
    (above : IsInHand m (suc level) above_keys above_nodes)
    (keys_are : above_keys ≡ above_keys_after ++ key ∷ []) (nodes_are : above_nodes ≡ above_nodes_after ++ value ∷ []) where
  cut : IsInHand m (suc level) (above_keys_after ++ key ∷ []) (above_nodes_after ++ value ∷ [])
  cut = subst (λ ks. IsInHand m (suc level) ks (above_nodes_after ++ value ∷ [])) keys_are (subst (λ vs. IsInHand m (suc level) above_keys vs) nodes_are above)

  even : length above_keys_after ≡ length above_nodes_after
  even = let e = cut.even in let a = length-append above_keys_after (key ∷ []) in let b = length-append above_nodes_after (value ∷ []) in omega arith

  left : IsInHand m (suc level) above_keys_after above_nodes_after
  left = hand-left m (suc level) above_keys_after above_nodes_after (key ∷ []) (value ∷ []) even cut

  pub last-node : IsNode m 8 level value
  last-node = (child_nodes m level (key ∷ []) (value ∷ []) (hand-right m (suc level) above_keys_after above_nodes_after (key ∷ []) (value ∷ []) even cut)).0

  pub last-size : length (m value) ≡ 34
  last-size = node-size m 8 level value last-node

  pub last-room : used_of (m value) ≤ 16
  last-room = node-room m 8 level value last-node

  module _ (keys values before : List ℕ) (hand : IsInHand m level keys values) where
    abbrev node_k : List ℕ
    node_k = node_keys (m value)

    abbrev node_v : List ℕ
    node_v = node_values (m value)

    node_even : length node_k ≡ length node_v
    node_even = node-even m 8 level value last-node

    opens : OpensLast m level keys values above_keys above_nodes (node_k ++ keys) (node_v ++ values) above_keys_after above_nodes_after before (before ++ value ∷ [])
    opens = record {
      hand = hand-append m level node_k node_v keys values (hand-read m 8 level value last-node) hand;
      above = left;
      pairs_are =
          ap (λ ps. slot_pairs m (suc level) above_keys_after above_nodes_after ++ ps)
          (slot_pairs-append m level node_k node_v keys values node_even
          ∙ ap (λ ps. ps ++ slot_pairs m level keys values) (sym (pairs-slots m level value) ∙ sym (slot_pairs-one m level key value)))
          ∙ sym (append_assoc (slot_pairs m (suc level) above_keys_after above_nodes_after) (slot_pairs m (suc level) (key ∷ []) (value ∷ [])) (slot_pairs m level keys values))
          ∙ ap (λ ps. ps ++ slot_pairs m level keys values)
          (sym (slot_pairs-append m (suc level) above_keys_after above_nodes_after (key ∷ []) (value ∷ []) even)
          ∙ ap (λ ks. slot_pairs m (suc level) ks (above_nodes_after ++ value ∷ [])) (sym keys_are)
          ∙ ap (λ vs. slot_pairs m (suc level) above_keys vs) (sym nodes_are));
      balance = λ r.
          let whole = ap (λ vs. times r (slot_nodes m (suc level) vs)) nodes_are in
          let parts = ap (times r) (slot_nodes-append m (suc level) above_nodes_after (value ∷ [])) in
          let a = times-append r (slot_nodes m (suc level) above_nodes_after) (slot_nodes m (suc level) (value ∷ [])) in
          let one : times r (slot_nodes m (suc level) (value ∷ [])) ≡ times r ((value ∷ []) ++ slot_nodes m level node_v) =
          ap (times r) (slot_nodes-one m level value ∙ nodes-slots m level value) in
          let b = times-append r (value ∷ []) (slot_nodes m level node_v) in
          let joined = ap (times r) (slot_nodes-append m level node_v values) in
          let d = times-append r (slot_nodes m level node_v) (slot_nodes m level values) in
          let e = times-append r before (value ∷ []) in
          omega arith;
      fewer = let a = ap length keys_are in let b = length-append above_keys_after (key ∷ []) in omega arith;
      least = let filled = (IsNode-form m 8 level value last-node).filled in let size = keys-length m 8 level value last-node in
          let a = length-append node_k keys in omega arith;
      most = let room = last-room in let size = keys-length m 8 level value last-node in let a = length-append node_k keys in omega arith;
      nodes = λ all. AllByRecursion-append (λ (q : ℕ). length (m q) ≡ 34) before (value ∷ []) all (last-size, tt);
      path = let a = length-append before (value ∷ []) in omega arith;
    }

    pub opened : (child : ℕ) (slot_k slot_v keys_after values_after after : List ℕ) → child ≡ value → slot_k ≡ node_keys (m child) → slot_v ≡ node_values (m child)
        → keys_after ≡ slot_k ++ keys → values_after ≡ slot_v ++ values → after ≡ before ++ child ∷ []
        → OpensLast m level keys values above_keys above_nodes keys_after values_after above_keys_after above_nodes_after before after
    opened child slot_k slot_v keys_after values_after after child_is sk sv ks vs after_is =
        let ks_are : keys_after ≡ node_k ++ keys = ks ∙ ap (λ zs. zs ++ keys) (sk ∙ ap (λ q. node_keys (m q)) child_is) in
        let vs_are : values_after ≡ node_v ++ values = vs ∙ ap (λ zs. zs ++ values) (sv ∙ ap (λ q. node_values (m q)) child_is) in
        let path_is : after ≡ before ++ value ∷ [] = after_is ∙ ap (λ q. before ++ q ∷ []) child_is in
        subst (λ zs. OpensLast m level keys values above_keys above_nodes zs values_after above_keys_after above_nodes_after before after) (sym ks_are)
        (subst (λ zs. OpensLast m level keys values above_keys above_nodes (node_k ++ keys) zs above_keys_after above_nodes_after before after) (sym vs_are)
        (subst (λ zs. OpensLast m level keys values above_keys above_nodes (node_k ++ keys) (node_v ++ values) above_keys_after above_nodes_after before zs) (sym path_is) opens))

-- rows that stay
pub opens-none : (m : Records) (level : ℕ) (rows : List Row) (before : List ℕ) → AreInHand m level rows → OpensRows m level rows rows before before
opens-none m level rows before hand = record { hand = hand; size = refl; pairs_are = refl; balance = λ r. refl; nodes = λ all. all }

-- the last node before a row was opened, after others above it
pub pulled : (m : Records) (level next : ℕ) → next ≡ suc level → (row row2 top top2 d : Row) (above mid : List Row) (before between after : List ℕ)
    → OpensRows m next above mid before between → HasFirst mid → top ≡ get_or mid 0 d
    → OpensLast m level row.keys.items row.nodes.items top.keys.items top.nodes.items row2.keys.items row2.nodes.items top2.keys.items top2.nodes.items between after
    → OpensRows m level (row ∷ above) (row2 ∷ set mid 0 top2) before after
pulled m level next next_is row row2 top top2 d above [] before between after opens some top_is last = absurd some
pulled m level next next_is row row2 top top2 d above (t ∷ rest) before between after opens some top_is last =
    let up : OpensRows m (suc level) above (t ∷ rest) before between = subst (λ l. OpensRows m l above (t ∷ rest) before between) next_is opens in
    let low = subst (λ (x : Row). OpensLast m level row.keys.items row.nodes.items x.keys.items x.nodes.items row2.keys.items row2.nodes.items top2.keys.items top2.nodes.items between after) top_is last in
    let far = rows_pairs m (suc (suc level)) rest in
    record {
      hand = (low.hand, (low.above, up.hand.1));
      size = ap suc up.size;
      pairs_are =
          append_assoc far (slot_pairs m (suc level) top2.keys.items top2.nodes.items) (slot_pairs m level row2.keys.items row2.nodes.items)
          ∙ ap (λ ps. far ++ ps) low.pairs_are
          ∙ sym (append_assoc far (slot_pairs m (suc level) t.keys.items t.nodes.items) (slot_pairs m level row.keys.items row.nodes.items))
          ∙ ap (λ ps. ps ++ slot_pairs m level row.keys.items row.nodes.items) up.pairs_are;
      balance = λ r.
          let beyond = rows_nodes m (suc (suc level)) rest in
          let a = times-append r (beyond ++ slot_nodes m (suc level) top2.nodes.items) (slot_nodes m level row2.nodes.items) in
          let b = times-append r beyond (slot_nodes m (suc level) top2.nodes.items) in
          let d = times-append r (rows_nodes m (suc level) above) (slot_nodes m level row.nodes.items) in
          let e = times-append r beyond (slot_nodes m (suc level) t.nodes.items) in
          let x = up.balance r in
          let y = low.balance r in
          omega arith;
      nodes = λ all. low.nodes (up.nodes all);
    }

-- rows under more records
module _ (m n : Records) (keeps : Keeps m n) where
  pub rows-hand-kept : (level : ℕ) (rows : List Row) → AreInHand m level rows → AreInHand n level rows
  rows-hand-kept level [] hand = tt
  rows-hand-kept level (row ∷ rows) hand = (hand-kept m n keeps level row.keys.items row.nodes.items hand.0, rows-hand-kept (suc level) rows hand.1)

  pub rows_pairs-kept : (level : ℕ) (rows : List Row) → AreInHand m level rows → rows_pairs n level rows ≡ rows_pairs m level rows
  rows_pairs-kept level [] hand = refl
  rows_pairs-kept level (row ∷ rows) hand =
      ap (λ ps. ps ++ slot_pairs n level row.keys.items row.nodes.items) (rows_pairs-kept (suc level) rows hand.1)
      ∙ ap (λ ps. rows_pairs m (suc level) rows ++ ps) (slot_pairs-kept m n keeps level row.keys.items row.nodes.items hand.0)

  pub rows_nodes-kept : (level : ℕ) (rows : List Row) → AreInHand m level rows → rows_nodes n level rows ≡ rows_nodes m level rows
  rows_nodes-kept level [] hand = refl
  rows_nodes-kept level (row ∷ rows) hand =
      ap (λ ps. ps ++ slot_nodes n level row.nodes.items) (rows_nodes-kept (suc level) rows hand.1)
      ∙ ap (λ ps. rows_nodes m (suc level) rows ++ ps) (slot_nodes-kept m n keeps level row.keys.items row.nodes.items hand.0)

-- no slots
pub empty-pairs : (m : Records) (level : ℕ) → slot_pairs m level [] [] ≡ []
empty-pairs m zero = slot_pairs-leaf m [] []
empty-pairs m (suc level) = slot_pairs-inner m level [] []

pub empty-nodes : (m : Records) (level : ℕ) → slot_nodes m level [] ≡ []
empty-nodes m zero = slot_nodes-leaf m []
empty-nodes m (suc level) = slot_nodes-inner m level []

pub none_at_end : {A : Type 0} (xs : List A) → xs ++ [] ≡ xs
none_at_end [] = refl
none_at_end (x ∷ xs) = ap (λ l. x ∷ l) (none_at_end xs)

pub no_items : {A : Type 0} (xs : List A) → length xs ≡ 0 → xs ≡ []
no_items [] e = refl
no_items (x ∷ xs) e = absurd (omega arith)

pub raises-none : {H : Type 0} (ledger : Ledger H) (m : Records) (level : ℕ) (keys values : List ℕ) (above : List Row)
    → length keys ≡ 0 → IsInHand m level keys values → AreInHand m (suc level) above → RaisesRow ledger ledger m m level keys values above above
raises-none ledger m level keys values above none hand rows =
    let no_keys = no_items keys none in
    let no_values = no_items values (sym hand.even ∙ none) in
    let pairs : slot_pairs m level keys values ≡ [] = ap (λ ks. slot_pairs m level ks values) no_keys ∙ ap (λ vs. slot_pairs m level [] vs) no_values ∙ empty-pairs m level in
    let nodes : slot_nodes m level values ≡ [] = ap (λ vs. slot_nodes m level vs) no_values ∙ empty-nodes m level in
    record {
      hand = rows;
      size = refl;
      pairs_are = sym (ap (λ ps. rows_pairs m (suc level) above ++ ps) pairs ∙ none_at_end (rows_pairs m (suc level) above));
      balance = λ r. let e : times r (slot_nodes m level values) ≡ times r [] = ap (times r) nodes in omega arith;
    }

pub raised : {H : Type 0} (old new : Ledger H) (m n : Records) (level : ℕ) (keys values : List ℕ) (top top2 d : Row) (above : List Row)
    → Keeps m n → AreInHand m (suc level) above → 0 < length above → top ≡ get_or above 0 d
    → ClosesRow old new m n level keys values top.keys.items top.nodes.items top2.keys.items top2.nodes.items
    → RaisesRow old new m n level keys values above (set above 0 top2)
raised old new m n level keys values top top2 d [] keeps rows some top_is closes = absurd (omega arith)
raised old new m n level keys values top top2 d (t ∷ rest) keeps rows some top_is closes =
    let low : ClosesRow old new m n level keys values t.keys.items t.nodes.items top2.keys.items top2.nodes.items =
    subst (λ (x : Row). ClosesRow old new m n level keys values x.keys.items x.nodes.items top2.keys.items top2.nodes.items) top_is closes in
    let here = hand-kept m n keeps (suc level) t.keys.items t.nodes.items rows.0 in
    let joined : IsInHand n (suc level) (t.keys.items ++ low.made_keys) (t.nodes.items ++ low.made_nodes) =
    hand-append n (suc level) t.keys.items t.nodes.items low.made_keys low.made_nodes here low.made.hand in
    let hand : IsInHand n (suc level) top2.keys.items top2.nodes.items =
    subst (λ ks. IsInHand n (suc level) ks top2.nodes.items) (sym low.keys_are) (subst (λ vs. IsInHand n (suc level) (t.keys.items ++ low.made_keys) vs) (sym low.nodes_are) joined) in
    let far = rows_pairs m (suc (suc level)) rest in
    let first = slot_pairs m (suc level) t.keys.items t.nodes.items in
    let last = slot_pairs m level keys values in
    let pairs : slot_pairs n (suc level) top2.keys.items top2.nodes.items ≡ first ++ last =
    ap (λ ks. slot_pairs n (suc level) ks top2.nodes.items) low.keys_are
    ∙ ap (λ vs. slot_pairs n (suc level) (t.keys.items ++ low.made_keys) vs) low.nodes_are
    ∙ slot_pairs-append n (suc level) t.keys.items t.nodes.items low.made_keys low.made_nodes rows.0.even
    ∙ ap (λ ps. ps ++ slot_pairs n (suc level) low.made_keys low.made_nodes) (slot_pairs-kept m n keeps (suc level) t.keys.items t.nodes.items rows.0)
    ∙ ap (λ ps. first ++ ps) low.made.pairs_are in
    record {
      hand = (hand, rows-hand-kept m n keeps (suc (suc level)) rest rows.1);
      size = refl;
      pairs_are =
          ap (λ ps. ps ++ slot_pairs n (suc level) top2.keys.items top2.nodes.items) (rows_pairs-kept m n keeps (suc (suc level)) rest rows.1)
          ∙ ap (λ ps. far ++ ps) pairs
          ∙ sym (append_assoc far first last);
      balance = λ r.
          let a = times-append r (rows_nodes n (suc (suc level)) rest) (slot_nodes n (suc level) top2.nodes.items) in
          let kept = ap (times r) (rows_nodes-kept m n keeps (suc (suc level)) rest rows.1) in
          let b = ap (times r) (ap (λ vs. slot_nodes n (suc level) vs) low.nodes_are ∙ slot_nodes-append n (suc level) t.nodes.items low.made_nodes) in
          let d = times-append r (slot_nodes n (suc level) t.nodes.items) (slot_nodes n (suc level) low.made_nodes) in
          let e = ap (times r) (slot_nodes-kept m n keeps (suc level) t.keys.items t.nodes.items rows.0) in
          let f = times-append r (rows_nodes m (suc (suc level)) rest) (slot_nodes m (suc level) t.nodes.items) in
          let made = low.made.balance r in
          omega arith;
    }

-- a slot more in a row
pub pushed-even : (keys nodes keys2 nodes2 : List ℕ) (key value : ℕ) → length keys ≡ length nodes → keys2 ≡ keys ++ key ∷ [] → nodes2 ≡ nodes ++ value ∷ [] → length keys2 ≡ length nodes2
pushed-even keys nodes keys2 nodes2 key value even k v =
    let a = ap length k in let b = ap length v in let d = length-append keys (key ∷ []) in let e = length-append nodes (value ∷ []) in omega arith

pub pushed-pairs : (keys nodes keys2 nodes2 : List ℕ) (key value : ℕ) → length keys ≡ length nodes → keys2 ≡ keys ++ key ∷ [] → nodes2 ≡ nodes ++ value ∷ []
    → zip keys2 nodes2 ≡ zip keys nodes ++ (key, value) ∷ []
pushed-pairs keys nodes keys2 nodes2 key value even k v =
    ap (λ ks. zip ks nodes2) k ∙ ap (λ vs. zip (keys ++ key ∷ []) vs) v ∙ zip-append keys nodes (key ∷ []) (value ∷ []) even

-- nothing was opened, or made
pub opens-then : (m : Records) (level : ℕ) (rows mid last : List Row) (before between after : List ℕ) → OpensRows m level rows mid before between
    → OpensRows m level mid last between after → OpensRows m level rows last before after
opens-then m level rows mid last before between after a b = record {
  hand = b.hand;
  size = b.size ∙ a.size;
  pairs_are = b.pairs_are ∙ a.pairs_are;
  balance = λ r. let x = a.balance r in let y = b.balance r in omega arith;
  nodes = λ all. b.nodes (a.nodes all);
}

-- rows after nodes were opened
pub turns-opened : {H : Type 0} (ledger : Ledger H) (m : Records) (level : ℕ) (rows mid : List Row) (before after : List ℕ) → OpensRows m level rows mid before after
    → TurnsRows ledger ledger m m level rows mid [] [] before after
turns-opened ledger m level rows mid before after opens = record {
  hand = opens.hand;
  size = opens.size;
  pairs_are = opens.pairs_are ∙ sym (none_at_end (rows_pairs m level rows));
  balance = λ r. let x = opens.balance r in omega arith;
  replaced = opens.nodes;
}

-- nodes stay nodes
pub nodes-stay : (m n : Records) → Keeps m n → (refs : List ℕ) → AreNodes m refs → AreNodes n refs
nodes-stay m n keeps [] all = tt
nodes-stay m n keeps (q ∷ refs) all =
    (ap length (keeps q (let size : length (m q) ≡ 34 = all.0 in omega arith)) ∙ all.0, nodes-stay m n keeps refs all.1)

-- the first row became nodes above, and then the rows above turned
pub turns-raised : {H : Type 0} (old mid new : Ledger H) (m n o : Records) (level next : ℕ) → next ≡ suc level → (row row2 : Row) (rows above above2 above3 : List Row) (before between after : List ℕ)
    → OpensRows m level rows (row ∷ above) before between → RaisesRow old mid m n level row.keys.items row.nodes.items above above2
    → row2.keys.items ≡ [] → row2.nodes.items ≡ [] → Keeps m n
    → TurnsRows mid new n o next above2 above3 [] [] between after → TurnsRows old new m o level rows (row2 ∷ above3) [] [] before after
turns-raised old mid new m n o level next next_is row row2 rows above above2 above3 before between after opens raises no_keys no_nodes first turns =
    let up : TurnsRows mid new n o (suc level) above2 above3 [] [] between after = subst (λ l. TurnsRows mid new n o l above2 above3 [] [] between after) next_is turns in
    let pairs : slot_pairs o level row2.keys.items row2.nodes.items ≡ [] =
    ap (λ ks. slot_pairs o level ks row2.nodes.items) no_keys ∙ ap (λ vs. slot_pairs o level [] vs) no_nodes ∙ empty-pairs o level in
    let nodes : slot_nodes o level row2.nodes.items ≡ [] = ap (λ vs. slot_nodes o level vs) no_nodes ∙ empty-nodes o level in
    let none = none_at_end (rows_pairs o (suc level) above3) in
    record {
      hand = (
        subst (λ ks. IsInHand o level ks row2.nodes.items) (sym no_keys) (subst (λ vs. IsInHand o level [] vs) (sym no_nodes) (hand-none o level)),
        up.hand,
      );
      size = ap suc (up.size ∙ raises.size) ∙ opens.size;
      pairs_are =
          ap (λ ps. rows_pairs o (suc level) above3 ++ ps) pairs ∙ none
          ∙ up.pairs_are ∙ none_at_end (rows_pairs n (suc level) above2) ∙ raises.pairs_are
          ∙ opens.pairs_are ∙ sym (none_at_end (rows_pairs m level rows));
      balance = λ r.
          let a = opens.balance r in
          let b = raises.balance r in
          let d = up.balance r in
          let e = times-append r (rows_nodes m (suc level) above) (slot_nodes m level row.nodes.items) in
          let f = times-append r (rows_nodes o (suc level) above3) (slot_nodes o level row2.nodes.items) in
          let h : times r (slot_nodes o level row2.nodes.items) ≡ times r [] = ap (times r) nodes in
          omega arith;
      replaced = λ all. up.replaced (nodes-stay m n first between (opens.nodes all));
    }

-- the pairs of the first row are few if those of all rows are
pub first-few : (m : Records) (level : ℕ) (row : Row) (rows : List Row) → length (rows_pairs m level (row ∷ rows)) < 2 ^ 32
    → length (slot_pairs m level row.keys.items row.nodes.items) < 2 ^ 32
first-few m level row rows few = let a = length-append (rows_pairs m (suc level) rows) (slot_pairs m level row.keys.items row.nodes.items) in omega arith

-- one row more is empty
pub settled-more : {E : Type 0} (result : Result Bool E) (count : ℕ) (row : Row) (rows : List Row) → 0 < count → row.keys.items ≡ []
    → IfOk result (λ settled. settled ≡ true → AreEmpty (take (count - 1) rows)) → IfOk result (λ settled. settled ≡ true → AreEmpty (take count (row ∷ rows)))
settled-more (Err e) count row rows some none told = tt
settled-more (Ok b) zero row rows some none told = absurd (omega arith)
settled-more (Ok b) (suc k) row rows some none told =
    λ is. (none, subst (λ n. AreEmpty (take n rows)) (let e : suc k - 1 ≡ k = omega arith in e) (told is))
