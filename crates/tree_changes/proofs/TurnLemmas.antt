-- Rows after slots were appended, one after the other.
use Rattle.std.proofs.Common.{set, get_or, ◌≡◌, ℕ, zero, suc, ◌+◌, ◌-◌, ◌<◌, ◌^◌, List, [], ◌∷◌, ◌++◌, length, refl, sym, ap, subst, ◌∙◌, arith, length-append, append_assoc, take, Bool, true, false}
use Rattle.std.proofs.Math.Seq.{take-suc}
use Rattle.list_lemmas.proofs.Each.{AllByRecursion-append}
use Rattle.entry_ref.specs.Records.{Records}
use Rattle.store_api.specs.Ledgers.{Ledger}
use Rattle.store_api.specs.Parts.{times}
use Rattle.store_api.proofs.Times.{times-append}
use Rattle.tree_read.specs.Nodes.{node_keys, node_values}
use Rattle.tree_read.specs.Trees.{IsNode, Keeps}
use Rattle.tree_read.proofs.ReadLemmas.{node-size, hand-read}
use Rattle.tree_read.specs.Slots.{slot_pairs, slot_nodes, IsInHand}
use Rattle.tree_read.proofs.SlotLemmas.{slot_pairs-append, slot_nodes-append, hand-append, hand-right, hand-take, even-take, hand-kept, slot_pairs-kept, slot_nodes-kept, few-take, child_nodes, slot_pairs-one, slot_nodes-one, pairs-slots, nodes-slots}
use Rattle.tree_changes.specs.Layers.{rows_pairs, rows_nodes, AreInHand, TurnsRows, AreEmpty}
use Rattle.frozen_btree.specs.declared.rows.Row.{Row}
use Rattle.tree_changes.proofs.LayerLemmas.{empty-pairs, empty-nodes, none_at_end, no_items}

pub turns-then : {H : Type 0} (old mid new : Ledger H) (m n o : Records) (level : ℕ) (rows rows2 rows3 : List Row) (p1 p2 : List (ℕ × ℕ)) (n1 n2 before between after : List ℕ)
    → TurnsRows old mid m n level rows rows2 p1 n1 before between → TurnsRows mid new n o level rows2 rows3 p2 n2 between after
    → TurnsRows old new m o level rows rows3 (p1 ++ p2) (n1 ++ n2) before after
turns-then old mid new m n o level rows rows2 rows3 p1 p2 n1 n2 before between after x y = record {
  hand = y.hand;
  size = y.size ∙ x.size;
  pairs_are = y.pairs_are ∙ ap (λ ps. ps ++ p2) x.pairs_are ∙ append_assoc (rows_pairs m level rows) p1 p2;
  balance = λ r. let a = x.balance r in let b = y.balance r in let d = times-append r n1 n2 in omega arith;
  replaced = λ all. y.replaced (x.replaced all);
}

-- the same pairs and nodes, written in another way
pub turns-are : {H : Type 0} (old new : Ledger H) (m n : Records) (level : ℕ) (rows rows2 : List Row) (p1 p2 : List (ℕ × ℕ)) (n1 n2 before after : List ℕ)
    → p1 ≡ p2 → n1 ≡ n2 → TurnsRows old new m n level rows rows2 p1 n1 before after → TurnsRows old new m n level rows rows2 p2 n2 before after
turns-are old new m n level rows rows2 p1 p2 n1 n2 before after pairs nodes turns =
    subst (λ ps. TurnsRows old new m n level rows rows2 ps n2 before after) pairs
    (subst (λ ns. TurnsRows old new m n level rows rows2 p1 ns before after) nodes turns)

pub turns-none : {H : Type 0} (ledger : Ledger H) (m : Records) (level : ℕ) (rows : List Row) (before : List ℕ) → AreInHand m level rows
    → TurnsRows ledger ledger m m level rows rows [] [] before before
turns-none ledger m level rows before hand = record {
  hand = hand;
  size = refl;
  pairs_are = sym (none_at_end (rows_pairs m level rows));
  balance = λ r. omega arith;
  replaced = λ all. all;
}

-- a node is among the replaced from now on
pub turns-open : {H : Type 0} (ledger : Ledger H) (m : Records) (level : ℕ) (rows : List Row) (before : List ℕ) (value : ℕ) → AreInHand m level rows
    → length (m value) ≡ 34 → TurnsRows ledger ledger m m level rows rows [] (value ∷ []) before (before ++ value ∷ [])
turns-open ledger m level rows before value hand size = record {
  hand = hand;
  size = refl;
  pairs_are = sym (none_at_end (rows_pairs m level rows));
  balance = λ r. let a = times-append r before (value ∷ []) in omega arith;
  replaced = λ all. AllByRecursion-append (λ (q : ℕ). length (m q) ≡ 34) before (value ∷ []) all (size, tt);
}

-- a slot more in the row of its level, below which there are none
put-first : {H : Type 0} (ledger : Ledger H) (m : Records) (level : ℕ) (row row2 : Row) (rows : List Row) (key value : ℕ) (before : List ℕ)
    → AreInHand m level (row ∷ rows) → IsInHand m level (key ∷ []) (value ∷ [])
    → row2.keys.items ≡ row.keys.items ++ key ∷ [] → row2.nodes.items ≡ row.nodes.items ++ value ∷ []
    → TurnsRows ledger ledger m m level (row ∷ rows) (row2 ∷ rows) (slot_pairs m level (key ∷ []) (value ∷ [])) (slot_nodes m level (value ∷ [])) before before
put-first ledger m level row row2 rows key value before hand slot ks vs =
    let far = rows_pairs m (suc level) rows in
    let here = slot_pairs m level row.keys.items row.nodes.items in
    let last = slot_pairs m level (key ∷ []) (value ∷ []) in
    let pairs : slot_pairs m level row2.keys.items row2.nodes.items ≡ here ++ last =
    ap (λ k. slot_pairs m level k row2.nodes.items) ks ∙ ap (λ v. slot_pairs m level (row.keys.items ++ key ∷ []) v) vs
    ∙ slot_pairs-append m level row.keys.items row.nodes.items (key ∷ []) (value ∷ []) hand.0.even in
    let joined = hand-append m level row.keys.items row.nodes.items (key ∷ []) (value ∷ []) hand.0 slot in
    record {
      hand = (
        subst (λ k. IsInHand m level k row2.nodes.items) (sym ks) (subst (λ v. IsInHand m level (row.keys.items ++ key ∷ []) v) (sym vs) joined),
        hand.1,
      );
      size = refl;
      pairs_are = ap (λ ps. far ++ ps) pairs ∙ sym (append_assoc far here last);
      balance = λ r.
          let a = times-append r (rows_nodes m (suc level) rows) (slot_nodes m level row2.nodes.items) in
          let b = times-append r (rows_nodes m (suc level) rows) (slot_nodes m level row.nodes.items) in
          let d = ap (times r) (ap (λ v. slot_nodes m level v) vs ∙ slot_nodes-append m level row.nodes.items (value ∷ [])) in
          let e = times-append r (slot_nodes m level row.nodes.items) (slot_nodes m level (value ∷ [])) in
          omega arith;
      replaced = λ all. all;
    }

pub put-at : {H : Type 0} (ledger : Ledger H) (m : Records) (start level at : ℕ) (rows : List Row) (row2 d : Row) (key value : ℕ) (before : List ℕ)
    → level ≡ start + at → at < length rows → AreEmpty (take at rows) → AreInHand m start rows → IsInHand m level (key ∷ []) (value ∷ [])
    → row2.keys.items ≡ (get_or rows at d).keys.items ++ key ∷ [] → row2.nodes.items ≡ (get_or rows at d).nodes.items ++ value ∷ []
    → TurnsRows ledger ledger m m start rows (set rows at row2) (slot_pairs m level (key ∷ []) (value ∷ [])) (slot_nodes m level (value ∷ [])) before before
put-at ledger m start level at [] row2 d key value before level_is low empty hand slot ks vs = absurd (omega arith)
put-at ledger m start level zero (row ∷ rows) row2 d key value before level_is low empty hand slot ks vs =
    let is : start ≡ level = omega arith in
    subst (λ l. AreInHand m l (row ∷ rows) → TurnsRows ledger ledger m m l (row ∷ rows) (row2 ∷ rows) (slot_pairs m level (key ∷ []) (value ∷ [])) (slot_nodes m level (value ∷ [])) before before)
    (sym is) (λ h. put-first ledger m level row row2 rows key value before h slot ks vs) hand
put-at ledger m start level (suc at) (row ∷ rows) row2 d key value before level_is low empty hand slot ks vs =
    let up = put-at ledger m (suc start) level at rows row2 d key value before (omega arith) (omega arith) empty.1 hand.1 slot ks vs in
    let no_keys : row.keys.items ≡ [] = empty.0 in
    let no_nodes : row.nodes.items ≡ [] = no_items row.nodes.items (sym hand.0.even ∙ ap length no_keys) in
    let last = slot_pairs m level (key ∷ []) (value ∷ []) in
    let pairs : slot_pairs m start row.keys.items row.nodes.items ≡ [] =
    ap (λ k. slot_pairs m start k row.nodes.items) no_keys ∙ ap (λ v. slot_pairs m start [] v) no_nodes ∙ empty-pairs m start in
    let nodes : slot_nodes m start row.nodes.items ≡ [] = ap (λ v. slot_nodes m start v) no_nodes ∙ empty-nodes m start in
    let only : (zs : List (ℕ × ℕ)) → zs ++ slot_pairs m start row.keys.items row.nodes.items ≡ zs = (λ zs. ap (λ ps. zs ++ ps) pairs ∙ none_at_end zs) in
    record {
      hand = (hand.0, up.hand);
      size = ap suc up.size;
      pairs_are = only (rows_pairs m (suc start) (set rows at row2)) ∙ up.pairs_are
          ∙ ap (λ ps. ps ++ last) (sym (only (rows_pairs m (suc start) rows)));
      balance = λ r.
          let a = up.balance r in
          let b = times-append r (rows_nodes m (suc start) (set rows at row2)) (slot_nodes m start row.nodes.items) in
          let e = times-append r (rows_nodes m (suc start) rows) (slot_nodes m start row.nodes.items) in
          omega arith;
      replaced = λ all. all;
    }

-- one slot of several
module _ (m : Records) (level : ℕ) (keys values : List ℕ) (hand : IsInHand m level keys values) (i : ℕ) (low : i < length keys) where
  abbrev key : List ℕ
  key = get_or keys i 0 ∷ []

  abbrev value : List ℕ
  value = get_or values i 0 ∷ []

  keys-more : take (suc i) keys ≡ take i keys ++ key
  keys-more = take-suc keys i 0 low

  values-more : take (suc i) values ≡ take i values ++ value
  values-more = take-suc values i 0 (let even = hand.even in omega arith)

  even : length (take i keys) ≡ length (take i values)
  even = even-take m level keys values hand i

  both : IsInHand m level (take i keys ++ key) (take i values ++ value)
  both = subst (λ ks. IsInHand m level ks (take i values ++ value)) keys-more
      (subst (λ vs. IsInHand m level (take (suc i) keys) vs) values-more (hand-take m level keys values hand (suc i)))

  pub slot-hand : IsInHand m level key value
  slot-hand = hand-right m level (take i keys) (take i values) key value even both

  pub slot-pairs : slot_pairs m level (take (suc i) keys) (take (suc i) values) ≡ slot_pairs m level (take i keys) (take i values) ++ slot_pairs m level key value
  slot-pairs = ap (λ ks. slot_pairs m level ks (take (suc i) values)) keys-more ∙ ap (λ vs. slot_pairs m level (take i keys ++ key) vs) values-more
      ∙ slot_pairs-append m level (take i keys) (take i values) key value even

  pub slot-nodes : slot_nodes m level (take (suc i) values) ≡ slot_nodes m level (take i values) ++ slot_nodes m level value
  slot-nodes = ap (λ vs. slot_nodes m level vs) values-more ∙ slot_nodes-append m level (take i values) value

  module _ (n : Records) (keeps : Keeps m n) where
    pub slot-hand-kept : IsInHand n level key value
    slot-hand-kept = hand-kept m n keeps level key value slot-hand

    pub slots-few : {H : Type 0} (old mid : Ledger H) (start : ℕ) (rows rows2 : List Row) (nodes before between : List ℕ)
        → length (rows_pairs m start rows) + length (slot_pairs m level keys values) < 2 ^ 32
        → TurnsRows old mid m n start rows rows2 (slot_pairs m level (take i keys) (take i values)) nodes before between
        → length (rows_pairs n start rows2) + length (slot_pairs n level key value) < 2 ^ 32
    slots-few old mid start rows rows2 nodes before between few turns =
        let a = ap length turns.pairs_are in
        let b = length-append (rows_pairs m start rows) (slot_pairs m level (take i keys) (take i values)) in
        let d = ap length slot-pairs in
        let e = length-append (slot_pairs m level (take i keys) (take i values)) (slot_pairs m level key value) in
        let f = few-take m level keys values hand (suc i) in
        let h = ap length (slot_pairs-kept m n keeps level key value slot-hand) in
        omega arith

    pub slots-more : {H : Type 0} (old mid new : Ledger H) (o : Records) (start next : ℕ) (rows rows2 rows3 : List Row) (before between after : List ℕ) → next ≡ suc i
        → TurnsRows old mid m n start rows rows2 (slot_pairs m level (take i keys) (take i values)) (slot_nodes m level (take i values)) before between
        → TurnsRows mid new n o start rows2 rows3 (slot_pairs n level key value) (slot_nodes n level value) between after
        → TurnsRows old new m o start rows rows3 (slot_pairs m level (take next keys) (take next values)) (slot_nodes m level (take next values)) before after
    slots-more old mid new o start next rows rows2 rows3 before between after next_is x y =
        let more = turns-then old mid new m n o start rows rows2 rows3 (slot_pairs m level (take i keys) (take i values)) (slot_pairs n level key value)
        (slot_nodes m level (take i values)) (slot_nodes n level value) before between after x y in
        let here = turns-are old new m o start rows rows3 (slot_pairs m level (take i keys) (take i values) ++ slot_pairs n level key value)
        (slot_pairs m level (take (suc i) keys) (take (suc i) values))
        (slot_nodes m level (take i values) ++ slot_nodes n level value) (slot_nodes m level (take (suc i) values)) before after
        (ap (λ ps. slot_pairs m level (take i keys) (take i values) ++ ps) (slot_pairs-kept m n keeps level key value slot-hand) ∙ sym slot-pairs)
        (ap (λ ns. slot_nodes m level (take i values) ++ ns) (slot_nodes-kept m n keeps level key value slot-hand) ∙ sym slot-nodes) more in
        subst (λ k. TurnsRows old new m o start rows rows3 (slot_pairs m level (take k keys) (take k values)) (slot_nodes m level (take k values)) before after) (sym next_is) here

-- a slot was put into the row of its level, when the rows below had become nodes
pub put-settled : {H : Type 0} (old mid : Ledger H) (m n : Records) (level : ℕ) (rows rows2 : List Row) (row2 d : Row) (key value : ℕ) (before between : List ℕ)
    → Keeps m n → level < length rows → AreEmpty (take level rows2) → IsInHand m level (key ∷ []) (value ∷ [])
    → TurnsRows old mid m n 0 rows rows2 [] [] before between
    → row2.keys.items ≡ (get_or rows2 level d).keys.items ++ key ∷ [] → row2.nodes.items ≡ (get_or rows2 level d).nodes.items ++ value ∷ []
    → TurnsRows old mid m n 0 rows (set rows2 level row2) (slot_pairs m level (key ∷ []) (value ∷ [])) (slot_nodes m level (value ∷ [])) before between
put-settled old mid m n level rows rows2 row2 d key value before between keeps low empty slot turns ks vs =
    let size = turns.size in
    let put = put-at mid n 0 level level rows2 row2 d key value between (omega arith) (omega arith) empty turns.hand
    (hand-kept m n keeps level (key ∷ []) (value ∷ []) slot) ks vs in
    let both = turns-then old mid mid m n n 0 rows rows2 (set rows2 level row2) [] (slot_pairs n level (key ∷ []) (value ∷ [])) [] (slot_nodes n level (value ∷ []))
    before between between turns put in
    turns-are old mid m n 0 rows (set rows2 level row2) (slot_pairs n level (key ∷ []) (value ∷ [])) (slot_pairs m level (key ∷ []) (value ∷ []))
    (slot_nodes n level (value ∷ [])) (slot_nodes m level (value ∷ [])) before between
    (slot_pairs-kept m n keeps level (key ∷ []) (value ∷ []) slot) (slot_nodes-kept m n keeps level (key ∷ []) (value ∷ []) slot) both

-- the node of a slot
pub one-node : (m : Records) (level key value : ℕ) → 0 < level → IsInHand m level (key ∷ []) (value ∷ []) → IsNode m 8 (level - 1) value
one-node m zero key value above slot = absurd (omega arith)
one-node m (suc level) key value above slot =
    let e : level ≡ suc level - 1 = omega arith in
    subst (λ l. IsNode m 8 l value) e (child_nodes m level (key ∷ []) (value ∷ []) slot).0

pub one-size : (m : Records) (level key value : ℕ) → 0 < level → IsInHand m level (key ∷ []) (value ∷ []) → length (m value) ≡ 34
one-size m level key value above slot = node-size m 8 (level - 1) value (one-node m level key value above slot)

-- the slots of the node of a slot
module _ (m n : Records) (level lower key value child : ℕ) (keys values : List ℕ) (keeps : Keeps m n) (above : 0 < level) (lower_is : lower ≡ level - 1)
    (slot : IsInHand m level (key ∷ []) (value ∷ [])) (child_is : child ≡ value) (ks : keys ≡ node_keys (n child)) (vs : values ≡ node_values (n child)) where
  there : IsNode n 8 lower value
  there = subst (λ l. IsNode n 8 l value) (sym lower_is) (one-node n level key value above (hand-kept m n keeps level (key ∷ []) (value ∷ []) slot))

  keys_are : keys ≡ node_keys (n value)
  keys_are = ks ∙ ap (λ q. node_keys (n q)) child_is

  values_are : values ≡ node_values (n value)
  values_are = vs ∙ ap (λ q. node_values (n q)) child_is

  next : suc lower ≡ level
  next = omega arith

  pub opened-hand : IsInHand n lower keys values
  opened-hand = subst (λ k. IsInHand n lower k values) (sym keys_are) (subst (λ v. IsInHand n lower (node_keys (n value)) v) (sym values_are) (hand-read n 8 lower value there))

  pub opened-pairs : slot_pairs n lower keys values ≡ slot_pairs m level (key ∷ []) (value ∷ [])
  opened-pairs =
      ap (λ k. slot_pairs n lower k values) keys_are ∙ ap (λ v. slot_pairs n lower (node_keys (n value)) v) values_are
      ∙ sym (pairs-slots n lower value) ∙ sym (slot_pairs-one n lower key value)
      ∙ ap (λ l. slot_pairs n l (key ∷ []) (value ∷ [])) next
      ∙ slot_pairs-kept m n keeps level (key ∷ []) (value ∷ []) slot

  pub opened-nodes : value ∷ slot_nodes n lower values ≡ slot_nodes m level (value ∷ [])
  opened-nodes =
      ap (λ v. value ∷ slot_nodes n lower v) values_are
      ∙ sym (nodes-slots n lower value) ∙ sym (slot_nodes-one n lower value)
      ∙ ap (λ l. slot_nodes n l (value ∷ [])) next
      ∙ slot_nodes-kept m n keeps level (key ∷ []) (value ∷ []) slot

  pub opened-few : {H : Type 0} (old mid : Ledger H) (rows rows2 : List Row) (before between : List ℕ)
      → length (rows_pairs m 0 rows) + length (slot_pairs m level (key ∷ []) (value ∷ [])) < 2 ^ 32
      → TurnsRows old mid m n 0 rows rows2 [] [] before between
      → length (rows_pairs n 0 rows2) + length (slot_pairs n lower keys values) < 2 ^ 32
  opened-few old mid rows rows2 before between few turns =
      let a = ap length (turns.pairs_are ∙ none_at_end (rows_pairs m 0 rows)) in
      let b = ap length opened-pairs in
      omega arith

  pub put-opened : {H : Type 0} (old mid new : Ledger H) (o : Records) (rows rows2 rows3 : List Row) (before between opened after : List ℕ)
      → opened ≡ between ++ child ∷ [] → TurnsRows old mid m n 0 rows rows2 [] [] before between
      → TurnsRows mid new n o 0 rows2 rows3 (slot_pairs n lower keys values) (slot_nodes n lower values) opened after
      → TurnsRows old new m o 0 rows rows3 (slot_pairs m level (key ∷ []) (value ∷ [])) (slot_nodes m level (value ∷ [])) before after
  put-opened old mid new o rows rows2 rows3 before between opened after opened_is settles puts =
      let opens = turns-open mid n 0 rows2 between value settles.hand (node-size n 8 lower value there) in
      let first = turns-then old mid mid m n n 0 rows rows2 rows2 [] [] [] (value ∷ []) before between (between ++ value ∷ []) settles opens in
      let rest : TurnsRows mid new n o 0 rows2 rows3 (slot_pairs n lower keys values) (slot_nodes n lower values) (between ++ value ∷ []) after =
      subst (λ zs. TurnsRows mid new n o 0 rows2 rows3 (slot_pairs n lower keys values) (slot_nodes n lower values) zs after)
      (opened_is ∙ ap (λ q. between ++ q ∷ []) child_is) puts in
      let all = turns-then old mid new m n o 0 rows rows2 rows3 [] (slot_pairs n lower keys values) (value ∷ []) (slot_nodes n lower values)
      before (between ++ value ∷ []) after first rest in
      turns-are old new m o 0 rows rows3 (slot_pairs n lower keys values) (slot_pairs m level (key ∷ []) (value ∷ []))
      (value ∷ slot_nodes n lower values) (slot_nodes m level (value ∷ [])) before after opened-pairs opened-nodes all

pub some-level : (level : ℕ) (settled : Bool) → (level ≡ 0 → settled ≡ true) → settled ≡ false → 0 < level
some-level zero settled none not = absurd (apart (sym (none refl) ∙ not))
  where
    apart : true ≡ false → ⊥
    apart h = grind (arith, h)
some-level (suc level) settled none not = omega arith

pub slots-none : {H : Type 0} (ledger : Ledger H) (m : Records) (level : ℕ) (rows : List Row) (before : List ℕ) → AreInHand m 0 rows
    → TurnsRows ledger ledger m m 0 rows rows (slot_pairs m level [] []) (slot_nodes m level []) before before
slots-none ledger m level rows before hand =
    turns-are ledger ledger m m 0 rows rows [] (slot_pairs m level [] []) [] (slot_nodes m level []) before before
    (sym (empty-pairs m level)) (sym (empty-nodes m level)) (turns-none ledger m 0 rows before hand)
