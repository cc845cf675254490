-- A walk over the children of a node: what it has found after so many slots.
use Rattle.std.proofs.Common.{◌≡◌, ℕ, suc, ◌+◌, ◌-◌, ◌^◌, ◌<◌, ◌≤◌, List, [], ◌∷◌, ◌++◌, length, map, take, drop, get_or, refl, sym, ap, subst, ◌∙◌, arith, append_assoc, append-nil, length-append, length-take}
use Rattle.std.proofs.Common.{length-drop}
use Rattle.std.specs.Prelude.{min}
use Rattle.std.proofs.Math.Nat.{one-le-pow}
use Rattle.std.proofs.lemmas.List.{take_more, map-append, take-append-drop, get_or-map, get_or-take, get_or-drop, take_all}
use Rattle.std.specs.List.{zip, flat_map, AllByRecursion}
use Rattle.std.proofs.lemmas.Grind.{flat_map-append}
use Rattle.list_lemmas.proofs.Pairs.{zip-append}
use Rattle.list_lemmas.proofs.Each.{AllByRecursion-append, AllByRecursion-at}
use Rattle.entry_ref.specs.Records.{Records}
use Rattle.tree_read.proofs.TreeLemmas.{length-node_values, pairs_many, last_key-append}
use Rattle.tree_read.specs.Nodes.{used_of, count_of, node_keys, node_values, IsNodeForm}
use Rattle.tree_read.specs.Trees.{pairs_below, last_key, HasLastKeys, IsNode}
use Rattle.check_images.proofs.KeyLemmas.{ascends-left}
use Rattle.check_images.proofs.Walks.{Walked}
use Rattle.check_images.specs.Keys.{PairsAscend}
use Rattle.check_images.specs.declared.keys.Keys.{Keys}

module _ (ws : List ℕ) where
  pub key_at : (i : ℕ) → i < used_of ws → get_or (node_keys ws) i 0 ≡ get_or ws (2 + i) 0
  key_at i low = get_or-take (used_of ws) (drop 2 ws) i 0 low ∙ get_or-drop 2 ws i 0

  pub value_at : (i : ℕ) → i < used_of ws → get_or (node_values ws) i 0 ≡ get_or ws (18 + i) 0
  value_at i low = get_or-take (used_of ws) (drop 18 ws) i 0 low ∙ get_or-drop 18 ws i 0

  module _ (size : length ws ≡ 34) (room : used_of ws ≤ 16) where
    keys_many : length (node_keys ws) ≡ used_of ws
    keys_many = simp (length-take, length-drop) (omega arith)

    values_many : length (node_values ws) ≡ used_of ws
    values_many = simp (length-take, length-drop) (omega arith)

    pub keys_next : (i : ℕ) → i < used_of ws → take (i + 1) (node_keys ws) ≡ take i (node_keys ws) ++ get_or ws (2 + i) 0 ∷ []
    keys_next i low = take_more (node_keys ws) i 0 (let n = keys_many in omega arith) ∙ ap (λ k. take i (node_keys ws) ++ k ∷ []) (key_at i low)

    pub values_next : (i : ℕ) → i < used_of ws → take (i + 1) (node_values ws) ≡ take i (node_values ws) ++ get_or ws (18 + i) 0 ∷ []
    values_next i low = take_more (node_values ws) i 0 (let n = values_many in omega arith) ∙ ap (λ k. take i (node_values ws) ++ k ∷ []) (value_at i low)

    pub keys_whole : take (used_of ws) (node_keys ws) ≡ node_keys ws
    keys_whole = ap (λ n. take n (node_keys ws)) (sym keys_many) ∙ take_all (length (node_keys ws)) (node_keys ws) (omega arith)

    pub values_whole : take (used_of ws) (node_values ws) ≡ node_values ws
    values_whole = ap (λ n. take n (node_values ws)) (sym values_many) ∙ take_all (length (node_values ws)) (node_values ws) (omega arith)

    -- the pairs of a leaf's slots, one more
    pub slots_next : (i : ℕ) → i < used_of ws
        → zip (take (i + 1) (node_keys ws)) (take (i + 1) (node_values ws)) ≡ zip (take i (node_keys ws)) (take i (node_values ws)) ++ (get_or ws (2 + i) 0, get_or ws (18 + i) 0) ∷ []
    slots_next i low =
        let keys = keys_many in
        let values = values_many in
        let same : length (take i (node_keys ws)) ≡ length (take i (node_values ws)) = length-take i (node_keys ws) ∙ ap (min i) (keys ∙ sym values) ∙ sym (length-take i (node_values ws)) in
        ap (λ ks. zip ks (take (i + 1) (node_values ws))) (keys_next i low)
        ∙ ap (λ vs. zip (take i (node_keys ws) ++ get_or ws (2 + i) 0 ∷ []) vs) (values_next i low)
        ∙ zip-append (take i (node_keys ws)) (take i (node_values ws)) (get_or ws (2 + i) 0 ∷ []) (get_or ws (18 + i) 0 ∷ []) same

    pub slots_more : (before mid after : List (ℕ × ℕ)) (i : ℕ) → i < used_of ws → mid ≡ before ++ zip (take i (node_keys ws)) (take i (node_values ws))
        → after ≡ mid ++ (get_or ws (2 + i) 0, get_or ws (18 + i) 0) ∷ []
        → after ≡ before ++ zip (take (i + 1) (node_keys ws)) (take (i + 1) (node_values ws))
    slots_more before mid after i low is next =
        let p : ℕ × ℕ = (get_or ws (2 + i) 0, get_or ws (18 + i) 0) in
        let so_far = zip (take i (node_keys ws)) (take i (node_values ws)) in
        next ∙ ap (λ ps. ps ++ p ∷ []) is ∙ append_assoc before so_far (p ∷ []) ∙ ap (λ ps. before ++ ps) (sym (slots_next i low))

    -- where the keys of a leaf's pairs ascend, those up to a slot do
    pub slots_ascend : (keys : Keys) (m : Records) (before mid : List (ℕ × ℕ)) (i : ℕ) → i < used_of ws → mid ≡ before ++ zip (take i (node_keys ws)) (take i (node_values ws))
        → PairsAscend keys m (before ++ zip (node_keys ws) (node_values ws)) → PairsAscend keys m (mid ++ (get_or ws (2 + i) 0, get_or ws (18 + i) 0) ∷ [])
    slots_ascend keys m before mid i low is up =
        let p : ℕ × ℕ = (get_or ws (2 + i) 0, get_or ws (18 + i) 0) in
        let ks = node_keys ws in
        let vs = node_values ws in
        let front = zip (take (i + 1) ks) (take (i + 1) vs) in
        let back = zip (drop (i + 1) ks) (drop (i + 1) vs) in
        let many = keys_many in
        let many_values = values_many in
        let same : length (take (i + 1) ks) ≡ length (take (i + 1) vs) = length-take (i + 1) ks ∙ ap (min (i + 1)) (many ∙ sym many_values) ∙ sym (length-take (i + 1) vs) in
        let whole : before ++ zip ks vs ≡ (mid ++ p ∷ []) ++ back =
        ap (λ xs. before ++ zip xs vs) (sym (take-append-drop (i + 1) ks))
        ∙ ap (λ xs. before ++ zip (take (i + 1) ks ++ drop (i + 1) ks) xs) (sym (take-append-drop (i + 1) vs))
        ∙ ap (λ ps. before ++ ps) (zip-append (take (i + 1) ks) (take (i + 1) vs) (drop (i + 1) ks) (drop (i + 1) vs) same)
        ∙ sym (append_assoc before front back)
        ∙ ap (λ ps. ps ++ back) (sym (slots_more before mid (mid ++ p ∷ []) i low is refl)) in
        ascends-left keys m (mid ++ p ∷ []) back (subst (PairsAscend keys m) whole up)

-- a walk begins with no child
pub walked-none : (keys : Keys) (m : Records) (level : ℕ) (ws : List ℕ) (before : List (ℕ × ℕ)) → PairsAscend keys m before → Walked keys m level ws before before 0
walked-none keys m level ws before up = record {
  pairs = sym (append-nil before);
  nodes = tt;
  last = refl;
  ascends = up;
}

module _ (keys : Keys) (m : Records) (level least ref : ℕ) (form : IsNodeForm (suc level) least (m ref)) (before after : List (ℕ × ℕ)) (i : ℕ) (walked : Walked keys m level (m ref) before after i) where
  -- the pairs so far and those of the next child
  next_pairs : i < used_of (m ref) → after ++ pairs_below m level (get_or (m ref) (18 + i) 0) ≡ before ++ flat_map (pairs_below m level) (take (i + 1) (node_values (m ref)))
  next_pairs low =
      let child = get_or (m ref) (18 + i) 0 in
      let f = pairs_below m level in
      let so_far = take i (node_values (m ref)) in
      ap (λ ps. ps ++ f child) walked.pairs
      ∙ append_assoc before (flat_map f so_far) (f child)
      ∙ ap (λ ps. before ++ ps) (ap (λ ps. flat_map f so_far ++ ps) (sym (append-nil (f child))) ∙ sym (flat_map-append f so_far (child ∷ [])))
      ∙ ap (λ cs. before ++ flat_map f cs) (sym (values_next (m ref) form.size form.room i low))

  -- one more child
  pub walked-more : (low : i < used_of (m ref)) (more : List (ℕ × ℕ)) → IsNode m 8 level (get_or (m ref) (18 + i) 0)
      → more ≡ after ++ pairs_below m level (get_or (m ref) (18 + i) 0) → PairsAscend keys m more
      → get_or (m ref) (2 + i) 0 ≡ last_key (pairs_below m level (get_or (m ref) (18 + i) 0)) → Walked keys m level (m ref) before more (i + 1)
  walked-more low more node is up key =
      let child = get_or (m ref) (18 + i) 0 in
      let of : ℕ → ℕ = λ c. last_key (pairs_below m level c) in
      let so_far = take i (node_values (m ref)) in
      let values = values_next (m ref) form.size form.room i low in
      record {
        pairs = is ∙ next_pairs low;
        nodes = subst (AllByRecursion (IsNode m 8 level)) (sym values) (AllByRecursion-append (IsNode m 8 level) so_far (child ∷ []) walked.nodes (node, tt));
        last = keys_next (m ref) form.size form.room i low
            ∙ ap (λ ks. ks ++ get_or (m ref) (2 + i) 0 ∷ []) walked.last
            ∙ ap (λ k. map of so_far ++ k ∷ []) key
            ∙ sym (map-append of so_far (child ∷ []))
            ∙ ap (map of) (sym values);
        ascends = up;
      }

  -- where a node stands and its pairs ascend, so does each child
  pub child-stands : i < used_of (m ref) → IsNode m least (suc level) ref → PairsAscend keys m (before ++ pairs_below m (suc level) ref)
      → IsNode m 8 level (get_or (m ref) (18 + i) 0) × PairsAscend keys m (after ++ pairs_below m level (get_or (m ref) (18 + i) 0))
  unfolding pairs_below IsNode
  child-stands low node up =
      let values = node_values (m ref) in
      let f = pairs_below m level in
      let rest = flat_map f (drop (i + 1) values) in
      let many = length-node_values (suc level) least (m ref) form in
      let whole : before ++ flat_map f values ≡ (after ++ f (get_or (m ref) (18 + i) 0)) ++ rest =
      ap (λ cs. before ++ flat_map f cs) (sym (take-append-drop (i + 1) values))
      ∙ ap (λ ps. before ++ ps) (flat_map-append f (take (i + 1) values) (drop (i + 1) values))
      ∙ sym (append_assoc before (flat_map f (take (i + 1) values)) rest)
      ∙ ap (λ ps. ps ++ rest) (sym (next_pairs low)) in (
        subst (IsNode m 8 level) (value_at (m ref) i low) (AllByRecursion-at (IsNode m 8 level) values i 0 (omega arith) node.3),
        ascends-left keys m (after ++ f (get_or (m ref) (18 + i) 0)) rest (subst (PairsAscend keys m) whole up),
      )

  -- a node's key is the last of its child
  pub child-last : i < used_of (m ref) → HasLastKeys m level (m ref) → get_or (m ref) (2 + i) 0 ≡ last_key (pairs_below m level (get_or (m ref) (18 + i) 0))
  child-last low last_keys =
      let last : ℕ → ℕ = λ c. last_key (pairs_below m level c) in
      let many = length-node_values (suc level) least (m ref) form in
      sym (key_at (m ref) i low) ∙ ap (λ ks. get_or ks i 0) last_keys ∙ get_or-map last (node_values (m ref)) i 0 0 (omega arith) ∙ ap last (value_at (m ref) i low)

  -- after all children the pairs are those below the node
  pub walked-pairs : i ≡ used_of (m ref) → after ≡ before ++ pairs_below m (suc level) ref
  unfolding pairs_below
  walked-pairs all = walked.pairs ∙ ap (λ n. before ++ flat_map (pairs_below m level) (take n (node_values (m ref)))) all
      ∙ ap (λ cs. before ++ flat_map (pairs_below m level) cs) (values_whole (m ref) form.size form.room)

  pub walked-node : i ≡ used_of (m ref) → count_of (m ref) ≡ length (pairs_below m (suc level) ref) → IsNode m least (suc level) ref
  unfolding IsNode
  walked-node all count =
      let last : ℕ → ℕ = λ c. last_key (pairs_below m level c) in
      let values = ap (λ n. take n (node_values (m ref))) all ∙ values_whole (m ref) form.size form.room in
      let keys = ap (λ n. take n (node_keys (m ref))) all ∙ keys_whole (m ref) form.size form.room in
      (form, count, sym keys ∙ walked.last ∙ ap (map last) values, subst (AllByRecursion (IsNode m 8 level)) values walked.nodes)

-- the last key of pairs behind which stand a child's is the child's
pub last-child : (m : Records) (level child : ℕ) (before after : List (ℕ × ℕ)) → IsNode m 8 level child → after ≡ before ++ pairs_below m level child
    → last_key after ≡ last_key (pairs_below m level child)
last-child m level child before after node is =
    let many = pairs_many m 8 level child node in
    let one : 1 ≤ 8 ^ level = one-le-pow level 8 (omega arith) in
    ap last_key is ∙ last_key-append before (pairs_below m level child) (omega arith)

-- the count of the pairs that came behind
pub count-behind : (before after more : List (ℕ × ℕ)) → after ≡ before ++ more → length after - length before ≡ length more
count-behind before after more is = let e = ap length is in let n = length-append before more in omega arith

pub leaf-node : (m : Records) (least ref : ℕ) → IsNodeForm 0 least (m ref) → count_of (m ref) ≡ length (pairs_below m 0 ref) → IsNode m least 0 ref
unfolding IsNode
leaf-node m least ref form count = (form, count)
