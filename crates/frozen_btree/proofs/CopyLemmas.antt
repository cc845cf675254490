-- A node of the words of another, with another child in one slot.
use Rattle.std.proofs.Common.{◌≡◌, ◌≢◌, ℕ, zero, suc, ◌+◌, ◌/◌, ◌%◌, ◌<◌, ◌≤◌, ◌^◌, List, [], ◌∷◌, ◌++◌, length, get_or, take, drop, set, map, refl, sym, ap, subst, ◌∙◌, arith, length-set}
use Rattle.std.proofs.Math.Seq.{map-set_same, take-set-lt}
use Rattle.std.proofs.lemmas.List.{get_or-set_other, get_or-set_same, take-set-le, drop-set-add}
use Rattle.std.specs.declared.cmp.Ordering.{Ordering}
use Rattle.std.specs.List.{flat_map, AllByRecursion}
use Rattle.list_lemmas.proofs.Each.{AllByRecursion-at, AllByRecursion-weaker}
use Rattle.entry_ref.specs.Records.{Records}
use Rattle.store_api.specs.Parts.{times}
use Rattle.store_api.proofs.Times.{times-append}
use Rattle.tree_read.specs.Nodes.{count_of, used_of, node_keys, node_values, IsNodeForm}
use Rattle.tree_read.specs.Trees.{pairs_below, nodes_below, last_key, IsNode, Keeps}
use Rattle.tree_read.proofs.TreeLemmas.{IsNode-form}
use Rattle.tree_read.proofs.ReadLemmas.{node-even, inner-pairs, inner-nodes}
use Rattle.tree_read.proofs.ChildLemmas.{IsNode-lower, keys-length}
use Rattle.tree_read.proofs.SlotLemmas.{pairs-kept, nodes_below-kept, node-kept, all_pairs-kept, all_nodes-kept, last_keys-kept}
use Rattle.tree_read.specs.NodePlaces.{IsPlace}
use Rattle.frozen_btree.specs.Paths.{child_of, path_below}
use Rattle.frozen_btree.proofs.PathLemmas.{child-place, path-over, path-kept}

-- the words
module _ (level least : ℕ) (ws : List ℕ) (i v : ℕ) (form : IsNodeForm level least ws) (below : i < used_of ws) where
  other : (j : ℕ) → j ≢ 18 + i → get_or (set ws (18 + i) v) j 0 ≡ get_or ws j 0
  other j ne = get_or-set_other ws (18 + i) j v 0 ne

  copy-used : used_of (set ws (18 + i) v) ≡ used_of ws
  copy-used = ap (λ w. w % 256) (other 0 (λ e. absurd (omega arith)))

  copy-count : count_of (set ws (18 + i) v) ≡ count_of ws
  copy-count = other 1 (λ e. absurd (omega arith))

  from_keys : drop 2 (set ws (18 + i) v) ≡ set (drop 2 ws) (16 + i) v
  from_keys =
      let at : 2 + (16 + i) ≡ 18 + i = omega arith in
      subst (λ k. drop 2 (set ws k v) ≡ set (drop 2 ws) (16 + i) v) at (drop-set-add 2 ws (16 + i) v)

  copy-keys : node_keys (set ws (18 + i) v) ≡ node_keys ws
  copy-keys =
      ap (λ n. take n (drop 2 (set ws (18 + i) v))) copy-used
      ∙ ap (take (used_of ws)) from_keys
      ∙ take-set-le (used_of ws) (drop 2 ws) (16 + i) v (let room = form.room in omega arith)

  copy-values : node_values (set ws (18 + i) v) ≡ set (node_values ws) i v
  copy-values =
      ap (λ n. take n (drop 18 (set ws (18 + i) v))) copy-used
      ∙ ap (take (used_of ws)) (drop-set-add 18 ws i v)
      ∙ take-set-lt (used_of ws) (drop 18 ws) i v below

  copy-form : IsNodeForm level (used_of ws) (set ws (18 + i) v)
  copy-form =
      let used = copy-used in
      let room = form.room in
      record {
        size = length-set ws (18 + i) v ∙ form.size;
        at_level = ap (λ w. w / 256) (other 0 (λ e. absurd (omega arith))) ∙ form.at_level;
        filled = omega arith;
        room = omega arith;
        no_key = λ j past small. other (2 + j) (λ e. absurd (omega arith)) ∙ form.no_key j (omega arith) small;
        no_value = λ j past small. other (18 + j) (λ e. absurd (omega arith)) ∙ form.no_value j (omega arith) small;
        few = subst (λ k. k < 2 ^ 32) (sym copy-count) form.few;
      }

-- lists of which one element is another
flat_map-set : {A : Type 0} (g : ℕ → List A) (vs : List ℕ) (i next : ℕ) → g next ≡ g (get_or vs i 0) → flat_map g (set vs i next) ≡ flat_map g vs
flat_map-set g [] i next is = refl
flat_map-set g (v ∷ vs) zero next is = ap (λ xs. xs ++ flat_map g vs) is
flat_map-set g (v ∷ vs) (suc i) next is = ap (λ xs. g v ++ xs) (flat_map-set g vs i next is)

all-set : (P : ℕ → Type 0) (vs : List ℕ) (i next : ℕ) → P next → AllByRecursion P vs → AllByRecursion P (set vs i next)
all-set P [] i next new all = tt
all-set P (v ∷ vs) zero next new all = (new, all.1)
all-set P (v ∷ vs) (suc i) next new all = (all.0, all-set P vs i next new all.1)

times-set : (g : ℕ → List ℕ) (vs : List ℕ) (i next q : ℕ) → i < length vs
    → times q (flat_map g (set vs i next)) + times q (g (get_or vs i 0)) ≡ times q (flat_map g vs) + times q (g next)
times-set g [] i next q low = absurd (omega arith)
times-set g (v ∷ vs) zero next q low =
    let a = times-append q (g next) (flat_map g vs) in
    let b = times-append q (g v) (flat_map g vs) in
    omega arith
times-set g (v ∷ vs) (suc i) next q low =
    let a = times-append q (g v) (flat_map g (set vs i next)) in
    let b = times-append q (g v) (flat_map g vs) in
    let rest = times-set g vs i next q (omega arith) in
    omega arith

times-child : (g : ℕ → List ℕ) (vs : List ℕ) (i q : ℕ) → i < length vs → times q (g (get_or vs i 0)) ≤ times q (flat_map g vs)
times-child g [] i q low = absurd (omega arith)
times-child g (v ∷ vs) zero q low = let a = times-append q (g v) (flat_map g vs) in omega arith
times-child g (v ∷ vs) (suc i) q low =
    let a = times-append q (g v) (flat_map g vs) in
    let rest = times-child g vs i q (omega arith) in
    omega arith

-- a child of a node
module _ (m : Records) (least l node i : ℕ) (node_is : IsNode m least (suc l) node) (low : i < length (node_values (m node))) where
  pub children : AllByRecursion (IsNode m 8 l) (node_values (m node))
  unfolding IsNode
  children = node_is.3

  pub child-node : IsNode m 8 l (get_or (node_values (m node)) i 0)
  child-node = AllByRecursion-at (IsNode m 8 l) (node_values (m node)) i 0 low children

  pub child-nodes : (q : ℕ) → times q (node ∷ []) + times q (nodes_below m l (get_or (node_values (m node)) i 0)) ≤ times q (nodes_below m (suc l) node)
  child-nodes q =
      let all : times q (nodes_below m (suc l) node) ≡ times q ((node ∷ []) ++ flat_map (nodes_below m l) (node_values (m node))) = ap (times q) (inner-nodes m l node) in
      let both = times-append q (node ∷ []) (flat_map (nodes_below m l) (node_values (m node))) in
      let part = times-child (nodes_below m l) (node_values (m node)) i q low in
      omega arith

-- the node over another child, which has the same pairs
module _ (m n o : Records) (least l node i next few ref : ℕ) (node_is : IsNode m least (suc l) node) (low : i < length (node_values (m node)))
    (first : Keeps m n) (keeps : Keeps m o) (second : Keeps n o) (many : 8 ≤ few) (next_is : IsNode n few l next)
    (same : pairs_below n l next ≡ pairs_below m l (get_or (node_values (m node)) i 0)) (words : o ref ≡ set (m node) (18 + i) next) where
  form : IsNodeForm (suc l) least (m node)
  form = IsNode-form m least (suc l) node node_is

  even : length (node_keys (m node)) ≡ length (node_values (m node))
  even = node-even m least (suc l) node node_is

  below : i < used_of (m node)
  below = let used = keys-length m least (suc l) node node_is in let e = even in omega arith

  keys_are : node_keys (o ref) ≡ node_keys (m node)
  keys_are = ap node_keys words ∙ copy-keys (suc l) least (m node) i next form below

  values_are : node_values (o ref) ≡ set (node_values (m node)) i next
  values_are = ap node_values words ∙ copy-values (suc l) least (m node) i next form below

  all : AllByRecursion (IsNode m 8 l) (node_values (m node))
  all = children m least l node i node_is low

  child_now : pairs_below o l next ≡ pairs_below o l (get_or (node_values (m node)) i 0)
  child_now = pairs-kept n o second few l next next_is ∙ same ∙ sym (pairs-kept m o keeps 8 l (get_or (node_values (m node)) i 0) (child-node m least l node i node_is low))

  pub over-pairs : pairs_below o (suc l) ref ≡ pairs_below m (suc l) node
  over-pairs =
      inner-pairs o l ref ∙ ap (flat_map (pairs_below o l)) values_are
      ∙ flat_map-set (pairs_below o l) (node_values (m node)) i next child_now
      ∙ all_pairs-kept m o keeps 8 l (node_values (m node)) all ∙ sym (inner-pairs m l node)

  pub over-node : IsNode o (used_of (m node)) (suc l) ref
  unfolding IsNode
  over-node = (
    subst (IsNodeForm (suc l) (used_of (m node))) (sym words) (copy-form (suc l) least (m node) i next form below),
    ap count_of words ∙ copy-count (suc l) least (m node) i next form below ∙ node_is.1 ∙ sym (ap length over-pairs),
    keys_are ∙ node_is.2 ∙ sym (last_keys-kept m o keeps 8 l (node_values (m node)) all)
        ∙ sym (map-set_same (λ child. last_key (pairs_below o l child)) (node_values (m node)) i next 0 (ap last_key child_now))
        ∙ ap (map (λ child. last_key (pairs_below o l child))) (sym values_are),
    subst (AllByRecursion (IsNode o 8 l)) (sym values_are)
        (all-set (IsNode o 8 l) (node_values (m node)) i next (node-kept n o second 8 l next (IsNode-lower n few 8 l next many next_is))
        (AllByRecursion-weaker (IsNode m 8 l) (IsNode o 8 l) (node-kept m o keeps 8 l) (node_values (m node)) all)),
  )

  -- the nodes below: those of the old node, but for the child's and the node itself
  pub over-nodes : (q : ℕ) → times q (nodes_below o (suc l) ref) + times q (node ∷ []) + times q (nodes_below m l (get_or (node_values (m node)) i 0))
      ≡ times q (nodes_below m (suc l) node) + times q (ref ∷ []) + times q (nodes_below n l next)
  over-nodes q =
      let vs = node_values (m node) in
      let now : times q (nodes_below o (suc l) ref) ≡ times q ((ref ∷ []) ++ flat_map (nodes_below o l) (set vs i next)) =
      ap (times q) (inner-nodes o l ref ∙ ap (λ xs. ref ∷ flat_map (nodes_below o l) xs) values_are) in
      let was : times q (nodes_below m (suc l) node) ≡ times q ((node ∷ []) ++ flat_map (nodes_below m l) vs) = ap (times q) (inner-nodes m l node) in
      let a = times-append q (ref ∷ []) (flat_map (nodes_below o l) (set vs i next)) in
      let b = times-append q (node ∷ []) (flat_map (nodes_below m l) vs) in
      let set_is = times-set (nodes_below o l) vs i next q low in
      let kept = ap (times q) (all_nodes-kept m o keeps 8 l vs all) in
      let child = ap (times q) (nodes_below-kept m o keeps 8 l (get_or vs i 0) (child-node m least l node i node_is low)) in
      let new = ap (times q) (nodes_below-kept n o second few l next next_is) in
      omega arith

  pub over-path : (c : ℕ → Ordering) → IsPlace c (node_keys (m node)) i → path_below o c (suc l) ref ≡ ref ∷ path_below n c l next
  over-path c place =
      let vs = node_values (m node) in
      let size : length (set vs i next) ≡ length vs = length-set vs i next in
      let goes : child_of c (node_keys (o ref)) (node_values (o ref)) ≡ next =
      ap (λ ks. child_of c ks (node_values (o ref))) keys_are ∙ ap (child_of c (node_keys (m node))) values_are
      ∙ child-place c (node_keys (m node)) (set vs i next) i (even ∙ sym size) place ∙ get_or-set_same vs i next 0 low in
      path-over o c l ref ∙ ap (λ q. ref ∷ path_below o c l q) goes
      ∙ ap (λ qs. ref ∷ qs) (path-kept n o c few l next (omega arith) second next_is)
