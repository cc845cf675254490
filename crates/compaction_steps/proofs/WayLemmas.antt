-- The rest of a leaf, and the way to it.
use Rattle.std.proofs.Common.{◌≡◌, ◌≢◌, ℕ, zero, suc, ◌+◌, ◌<◌, ◌≤◌, Bool, true, false, List, [], ◌∷◌, ◌++◌, length, take, drop, get_or, Equal, inl, inr, refl, sym, ap, subst, ◌∙◌, arith, true≢false}
use Rattle.std.specs.Cmp.{IsTotalOrder}
use Rattle.std.specs.declared.cmp.Ordering.{Ordering}
use Rattle.std.specs.List.{flat_map, AllByRecursion}
use Rattle.entry_ref.specs.References.{buffer_of}
use Rattle.entry_ref.specs.Records.{Among, Records, word_at}
use Rattle.tree_read.specs.Keys.{seen_by, Ascends}
use Rattle.tree_read.specs.Pairs.{seek}
use Rattle.tree_read.specs.Nodes.{used_of, node_keys, node_values}
use Rattle.tree_read.specs.Trees.{last_key, pairs_below, tree_pairs, IsNode, IsRootNode}
use Rattle.tree_read.proofs.ChildLemmas.{child-seek, get_or-node_keys, get_or-node_values, leaf-from, leaf-seek, leaf-size, values-size}
use Rattle.tree_read.specs.NodePlaces.{IsSlot}
use Rattle.tree_read.proofs.SeekLemmas.{first-words, IsFirstSlot}
use Rattle.tree_read.specs.SearchPlaces.{first_key}
use Rattle.frozen_btree.proofs.PathLemmas.{path-leaf, path-over, path_nodes-is}
use Rattle.frozen_btree.specs.Paths.{path_below, NoneIn}
use Rattle.frozen_btree.proofs.WayLemmas.{flat_up, way_goes}
use Rattle.compaction_moves.proofs.IndexPairs.{InPairs, at_pair, each_pair, pair_key}
use Rattle.compaction_steps.specs.Sights.{IsRun}
use Rattle.compaction_steps.specs.Ways.{IsWay, IsWayApart, IsWayBelow}
use Rattle.compaction_steps.proofs.Cleared.{seek_in, take_in}
use Rattle.compaction_steps.proofs.RunLemmas.{drop_nil, last_taken}

-- ---- runs
pub run_weaker : (P Q : ℕ × ℕ → Type 0) (ps : List (ℕ × ℕ)) (count last : ℕ) → ((q : ℕ × ℕ) → InPairs q ps → P q → Q q) → IsRun P ps count last → IsRun Q ps count last
run_weaker P Q ps count last each run = record {
  few = run.few;
  all = each_pair Q (take count ps) (λ q within. each q (take_in q count ps within) (at_pair P (take count ps) run.all q within));
  last_is = run.last_is;
}

take_front : (n : ℕ) (xs ys : List (ℕ × ℕ)) → n ≤ length xs → take n (xs ++ ys) ≡ take n xs
take_front zero xs ys few = refl
take_front (suc n) [] ys few = absurd (omega arith)
take_front (suc n) (x ∷ xs) ys few = ap (λ (ps : List (ℕ × ℕ)). x ∷ ps) (take_front n xs ys (omega arith))

few_front : (n : ℕ) (xs ys : List (ℕ × ℕ)) → n ≤ length xs → n ≤ length (xs ++ ys)
few_front zero xs ys few = omega arith
few_front (suc n) [] ys few = absurd (omega arith)
few_front (suc n) (x ∷ xs) ys few = let more = few_front n xs ys (omega arith) in omega arith

run_front : (P : ℕ × ℕ → Type 0) (xs ys : List (ℕ × ℕ)) (count last : ℕ) → IsRun P xs count last → IsRun P (xs ++ ys) count last
run_front P xs ys count last run =
    let same = take_front count xs ys run.few in
    record { few = few_front count xs ys run.few; all = subst (AllByRecursion P) (sym same) run.all; last_is = run.last_is ∙ ap last_key (sym same) }

first_front : (xs ys : List (ℕ × ℕ)) → 0 < length xs → first_key (xs ++ ys) ≡ first_key xs
first_front [] ys some = absurd (omega arith)
first_front (x ∷ xs) ys some = refl

all_any : (P : ℕ × ℕ → Type 0) (ps : List (ℕ × ℕ)) → ((q : ℕ × ℕ) → P q) → AllByRecursion P ps
all_any P [] any = tt
all_any P (p ∷ ps) any = (any p, all_any P ps any)

drop_more : (i j k : ℕ) (ps : List (ℕ × ℕ)) → k ≡ j + i → drop i (drop j ps) ≡ drop k ps
drop_more i zero k ps e = ap (λ (n : ℕ). drop n ps) (omega arith)
drop_more i (suc j) zero ps e = absurd (omega arith)
drop_more i (suc j) (suc k) [] e = drop_nil i
drop_more i (suc j) (suc k) (p ∷ ps) e = drop_more i j k ps (omega arith)

pub way_none : (P : ℕ × ℕ → Type 0) (c : ℕ → Ordering) (ps : List (ℕ × ℕ)) → IsWay P c ps 0 0 false
way_none P c ps = record {
  run = record { few = omega arith; all = tt; last_is = refl };
  at = λ e. absurd (true≢false (sym e));
  past = λ e some. absurd (omega arith);
}

no_cons : (p : ℕ × ℕ) (ps qs : List (ℕ × ℕ)) → qs ≡ p ∷ ps → qs ≢ []
no_cons p ps qs e none = absurd (grind (arith, e, none))

module _ {V : Type 0} (order : V → V → Ordering) (total : IsTotalOrder order) (read : Records → ℕ → V) (s : V) (bits buffer : ℕ) (m : Records) where
  abbrev c : ℕ → Ordering
  c = seen_by read order s m

  -- ---- a leaf, from a slot on
  module _ (ref slot : ℕ) (node : IsNode m 1 0 ref) (apart : buffer_of bits ref ≢ buffer) (at : IsSlot c (node_keys (m ref)) slot) (low : slot < used_of (m ref)) where
    abbrev ps : List (ℕ × ℕ)
    ps = pairs_below m 0 ref

    first : IsFirstSlot c (m ref) slot
    first = first-words c m 1 0 ref slot node at

    sought : seek c ps ≡ drop slot ps
    sought = leaf-seek m 1 0 ref refl node c slot first.within first.before first.at

    first_is : first_key (seek c ps) ≡ get_or (m ref) (2 + slot) 0
    first_is = ap first_key (sought ∙ leaf-from m 1 0 ref refl node slot low)

    here : (q : ℕ × ℕ) → IsWayBelow bits buffer order read m 0 ref q
    here q = subst (NoneIn bits buffer) (sym (path-leaf m (seen_by read order (read m q.0) m) ref)) (apart, tt)

    last_at : (k last : ℕ) → slot + k < used_of (m ref) → last ≡ get_or (m ref) (1 + slot + suc k) 0 → last ≡ last_key (take (suc k) (drop slot ps))
    last_at k last below is =
        let from = drop_more k slot (slot + k) ps refl ∙ leaf-from m 1 0 ref refl node (slot + k) below in
        is ∙ ap (λ (i : ℕ). get_or (m ref) i 0) (let e : 1 + slot + suc k ≡ 2 + (slot + k) = omega arith in e)
        ∙ sym (ap first_key from) ∙ last_taken k (drop slot ps) (no_cons (word_at m ref (2 + (slot + k)), word_at m ref (18 + (slot + k))) (drop (suc (slot + k)) ps) (drop k (drop slot ps)) from)

    dropped : (k : ℕ) → slot + k < used_of (m ref) → suc k ≤ length (drop slot ps)
    dropped k below = few k slot ps (let size = leaf-size m 1 0 ref refl node in omega arith)
      where
        few : (k i : ℕ) (qs : List (ℕ × ℕ)) → i + k < length qs → suc k ≤ length (drop i qs)
        few k zero qs below = omega arith
        few k (suc i) [] below = absurd (omega arith)
        few k (suc i) (q ∷ qs) below = few k i qs (omega arith)

    pub way_leaf : (count last : ℕ) (found : Bool) → 0 < count → slot + count ≤ used_of (m ref) → last ≡ get_or (m ref) (1 + slot + count) 0
        → (found ≡ true → c (get_or (node_keys (m ref)) slot 0) ≡ Equal) → (found ≡ false → c (get_or (node_keys (m ref)) slot 0) ≢ Equal)
        → IsWay (IsWayBelow bits buffer order read m 0 ref) c ps count last found
    way_leaf zero last found some few is equal other = absurd (omega arith)
    way_leaf (suc k) last found some few is equal other =
        let key : c (first_key (seek c ps)) ≡ c (get_or (node_keys (m ref)) slot 0) = ap c (first_is ∙ sym (get_or-node_keys (m ref) slot low)) in
        record {
          run = subst (λ qs. IsRun (IsWayBelow bits buffer order read m 0 ref) qs (suc k) last) (sym sought)
              (record { few = dropped k (omega arith); all = all_any (IsWayBelow bits buffer order read m 0 ref) (take (suc k) (drop slot ps)) here; last_is = last_at k last (omega arith) is });
          at = λ e. (some, key ∙ equal e);
          past = λ e more same. other e (sym key ∙ same);
        }

  -- ---- a node above a child on the way
  module _ (l ref slot q : ℕ) (node : IsNode m 1 (suc l) ref) (apart : buffer_of bits ref ≢ buffer) (at : IsSlot c (node_keys (m ref)) slot) (low : slot < used_of (m ref))
      (up : Ascends order read m (pairs_below m (suc l) ref)) (is : q ≡ word_at m ref (18 + slot)) where
    low_first : IsFirstSlot c (m ref) slot
    low_first = first-words c m 1 (suc l) ref slot node at

    below : seek c (pairs_below m (suc l) ref) ≡ seek c (pairs_below m l q) ++ flat_map (pairs_below m l) (drop (suc slot) (node_values (m ref)))
    below =
        child-seek m 1 (suc l) l ref refl node order (read m) up total s slot low low_first.before (low_first.at low)
        ∙ ap (λ (r : ℕ). seek c (pairs_below m l r) ++ flat_map (pairs_below m l) (drop (suc slot) (node_values (m ref)))) (sym is)

    among_at : (i : ℕ) (vs : List ℕ) → i < length vs → Among (get_or vs i 0) vs
    among_at i [] less = absurd (omega arith)
    among_at zero (v ∷ vs) less = inl refl
    among_at (suc i) (v ∷ vs) less = inr (among_at i vs (omega arith))

    there : Among q (node_values (m ref))
    there = subst (λ (r : ℕ). Among r (node_values (m ref))) (get_or-node_values (m ref) slot low ∙ sym is)
        (among_at slot (node_values (m ref)) (let size = values-size m 1 (suc l) l ref refl node in omega arith))

    over : (p : ℕ × ℕ) → InPairs p (seek c (pairs_below m l q)) → IsWayBelow bits buffer order read m l q p → IsWayBelow bits buffer order read m (suc l) ref p
    over p within way =
        let mine : ℕ → Ordering = seen_by read order (read m p.0) m in
        let among = pair_key p (pairs_below m l q) (seek_in c p (pairs_below m l q) within) in
        let goes = way_goes m order total (read m) p.0 1 l ref q node (flat_up m order total (read m) p.0 l ref up) there among in
        subst (NoneIn bits buffer) (sym (path-over m mine l ref ∙ ap (λ (v : ℕ). ref ∷ path_below m mine l v) goes)) (apart, way)

    pub way_over : (count last : ℕ) (found : Bool) → IsWay (IsWayBelow bits buffer order read m l q) c (pairs_below m l q) count last found
        → IsWay (IsWayBelow bits buffer order read m (suc l) ref) c (pairs_below m (suc l) ref) count last found
    way_over count last found way =
        let rest = flat_map (pairs_below m l) (drop (suc slot) (node_values (m ref))) in
        let same : 0 < count → first_key (seek c (pairs_below m (suc l) ref)) ≡ first_key (seek c (pairs_below m l q)) =
        (λ some. ap first_key below ∙ first_front (seek c (pairs_below m l q)) rest (let few = way.run.few in omega arith)) in
        record {
          run = subst (λ qs. IsRun (IsWayBelow bits buffer order read m (suc l) ref) qs count last) (sym below)
              (run_front (IsWayBelow bits buffer order read m (suc l) ref) (seek c (pairs_below m l q)) rest count last
              (run_weaker (IsWayBelow bits buffer order read m l q) (IsWayBelow bits buffer order read m (suc l) ref) (seek c (pairs_below m l q)) count last over way.run));
          at = λ e. let told = way.at e in (told.0, ap c (same told.0) ∙ told.1);
          past = λ e some equal. way.past e some (ap c (sym (same some)) ∙ equal);
        }

  -- ---- a tree
  pub way_tree : (root level : ℕ) → 0 < root → IsRootNode m root → IsNode m 1 level root → level ≤ 7 → tree_pairs m root ≡ pairs_below m level root → (count last : ℕ) (found : Bool)
      → IsWay (IsWayBelow bits buffer order read m level root) c (pairs_below m level root) count last found
      → IsWay (IsWayApart bits buffer order read m root) c (tree_pairs m root) count last found
  way_tree root level some is node few pairs count last found way =
      subst (λ qs. IsWay (IsWayApart bits buffer order read m root) c qs count last found) (sym pairs) (record {
        run = run_weaker (IsWayBelow bits buffer order read m level root) (IsWayApart bits buffer order read m root) (seek c (pairs_below m level root)) count last
            (λ p within h. subst (NoneIn bits buffer) (sym (path_nodes-is m (seen_by read order (read m p.0) m) 1 level root few some node)) h) way.run;
        at = way.at;
        past = way.past;
      })
