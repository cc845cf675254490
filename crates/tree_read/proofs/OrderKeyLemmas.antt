-- Keys that are read from no node stay where all other records stay.
use Rattle.std.proofs.Common.{◌≡◌, ℕ, ◌<◌, List, [], ◌∷◌, length, map, refl, sym, ap, subst, ◌∙◌}
use Rattle.std.specs.declared.cmp.Ordering.{Ordering}
use Rattle.std.specs.List.Sorted.{IsStrictlySortedBy}
use Rattle.std.specs.List.{flat_map, AllByRecursion}
use Rattle.entry_ref.specs.Records.{Records, SameAt}
use Rattle.tree_read.specs.ProofsForTrees.{SameAt-left, SameAt-right, tree_pairs-same, IsTree-same}
use Rattle.tree_read.specs.Trees.{tree_nodes, tree_pairs, IsRootNode, Keeps}
use Rattle.tree_read.specs.Keys.{AllReadable, IsNoNode, ReadsNoNode, NoneReadsNodes, KeepsOthers, Ascends, IsKeyedTree, IsKeyWord}

pub others_kept : (m n : Records) → Keeps m n → KeepsOthers m n
others_kept m n keeps ref h = keeps ref h.there

pub SameAt-others : (m n : Records) → KeepsOthers m n → (refs : List ℕ) → AllByRecursion (IsNoNode m) refs → SameAt refs m n
SameAt-others m n keeps [] all = tt
SameAt-others m n keeps (r ∷ rs) all = (keeps r all.0, SameAt-others m n keeps rs all.1)

module _ {V : Type 0} (can_read : Records → ℕ → Type 0) (read : Records → ℕ → V) (reads_from : Records → ℕ → List ℕ)
    (stays : (m n : Records) (key : ℕ) → can_read m key → SameAt (reads_from m key) m n → can_read n key × (read n key ≡ read m key)) (m n : Records) (keeps : KeepsOthers m n) where
  pub key-readable : (key : ℕ) → can_read m key → ReadsNoNode reads_from m key → can_read n key
  key-readable key can none = (stays m n key can (SameAt-others m n keeps (reads_from m key) none)).0

  pub key-reads : (key : ℕ) → can_read m key → ReadsNoNode reads_from m key → read n key ≡ read m key
  key-reads key can none = (stays m n key can (SameAt-others m n keeps (reads_from m key) none)).1

  pub keys-readable : (ps : List (ℕ × ℕ)) → AllReadable can_read m ps → NoneReadsNodes reads_from m ps → AllReadable can_read n ps
  keys-readable [] can none = tt
  keys-readable (p ∷ ps) can none = (key-readable p.0 can.0 none.0, keys-readable ps can.1 none.1)

  pub keys-read : (ps : List (ℕ × ℕ)) → AllReadable can_read m ps → NoneReadsNodes reads_from m ps → map (λ p. read n p.0) ps ≡ map (λ p. read m p.0) ps
  keys-read [] can none = refl
  keys-read (p ∷ ps) can none =
      ap (λ v. v ∷ map (λ (q : ℕ × ℕ). read n q.0) ps) (key-reads p.0 can.0 none.0)
      ∙ ap (λ vs. read m p.0 ∷ vs) (keys-read ps can.1 none.1)

  pub ascends-stay : (order : V → V → Ordering) (ps : List (ℕ × ℕ)) → AllReadable can_read m ps → NoneReadsNodes reads_from m ps → Ascends order read m ps → Ascends order read n ps
  ascends-stay order ps can none up = subst (IsStrictlySortedBy order) (sym (keys-read ps can none)) up

none-same : (m n : Records) (refs : List ℕ) → SameAt refs m n → AllByRecursion (IsNoNode m) refs → AllByRecursion (IsNoNode n) refs
none-same m n [] same all = tt
none-same m n (r ∷ rs) same all = (
  record { there = subst (λ ws. 0 < length ws) (sym same.0) all.0.there; width = λ e. all.0.width (ap length (sym same.0) ∙ e) },
  none-same m n rs same.1 all.1,
)

module _ {V : Type 0} (order : V → V → Ordering) (can_read : Records → ℕ → Type 0) (read : Records → ℕ → V) (reads_from : Records → ℕ → List ℕ)
    (stays : (m n : Records) (key : ℕ) → can_read m key → SameAt (reads_from m key) m n → can_read n key × (read n key ≡ read m key))
    (steady : (m n : Records) (key : ℕ) → can_read m key → SameAt (reads_from m key) m n → reads_from n key ≡ reads_from m key) (m n : Records) where
  -- where the records that keys are read from stay
  stay-readable : (ps : List (ℕ × ℕ)) → SameAt (flat_map (λ p. reads_from m p.0) ps) m n → AllReadable can_read m ps → AllReadable can_read n ps
  stay-readable [] same can = tt
  stay-readable (p ∷ ps) same can =
      let rest = flat_map (λ (q : ℕ × ℕ). reads_from m q.0) ps in
      ((stays m n p.0 can.0 (SameAt-left m n (reads_from m p.0) rest same)).0, stay-readable ps (SameAt-right m n (reads_from m p.0) rest same) can.1)

  stay-reads : (ps : List (ℕ × ℕ)) → SameAt (flat_map (λ p. reads_from m p.0) ps) m n → AllReadable can_read m ps → map (λ p. read n p.0) ps ≡ map (λ p. read m p.0) ps
  stay-reads [] same can = refl
  stay-reads (p ∷ ps) same can =
      let rest = flat_map (λ (q : ℕ × ℕ). reads_from m q.0) ps in
      ap (λ v. v ∷ map (λ (q : ℕ × ℕ). read n q.0) ps) (stays m n p.0 can.0 (SameAt-left m n (reads_from m p.0) rest same)).1
      ∙ ap (λ vs. read m p.0 ∷ vs) (stay-reads ps (SameAt-right m n (reads_from m p.0) rest same) can.1)

  stay-apart : (ps : List (ℕ × ℕ)) → SameAt (flat_map (λ p. reads_from m p.0) ps) m n → AllReadable can_read m ps → NoneReadsNodes reads_from m ps → NoneReadsNodes reads_from n ps
  stay-apart [] same can none = tt
  stay-apart (p ∷ ps) same can none =
      let rest = flat_map (λ (q : ℕ × ℕ). reads_from m q.0) ps in
      let here = SameAt-left m n (reads_from m p.0) rest same in (
        subst (AllByRecursion (IsNoNode n)) (sym (steady m n p.0 can.0 here)) (none-same m n (reads_from m p.0) here none.0),
        stay-apart ps (SameAt-right m n (reads_from m p.0) rest same) can.1 none.1,
      )

  -- a tree stays where its nodes and the records that its keys are read from stay
  pub keyed-stays : (root : ℕ) → SameAt (tree_nodes m root) m n → SameAt (flat_map (λ p. reads_from m p.0) (tree_pairs m root)) m n
      → IsKeyedTree order read can_read reads_from m root → IsKeyedTree order read can_read reads_from n root
  keyed-stays root nodes keys keyed =
      let ps = tree_pairs m root in
      let same = sym (tree_pairs-same m n root nodes) in
      record {
        tree = IsTree-same order read m n root nodes (stay-reads ps keys keyed.readable) keyed.tree;
        readable = subst (AllReadable can_read n) same (stay-readable ps keys keyed.readable);
        apart = subst (NoneReadsNodes reads_from n) same (stay-apart ps keys keyed.readable keyed.apart);
      }

  -- where all records but nodes stay
  module _ (keeps : KeepsOthers m n) where
    key-apart : (key : ℕ) → can_read m key → ReadsNoNode reads_from m key → ReadsNoNode reads_from n key
    key-apart key can none =
        let same = SameAt-others m n keeps (reads_from m key) none in
        subst (AllByRecursion (IsNoNode n)) (sym (steady m n key can same)) (none-same m n (reads_from m key) same none)

    pub keys-apart : (ps : List (ℕ × ℕ)) → AllReadable can_read m ps → NoneReadsNodes reads_from m ps → NoneReadsNodes reads_from n ps
    keys-apart [] can none = tt
    keys-apart (p ∷ ps) can none = (key-apart p.0 can.0 none.0, keys-apart ps can.1 none.1)

    pub word-stays : (sought : V) (word : ℕ) → IsKeyWord order read can_read reads_from sought m word → IsKeyWord order read can_read reads_from sought n word
    word-stays sought word is =
        let it = stays m n word is.readable (SameAt-others m n keeps (reads_from m word) is.apart) in
        record { readable = it.0; apart = key-apart word is.readable is.apart; equal = ap (λ v. order v sought) it.1 ∙ is.equal }

    -- a root under which these pairs stand is a tree of them
    pub keyed-from : (root : ℕ) (ps : List (ℕ × ℕ)) → (0 < root → IsRootNode n root) → tree_pairs n root ≡ ps
        → AllReadable can_read m ps → NoneReadsNodes reads_from m ps → Ascends order read m ps → IsKeyedTree order read can_read reads_from n root
    keyed-from root ps node is can none up = record {
      tree = record { node = node; ascends = subst (Ascends order read n) (sym is) (ascends-stay can_read read reads_from stays m n keeps order ps can none up) };
      readable = subst (AllReadable can_read n) (sym is) (keys-readable can_read read reads_from stays m n keeps ps can none);
      apart = subst (NoneReadsNodes reads_from n) (sym is) (keys-apart ps can none);
    }
