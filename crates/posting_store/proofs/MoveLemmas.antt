-- A list moved: made anew, of the same documents.
use Rattle.std.proofs.Common.{◌≡◌, ◌≢◌, ℕ, ℤ, suc, Some, ◌+◌, ◌*◌, ◌/◌, ◌%◌, ◌<◌, ◌≤◌, Bool, cond, nat_eq, List, [], ◌∷◌, map, length, true, false, true≢false, inl, refl, sym, ap, subst, ◌∙◌, arith}
use Rattle.std.proofs.lemmas.Bool.{eqb-false, eqb-true, le-leb, lt-leb}
use Rattle.std.proofs.lemmas.List.{length-map}
use Rattle.std.specs.Ordering.{nat_cmp}
use Rattle.std.specs.List.{AllByRecursion}
use Rattle.entry_ref.specs.References.{buffer_of}
use Rattle.entry_ref.specs.Records.{Records, SameAt, Among}
use Rattle.store_api.specs.Calls.{IsUsedWidth}
use Rattle.store_api.specs.Ledgers.{Ledger, capacity}
use Rattle.store_api.specs.Parts.{Owns, Turns, count_in, entry, times}
use Rattle.store_api.specs.Statuses.{in_use}
use Rattle.store_api.specs.Units.{MakesAtMost, MayDo, MakesWithin}
use Rattle.store_api.proofs.PartLemmas.{after, owns-some, turns-as}
use Rattle.store_api.proofs.Times.{among-times}
use Rattle.store_api.proofs.Uses.{in-uses}
use Rattle.tree_read.specs.Trees.{tree_pairs, by_number, IsTree}
use Rattle.tree_read.proofs.TreeLemmas.{root_of_many}
use Rattle.frozen_btree.specs.Changes.{levels, tree as tree_part}
use Rattle.frozen_btree.specs.Makes.{CountsNodes}
use Rattle.frozen_btree.specs.Paths.{path_nodes, NoneIn}
use Rattle.frozen_btree.proofs.UsedLemmas.{node_used, used_at}
use Rattle.image_format.proofs.RootLemmas.{length-filled}
use Rattle.array_store.specs.Adding.{AddsRecord, MakesOneOf}
use Rattle.image_format.specs.Postings.{ListForm, short, tree, vector, list_form, IsPostingList}
use Rattle.image_format.specs.Words.{class_of, stored_items, unpacked, IsStoredList}
use Rattle.posting_store.specs.Changes.{list_part, list_most, MakesList}
use Rattle.posting_store.specs.Lists.{list_at, list_levels, list_reach, is_vector, AreDocuments, IsList, IsPlain}
use Rattle.posting_store.proofs.ChangeLemmas.{counts_short, counts_weaker, makes_short, makes_tree, replaces}
use Rattle.posting_store.specs.Keeps.{form_block, list_block, KeepsListBlocks}
use Rattle.posting_store.proofs.FlowLemmas.{flows_nothing, flows_vector, plain_block}
use Rattle.posting_store.proofs.FormLemmas.{form_short, form_tree, form_vector, no_vector, short_at, short_few, short_reach, tree_at, tree_form, tree_levels, tree_reach}
use Rattle.posting_store.proofs.VectorLemmas.{makes_vector, vector_counted, vector_list_at, vector_long, vector_owned, with_ones}
use Rattle.posting_store.proofs.LeafLemmas.{tree_owned}
use Rattle.posting_store.proofs.PairLemmas.{weighed, weighed-length}
use Rattle.bit_vector.specs.Changes.{vector_most, vector_part, MakesVector}
use Rattle.bit_vector.specs.Moves.{moved_nodes, MovesBlock}
use Rattle.bit_vector.specs.Vectors.{vector_reach}
use Rattle.posting_store.specs.Moves.{form_docs, word_most, FormIsApart, MovesWord}

are_documents : (m : Records) (word : ℕ) → IsList m word → AreDocuments (list_at m word)
are_documents m word list = record { ascends = list.ascends; numbers = list.numbers }

-- ---- how many records are made
short_most : (levels count : ℕ) → count ≤ 8 → (w : ℕ) → list_most 0 count w ≤ word_most false levels count w
short_most levels count few w =
    subst (λ b. cond b (cond (nat_eq w (class_of (1 + count))) 1 0) (cond (nat_eq w 34) (2 * 0 + 1) 0) ≤ cond b (cond (nat_eq w (class_of (1 + count))) 1 0) (cond (nat_eq w 34) levels 0))
    (sym (le-leb count 8 few)) (omega arith)

tree_within : {H : Type 0} (a b : Ledger H) (levels count : ℕ) → 8 < count → CountsNodes a b levels → MakesWithin a b (word_most false levels count)
tree_within a b levels count many made = record {
  each = λ w. subst (λ t. MakesAtMost (capacity a.work.sizes.words w) (cond t (cond (nat_eq w (class_of (1 + count))) 1 0) (cond (nat_eq w 34) levels 0)) (a.of_width w) (b.of_width w))
      (sym (lt-leb count 8 many)) (told w (nat_eq w 34) refl);
}
  where
    told : (w : ℕ) (t : Bool) → nat_eq w 34 ≡ t → MakesAtMost (capacity a.work.sizes.words w) (cond t levels 0) (a.of_width w) (b.of_width w)
    told w true is = subst (λ x. MakesAtMost (capacity a.work.sizes.words x) levels (a.of_width x) (b.of_width x)) (sym (eqb-true w 34 is)) made.nodes
    told w false is = made.others (capacity a.work.sizes.words w) w (eqb-false w 34 is)

-- ---- a list that is no bit vector has no blocks
pub plain_keeps : (IsOld : ℕ → Type 0) (m n : Records) (word next : ℕ) → IsPlain next → KeepsListBlocks IsOld m n word next
plain_keeps IsOld m n word next plain = record { each = λ k r there used. absurd (plain_block n next k r plain there) }

-- the form in a plain word
plain_form : {H : Type 0} (a b : Ledger H) (m n : Records) (word next : ℕ) → IsPlain word → MakesList a b m n word (list_at m word) false next
    → MakesList a b m n word (list_at m word) (is_vector word) next
plain_form a b m n word next plain makes = subst (λ (t : Bool). MakesList a b m n word (list_at m word) t next) (sym (no_vector word plain)) makes

plain_most : {H : Type 0} (a b : Ledger H) (word levels count : ℕ) → IsPlain word → MakesWithin a b (word_most false levels count)
    → MakesWithin a b (word_most (is_vector word) levels count)
plain_most a b word levels count plain made = subst (λ (t : Bool). MakesWithin a b (word_most t levels count)) (sym (no_vector word plain)) made

-- ---- nothing is done
pub word_kept : {H : Type 0} (bits buffer doc : ℕ) (a : Ledger H) (m : Records) (word : ℕ) → IsList m word → Owns a m (list_part word ∷ [])
    → FormIsApart bits buffer doc m (list_form word) → MovesWord bits buffer doc a a m m word word
word_kept bits buffer doc a m word list owns apart = record {
  makes = record {
    list_is = list;
    form = refl;
    docs_are = refl;
    flows = flows_nothing (λ r. in_use (a.back r) ≡ true) m word;
    owns = owns;
    turns = record { kept = λ r h. refl; balance = λ r. refl };
  };
  apart = apart;
  docs = refl;
  blocks = record { each = λ k r there used. there };
}

-- ---- a short list
module _ (m : Records) (word ref : ℕ) (list : IsList m word) (plain : IsPlain word) (some : 0 < word) (even : word % 2 ≡ 0) (at : ref ≡ word / 2) where
  word_is : word ≡ 2 * ref
  word_is = omega arith

  there : 0 < ref
  there = omega arith

  pub short_stored : IsStoredList 8 (m ref)
  short_stored = subst (λ (form : ListForm). IsPostingList m form) (form_short word ref plain word_is) (list.form some)

  pub short_docs : list_at m word ≡ map unpacked (stored_items (m ref))
  short_docs = short_at m word ref plain word_is there

  pub short_size : length (list_at m word) ≡ length (stored_items (m ref))
  short_size = ap length short_docs ∙ length-map (stored_items (m ref)) unpacked

  pub short_owned : {H : Type 0} (a : Ledger H) → Owns a m (list_part word ∷ []) → Owns a m (entry ref ∷ [])
  short_owned a owns = owns-some a m (list_part word ∷ []) (entry ref ∷ []) owns
      (λ r. let e : count_in r m (list_part word ∷ []) ≡ count_in r m (entry ref ∷ []) = ap (λ rs. times r rs + 0) (short_reach m word ref plain word_is there) in omega arith)

  pub short_apart : (bits buffer doc : ℕ) → (buffer_of bits ref ≡ buffer → ⊥) → FormIsApart bits buffer doc m (list_form word)
  short_apart bits buffer doc apart = subst (FormIsApart bits buffer doc m) (sym (form_short word ref plain word_is)) apart

  -- its record was made anew, and dropped
  module _ {H : Type 0} (bits : ℕ) (a b : Ledger H) (n : Records) (copy : ℕ) (owns : Owns a m (list_part word ∷ []))
      (adds : AddsRecord bits a b m n (length (stored_items (m ref)) ∷ stored_items (m ref)) copy) (reads : stored_items (n copy) ≡ stored_items (m ref)) where
    pub copied : (next : ℕ) → next ≡ 2 * copy → IsPlain next → MakesList a b m n 0 (map unpacked (stored_items (m ref))) false next
    copied next next_is next_plain =
        let stored = short_stored in
        makes_short a b m n bits next copy (stored_items (m ref)) next_is next_plain stored.some stored.few
        (subst AreDocuments short_docs (are_documents m word list)) reads adds

    added : Turns a b m n [] (entry copy ∷ [])
    added = adds.turns

    pub old_record : Owns b n (entry ref ∷ [])
    old_record =
        let own = short_owned a owns in
        owns-some b n (entry copy ∷ entry ref ∷ []) (entry ref ∷ [])
        (after a b m n [] (entry copy ∷ []) (entry ref ∷ []) (entry ref ∷ []) (entry copy ∷ entry ref ∷ []) own added (λ k r. omega arith) (λ k r. omega arith)).owns
        (λ r. omega arith)

    module _ (c : Ledger H) (o : Records) (dropped : Turns b c n o (entry ref ∷ []) []) where
      old_reach : SameAt (list_reach m word) m n
      old_reach = (after a b m n [] (entry copy ∷ []) (list_part word ∷ []) (list_part word ∷ []) (entry copy ∷ list_part word ∷ []) owns added (λ k r. omega arith) (λ k r. omega arith)).stay.0

      same_list : list_reach n word ≡ list_reach m word
      same_list = (list_part word).stays m n old_reach

      dropped_list : Turns b c n o (list_part word ∷ []) []
      dropped_list = turns-as b c n o (entry ref ∷ []) [] (list_part word ∷ []) [] dropped
          (λ r. ap (λ rs. times r rs + 0) (same_list ∙ short_reach m word ref plain word_is there)) (λ r. refl)

      short_made : (next : ℕ) → next ≡ 2 * copy → IsPlain next → MayDo a b → MakesList a c m o word (list_at m word) false next
      short_made next next_is next_plain may =
          subst (λ (docs : List (ℕ × ℤ)). MakesList a c m o word docs false next) (sym short_docs)
          (replaces a b c m n o word next (map unpacked (stored_items (m ref))) owns (copied next next_is next_plain) may dropped_list)

      copy_apart : (buffer doc next : ℕ) → next ≡ 2 * copy → IsPlain next → MayDo a b → a.sealed buffer ≡ true → FormIsApart bits buffer doc o (list_form next)
      copy_apart buffer doc next next_is next_plain may sealed =
          subst (FormIsApart bits buffer doc o) (sym (form_short next copy next_plain next_is)) elsewhere
        where
          elsewhere : buffer_of bits copy ≢ buffer
          elsewhere here = true≢false (sym (ap (λ (s : ℕ → _). s buffer) may.sealed ∙ sealed) ∙ sym (ap b.sealed here) ∙ adds.unsealed)

      pub short_moved : (buffer doc next : ℕ) → next ≡ 2 * copy → IsPlain next → MayDo a b → a.sealed buffer ≡ true → MovesWord bits buffer doc a c m o word next
      short_moved buffer doc next next_is next_plain may sealed = record {
        makes = plain_form a c m o word next plain (short_made next next_is next_plain may);
        apart = copy_apart buffer doc next next_is next_plain may sealed;
        docs = ap (form_docs o) (form_short next copy next_plain next_is) ∙ sym (ap (form_docs m) (form_short word ref plain word_is));
        blocks = plain_keeps (λ r. in_use (a.status r) ≡ true) m o word next next_plain;
      }

  pub short_counts : {H : Type 0} (a b : Ledger H) → MakesOneOf (class_of (1 + length (stored_items (m ref)))) a b
      → MakesWithin a b (word_most (is_vector word) (list_levels m word) (length (list_at m word)))
  short_counts a b one =
      let few = short_few m word plain even list in
      let made : MakesOneOf (class_of (1 + length (list_at m word))) a b = subst (λ k. MakesOneOf (class_of (1 + k)) a b) (sym short_size) one in
      plain_most a b word (list_levels m word) (length (list_at m word)) plain
      (counts_weaker a b (list_most 0 (length (list_at m word))) (word_most false (list_levels m word) (length (list_at m word))) (short_most (list_levels m word) (length (list_at m word)) few)
      (counts_short a b (length (list_at m word)) few made))

tree_apart : (bits buffer doc : ℕ) (n : Records) (next top : ℕ) → next ≡ 2 * top + 1 → IsPlain next
    → NoneIn bits buffer (path_nodes n (λ key. nat_cmp key doc) top) → FormIsApart bits buffer doc n (list_form next)
tree_apart bits buffer doc n next top is plain apart = subst (FormIsApart bits buffer doc n) (sym (form_tree next top plain is)) apart

-- ---- a list that is a tree
module _ {H : Type 0} (a b : Ledger H) (m n : Records) (word root : ℕ) (list : IsList m word) (plain : IsPlain word) (odd : word % 2 ≡ 1) (at : root ≡ word / 2) where
  tree_is_word : word ≡ 2 * root + 1
  tree_is_word = omega arith

  many : 8 < length (list_at m word)
  many =
      let more = (tree_form m word root plain tree_is_word list).1 in
      let size = weighed-length (tree_pairs m root) in
      let whole = ap length (tree_at m word root plain tree_is_word) in
      omega arith

  tree_made : (next top : ℕ) → next ≡ 2 * top + 1 → IsPlain next → IsTree nat_cmp by_number n top → tree_pairs n top ≡ tree_pairs m root
      → Owns b n (tree_part top ∷ []) → Turns a b m n (tree_part root ∷ []) (tree_part top ∷ []) → MakesList a b m n word (list_at m word) false next
  tree_made next top made next_plain tree_is pairs owns turns =
      makes_tree a b m n word next top (list_at m word) (tree_part root ∷ []) made next_plain plain tree_is
      (subst (AllByRecursion (λ p. p.1 < 4294967296)) (sym pairs) (tree_form m word root plain tree_is_word list).2)
      many (ap weighed pairs ∙ sym (tree_at m word root plain tree_is_word)) (are_documents m word list) owns turns
      (λ r. ap (λ rs. times r rs + 0) (tree_reach m word root plain tree_is_word))

  pub tree_moved : (bits buffer doc next top : ℕ) → next ≡ 2 * top + 1 → IsPlain next → IsTree nat_cmp by_number n top → tree_pairs n top ≡ tree_pairs m root
      → Owns b n (tree_part top ∷ []) → Turns a b m n (tree_part root ∷ []) (tree_part top ∷ []) → NoneIn bits buffer (path_nodes n (λ key. nat_cmp key doc) top)
      → MovesWord bits buffer doc a b m n word next
  tree_moved bits buffer doc next top made next_plain tree_is pairs owns turns apart = record {
    makes = plain_form a b m n word next plain (tree_made next top made next_plain tree_is pairs owns turns);
    apart = tree_apart bits buffer doc n next top made next_plain apart;
    docs = ap (form_docs n) (form_tree next top next_plain made) ∙ ap (map (λ p. p.0)) pairs ∙ sym (ap (form_docs m) (form_tree word root plain tree_is_word));
    blocks = plain_keeps (λ r. in_use (a.status r) ≡ true) m n word next next_plain;
  }

  pub tree_counts : CountsNodes a b (levels m root) → MakesWithin a b (word_most (is_vector word) (list_levels m word) (length (list_at m word)))
  tree_counts made =
      plain_most a b word (list_levels m word) (length (list_at m word)) plain
      (subst (λ h. MakesWithin a b (word_most false h (length (list_at m word)))) (sym (tree_levels m word root plain tree_is_word))
      (tree_within a b (levels m root) (length (list_at m word)) many made))

-- ---- a list that is a bit vector
starts_of : (ps : List (ℕ × ℕ)) → map (λ p. 4096 * p.0) ps ≡ map (λ k. 4096 * k) (map (λ p. p.0) ps)
starts_of [] = refl
starts_of (p ∷ ps) = ap (λ ks. 4096 * p.0 ∷ ks) (starts_of ps)

module _ {H : Type 0} (a b : Ledger H) (m n : Records) (word root : ℕ) (list : IsList m word) (dense : is_vector word ≡ true) (at : word ≡ 8589934592 + root) where
  module _ (bits buffer doc next top : ℕ) (next_is : next ≡ 8589934592 + top) (next_dense : is_vector next ≡ true) (moves : MovesBlock bits buffer (doc / 4096) a b m n root top)
      (owns : Owns a m (list_part word ∷ [])) (may : MayDo a b) where
    used_there : (r : ℕ) → Among r (vector_reach m root) → in_use (a.status r) ≡ true
    used_there r own =
        let all = (vector_owned m word root at a owns).each r in
        let some = among-times r (vector_reach m root) own in
        in-uses a r (omega arith)

    turned : Turns a b m n (list_part word ∷ []) (list_part next ∷ [])
    turned = turns-as a b m n (vector_part root ∷ []) (vector_part top ∷ []) (list_part word ∷ []) (list_part next ∷ []) moves.turns (vector_counted m word root at) (vector_counted n next top next_is)

    vector_made : MakesVector a b m n root (list_at m word) top
    vector_made = record {
      vector_is = moves.vector_is;
      docs_are = ap with_ones moves.documents ∙ sym (vector_list_at m word root at);
      blocks = record { each = λ k r there own. moves.blocks.each k r there (used_there r own) };
      owns = moves.owns;
      turns = moves.turns;
    }

    block_is : (k r : ℕ) → list_block n next k ≡ Some r → in_use (a.status r) ≡ true → list_block m word k ≡ Some r
    block_is k r there used =
        ap (λ f. form_block m f k) (form_vector word root at)
        ∙ moves.blocks.each k r (sym (ap (λ f. form_block n f k) (form_vector next top next_is)) ∙ there) used

    pub vector_moved : MovesWord bits buffer doc a b m n word next
    vector_moved = record {
      makes = subst (λ (t : Bool). MakesList a b m n word (list_at m word) t next) (sym dense)
          (makes_vector a b m n word next root top (list_at m word) next_is next_dense vector_made
          (flows_vector a b m n word next root top at next_is may turned vector_made.blocks) (vector_long m word root at list) (are_documents m word list)
          (vector_counted m word root at));
      apart = subst (FormIsApart bits buffer doc n) (sym (form_vector next top next_is)) moves.apart;
      docs = ap (form_docs n) (form_vector next top next_is) ∙ starts_of (tree_pairs n top) ∙ ap (map (λ k. 4096 * k)) moves.numbers ∙ sym (starts_of (tree_pairs m root))
          ∙ sym (ap (form_docs m) (form_vector word root at));
      blocks = record { each = block_is };
    }

  pub vector_most_made : MakesWithin a b (vector_most 1 moved_nodes) → MakesWithin a b (word_most (is_vector word) (list_levels m word) (length (list_at m word)))
  vector_most_made made = subst (λ (t : Bool). MakesWithin a b (word_most t (list_levels m word) (length (list_at m word)))) (sym dense) made

-- ---- a refused move is one of a width of which a record was in use as it began
pub short_used : {H : Type 0} (a : Ledger H) (m : Records) (word ref : ℕ) → IsList m word → IsPlain word → 0 < word → word % 2 ≡ 0 → ref ≡ word / 2 → Owns a m (list_part word ∷ [])
    → IsUsedWidth a m (class_of (1 + length (stored_items (m ref))))
short_used a m word ref list plain some even at owns =
    let items = stored_items (m ref) in
    let stored = short_stored m word ref list plain some even at in
    let few = stored.few in
    let size = ap length stored.words ∙ length-filled (length items ∷ items) (omega arith) in
    used_at a m (entry ref) ref (class_of (1 + length items)) (short_owned m word ref list plain some even at a owns) (inl refl)
    (size ∙ ap class_of (let e : suc (length items) ≡ 1 + length items = omega arith in e))

pub tree_used : {H : Type 0} (a : Ledger H) (m : Records) (word root : ℕ) → IsList m word → IsPlain word → word ≡ 2 * root + 1 → Owns a m (list_part word ∷ []) → IsUsedWidth a m 34
tree_used a m word root list plain is owns =
    let form = tree_form m word root plain is list in
    node_used a m root form.0.node (root_of_many m root form.1) (tree_owned a a m m word root list plain is owns)
