-- The documents of a block, one bit after another.
use Rattle.std.proofs.Common.{◌≡◌, ℕ, zero, suc, ◌+◌, ◌*◌, ◌<◌, pos, Bool, true, false, cond, List, [], ◌∷◌, ◌++◌, length, map, filter, take, get_or, refl, sym, ap, subst, ◌∙◌, arith, true≢false}
use Rattle.std.specs.Prelude.{ℤ, nat_eq}
use Rattle.std.proofs.lemmas.List.{map-id, append-nil, append_assoc, take_more, map-append, length-map}
use Rattle.std.proofs.lemmas.Grind.{flat_map-append}
use Rattle.std.proofs.lemmas.List.FromFn.{filter_of_map_range_with_len_more}
use Rattle.std.specs.List.{range_with_len, flat_map, AllByRecursion}
use Rattle.entry_ref.specs.Records.{Records}
use Rattle.tree_read.specs.Trees.{tree_pairs}
use Rattle.image_format.specs.Postings.{block_documents, vector_documents, IsBlock}
use Rattle.image_format.specs.declared.TheConstants.{BLOCK_DOCUMENTS}
use Rattle.index_model.specs.Sets.{in_words}

-- a document with weight 1
abbrev pub weighed : ℕ → ℕ × ℤ
weighed doc = (doc, pos 1)

-- those of the first `n` bits
abbrev pub documents_below : ℕ → ℕ → List ℕ → ℕ → List (ℕ × ℤ)
documents_below size k ws n = map weighed (map (λ i. size * k + i) (filter (in_words ws) (range_with_len 0 n)))

more_bits : (t : ℕ → Bool) (n : ℕ) → filter t (range_with_len 0 (n + 1)) ≡ filter t (range_with_len 0 n) ++ cond (t n) (n ∷ []) []
more_bits t n =
    ap (filter t) (sym (map-id (range_with_len 0 (n + 1))))
    ∙ filter_of_map_range_with_len_more t (λ i. i) 0 n n (omega arith)
    ∙ ap (λ xs. filter t xs ++ cond (t n) (n ∷ []) []) (map-id (range_with_len 0 n))

module _ (size k : ℕ) (ws : List ℕ) where
  mapped : (xs last : List ℕ) → map weighed (map (λ i. size * k + i) (xs ++ last))
      ≡ map weighed (map (λ i. size * k + i) xs) ++ map weighed (map (λ i. size * k + i) last)
  mapped [] last = refl
  mapped (x ∷ xs) last = ap (λ ps. weighed (size * k + x) ∷ ps) (mapped xs last)

  bit_more : (n : ℕ) (bit : Bool) → in_words ws n ≡ bit
      → documents_below size k ws (n + 1) ≡ documents_below size k ws n ++ map weighed (map (λ i. size * k + i) (cond bit (n ∷ []) []))
  bit_more n bit is =
      ap (λ xs. map weighed (map (λ i. size * k + i) xs)) (more_bits (in_words ws) n)
      ∙ mapped (filter (in_words ws) (range_with_len 0 n)) (cond (in_words ws n) (n ∷ []) [])
      ∙ ap (λ b. documents_below size k ws n ++ map weighed (map (λ i. size * k + i) (cond b (n ∷ []) []))) is

  pub bit_in : (before now next : List (ℕ × ℤ)) (n : ℕ) → in_words ws n ≡ true → now ≡ before ++ documents_below size k ws n
      → next ≡ now ++ weighed (size * k + n) ∷ [] → next ≡ before ++ documents_below size k ws (n + 1)
  bit_in before now next n is so_far pushed =
      pushed ∙ ap (λ xs. xs ++ weighed (size * k + n) ∷ []) so_far
      ∙ append_assoc before (documents_below size k ws n) (weighed (size * k + n) ∷ [])
      ∙ ap (λ xs. before ++ xs) (sym (bit_more n true is))

  pub bit_out : (before now : List (ℕ × ℤ)) (n : ℕ) → in_words ws n ≡ false → now ≡ before ++ documents_below size k ws n
      → now ≡ before ++ documents_below size k ws (n + 1)
  bit_out before now n is so_far = so_far ∙ ap (λ xs. before ++ xs) (sym (bit_more n false is ∙ append-nil (documents_below size k ws n)))

  pub bits_end : (before now : List (ℕ × ℤ)) (n : ℕ) → n ≡ size → now ≡ before ++ documents_below size k ws n → now ≡ before ++ documents_below size k ws size
  bits_end before now n end so_far = so_far ∙ ap (λ m. before ++ documents_below size k ws m) end

all_bits : (k : ℕ) (ws : List ℕ) → documents_below BLOCK_DOCUMENTS k ws BLOCK_DOCUMENTS ≡ map weighed (block_documents k ws)
unfolding block_documents
all_bits k ws = refl

pub block_end : (k : ℕ) (ws : List ℕ) (before now : List (ℕ × ℤ)) (n : ℕ) → n ≡ BLOCK_DOCUMENTS → now ≡ before ++ documents_below BLOCK_DOCUMENTS k ws n
    → now ≡ before ++ map weighed (block_documents k ws)
block_end k ws before now n end so_far = bits_end BLOCK_DOCUMENTS k ws before now n end so_far ∙ ap (λ xs. before ++ xs) (all_bits k ws)

-- ---- one block more
module _ (m : Records) (pairs : List (ℕ × ℕ)) where
  pub blocks_more : (i : ℕ) (words : List ℕ) (now next : List (ℕ × ℤ)) → i < length pairs → words ≡ m (get_or pairs i (0, 0)).1
      → now ≡ map weighed (flat_map (λ (p : ℕ × ℕ). block_documents p.0 (m p.1)) (take i pairs))
      → next ≡ now ++ map weighed (block_documents (get_or pairs i (0, 0)).0 words)
      → next ≡ map weighed (flat_map (λ (p : ℕ × ℕ). block_documents p.0 (m p.1)) (take (i + 1) pairs))
  blocks_more i words now next below at so_far pushed =
      let f : ℕ × ℕ → List ℕ = λ p. block_documents p.0 (m p.1) in
      let p : ℕ × ℕ = get_or pairs i (0, 0) in
      pushed ∙ ap (λ ws. now ++ map weighed (block_documents p.0 ws)) at
      ∙ ap (λ xs. xs ++ map weighed (f p)) so_far
      ∙ sym (map-append weighed (flat_map f (take i pairs)) (f p))
      ∙ ap (λ xs. map weighed (flat_map f (take i pairs) ++ xs)) (sym (append-nil (f p)))
      ∙ ap (map weighed) (sym (flat_map-append f (take i pairs) (p ∷ [])))
      ∙ ap (λ ps. map weighed (flat_map f ps)) (sym (take_more pairs i (0, 0) below))

  pub forms_more : (i : ℕ) (words : List ℕ) → i < length pairs → words ≡ m (get_or pairs i (0, 0)).1
      → AllByRecursion (λ (p : ℕ × ℕ). IsBlock p.0 (m p.1)) (take i pairs) → IsBlock (get_or pairs i (0, 0)).0 words
      → AllByRecursion (λ (p : ℕ × ℕ). IsBlock p.0 (m p.1)) (take (i + 1) pairs)
  forms_more i words below at so_far block =
      let p : ℕ × ℕ = get_or pairs i (0, 0) in
      subst (AllByRecursion (λ (q : ℕ × ℕ). IsBlock q.0 (m q.1))) (sym (take_more pairs i (0, 0) below))
      (both (take i pairs) p so_far (subst (IsBlock p.0) at block))
    where
      both : (ps : List (ℕ × ℕ)) (p : ℕ × ℕ) → AllByRecursion (λ (q : ℕ × ℕ). IsBlock q.0 (m q.1)) ps → IsBlock p.0 (m p.1) → AllByRecursion (λ (q : ℕ × ℕ). IsBlock q.0 (m q.1)) (ps ++ p ∷ [])
      both [] p all block = (block, tt)
      both (q ∷ ps) p all block = (all.0, both ps p all.1 block)

-- how many documents a bit vector has
pub many_documents : (m : Records) (root : ℕ) (pairs : List (ℕ × ℕ)) (list : List (ℕ × ℤ)) → pairs ≡ tree_pairs m root
    → list ≡ map weighed (flat_map (λ (p : ℕ × ℕ). block_documents p.0 (m p.1)) pairs) → length list ≡ length (vector_documents m root)
many_documents m root pairs list same is =
    let f : ℕ × ℕ → List ℕ = λ p. block_documents p.0 (m p.1) in
    ap length is ∙ length-map (flat_map f pairs) weighed ∙ ap (λ ps. length (flat_map f ps)) same

pub more_than_none : (n : ℕ) → false ≡ nat_eq n 0 → 0 < n
more_than_none zero is = absurd (true≢false (sym is))
more_than_none (suc n) is = omega arith
