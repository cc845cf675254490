-- The records that a document's items have and refer to, as the words of its record have them.
use Rattle.std.proofs.Common.{◌≡◌, ◌≢◌, ℕ, zero, suc, ◌<◌, ℤ, true, List, [], ◌∷◌, get_or, length, map, take, refl, sym, ap, subst, ◌∙◌, arith}
use Rattle.entry_ref.specs.References.{buffer_of}
use Rattle.entry_ref.specs.Records.{Records}
use Rattle.frozen_btree.specs.Paths.{NoneIn}
use Rattle.image_format.specs.Words.{stored_items}
use Rattle.attr_types.specs.declared.kind.Kind.{Kind}
use Rattle.attr_types.specs.declared.kind.Kind.TheVariants.{Single, Array, WeightedSet}
use Rattle.attr_types.specs.declared.kind.ValueType.{ValueType}
use Rattle.attr_field.specs.Documents.{items_own, items_refer}
use Rattle.attr_field.specs.Items.{has_list, word_entry}
use Rattle.attr_field.proofs.ReadLemmas.{words_are, mapped_twice}
use Rattle.compaction_moves.specs.DocumentMoves.{AreItemsApart}

-- the record in a word
abbrev pub record_of : Kind → ℕ → ℕ
record_of kind word = (word_entry kind word).0

module _ (bits buffer : ℕ) (f : ℕ → ℕ) where
  pub none_more : (ws : List ℕ) (i : ℕ) → i < length ws → NoneIn bits buffer (map f (take i ws)) → buffer_of bits (f (get_or ws i 0)) ≢ buffer
      → NoneIn bits buffer (map f (take (suc i) ws))
  none_more [] i below all here = absurd (omega arith)
  none_more (w ∷ ws) zero below all here = (here, tt)
  none_more (w ∷ ws) (suc i) below all here = (all.0, none_more ws i (omega arith) all.1 here)

  pub none_at : (ws : List ℕ) (i : ℕ) → i < length ws → NoneIn bits buffer (map f ws) → buffer_of bits (f (get_or ws i 0)) ≢ buffer
  none_at [] i below all = absurd (omega arith)
  none_at (w ∷ ws) zero below all = all.0
  none_at (w ∷ ws) (suc i) below all = none_at ws i (omega arith) all.1

own_list : (kind : Kind) (ref : ℕ) → has_list kind ≡ true → 0 < ref → items_own kind ref ≡ ref ∷ []
own_list kind zero has some = absurd (omega arith)
own_list Single (suc ref) has some = cc
own_list Array (suc ref) has some = refl
own_list WeightedSet (suc ref) has some = refl

module _ (bits buffer : ℕ) (kind : Kind) (type : ValueType) (m : Records) (ref : ℕ) where
  refer_words : has_list kind ≡ true → 0 < ref → items_refer kind ref (m ref) ≡ map (record_of kind) (stored_items (m ref))
  refer_words has some =
      ap (map (λ (e : ℕ × ℤ). e.0)) (words_are kind type m ref has some) ∙ sym (mapped_twice (λ (e : ℕ × ℤ). e.0) (word_entry kind) (stored_items (m ref)))

  -- no items
  pub apart_none : ref ≡ 0 → AreItemsApart bits buffer kind m ref
  apart_none none = subst (AreItemsApart bits buffer kind m) (sym none) (record { own = tt; refer = tt })

  -- its own record, or a single value's, lies there
  pub lies_here : 0 < ref → buffer_of bits ref ≡ buffer → AreItemsApart bits buffer kind m ref → ⊥
  lies_here some lies apart = told kind ref some lies apart
    where
      told : (k : Kind) (q : ℕ) → 0 < q → buffer_of bits q ≡ buffer → AreItemsApart bits buffer k m q → ⊥
      told k zero some lies apart = omega arith
      told Single (suc q) some lies apart = apart.refer.0 lies
      told Array (suc q) some lies apart = apart.own.0 lies
      told WeightedSet (suc q) some lies apart = apart.own.0 lies

  pub apart_single : kind ≡ Single → buffer_of bits ref ≢ buffer → AreItemsApart bits buffer kind m ref
  apart_single is away = subst (λ k. AreItemsApart bits buffer k m ref) (sym is) (told ref away)
    where
      told : (q : ℕ) → buffer_of bits q ≢ buffer → AreItemsApart bits buffer Single m q
      told zero away = record { own = tt; refer = tt }
      told (suc q) away = record { own = tt; refer = (away, tt) }

  -- a list
  pub list_found : has_list kind ≡ true → 0 < ref → (NoneIn bits buffer (map (record_of kind) (stored_items (m ref))) → ⊥) → AreItemsApart bits buffer kind m ref → ⊥
  list_found has some found apart = found (subst (NoneIn bits buffer) (refer_words has some) apart.refer)

  pub list_apart : has_list kind ≡ true → 0 < ref → buffer_of bits ref ≢ buffer → NoneIn bits buffer (map (record_of kind) (stored_items (m ref))) → AreItemsApart bits buffer kind m ref
  list_apart has some away none = record {
    own = subst (NoneIn bits buffer) (sym (own_list kind ref has some)) (away, tt);
    refer = subst (NoneIn bits buffer) (sym (refer_words has some)) none;
  }
