-- A commit of what parts own, by an image that reaches the same records.
use Rattle.std.proofs.Common.{◌≡◌, ℕ, zero, suc, ◌+◌, ◌<◌, ◌≤◌, Bool, true, false, not, ◌&&◌, Option, None, Some, ne_eqb, List, [], ◌∷◌, refl, sym, ap, subst, ◌∙◌, arith, inl, inr, ◌⊎◌, true≢false}
use Rattle.std.proofs.lemmas.Bool.{cases_Bool, cases_eq, eq-eqb}
use Rattle.std.specs.List.{AllByRecursion}
use Rattle.entry_ref.proofs.Among.{Among-append, SameAt-among}
use Rattle.value_index.proofs.KeyLemmas.{among_left, among_right}
use Rattle.list_lemmas.specs.Counting.{one_if}
use Rattle.entry_ref.specs.References.{buffer_of}
use Rattle.entry_ref.specs.Images.{image_of, words_at}
use Rattle.entry_ref.specs.Records.{Records, AllThere, Among}
use Rattle.entry_ref.specs.declared.images.Image.{Image}
use Rattle.entry_ref.proofs.Pairs.{pairs-same, same-from}
use Rattle.store_api.specs.Calls.{IsWhole, StoresCommit}
use Rattle.store_api.specs.Ledgers.{Ledger, is_in, is_this}
use Rattle.store_api.specs.Parts.{Part, AllStay, Turns, count_in, entries, times, uses}
use Rattle.store_api.specs.Statuses.{in_use}
use Rattle.store_api.specs.declared.store.Stored.{Stored}
use Rattle.store_api.proofs.CommitLemmas.{in-among, among-in, commit-uses}
use Rattle.store_api.proofs.PartLemmas.{count-stays, same_at}
use Rattle.store_api.proofs.Times.{all_from_times, among-times, times-among, times-other, times-same}
use Rattle.store_api.proofs.Uses.{uses-in, in-uses, uses-few}
use Rattle.image_format.specs.Attributes.{trees_reach}
use Rattle.image_format.specs.Tables.{AttributeTrees, attributes_reach}
use Rattle.attr_field.specs.Documents.{documents_refer}
use Rattle.attr_field.specs.Laws.{FieldReaches}
use Rattle.attr_operations.specs.Fields.{AllReferBeside, IsFieldAt, OwnsOutside, StillRefer, part_of, parts_of}
use Rattle.attr_operations.proofs.Columns.{FieldLaws}
use Rattle.attr_operations.proofs.Referring.{AreSame, key_owned}

-- ---- the records that attributes reach are those that they own
pub either_some : (a b : ℕ) → 0 < a + b → (0 < a) ⊎ (0 < b)
either_some zero b some = inr (omega arith)
either_some (suc a) b some = inl (omega arith)

module _ (reaches : FieldReaches) (m : Records) (r : ℕ) where
  -- what an attribute owns, and what its documents refer to
  one_reached : (a : AttributeTrees) (trees : List AttributeTrees) → Among r ((part_of a).reach m) ⊎ Among r (documents_refer a.kind m a.documents)
      → Among r (attributes_reach m (a ∷ trees))
  one_reached a trees either =
      among_left r (trees_reach a.kind m a.documents a.dictionary) (attributes_reach m trees) ((reaches a.kind m a.documents a.dictionary r).1 either)

  pub owned_reached : (trees : List AttributeTrees) → 0 < count_in r m (parts_of trees) → Among r (attributes_reach m trees)
  owned_reached [] some = absurd (omega arith)
  owned_reached (a ∷ trees) some = elim (either_some (times r ((part_of a).reach m)) (count_in r m (parts_of trees)) some) [
    | inl here ↦ one_reached a trees (inl (times-among r ((part_of a).reach m) here))
    | inr there ↦ among_right r (trees_reach a.kind m a.documents a.dictionary) (attributes_reach m trees) (owned_reached trees there)
  ]

  -- what attributes reach they own, or it is an old copy
  pub reached_used : (laws : FieldLaws) {H : Type 0} (ledger : Ledger H) (parts : List Part) (trees : List AttributeTrees) → AllByRecursion (IsFieldAt m) trees
      → AllReferBeside ledger m trees parts → Among r (attributes_reach m trees) → (0 < count_in r m (parts_of trees)) ⊎ (count_in r m parts < uses ledger r)
  reached_used laws ledger parts [] each refer among = absurd among
  reached_used laws ledger parts (a ∷ trees) each refer among = elim (Among-append r (trees_reach a.kind m a.documents a.dictionary) (attributes_reach m trees) among) [
    | inl here ↦ elim ((reaches a.kind m a.documents a.dictionary r).0 here) [
      | inl own ↦ (let some = among-times r ((part_of a).reach m) own in inl (omega arith))
      | inr refers ↦ elim (refer.0.each r refers) [
        | inl key ↦ (let some = key_owned laws m m a each.0 r key in inl (omega arith))
        | inr out ↦ inr out
      ]
    ]
    | inr there ↦ elim (reached_used laws ledger parts trees each.1 refer.1 there) [
      | inl own ↦ inl (omega arith)
      | inr out ↦ inr out
    ]
  ]

-- attributes stay where all that they reach stays
pub reached_same : (laws : FieldLaws) (reaches : FieldReaches) (m n : Records) (trees : List AttributeTrees) → AllByRecursion (IsFieldAt m) trees
    → ((r : ℕ) → Among r (attributes_reach m trees) → n r ≡ m r) → AreSame m n trees
reached_same laws reaches m n [] each same = tt
reached_same laws reaches m n (a ∷ trees) each same = (
  laws.stays a m n (same-from ((part_of a).reach m) m n (λ r own. same r (one_reached reaches m r a trees (inl own))))
      (same-from (documents_refer a.kind m a.documents) m n (λ r refers. same r (one_reached reaches m r a trees (inr refers)))) each.0,
  reached_same laws reaches m n trees each.1 (λ r there. same r (among_right r (trees_reach a.kind m a.documents a.dictionary) (attributes_reach m trees) there)),
)

-- and old copies that are reached are old copies still
pub reached_moved : (reaches : FieldReaches) {H : Type 0} (old new : Ledger H) (m n : Records) (trees : List AttributeTrees) (p q : List Part) → AreSame m n trees
    → AllReferBeside old m trees p → ((r : ℕ) → Among r (attributes_reach m trees) → count_in r m p < uses old r → count_in r n q < uses new r) → AllReferBeside new n trees q
reached_moved reaches old new m n [] p q same refer free = tt
reached_moved reaches old new m n (a ∷ trees) p q same refer free = (
  record {
    each = λ r among. let was = subst (Among r) same.0.refers among in elim (refer.0.each r was) [
      | inl key ↦ inl (same.0.keys r key)
      | inr out ↦ inr (free r (one_reached reaches m r a trees (inr was)) out)
    ];
  },
  reached_moved reaches old new m n trees p q same.1 refer.1 (λ r there. free r (among_right r (trees_reach a.kind m a.documents a.dictionary) (attributes_reach m trees) there)),
)

-- attributes that are the same reach the same
pub reach_same : (reaches : FieldReaches) (m n : Records) (trees : List AttributeTrees) → AreSame m n trees → AllStay (parts_of trees) m n → (r : ℕ)
    → Among r (attributes_reach n trees) → Among r (attributes_reach m trees)
reach_same reaches m n [] same stay r among = absurd among
reach_same reaches m n (a ∷ trees) same stay r among = elim (Among-append r (trees_reach a.kind n a.documents a.dictionary) (attributes_reach n trees) among) [
  | inl here ↦ elim ((reaches a.kind n a.documents a.dictionary r).0 here) [
    | inl own ↦ one_reached reaches m r a trees (inl (subst (Among r) ((part_of a).stays m n stay.0) own))
    | inr refers ↦ one_reached reaches m r a trees (inr (subst (Among r) same.0.refers refers))
  ]
  | inr there ↦ among_right r (trees_reach a.kind m a.documents a.dictionary) (attributes_reach m trees) (reach_same reaches m n trees same.1 stay.1 r there)
]

-- ---- what attributes reach in a sealed buffer, those in whose place they stand reached
none_or : (n : ℕ) → (n ≡ 0) ⊎ (0 < n)
none_or zero = inl refl
none_or (suc n) = inr (omega arith)

not_it : (r : ℕ) (refs : List ℕ) → times r refs ≡ 0 → (q : ℕ) → Among q refs → times q (r ∷ []) ≡ 0
not_it r refs none q there = elim (cases_eq q r) [
  | inl e ↦ (let some = among-times q refs there in let same : times q refs ≡ times r refs = ap (λ x. times x refs) e in absurd (omega arith))
  | inr apart ↦ times-other q r [] apart
]

module _ (laws : FieldLaws) (reaches : FieldReaches) {H : Type 0} (old new : Ledger H) (m n : Records) (trees next : List AttributeTrees) (before : AllByRecursion (IsFieldAt m) trees)
    (refers : AllReferBeside old m trees (parts_of trees)) where
  -- what they do not reach may stand beside them
  beside_it : (r : ℕ) → times r (attributes_reach m trees) ≡ 0 → AllReferBeside old m trees (entries (r ∷ []) ∷ parts_of trees)
  beside_it r none =
      reached_moved reaches old old m m trees (parts_of trees) (entries (r ∷ []) ∷ parts_of trees) (reached_same laws reaches m m trees before (λ q there. refl)) refers
      (λ q there less. let other = not_it r (attributes_reach m trees) none q there in omega arith)

  pub reach_before : AllByRecursion (IsFieldAt n) next → ((r : ℕ) → count_in r n (parts_of next) ≤ uses new r) → Turns old new m n (parts_of trees) (parts_of next)
      → StillRefer old new m n trees next → (r : ℕ) → in_use (old.status r) ≡ true → Among r (attributes_reach n next) → Among r (attributes_reach m trees)
  reach_before after few turns still r live among = elim (none_or (times r (attributes_reach m trees))) [
    | inr some ↦ times-among r (attributes_reach m trees) some
    | inl none ↦ elim (reached_used reaches n r laws new (entries (r ∷ []) ∷ parts_of next) next after (still (r ∷ []) (beside_it r none)) among) [
      | inl own ↦ owned_reached reaches m r trees
          (let most = few r in let one = uses-few new r in let was = uses-in old r live in let t = turns.balance r in omega arith)
      | inr out ↦ (let it = times-same r r [] refl in let one = uses-few new r in absurd (omega arith))
    ]
  ]

-- nothing lies in the finished buffer, where that is seen of each
pub apart_from : (finished : Option ℕ) (b : ℕ) → ((finished ≡ Some b) → ⊥) → is_this finished b ≡ false
apart_from None b not_there = refl
apart_from (Some c) b not_there = elim (cases_eq c b) [
  | inl e ↦ absurd (not_there (ap Some e))
  | inr ne ↦ ne_eqb c b ne
]

pub finished_this : (finished : Option ℕ) (b : ℕ) → finished ≡ Some b → is_this finished b ≡ true
finished_this finished b is = ap (λ f. is_this f b) is ∙ eq-eqb b b refl

-- ---- records that stay where they are reached
all_stay : (m n : Records) (parts : List Part) → ((r : ℕ) → 0 < count_in r m parts → n r ≡ m r) → AllStay parts m n
all_stay m n [] same = tt
all_stay m n (p ∷ parts) same = (
  same_at m n (p.reach m) (all_from_times (λ r. n r ≡ m r) (p.reach m) (λ r some. same r (omega arith))),
  all_stay m n parts (λ r some. same r (omega arith)),
)

-- ---- the commit
still_sealed : (x y : Bool) → (x && not y) ≡ false → y ≡ false → x ≡ false
still_sealed true true e none = absurd (true≢false none)
still_sealed true false e none = absurd (true≢false e)
still_sealed false y e none = refl

module _ {H : Type 0} (bits : ℕ) (old : Ledger H) (m : Records) (refs : List ℕ) (parts : List Part) (owns : OwnsOutside bits old m parts)
    (used : (r : ℕ) → Among r refs → 0 < uses old r) (owned : (r : ℕ) → 0 < count_in r m parts → Among r refs)
    (apart : (r : ℕ) → Among r refs → is_this old.finished (buffer_of bits r) ≡ false) where
  pub reached_whole : IsWhole bits old refs
  reached_whole = record {
    used = λ r among. in-uses old r (used r among);
    all = λ r live unsealed. owned r (let is = uses-in old r live in let most = owns.all r unsealed in omega arith);
    apart = apart;
  }

  module _ (root : ℕ) where
    abbrev committed : Image
    committed = image_of refs m root

    pub reached_record : (r : ℕ) → Among r refs → words_at (image_of refs m root) r ≡ m r
    reached_record r among = SameAt-among m (words_at committed) refs (pairs-same refs m) r among

    pub reached_stay : AllStay parts m (words_at (image_of refs m root))
    reached_stay = all_stay m (words_at committed) parts (λ r some. reached_record r (owned r some))

    module _ (there : AllThere refs m) (new : Ledger H) (answer : Stored) (stores : StoresCommit bits old new (image_of refs m root) answer) where
      has_uses : (r : ℕ) → uses new r ≡ one_if (is_in committed r)
      has_uses r = commit-uses bits old new committed answer stores r (λ e. reached_whole.used r (in-among refs m root r e)) (λ e. apart r (in-among refs m root r e))

      pub reached_uses : (r : ℕ) → Among r refs → uses new r ≡ 1
      reached_uses r among = has_uses r ∙ ap one_if (among-in refs m root r there among)

      counts_stay : (r : ℕ) → count_in r (words_at committed) parts ≡ count_in r m parts
      counts_stay r = count-stays parts m (words_at committed) r reached_stay

      owned_used : (r : ℕ) → count_in r (words_at committed) parts ≤ uses new r
      owned_used r = elim (none_or (count_in r m parts)) [
        | inl nothing ↦ (let stays = counts_stay r in omega arith)
        | inr some ↦ (let stays = counts_stay r in let is = reached_uses r (owned r some) in let most = owns.each r in let few = uses-few old r in omega arith)
      ]

      used_owned : (r : ℕ) → new.sealed (buffer_of bits r) ≡ false → uses new r ≤ count_in r (words_at committed) parts
      used_owned r unsealed = elim (cases_Bool (is_in committed r)) [
        | inl e ↦ (let among = in-among refs m root r e in
            let was : old.sealed (buffer_of bits r) ≡ false =
            still_sealed (old.sealed (buffer_of bits r)) (is_this old.finished (buffer_of bits r)) (sym (stores.sealed (buffer_of bits r)) ∙ unsealed) (apart r among) in
            let some = used r among in
            let most = owns.all r was in
            let is = reached_uses r among in
            let stays = counts_stay r in
            omega arith)
        | inr e ↦ (let none : one_if (is_in committed r) ≡ 0 = ap one_if e in let is = has_uses r in omega arith)
      ]

      pub reached_owns : OwnsOutside bits new (words_at (image_of refs m root)) parts
      reached_owns = record { each = owned_used; all = used_owned }
