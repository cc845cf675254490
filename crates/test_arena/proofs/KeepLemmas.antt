-- What a keeper knows after each call of its store.
use Rattle.std.proofs.Common.{◌≡◌, ℕ, zero, suc, ◌+◌, ◌<◌, ◌≤◌, List, [], ◌∷◌, length, true, false, Option, Some, None, refl, sym, ap, subst, ◌∙◌, arith, inl, inr, cond, Bool, true≢false}
use Rattle.std.proofs.lemmas.Bool.{eq-eqb, ne_eqb}
use Rattle.entry_ref.specs.References.{buffer_of}
use Rattle.entry_ref.specs.Images.{image_of, words_at}
use Rattle.entry_ref.specs.Records.{Records, SameAt, AllThere, Among}
use Rattle.test_kit.specs.OneNode.{node_reaches, IsNodeRecord}
use Rattle.store_api.specs.Statuses.{in_use}
use Rattle.store_api.specs.Ledgers.{Ledger, IsNew, IsSettled, is_this}
use Rattle.store_api.specs.Units.{MayDo}
use Rattle.store_api.specs.Calls.{Accepts, Undoes, IsWhole, Seals, StoresCommit}
use Rattle.store_api.specs.declared.store.Stored.{Stored}
use Rattle.store_api.specs.Parts.{Owns, OwnsAll, Turns, entry, entries, times, uses}
use Rattle.store_api.proofs.CommitLemmas.{whole-from, commit-owns, commit-same}
use Rattle.store_api.proofs.Times.{times-same}
use Rattle.store_api.proofs.Uses.{uses-out, uses-same, uses-few}
use Rattle.store_api.proofs.UnitLemmas.{apart-from, turns-accept, turns-undone}
use Rattle.arena_api.specs.Calls.{IsFresh, padded}
use Rattle.arena_api.proofs.Padded.{length-padded}
use Rattle.gen_core.specs.declared.views.WriterView.{WriterView}
use Rattle.gen_core.specs.Events.{with_reader}
use Rattle.word_arena.specs.Knows.{view_of}
use Rattle.test_arena.specs.declared.keeping.Keeping.{Keeping}
use Rattle.test_arena.specs.Keepings.{root_refs, IsKeeping}

pub refs-some : (root : ℕ) → 0 < root → root_refs root ≡ root ∷ []
refs-some zero some = absurd (omega arith)
refs-some (suc root) some = refl

none-some : (o : Option ℕ) (b : ℕ) → o ≡ None → o ≡ Some b → ⊥
none-some o b none some = let e : None ≡ Some b = sym none ∙ some in cc

some-same : (a b : ℕ) → Some a ≡ Some b → a ≡ b
some-same a b e = cc

pub keeps-new : {H : Type 0} (a : Ledger H) (m : Records) (k : Keeping) → k.root ≡ 0 → k.sealed ≡ None → k.finished ≡ None → IsNew a → IsKeeping a m k
keeps-new a m k root sealed finished new = record {
  unit = new.unit;
  owns = subst (λ (x : ℕ). OwnsAll a m (entries (root_refs x) ∷ [])) (sym root) (record { each = λ r. sym (uses-out a r (ap in_use (new.status r))) });
  node = λ some. absurd (omega (arith, some, root));
  sealed = λ b is. absurd (none-some k.sealed b sealed is);
  finished = new.finished ∙ sym finished;
  apart = ap (λ (o : Option ℕ). is_this o (buffer_of 22 k.root)) finished;
}

-- a root is dropped
pub drops-none : {H : Type 0} (a : Ledger H) (m : Records) (root : ℕ) → root ≡ 0 → Turns a a m m (entries (root_refs root) ∷ []) []
drops-none a m zero none = record { kept = λ r h. refl; balance = λ r. omega arith }
drops-none a m (suc root) none = absurd (omega arith)

pub owns-root : {H : Type 0} (a : Ledger H) (m : Records) (root : ℕ) → 0 < root → Owns a m (entries (root_refs root) ∷ []) → Owns a m (entry root ∷ [])
owns-root a m zero some owns = absurd (omega arith)
owns-root a m (suc root) some owns = record { each = λ r. owns.each r }

pub drops-root : {H : Type 0} (a b : Ledger H) (m n : Records) (root : ℕ) → 0 < root → Turns a b m n (entry root ∷ []) [] → Turns a b m n (entries (root_refs root) ∷ []) []
drops-root a b m n zero some turns = absurd (omega arith)
drops-root a b m n (suc root) some turns = record { kept = λ r h. turns.kept r h; balance = λ r. turns.balance r }

-- the root is in use
used-root : {H : Type 0} (a : Ledger H) (m : Records) (root : ℕ) → 0 < root → OwnsAll a m (entries (root_refs root) ∷ []) → 0 < uses a root
used-root a m zero some owns = absurd (omega arith)
used-root a m (suc root) some owns = let e = owns.each (suc root) in let t = times-same (suc root) (suc root) [] refl in omega arith

-- what is in use stays
pub keeps-same : {H : Type 0} (a b : Ledger H) (m n : Records) (k : Keeping) → IsKeeping a m k → Turns a b m n [] [] → b.unit ≡ false → b.sealed ≡ a.sealed → b.finished ≡ a.finished → IsKeeping b n k
keeps-same a b m n k kept turns unit sealed finished = record {
  unit = unit;
  owns = record { each = λ r. let e = kept.owns.each r in let t = turns.balance r in omega arith };
  node = λ some. ap (λ ws. length ws) (turns.kept k.root (used-root a m k.root some kept.owns)) ∙ kept.node some;
  sealed = λ v is. ap (λ (f : ℕ → Bool). f v) sealed ∙ kept.sealed v is;
  finished = finished ∙ kept.finished;
  apart = kept.apart;
}

-- a node in place of the root: a unit is begun, the node made, the root dropped, the unit accepted
module _ {H : Type 0} (a b c : Ledger H) (m n o : Records) (k : Keeping) (q : ℕ)
    (kept : IsKeeping a m k) (begins : b ≡ record a { unit = true }) (makes : Turns b c n o [] (entry q ∷ [])) (mays : MayDo b c) where
  begun-each : (r : ℕ) → times r (root_refs k.root) + 0 ≡ uses b r
  begun-each r = kept.owns.each r ∙ sym (ap (λ (l : Ledger H). uses l r) begins)

  both : (r : ℕ) → times r (root_refs k.root) + times r (q ∷ []) ≡ uses c r
  both r = let e = begun-each r in let t = makes.balance r in omega arith

  pub made-unit : c.unit ≡ true
  made-unit = mays.unit ∙ ap (λ l. l.unit) begins

  pub made-owns : Owns c o (entries (root_refs k.root) ∷ [])
  made-owns = record { each = λ r. let e = both r in omega arith }

  module _ (d e : Ledger H) (p s : Records) (last : ℕ) (drops : Turns c d o p (entries (root_refs k.root) ∷ []) []) (goes : MayDo c d) (accepts : Accepts d e p s) where
    left : (r : ℕ) → times r (q ∷ []) + 0 ≡ uses d r
    left r = let e = both r in let t = drops.balance r in omega arith

    here : times q (q ∷ []) ≡ 1
    here = times-same q q [] refl

    absent : times q (root_refs k.root) + 0 < uses c q
    absent = let e = both q in let h = here in let f = uses-few c q in omega arith

    accepted : Turns d e p s [] []
    accepted = turns-accept d e p s accepts

    words : s q ≡ o q
    words = accepted.kept q (let l = left q in let h = here in omega arith) ∙ drops.kept q absent

    pub put-keeps : length (o q) ≡ 34 → 0 < q → c.sealed (buffer_of 22 q) ≡ false → ((f : ℕ) → e.finished ≡ Some f → e.sealed f ≡ true)
        → IsKeeping e s (record { last = last; root = q; sealed = k.sealed; finished = k.finished })
    put-keeps long some unsealed law =
        let seals : e.sealed ≡ a.sealed = accepts.sealed ∙ goes.sealed ∙ mays.sealed ∙ ap (λ l. l.sealed) begins in
        let ends : e.finished ≡ k.finished = accepts.finished ∙ goes.finished ∙ mays.finished ∙ ap (λ l. l.finished) begins ∙ kept.finished in
        let out : e.sealed (buffer_of 22 q) ≡ false = ap (λ (f : ℕ → Bool). f (buffer_of 22 q)) (accepts.sealed ∙ goes.sealed) ∙ unsealed in
        record {
          unit = accepts.unit;
          owns = subst (λ (refs : List ℕ). OwnsAll e s (entries refs ∷ [])) (sym (refs-some q some)) (record { each = λ r. let l = left r in let t = accepted.balance r in omega arith });
          node = λ there. ap (λ ws. length ws) words ∙ long;
          sealed = λ v is. ap (λ (f : ℕ → Bool). f v) seals ∙ kept.sealed v is;
          finished = ends;
          apart = subst (λ (f : Option ℕ). is_this f (buffer_of 22 q) ≡ false) ends (apart-from e.finished e.sealed (buffer_of 22 q) law out);
        }

reach-is : (shape : ℕ) (m : Records) (r : ℕ) → root_refs r ≡ node_reaches shape m r
reach-is shape m zero = refl
reach-is shape m (suc r) = refl

refs-apart : (root : ℕ) (finished : Option ℕ) → is_this finished (buffer_of 22 root) ≡ false → (r : ℕ) → Among r (root_refs root) → is_this finished (buffer_of 22 r) ≡ false
refs-apart zero finished apart r among = absurd among
refs-apart (suc root) finished apart r (inl e) = subst (λ (x : ℕ). is_this finished (buffer_of 22 x) ≡ false) (sym e) apart
refs-apart (suc root) finished apart r (inr none) = absurd none

refs-there : (root : ℕ) (m : Records) → IsNodeRecord 0 m root → AllThere (root_refs root) m
refs-there zero m node = tt
refs-there (suc root) m node = let is = node (omega arith) in (omega (arith, is), tt)

refs-node : (root : ℕ) (m n : Records) → SameAt (root_refs root) m n → IsNodeRecord 0 m root → IsNodeRecord 0 n root
refs-node zero m n same node = λ some. absurd (omega (arith, some))
refs-node (suc root) m n same node = λ some. ap (λ ws. length ws) same.0 ∙ node some

-- the root is committed
module _ {H : Type 0} (shape : ℕ) (a : Ledger H) (m : Records) (k : Keeping) (kept : IsKeeping a m k) where
  whole-refs : IsWhole 22 a (root_refs k.root)
  whole-refs =
      whole-from 22 a m (entries (root_refs k.root)) [] kept.owns (λ r h. absurd (omega arith))
      (refs-apart k.root a.finished (ap (λ (f : Option ℕ). is_this f (buffer_of 22 k.root)) kept.finished ∙ kept.apart))

  pub whole-root : IsWhole 22 a (node_reaches shape m k.root)
  whole-root = subst (IsWhole 22 a) (reach-is shape m k.root) whole-refs

  pub commit-keeps : (b : Ledger H) (n : Records) (answer : Stored) (last : ℕ) → StoresCommit 22 a b (image_of (node_reaches shape m k.root) m k.root) answer
      → n ≡ words_at (image_of (node_reaches shape m k.root) m k.root) → IsKeeping b n (record { last = last; root = k.root; sealed = None; finished = None })
  commit-keeps b n answer last stores records =
      let part = entries (root_refs k.root) in
      let there = refs-there k.root m kept.node in
      let stored : StoresCommit 22 a b (image_of (root_refs k.root) m k.root) answer =
      subst (λ (refs : List ℕ). StoresCommit 22 a b (image_of refs m k.root) answer) (sym (reach-is shape m k.root)) stores in
      let is : n ≡ words_at (image_of (root_refs k.root) m k.root) =
      records ∙ ap (λ (refs : List ℕ). words_at (image_of refs m k.root)) (sym (reach-is shape m k.root)) in
      let all = commit-owns 22 a b m part [] k.root answer kept.owns whole-refs there stored in
      let same = commit-same 22 a b m part [] k.root answer kept.owns whole-refs there stored in
      record {
        unit = stores.unit;
        owns = subst (λ (x : Records). OwnsAll b x (part ∷ [])) (sym is) all;
        node = refs-node k.root m n (subst (λ (x : Records). SameAt (root_refs k.root) m x) (sym is) same) kept.node;
        sealed = λ v is. absurd (none-some None v refl is);
        finished = stores.finished;
        apart = refl;
      }

-- a buffer is sealed
pub seal-keeps : {H : Type 0} (a b : Ledger H) (m n : Records) (k : Keeping) (victim last : ℕ) → IsKeeping a m k → Seals a b victim → n ≡ m
    → IsKeeping b n (record { last = last; root = k.root; sealed = Some victim; finished = k.finished })
seal-keeps a b m n k victim last kept seals records = record {
  unit = ap (λ l. l.unit) seals.same ∙ kept.unit;
  owns = record { each = λ r. kept.owns.each r ∙ sym (uses-same a b r (ap (λ l. in_use (l.status r)) seals.same)) };
  node = λ some. ap (λ (x : Records). length (x k.root)) records ∙ kept.node some;
  sealed = λ v is. subst (λ (x : ℕ). b.sealed x ≡ true) (some-same victim v is) (seals.sealed victim ∙ ap (λ (t : Bool). cond t true (a.sealed victim)) (eq-eqb victim victim refl));
  finished = ap (λ l. l.finished) seals.same ∙ kept.finished;
  apart = kept.apart;
}

-- and finished
pub finish-keeps : {H : Type 0} (a b : Ledger H) (m n : Records) (k : Keeping) (victim last : ℕ) → IsKeeping a m k → b ≡ record a { finished = Some victim } → n ≡ m
    → is_this (Some victim) (buffer_of 22 k.root) ≡ false → IsKeeping b n (record { last = last; root = k.root; sealed = k.sealed; finished = Some victim })
finish-keeps a b m n k victim last kept ledger records apart = record {
  unit = ap (λ l. l.unit) ledger ∙ kept.unit;
  owns = record { each = λ r. kept.owns.each r ∙ sym (uses-same a b r (ap (λ l. in_use (l.status r)) ledger)) };
  node = λ some. ap (λ (x : Records). length (x k.root)) records ∙ kept.node some;
  sealed = λ v is. ap (λ l. l.sealed v) ledger ∙ kept.sealed v is;
  finished = ap (λ l. l.finished) ledger;
  apart = apart;
}

-- a unit that is undone
pub undo-keeps : {H : Type 0} (a b c d : Ledger H) (m n : Records) (k : Keeping) → IsKeeping a m k → IsSettled a m → b ≡ record a { unit = true } → MayDo b c
    → Undoes c d n → IsKeeping d n k
undo-keeps a b c d m n k kept settled begins may undoes =
    keeps-same a d m n k kept (turns-undone a b c d m n settled begins may undoes) undoes.unit
    (undoes.sealed ∙ may.sealed ∙ ap (λ l. l.sealed) begins) (undoes.finished ∙ may.finished ∙ ap (λ l. l.finished) begins)

pub long-of : (r ws : List ℕ) → r ≡ padded ws 34 → length ws ≤ 34 → length r ≡ 34
long-of r ws is fits = ap (λ (l : List ℕ). length l) is ∙ length-padded ws 34 fits

-- one seat more changes nothing else of a new work
pub seat-fresh : {H : Type 0} (z : H) (w : WriterView) → IsFresh (view_of z w) → IsFresh (view_of z (with_reader w))
seat-fresh z w fresh = record { queue = fresh.queue; floor = fresh.floor; last = fresh.last; image = fresh.image; buffers = λ b. fresh.buffers b }
