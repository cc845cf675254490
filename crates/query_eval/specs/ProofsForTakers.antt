-- Lemmas on documents that are added in parts, for the laws of receivers of keys. They are proofs, not part of the
-- specification.
use Rattle.std.proofs.Common.{◌≡◌, ℕ, Bool, true, false, ◌||◌, ◌&&◌, List, [], ◌++◌, refl, sym, ap, subst, ◌∙◌, nat_eq}
use Rattle.std.proofs.lemmas.List.Folds.{list_any-append}
use Rattle.index_model.specs.Sets.{has, in_words}
use Rattle.query_eval.specs.Takers.{Adds, AddsMeeting}

nothing : (a : Bool) → a ≡ (a || false)
nothing true = refl
nothing false = refl

none_kept : (a b : Bool) → a ≡ (a || (b && false))
none_kept true b = refl
none_kept false true = refl
none_kept false false = refl

either : (a x y : Bool) → ((a || x) || y) ≡ (a || (x || y))
either true x y = refl
either false x y = refl

either_kept : (s a x y : Bool) → ((a || (s && x)) || (s && y)) ≡ (a || (s && (x || y)))
either_kept true a x y = either a x y
either_kept false true x y = refl
either_kept false false x y = refl

pub adds_none : (old : ℕ → Bool) → Adds old [] old
adds_none old doc = nothing (old doc)

pub adds_joined : (a b c : ℕ → Bool) (xs ys : List ℕ) → Adds a xs b → Adds b ys c → Adds a (xs ++ ys) c
adds_joined a b c xs ys first second doc =
    second doc ∙ ap (λ t. t || has ys doc) (first doc) ∙ either (a doc) (has xs doc) (has ys doc)
    ∙ ap (λ t. a doc || t) (sym (list_any-append (nat_eq doc) xs ys))

keeps_none : (set old : ℕ → Bool) → AddsMeeting set old [] old
keeps_none set old doc = none_kept (old doc) (set doc)

keeps_joined : (set a b c : ℕ → Bool) (xs ys : List ℕ) → AddsMeeting set a xs b → AddsMeeting set b ys c → AddsMeeting set a (xs ++ ys) c
keeps_joined set a b c xs ys first second doc =
    second doc ∙ ap (λ t. t || (set doc && has ys doc)) (first doc) ∙ either_kept (set doc) (a doc) (has xs doc) (has ys doc)
    ∙ ap (λ t. a doc || (set doc && t)) (sym (list_any-append (nat_eq doc) xs ys))

-- the same beside a bit vector that does not change
pub kept_none : (marks : List ℕ) (old : ℕ → Bool) → (marks ≡ marks) × AddsMeeting (in_words marks) old [] old
kept_none marks old = (refl, keeps_none (in_words marks) old)

pub kept_joined : (marks next last : List ℕ) (a b c : ℕ → Bool) (xs ys : List ℕ)
    → (next ≡ marks) × AddsMeeting (in_words marks) a xs b → (last ≡ next) × AddsMeeting (in_words next) b ys c
    → (last ≡ marks) × AddsMeeting (in_words marks) a (xs ++ ys) c
kept_joined marks next last a b c xs ys first second = (
  second.0 ∙ first.0,
  keeps_joined (in_words marks) a b c xs ys first.1 (subst (λ (ws : List ℕ). AddsMeeting (in_words ws) b ys c) first.0 second.1),
)

-- a bit vector in which each document has a bit
pub marks_none : (old : ℕ → Bool) (fits : Bool) → fits ≡ true → (fits ≡ true) × Adds old [] old
marks_none old fits is = (is, adds_none old)

pub marks_joined : (a b c : ℕ → Bool) (fits next last : Bool) (xs ys : List ℕ) → (next ≡ true → (fits ≡ true) × Adds a xs b)
    → (last ≡ true → (next ≡ true) × Adds b ys c) → last ≡ true → (fits ≡ true) × Adds a (xs ++ ys) c
marks_joined a b c fits next last xs ys first second is =
    let after = second is in
    let before = first after.0 in
    (before.0, adds_joined a b c xs ys before.1 after.1)
