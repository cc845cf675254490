-- What holds of an answer.
use Rattle.std.proofs.Common.{◌≡◌, ◌<◌, ℕ, zero, suc, Bool, true, false, IsTrue, true≢false, Result, Ok, Err, refl, sym, subst, arith}
pub use Rattle.frozen_nodes.proofs.Results.{on_err}

-- a reference that is not valid is 0
pub not_valid : (b : Bool) (r : ℕ) → (0 < r → IsTrue b) → b ≡ false → r ≡ 0
not_valid b zero h e = refl
not_valid b (suc r) h e = absurd (true≢false (sym (subst IsTrue e (h (omega arith)))))

pub is_valid : (b : Bool) (r : ℕ) → (IsTrue b → 0 < r) → b ≡ true → 0 < r
is_valid b r h e = h (subst IsTrue (sym e) refl)

is_answer : {A E : Type 0} → A → Result A E → Type 0
is_answer x (Ok y) = x ≡ y
is_answer x (Err e) = ⊥

-- an answer is one alone
pub one_answer : {A E : Type 0} (result : Result A E) (x y : A) → result ≡ Ok x → result ≡ Ok y → x ≡ y
unfolding is_answer
one_answer result x y first second = subst (is_answer x) second (subst (is_answer x) (sym first) refl)

-- and no error
pub no_error : {A E P : Type 0} (result : Result A E) (x : A) (e : E) → result ≡ Ok x → result ≡ Err e → P
unfolding is_answer
no_error result x e first second = absurd (subst (is_answer x) second (subst (is_answer x) (sym first) refl))
