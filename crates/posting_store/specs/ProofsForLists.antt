-- Proofs that a list stays the same while its records do. They are in specs/ since a part cites them; they are not
-- part of the specification.
use Rattle.std.proofs.Common.{◌≡◌, ℕ, zero, suc, ℤ, List, refl, sym, subst, arith}
use Rattle.std.specs.List.{AllByRecursion}
use Rattle.std.specs.List.Sorted.{IsStrictlySortedBy}
use Rattle.std.specs.Map.{keys_of}
use Rattle.std.specs.Ordering.{nat_cmp}
use Rattle.entry_ref.specs.Records.{Records, SameAt}
use Rattle.attr_types.specs.Lawful.{IsDocNumber}
use Rattle.image_format.specs.Postings.{list_form}
use Rattle.image_format.specs.ProofsForImages.{postings_at-same, postings_reach-same, IsPostingList-same}
use Rattle.posting_store.specs.Lists.{list_at, list_reach, IsList}

pub list_reach-same : (m n : Records) (word : ℕ) → SameAt (list_reach m word) m n → list_reach n word ≡ list_reach m word
list_reach-same m n zero same = refl
list_reach-same m n (suc word) same = postings_reach-same m n (list_form (suc word)) same

pub list_at-same : (m n : Records) (word : ℕ) → SameAt (list_reach m word) m n → list_at n word ≡ list_at m word
list_at-same m n zero same = refl
list_at-same m n (suc word) same = postings_at-same m n (list_form (suc word)) same

pub IsList-same : (m n : Records) (word : ℕ) → SameAt (list_reach m word) m n → IsList m word → IsList n word
IsList-same m n zero same list = record { form = λ some. absurd (omega arith); ascends = list.ascends; numbers = list.numbers }
IsList-same m n (suc word) same list =
    let docs = list_at-same m n (suc word) same in
    record {
      form = λ some. IsPostingList-same m n (list_form (suc word)) same (list.form some);
      ascends = subst (λ (es : List (ℕ × ℤ)). IsStrictlySortedBy nat_cmp (keys_of es)) (sym docs) list.ascends;
      numbers = subst (λ (es : List (ℕ × ℤ)). AllByRecursion IsDocNumber (keys_of es)) (sym docs) list.numbers;
    }
