-- What holds of a list in its form.
use Rattle.std.proofs.Common.{◌≡◌, ℕ, zero, suc, ◌<◌, length, arith}
use Rattle.std.specs.List.Sorted.{IsStrictlySortedBy}
use Rattle.image_format.proofs.ListLemmas.{lists_filled}
use Rattle.entry_ref.specs.Records.{Records, SameAt, AllThere}
use Rattle.image_format.specs.Postings.{list_form}
use Rattle.image_format.specs.ProofsForImages.{postings_there}
use Rattle.attr_types.specs.declared.kind.ValueType.TheVariants as types
use Rattle.posting_store.specs.Lists.{list_at, list_reach, IsList}
use Rattle.posting_store.specs.ProofsForLists.{list_at-same, IsList-same}

pub nothing_is : (m : Records) → IsList m 0
unfolding IsStrictlySortedBy
nothing_is m = record { form = λ some. absurd (omega arith); ascends = tt; numbers = tt }

pub list_stays : (m n : Records) (word : ℕ) → SameAt (list_reach m word) m n → IsList m word → IsList n word × (list_at n word ≡ list_at m word)
list_stays m n word same list = (IsList-same m n word same list, list_at-same m n word same)

pub list_filled : (m : Records) (word : ℕ) → IsList m word → 0 < word → 0 < length (list_at m word)
list_filled m zero list some = absurd (omega arith)
list_filled m (suc word) list some = lists_filled m (list_form (suc word)) (list.form some)

pub list_there : (m : Records) (word : ℕ) → IsList m word → AllThere (list_reach m word) m
list_there m zero list = tt
list_there m (suc word) list = postings_there types.Long m (list_form (suc word)) (list.form (omega arith))
