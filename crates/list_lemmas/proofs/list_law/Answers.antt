use Rattle.list_lemmas.proofs.Each.{AllByRecursion-append}
use Rattle.list_lemmas.proofs.Places.{slice_index-zeros}
use Rattle.list_lemmas.proofs.Pairs.{length-zip_even}
use Rattle.list_lemmas.proofs.Tests.{zero_from_test}
use Rattle.list_lemmas.proofs.Counts.{count_by-set}
use Rattle.list_lemmas.proofs.Errors.{same_error}
use Rattle.list_lemmas.proofs.Options.{same_Some}
use Rattle.std.proofs.Common.{◌≡◌, true}
use Rattle.list_lemmas.proofs.list_law.Goals as goal

pub returns : goal.returns
returns c = record {
  each = λ p. AllByRecursion-append (λ x. p x ≡ true);
  zeros = slice_index-zeros;
  pairs = length-zip_even;
  tests = zero_from_test;
  errors = same_error;
  options = same_Some;
  counts = λ p xs i x. count_by-set p xs i x 0;
}
