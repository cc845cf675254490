use Rattle.std.proofs.Common.{ℕ, refl, sym, ap, subst, arith}
use Rattle.std.specs.List.{zip}
use Rattle.std.specs.List.Sorted.{IsStrictlySortedBy}
use Rattle.std.specs.Ordering.{nat_cmp}
use Rattle.std.proofs.lemmas.Result.{IfOk-weaker}
use Rattle.list_lemmas.proofs.Each.{AllByRecursion-each}
use Rattle.test_trees.proofs.RowLemmas.{keys_of_pairs}
use Rattle.test_trees.proofs.of_build.build_numbers.Goals as goal

pub build-requires : goal.build-requires
build-requires g c =
    let m = g.S.Frozen.records c.begin.new.self in
    let ks = c.args.numbers.now in (
      omega arith,
      (
        ap (λ l. l.unit) c.begin.ensures.ledger,
        (
          refl,
          (
            subst (IsStrictlySortedBy nat_cmp) (sym (keys_of_pairs m ks)) c.requires.sorted,
            (
              AllByRecursion-each (λ (p : ℕ × ℕ). Unit {0}) (λ p. tt) (zip ks ks),
              AllByRecursion-each (λ (p : ℕ × ℕ). Unit {0}) (λ p. tt) (zip ks ks),
            ),
          ),
        ),
      ),
    )

pub returns : goal.returns
returns g c = IfOk-weaker c.build.result _ _ (λ r keyed. keyed.tree.node) c.build.ensures.keyed
