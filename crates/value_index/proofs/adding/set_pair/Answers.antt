use Rattle.std.proofs.Common.{ℕ, ap, arith}
use Rattle.std.specs.Option.{option_map}
use Rattle.value_index.proofs.adding.set_pair.Goals as goal

pub set-requires : goal.set-requires
set-requires g c = (omega arith, (c.requires.unit, (c.requires.dictionary, (c.requires.record, (c.requires.reads, c.requires.owns)))))

pub returns-in-Ok-clause-makes : goal.returns-in-Ok-clause-makes
returns-in-Ok-clause-makes g c = c.in-Ok.ensures.makes

pub returns-in-Ok-clause-key : goal.returns-in-Ok-clause-key
returns-in-Ok-clause-key g c =
    let m = g.S.Frozen.records c.args.store.now in
    let n = g.S.Frozen.records c.set.new.store in
    let set = c.found_law.ensures.set m n c.args.root c.in-Ok.next c.args.value.now (c.args.key, c.args.posting) c.requires.dictionary c.requires.record c.requires.reads
    c.in-Ok.ensures.others c.in-Ok.ensures.makes.pairs_are in
    ap (option_map (λ (p : ℕ × ℕ). p.0)) set.found

pub returns-in-Ok-clause-counts : goal.returns-in-Ok-clause-counts
returns-in-Ok-clause-counts g c = c.set.ensures.counts

pub returns-in-Ok-clause-may : goal.returns-in-Ok-clause-may
returns-in-Ok-clause-may g c = c.set.ensures.may

pub returns-in-Err-clause-counts : goal.returns-in-Err-clause-counts
returns-in-Err-clause-counts g c = c.set.ensures.counts

pub returns-in-Err-clause-refuses : goal.returns-in-Err-clause-refuses
returns-in-Err-clause-refuses g c = c.in-Err.ensures.refuses

pub returns-in-Err-clause-may : goal.returns-in-Err-clause-may
returns-in-Err-clause-may g c = c.set.ensures.may
