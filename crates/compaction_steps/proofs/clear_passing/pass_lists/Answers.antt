use Rattle.std.proofs.Common.{◌≡◌, ◌%◌, ℕ, sym, subst, ◌∙◌, arith}
use Rattle.std.specs.Option.{IfSome}
use Rattle.compaction_moves.specs.Cleared.{trees_of_roots}
use Rattle.attr_compaction.specs.declared.plan.PlanKey.TheVariants.{Pair}
use Rattle.attr_compaction.specs.declared.plan.TheConstants.{LISTS}
use Rattle.attr_types.specs.declared.kind.ValueType.{ValueType}
use Rattle.enum_dictionary.specs.Dictionaries.{IsDictionary}
use Rattle.posting_store.specs.Lists.{IsPlain}
use Rattle.value_index.specs.Flows.{list_word}
use Rattle.compaction_steps.specs.Passes.{CanPass, Passes}
use Rattle.compaction_steps.proofs.clear_passing.pass_lists.Goals as goal

pub word_of-list-requires : goal.word_of-list-requires
word_of-list-requires g c =
    (omega arith, subst (λ (t : ValueType). IsDictionary t (g.F.Frozen.records c.args.frozen.now) c.args.roots.dictionary) (sym c.requires.typed) c.requires.index_is.dictionary_is)

pub returns-then-is_vector-clause-same : goal.returns-then-is_vector-clause-same
returns-then-is_vector-clause-same g c = c.word_of-list.ensures.same

pub pass_tree_list-requires : goal.pass_tree_list-requires
pass_tree_list-requires g c =
    let records = g.F.Frozen.records in
    let back = sym c.word_of-list.ensures.same in
    let a = trees_of_roots c.args.field.now c.args.roots in (
      omega arith,
      (
        subst (λ (f : g.row.F.Denot). CanPass g.row.OFFSET_BITS c.args.plan.now.victim c.args.plan.now.place (records f) a LISTS (Pair c.args.value.now c.args.doc)) back c.requires,
        (
          subst (λ (f : g.row.F.Denot). c.word_of-list.result ≡ list_word c.args.value.now (records f) c.args.roots.dictionary) back c.word_of-list.ensures.word,
          (c.is_vector.ensures.plain c.if-is_vector.false, c.is_tree.ensures.odd c.if-is_tree.true),
        ),
      ),
    )

pub returns-then-is_tree-clause-passes : goal.returns-then-is_tree-clause-passes
returns-then-is_tree-clause-passes g c =
    let a = trees_of_roots c.args.field.now c.args.roots in
    subst (λ (f : g.row.F.Denot). IfSome c.pass_tree_list.result (λ p. Passes g.row.OFFSET_BITS c.args.plan.now.victim c.args.plan.now.place (g.F.Frozen.records f) a p.last p.keys))
    c.word_of-list.ensures.same c.pass_tree_list.ensures.passes

pub returns-then-is_tree-clause-few : goal.returns-then-is_tree-clause-few
returns-then-is_tree-clause-few g c = c.pass_tree_list.ensures.few

pub returns-then-is_tree-clause-same : goal.returns-then-is_tree-clause-same
returns-then-is_tree-clause-same g c = c.pass_tree_list.ensures.same ∙ c.word_of-list.ensures.same

pub pass_records-requires : goal.pass_records-requires
pass_records-requires g c =
    let records = g.F.Frozen.records in
    let back = sym c.word_of-list.ensures.same in
    let a = trees_of_roots c.args.field.now c.args.roots in
    let word : c.word_of-list.result ≡ list_word c.args.value.now (records c.word_of-list.new.frozen) c.args.roots.dictionary =
    subst (λ (f : g.row.F.Denot). c.word_of-list.result ≡ list_word c.args.value.now (records f) c.args.roots.dictionary) back c.word_of-list.ensures.word in (
      omega arith,
      (
        subst (λ (f : g.row.F.Denot). CanPass g.row.OFFSET_BITS c.args.plan.now.victim c.args.plan.now.place (records f) a LISTS (Pair c.args.value.now c.args.doc)) back c.requires,
        (
          subst IsPlain word (c.is_vector.ensures.plain c.if-is_vector.false),
          subst (λ (w : ℕ). w % 2 ≡ 0) word (c.is_tree.ensures.even c.if-is_tree.false),
        ),
      ),
    )

pub returns-clause-passes : goal.returns-clause-passes
returns-clause-passes g c =
    let a = trees_of_roots c.args.field.now c.args.roots in
    subst (λ (f : g.row.F.Denot). IfSome c.pass_records.result (λ p. Passes g.row.OFFSET_BITS c.args.plan.now.victim c.args.plan.now.place (g.F.Frozen.records f) a p.last p.keys))
    c.word_of-list.ensures.same c.pass_records.ensures.passes

pub returns-clause-few : goal.returns-clause-few
returns-clause-few g c = c.pass_records.ensures.few

pub returns-clause-same : goal.returns-clause-same
returns-clause-same g c = c.pass_records.ensures.same ∙ c.word_of-list.ensures.same
