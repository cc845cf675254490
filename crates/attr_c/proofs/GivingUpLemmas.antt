-- What giving a compaction up leaves of what a step did.
use Rattle.std.proofs.Common.{◌≡◌, ◌⊎◌, inl, inr, ℕ, List, refl, sym, subst, ap}
use Rattle.entry_ref.specs.Records.{Records}
use Rattle.store_api.specs.Ledgers.{Ledger}
use Rattle.attr_types.specs.Table.{Table}
use Rattle.attr_types.specs.declared.field.Field.{Field}
use Rattle.compaction_steps.specs.Counts.{MakesKeys, RisesBy}
use Rattle.attribute_kinds.specs.Calls.{KeepsStoreBut}
use Rattle.attribute_kinds.specs.GivingUp.{GivesUp, KeepsPlan}
use Rattle.attribute_kinds.specs.Views.{AttributeView}
use Rattle.attribute_kinds.specs.declared.answers.AttrError.{AttrError}
use Rattle.attribute_kinds.specs.declared.answers.AttrError.TheVariants as errors
use Rattle.attr_c.specs.Compacting.{EndsStep}

-- nothing but a seal and the spare entries differs
pub record Unsealed {H : Type 0} (old new : Ledger H) : Type 0 where
  pub same : new ≡ record old { sealed = new.sealed; of_width = new.of_width }
  pub made : (width : ℕ) → (new.of_width width).made ≡ (old.of_width width).made
  pub buffers : (width : ℕ) → (new.of_width width).buffers ≡ (old.of_width width).buffers

module _ {H : Type 0} (first old new : Ledger H) (un : Unsealed old new) where
  pub keeps_over : KeepsStoreBut first old → KeepsStoreBut first new
  keeps_over keeps =
      subst (λ (l : Ledger H). KeepsStoreBut first l) (sym un.same)
      (record {
        unit = keeps.unit;
        home = keeps.home;
        shape = keeps.shape;
        sizes = keeps.sizes;
        commits = keeps.commits;
        told = keeps.told;
        readers = keeps.readers;
        stops = keeps.stops;
        alone = keeps.alone;
        sealed = refl;
        finished = refl;
        left = keeps.left;
      })

  rises_over : (most : ℕ → ℕ) → RisesBy first old most → RisesBy first new most
  rises_over most rises = record {
    made = λ width. rw (un.made width) (rises.made width);
    buffers = λ width. rw (un.buffers width) (rises.buffers width);
  }

  pub makes_over : (plain : Type 0) (fields : List Field) (table : Table) (keys : ℕ) → MakesKeys plain fields table first old keys → MakesKeys plain fields table first new keys
  makes_over plain fields table keys makes = record {
    records = makes.records;
    few = makes.few;
    narrow = makes.narrow;
    counts = rises_over _ makes.counts;
    trees = λ are. rises_over _ (makes.trees are);
    low = λ are levels low. rises_over _ (makes.low are levels low);
  }

unsealed_none : {H : Type 0} (old new : Ledger H) → new ≡ old → Unsealed old new
unsealed_none {H} old new is = subst (λ (l : Ledger H). Unsealed old l) (sym is) (record { same = refl; made = λ width. refl; buffers = λ width. refl })

module _ {S H : Type 0} (ledger : S → Ledger H) (records : S → Records) (step new : AttributeView S) where
  same_unsealed : new ≡ step → Unsealed (ledger step.store) (ledger new.store)
  same_unsealed is = unsealed_none (ledger step.store) (ledger new.store) (ap (λ (v : AttributeView S). ledger v.store) is)

  full_unsealed : GivesUp ledger step new ⊎ KeepsPlan ledger step new → Unsealed (ledger step.store) (ledger new.store)
  full_unsealed (inl gives) = record {
    same = gives.unseals.same;
    made = λ width. (gives.unseals.counts width).made;
    buffers = λ width. (gives.unseals.counts width).buffers;
  }
  full_unsealed (inr keeps) = same_unsealed keeps.same

  pub ends_unsealed : (error : AttrError) → EndsStep ledger records step new error → Unsealed (ledger step.store) (ledger new.store)
  ends_unsealed (errors.Full width active held oldest) ends = full_unsealed ends.which
  ends_unsealed (errors.CommitsSpent commit) ends = same_unsealed ends
  ends_unsealed errors.Memory ends = same_unsealed ends
