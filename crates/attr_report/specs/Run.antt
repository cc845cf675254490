-- A requested run, its progress, and its tables.
use Rattle.std.specs.Prelude.{ℕ, Bool, List, map, Option}
use Rattle.attr_types.specs.Scores.{AskTree, Answer, ask_tree, answer_on}
use Rattle.attr_types.specs.declared.field.Field.{Field}
use Rattle.attr_types.specs.declared.op.Op.{Op}
use Rattle.attr_types.specs.Table.{Table, after, skipped}
use Rattle.attr_report.specs.declared.request.Make.{Make}
use Rattle.attr_report.specs.declared.request.Request.{Request}

-- a requested run; its attributes are numbered from 0
pub record Run : Type 0 where
  pub fields : List Field
  pub batch : ℕ
  pub readers : ℕ
  pub rounds : ℕ
  pub buffers : ℕ
  pub words : ℕ
  pub after : Bool
  pub make : Option Make
  pub wide : Bool
  pub dense : Bool
  pub save : Bool
  pub asks : List AskTree

-- the run of a request
abbrev pub run_in : Request → Run
run_in request = record {
  fields = request.fields;
  batch = request.batch;
  readers = request.readers;
  rounds = request.rounds;
  buffers = request.buffers;
  words = request.words;
  after = request.after;
  make = request.make;
  wide = request.wide;
  dense = request.dense;
  save = request.save;
  asks = map ask_tree request.asks.items;
}

-- the table of a run after its first n operations
abbrev pub table_after : Run → List Op → ℕ → Table
table_after run ops n = after run.fields ops n

-- the number of skipped operations among the first n
abbrev pub skipped_at : Run → List Op → ℕ → ℕ
skipped_at run ops n = skipped run.fields ops n

-- the answers of the table after the first n operations
abbrev pub answers_of : Run → List Op → ℕ → List Answer
answers_of run ops n = map (λ ask. answer_on ask (table_after run ops n)) run.asks

-- the progress of a run: the number of operations loaded, for each reader the counts of operations that its rounds
-- saw, and the number of operations at which the table was saved, if it was
pub record Progress : Type 0 where
  pub loaded : ℕ
  pub rounds : List (List ℕ)
  pub saved : Option ℕ
