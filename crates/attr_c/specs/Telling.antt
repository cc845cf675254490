-- What a call tells beside its code. All that it does not name is 0.
use Rattle.std.specs.Prelude.{◌≡◌, ◌≢◌, ℤ, Result, Ok, Err}
use Rattle.attr_c.specs.declared.codes.TheConstants.{OK, MEMORY, FULL, NO_DOCUMENT, NO_FIELD, SYNTAX}
use Rattle.attr_c.specs.declared.told.Answered.{Answered}
use Rattle.attr_c.specs.declared.told.Told.{Told}

-- nothing
abbrev pub no_told : Told
no_told = record {
  line = 0;
  place = 0;
  next = 0;
  operations = 0;
  skipped = 0;
  commit = 0;
  width = 0;
  active = 0;
  held = 0;
  oldest = 0;
  is_held = 0;
  keys = 0;
  finished = 0;
  buffer = 0;
}

-- the number of operations
abbrev pub with_count : Told → Told → Told
with_count told base = record base { operations = told.operations }

-- the operations of a feed, and those of them that changed nothing
abbrev pub with_fed : Told → Told → Told
with_fed told base = record base { operations = told.operations; skipped = told.skipped }

-- the line that was refused
abbrev pub with_line : Told → Told → Told
with_line told base = record base { line = told.line; place = told.place; next = told.next }

-- the wrong field of a save
abbrev pub with_place : Told → Told → Told
with_place told base = record base { place = told.place }

-- a commit, and what readers hold after it
abbrev pub with_committed : Told → Told → Told
with_committed told base = record base {
  operations = told.operations;
  commit = told.commit;
  oldest = told.oldest;
  is_held = told.is_held;
}

-- a step of a compaction
abbrev pub with_step : Told → Told → Told
with_step told base = record base { keys = told.keys; finished = told.finished; buffer = told.buffer }

-- a step that ended before it emptied a buffer
abbrev pub with_keys : Told → Told → Told
with_keys told base = record base { keys = told.keys; finished = 0; buffer = 0 }

-- a full store
abbrev pub with_full : Told → Told → Told
with_full told base = record base {
  width = told.width;
  active = told.active;
  held = told.held;
  oldest = told.oldest;
  is_held = told.is_held;
}

-- one thing with OK, otherwise another, with the numbers of a full store if the store was full
pub record TellsBy (whole part told : Told) (code : ℤ) : Type 0 where
  pub whole_is : code ≡ OK → told ≡ whole
  pub full_is : code ≢ OK → told ≡ with_full told part
  pub part_is : code ≢ OK → code ≢ FULL → told ≡ part

-- nothing, by a reader's call
abbrev pub no_answer : Answered
no_answer = record { commit = 0; operations = 0; count = 0; place = 0 }

-- which commit answers
abbrev pub with_commit : Answered → Answered → Answered
with_commit told base = record base { commit = told.commit; operations = told.operations }

-- which commit answers, and how much
abbrev pub with_answer : Answered → Answered → Answered
with_answer told base = record base { commit = told.commit; operations = told.operations; count = told.count }

-- where a text breaks off
abbrev pub with_gap : Answered → Answered → Answered
with_gap told base = record base { place = told.place }

-- by the code, for any but that of memory
pub record AnswersBy (base told : Answered) (code : ℤ) : Type 0 where
  pub answer : code ≡ OK → told ≡ with_answer told base
  pub absent : code ≡ NO_DOCUMENT → told ≡ with_commit told base
  pub syntax : code ≡ SYNTAX → told ≡ with_gap told base
  pub no_field : code ≡ NO_FIELD → told ≡ with_gap told base
  pub others : code ≢ OK → code ≢ NO_DOCUMENT → code ≢ SYNTAX → code ≢ NO_FIELD → code ≢ MEMORY → told ≡ base

-- the code of a result
abbrev pub code_in : {X : Type 0} → Result X ℤ → ℤ
code_in (Ok x) = OK
code_in (Err code) = code
