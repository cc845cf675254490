-- The values of an attribute that a text asks for, kept in the place of groups.
use Rattle.std.specs.Prelude.{◌≡◌, ◌⊎◌, ℕ, ℤ, List, length, Option, Some, None, Ok}
use Rattle.attr_types.specs.Query.{QueryTree, one, and, or}
use Rattle.attr_types.specs.Scores.{AskTree, hits_of, dot_of}
use Rattle.attr_types.specs.declared.field.Field.{Field}
use Rattle.query_text.specs.Asks.{ask_of}
use Rattle.result_model.specs.Groups as model
use Rattle.result_model.specs.declared.group.Group.{Group}
use Rattle.attr_c.specs.Kept.{KeptView, table_in}
use Rattle.attr_c.specs.Refusals.{RefusesText}
use Rattle.attr_c.specs.Seats.{TellsCommit}
use Rattle.attr_c.specs.declared.codes.TheConstants.{SYNTAX}
use Rattle.attr_c.specs.declared.terms.Comparison.{Comparison}
use Rattle.attr_c.specs.declared.told.Answered.{Answered}

-- the one comparison that a query is; another query is none
abbrev pub comparison_of : QueryTree → Option Comparison
comparison_of (one field leaf) = Some (record { field = field; leaf = leaf })
comparison_of (and queries) = None
comparison_of (or queries) = None

abbrev pub comparison_in : AskTree → Option Comparison
comparison_in (hits_of query) = comparison_of query
comparison_in (dot_of field parts) = None

-- a text asks for one comparison
pub record AsksComparison (fields : List Field) (text : List ℕ) (comparison : Comparison) : Type 0 where
  pub ask : AskTree
  pub reads : ask_of fields text ≡ Ok ask
  pub comparison_is : comparison_in ask ≡ Some comparison

-- the values that meet the comparison of a text, in the table of a guard's commit, each with how many documents have it
pub record TermsText (guard : KeptView) (text : List ℕ) (most : ℕ) (told : Answered) (terms : List Group) : Type 0 where
  pub comparison : Comparison
  pub asks : AsksComparison guard.fields text comparison
  pub terms_are : terms ≡ model.terms comparison.field comparison.leaf most (table_in guard)
  pub tells : TellsCommit guard told
  pub count : told.count ≡ length terms

-- a text asks for something else than one comparison
pub record AsksForMore (fields : List Field) (text : List ℕ) (told : Answered) (code : ℤ) : Type 0 where
  pub ask : AskTree
  pub reads : ask_of fields text ≡ Ok ask
  pub comparison_is : comparison_in ask ≡ None
  pub code_is : code ≡ SYNTAX
  pub place : told.place ≡ 0

-- why a text has no terms
abbrev pub RefusesTerms : List Field → List ℕ → Answered → ℤ → Type 0
RefusesTerms fields text told code = RefusesText fields text told code ⊎ AsksForMore fields text told code
