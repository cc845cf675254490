-- Calls by one guard.
use Rattle.std.proofs.Common.{◌≡◌, ◌≢◌, ℕ, ℤ, List, Option, Some, None, Result, Ok, Err, ◌∙◌, ap, subst}
use Rattle.std.specs.Prelude.{IfOk, IfSome}
use Rattle.attr_types.specs.Scores.{AskTree, answer_on, documents_in}
use Rattle.query_text.specs.Asks.{ask_of}
use Rattle.attr_c.specs.Kept.{KeptView, table_in}
use Rattle.attr_c.specs.Said.{said}
use Rattle.attr_c.specs.Seats.{place_bits, AnswersText, CountsText, ByGuardOf, IsForeign, IsOwn, IsReaderOf, TellsCommit}
use Rattle.attr_c.specs.Stores.{open_bits}
use Rattle.attr_c.specs.declared.answer.Answer.{Answer}
use Rattle.attr_c.specs.declared.seat.SeatState.{SeatState}
use Rattle.attr_c.specs.declared.seat.SeatState.TheVariants.{Free, Kept}
use Rattle.attr_c.specs.declared.state.AnyOpen.{AnyOpen}
use Rattle.attr_c.specs.declared.state.AnyReader.{AnyReader}
use Rattle.attr_c.specs.declared.told.Answered.{Answered}

pub by_guard_weaker : (before after : Option SeatState) (P Q : KeptView → Type 0) → ((guard : KeptView) → P guard → Q guard) → ByGuardOf before after P → ByGuardOf before after Q
by_guard_weaker (Some before) (Some after) P Q weaker by = record { guard = by.guard; takes = by.takes; leaves = by.leaves; is = weaker by.guard by.is }
by_guard_weaker (Some before) None P Q weaker by = absurd by
by_guard_weaker None after P Q weaker by = absurd by

pub counts_text : (guard : KeptView) (text : List ℕ) (told : Answered) (answer : Answer) → AnswersText guard text told answer → CountsText guard text told
counts_text guard text told answer is = record { ask = is.ask; reads = is.reads; count = is.count ∙ ap documents_in is.answer_is; tells = is.tells }

-- an answer to what a text asks for is one to the text
pub answers_text : (guard : KeptView) (text : List ℕ) (told : Answered) (ask : AskTree) (result : Result Answer ℤ) → ask_of guard.fields text ≡ Ok ask
    → IfOk result (λ answer. said answer ≡ answer_on ask (table_in guard)) → IfOk result (λ answer. told.count ≡ documents_in (said answer)) → TellsCommit guard told
    → IfOk result (AnswersText guard text told)
answers_text guard text told ask (Ok answer) reads is count tells = record { ask = ask; reads = reads; answer_is = is; tells = tells; count = count }
answers_text guard text told ask (Err code) reads is count tells = tt

-- without its guard the reader of a seat has references of the same width
pub foreign_seat : (o : AnyOpen) (seat : Option SeatState) (reader : AnyReader) → IsReaderOf seat reader → IsForeign o (Free reader) → IfSome seat (IsForeign o)
foreign_seat o (Some (Free r)) reader is other = subst (λ (x : AnyReader). IsForeign o (Free x)) is other
foreign_seat o (Some (Kept k)) reader is other = subst (λ (n : ℕ). n ≢ open_bits o) (ap (λ (v : KeptView). v.reader.sizes.offset_bits) is) other
foreign_seat o None reader is other = absurd is

pub own_seat : (o : AnyOpen) (seat : Option SeatState) (reader : AnyReader) → IsReaderOf seat reader → place_bits (Free reader) ≡ open_bits o → IsOwn o seat
own_seat o (Some (Free r)) reader is same = subst (λ (x : AnyReader). place_bits (Free x) ≡ open_bits o) is same
own_seat o (Some (Kept k)) reader is same = subst (λ (n : ℕ). n ≡ open_bits o) (ap (λ (v : KeptView). v.reader.sizes.offset_bits) is) same
own_seat o None reader is same = absurd is
