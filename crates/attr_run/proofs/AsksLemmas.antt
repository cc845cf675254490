-- What is asked, read text after text.
use Rattle.std.proofs.Common.{◌≡◌, ◌∙◌, sym, ap, refl, ℕ, ◌+◌, List, [], ◌∷◌, ◌++◌, Result, Ok, Err}
use Rattle.std.proofs.Common.{append_assoc, append-nil}
use Rattle.clap.specs.Walk.{Text}
use Rattle.attr_types.specs.declared.field.Field.{Field}
use Rattle.attr_types.specs.Scores.{AskTree}
use Rattle.query_text.specs.Asks.{ask_of}
use Rattle.attr_run.specs.Run.{◌>>=◌, ask_or_refused, asks_from}
use Rattle.attr_run.specs.Steps.{Says}
use Rattle.attr_run.specs.declared.outcome.Status.{Status}
use Rattle.attr_run.specs.declared.stop.Stop.{Stop}
use Rattle.attr_run.specs.declared.stop.Stop.TheVariants as stops

-- what is read already, before what is said of the rest
abbrev pub after_front : List AskTree → Result (List AskTree) Status → Result (List AskTree) Status
after_front front (Ok asks) = Ok (front ++ asks)
after_front front (Err status) = Err status

-- no text is left
pub after_front-end : (front : List AskTree) (fields : List Field) (number : ℕ)
    → after_front front (asks_from fields number []) ≡ Ok front
unfolding asks_from
after_front-end front fields number = ap Ok (append-nil front)

-- a bad text is the answer, whatever was read before
pub after_front-refused : (front : List AskTree) (fields : List Field) (number : ℕ) (text : Text)
    (texts : List Text) (status : Status)
    → ask_or_refused number (ask_of fields text) ≡ Err status
    → after_front front (asks_from fields number (text ∷ texts)) ≡ Err status
unfolding asks_from
after_front-refused front fields number text texts status refused = rw refused refl

-- a good one goes to the others
pub after_front-next : (front : List AskTree) (fields : List Field) (number : ℕ) (text : Text) (texts : List Text)
    (ask : AskTree)
    → ask_or_refused number (ask_of fields text) ≡ Ok ask
    → after_front front (asks_from fields number (text ∷ texts)) ≡ after_front (front
    ++ ask ∷ []) (asks_from fields (number + 1) texts)
unfolding asks_from
after_front-next front fields number text texts ask read =
    rw read (elim (asks_from fields (number + 1) texts) as (λ r. after_front front (r >>= (λ asks. Ok
    (ask ∷ asks))) ≡ after_front (front ++ ask ∷ []) r) [
      | Ok asks ↦ ap Ok (sym (append_assoc front (ask ∷ []) asks))
      | Err status ↦ refl
    ])

-- where a text stops, all do
pub says-stopped : {A B : Type 0} (shown : A → List AskTree) (one : B → AskTree) (stop : Stop)
    (front : List AskTree) (fields : List Field) (number : ℕ)
    (text : Text) (texts : List Text) (whole : Result (List AskTree) Status)
    → after_front front (asks_from fields number (text ∷ texts)) ≡ whole
    → Says one (Err stop) (ask_or_refused number (ask_of fields text)) → Says shown (Err stop) whole
says-stopped shown one (stops.Answer status) front fields number text texts whole is said =
    sym is ∙ after_front-refused front fields number text texts status said
says-stopped shown one stops.Memory front fields number text texts whole is said = tt
