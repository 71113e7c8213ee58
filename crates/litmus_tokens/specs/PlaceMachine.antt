-- How the reader goes from token to token through a place.
use Rattle.std.specs.Prelude.{ℕ, List, Bool, true, false, Option, Some, None, Result, Ok, Err, nat_lt, min, ℤ}
use Rattle.text_values.specs.declared.test.Place.{Place}
use Rattle.text_values.specs.declared.test.Place.TheVariants as places
use Rattle.text_values.specs.declared.test.Value as declared_value
use Rattle.text_values.specs.declared.test.Value.TheVariants as values
use Rattle.litmus_tokens.specs.declared.token.Token.{Token}
use Rattle.litmus_tokens.specs.declared.token.Token.TheVariants as tokens
use Rattle.litmus_tokens.specs.declared.token.Mark.TheVariants.{OpenBracket, CloseBracket, Colon}
use Rattle.litmus_tokens.specs.Words.{decimal, int_of, register_of}
use Rattle.litmus_tokens.specs.declared.place.PlaceExpectation.{PlaceExpectation}
use Rattle.litmus_tokens.specs.declared.place.PlaceExpectation.TheVariants.{Begins, WantsName, WantsBracket, WantsColon, WantsRegister}
use Rattle.litmus_tokens.specs.declared.place.WrittenPlace.{WrittenPlace}
use Rattle.litmus_tokens.specs.declared.place.WrittenPlace.TheVariants as written
use Rattle.litmus_tokens.specs.declared.place.PlaceStep.{PlaceStep}
use Rattle.litmus_tokens.specs.declared.place.PlaceStep.TheVariants as steps
use Rattle.litmus_tokens.specs.declared.step.StepError.{StepError}
use Rattle.litmus_tokens.specs.declared.step.StepError.TheVariants.{Refused}

abbrev pub place_start : Token → Option PlaceStep
place_start (tokens.Word n) = Some (steps.Ends (written.Location n))
place_start (tokens.Mark OpenBracket) = Some (steps.Goes WantsName)
place_start (tokens.Number false t) = Some (steps.Goes (WantsColon t))
place_start t = None

abbrev pub register_ends : List ℕ → Option ℕ → Option PlaceStep
register_ends t (Some r) = Some (steps.Ends (written.Register t r))
register_ends t None = None

abbrev pub place_step : PlaceExpectation → Token → Option PlaceStep
place_step Begins t = place_start t
place_step WantsName (tokens.Word n) = Some (steps.Goes (WantsBracket n))
place_step WantsName t = None
place_step (WantsBracket n) (tokens.Mark CloseBracket) = Some (steps.Ends (written.Location n))
place_step (WantsBracket n) t = None
place_step (WantsColon n) (tokens.Mark Colon) = Some (steps.Goes (WantsRegister n))
place_step (WantsColon n) t = None
place_step (WantsRegister n) (tokens.Word w) = register_ends n (register_of w)
place_step (WantsRegister n) t = None

-- a thread's number that is too great is the greatest that fits
abbrev pub place_of : WrittenPlace → Place
place_of (written.Location n) = places.Location n
place_of (written.Register t r) = places.Register (min (decimal t) 18446744073709551615) r

abbrev pub number_read : Option ℤ → Option declared_value.Value
number_read (Some n) = Some (values.Number n)
number_read None = None

abbrev pub value_read : Token → Option declared_value.Value
value_read (tokens.Word n) = Some (values.Address n)
value_read (tokens.Number negative ds) = number_read (int_of negative ds)
value_read t = None

-- whether the token, if it is the number of a thread, is that of one of so many
abbrev pub has_thread : ℕ → Token → Bool
has_thread threads (tokens.Number negative ds) = nat_lt (decimal ds) threads
has_thread threads t = true

-- what a function answers that takes a token or refuses it
abbrev pub or_refused : {A : Type 0} → Option A → Result A StepError
or_refused (Some x) = Ok x
or_refused None = Err Refused
