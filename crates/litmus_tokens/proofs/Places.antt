-- Tokens that are taken within a place are spelled by the tree of a place.
use Rattle.std.proofs.Common.{◌≡◌, ℕ, ◌<◌, ◌≤◌, Bool, true, false, List, ◌∷◌, Option, Some, None, refl, ap, arith}
use Rattle.std.specs.Prelude.{if◌then◌else◌}
use Rattle.std.proofs.Math.Nat.{min-eq_left}
use Rattle.text_values.specs.declared.test.Place.TheVariants as places
use Rattle.text_values.specs.declared.test.Value as declared_value
use Rattle.litmus_tokens.specs.declared.token.Token.{Token}
use Rattle.litmus_tokens.specs.declared.token.Token.TheVariants as tokens
use Rattle.litmus_tokens.specs.declared.token.Mark.TheVariants.{OpenBracket, CloseBracket, Colon}
use Rattle.litmus_tokens.specs.Words.{decimal, signed, is_int, register_of, is_known, or_zero}
use Rattle.litmus_tokens.specs.declared.place.PlaceExpectation.{PlaceExpectation}
use Rattle.litmus_tokens.specs.declared.place.PlaceExpectation.TheVariants.{Begins, WantsName, WantsBracket, WantsColon, WantsRegister}
use Rattle.litmus_tokens.specs.declared.place.WrittenPlace.{WrittenPlace}
use Rattle.litmus_tokens.specs.declared.place.WrittenPlace.TheVariants as written
use Rattle.litmus_tokens.specs.declared.place.PlaceStep.{PlaceStep}
use Rattle.litmus_tokens.specs.declared.place.PlaceStep.TheVariants as steps
use Rattle.litmus_tokens.specs.Conditions.{PlaceTree, Location, Register, ValueTree, Number, Address, spelled_place, spelled_value, place_meaning, value_meaning, IsPlaceTree, HasThread, IsValueTree, written_place}
use Rattle.litmus_tokens.specs.PlaceMachine.{place_start, register_ends, place_step, place_of, number_read, value_read}

-- the tokens that were read within a place, and then rest
abbrev pub within : PlaceExpectation → List Token → List Token
within Begins rest = rest
within WantsName rest = tokens.Mark OpenBracket ∷ rest
within (WantsBracket n) rest = tokens.Mark OpenBracket ∷ tokens.Word n ∷ rest
within (WantsColon t) rest = tokens.Number false t ∷ rest
within (WantsRegister t) rest = tokens.Number false t ∷ tokens.Mark Colon ∷ rest

-- a place was read
pub record PlaceRead (whole rest : List Token) (w : WrittenPlace) : Type 0 where
  pub tree : PlaceTree
  pub fine : IsPlaceTree tree
  pub means : written_place tree ≡ w
  pub whole_is : whole ≡ spelled_place tree rest

abbrev pub StepStands : List Token → List Token → Option PlaceStep → Type 0
StepStands whole rest (Some (steps.Goes expected)) = whole ≡ within expected rest
StepStands whole rest (Some (steps.Ends w)) = PlaceRead whole rest w
StepStands whole rest None = Unit {0}

register_read : (t w : List ℕ) (rest : List Token) (r : Option ℕ) → register_of w ≡ r
    → StepStands (tokens.Number false t ∷ tokens.Mark Colon ∷ tokens.Word w ∷ rest) rest
    (register_ends t r)
register_read t w rest (Some r) e =
    record { tree = Register t w; fine = ap is_known e; means = ap (λ (o : Option ℕ). written.Register t (or_zero o)) e; whole_is = refl }
register_read t w rest None e = tt

start_step : (t : Token) (rest : List Token) → StepStands (t ∷ rest) rest (place_start t)
start_step (tokens.Word n) rest =
    record { tree = Location false n; fine = tt; means = refl; whole_is = refl }
start_step (tokens.Mark OpenBracket) rest = refl
start_step (tokens.Number false t) rest = refl
start_step _ rest = tt

pub place_stands : (expected : PlaceExpectation) (t : Token) (rest : List Token)
    → StepStands (within expected (t ∷ rest)) rest (place_step expected t)
place_stands Begins t rest = start_step t rest
place_stands WantsName (tokens.Word n) rest = refl
place_stands WantsName _ rest = tt
place_stands (WantsBracket n) (tokens.Mark CloseBracket) rest =
    record { tree = Location true n; fine = tt; means = refl; whole_is = refl }
place_stands (WantsBracket n) _ rest = tt
place_stands (WantsColon n) (tokens.Mark Colon) rest = refl
place_stands (WantsColon n) _ rest = tt
place_stands (WantsRegister n) (tokens.Word w) rest = register_read n w rest (register_of w) refl
place_stands (WantsRegister n) _ rest = tt

-- ---- threads

-- more of the place was read than nothing, and its thread, if one was read, is one of so many
abbrev pub ExpectationThread : ℕ → PlaceExpectation → Type 0
ExpectationThread threads Begins = ⊥
ExpectationThread threads WantsName = Unit {0}
ExpectationThread threads (WantsBracket n) = Unit {0}
ExpectationThread threads (WantsColon t) = decimal t < threads
ExpectationThread threads (WantsRegister t) = decimal t < threads

abbrev pub WrittenThread : ℕ → WrittenPlace → Type 0
WrittenThread threads (written.Location n) = Unit {0}
WrittenThread threads (written.Register t r) = decimal t < threads

abbrev pub StepThread : ℕ → Option PlaceStep → Type 0
StepThread threads (Some (steps.Goes expected)) = ExpectationThread threads expected
StepThread threads (Some (steps.Ends w)) = WrittenThread threads w
StepThread threads None = Unit {0}

register_thread : (threads : ℕ) (t : List ℕ) (r : Option ℕ) → decimal t < threads
    → StepThread threads (register_ends t r)
register_thread threads t (Some r) h = h
register_thread threads t None h = tt

pub place_thread : (threads : ℕ) (expected : PlaceExpectation) (t : Token)
    → ExpectationThread threads expected → StepThread threads (place_step expected t)
place_thread threads Begins t h = absurd h
place_thread threads WantsName (tokens.Word n) h = tt
place_thread threads WantsName _ h = tt
place_thread threads (WantsBracket n) (tokens.Mark CloseBracket) h = tt
place_thread threads (WantsBracket n) _ h = tt
place_thread threads (WantsColon n) (tokens.Mark Colon) h = h
place_thread threads (WantsColon n) _ h = tt
place_thread threads (WantsRegister n) (tokens.Word w) h =
    register_thread threads n (register_of w) h
place_thread threads (WantsRegister n) _ h = tt

pub has_thread : (threads : ℕ) (p : PlaceTree) → WrittenThread threads (written_place p)
    → HasThread threads p
has_thread threads (Location b n) h = tt
has_thread threads (Register t r) h = h

-- a thread's number that is there is no greater than what fits
pub place_of_written : (threads : ℕ) (p : PlaceTree) → threads < 18446744073709551616
    → HasThread threads p → place_of (written_place p) ≡ place_meaning p
place_of_written threads (Location b n) few h = refl
place_of_written threads (Register t r) few h =
    let le : decimal t ≤ 18446744073709551615 = omega arith in
    ap (λ (k : ℕ). places.Register k (or_zero (register_of r))) (min-eq_left le)

-- ---- values

-- a value was read
pub record ValueRead (whole rest : List Token) (v : declared_value.Value) : Type 0 where
  pub tree : ValueTree
  pub fine : IsValueTree tree
  pub means : value_meaning tree ≡ v
  pub whole_is : whole ≡ spelled_value tree rest

abbrev pub ValueStands : List Token → List Token → Option declared_value.Value → Type 0
ValueStands whole rest (Some v) = ValueRead whole rest v
ValueStands whole rest None = Unit {0}

pub value_stands : (t : Token) (rest : List Token) → ValueStands (t ∷ rest) rest (value_read t)
value_stands (tokens.Word n) rest =
    record { tree = Address n; fine = tt; means = refl; whole_is = refl }
value_stands (tokens.Number negative ds) rest = choose (is_int negative ds) refl
  where
    choose : (b : Bool) → is_int negative ds ≡ b
        → ValueStands (tokens.Number negative ds ∷ rest) rest (number_read
        (if b then Some (signed negative (decimal ds)) else None))
    choose true e = record { tree = Number negative ds; fine = e; means = refl; whole_is = refl }
    choose false e = tt
value_stands _ rest = tt

-- the token of a value
abbrev pub value_token : ValueTree → Token
value_token (Number negative ds) = tokens.Number negative ds
value_token (Address n) = tokens.Word n

pub value_taken : (v : ValueTree) → IsValueTree v → value_read (value_token v) ≡ Some (value_meaning v)
value_taken (Number negative ds) h =
    ap (λ (b : Bool). number_read (if b then Some (signed negative (decimal ds)) else None)) h
value_taken (Address n) h = refl
