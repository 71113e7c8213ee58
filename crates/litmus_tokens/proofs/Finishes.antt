-- Each state of the machine can be finished.
use Rattle.std.proofs.Common.{◌≡◌, ℕ, Bool, true, List, [], ◌∷◌, Some, refl, ap, ◌∙◌, arith}
use Rattle.std.specs.Prelude.{nat_le, codes, if◌then◌else◌}
use Rattle.std.proofs.lemmas.Bool.Decides.{nat_tests}
use Rattle.text_values.specs.declared.test.Place.{Place}
use Rattle.text_values.specs.declared.test.Place.TheVariants as places
use Rattle.text_values.specs.declared.test.Value.TheVariants as values
use Rattle.text_values.specs.TestValue.{Formula, Holds, Not, Join, level}
use Rattle.litmus_tokens.specs.declared.token.Token.{Token}
use Rattle.litmus_tokens.specs.declared.token.Token.TheVariants as tokens
use Rattle.litmus_tokens.specs.declared.token.Mark.TheVariants as marks
use Rattle.litmus_tokens.specs.declared.place.PlaceExpectation.{PlaceExpectation}
use Rattle.litmus_tokens.specs.declared.place.PlaceExpectation.TheVariants.{Begins, WantsName, WantsBracket, WantsColon, WantsRegister}
use Rattle.litmus_tokens.specs.declared.place.WrittenPlace.TheVariants as written
use Rattle.litmus_tokens.specs.Conditions.{constant_word, Limits}
use Rattle.litmus_tokens.specs.PlaceMachine.{place_of}
use Rattle.litmus_tokens.specs.ConditionMachine.{ConditionFrame, InGroup, InPrefix, LeftOf, ConditionExpectation, Wants, HasConstant, HasNot, InPlace, WantsEquals, WantsValue, Has, fold_to, condition_closed, condition_ended}
use Rattle.litmus_tokens.specs.ConditionLaws.{FinishesFormula}
use Rattle.litmus_tokens.proofs.Complete.{run, from}

le_zero : (n : ℕ) → nat_le 0 n ≡ true
le_zero n = grind (arith, nat_tests)

-- the parentheses that are open are closed, and the text ends
abbrev closers : List ConditionFrame → List Token
closers [] = tokens.End ∷ []
closers (InGroup ∷ fs) = tokens.Mark marks.Close ∷ closers fs
closers (InPrefix ∷ fs) = closers fs
closers (LeftOf op a ∷ fs) = closers fs

abbrev Closes : List Token → Type 0
Closes (tokens.End ∷ ts) = Unit {0}
Closes (tokens.Mark marks.Close ∷ ts) = Unit {0}
Closes _ = ⊥

closers_close : (fs : List ConditionFrame) → Closes (closers fs)
closers_close [] = tt
closers_close (InGroup ∷ fs) = tt
closers_close (InPrefix ∷ fs) = closers_close fs
closers_close (LeftOf op a ∷ fs) = closers_close fs

module _ (most : Limits) (threads : ℕ) where
  same_end : (fs gs : List ConditionFrame) (used : ℕ) (v w : Formula) (ts : List Token) → Closes ts
      → fold_to 0 gs v ≡ fold_to 0 fs w
      → run most threads gs used (Has v) ts ≡ run most threads fs used (Has w) ts
  same_end fs gs used v w (tokens.End ∷ ts) c e =
      ap (λ (p : List ConditionFrame × Formula). from most threads (condition_ended p) ts) e
  same_end fs gs used v w (tokens.Mark marks.Close ∷ ts) c e =
      ap (λ (p : List ConditionFrame × Formula). from most threads (condition_closed used p) ts) e
  same_end fs gs used v w [] c e = absurd c
  same_end fs gs used v w (_ ∷ ts) c e = absurd c

  has_finishes : (fs : List ConditionFrame) (used : ℕ) (v : Formula)
      → (w : Formula) × (run most threads fs used (Has v) (closers fs) ≡ Some w)
  has_finishes [] used v = (v, refl)
  has_finishes (InGroup ∷ fs) used v = has_finishes fs used v
  has_finishes (InPrefix ∷ fs) used v =
      let r = has_finishes fs used (Not v) in (r.0, same_end fs (InPrefix ∷ fs) used v (Not v) (closers fs) (closers_close fs) refl ∙ r.1)
  has_finishes (LeftOf op a ∷ fs) used v =
      let r = has_finishes fs used (Join op a v) in (
        r.0,
        same_end fs (LeftOf op a ∷ fs) used v (Join op a v) (closers fs) (closers_close fs)
            (ap
            (λ (x : Bool).
            if x then fold_to 0 fs (Join op a v) else (LeftOf op a ∷ fs, v))
            (le_zero (level op))) ∙ r.1,
      )

  abbrev letter : List ℕ
  letter = 120 ∷ []

  abbrev atom : Place → Formula
  atom p = Holds p (values.Address letter)

  -- an atom's value, and what is open closed
  abbrev last : List ConditionFrame → List Token
  last fs = tokens.Word letter ∷ closers fs

  abbrev equals : List ConditionFrame → List Token
  equals fs = tokens.Mark marks.Equals ∷ last fs

  -- these tokens lead to an atom
  by_atom : (fs : List ConditionFrame) (used : ℕ) (expected : ConditionExpectation) (p : Place) (ts : List Token)
      → run most threads fs used expected ts ≡ run most threads fs used (Has (atom p)) (closers fs)
      → FinishesFormula most threads fs used expected
  by_atom fs used expected p ts e =
      let r = has_finishes fs used (atom p) in record { rest = ts; value = r.0; by = e ∙ r.1 }

  place_finishes : (fs : List ConditionFrame) (used : ℕ) (expected : PlaceExpectation)
      → FinishesFormula most threads fs used (InPlace expected)
  place_finishes fs used Begins =
      by_atom fs used (InPlace Begins) (places.Location letter) (tokens.Word letter ∷ equals fs)
      refl
  place_finishes fs used WantsName =
      by_atom fs used (InPlace WantsName) (places.Location letter)
      (tokens.Word letter ∷ tokens.Mark marks.CloseBracket ∷ equals fs) refl
  place_finishes fs used (WantsBracket n) =
      by_atom fs used (InPlace (WantsBracket n)) (places.Location n)
      (tokens.Mark marks.CloseBracket ∷ equals fs) refl
  place_finishes fs used (WantsColon t) =
      by_atom fs used (InPlace (WantsColon t)) (place_of (written.Register t 0))
      (tokens.Mark marks.Colon ∷ tokens.Word (codes "r0") ∷ equals fs) refl
  place_finishes fs used (WantsRegister t) =
      by_atom fs used (InPlace (WantsRegister t)) (place_of (written.Register t 0))
      (tokens.Word (codes "r0") ∷ equals fs) refl

  pub finishes : (fs : List ConditionFrame) (used : ℕ) (expected : ConditionExpectation)
      → FinishesFormula most threads fs used expected
  finishes fs used Wants =
      by_atom fs used Wants (places.Location letter) (tokens.Word letter ∷ equals fs) refl
  finishes fs used (HasConstant b) =
      by_atom fs used (HasConstant b) (places.Location (constant_word b)) (equals fs) refl
  finishes fs used HasNot = by_atom fs used HasNot (places.Location (codes "not")) (equals fs) refl
  finishes fs used (InPlace expected) = place_finishes fs used expected
  finishes fs used (WantsEquals p) = by_atom fs used (WantsEquals p) p (equals fs) refl
  finishes fs used (WantsValue p) = by_atom fs used (WantsValue p) p (last fs) refl
  finishes fs used (Has v) =
      let r = has_finishes fs used v in record { rest = closers fs; value = r.0; by = r.1 }
