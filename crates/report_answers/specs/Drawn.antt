-- The drawings of a test under models, of which only so many may be made.
use Rattle.std.specs.Prelude.{◌≡◌, ℕ, ◌+◌, ◌-◌, ◌^◌, min, List, [], ◌∷◌, ◌++◌, length, Bool, true, false, not, ◌&&◌, nat_lt, ◌==◌, if◌then◌else◌}
use Rattle.std.specs.List.{list_any}
use Rattle.std.specs.Str.{bytes_eq}
use Rattle.text_values.specs.declared.test.Test.{Test}
use Rattle.text_values.specs.declared.model.ModelText.{ModelText}
use Rattle.outcome_states.specs.declared.answer.Outcome.{Outcome}
use Rattle.outcome_states.specs.declared.answer.OutcomeResult.{OutcomeResult}
use Rattle.outcome_states.specs.declared.answer.OutcomeResult.TheVariants as results
use Rattle.draw_scene.specs.declared.drawn.Format.TheVariants as formats
use Rattle.why_forbidden.specs.declared.drawing.DrawRequest.{DrawRequest}
use Rattle.why_forbidden.specs.declared.drawing.Wanted.TheVariants as wanteds
use Rattle.why_forbidden.specs.Drawings.{IsDrawn}
use Rattle.report_answers.specs.declared.drawings.DrawingBudget.{DrawingBudget}
use Rattle.report_answers.specs.declared.models.KnownModel.{KnownModel}

-- one execution that has what the test asks for: kept, or forbidden where none is kept
abbrev pub request_of : ℕ → DrawRequest
request_of positive =
    record {
      wanted = if nat_lt 0 positive then wanteds.Shown else wanteds.Forbidden;
      skipped = 0;
      most = 1;
      format = formats.Figure;
    }

-- the drawing of a cell; nothing of a refusal
abbrev pub IsDrawingOf : Test → ModelText → OutcomeResult → List ℕ → Type 0
IsDrawingOf test model (results.Refused r) drawing = drawing ≡ []
IsDrawingOf test model (results.Evaluated e) drawing =
    IsDrawn (request_of e.positive) test model drawing

abbrev pub is_evaluated : OutcomeResult → Bool
is_evaluated (results.Refused r) = false
is_evaluated (results.Evaluated e) = true

abbrev pub is_among : List (List ℕ) → List ℕ → Bool
is_among drawings drawing = list_any (λ d. bytes_eq d drawing) drawings

-- a drawing is one more, unless it is empty or stands before
abbrev pub is_one_more : List (List ℕ) → List ℕ → Bool
is_one_more before drawing = not (length drawing == 0) && not (is_among before drawing)

abbrev pub with_drawing : List (List ℕ) → List ℕ → DrawingBudget → DrawingBudget
with_drawing before drawing b =
    if is_one_more before drawing
    then record { left = b.left - 1; left_out = b.left_out } else b

-- a cell that is evaluated has no drawing where no more may be made
abbrev pub without_drawing : OutcomeResult → DrawingBudget → DrawingBudget
without_drawing result b =
    if is_evaluated result
    then record { left = b.left; left_out = min (b.left_out + 1) (2 ^ 64 - 1) } else b

-- the drawing of the next cell, behind these, and the budget behind it
abbrev pub IsNextDrawing : Bool → Test → ModelText → OutcomeResult → List (List ℕ)
    → DrawingBudget → List ℕ → DrawingBudget → Type 0
IsNextDrawing true test model result before b drawing behind =
    IsDrawingOf test model result drawing × (behind ≡ with_drawing before drawing b)
IsNextDrawing false test model result before b drawing behind =
    (drawing ≡ []) × (behind ≡ without_drawing result b)

-- the drawing under each of these models, and the budget behind them
pub data AreTestDrawings (test : Test) (start : DrawingBudget) : List KnownModel → List Outcome
    → List (List ℕ) → DrawingBudget → Type 0 where
  NoDrawing : AreTestDrawings test start [] [] [] start
  NextDrawing : (ms : List KnownModel) (os : List Outcome) (ds : List (List ℕ)) (b : DrawingBudget)
      (m : KnownModel) (o : Outcome) (d : List ℕ) (behind : DrawingBudget)
      → AreTestDrawings test start ms os ds b
      → IsNextDrawing (nat_lt 0 b.left) test m.model o.result ds b d behind
      → AreTestDrawings test start (ms ++ m ∷ []) (os ++ o ∷ []) (ds ++ d ∷ []) behind

-- a test is drawn where all are asked for, or where its models do not agree
abbrev pub AreDrawingsIf : Bool → Test → List KnownModel → List Outcome → DrawingBudget
    → List (List ℕ) → DrawingBudget → Type 0
AreDrawingsIf true test models outcomes b drawings behind =
    AreTestDrawings test b models outcomes drawings behind
AreDrawingsIf false test models outcomes b drawings behind = (drawings ≡ []) × (behind ≡ b)
