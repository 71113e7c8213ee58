-- Which executions of a test are drawn under a model, by the definitions of `meaning`. Read Graphs
-- first. Read next: DrawingAnswers.
use Rattle.std.specs.Prelude.{ℕ, ◌≡◌, ◌<◌, ◌≤◌, List, [], length, drop, codes, All, Contains}
use Rattle.std.specs.List.{AllZip}
use Rattle.text_values.specs.TestValue.{Content}
use Rattle.text_values.specs.ModelValue.{Clause}
use Rattle.binding_kinds.specs.declared.fault.ModelFault as program_fault
use Rattle.binding_kinds.specs.Numbers as fault_numbers
use Rattle.ppc_lowering.specs.declared.fault.EvalRefusal.{EvalRefusal}
use Rattle.ppc_lowering.specs.Numbers as refusal_numbers
use Rattle.draw_graph.specs.declared.drawing.Drawing.{Drawing}
use Rattle.draw_scene.specs.Drawn.{AreTexts}
use Rattle.why_forbidden.specs.declared.drawing.DrawRequest.{DrawRequest}
use Rattle.why_forbidden.specs.declared.drawing.Wanted.{Wanted}
use Rattle.why_forbidden.specs.declared.drawing.Wanted.TheVariants as wanteds
use Rattle.why_forbidden.specs.Drawings.{refused_comment}
use Rattle.meaning.specs.Sets.{IsOnce}
use Rattle.meaning.specs.Names.{locations}
use Rattle.meaning.specs.Executions.{Execution, IsExecution}
use Rattle.meaning.specs.Faults.{faults}
use Rattle.meaning.specs.Refusals.{IsAccepted}
use Rattle.meaning.specs.Evaluates.{Evaluates, Faulty, Refused}
use Rattle.meaning_executions.specs.Refusals.{refusal_by_name}
use Rattle.meaning_outcomes.specs.Outcomes.{fault_by_name}
use Rattle.meaning_answers.specs.Findings.{IsPositive, IsForbidden}
use Rattle.meaning_answers.specs.Graphs.{IsGraphSaid}

-- The execution is asked for: the condition holds in it, and the model keeps it or does not; or any.
abbrev pub IsWanted : Wanted → Content → List Clause → Execution → Type 0
IsWanted wanteds.Shown t items x = IsPositive t items x
IsWanted wanteds.Forbidden t items x = IsForbidden t items x
IsWanted wanteds.All t items x = IsExecution t x

-- It is the graph of the execution, under some number.
abbrev pub IsGraphOf : Content → List Clause → Execution → Drawing → Type 0
IsGraphOf t items x d = (k : ℕ) × IsGraphSaid t items x k d

-- The drawings are those of executions that are asked for, each once, and at most so many; where
-- there are fewer, of all.
pub record AreDrawingsSaid (wanted : Wanted) (most : ℕ) (t : Content) (items : List Clause)
    (ds : List Drawing) : Type 0 where
  pub executions : List Execution
  pub once : IsOnce executions
  pub asked : All (IsWanted wanted t items) executions
  pub drawn : AllZip (IsGraphOf t items) executions ds
  pub few : length ds ≤ most
  pub whole : length ds < most → (x : Execution) → IsWanted wanted t items x
      → Contains executions x

-- What `draw` writes: a comment with the first fault of the model or the refusal of the test, or the
-- texts of the drawings but for the first of them that are passed over.
pub data IsPictureSaid (request : DrawRequest) (t : Content) (items : List Clause) (text : List ℕ)
    : Type 0 where
  DrawsFault : (k : program_fault.ModelFault) → Evaluates t items (Faulty (fault_by_name k))
      → text ≡ refused_comment request.format (codes "M") (fault_numbers.number k)
      → IsPictureSaid request t items text
  DrawsRefusal : (r : EvalRefusal) → Evaluates t items (Refused (refusal_by_name r))
      → text ≡ refused_comment request.format (codes "E") (refusal_numbers.number r)
      → IsPictureSaid request t items text
  DrawsGraphs : faults items ≡ [] → IsAccepted t → (ds : List Drawing)
      → AreDrawingsSaid request.wanted request.most t items ds
      → AreTexts request.format (locations t) (length (locations t)) (drop request.skipped ds) text
      → IsPictureSaid request t items text
