-- Why a check refuses a candidate, as it is told. Read Steps first.
use Rattle.std.specs.Prelude.{ℕ, ◌≡◌, ◌+◌, ◌-◌, zero, suc, length, List, [], ◌∷◌, Option, Some, None, slice_get, slice_index_or}
use Rattle.std.specs.List.{filter_map}
use Rattle.std.specs.Option.{option_map}
use Rattle.text_values.specs.declared.model.Item.{Item}
use Rattle.text_values.specs.ModelValues.{clause_of}
use Rattle.cat_printing.specs.Printing.{printed_item}
use Rattle.why_witness.specs.declared.witness.Witness.{Witness}
use Rattle.why_text.specs.declared.event.ToldEvent.{ToldEvent}
use Rattle.why_text.specs.declared.reason.Reason.{Reason}
use Rattle.store_orders.specs.declared.combination.Event.{Event}
use Rattle.thread_runs.specs.declared.instruction.Instruction.{Instruction}
use Rattle.why_forbidden.specs.declared.checks.CheckValues.{CheckValues}
use Rattle.why_forbidden.specs.Labels.{Judgement}
use Rattle.why_forbidden.specs.Steps.{StepStart, AreStepStarts, AreToldSteps, ends_of, numbers_of}

-- the candidate of a number: its events, and of each the instruction that it comes from
pub record Scene : Type 0 where
  pub candidate : ℕ
  pub events : List Event
  pub instructions : List (Option Instruction)

abbrev pub told_as : Scene → ℕ → Event → ToldEvent
told_as scene number event =
    record {
      number = number;
      event = event;
      instruction = slice_index_or scene.instructions number None;
    }

abbrev pub told_at : Scene → ℕ → Option ToldEvent
told_at scene number = option_map (told_as scene number) (slice_get scene.events number)

-- the events of these numbers
abbrev pub told_events : Scene → List ℕ → List ToldEvent
told_events scene numbers = filter_map (told_at scene) numbers

-- so many numbers, from the first on
abbrev pub numbers_from : ℕ → ℕ → List ℕ
numbers_from first zero = []
numbers_from first (suc count) = first ∷ numbers_from (first + 1) count

-- the events but for the first so many
abbrev pub events_from : ℕ → Scene → List ToldEvent
events_from first scene = told_events scene (numbers_from first (length scene.events - first))

abbrev pub written : Option Item → List ℕ
written None = []
written (Some item) = printed_item (clause_of item)

-- Why the check refuses the candidate, by the witness: the check as it is printed, the events where
-- the steps begin and end, where the first begins, and the steps.
pub record IsReason (j : Judgement) (scene : Scene) (check : CheckValues) (witness : Witness)
    (r : Reason) : Type 0 where
  pub starts : List StepStart
  pub begins : AreStepStarts check scene.candidate (length scene.events) witness starts
  pub named : r.check.items ≡ written (slice_get j.text check.item)
  pub events : r.events.items ≡ told_events scene (numbers_of (ends_of witness) starts)
  pub first : r.first ≡ option_map (λ ends. ends.0) (ends_of witness)
  pub steps : AreToldSteps j check.item scene.candidate (ends_of witness) starts r.steps.items
