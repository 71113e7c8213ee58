-- What the reader holds of a proposition, as the machine sees it.
use Rattle.std.specs.Prelude.{◌≡◌, List, [], ◌∷◌, Bool, true, false, Option, Some, None, Result, Ok, Err}
use Rattle.text_values.specs.TestValue.{formula_of}
use Rattle.litmus_tokens.specs.declared.step.StepError.{StepError}
use Rattle.litmus_tokens.specs.declared.step.StepError.TheVariants as errors
use Rattle.litmus_tokens.specs.declared.condition.Frame as code_frame
use Rattle.litmus_tokens.specs.declared.condition.Frame.TheVariants as frames
use Rattle.litmus_tokens.specs.declared.condition.Expectation as code_expectation
use Rattle.litmus_tokens.specs.declared.condition.Expectation.TheVariants as expectations
use Rattle.litmus_tokens.specs.declared.condition.PropositionStep as code_step
use Rattle.litmus_tokens.specs.declared.condition.PropositionStep.TheVariants as code_steps
use Rattle.litmus_tokens.specs.ConditionMachine as machine

abbrev pub frame_of : code_frame.Frame → machine.ConditionFrame
frame_of frames.Group = machine.InGroup
frame_of frames.Prefix = machine.InPrefix
frame_of (frames.Left op a) = machine.LeftOf op (formula_of a)

-- the frames, the innermost first
abbrev pub stacked : List code_frame.Frame → List machine.ConditionFrame → List machine.ConditionFrame
stacked [] below = below
stacked (f ∷ fs) below = stacked fs (frame_of f ∷ below)

abbrev pub condition_stack_of : List code_frame.Frame → List machine.ConditionFrame
condition_stack_of fs = stacked fs []

abbrev pub condition_expectation_of : code_expectation.Expectation → machine.ConditionExpectation
condition_expectation_of expectations.Wants = machine.Wants
condition_expectation_of (expectations.HasConstant b) = machine.HasConstant b
condition_expectation_of expectations.HasNot = machine.HasNot
condition_expectation_of (expectations.InPlace within) = machine.InPlace within
condition_expectation_of (expectations.WantsEquals p) = machine.WantsEquals p
condition_expectation_of (expectations.WantsValue p) = machine.WantsValue p
condition_expectation_of (expectations.Has a) = machine.Has (formula_of a)

-- what a token did is what the machine does, unless memory ran out
abbrev pub StepsCondition : Result code_step.PropositionStep StepError → machine.ConditionStepResult → Type 0
StepsCondition (Ok (code_steps.Goes fs used expected)) made =
    made ≡ machine.Goes (condition_stack_of fs.items) used (condition_expectation_of expected)
StepsCondition (Ok (code_steps.Ends v)) made = made ≡ machine.Ends (formula_of v)
StepsCondition (Err errors.OutOfMemory) made = Unit {0}
StepsCondition (Err errors.Refused) made = made ≡ machine.Refuses

-- a part of a place was read, or the token refused
abbrev pub ReadsPlace : Result code_expectation.Expectation StepError → Option machine.ConditionExpectation
    → Type 0
ReadsPlace (Ok expected) made = made ≡ Some (condition_expectation_of expected)
ReadsPlace (Err errors.OutOfMemory) made = ⊥
ReadsPlace (Err errors.Refused) made = made ≡ None

abbrev pub is_open : code_frame.Frame → Bool
is_open frames.Group = true
is_open frames.Prefix = true
is_open (frames.Left op a) = false
