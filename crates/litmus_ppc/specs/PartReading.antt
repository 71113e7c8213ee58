-- Where in a text the reader stands, as the machine sees it.
use Rattle.std.specs.Prelude.{◌≡◌, Option, Some, Result, Ok, Err}
use Rattle.litmus_tokens.specs.declared.step.StepError.{StepError}
use Rattle.litmus_tokens.specs.ConditionReading as condition
use Rattle.litmus_words.specs.Taking.{RefusesStep}
use Rattle.litmus_grammar.specs.TextMachine as machine
use Rattle.litmus_ppc.specs.declared.parts.Part as code_part
use Rattle.litmus_ppc.specs.declared.parts.Part.TheVariants as parts

abbrev pub part_of : code_part.Part → machine.Part
part_of parts.Magic = machine.Magic
part_of parts.Title = machine.Title
part_of parts.TitleEnd = machine.TitleEnd
part_of (parts.Head may_have_text) = machine.Head may_have_text
part_of (parts.Init expected) = machine.Init expected
part_of parts.WantsColumn = machine.WantsColumn
part_of parts.HasColumn = machine.HasColumn
part_of parts.Rows = machine.Rows
part_of parts.Cells = machine.Cells
part_of parts.WantsList = machine.WantsList
part_of (parts.Item expected) = machine.Item expected
part_of parts.WantsQuantifier = machine.WantsQuantifier
part_of parts.AfterTilde = machine.AfterTilde
part_of (parts.Proposition q frames used expected) =
    machine.Proposition q (condition.condition_stack_of frames.items) used (condition.condition_expectation_of expected)
part_of parts.ListOrEnd = machine.ListOrEnd
part_of parts.WantsEnd = machine.WantsEnd
part_of parts.Done = machine.Done

-- What a function returned is what the machine does, unless memory ran out.
abbrev pub IsNextPart : Result (Unit {0}) StepError → code_part.Part → Option machine.Part → Type 0
IsNextPart (Ok u) p made = made ≡ Some (part_of p)
IsNextPart (Err e) p made = RefusesStep e made
