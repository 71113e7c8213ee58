-- What the reader holds of an instruction, as the machine sees it.
use Rattle.std.specs.Prelude.{◌≡◌, drop, Option, Some, None, Result, Ok, Err}
use Rattle.litmus_tokens.specs.declared.step.StepError.{StepError}
use Rattle.litmus_tokens.specs.declared.step.StepError.TheVariants as errors
use Rattle.litmus_words.specs.declared.operand.Pending as code_pending
use Rattle.litmus_words.specs.Words.{data_form}
use Rattle.litmus_words.specs.Machine as machine

abbrev pub pending_of : code_pending.Pending → machine.Pending
pending_of p =
    record {
      opcode = p.opcode;
      wants = drop p.read_count (data_form p.opcode);
      registers = p.registers.items;
      value = p.value;
    }

-- What a function returned, seen by view, is what the machine does, unless memory ran out.
abbrev pub RefusesStep : {Y : Type 0} → StepError → Option Y → Type 0
RefusesStep errors.OutOfMemory made = Unit {0}
RefusesStep errors.Refused made = made ≡ None

abbrev pub TakesCell : Result (Unit {0}) StepError → code_pending.Pending → Option machine.Pending
    → Type 0
TakesCell (Ok u) p made = made ≡ Some (pending_of p)
TakesCell (Err e) p made = RefusesStep e made
