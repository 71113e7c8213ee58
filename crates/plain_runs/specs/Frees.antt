-- What the free runs of the code are in the definitions, and which free runs go on from a line.

use Rattle.std.specs.Prelude.{◌≡◌, List, [], ◌∷◌, ◌++◌, Bool, false, Option, Some, map, All, if◌then◌else◌}
use Rattle.text_values.specs.declared.test.Step.{Step}
use Rattle.text_values.specs.declared.instruction.Instruction as text
use Rattle.meaning.specs.Sets.{Set}
use Rattle.meaning.specs.Names.{Name}
use Rattle.meaning.specs.Machine as machine
use Rattle.meaning.specs.Machine.{is_load, is_branch, state_after, target}
use Rattle.meaning.specs.Runs.{Instance, with_instance}
use Rattle.meaning.specs.Domain as domain
use Rattle.meaning.specs.Domain.{free_run_of}
use Rattle.plain_machine.specs.Values.{value_as}
use Rattle.plain_runs.specs.Runs.{run_as}
use Rattle.plain_runs.specs.declared.free.FreeRun.{FreeRun}

abbrev pub free_run_as : FreeRun → domain.FreeRun
free_run_as f = record {
  choices = f.choices.items;
  values = map value_as f.values.items;
  run = run_as f.run;
}

-- the free run with an instance before it, whose branch is taken or not
abbrev pub with_first : Bool → Instance → domain.FreeRun → domain.FreeRun
with_first taken i f = record {
  choices = (if is_branch i.instruction then taken ∷ [] else []) ++ f.choices;
  values = (if is_load i.instruction then i.loaded ∷ [] else []) ++ f.values;
  run = with_instance i f.run;
}

-- It is a free run of these lines from a state on, where the thread looks for the label, if there
-- is one. Its loads take values of the set.
abbrev pub IsFreeRunFrom : Set machine.Value → List Step → Option Name → machine.State
    → Set domain.FreeRun
IsFreeRunFrom V lines seeking s f =
    All V f.values × (free_run_of lines seeking s f.choices f.values ≡ Some f.run)

-- It begins with an instruction that loads this value, with its branch taken or not, and goes on as
-- a free run of these lines.
abbrev pub IsFreeRunWith : Set machine.Value → List Step → text.Instruction → machine.State → Bool
    → machine.Value → Set domain.FreeRun
IsFreeRunWith V lines i s taken v f =
    (rest : domain.FreeRun) × IsFreeRunFrom V lines (target i taken) (state_after i v s) rest
    × (with_first taken (record { instruction = i; before = s; loaded = v }) rest ≡ f)

-- It begins with a load that loads a value of the first set, likewise.
abbrev pub IsFreeRunLoading : Set machine.Value → Set machine.Value → List Step → text.Instruction
    → machine.State → Set domain.FreeRun
IsFreeRunLoading Taken V lines i s f =
    (v : machine.Value) × Taken v × IsFreeRunWith V lines i s false v f
