-- What the runs of the code are in the definitions, and which runs go on from a line. Read next: Frees.
use Rattle.std.specs.Prelude.{◌≡◌, List, Bool, Option, Some, map, Contains, All}
use Rattle.text_values.specs.declared.test.Step.{Step}
use Rattle.text_values.specs.declared.instruction.Instruction as text
use Rattle.meaning.specs.Sets.{Set}
use Rattle.meaning.specs.Names.{Name}
use Rattle.meaning.specs.Machine as machine
use Rattle.meaning.specs.Machine.{state_after, target}
use Rattle.meaning.specs.Runs as runs
use Rattle.meaning.specs.Runs.{run_of, with_instance}
use Rattle.plain_machine.specs.declared.value.Value.{Value}
use Rattle.plain_runs.specs.declared.run.Instance.{Instance}
use Rattle.plain_runs.specs.declared.run.Run.{Run}
use Rattle.plain_machine.specs.Values.{value_as, state_as}

abbrev pub instance_as : Instance → runs.Instance
instance_as i = record {
  instruction = i.instruction.now;
  before = state_as i.before;
  loaded = value_as i.loaded;
}

abbrev pub run_as : Run → runs.Run
run_as r = record {
  instances = map instance_as r.instances.items;
  final = state_as r.end;
  faulted = r.faulted;
}

-- the set of the values of a list
abbrev pub ValuesOf : List Value → Set machine.Value
ValuesOf vs v = Contains (map value_as vs) v

-- It is a run of these lines from a state on, where the thread looks for the label, if there is
-- one. Its loads take values of the set.
abbrev pub IsRunFrom : Set machine.Value → List Step → Option Name → machine.State
    → Set runs.Run
IsRunFrom V lines seeking s r =
    (vs : List machine.Value) × All V vs × (run_of lines seeking s vs ≡ Some r)

-- It begins with an instruction that loads this value, with its branch taken or not, and goes on
-- as a run of these lines.
abbrev pub IsRunWith : Set machine.Value → List Step → text.Instruction → Bool → machine.State
    → machine.Value → Set runs.Run
IsRunWith V lines i taken s v r =
    (rest : runs.Run) × IsRunFrom V lines (target i taken) (state_after i v s) rest
    × (with_instance (record { instruction = i; before = s; loaded = v }) rest ≡ r)

-- It begins with a load that loads a value of the first set, likewise.
abbrev pub IsRunLoading : Set machine.Value → Set machine.Value → List Step → text.Instruction
    → Bool → machine.State → Set runs.Run
IsRunLoading Taken V lines i taken s r =
    (v : machine.Value) × Taken v × IsRunWith V lines i taken s v r
