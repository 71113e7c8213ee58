-- What the reader holds of the init block, as the machine sees it.
use Rattle.std.specs.Prelude.{◌≡◌, ℕ, List, map, Bool, true, false, Option, Some, Result, Ok, Err}
use Rattle.std.specs.declared.vec.Vec.{Vec}
use Rattle.std.specs.declared.alloc.Global.{Global}
use Rattle.std.specs.BTreeSet.{keys}
use Rattle.litmus_tokens.specs.declared.step.StepError.{StepError}
use Rattle.litmus_words.specs.Taking.{RefusesStep}
use Rattle.litmus_ppc.specs.declared.init.InitBlock.{InitBlock}
use Rattle.litmus_grammar.specs.declared.parts.InitExpectation.{InitExpectation}
use Rattle.litmus_grammar.specs.declared.parts.InitStep.TheVariants as steps
use Rattle.litmus_grammar.specs.InitMachine as machine

abbrev pub bytes_of : Vec ℕ Global → List ℕ
bytes_of v = v.items

abbrev pub block_of : InitBlock → machine.Block
block_of b =
    record {
      entries = b.entries.items;
      starts = b.starts.items;
      named = map bytes_of (keys b.named);
    }

-- What a function returned is what the machine does, unless memory ran out: the block with a place
-- more,
abbrev pub AddsEntry : Result (Unit {0}) StepError → InitBlock → Option machine.Block → Type 0
AddsEntry (Ok u) b made = made ≡ Some (block_of b)
AddsEntry (Err e) b made = RefusesStep e made

-- and what a token did.
abbrev pub InitSteps : Result Bool StepError → InitExpectation → InitBlock → Option machine.Did → Type 0
InitSteps (Ok true) expected b made = made ≡ Some (record { step = steps.Ends; block = block_of b })
InitSteps (Ok false) expected b made =
    made ≡ Some (record { step = steps.Goes expected; block = block_of b })
InitSteps (Err e) expected b made = RefusesStep e made
