use Rattle.std.proofs.Common.{◌≡◌, ◌-◌, ◌≤◌, length, drop}
use Rattle.litmus_tokens.specs.Texts.{test_lexing, tokens_from}
use Rattle.litmus_grammar.specs.TextMachine.{run_parts}
use Rattle.litmus_ppc.specs.TextReading.{state_of}
use Rattle.litmus_ppc.proofs.read.read_tokens.Given as goal

abbrev pub invariant-loop-offset : goal.invariant-loop-offset
invariant-loop-offset l =
    record { within : l.offset ≤ length l.bytes; ran : run_parts (state_of l.initial.reader) (test_lexing (state_of l.initial.reader).stage l.bytes) ≡ run_parts (state_of l.reader) (tokens_from (state_of l.reader).stage l.is_fresh 0 l.offset (drop l.offset l.bytes)) }

abbrev pub decreases-loop-offset : goal.decreases-loop-offset
decreases-loop-offset l = length l.bytes - l.offset
