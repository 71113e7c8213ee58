-- A refusal stands within the text.
use Rattle.std.proofs.Common.{ℕ, List, length, Result, Ok, Err, subst}
use Rattle.std.specs.Prelude.{IfErr}
use Rattle.litmus_tokens.specs.Texts.{test_lexing}
use Rattle.litmus_grammar.specs.declared.parts.TextKind.{TextKind}
use Rattle.litmus_grammar.specs.TextMachine.{run_parts, text_start, first_stage}
use Rattle.litmus_grammar.specs.Kept.{StandsUpTo}
use Rattle.litmus_grammar.proofs.Bounds.{all_kept}
use Rattle.litmus_ppc.specs.declared.fault.LitmusFault.{LitmusFault}
use Rattle.litmus_ppc.specs.declared.fault.LitmusFault.TheVariants as faults
use Rattle.litmus_ppc.specs.declared.reader.Reader.{Reader}
use Rattle.litmus_ppc.specs.TextReading.{FailsAt, Runs}
use Rattle.litmus_ppc.specs.Faults.{HasLitmusOffset}

module _ (kind : TextKind) (threads : ℕ) (bytes : List ℕ) where
  fails_within : (d : LitmusFault)
      → FailsAt d (run_parts (text_start kind threads) (test_lexing (first_stage kind) bytes))
      → HasLitmusOffset (length bytes) d
  fails_within (faults.OutOfMemory e) h = tt
  fails_within (faults.Refused rule offset) h =
      subst (StandsUpTo (length bytes)) h (all_kept kind threads bytes)

  pub fails_within_all : (r : Result Reader LitmusFault)
      → Runs r (run_parts (text_start kind threads) (test_lexing (first_stage kind) bytes))
      → IfErr r (λ e. HasLitmusOffset (length bytes) e)
  fails_within_all (Ok s) h = tt
  fails_within_all (Err d) h = fails_within d h
