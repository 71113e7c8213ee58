-- What a step notes stands at the byte of its token.
use Rattle.std.proofs.Common.{◌≡◌, ℕ, zero, suc, ◌+◌, ◌<◌, ◌≤◌, Bool, true, false, List, [], ◌∷◌, ◌++◌, length, get_or, Option, Some, None, subst, arith}
use Rattle.std.specs.Prelude.{if◌then◌else◌}
use Rattle.litmus_tokens.specs.declared.token.Token.{Token}
use Rattle.litmus_tokens.specs.declared.token.Token.TheVariants as tokens
use Rattle.litmus_tokens.specs.declared.token.Mark.TheVariants as marks
use Rattle.text_values.specs.declared.instruction.BranchCondition.{BranchCondition}
use Rattle.text_values.specs.declared.instruction.Instruction.{Instruction}
use Rattle.text_values.specs.declared.instruction.Instruction.TheVariants as instructions
use Rattle.text_values.specs.declared.test.Step.{Step}
use Rattle.text_values.specs.declared.test.Step.TheVariants as steps
use Rattle.litmus_words.specs.declared.opcode.Opcode.{Opcode}
use Rattle.litmus_words.specs.declared.opcode.Opcode.TheVariants as opcodes
use Rattle.litmus_words.specs.declared.opcode.Want.{Want}
use Rattle.litmus_table.specs.declared.late.PlacedThread.{PlacedThread}
use Rattle.litmus_words.specs.Words.{opcode_of, branch_meaning}
use Rattle.litmus_words.specs.Machine.{ThreadSteps, fresh, Pending, CellExpectation, Begins, Labelled, InInstruction, WantsLabel, Whole, TableState, put_at, at, finished, is_last, table_ended, operation, begin_instruction, cell, first_of, goes_on, operand, pending_after, target_read, expected_step, instruction_of}
use Rattle.litmus_table.specs.Reading.{thread_of, threads_of}
use Rattle.litmus_table.specs.Bounds.{AllAtMost, AreThreadsUpTo}

pushed : (n p : ℕ) (ps : List ℕ) → p ≤ n → AllAtMost n ps → AllAtMost n (ps ++ p ∷ [])
pushed n p [] le all zero lt = le
pushed n p [] le all (suc k) lt = absurd (omega arith)
pushed n p (q ∷ ps) le all zero lt = let h : 0 < length (q ∷ ps) = omega arith in all 0 h
pushed n p (q ∷ ps) le all (suc k) lt =
    let fewer : k < length (ps ++ p ∷ []) = omega arith in
    pushed n p ps le
    (λ i less. let more : suc i < length (q ∷ ps) = omega arith in all (suc i) more) k fewer

put_within : (n k : ℕ) (s : Step) (p : ℕ) (ts : List ThreadSteps) → p ≤ n → AreThreadsUpTo n ts
    → AreThreadsUpTo n (put_at k s p ts)
put_within n k s p [] le h = tt
put_within n zero s p (t ∷ ts) le h = (pushed n p t.offsets le h.0, h.1)
put_within n (suc k) s p (t ∷ ts) le h = (h.0, put_within n k s p ts le h.1)

abbrev WithinSome : ℕ → Option TableState → Type 0
WithinSome n None = Unit {0}
WithinSome n (Some s) = AreThreadsUpTo n s.threads

module _ (n p : ℕ) (le : p ≤ n) (ts : List ThreadSteps) (c : ℕ) (h : AreThreadsUpTo n ts) where
  done : (i : Instruction) → WithinSome n (finished ts c i p)
  done i = put_within n c (steps.Instruction i) p ts le h

  either_way : (b : Bool) (a z : Option TableState) → WithinSome n a → WithinSome n z
      → WithinSome n (if b then a else z)
  either_way true a z x y = x
  either_way false a z x y = y

  after_end : (t : Token) → WithinSome n (table_ended ts c t)
  after_end (tokens.Mark marks.Semicolon) = either_way (is_last ts c) (at ts 0 Begins) None h tt
  after_end (tokens.Mark marks.Bar) = either_way (is_last ts c) None (at ts (c + 1) Begins) tt h
  after_end t = tt

  after_word : (o : Option Opcode) → WithinSome n (operation ts c p o)
  after_word (Some (opcodes.Data op)) = h
  after_word (Some (opcodes.Branch condition)) = h
  after_word (Some (opcodes.Fence f)) = done (instructions.Fence f)
  after_word None = tt

  after_begin : (t : Token) → WithinSome n (begin_instruction ts c t p)
  after_begin (tokens.Word w) = after_word (opcode_of w)
  after_begin t = after_end t

  after_cell : (t : Token) → WithinSome n (cell ts c t p)
  after_cell (tokens.Label w) = put_within n c (steps.Label w) p ts le h
  after_cell t = after_begin t

  after_going : (q : Pending) (o : Option Want) → WithinSome n (goes_on ts c q o p)
  after_going q None = done (instruction_of q)
  after_going q (Some w) = h

  after_operand : (o : Option Pending) → WithinSome n (operand ts c o p)
  after_operand (Some q) = after_going q (first_of q.wants)
  after_operand None = tt

  after_target : (condition : Option BranchCondition) (t : Token)
      → WithinSome n (target_read ts c condition t p)
  after_target condition (tokens.Word w) = done (branch_meaning condition w)
  after_target condition t = tt

  after_expectation : (o : CellExpectation) (t : Token) → WithinSome n (expected_step ts c o t p)
  after_expectation Begins t = after_cell t
  after_expectation Labelled t = after_begin t
  after_expectation (InInstruction q) t = after_operand (pending_after q t)
  after_expectation (WantsLabel condition) t = after_target condition t
  after_expectation Whole t = after_end t

pub expectation_within : (n p : ℕ) → p ≤ n → (ts : List ThreadSteps) (c : ℕ) → AreThreadsUpTo n ts
    → (o : CellExpectation) (t : Token) (x : TableState) → expected_step ts c o t p ≡ Some x
    → AreThreadsUpTo n x.threads
expectation_within n p le ts c h o t x e =
    subst (WithinSome n) e (after_expectation n p le ts c h o t)

-- a thread of the table
pub thread_within : (n : ℕ) (ts : List PlacedThread) (k : ℕ) (d : PlacedThread)
    → AreThreadsUpTo n (threads_of ts) → k < length ts → AllAtMost n (thread_of (get_or ts k d)).offsets
thread_within n [] k d h lt = absurd (omega arith)
thread_within n (t ∷ ts) zero d h lt = h.0
thread_within n (t ∷ ts) (suc k) d h lt =
    let less : k < length ts = omega arith in thread_within n ts k d h.1 less

pub widened_within : (n : ℕ) (ts : List ThreadSteps) → AreThreadsUpTo n ts
    → AreThreadsUpTo n (ts ++ fresh ∷ [])
widened_within n [] h = (λ k lt. absurd (omega (arith, lt)), tt)
widened_within n (t ∷ ts) h = (h.0, widened_within n ts h.1)
