-- What is written of an answer. Read before Answer.
use Rattle.std.specs.Prelude.{◌≡◌, List, ℕ, Bool, Option, Result, Ok, Err}
use Rattle.std.specs.Io.KnownBytes.{Keeps, Appends}
use Rattle.std.specs.declared.alloc.AllocError.{AllocError}
use Rattle.command_line.specs.declared.fault.SessionFault.{SessionFault}
use Rattle.command_line.specs.declared.fault.SessionFault.TheVariants as session_faults
use Rattle.command_answers.specs.declared.stream.Answer.{Answer}
use Rattle.session_script.specs.Written.{WritesPrefix}

-- the answer was made, and has this text
abbrev pub IsAnswerMade : Result Answer AllocError → List ℕ → Bool → Type 0
IsAnswerMade made text refused =
    (a : Answer) × (made ≡ Ok a) × (text ≡ a.text.items) × (refused ≡ a.is_refused)

-- the bytes of a sink, before and after a text that is said was written: all of it, or a prefix of
-- it where a write failed, and else nothing
abbrev pub IsAnswerWritten : (List ℕ → Bool → Type 0) → Option (List ℕ) → Option (List ℕ)
    → Result Bool SessionFault → Type 0
IsAnswerWritten is_said old new (Ok refused) =
    (text : List ℕ) × is_said text refused × Appends old new text
IsAnswerWritten is_said old new (Err session_faults.Write) =
    (text : List ℕ) × (refused : Bool) × is_said text refused × WritesPrefix old new text
IsAnswerWritten is_said old new (Err session_faults.Read) = Keeps old new
IsAnswerWritten is_said old new (Err session_faults.Memory) = Keeps old new
IsAnswerWritten is_said old new (Err session_faults.Shared) = ⊥
