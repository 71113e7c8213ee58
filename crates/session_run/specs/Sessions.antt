-- Read this first: what a session writes of a script. The answers to its commands are in
-- session_answers, specs/Sessions.
use Rattle.std.specs.Prelude.{◌≡◌, ℕ, ◌+◌, ◌≤◌, ◌⊎◌, List, [], ◌∷◌, ◌++◌, length, take, Bool, false, Option, Result, Ok, Err, IfSome}
use Rattle.std.specs.Io.KnownBytes.{Keeps, Appends}
use Rattle.session_script.specs.declared.command.Command.{Command}
use Rattle.session_script.specs.Calls.{HasCalled}
use Rattle.session_script.specs.Commands.{commands_of}
use Rattle.session_script.specs.declared.command.Command.TheVariants as commands
use Rattle.bench_texts.specs.BenchTexts.{BenchTexts}
use Rattle.bench_texts.specs.Edits.{Applies}
use Rattle.session_edits.specs.Answer.{SessionAnswer}
use Rattle.session_edits.specs.Requests.{RequestAsked, Editing, Asking, request_meaning}
use Rattle.session_answers.specs.Sessions.{IsCommandAnswer, IsOutput}
use Rattle.command_line.specs.declared.fault.SessionFault.{SessionFault}
use Rattle.command_line.specs.declared.fault.SessionFault.TheVariants as faults
use Rattle.session_script.specs.Written.{WritesPrefix}

-- The script, of which these bytes are left, where they are known, begins with some commands of
-- this output, and goes on with the others.
pub record IsSessionStart (left : Option (List ℕ)) (others : List Command) (text : List ℕ)
    (refused : Bool)
    (texts : BenchTexts) : Type 0 where
  pub first : List Command
  pub commands : IfSome left (λ script. commands_of script ≡ first ++ others)
  pub output : IsOutput first text refused texts

-- the output of the whole script is written
pub record IsWholeSession (left old new : Option (List ℕ)) (refused : Bool) : Type 0 where
  pub text : List ℕ
  pub texts : BenchTexts
  pub begun : IsSessionStart left [] text refused texts
  pub written : Appends old new text

-- the output of its first commands is written
pub record IsSessionPrefix (left old new : Option (List ℕ)) : Type 0 where
  pub others : List Command
  pub text : List ℕ
  pub refused : Bool
  pub texts : BenchTexts
  pub begun : IsSessionStart left others text refused texts
  pub written : Appends old new text

-- the output of its first commands is written, and a front of the answer to the next
pub record IsSessionCutOff (left old new : Option (List ℕ)) : Type 0 where
  pub command : Command
  pub others : List Command
  pub text : List ℕ
  pub refused : Bool
  pub texts : BenchTexts
  pub begun : IsSessionStart left (command ∷ others) text refused texts
  pub said : SessionAnswer
  pub after : BenchTexts
  pub answer : IsCommandAnswer texts command said after
  pub count : ℕ
  pub within : count ≤ length said.text
  pub written : Appends old new (text ++ take count said.text)

-- the desk is asked: for an edit that the texts accept, or for what a question asks
abbrev pub AsksDesk : BenchTexts → RequestAsked → Type 0
AsksDesk t (Editing edit) = (after : BenchTexts) × Applies t false edit after
AsksDesk t (Asking question) = Unit {0}

abbrev pub NeedsDesk : BenchTexts → Command → Type 0
NeedsDesk t (commands.Refused rule) = ⊥
NeedsDesk t (commands.Asked request text) = AsksDesk t (request_meaning request text)

-- the output of its first commands is written, and the next needs the desk
pub record IsSessionDisturbed (left old new : Option (List ℕ)) : Type 0 where
  pub command : Command
  pub others : List Command
  pub text : List ℕ
  pub refused : Bool
  pub texts : BenchTexts
  pub begun : IsSessionStart left (command ∷ others) text refused texts
  pub needed : NeedsDesk texts command
  pub written : Appends old new text

abbrev pub IsSession : (left old new : Option (List ℕ)) → Result Bool SessionFault → Type 0
IsSession left old new (Ok refused) = IsWholeSession left old new refused
IsSession left old new (Err faults.Read) = IsSessionPrefix left old new
IsSession left old new (Err faults.Memory) = IsSessionPrefix left old new
IsSession left old new (Err faults.Shared) = IsSessionDisturbed left old new
IsSession left old new (Err faults.Write) = IsSessionCutOff left old new

-- ---- one command

-- its answer over these texts is written, and those are the texts after it
abbrev pub IsReplied : (t after : BenchTexts) → Command → (old new : Option (List ℕ))
    → SessionAnswer
    → Type 0
IsReplied t after command old new said =
    IsCommandAnswer t command said after × Appends old new said.text

-- a front of its answer is written where a write failed, and else nothing; only a command that
-- needs the desk stops because someone else uses it
abbrev pub IsReplyStopped : BenchTexts → Command → (old new : Option (List ℕ)) → SessionFault
    → Type 0
IsReplyStopped t command old new faults.Write =
    (after : BenchTexts) × (said : SessionAnswer) × IsCommandAnswer t command said after
    × WritesPrefix old new said.text
IsReplyStopped t command old new faults.Memory = Keeps old new
IsReplyStopped t command old new faults.Shared = NeedsDesk t command × Keeps old new
IsReplyStopped t command old new faults.Read = ⊥

-- A read is refused: one call failed; or, where none did, each turn that was left was a call. Where
-- the bytes of the source are known there are as many of them at least.
abbrev pub IsTurnFault : (turns old new calls calls_now : ℕ) → Option (List ℕ) → Type 0
IsTurnFault turns old new calls calls_now left =
    (new ≡ old + 1)
    ⊎ ((new ≡ old) × HasCalled turns calls calls_now × IfSome left (λ all. turns ≤ length all))
