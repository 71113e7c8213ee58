-- Laws of what a session says, each the contract of a call of this crate. Read `Cells` and
-- `Questions` of session_answers first.
use Rattle.std.specs.Prelude.{◌≡◌, ℕ, ◌<◌, List, ◌++◌, length, Bool, false}
use Rattle.std.specs.List.{AllByRecursion}
use Rattle.text_values.specs.TestValue.{Content}
use Rattle.outcome_states.specs.declared.answer.Outcome.{Outcome}
use Rattle.bench_texts.specs.BenchTexts.{BenchTexts, PlainModel}
use Rattle.bench_texts.specs.declared.fault.EditFault.{EditFault}
use Rattle.bench_texts.specs.Edits.{Edit, Applies, RefusesEdit}
use Rattle.session_edits.specs.Answer.{SessionAnswer}
use Rattle.session_edits.specs.Faults.{HasFaultLine}
use Rattle.session_edits.specs.declared.request.Question.{Question}
use Rattle.session_answers.specs.Cells.{IsPlainOutcome}
use Rattle.session_answers.specs.Questions.{IsReply}
use Rattle.session_answers.specs.Sessions.{IsOutput}
use Rattle.session_script.specs.declared.command.Command.{Command}

-- a test has one outcome under a model
abbrev pub HasOnePlainOutcome : Content → PlainModel → Type 0
HasOnePlainOutcome test model =
    (o p : Outcome) → IsPlainOutcome test model o → IsPlainOutcome test model p → o ≡ p

-- each has fewer than 2 ^ 64 threads, as each test that is read has
abbrev pub AreFew : List Content → Type 0
AreFew cs = AllByRecursion (λ (c : Content). length c.threads < 18446744073709551616) cs

-- an edit of these texts is accepted, and makes one thing of them, or is refused, for one reason:
-- never both. Want of memory is no reason
pub record HasOneVerdict (t : BenchTexts) (e : Edit) : Type 0 where
  pub one_result : (new other : BenchTexts) → Applies t false e new → Applies t false e other
      → new ≡ other
  pub one_refusal : (f g : EditFault) → HasFaultLine f → HasFaultLine g → RefusesEdit t false e f
      → RefusesEdit t false e g → f ≡ g
  pub not_both : (new : BenchTexts) (f : EditFault) → HasFaultLine f → Applies t false e new
      → RefusesEdit t false e f → ⊥

-- over these texts the question has one answer
abbrev pub HasOneReply : BenchTexts → Question → Type 0
HasOneReply texts question =
    (said other : SessionAnswer) → IsReply texts question said → IsReply texts question other
    → said ≡ other

-- two outputs of these commands are one, and so are whether a command is refused and the texts
-- after them
abbrev pub HasOneOutput : List Command → Type 0
HasOneOutput commands =
    (text other : List ℕ) (refused also : Bool) (t u : BenchTexts)
    → IsOutput commands text refused t → IsOutput commands other also u
    → (text ≡ other) × (refused ≡ also) × (t ≡ u)

-- each output of all of them begins with each of the first
abbrev pub BeginsAlike : (first others : List Command) → Type 0
BeginsAlike first others =
    (text whole : List ℕ) (refused also : Bool) (t u : BenchTexts) → IsOutput first text refused t
    → IsOutput (first ++ others) whole also u
    → (rest : List ℕ) × (whole ≡ text ++ rest)
