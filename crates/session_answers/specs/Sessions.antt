-- What a session says to each command of a script, and the output of the whole.
use Rattle.std.specs.Prelude.{◌≡◌, ℕ, List, [], ◌∷◌, ◌++◌, Bool, false, ◌||◌}
use Rattle.session_script.specs.declared.command.Command.{Command}
use Rattle.session_script.specs.declared.command.Command.TheVariants as commands
use Rattle.session_script.specs.Rules.{script_rule_number}
use Rattle.bench_texts.specs.BenchTexts.{BenchTexts, no_texts}
use Rattle.session_edits.specs.Answer.{SessionAnswer, refusal_answer, refusal_line}
use Rattle.session_edits.specs.Edits.{IsEditAnswer}
use Rattle.session_edits.specs.Requests.{RequestAsked, Editing, Asking, request_meaning}
use Rattle.session_answers.specs.Questions.{IsReply}

-- an edit may change the texts, a question leaves them
abbrev pub IsRequestAnswer : BenchTexts → RequestAsked → SessionAnswer → BenchTexts → Type 0
IsRequestAnswer t (Editing edit) said after = IsEditAnswer t edit said after
IsRequestAnswer t (Asking question) said after = IsReply t question said × (after ≡ t)

-- over these texts this is said to the command, and those are the texts after it: what is no
-- command is refused by `Q` and a number
abbrev pub IsCommandAnswer : BenchTexts → Command → SessionAnswer → BenchTexts → Type 0
IsCommandAnswer t (commands.Refused rule) said after =
    (said ≡ refusal_answer (refusal_line 81 (script_rule_number rule))) × (after ≡ t)
IsCommandAnswer t (commands.Asked request text) said after =
    IsRequestAnswer t (request_meaning request text) said after

-- the output of these commands, whether one of them is refused, and the texts after them
pub data IsOutput : List Command → List ℕ → Bool → BenchTexts → Type 0 where
  Nothing : IsOutput [] [] false no_texts
  OneMore : (prefix : List Command) (text : List ℕ) (refused : Bool) (before : BenchTexts)
      (command : Command) (said : SessionAnswer) (after : BenchTexts)
      → IsOutput prefix text refused before → IsCommandAnswer before command said after
      → IsOutput (prefix ++ command ∷ []) (text ++ said.text) (refused || said.refused) after
