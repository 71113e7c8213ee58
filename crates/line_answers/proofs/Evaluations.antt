-- The line of one evaluation.
use Rattle.std.proofs.Common.{◌≡◌, ℕ, List, [], ◌++◌, ap, ◌∙◌}
use Rattle.text_values.specs.declared.test.Test.{Test}
use Rattle.outcome_states.specs.declared.answer.Outcome.{Outcome}
use Rattle.outcome_lines.specs.Records.{TextRefusal}
use Rattle.outcome_lines.specs.Json.{eval_lines, refused_line}
use Rattle.command_answers.specs.declared.file.TextFile.{TextFile}
use Rattle.command_answers.specs.Files.{model_stem}
use Rattle.line_answers.specs.Results.{rule_text, refused_file}
use Rattle.line_answers.specs.Evaluations.{evaluated_subject}

-- of a refused file
pub refused_is : (start text : List ℕ) (file : TextFile) (letter number offset : ℕ)
    (word : List ℕ) (given : TextRefusal) → start ≡ [] → given ≡ refused_file file word offset
    → word ≡ rule_text letter number → text ≡ start ++ refused_line given
    → text ≡ refused_line (refused_file file (rule_text letter number) offset)
refused_is start text file letter number offset word given s g w e =
    e ∙ ap (λ (l : List ℕ). l ++ refused_line given) s
    ∙ ap refused_line (g ∙ ap (λ (l : List ℕ). refused_file file l offset) w)

-- the number is that of the rule
pub by_rule : (text : List ℕ) (file : TextFile) (letter number rule offset : ℕ) → number ≡ rule
    → text ≡ refused_line (refused_file file (rule_text letter number) offset)
    → text ≡ refused_line (refused_file file (rule_text letter rule) offset)
by_rule text file letter number rule offset same e =
    e ∙ ap (λ (n : ℕ). refused_line (refused_file file (rule_text letter n) offset)) same

-- of an outcome
pub outcome_is : (model test : TextFile) (t : Test) (o : Outcome) (start text p n m : List ℕ)
    → start ≡ [] → p ≡ test.path.now → n ≡ t.name → m ≡ model_stem model.path.now
    → text ≡ start ++ eval_lines (record { path = p; test = n; model = m }) o
    → text ≡ eval_lines (evaluated_subject model test t) o
outcome_is model test t o start text p n m s a b d e =
    e
    ∙ ap (λ (l : List ℕ). l ++ eval_lines (record { path = p; test = n; model = m }) o) s
    ∙ ap (λ (x : List ℕ). eval_lines (record { path = x; test = n; model = m }) o) a
    ∙ ap (λ (x : List ℕ). eval_lines (record { path = test.path.now; test = x; model = m }) o) b
    ∙ ap (λ (x : List ℕ). eval_lines (record { path = test.path.now; test = t.name; model = x }) o)
    d
