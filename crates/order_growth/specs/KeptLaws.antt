-- Laws of columns and answers, each the contract of a call of `kept`. Read `Columns` and `Values`
-- of cat_machine first.
use Rattle.std.specs.Prelude.{◌≡◌, Bool, List, map}
use denote.Ref.{Bor}
use Rattle.binding_graph.specs.declared.resolved.Role.{Role}
use Rattle.candidate_spaces.specs.declared.candidate.Space.{Space}
use Rattle.candidate_spaces.specs.Space.{shown_in}
use Rattle.cat_machine.specs.declared.column.Column.{Column}
use Rattle.cat_machine.specs.Columns.{ColumnsOf}
use Rattle.cat_machine.specs.Values.{AnswersOf}
use Rattle.order_growth.specs.Items.{role_content}

-- two items say the same, over spaces whose candidates show the same, with inputs that have the
-- same values
pub record AreSameItems (role other : Role) (space another : Space) (inputs others : List (Bor Column))
    : Type 0 where
  pub roles : role_content role ≡ role_content other
  pub candidates : shown_in space ≡ shown_in another
  pub values : map (λ c. c.now) inputs ≡ map (λ c. c.now) others

-- columns of the one are columns of the other
abbrev pub KeepsColumns : Role → Role → Space → Space → Type 0
KeepsColumns role other space another =
    (inputs others : List (Bor Column)) (cs : List Column)
    → AreSameItems role other space another inputs others → ColumnsOf role inputs space cs
    → ColumnsOf other others another cs

-- answers of the one are answers of the other
abbrev pub KeepsAnswers : Role → Role → Space → Space → Type 0
KeepsAnswers role other space another =
    (inputs others : List (Bor Column)) (answers : List Bool)
    → AreSameItems role other space another inputs others → AnswersOf role inputs space answers
    → AnswersOf other others another answers
