use Rattle.std.proofs.Common.{◌+◌, ◌∙◌}
use Rattle.outcome_lines.proofs.Conditions.{behind_found, behind_none, rest}
use Rattle.outcome_lines.proofs.json.behind_parenthesis.Goals as goal

pub returns-in-Some : goal.returns-in-Some
returns-in-Some c =
    rest c.args.condition.now (c.in-Some.index + 1)
    ∙ behind_found c.args.condition.now c.in-Some.index c.first_parenthesis.result c.in-Some.is
    c.first_parenthesis.ensures

pub returns-in-None : goal.returns-in-None
returns-in-None c =
    behind_none c.args.condition.now c.first_parenthesis.result c.in-None.is
    c.first_parenthesis.ensures
