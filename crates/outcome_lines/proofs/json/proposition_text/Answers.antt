use Rattle.std.proofs.Common.{rules}
use Rattle.outcome_lines.proofs.Conditions.{but_last}
use Rattle.outcome_lines.proofs.json.proposition_text.Goals as goal

pub returns : goal.returns
returns c =
    rw (← c.behind_parenthesis-behind.ensures)
    (but_last c.behind_parenthesis-behind.result.now c.saturating_sub.result (search rules))
