use Rattle.std.proofs.Common.{rules}
use Rattle.line_answers.proofs.Evaluations.{outcome_is}
use Rattle.line_answers.proofs.evaluation.outcome_line.Goals as goal

pub returns : goal.returns
returns c = (
  c.in_ok-outcome.outcome,
  c.in_ok-outcome.ensures,
  outcome_is c.args.model.now c.args.test.now c.args.known.now c.in_ok-outcome.outcome
      c.new-text.result.items c.put_eval_json.new.text.items _ _ _ c.new-text.ensures.items (search rules)
      (search rules) (search rules) c.in_ok-put_eval_json.ensures,
)
