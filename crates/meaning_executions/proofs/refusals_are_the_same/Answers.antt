use Rattle.meaning_executions.proofs.Finishing.{is_refused, is_accepted}
use Rattle.meaning_executions.proofs.refusals_are_the_same.Goals as goal

pub returns : goal.returns
returns c = record {
  refused = λ t r h. is_refused t r h;
  accepted = λ t s h. is_accepted t s h;
}
