use Rattle.meaning_executions.proofs.Knowing.{correspond, number_at}
use Rattle.meaning_executions.proofs.events_are_the_same.Goals as goal

pub returns : goal.returns
returns c = record {
  events = λ t p of rs x are runs. correspond t p of rs x are runs;
  numbers = λ t p of rs x are runs. number_at t p of rs x are runs;
}
