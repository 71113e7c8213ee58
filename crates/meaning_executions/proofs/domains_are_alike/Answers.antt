use Rattle.meaning_executions.proofs.Rounds.{rounds_alike}
use Rattle.meaning_executions.proofs.Domains.{same_domain}
use Rattle.meaning_executions.proofs.domains_are_alike.Goals as goal

pub returns : goal.returns
returns c = record {
  rounds = λ t p of rounds. rounds_alike t p of rounds;
  domain = λ t p of. same_domain t p of;
}
