use Rattle.meaning_executions.proofs.Refusing.{refused_alike}
use Rattle.meaning_executions.proofs.domains_are_refused_alike.Goals as goal

pub returns : goal.returns
returns c t p of = refused_alike t p of
