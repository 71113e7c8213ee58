use Rattle.std.proofs.Common.{Vec, subst}
use Rattle.std.specs.Prelude.{Option, Some}
use Rattle.std.specs.declared.alloc.Global.{Global}
use Rattle.text_values.specs.TestValue.{content_of}
use Rattle.plain_machine.specs.declared.value.Value.{Value}
use Rattle.plain_runs.specs.Runs.{ValuesOf}
use Rattle.plain_domains.specs.Domains.{IsNextRound}
use Rattle.plain_domains.proofs.Rounds.{checked_many, checked_runs, checked_none}
use Rattle.plain_domains.proofs.domain.checked.Goals as goal

pub returns-then-values-gt16 : goal.returns-then-values-gt16
returns-then-values-gt16 c =
    checked_many (content_of c.args.test.now) c.args.values.now c.requires c.if-values-gt16.true

pub returns-in-Some : goal.returns-in-Some
returns-in-Some c =
    let t = content_of c.args.test.now in
    let next : IsNextRound t (ValuesOf c.args.values.now) (Some c.in-Some.next) =
    subst (λ (o : Option (Vec Value Global)). IsNextRound t (ValuesOf c.args.values.now) o) c.in-Some.is c.in_ok-next.ensures in
    (checked_none t c.args.values.now c.requires c.if-values-gt16.false next.0, next.1)

pub returns-in-None : goal.returns-in-None
returns-in-None c =
    let t = content_of c.args.test.now in
    checked_runs t c.args.values.now c.requires c.if-values-gt16.false
    (subst (λ (o : Option (Vec Value Global)). IsNextRound t (ValuesOf c.args.values.now) o) c.in-None.is c.in_ok-next.ensures)
