use Rattle.std.proofs.Common.{◌≡◌, List, take, sym, subst, arith}
use Rattle.std.specs.List.{AllZip}
use Rattle.predefined_names.specs.declared.predefined.Predefined.{Predefined}
use Rattle.predefined_names.specs.declared.predefined.TheConstants.{PREDEFINED}
use Rattle.predefined_names.specs.PredefinedNames.{spelling}
use Rattle.plain_models.specs.declared.scope.Named.{Named}
use Rattle.plain_executions.specs.Executions.{execution_as}
use Rattle.plain_names.specs.Seen.{seen_events}
use Rattle.plain_names.specs.Named.{IsBoundTo}
use Rattle.plain_names.proofs.Naming.{named_more, named_whole}
use Rattle.plain_names.proofs.names.predefined_names.Goals as goal

pub loop-name-init : goal.loop-name-init
loop-name-init c t are =
    subst (λ (l : List Named). AllZip (λ (p : Predefined) (b : Named). (b.name ≡ spelling p) × IsBoundTo t (execution_as c.args.execution.now) (seen_events c.args.shown.now.seen.items) p b.bound) (take 0 PREDEFINED) l)
    (sym c.new-names.ensures.items) tt

pub loop-name-preserved : goal.loop-name-preserved
loop-name-preserved c t are =
    named_more (λ (p : Predefined) (b : Named). (b.name ≡ spelling p) × IsBoundTo t (execution_as c.args.execution.now) (seen_events c.args.shown.now.seen.items) p b.bound)
    c.loop-name.name-index _ c.loop-name.names.items c.push.new.self.items c.in_ok-one.one (omega arith)
    (c.loop-name.invariant t are) (c.in_ok-one.ensures t are) c.in_ok-push.ensures.items

pub returns : goal.returns
returns c t are =
    named_whole (λ (p : Predefined) (b : Named). (b.name ≡ spelling p) × IsBoundTo t (execution_as c.args.execution.now) (seen_events c.args.shown.now.seen.items) p b.bound)
    c.loop-name.name-index c.loop-name.names.items (omega arith) (c.loop-name.invariant t are)
