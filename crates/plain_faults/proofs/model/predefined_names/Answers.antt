use Rattle.std.proofs.Common.{List, [], sym, subst}
use Rattle.meaning.specs.Faults.{Scope}
use Rattle.plain_faults.specs.declared.scope.Named.{Named}
use Rattle.plain_faults.specs.Found.{AreNames}
use Rattle.plain_faults.proofs.Applying.{outermost}
use Rattle.plain_faults.proofs.model.predefined_names.Goals as goal

pub returns : goal.returns
returns c =
    subst (λ (S : Scope). AreNames c.put_predefined.new.names.items S) outermost
    (c.in_ok-put_predefined.ensures []
    (subst (λ (l : List Named). AreNames l []) (sym c.new-names.ensures.items) tt))
