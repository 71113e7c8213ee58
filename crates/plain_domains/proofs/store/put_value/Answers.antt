use Rattle.std.proofs.Common.{List, refl, subst, sym}
use Rattle.plain_machine.specs.declared.value.Value.{Value}
use Rattle.plain_machine.specs.Values.{value_as}
use Rattle.plain_runs.specs.Runs.{ValuesOf}
use Rattle.plain_domains.proofs.Storing.{adds_one}
use Rattle.plain_runs.proofs.Mapping.{not_true}
use Rattle.plain_domains.proofs.store.put_value.Goals as goal

pub returns : goal.returns
returns c =
    adds_one (value_as c.args.value.now) c.args.values.now.items c.push.new.self.items _ refl
    (λ there. not_true c.has_value.result c.if-has_value.false (c.has_value.ensures.1 (subst (λ (l : List Value). ValuesOf l (value_as c.args.value.now)) (sym c.deref.ensures.value) there)))
    c.in_ok-push.ensures.items
