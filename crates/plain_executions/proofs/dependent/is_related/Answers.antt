use Rattle.std.proofs.Common.{◌↔◌, sym, subst}
use Rattle.std.specs.Prelude.{IfOk, IsTrue}
use Rattle.plain_events.specs.Slots.{instructions_as}
use Rattle.plain_executions.specs.declared.dependent.Kind.{Kind}
use Rattle.plain_executions.specs.Kinds.{dependency_of}
use Rattle.plain_executions.proofs.dependent.is_related.Goals as goal

pub returns-in-Address : goal.returns-in-Address
returns-in-Address c =
    subst
    (λ (k : Kind). IfOk c.is_addr.result (λ b. IsTrue b ↔ dependency_of k (instructions_as c.args.instances.now) c.args.from c.args.to))
    (sym c.in-Address.is) c.is_addr.ensures

pub returns-in-Data : goal.returns-in-Data
returns-in-Data c =
    subst
    (λ (k : Kind). IfOk c.is_data.result (λ b. IsTrue b ↔ dependency_of k (instructions_as c.args.instances.now) c.args.from c.args.to))
    (sym c.in-Data.is) c.is_data.ensures

pub returns-in-Need : goal.returns-in-Need
returns-in-Need c =
    subst
    (λ (k : Kind). IfOk c.is_need.result (λ b. IsTrue b ↔ dependency_of k (instructions_as c.args.instances.now) c.args.from c.args.to))
    (sym c.in-Need.is) c.is_need.ensures

pub returns-in-Control : goal.returns-in-Control
returns-in-Control c =
    subst
    (λ (k : Kind). IfOk c.is_ctrl.result (λ b. IsTrue b ↔ dependency_of k (instructions_as c.args.instances.now) c.args.from c.args.to))
    (sym c.in-Control.is) c.is_ctrl.ensures

pub returns-in-ControlIsync : goal.returns-in-ControlIsync
returns-in-ControlIsync c =
    subst
    (λ (k : Kind). IfOk c.is_ctrlisync.result (λ b. IsTrue b ↔ dependency_of k (instructions_as c.args.instances.now) c.args.from c.args.to))
    (sym c.in-ControlIsync.is) c.is_ctrlisync.ensures
