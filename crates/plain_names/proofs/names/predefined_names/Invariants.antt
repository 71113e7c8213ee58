use Rattle.std.proofs.Common.{◌≡◌, take}
use Rattle.std.specs.List.{AllZip}
use Rattle.predefined_names.specs.declared.predefined.TheConstants.{PREDEFINED}
use Rattle.predefined_names.specs.PredefinedNames.{spelling}
use Rattle.text_values.specs.TestValue.{Content}
use Rattle.plain_executions.specs.Executions.{execution_as}
use Rattle.plain_names.specs.Seen.{seen_events, AreSeen}
use Rattle.plain_names.specs.Named.{IsBoundTo}
use Rattle.plain_names.proofs.names.predefined_names.Given as goal

abbrev pub invariant-loop-name : goal.invariant-loop-name
invariant-loop-name l =
    (t : Content) → AreSeen t (execution_as l.execution) l.shown.seen.items
    → AllZip (λ p b. (b.name ≡ spelling p) × IsBoundTo t (execution_as l.execution) (seen_events l.shown.seen.items) p b.bound)
    (take l.name-index PREDEFINED) l.names.items
