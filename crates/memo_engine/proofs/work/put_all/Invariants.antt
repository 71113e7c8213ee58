use Rattle.std.proofs.Common.{◌≡◌}
use Rattle.std.specs.List.{AllByRecursion as Each}
use Rattle.memo_core.specs.Graph.{named_values}
use Rattle.memo_core.specs.Views.{shown_outputs, KeepsToken}
use Rattle.memo_engine.proofs.work.put_all.Given as goal

abbrev pub invariant-loop-output : goal.invariant-loop-output
invariant-loop-output g l =
    record {
      values : named_values (shown_outputs l.all.items) ≡ named_values l.yielded;
      kept : Each (λ o. KeepsToken l.before o.name o.value) l.all.items;
    }
