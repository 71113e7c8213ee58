use Rattle.std.proofs.Common.{List, Vec, subst, sym}
use Rattle.std.specs.declared.alloc.Global.{Global}
use Rattle.thread_runs.specs.declared.value.Value.{Value}
use Rattle.thread_runs.specs.LocationValues.{AreLocationValues}
use Rattle.run_combinations.proofs.layout.all_runs.Goals as goal

pub served_runs-requires-clause-held : goal.served_runs-requires-clause-held
served_runs-requires-clause-held c =
    subst
    (λ (l : List (Vec Value Global)).
    AreLocationValues c.args.program.now c.args.domain.now.values.items l)
    (sym c.deref-2.ensures.value)
    (subst (λ (vs : List Value). AreLocationValues c.args.program.now vs c.in_ok-held.held.items)
    c.deref.ensures.value c.in_ok-held.ensures)
