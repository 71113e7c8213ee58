use Rattle.std.proofs.Common.{List, map, subst}
use Rattle.std.specs.Prelude.{None}
use Rattle.text_values.specs.declared.test.Step.{Step}
use Rattle.text_values.specs.TestValue.{content_of}
use Rattle.meaning.specs.Sets.{IsListOf}
use Rattle.meaning.specs.Machine.{State}
use Rattle.meaning.specs.Runs.{initial_state}
use Rattle.plain_runs.specs.Runs.{run_as, ValuesOf, IsRunFrom}
use Rattle.plain_runs.proofs.thread.thread_runs.Goals as goal

pub returns : goal.returns
returns c =
    let V = ValuesOf c.args.values.now in
    let t = content_of c.args.test.now in
    let rs = map run_as c.in_ok-runs.runs.items in
    subst (λ (l : List Step). IsListOf (IsRunFrom V l None (initial_state t c.args.thread)) rs)
    c.lines_of-lines.ensures
    (subst (λ (s : State). IsListOf (IsRunFrom V c.lines_of-lines.result.now None s) rs)
    c.initial_state-state.ensures c.in_ok-runs.ensures)
