use Rattle.std.proofs.Common.{List, map, subst}
use Rattle.std.specs.Prelude.{None}
use Rattle.text_values.specs.declared.test.Step.{Step}
use Rattle.text_values.specs.TestValue.{content_of}
use Rattle.meaning.specs.Sets.{IsListOf}
use Rattle.meaning.specs.Machine.{State}
use Rattle.meaning.specs.Runs.{initial_state}
use Rattle.plain_runs.specs.Runs.{ValuesOf}
use Rattle.plain_runs.specs.Frees.{free_run_as, IsFreeRunFrom}
use Rattle.plain_runs.proofs.free.thread_free_runs.Goals as goal

pub returns : goal.returns
returns c =
    let V = ValuesOf c.args.values.now in
    let t = content_of c.args.test.now in
    let fs = map free_run_as c.in_ok-runs.runs.items in
    subst (λ (l : List Step). IsListOf (IsFreeRunFrom V l None (initial_state t c.args.thread)) fs)
    c.lines_of-lines.ensures
    (subst (λ (s : State). IsListOf (IsFreeRunFrom V c.lines_of-lines.result.now None s) fs)
    c.initial_state-state.ensures c.in_ok-runs.ensures)
