use Rattle.std.proofs.Common.{sym, ap, ◌∙◌, drop, ◌+◌}
use Rattle.std.specs.List.{flat_map}
use Rattle.thread_runs.specs.AllRuns.{all_over}
use Rattle.thread_runs.proofs.RunList.{line_step, end_step}
use Rattle.thread_runs.proofs.enumerate.beginnings_of.Goals as goal

pub loop-line-preserved : goal.loop-line-preserved
loop-line-preserved c =
    ap
    (flat_map (all_over c.args.values.now c.args.held.now
    (drop (c.loop-line.line-index + 1) c.args.lines.now))) c.in_ok-beginnings.ensures
    ∙ sym (line_step c.args.values.now c.args.held.now c.args.lines.now c.loop-line.line-index
    c.loop-line.beginnings.items _ c.loop-line-test.true)
    ∙ c.loop-line.invariant

pub returns : goal.returns
returns c =
    sym (end_step c.args.values.now c.args.held.now c.args.lines.now c.loop-line.line-index _
    c.loop-line-test.false) ∙ c.loop-line.invariant
