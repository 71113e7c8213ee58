use Rattle.std.proofs.Common.{◌++◌, ◌∙◌, ap, arith, map, sym}
use Rattle.why_walks.specs.declared.value.FactorValues.{FactorValues}
use Rattle.why_walks.specs.Walks.{runs_of}
use Rattle.why_forbidden.specs.Steps.{starts_at, starts_through}
use Rattle.why_forbidden.specs.Views.{start_of}
use Rattle.why_forbidden.proofs.Stepping.{through_more}
use Rattle.why_forbidden.proofs.telling.starts_through.Goals as goal

pub loop-index-preserved : goal.loop-index-preserved
loop-index-preserved c =
    let factors = c.args.factors.now in
    let runs = runs_of c.args.runs.now in
    let f = c.index-factors-index.result in
    let before = map start_of c.loop-index.starts.items in
    let added = c.in_ok-add_starts.ensures ∙ ap (λ (g : FactorValues). before ++ starts_at g.code c.run_at.result.now) (sym c.index-factors-index.is) in
    through_more factors runs c.loop-index.index f before (starts_at f.code c.run_at.result.now)
    (map start_of c.add_starts.new.starts.items)
    (starts_through factors runs) (omega arith) c.index-factors-index.is
    (ap (starts_at f.code) c.run_at.ensures) added c.loop-index.invariant
