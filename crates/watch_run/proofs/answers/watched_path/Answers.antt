use Rattle.std.proofs.Common.{List, ℕ, refl, sym, ap, ◌∙◌, arith}
use Rattle.std.specs.Prelude.{bytes_eq}
use Rattle.watch_run.proofs.Paths.{found_here, not_here, found_nowhere}
use Rattle.watch_run.proofs.answers.watched_path.Goals as goal

pub loop-index-init : goal.loop-index-init
loop-index-init c = refl

pub loop-index-preserved : goal.loop-index-preserved
loop-index-preserved c =
    not_here _ c.args.line.now c.loop-index.index _ c.file-file.ensures c.loop-index.invariant
    (ap (λ (l : List ℕ). bytes_eq l c.args.line.now) (sym c.as_bytes.ensures.value)
    ∙ sym c.eq.ensures ∙ c.if-eq.false)

pub returns-then-eq-clause-file : goal.returns-then-eq-clause-file
returns-then-eq-clause-file c =
    found_here _ c.args.line.now c.loop-index.index _ c.file-file.ensures c.loop-index.invariant
    (ap (λ (l : List ℕ). bytes_eq l c.args.line.now) (sym c.as_bytes.ensures.value)
    ∙ sym c.eq.ensures ∙ c.if-eq.true)

pub returns-clause-file : goal.returns-clause-file
returns-clause-file c =
    found_nowhere _ c.args.line.now c.loop-index.index (omega arith) c.loop-index.invariant
