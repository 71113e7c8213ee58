use Rattle.std.proofs.Common.{◌≡◌, List, ℕ, IfOk, IfSome, subst}
use Rattle.watch_run.specs.Boards.{shown_line}
use Rattle.watch_run.proofs.lines.line_now.Goals as goal

pub returns-in-Some-clause-line : goal.returns-in-Some-clause-line
returns-in-Some-clause-line g c =
    rw c.in-Some.is (subst
    (λ (n : List ℕ). IfOk c.test_line.result
    (λ o. IfSome o (λ v. v.items ≡ shown_line c.args.view.now c.args.models.now n)))
    c.as_bytes.ensures c.test_line.ensures.line)
