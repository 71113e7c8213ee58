use Rattle.std.proofs.lemmas.Result.{err_from_is_err_and}
use Rattle.watch_run.proofs.Gaining.{begun_few}
use Rattle.watch_run.proofs.Fronts.{on_err}
use Rattle.watch_run.proofs.answers.Run.begin.Goals as goal

pub returns-in_err-put_settled-clause-readings : goal.returns-in_err-put_settled-clause-readings
returns-in_err-put_settled-clause-readings g c =
    on_err _ _ (begun_few _ _ _ _ _ _ c.in_ok-text.ensures.begun)

pub returns-in_err-text-clause-read : goal.returns-in_err-text-clause-read
returns-in_err-text-clause-read g c = λ e.
    let p = err_from_is_err_and c.from_residual.result c.from_residual.ensures.1 in
    c.in_err-text.ensures.read (cc (p.1, p.2))
