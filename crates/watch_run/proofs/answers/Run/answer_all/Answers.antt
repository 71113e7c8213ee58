use Rattle.std.proofs.Common.{inl, inr, refl}
use Rattle.std.proofs.lemmas.Result.{err_from_is_err_and}
use Rattle.watch_run.proofs.Gaining.{gains_over, run_of}
use Rattle.watch_run.proofs.Fronts.{on_err, front_over, cut_none, cut_first, cut_later}
use Rattle.watch_run.proofs.answers.Run.answer_all.Goals as goal

pub returns-clause-run : goal.returns-clause-run
returns-clause-run g c =
    run_of _ _ _ _ _ _ _ _ _ c.in_ok-text.text.items _ _ _ c.in_ok-text.ensures.begun
    (rw c.deref.ensures.value at c.in_ok-write_text.ensures.gains)
    (gains_over _ _ _ _ _ _ _ _ _ c.in_ok-text.ensures.paths c.in_ok-answer_lines.ensures.answers)

pub returns-in_err-text-clause-cut : goal.returns-in_err-text-clause-cut
returns-in_err-text-clause-cut g c =
    on_err _ _ (cut_none _ _ _ _ _ _ _ c.in_err-text.ensures.readings)

pub returns-in_err-write_text-clause-cut : goal.returns-in_err-write_text-clause-cut
returns-in_err-write_text-clause-cut g c =
    on_err _ _ (cut_first _ _ _ _ _ _ _ c.in_ok-text.text.items _ _ c.in_ok-text.ensures.begun
    (rw c.deref.ensures.value at c.write_text.ensures.front))

pub returns-in_err-answer_lines-clause-cut : goal.returns-in_err-answer_lines-clause-cut
returns-in_err-answer_lines-clause-cut g c =
    on_err _ _ (cut_later _ _ _ _ _ _ _ _ c.in_ok-text.text.items _ _ _ c.in_ok-text.ensures.begun
    (rw c.deref.ensures.value at c.in_ok-write_text.ensures.gains)
    (front_over _ _ _ _ _ _ _ _ c.in_ok-text.ensures.paths c.in_err-answer_lines.ensures.cut))

pub returns-in_err-text-clause-read : goal.returns-in_err-text-clause-read
returns-in_err-text-clause-read g c = λ e.
    let p = err_from_is_err_and c.from_residual.result c.from_residual.ensures.1 in
    inr (refl, c.in_err-text.ensures.read (cc (p.1, p.2)))

pub returns-in_err-answer_lines-clause-read : goal.returns-in_err-answer_lines-clause-read
returns-in_err-answer_lines-clause-read g c = λ e.
    let p = err_from_is_err_and c.from_residual-in_err-answer_lines.result c.from_residual-in_err-answer_lines.ensures.1 in
    inl (c.in_err-answer_lines.ensures.read (cc (p.1, p.2)))
