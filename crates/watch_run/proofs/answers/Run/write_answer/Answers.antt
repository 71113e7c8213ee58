use Rattle.std.proofs.Common.{[], ◌∷◌}
use Rattle.watch_run.proofs.Gaining.{gains_none, gains_one, empty_line, full_line}
use Rattle.watch_run.proofs.Fronts.{on_err, front_none, front_one, none_of_line, whole_line}
use Rattle.watch_run.proofs.answers.Run.write_answer.Goals as goal

pub returns-then-is_empty-clause-answers : goal.returns-then-is_empty-clause-answers
returns-then-is_empty-clause-answers g c =
    gains_none _ _ _ _ _ _ (empty_line c.args.line.now c.is_empty.result c.is_empty.ensures
    c.if-is_empty.true)

pub returns-clause-answers : goal.returns-clause-answers
returns-clause-answers g c =
    gains_one _ _ _ c.args.line.now _ _ _ _ c.in_ok-text.text.items _ _
    (full_line c.args.line.now c.is_empty.result c.is_empty.ensures c.if-is_empty.false)
    c.in_ok-text.ensures.answer (rw c.deref.ensures.value at c.in_ok-write_text.ensures.gains)

pub returns-in_err-text-clause-cut : goal.returns-in_err-text-clause-cut
returns-in_err-text-clause-cut g c =
    on_err _ _ (front_none _ _ _ _ _ _ _ (none_of_line c.args.line.now)
    c.in_err-text.ensures.readings)

pub returns-in_err-write_text-clause-cut : goal.returns-in_err-write_text-clause-cut
returns-in_err-write_text-clause-cut g c =
    let one = whole_line c.args.line.now (c.args.line.now ∷ []) (full_line c.args.line.now c.is_empty.result c.is_empty.ensures c.if-is_empty.false) in
    on_err _ _ (front_one _ _ _ c.args.line.now _ _ _ _ c.in_ok-text.text.items _ _ one
    c.in_ok-text.ensures.answer (rw c.deref.ensures.value at c.write_text.ensures.front))
