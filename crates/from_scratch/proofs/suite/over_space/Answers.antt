use Rattle.std.proofs.Common.{◌≡◌, subst}
use Rattle.std.proofs.lemmas.Result.{IfOk-weaker}
use Rattle.candidate_spaces.specs.declared.candidate.Space.{Space}
use Rattle.cat_eval.specs.Tables.{IsOver}
use Rattle.outcome_states.specs.declared.answer.Refusal.TheVariants as refusals
use Rattle.from_scratch.specs.Cell.{IsSaidFromSome, IsCell}
use Rattle.from_scratch.proofs.Cells.{cell_said, cell_refused, model_over}
use Rattle.from_scratch.proofs.suite.over_space.Goals as goal

pub returns-in-Ok-clause-cell : goal.returns-in-Ok-clause-cell
returns-in-Ok-clause-cell c =
    IfOk-weaker c.evaluated.result (IsSaidFromSome c.in-Ok.space c.args.test.now) (IsCell c.args.test.now)
    (λ o h. cell_said c.args.test.now c.in-Ok.space o (rw c.in-Ok.is at c.requires.space) h)
    c.evaluated.ensures.said

pub returns-in-Ok-clause-model : goal.returns-in-Ok-clause-model
returns-in-Ok-clause-model c =
    model_over c.args.resolved.now.items.items c.args.test.now c.in-Ok.space c.evaluated.result
    (rw c.in-Ok.is at c.requires.space) c.evaluated.ensures.said c.evaluated.ensures.answers

pub returns-in-Err-clause-cell : goal.returns-in-Err-clause-cell
returns-in-Err-clause-cell c =
    cell_refused c.args.test.now (refusals.Space c.in-Err.refusal) c.refused.result
    (rw c.in-Err.is at c.requires.space) c.refused.ensures.kind c.refused.ensures.text
    c.refused.ensures.refusal

pub returns-in-Ok-clause-over : goal.returns-in-Ok-clause-over
returns-in-Ok-clause-over c = λ space is.
    let same : c.in-Ok.space ≡ space = cc in
    subst (λ (s : Space). IsOver c.evaluated.new.evaluator s) same c.evaluated.ensures.over
