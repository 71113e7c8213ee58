use Rattle.std.proofs.Common.{rules, ◌≡◌, List, length, map, sym, ap, ◌∙◌}
use Rattle.std.proofs.lemmas.Result.{on_ok_weaker}
use Rattle.outcome_states.specs.declared.answer.Outcome.{Outcome}
use Rattle.outcome_lines.specs.declared.record.ModelOutcome as given
use Rattle.outcome_lines.specs.Records.{model_outcome_of}
use Rattle.line_answers.specs.Added.{named_outcomes}
use Rattle.line_answers.proofs.Results.{as_many, outcomes_under, tested_text}
use Rattle.line_answers.proofs.report.put_tested.Goals as goal

pub named_outcomes-requires : goal.named_outcomes-requires
named_outcomes-requires c =
    let has = c.in_ok-row.ensures c.requires.texts c.requires.resolved_are in
    as_many c.args.test.now c.args.judges.now.models.now c.requires.texts
    c.in_ok-row.row.outcomes.items c.requires.same has.outcomes
    ∙ ap (λ (os : List Outcome). length os) (sym c.deref.ensures.value)

pub returns : goal.returns
returns c =
    let has = c.in_ok-row.ensures c.requires.texts c.requires.resolved_are in
    let same : map model_outcome_of c.deref-2.result.now ≡ named_outcomes c.args.judges.now.models.now c.in_ok-row.row.outcomes.items = ap (λ (os : List given.ModelOutcome). map model_outcome_of os) c.deref-2.ensures.value ∙ c.in_ok-outcomes.ensures ∙ ap (λ (os : List Outcome). named_outcomes c.args.judges.now.models.now os) c.deref.ensures.value in
    on_ok_weaker c.put_result.result
    (λ e. (
      named_outcomes c.args.judges.now.models.now c.in_ok-row.row.outcomes.items,
      outcomes_under c.args.test.now c.args.judges.now.models.now c.requires.texts
          c.in_ok-row.row.outcomes.items c.requires.same has.outcomes,
      tested_text c.args.judges.now.lines c.args.text.now.items c.put_result.new.text.items
          c.args.file.now.path.now _ c.args.test.now.name _ _ _ (search rules) (search rules) same e,
    ))
    c.put_result.ensures
