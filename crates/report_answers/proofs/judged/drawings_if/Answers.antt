use Rattle.std.proofs.Common.{List, length, sym, ap, ◌∙◌}
use Rattle.outcome_states.specs.declared.answer.Outcome.{Outcome}
use Rattle.report_answers.proofs.Drawn.{as_many}
use Rattle.report_answers.proofs.judged.drawings_if.Goals as goal

pub drawings_of-requires : goal.drawings_of-requires
drawings_of-requires c =
    as_many c.args.test.now c.args.judges.now.models.now c.args.row.now.outcomes.items c.requires
    ∙ ap (λ (os : List Outcome). length os) (sym c.deref.ensures.value)
