use Rattle.std.proofs.Common.{◌≡◌, [], ◌∷◌, length, ap, ◌∙◌}
use Rattle.candidate_spaces.specs.Space.{shown_in}
use Rattle.outcome_states.specs.Kept.{of_raised}
use Rattle.from_scratch.proofs.Cells.{outcome_said, said_from}
use Rattle.from_scratch.proofs.Knowing.{kept_alone}
use Rattle.from_scratch.proofs.cell.evaluated.Goals as goal

pub returns-clause-answers : goal.returns-clause-answers
returns-clause-answers c = λ ordered.
    outcome_said c.args.resolved.now.items.items c.args.test.now c.args.space.now
    c.in_ok-found.found c.deref-2.result.now c.deref-3.result.now c.deref.result.now
    c.in_ok-flags.flags c.deref-4.result.now c.outcome_kept.result
    c.deref-2.ensures.value c.deref-3.ensures.value c.deref.ensures.value c.in_ok-flags.ensures
    c.deref-4.ensures.value (c.in_ok-found.ensures.said ordered) c.outcome_kept.ensures.whole

pub returns-clause-said : goal.returns-clause-said
returns-clause-said c =
    let keep = c.deref-3.result.now in
    let long : length keep ≡ length (shown_in c.args.space.now) = ap length c.deref-3.ensures.value ∙ c.in_ok-found.ensures.long in
    said_from c.args.test.now c.args.space.now c.deref-2.result.now (keep ∷ [])
    (of_raised c.deref-4.result.now) c.outcome_kept.result c.deref-2.ensures.value
    (c.outcome_kept.ensures.whole (keep ∷ []) (kept_alone c.args.space.now keep long))
