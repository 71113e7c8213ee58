use Rattle.std.proofs.Common.{map, Bor, sym, ap, ◌∙◌}
use Rattle.outcome_states.specs.declared.answer.CountedState.{CountedState}
use Rattle.report_details.proofs.Placing.{mapped_insert}
use Rattle.report_details.proofs.states.insert_state.Goals as goal

pub returns : goal.returns
returns c =
    let lent = λ (s : Bor CountedState). s.now in
    let there = rw c.as_slice.ensures.value at c.in-Some.ensures.1 in
    ap (λ l. map lent l) c.in_ok-insert.ensures.items
    ∙ mapped_insert lent c.args.states.now.items c.in-Some.index c.args.state
    ∙ sym there
