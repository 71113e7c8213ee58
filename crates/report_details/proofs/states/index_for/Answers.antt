use Rattle.std.proofs.Common.{Bor, arith}
use Rattle.std.proofs.lemmas.List.{length-map}
use Rattle.outcome_states.specs.declared.answer.CountedState.{CountedState}
use Rattle.report_details.proofs.Placing.{goes_before, is_there}
use Rattle.report_details.proofs.states.index_for.Goals as goal

pub returns-in-Less : goal.returns-in-Less
returns-in-Less c =
    let lent = λ (s : Bor CountedState). s.now in (
      omega (arith, length-map c.args.states.now lent, c.loop-index-test.true),
      goes_before lent c.args.states.now c.args.state.now c.loop-index.index
          c.index-states-index.result c.order_of.result c.loop-index-test.true c.index-states-index.is
          c.order_of.ensures c.in-Less.is c.loop-index.invariant,
    )

pub returns-in-Equal : goal.returns-in-Equal
returns-in-Equal c =
    is_there (λ (s : Bor CountedState). s.now) c.args.states.now c.args.state.now c.loop-index.index
    c.index-states-index.result c.order_of.result c.loop-index-test.true c.index-states-index.is
    c.order_of.ensures c.in-Equal.is c.loop-index.invariant
