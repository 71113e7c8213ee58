use Rattle.std.proofs.Common.{◌≡◌, ◌↔◌, IsTrue, get_or}
use Rattle.std.proofs.lemmas.Bool.{iff_false}
use Rattle.meaning.specs.Outcome.{IsStateBefore}
use Rattle.plain_ends.specs.Ends.{values_as}
use Rattle.plain_outcomes.specs.States.{final_state_as}
use Rattle.plain_outcomes.proofs.Ordering.{at_state, place_same, place_before, place_later, place_last}
use Rattle.plain_outcomes.proofs.states.position.Goals as goal

pub returns-then-is_same_state-clause-position : goal.returns-then-is_same_state-clause-position
returns-then-is_same_state-clause-position c =
    let s = values_as c.args.values.now in
    let states = c.args.states.now in
    let k = c.loop-index.index in
    let item = c.index-states-index.result in
    let same : IsTrue c.is_same_state.result ↔ (s ≡ final_state_as (get_or states k item)) = at_state (λ r. s ≡ r) states k item c.deref.result.now c.is_same_state.result c.index-states-index.is c.deref.ensures.value c.is_same_state.ensures in
    place_same states s k item c.loop-index-test.true (same.0 c.if-is_same_state.true)

pub returns-then-is_state_before-clause-position : goal.returns-then-is_state_before-clause-position
returns-then-is_state_before-clause-position c =
    let s = values_as c.args.values.now in
    let states = c.args.states.now in
    let k = c.loop-index.index in
    let item = c.index-states-index.result in
    let before : IsTrue c.is_state_before.result ↔ IsStateBefore s (final_state_as (get_or states k item)) = at_state (λ r. IsStateBefore s r) states k item c.deref-in-loop-index.result.now c.is_state_before.result c.index-states-index.is c.deref-in-loop-index.ensures.value c.is_state_before.ensures in
    place_before states s k item c.loop-index-test.true c.requires.rises c.loop-index.invariant
    (before.0 c.if-is_state_before.true)

pub loop-index-preserved : goal.loop-index-preserved
loop-index-preserved c =
    let s = values_as c.args.values.now in
    let states = c.args.states.now in
    let k = c.loop-index.index in
    let item = c.index-states-index.result in
    let same : IsTrue c.is_same_state.result ↔ (s ≡ final_state_as (get_or states k item)) = at_state (λ r. s ≡ r) states k item c.deref.result.now c.is_same_state.result c.index-states-index.is c.deref.ensures.value c.is_same_state.ensures in
    let before : IsTrue c.is_state_before.result ↔ IsStateBefore s (final_state_as (get_or states k item)) = at_state (λ r. IsStateBefore s r) states k item c.deref-in-loop-index.result.now c.is_state_before.result c.index-states-index.is c.deref-in-loop-index.ensures.value c.is_state_before.ensures in
    place_later states s k item c.loop-index-test.true c.requires.good c.loop-index.invariant
    (iff_false same c.if-is_same_state.false) (iff_false before c.if-is_state_before.false)

pub returns-clause-position : goal.returns-clause-position
returns-clause-position c =
    place_last c.args.states.now (values_as c.args.values.now) c.loop-index.index c.loop-index-test.false
    c.loop-index.invariant
