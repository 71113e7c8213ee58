use Rattle.std.proofs.Common.{◌≡◌, ◌↔◌, IsTrue, get_or, sym, ap}
use Rattle.std.proofs.lemmas.Bool.{iff_false}
use Rattle.std.proofs.lemmas.List.Elements.{Contains-get_or}
use Rattle.plain_ends.specs.declared.ending.End.{End}
use Rattle.plain_ends.specs.Ends.{values_as}
use Rattle.plain_runs.proofs.Mapping.{none_more, none_all}
use Rattle.plain_outcomes.specs.States.{end_state}
use Rattle.plain_outcomes.proofs.Ordering.{at_end}
use Rattle.plain_outcomes.proofs.states.answer_in.Goals as goal

pub returns-then-is_same_state : goal.returns-then-is_same_state
returns-then-is_same_state c =
    let ends = c.args.ends.now in
    let s = values_as c.args.values.now in
    let k = c.loop-end.end-index in
    let item = c.end-item.result in
    let same : IsTrue c.is_same_state.result ↔ (end_state (get_or ends k item) ≡ s) = at_end ends k item c.deref.result.now s c.is_same_state.result c.end-item.is c.deref.ensures.value c.is_same_state.ensures in
    λ there. (
      get_or ends k item,
      Contains-get_or ends k item c.loop-end-test.true,
      same.0 c.if-is_same_state.true,
      ap (λ (e : End). e.holds) (sym c.end-item.is),
    )

pub loop-end-preserved : goal.loop-end-preserved
loop-end-preserved c =
    let ends = c.args.ends.now in
    let s = values_as c.args.values.now in
    let k = c.loop-end.end-index in
    let item = c.end-item.result in
    let same : IsTrue c.is_same_state.result ↔ (end_state (get_or ends k item) ≡ s) = at_end ends k item c.deref.result.now s c.is_same_state.result c.end-item.is c.deref.ensures.value c.is_same_state.ensures in
    none_more end_state ends k item s c.loop-end-test.true (iff_false same c.if-is_same_state.false)
    c.loop-end.invariant

pub returns : goal.returns
returns c = λ there. absurd
    (none_all end_state c.args.ends.now c.loop-end.end-index (values_as c.args.values.now) c.loop-end-test.false
    c.loop-end.invariant there)
