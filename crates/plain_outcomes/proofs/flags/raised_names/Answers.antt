use Rattle.std.proofs.Common.{Contains, subst}
use Rattle.text_values.specs.declared.model.Item.{Item}
use Rattle.text_values.specs.ModelValues.{clause_of}
use Rattle.plain_runs.specs.Locations.{names_as}
use Rattle.plain_outcomes.specs.Kept.{AddsRaised}
use Rattle.plain_outcomes.proofs.Flagging.{raised_more, raised_all}
use Rattle.plain_outcomes.proofs.flags.raised_names.Goals as goal

pub loop-index-preserved : goal.loop-index-preserved
loop-index-preserved c =
    raised_more (λ i. Contains c.args.raised.now i) c.args.items.now c.loop-index.index
    c.index-items-index.result (names_as c.loop-index.names.items) (names_as c.put_raised.new.names.items)
    c.loop-index-test.true c.loop-index.invariant
    (subst
    (λ (d : Item). AddsRaised (λ i. Contains c.args.raised.now i) c.loop-index.index (clause_of d) (names_as c.loop-index.names.items) (names_as c.put_raised.new.names.items))
    c.index-items-index.is c.in_ok-put_raised.ensures)

pub returns : goal.returns
returns c =
    raised_all (λ i. Contains c.args.raised.now i) c.args.items.now c.loop-index.index
    (names_as c.loop-index.names.items) c.loop-index-test.false c.loop-index.invariant
