use Rattle.std.proofs.Common.{◌∙◌, refl, sym}
use Rattle.cat_machine.specs.Named.{EventsIn, PairsOutside}
use Rattle.cat_machine.proofs.Among.{among_all}
use Rattle.cat_machine.proofs.Growing.{round_first, round_next, round_done, codes_long}
use Rattle.cat_machine.proofs.solver.Solver.solve.Goals as goal

pub rounds-init : goal.rounds-init
rounds-init c = (
  refl,
  λ trees codes fit many.
      round_first c.args.base.now.count
      (EventsIn c.args.base.now c.args.inputs.now c.args.candidate)
      (PairsOutside c.args.base.now c.args.inputs.now c.args.candidate) trees
      c.clear.new.self.own.items 18446744073709551615
      (rw c.count.ensures.value at c.clear.ensures.empty)
      (many ∙ sym (codes_long trees c.args.bodies.now codes)) among_all,
)

pub returns-then-grew-eq0-clause-least : goal.returns-then-grew-eq0-clause-least
returns-then-grew-eq0-clause-least c = λ trees codes fit many.
    round_done c.args.base.now.count (EventsIn c.args.base.now c.args.inputs.now c.args.candidate)
    (PairsOutside c.args.base.now c.args.inputs.now c.args.candidate) trees
    c.round.new.self.own.items c.rounds.names c.in_ok-grew.grew c.if-grew-eq0.true
    (c.in_ok-grew.ensures.solved trees codes fit (c.rounds.invariant.1 trees codes fit
    (c.clear.ensures.long ∙ many)))

pub rounds-preserved : goal.rounds-preserved
rounds-preserved c = (
  c.round.ensures.long ∙ c.rounds.invariant.0,
  λ trees codes fit many.
      round_next c.args.base.now.count (EventsIn c.args.base.now c.args.inputs.now c.args.candidate)
      (PairsOutside c.args.base.now c.args.inputs.now c.args.candidate) trees c.args.bodies.now
      c.round.new.self.own.items c.rounds.names c.in_ok-grew.grew c.next_among-names.result
      codes
      (c.in_ok-grew.ensures.solved trees codes fit (c.rounds.invariant.1 trees codes fit many))
      c.next_among-names.ensures,
)
