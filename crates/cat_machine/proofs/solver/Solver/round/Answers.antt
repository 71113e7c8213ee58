use Rattle.std.proofs.Common.{◌≡◌, ◌<◌, ◌∙◌, sym, arith, length}
use Rattle.std.proofs.lemmas.Bool.{false≢true}
use Rattle.cat_machine.specs.Named.{EventsIn, PairsOutside}
use Rattle.cat_machine.specs.Rising.{rooms}
use Rattle.cat_machine.proofs.Growing.{round_skips, codes_long}
use Rattle.cat_machine.proofs.Turns.{turn_grows, turn_stays}
use Rattle.cat_machine.proofs.solver.Solver.round.Goals as goal
use Rattle.cat_machine.proofs.solver.Solver.round.Goals.{then-has_name+then-position-len+in_ok-evaluate+then-keep, then-has_name+then-position-len+in_ok-evaluate+else-keep, else-has_name, else-has_name-via-then-has_name+else-position-len, else-has_name-via-else-has_name}

pub loop-position-preserved : goal.loop-position-preserved
loop-position-preserved c =
    let base = c.args.base.now in
    let inputs = c.args.inputs.now in
    let events = EventsIn base inputs c.args.candidate in
    let pairs = PairsOutside base inputs c.args.candidate in
    let l = c.loop-position in
    let before = l.invariant in
    elim c.if-has_name.branch [
      | then-has_name+then-position-len+in_ok-evaluate+then-keep w ↦
          let less : rooms w.keep.new.self.own.items < rooms l.self.own.items = w.keep.ensures.grown w.if-keep.true in
          rw (w.self-is, w.grew-is) (
            (λ _. omega (arith, less, before.1)),
            omega (arith, less, before.1),
            w.with_name-grew.type_inv,
            (λ trees codes fit first.
                turn_grows base.count events pairs trees c.args.bodies.now l.self.own.items
                c.args.names l.position l.grew w.index-bodies-position.result
                w.evaluate.new.machine.relations
                codes fit (before.3 trees codes fit first) c.loop-position-test.true
                w.index-bodies-position.is w.in_ok-evaluate.ensures.relation
                w.keep.new.self.own.items w.with_name-grew.result w.keep.ensures.value
                w.with_name-grew.ensures),
          )
      | then-has_name+then-position-len+in_ok-evaluate+else-keep w ↦
          let kept : w.keep.new.self.own.items ≡ l.self.own.items = w.keep.ensures.kept w.if-keep.false in
          rw (w.self-is, w.grew-is) (
            (λ some. rw kept (before.0 some)),
            rw kept before.1,
            before.2,
            (λ trees codes fit first.
                turn_stays base.count events pairs trees c.args.bodies.now l.self.own.items
                c.args.names l.position l.grew w.index-bodies-position.result
                w.evaluate.new.machine.relations
                codes fit (before.3 trees codes fit first) c.loop-position-test.true
                w.index-bodies-position.is w.in_ok-evaluate.ensures.relation
                w.keep.new.self.own.items kept w.keep.ensures.value),
          )
      | else-has_name w ↦
          rw (w.self-is, w.grew-is) (
            before.0,
            before.1,
            before.2,
            (λ trees codes fit first.
                let round = before.3 trees codes fit first in
                elim w.else-has_name.branch [
                  | else-has_name-via-then-has_name+else-position-len w' ↦
                      absurd (omega (
                        arith,
                        w'.if-position-len.false,
                        w'.len.ensures,
                        round.sound.as_many,
                        codes_long trees c.args.bodies.now codes,
                        c.loop-position-test.true,
                      ))
                  | else-has_name-via-else-has_name w' ↦
                      round_skips base.count events pairs trees l.self.own.items c.args.names
                      l.position l.grew round
                      (λ among. false≢true (sym w'.if-has_name.false ∙ c.has_name.ensures.1 among))
                ]),
          )
    ]

pub returns-clause-solved : goal.returns-clause-solved
returns-clause-solved c = λ trees codes fit first.
    let at_end : c.loop-position.position ≡ length trees = omega (arith, codes_long trees c.args.bodies.now codes, c.loop-position-test.false, c.loop-position.auto.position-end) in
    rw at_end at (c.loop-position.invariant.3 trees codes fit first)
