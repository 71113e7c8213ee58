use Rattle.std.proofs.Common.{arith}
use Rattle.std.proofs.lemmas.Bool.{false≢true}
use Rattle.base_names.proofs.Rising.{nothing_stands, no_more, later_more, later_other}
use Rattle.bit_rows.specs.Relation.{Has}
use Rattle.base_names.proofs.changing.put_later.Goals as goal
use Rattle.base_names.proofs.changing.put_later.Goals.{then-stands_at, else-stands_at+else-rising}

pub returns-in_default : goal.returns-in_default
returns-in_default c =
    nothing_stands c.args.coherence.now c.args.events.now c.args.order.now c.args.index
    c.count-count.ensures.regular (λ l h. c.in_default.not-Some l ((c.location_at.ensures l).1 h))

pub returns-then-rising : goal.returns-then-rising
returns-then-rising c =
    no_more (Has c.args.coherence.now) c.args.events.now c.args.order.now c.args.index
    c.loop-behind.behind c.in-Some.location (omega (arith, c.loop-behind.auto.behind))
    c.loop-behind-test.true (c.requires.rising c.if-rising.true)
    ((c.location_at.ensures c.in-Some.location).0 c.in-Some.is)
    (λ h. false≢true (rw c.if-stands_at.false at (c.stands_at.ensures.1 h))) c.loop-behind.invariant

pub loop-behind-preserved : goal.loop-behind-preserved
loop-behind-preserved c = elim c.if-stands_at.branch [
  | then-stands_at w ↦ rw w.coherence-is (later_more (Has c.args.coherence.now) c.args.events.now
      c.args.order.now c.args.index c.loop-behind.behind c.in-Some.location _ _
      c.from-store.ensures w.from.ensures c.requires.inside c.loop-behind-test.true
      (omega (arith, c.loop-behind.auto.behind))
      ((c.location_at.ensures c.in-Some.location).0 c.in-Some.is)
      (c.stands_at.ensures.0 w.if-stands_at.true) c.loop-behind.invariant w.put.ensures)
  | else-stands_at+else-rising w ↦ rw w.coherence-is (later_other (Has c.args.coherence.now)
      c.args.events.now c.args.order.now c.args.index c.loop-behind.behind c.in-Some.location
      ((c.location_at.ensures c.in-Some.location).0 c.in-Some.is)
      (λ h. false≢true (rw w.if-stands_at.false at (c.stands_at.ensures.1 h)))
      c.loop-behind.invariant)
]
