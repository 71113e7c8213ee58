use Rattle.bit_rows.specs.Relation.{Has}
use Rattle.cat_machine.specs.Checks.{Holds}
use Rattle.why_witness.specs.Witnesses.{Breaks}
use Rattle.why_witness.proofs.Same.{breaks_refutes, explains_met, explains_unmet}
use Rattle.why_witness.proofs.witness.relation_refusal.Goals as goal
use Rattle.why_witness.proofs.witness.relation_refusal.Goals.{in-Some, in-None}

pub returns : goal.returns
returns c =
    let R = Has c.args.relation.now in
    let asked = Holds c.args.word R in
    let broken = Breaks c.args.word R in
    elim c.match-found.branch [
      | in-Some w ↦ rw w.result-is (explains_unmet c.args.negated asked broken
          c.if-not-negated.false (breaks_refutes c.args.word R w.in-Some.field-0
          (rw w.in-Some.is at c.in_ok-found.ensures)))
      | in-None w ↦ rw w.result-is (explains_met c.args.negated asked broken c.if-not-negated.false
          (rw w.in-None.is at c.in_ok-found.ensures))
    ]
