use Rattle.std.proofs.Common.{ℕ, ◌↔◌, ◌⊎◌, arith, subst}
use Rattle.run_combinations.specs.Keys.{HasKey}
use Rattle.run_combinations.specs.declared.part.Sketch.{Sketch}
use Rattle.run_combinations.proofs.Parting.{joined_more}
use Rattle.run_combinations.proofs.part.join_stores.Goals as goal

pub loop-run-preserved : goal.loop-run-preserved
loop-run-preserved c =
    let Joined : Sketch → Type 0 = λ s. (a b : ℕ) → HasKey c.join.new.self a b ↔ (HasKey c.loop-run.set a b ⊎ HasKey s.stores a b) in
    joined_more c.args.set.now c.args.runs.now c.loop-run.run-index c.run-item.result c.loop-run.set
    c.join.new.self (omega arith) (subst Joined c.run-item.is c.join.ensures)
    c.loop-run.invariant
