use Rattle.std.proofs.Common.{arith, ◌++◌, codes, ap, ◌∙◌, List, ℕ}
use Rattle.std.proofs.lemmas.Grind.{common_steps}
use Rattle.text_values.proofs.Separated.{from, from_first}
use Rattle.outcome_states.specs.declared.observable.Observable.TheVariants.{Register}
use Rattle.outcome_states.proofs.HeldTexts.{texts, one_printed, none_printed}
use Rattle.outcome_states.proofs.state_text.state_text.Goals as goal
use Rattle.outcome_states.proofs.state_text.state_text.Goals.{in-Some+in_ok-put_held, in_default}

pub loop-i-init : goal.loop-i-init
loop-i-init c =
    ap
    (λ (l : List ℕ). l
    ++ from (codes " ") 0 (texts c.args.locations.now c.args.observables.now c.args.values.now))
    c.new-text.ensures.items
    ∙ from_first (codes " ") (texts c.args.locations.now c.args.observables.now c.args.values.now)

pub loop-i-preserved : goal.loop-i-preserved
loop-i-preserved c =
    elim c.match-get.branch [
      | in-Some+in_ok-put_held w ↦
          one_printed c.args.locations.now (codes " ") c.args.observables.now c.args.values.now
          c.loop-i.i (Register 0 0) w.in-Some.value.now c.loop-i.text.items
          c.match-get.text.items _ c.loop-i-test.true (grind (arith, common_steps))
          w.in-Some.ensures.lookup.1 (ap (λ v. v.items) w.text-is ∙ w.in_ok-put_held.ensures)
          c.loop-i.invariant
      | in_default w ↦
          none_printed c.args.locations.now (codes " ") c.args.observables.now c.args.values.now
          c.loop-i.i c.loop-i.text.items c.match-get.text.items _ (grind (arith, common_steps))
          (ap (λ v. v.items) w.text-is) c.loop-i.invariant
    ]
