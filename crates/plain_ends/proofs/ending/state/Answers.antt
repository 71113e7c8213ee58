use denote.Ref.{Bor}
use Rattle.std.proofs.Common.{List, Vec, [], ◌∷◌, Contains, ap, sym, subst, ◌∙◌}
use Rattle.std.specs.declared.alloc.Global.{Global}
use Rattle.std.proofs.lemmas.List.{map-append}
use Rattle.text_values.specs.declared.test.Place.{Place}
use Rattle.text_values.specs.TestValue.{content_of}
use Rattle.meaning.specs.Outcome.{EndsWith, observables}
use Rattle.plain_machine.specs.declared.value.Value.{Value}
use Rattle.plain_machine.specs.Values.{value_as}
use Rattle.plain_executions.specs.Executions.{execution_as}
use Rattle.plain_executions.proofs.Pairing.{zipped_more}
use Rattle.plain_runs.proofs.Mapping.{there_at}
use Rattle.plain_ends.specs.Ends.{values_as}
use Rattle.plain_ends.proofs.Finals.{ends_there, holds_something}
use Rattle.plain_ends.proofs.ending.state.Goals as goal
use Rattle.plain_ends.proofs.ending.state.Goals.{in-Some+in_ok-push-in-Some, in-None}

pub loop-observable-preserved : goal.loop-observable-preserved
loop-observable-preserved c =
    let t = content_of c.args.test.now in
    let x = execution_as c.args.execution.now in
    let at = c.observable-item.result in
    elim c.match-ending.branch [
      | in-Some+in_ok-push-in-Some w ↦
          zipped_more (EndsWith t x) (λ (p : Bor Place). p.now) c.args.observables.now
          c.loop-observable.observable-index at (values_as c.loop-observable.values.items)
          (values_as c.match-ending.values.items) (value_as w.in-Some.value) c.loop-observable-test.true
          c.loop-observable.invariant
          (subst (λ (p : Bor Place). EndsWith t x p.now (value_as w.in-Some.value)) c.observable-item.is
          (ends_there t x at.now c.ending.result w.in-Some.value c.ending.ensures w.in-Some.is))
          (ap (λ (v : Vec Value Global). values_as v.items) w.values-is
          ∙ ap values_as w.in_ok-push-in-Some.ensures.items
          ∙ map-append value_as c.loop-observable.values.items (w.in-Some.value ∷ []))
      | in-None w ↦
          absurd
          (holds_something t x at.now c.ending.result c.requires.execution
          (subst (λ (ps : List Place). Contains ps at.now) c.requires.observables
          (there_at (λ (p : Bor Place). p.now) c.args.observables.now c.loop-observable.observable-index at at.now
          c.loop-observable-test.true (ap (λ (p : Bor Place). p.now) (sym c.observable-item.is))))
          c.ending.ensures w.in-None.is)
    ]
