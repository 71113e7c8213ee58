use Rattle.std.proofs.Common.{ℕ, List, [], map, sym, subst}
use Rattle.text_values.specs.ModelValues.{clauses_of}
use Rattle.text_values.specs.TestValue.{content_of}
use Rattle.meaning.specs.Sets.{IsOnce}
use Rattle.meaning.specs.Names.{Name}
use Rattle.meaning_plain.specs.Lists.{SetOf}
use Rattle.plain_models.specs.Scopes.{with_named}
use Rattle.plain_models.specs.Answers.{AreModelAnswers}
use Rattle.plain_runs.specs.declared.run.Run.{Run}
use Rattle.plain_runs.specs.Runs.{run_as}
use Rattle.plain_events.specs.Events.{of_runs}
use Rattle.plain_events.proofs.Standing.{locations_once}
use Rattle.plain_executions.specs.Executions.{execution_as}
use Rattle.plain_names.specs.Seen.{seen_events, AreSeen}
use Rattle.plain_outcomes.proofs.Telling.{are_predefined, seen_in, told}
use Rattle.plain_outcomes.proofs.answer.execution_answers.Goals as goal

pub looked_at-requires-clause-once : goal.looked_at-requires-clause-once
looked_at-requires-clause-once c =
    subst (λ (ns : List Name). IsOnce ns) (sym c.requires.locations)
    (locations_once (content_of c.args.test.now))

pub answered-requires-clause-predefined : goal.answered-requires-clause-predefined
answered-requires-clause-predefined c =
    let t = content_of c.args.test.now in
    let x = execution_as c.args.execution.now in
    let seen = c.in_ok-shown.shown.seen.items in
    are_predefined t x (seen_events seen) c.in_ok-predefined.predefined.items
    (c.in_ok-predefined.ensures t
    (seen_in t x seen
    (subst (λ (rs : List Run). AreSeen t (of_runs (map run_as rs)) seen) c.deref.ensures.value c.in_ok-shown.ensures.seen)))

pub returns : goal.returns
returns c =
    let t = content_of c.args.test.now in
    let x = execution_as c.args.execution.now in
    let seen = c.in_ok-shown.shown.seen.items in
    let items = c.args.items.now in
    let bs = c.in_ok-predefined.predefined.items in
    let are : AreSeen t x seen =
    seen_in t x seen
    (subst (λ (rs : List Run). AreSeen t (of_runs (map run_as rs)) seen) c.deref.ensures.value c.in_ok-shown.ensures.seen) in
    told t x c.requires.execution seen are c.in_ok-all.all.items items bs c.in_ok-answers.answers
    c.in_ok-all.ensures (c.in_ok-predefined.ensures t are)
    (subst
    (λ (all : List ℕ). AreModelAnswers (SetOf all) (with_named (SetOf all) items bs []) (clauses_of items) c.in_ok-answers.answers)
    c.deref-2.ensures.value c.in_ok-answers.ensures)
