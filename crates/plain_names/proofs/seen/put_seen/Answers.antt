use Rattle.std.proofs.Common.{List, map, refl, sym, subst, All}
use Rattle.std.proofs.lemmas.List.Elements.{All-push}
use Rattle.text_values.specs.TestValue.{content_of}
use Rattle.plain_runs.specs.Runs.{run_as}
use Rattle.plain_events.specs.Events.{of_runs}
use Rattle.plain_names.specs.declared.seen.Seen.{Seen}
use Rattle.plain_names.specs.Seen.{IsSeenAs}
use Rattle.plain_names.proofs.Seeing.{seen_as, puts_event, puts_nothing}
use Rattle.plain_names.proofs.seen.put_seen.Goals as goal

pub returns-in_ok-push-in-Some-clause-puts : goal.returns-in_ok-push-in-Some-clause-puts
returns-in_ok-push-in-Some-clause-puts c =
    let one : Seen = record { event = c.args.event.now; action = c.in-Some.action } in
    puts_event (content_of c.args.test.now) (of_runs (map run_as c.args.runs.now)) c.args.event.now
    c.action.result c.action.ensures c.in-Some.action one c.args.seen.now.items
    c.push.new.self.items c.in-Some.is refl c.in_ok-push-in-Some.ensures.items

pub returns-in_ok-push-in-Some-clause-actions : goal.returns-in_ok-push-in-Some-clause-actions
returns-in_ok-push-in-Some-clause-actions c =
    let t = content_of c.args.test.now in
    let x = of_runs (map run_as c.args.runs.now) in
    let one : Seen = record { event = c.args.event.now; action = c.in-Some.action } in
    subst (λ (l : List Seen). All (IsSeenAs t x) l) (sym c.in_ok-push-in-Some.ensures.items)
    (All-push (IsSeenAs t x) c.args.seen.now.items one c.requires.actions
    (seen_as t x c.args.event.now c.action.result c.action.ensures c.in-Some.action c.in-Some.is))

pub returns-in-None-clause-puts : goal.returns-in-None-clause-puts
returns-in-None-clause-puts c =
    puts_nothing (content_of c.args.test.now) (of_runs (map run_as c.args.runs.now)) c.args.event.now
    c.action.result c.action.ensures c.args.seen.now.items c.in-None.is
