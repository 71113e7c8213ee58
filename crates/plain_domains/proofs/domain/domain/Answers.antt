use Rattle.std.proofs.Common.{List, map, ap, ◌∙◌}
use Rattle.text_values.specs.declared.test.Thread.{Thread}
use Rattle.text_values.specs.TestValue.{content_of}
use Rattle.plain_machine.specs.Values.{value_as}
use Rattle.plain_runs.specs.declared.count.Counted.TheVariants.{Loads, Events}
use Rattle.plain_runs.specs.Locations.{names_as}
use Rattle.plain_runs.specs.Counts.{line_count}
use Rattle.plain_runs.proofs.Mapping.{not_true}
use Rattle.plain_domains.proofs.Rounds.{domain_of, few_events, many_events, start_listed}
use Rattle.plain_domains.proofs.domain.domain.Goals as goal

pub rounds-requires : goal.rounds-requires
rounds-requires c =
    start_listed (content_of c.args.test.now) (names_as c.deref-4.result.now)
    (map value_as c.in_ok-first.first.items)
    (ap names_as c.deref-4.ensures.value ∙ c.in_ok-locations.ensures) c.in_ok-first.ensures

pub returns-then-has_many_events : goal.returns-then-has_many_events
returns-then-has_many_events c =
    many_events (content_of c.args.test.now) c.deref-3.result.now c.in-Some.events
    (ap names_as c.deref-3.ensures.value ∙ c.in_ok-locations.ensures)
    (c.in-Some.ensures ∙ ap (λ (l : List Thread). line_count Events l) c.deref.ensures.value)
    (c.has_many_events.ensures.0 c.if-has_many_events.true)

pub returns : goal.returns
returns c =
    domain_of (content_of c.args.test.now) c.in-Some-count.loads c.in_ok-answer.answer
    (few_events (content_of c.args.test.now) c.deref-3.result.now c.in-Some.events
    (ap names_as c.deref-3.ensures.value ∙ c.in_ok-locations.ensures)
    (c.in-Some.ensures ∙ ap (λ (l : List Thread). line_count Events l) c.deref.ensures.value)
    (λ many. not_true c.has_many_events.result c.if-has_many_events.false (c.has_many_events.ensures.1 many)))
    (c.in-Some-count.ensures ∙ ap (λ (l : List Thread). line_count Loads l) c.deref-2.ensures.value)
    c.in_ok-answer.ensures
