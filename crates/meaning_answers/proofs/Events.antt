-- What is told of the events of a candidate is told of those of its execution.
use Rattle.std.proofs.Common.{ℕ, zero, suc, ◌≡◌, ◌<◌, ◌+◌, ◌-◌, List, [], ◌∷◌, ◌++◌, map, length, drop, All, Option, Some, None, option_map, refl, sym, ap, subst, ◌∙◌, arith}
use Rattle.std.specs.Prelude.{slice_get}
use Rattle.std.specs.List.{AllZip, filter_map, cons_option}
use Rattle.std.proofs.Math.Seq.{drop-append_seam}
use Rattle.std.proofs.lemmas.List.{drop_all, length-map, length-append}
use Rattle.std.proofs.lemmas.List.Elements.{All-nil, All-cons}
use Rattle.std.proofs.lemmas.Option.{same_Some, none-some, get_or_from_slice_get, slice_get_within}
use Rattle.text_values.specs.declared.test.Test.{Test}
use Rattle.text_values.specs.TestValue.{Content, content_of}
use Rattle.store_orders.specs.declared.combination.Event as numbered_event
use Rattle.candidate_spaces.specs.declared.candidate.Space.{Space}
use Rattle.candidates.specs.Listed.{ListsExecutions}
use Rattle.why_text.specs.declared.event.ToldEvent.{ToldEvent}
use Rattle.why_forbidden.specs.Told.{Scene, told_as, told_at, told_events, numbers_from, events_from}
use Rattle.why_forbidden.proofs.Stepping.{drop_at}
use Rattle.meaning.specs.Names.{locations}
use Rattle.meaning.specs.Executions.{Event, Initial, Execution}
use Rattle.meaning_executions.specs.Events.{IsNumbered, IsSameEvent, AreSameEvents, events_in, named_events}
use Rattle.meaning_executions.proofs.Knowing.{correspond}
use Rattle.meaning_executions.proofs.Lists.{at_left, as_long, turned}
use Rattle.meaning_states.proofs.Listing.{IsPair}
use Rattle.meaning_answers.specs.Told.{IsEventTold, IsOfEvent}

module _ (t : Test) (s : Space) (lists : ListsExecutions t s) (k : ℕ) (y : Execution)
    (pair : IsPair t s lists k y) where
  abbrev content : Content
  content = content_of t

  abbrev es : List Event
  es = named_events content y.runs

  abbrev ns : List numbered_event.Event
  ns = pair.one.0.events.items

  pub events_are_same : AreSameEvents content y ns es
  events_are_same =
      subst (λ (ds : List numbered_event.Event). AreSameEvents content y ds es)
      (sym pair.shows.events)
      (correspond t lists.executions.program lists.executions.of_test pair.execution.runs y
      pair.same.runs pair.is.runs)

  module _ (scene : Scene) (of : scene.events ≡ ns) where
    told_of : (number : ℕ) (event : numbered_event.Event) → slice_get scene.events number ≡ Some event
        → (e : Event) × IsEventTold content y e (told_as scene number event)
    told_of number event at =
        let found = at_left (IsSameEvent content y) ns es events_are_same.alike number event
        (subst (λ (ds : List numbered_event.Event). slice_get ds number ≡ Some event) of at) in
        (found.0, record { number = found.1; same = found.2 })

    pub event_told : (number : ℕ) (told : ToldEvent) → told_at scene number ≡ Some told
        → IsOfEvent content y told
    event_told number told e = by (slice_get scene.events number) refl e
      where
        by : (o : Option numbered_event.Event) → slice_get scene.events number ≡ o
            → option_map (told_as scene number) o ≡ Some told → IsOfEvent content y told
        by None at h = absurd (none-some told h)
        by (Some event) at h =
            subst (λ (d : ToldEvent). IsOfEvent content y d) (same_Some _ _ h)
            (told_of number event at)

    -- each of these is told of an event
    pub all_told : (numbers : List ℕ) → All (IsOfEvent content y) (told_events scene numbers)
    all_told [] = All-nil (IsOfEvent content y)
    all_told (n ∷ numbers) = by (told_at scene n) refl (all_told numbers)
      where
        by : (o : Option ToldEvent) → told_at scene n ≡ o
            → All (IsOfEvent content y) (told_events scene numbers)
            → All (IsOfEvent content y) (cons_option o (told_events scene numbers))
        by None e rest = rest
        by (Some told) e rest =
            All-cons (IsOfEvent content y) told (told_events scene numbers) (event_told n told e) rest

    -- ---- the events from a number on

    none_within : (xs : List Event) (i : ℕ) → i < length xs → slice_get xs i ≡ None → ⊥
    none_within [] i lt e = omega (arith, lt)
    none_within (x ∷ xs) zero lt e = cc
    none_within (x ∷ xs) (suc i) lt e = none_within xs i (omega (arith, lt)) e

    event_under : (i : ℕ) (e : Event) → slice_get es i ≡ Some e
        → (event : numbered_event.Event) × (slice_get scene.events i ≡ Some event)
        × IsSameEvent content y event e
    event_under i e at =
        let found = at_left (λ (d : Event) (n : numbered_event.Event). IsSameEvent content y n d) es ns
        (turned (IsSameEvent content y) ns es events_are_same.alike) i e at in (
          found.0,
          subst (λ (ds : List numbered_event.Event). slice_get ds i ≡ Some found.0) (sym of) found.1,
          found.2,
        )

    abbrev Tells : List Event → List ToldEvent → Type 0
    Tells events told = AllZip (IsEventTold content y) events told

    one_on : (first : ℕ) (more : List ToldEvent) → first < length es → Tells (drop (first + 1) es) more
        → (o : Option Event) → slice_get es first ≡ o
        → Tells (drop first es) (cons_option (told_at scene first) more)
    one_on first more lt rest None none = absurd (none_within es first lt none)
    one_on first more lt rest (Some e) at =
        let found = event_under first e at in
        let told : ToldEvent = told_as scene first found.0 in
        let is : IsEventTold content y e told = record { number = at; same = found.2 } in
        subst (λ (ds : List Event). Tells ds (cons_option (told_at scene first) more))
        (sym
        (drop_at es first e (slice_get_within es first e at)
        (sym (get_or_from_slice_get es first e e at))))
        (subst (λ (o : Option ToldEvent). Tells (e ∷ drop (first + 1) es) (cons_option o more))
        (sym (ap (λ (o : Option numbered_event.Event). option_map (told_as scene first) o) found.1))
        (is, rest))

    from_on : (count first : ℕ) → first + count ≡ length es
        → Tells (drop first es) (told_events scene (numbers_from first count))
    from_on zero first long =
        subst (λ (ds : List Event). Tells ds []) (sym (drop_all first es (omega (arith, long)))) tt
    from_on (suc count) first long =
        one_on first (told_events scene (numbers_from (first + 1) count)) (omega (arith, long))
        (from_on count (first + 1) (omega (arith, long))) (slice_get es first) refl

    -- the events of the threads
    pub program_told : (initial : ℕ) → initial ≡ length (locations content)
        → AllZip (IsEventTold content y) (events_in 0 y.runs) (events_from initial scene)
    program_told initial is =
        let long : length scene.events ≡ length es =
        ap length of ∙ as_long (IsSameEvent content y) ns es events_are_same.alike in
        let firsts : initial ≡ length (map Initial (locations content)) =
        is ∙ sym (length-map (locations content) Initial) in
        let all : length es ≡ length (map Initial (locations content)) + length (events_in 0 y.runs) =
        length-append (map Initial (locations content)) (events_in 0 y.runs) in
        subst
        (λ (ds : List Event). AllZip (IsEventTold content y) ds (events_from initial scene))
        (ap (λ (n : ℕ). drop n es) firsts
        ∙ drop-append_seam (map Initial (locations content)) (events_in 0 y.runs))
        (from_on (length scene.events - initial) initial (omega (arith, long, firsts, all)))
