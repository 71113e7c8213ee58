-- The boxes of a candidate's events are those of its execution's.
use Rattle.std.proofs.Common.{ℕ, ◌≡◌, ◌<◌, ◌↔◌, ◌⊎◌, inl, inr, List, [], ◌∷◌, ◌++◌, length, All, Contains, Option, Some, None, refl, sym, ap, subst, ◌∙◌}
use Rattle.std.specs.Prelude.{slice_get}
use Rattle.std.specs.List.{AllZip}
use Rattle.std.proofs.lemmas.List.Elements.{Contains-append_left, Contains-append_right, Contains-append_cases}
use Rattle.std.proofs.lemmas.Option.{same_Some, slice_get-get_or}
use Rattle.predefined_names.specs.declared.predefined.Predefined.{Predefined}
use Rattle.text_values.specs.declared.test.Test.{Test}
use Rattle.text_values.specs.TestValue.{Content, content_of}
use Rattle.store_orders.specs.declared.combination.Event as numbered_event
use Rattle.candidate_spaces.specs.declared.candidate.Space.{Space}
use Rattle.candidates.specs.Listed.{ListsExecutions}
use Rattle.candidate_spaces.specs.Space.{Candidate}
use Rattle.why_text.specs.declared.event.ToldEvent.{ToldEvent}
use Rattle.draw_graph.specs.Drawn as program
use Rattle.draw_graph.specs.Drawn.{IsAmongIfInitial}
use Rattle.draw_graph.specs.declared.drawing.Cluster.{Cluster}
use Rattle.why_forbidden.specs.Drawings.{IsBox, AreBoxesOf, IsBoxed, IsCluster, IsDrawnIn, PairsOfName, box_numbers}
use Rattle.why_forbidden.specs.Told.{Scene}
use Rattle.meaning.specs.Executions.{Event, Initial, Does, Execution}
use Rattle.meaning.specs.Predefined.{PairsOf}
use Rattle.meaning_executions.specs.Events.{IsNumbered, IsSameEvent, AreSameEvents, named_events, thread_of_event}
use Rattle.meaning_executions.proofs.Numbering.{named_once}
use Rattle.meaning_executions.proofs.Lists.{at_left, at_right, left_there, right_there}
use Rattle.meaning_executions.specs.Names.{AreNamesMeant}
use Rattle.meaning_states.proofs.Listing.{IsPair, names_of_pair}
use Rattle.meaning_answers.specs.Told as told
use Rattle.meaning_answers.specs.Told.{IsEventTold, IsOfEvent}
use Rattle.meaning_answers.proofs.Events.{events_are_same}
use Rattle.meaning_answers.specs.Graphs.{IsEventDrawn, IsNumberDrawn, IsNumberDrawnOf, AreBoxesSaid, IsClusterSaid}

module _ (t : Test) (s : Space) (lists : ListsExecutions t s) (k : ℕ) (y : Execution)
    (pair : IsPair t s lists k y) where
  abbrev content : Content
  content = content_of t

  abbrev es : List Event
  es = named_events content y.runs

  abbrev one : Candidate
  one = pair.one

  abbrev ns : List numbered_event.Event
  ns = one.0.events.items

  alike : AllZip (IsSameEvent content y) ns es
  alike = (events_are_same t s lists k y pair).alike

  once : (m n : ℕ) (e : Event) → IsNumbered es m e → IsNumbered es n e → m ≡ n
  once = named_once content y.runs

  named : AreNamesMeant content y one
  named = names_of_pair t s lists k y pair

  -- ---- which events are drawn

  module _ (ends : List ℕ) where
    -- an initial store that a load reads has its number among those that are read
    among : (n : ℕ) (e : Event) → IsNumbered es n e → (thread : Option ℕ)
        → thread ≡ thread_of_event e → IsAmongIfInitial thread (one.1.0 ++ ends) n
        → IsEventDrawn y ends n e
    among n (Does u i) at thread is h = tt
    among n (Initial l) at thread is h =
        by
        (Contains-append_cases one.1.0 ends n
        (subst (λ (o : Option ℕ). IsAmongIfInitial o (one.1.0 ++ ends) n) is h))
      where
        by : Contains one.1.0 n ⊎ Contains ends n → IsEventDrawn y ends n (Initial l)
        by (inl c) =
            let read = left_there (IsNumbered es) pair.execution.reads_from y.reads_from pair.same.reads_from n (subst (λ (xs : List ℕ). Contains xs n) pair.shows.reads_from c) in
            inl
            (subst (λ (e : Event). Contains y.reads_from e) (same_Some _ _ (sym read.2 ∙ at)) read.1)
        by (inr c) = inr c

    named_among : (n : ℕ) (e : Event) → IsNumbered es n e → (thread : Option ℕ)
        → thread ≡ thread_of_event e → IsEventDrawn y ends n e
        → IsAmongIfInitial thread (one.1.0 ++ ends) n
    named_among n (Does u i) at thread is h =
        subst (λ (o : Option ℕ). IsAmongIfInitial o (one.1.0 ++ ends) n) (sym is) tt
    named_among n (Initial l) at thread is h =
        subst (λ (o : Option ℕ). IsAmongIfInitial o (one.1.0 ++ ends) n) (sym is) (by h)
      where
        by : Contains y.reads_from (Initial l) ⊎ Contains ends n → Contains (one.1.0 ++ ends) n
        by (inl c) =
            let read = right_there (IsNumbered es) pair.execution.reads_from y.reads_from pair.same.reads_from (Initial l) c in
            Contains-append_left one.1.0 ends n
            (subst (λ (xs : List ℕ). Contains xs n) (sym pair.shows.reads_from)
            (subst (λ (m : ℕ). Contains pair.execution.reads_from m)
            (once read.0 n (Initial l) read.2 at) read.1))
        by (inr c) = Contains-append_right one.1.0 ends n c

    pub drawn_alike : (n : ℕ) → IsDrawnIn one ends n ↔ IsNumberDrawn content y ends n
    drawn_alike n = (
      λ (event, at, h).
          let e = at_left (IsSameEvent content y) ns es alike n event at in
          (e.0, e.1, among n e.0 e.1 event.thread (e.2).thread h),
      λ (e, at, h).
          let event = at_right (IsSameEvent content y) ns es alike n e at in
          (event.0, event.1, named_among n e at event.0.thread (event.2).thread h),
    )

    -- ---- boxes

    module _ (scene : Scene) (of : scene.events ≡ ns) where
      box_told : (box : ToldEvent) → IsBox scene box → IsOfEvent content y box
      box_told box h =
          let e = at_left (IsSameEvent content y) ns es alike box.number box.event
          (subst (λ (ds : List numbered_event.Event). slice_get ds box.number ≡ Some box.event) of h.event) in
          (e.0, record { number = e.1; same = e.2 })

      boxed_alike : (thread : Option ℕ) (n : ℕ)
          → IsBoxed scene.events (IsDrawnIn one ends) thread n ↔ IsNumberDrawnOf content y ends thread n
      boxed_alike thread n = (
        λ ((event, at, is), h).
            let e = at_left (IsSameEvent content y) ns es alike n event
            (subst (λ (ds : List numbered_event.Event). slice_get ds n ≡ Some event) of at) in
            let d : IsNumberDrawn content y ends n = (drawn_alike n).0 h in
            (d.0, d.1, thread_is event thread is e.0 e.1 (e.2).thread d.0 d.1, d.2),
        λ (e, at, is, h).
            let event = at_right (IsSameEvent content y) ns es alike n e at in (
              (
                event.0,
                subst (λ (ds : List numbered_event.Event). slice_get ds n ≡ Some event.0) (sym of)
                    event.1,
                (event.2).thread ∙ is,
              ),
              (drawn_alike n).1 (e, at, h),
            ),
      )
        where
          thread_is : (event : numbered_event.Event) (u : Option ℕ) → event.thread ≡ u
              → (e : Event) → IsNumbered es n e → event.thread ≡ thread_of_event e → (d : Event)
              → IsNumbered es n d → thread_of_event d ≡ u
          thread_is event u is e at same d there =
              ap thread_of_event (same_Some _ _ (sym there ∙ at)) ∙ (sym same ∙ is)

      pub boxes_said : (thread : Option ℕ) (boxes : List ToldEvent)
          → AreBoxesOf scene (IsDrawnIn one ends) thread boxes
          → AreBoxesSaid content y ends thread boxes
      boxes_said thread boxes h = record {
        rising = h.rising;
        each = λ i d lt. box_told _ (h.each i d lt);
        exact = λ n. (
          λ c. (boxed_alike thread n).0 ((h.exact n).0 c),
          λ b. (h.exact n).1 ((boxed_alike thread n).1 b),
        );
      }

      pub cluster_said : (thread : ℕ) (c : Cluster) → IsCluster scene (IsDrawnIn one ends) thread c
          → IsClusterSaid content y ends thread c
      cluster_said thread c h = record {
        thread_is = h.number;
        events = boxes_said (Some thread) c.events.items h.boxes;
      }

  -- ---- predefined relations

  pub language_alike : (p : Predefined) (m n : ℕ)
      → PairsOfName one p m n ↔ told.IsPair content y (PairsOf content y p) m n
  language_alike p m n = (
    λ h. (named.relations p).by_name m n h,
    λ (a, b, at, there, h).
        let by = (named.relations p).by_number a b h in
        subst (λ (i : ℕ). PairsOfName one p i n) (once by.0 m a by.2 at)
        (subst (λ (i : ℕ). PairsOfName one p by.0 i) (once by.1 n b by.3 there) by.4),
  )
