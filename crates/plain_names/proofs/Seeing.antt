-- The events of runs, as a list.
use Rattle.std.proofs.Common.{◌≡◌, ◌↔◌, inl, inr, List, [], ◌∷◌, ◌++◌, map, Contains, refl, sym, ap, ◌∙◌}
use Rattle.std.specs.Prelude.{Option, Some, None, option_map}
use Rattle.std.proofs.lemmas.List.{map-append}
use Rattle.std.proofs.lemmas.Option.{same_Some, none-some}
use Rattle.text_values.specs.TestValue.{Content}
use Rattle.meaning.specs.Sets.{IsListOf}
use Rattle.meaning.specs.Names.{locations}
use Rattle.meaning.specs.Executions.{Event, Action, Execution, HasAction, IsEvent}
use Rattle.plain_runs.specs.Keeping.{PutsIf}
use Rattle.plain_runs.proofs.Listing.{listed_as}
use Rattle.plain_events.specs.declared.event.Event as code
use Rattle.plain_events.specs.declared.event.Action as actions
use Rattle.plain_events.specs.Events.{event_as, action_as, IsNode, IsActionOfEvent}
use Rattle.plain_events.proofs.Doing.{node_of, same_action}
use Rattle.plain_names.specs.declared.seen.Seen.{Seen}
use Rattle.plain_names.specs.Seen.{seen_event, seen_events, AreSeen, AreSeenAmong}

module _ (t : Content) (x : Execution) (e : code.Event) (found : Option actions.Action)
    (does : IsActionOfEvent t x.runs (event_as e) found) where
  pub seen_as : (a : actions.Action) → found ≡ Some a → (b : Action)
      → (action_as a ≡ b) ↔ HasAction t x (event_as e) b
  seen_as a is b = (
    (λ same. (same_action t x (event_as e) b).0 ((does b).0 (at ∙ ap (λ (c : Action). Some c) same))),
    λ has. same_Some (action_as a) b (sym at ∙ (does b).1 ((same_action t x (event_as e) b).1 has)),
  )
    where
      at : option_map action_as found ≡ Some (action_as a)
      at = ap (λ (o : Option actions.Action). option_map action_as o) is

  pub is_event : (a : actions.Action) → found ≡ Some a → IsEvent t x (event_as e)
  is_event a is = (action_as a, (seen_as a is (action_as a)).0 refl)

  pub no_event : found ≡ None → IsEvent t x (event_as e) → ⊥
  no_event is (a, has) =
      none-some a
      (sym (ap (λ (o : Option actions.Action). option_map action_as o) is)
      ∙ (does a).1 ((same_action t x (event_as e) a).1 has))

  pub puts_event : (a : actions.Action) (s : Seen) (old new : List Seen) → found ≡ Some a
      → s.event ≡ e → new ≡ old ++ s ∷ []
      → PutsIf (IsEvent t x (event_as e)) (event_as e) (seen_events old) (seen_events new)
  puts_event a s old new is at pushed =
      inl (
        is_event a is,
        ap seen_events pushed
            ∙ ap (λ (l : List code.Event). map event_as l) (map-append seen_event old (s ∷ []))
            ∙ map-append event_as (map seen_event old) (s.event ∷ [])
            ∙ ap (λ (c : code.Event). seen_events old ++ event_as c ∷ []) at,
      )

  pub puts_nothing : (old : List Seen) → found ≡ None
      → PutsIf (IsEvent t x (event_as e)) (event_as e) (seen_events old) (seen_events old)
  puts_nothing old is = inr (no_event is, refl)

module _ (t : Content) (x : Execution) (nodes : List Event)
    (listed : IsListOf (IsNode (locations t) x.runs) nodes) where
  event_node : (e : Event) → IsEvent t x e → Contains nodes e
  event_node e (a, has) =
      (listed.exact e).1 (node_of t x.runs e a ((same_action t x e a).1 has))

  pub all_seen : (seen : List Seen) → AreSeenAmong nodes t x seen → AreSeen t x seen
  all_seen seen are = record {
    listed = listed_as (λ e. Contains nodes e × IsEvent t x e) (IsEvent t x) (seen_events seen)
        (λ e. ((λ is. is.1), λ is. (event_node e is, is))) are.listed;
    actions = are.actions;
  }
