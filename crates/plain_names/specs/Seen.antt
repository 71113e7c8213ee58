-- The events of runs, as the code lists them. Read next: Members.
use Rattle.std.specs.Prelude.{◌≡◌, ◌↔◌, List, map, All, Contains}
use Rattle.text_values.specs.TestValue.{Content}
use Rattle.meaning.specs.Sets.{IsListOf}
use Rattle.meaning.specs.Executions.{Event, Action, Execution, HasAction, IsEvent, loads_in}
use Rattle.plain_events.specs.declared.event.Event as code
use Rattle.plain_events.specs.Events.{event_as, action_as}
use Rattle.plain_names.specs.declared.seen.Seen.{Seen}
use Rattle.plain_names.specs.declared.seen.Shown.{Shown}

abbrev pub seen_event : Seen → code.Event
seen_event s = s.event

-- the events of the list
abbrev pub seen_events : List Seen → List Event
seen_events seen = map event_as (map seen_event seen)

-- The event does this, and nothing else.
abbrev pub IsSeenAs : Content → Execution → Seen → Type 0
IsSeenAs t x s = (a : Action) → (action_as s.action ≡ a) ↔ HasAction t x (event_as s.event) a

-- The list has those of these events that are events of the execution, each with what it does.
pub record AreSeenAmong (all : List Event) (t : Content) (x : Execution) (seen : List Seen)
    : Type 0 where
  pub listed : IsListOf (λ e. Contains all e × IsEvent t x e) (seen_events seen)
  pub actions : All (IsSeenAs t x) seen

-- The list has the events of the execution, likewise.
pub record AreSeen (t : Content) (x : Execution) (seen : List Seen) : Type 0 where
  pub listed : IsListOf (IsEvent t x) (seen_events seen)
  pub actions : All (IsSeenAs t x) seen

-- The lists have the events of the execution, and its loads in the order of the runs.
pub record IsLookedAt (t : Content) (x : Execution) (s : Shown) : Type 0 where
  pub seen : AreSeen t x s.seen.items
  pub loads : map event_as s.loads.items ≡ loads_in 0 x.runs
