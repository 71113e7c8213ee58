-- Events by their numbers.
use Rattle.std.proofs.Common.{ℕ, ◌<◌, ◌↔◌, List, length, get_or}
use Rattle.std.proofs.lemmas.Option.{slice_get-get_or, get_or_from_slice_get}
use Rattle.store_orders.specs.declared.combination.Event.{Event}
use Rattle.predefined_names.specs.declared.predefined.Predefined.{Predefined}
use Rattle.predefined_names.specs.declared.predefined.Predefined.TheVariants as names
use Rattle.base_names.specs.Events.{At, ProgramOrder, Linked, Links}

pub at_number : (events : List Event) (S : Event → Type 0) (a : ℕ) (d : Event) → a < length events
    → At events S a ↔ S (get_or events a d)
at_number events S a d inside = (
  (λ h. rw (get_or_from_slice_get events a h.0 d h.1) h.2),
  (λ s. (get_or events a d, slice_get-get_or events a d inside, s)),
)

pub links_at : (events : List Event) (name : Predefined) (a b : ℕ) (d d' : Event)
    → a < length events → b < length events
    → Links events name a b ↔ Linked name a (get_or events a d) b (get_or events b d')
links_at events name a b d d' inside inside' = (
  (λ h. rw (get_or_from_slice_get events a h.0 d h.2, get_or_from_slice_get events b h.1 d' h.3)
      h.4),
  (λ l. (
    get_or events a d,
    get_or events b d',
    slice_get-get_or events a d inside,
    slice_get-get_or events b d' inside',
    l,
  )),
)

pub in_order : (events : List Event) (a b : ℕ) (d d' : Event) → a < length events
    → b < length events
    → Linked names.ProgramOrder a (get_or events a d) b (get_or events b d')
    ↔ ProgramOrder events a b
in_order events a b d d' inside inside' = (
  (λ l. (
    l.0,
    (
      get_or events a d,
      get_or events b d',
      slice_get-get_or events a d inside,
      slice_get-get_or events b d' inside',
      l.1,
    ),
  )),
  (λ h. (
    h.0,
    rw (
      get_or_from_slice_get events a h.1.0 d h.1.2,
      get_or_from_slice_get events b h.1.1 d' h.1.3,
    ) h.1.4,
  )),
)
