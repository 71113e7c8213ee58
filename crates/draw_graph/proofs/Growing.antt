-- The set of the events that are drawn, as it grows.
use Rattle.std.proofs.Common.{ℕ, ◌≡◌, ◌<◌, ◌⊎◌, ◌+◌, ◌++◌, true, false, inl, inr, List, length, refl, sym, subst, ◌∙◌, arith}
use Rattle.std.specs.Prelude.{◌↔◌, Bool, IsTrue, Some, slice_get}
use Rattle.std.specs.List.{Contains}
use Rattle.std.proofs.lemmas.Bool.{cases_eq, false≢true}
use Rattle.std.proofs.lemmas.List.Elements.{Contains-append_left, Contains-append_right, Contains-append_cases}
use Rattle.std.proofs.lemmas.Option.{slice_get_within, same_Some}
use Rattle.bit_rows.specs.Relation.{Events, IsMember, IsEvents}
use Rattle.store_orders.specs.declared.combination.Event.{Event}
use Rattle.draw_graph.specs.Drawn.{IsDrawnEvent, IsAmongIfInitial}

-- the drawn events below a number
abbrev pub DrawnBelow : List Event → List ℕ → ℕ → ℕ → Type 0
DrawnBelow events named i a = (a < i) × IsDrawnEvent events named a

pub grown : (events : List Event) (named : List ℕ) (s t : Events) (n i : ℕ) → i < n
    → IsDrawnEvent events named i → IsEvents s n (DrawnBelow events named i)
    → IsEvents t s.count (λ a. IsMember s a ⊎ (a ≡ i))
    → IsEvents t n (DrawnBelow events named (i + 1))
grown events named s t n i lt drawn old new = record {
  count = new.count ∙ old.count;
  within = λ a m. inside a ((new.members a).0 m);
  members = λ a. ((λ m. forth a ((new.members a).0 m)), (λ x. (new.members a).1 (back a x)));
}
  where
    inside : (a : ℕ) → IsMember s a ⊎ (a ≡ i) → a < n
    inside a (inl m) = old.within a m
    inside a (inr e) = omega (arith, e, lt)

    forth : (a : ℕ) → IsMember s a ⊎ (a ≡ i) → DrawnBelow events named (i + 1) a
    forth a (inl m) = let (l, d) = (old.members a).0 m in (omega (arith, l), d)
    forth a (inr e) =
        (omega (arith, e), subst (λ (k : ℕ). IsDrawnEvent events named k) (sym e) drawn)

    back : (a : ℕ) → DrawnBelow events named (i + 1) a → IsMember s a ⊎ (a ≡ i)
    back a x =
        let (l, d) = x in
        elim (cases_eq a i) [
          | inl same ↦ inr same
          | inr ne ↦ inl
              ((old.members a).1 (omega (arith, l, ne), d))
        ]

pub kept : (events : List Event) (named : List ℕ) (s : Events) (n i : ℕ)
    → (IsDrawnEvent events named i → ⊥) → IsEvents s n (DrawnBelow events named i)
    → IsEvents s n (DrawnBelow events named (i + 1))
kept events named s n i none old = record {
  count = old.count;
  within = old.within;
  members =
      λ a. (
        (λ m. let (l, d) = (old.members a).0 m in (omega (arith, l), d)),
        (λ x. (old.members a).1 (sooner a x)),
      );
}
  where
    sooner : (a : ℕ) → DrawnBelow events named (i + 1) a → DrawnBelow events named i a
    sooner a x = let (l, d) = x in elim (cases_eq a i) [
      | inl same ↦ absurd (none (subst (λ (k : ℕ). IsDrawnEvent events named k) same d))
      | inr ne ↦ (omega (arith, l, ne), d)
    ]

pub all_drawn : (events : List Event) (named : List ℕ) (s : Events) (n i : ℕ) → i ≡ length events
    → IsEvents s n (DrawnBelow events named i) → IsEvents s n (IsDrawnEvent events named)
all_drawn events named s n i full old = record {
  count = old.count;
  within = old.within;
  members = λ a. ((λ m. ((old.members a).0 m).1), (λ d. (old.members a).1 (below a d, d)));
}
  where
    below : (a : ℕ) → IsDrawnEvent events named a → a < i
    below a d =
        let (e, is, read) = d in
        let lt : a < length events = slice_get_within events a e is in omega (arith, lt, full)

pub none_below : (events : List Event) (named : List ℕ) (s : Events) (n : ℕ) → IsEvents s n (λ a. ⊥)
    → IsEvents s n (DrawnBelow events named 0)
none_below events named s n old = record {
  count = old.count;
  within = old.within;
  members = λ a. ((λ m. absurd ((old.members a).0 m)), (λ x. absurd (omega (arith, x.0))));
}

pub read_is_among : (reads_from ends : List ℕ) (n : ℕ) (b : Bool) → b ≡ true
    → IsTrue b ↔ Contains reads_from n → IsTrue true ↔ Contains (reads_from ++ ends) n
read_is_among reads_from ends n b is told =
    ((λ t. Contains-append_left reads_from ends n (told.0 is)), (λ c. refl))

pub end_is_among : (reads_from ends : List ℕ) (n : ℕ) (b r : Bool) → b ≡ false
    → IsTrue b ↔ Contains reads_from n → IsTrue r ↔ Contains ends n
    → IsTrue r ↔ Contains (reads_from ++ ends) n
end_is_among reads_from ends n b r is none told = (
  (λ t. Contains-append_right reads_from ends n (told.0 t)),
  (λ c. elim (Contains-append_cases reads_from ends n c) [
    | inl read ↦ absurd
        (false≢true (sym is ∙ none.1 read))
    | inr end ↦ told.1 end
  ]),
)

pub drawn_is : (events : List Event) (named : List ℕ) (i : ℕ) (b : Bool) (e : Event)
    → slice_get events i ≡ Some e → IsTrue b ↔ IsAmongIfInitial e.thread named i
    → IsTrue b ↔ IsDrawnEvent events named i
drawn_is events named i b e at told = (
  (λ t. (e, at, told.0 t)),
  (λ d.
      let (f, is, read) = d in
      told.1 (subst (λ (g : Event). IsAmongIfInitial g.thread named i)
      (sym (same_Some e f (sym at ∙ is))) read)),
)
