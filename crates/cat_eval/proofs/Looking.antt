-- What is seen under a name is what the name stands for in the candidate.
use Rattle.std.proofs.Common.{ℕ, ◌≡◌, ◌↔◌, inl, inr, zero, suc, List, [], ◌∷◌, Contains, arith, refl}
use Rattle.std.specs.Prelude.{Some, slice_get, map}
use Rattle.predefined_names.specs.declared.predefined.Predefined.{Predefined}
use Rattle.base_names.specs.Candidate.{SetIn, RelationIn}
use Rattle.base_names.proofs.Same.{same_or_not}
use Rattle.candidate_spaces.specs.Space.{Candidate}
use Rattle.cat_machine.specs.declared.seen.NamedColumn.{NamedColumn}
use Rattle.cat_machine.specs.Executions.{events_of}
use Rattle.cat_machine.specs.Seen.{NamedValues, EventsAmong, PairsAmong, EventsNamedBy, PairsNamedBy, value_at, values_seen}
use Rattle.cat_eval.specs.Tables.{StandsFor, AreColumnsFor, column_names}
use Rattle.cat_machine.proofs.Same.{Same, SameSet}
use Rattle.cat_machine.proofs.Seeing.{events_found, pairs_found}

-- what is seen under these names is what they stand for in the candidate
pub record IsSeen (names : List Predefined) (base : NamedValues) (one : Candidate) : Type 0 where
  pub count : base.count ≡ events_of one
  pub events : (name : Predefined) → Contains names name
      → SameSet (EventsNamedBy base name) (SetIn one.0 base.count name)
  pub pairs : (name : Predefined) → Contains names name
      → Same (PairsNamedBy base name) (RelationIn name base.count one.0 one.1.0 one.1.1)

later : (x : NamedColumn) (xs : List NamedColumn) (name : Predefined)
    → Contains (x.name ∷ column_names xs) name → (x.name ≡ name → ⊥)
    → Contains (column_names xs) name
later x xs name (zero, lt, e) ne = absurd (ne e)
later x xs name (suc k, lt, e) ne = (k, omega (arith, lt), e)

module _ (k : ℕ) (one : Candidate) where
  -- each of these stands for its name
  abbrev AreRight : List NamedColumn → Type 0
  AreRight [] = Unit {0}
  AreRight (x ∷ xs) = StandsFor x.column.now k x.name one × AreRight xs

  events_right : (xs : List NamedColumn) (name : Predefined) → AreRight xs
      → Contains (column_names xs) name → (a : ℕ)
      → EventsAmong (map (value_at k) xs) name (events_of one) a
      ↔ SetIn one.0 (events_of one) name a
  events_right [] name right inside a = absurd (omega (arith, inside.1))
  events_right (x ∷ xs) name right inside a = elim (same_or_not x.name name) [
    | inl same ↦
        let found = events_found x.column.now k (events_of one) a in
        let here = right.0.events a in (
          (λ h. elim h [ inl f ↦ rw (← same) (here.0 (found.1 f.1)) | inr g ↦ absurd (g.0 same) ]),
          (λ s. inl (same, found.0 (here.1 (rw same s)))),
        )
    | inr other ↦
        let rest = events_right xs name right.1 (later x xs name inside other) a in (
          (λ h. elim h [ inl f ↦ absurd (other f.0) | inr g ↦ rest.0 g.1 ]),
          (λ s. inr (other, rest.1 s)),
        )
  ]

  pairs_right : (xs : List NamedColumn) (name : Predefined) → AreRight xs
      → Contains (column_names xs) name → (a b : ℕ)
      → PairsAmong (map (value_at k) xs) name (events_of one) a b
      ↔ RelationIn name (events_of one) one.0 one.1.0 one.1.1 a b
  pairs_right [] name right inside a b = absurd (omega (arith, inside.1))
  pairs_right (x ∷ xs) name right inside a b = elim (same_or_not x.name name) [
    | inl same ↦
        let found = pairs_found x.column.now k (events_of one) a b in
        let here = right.0.pairs a b in (
          (λ h. elim h [ inl f ↦ rw (← same) (here.0 (found.1 f.1)) | inr g ↦ absurd (g.0 same) ]),
          (λ s. inl (same, found.0 (here.1 (rw same s)))),
        )
    | inr other ↦
        let rest = pairs_right xs name right.1 (later x xs name inside other) a b in (
          (λ h. elim h [ inl f ↦ absurd (other f.0) | inr g ↦ rest.0 g.1 ]),
          (λ s. inr (other, rest.1 s)),
        )
  ]

  all_right : (xs : List NamedColumn) (cs : List Candidate) → AreColumnsFor xs cs
      → slice_get cs k ≡ Some one → AreRight xs
  all_right [] cs right at = tt
  all_right (x ∷ xs) cs right at = (
    right 0 (omega arith) x k one at,
    all_right xs cs (λ i lt d. right (suc i) (omega (arith, lt)) d) at,
  )

pub seen_right : (xs : List NamedColumn) (cs : List Candidate) → AreColumnsFor xs cs
    → (k : ℕ) (one : Candidate) → slice_get cs k ≡ Some one
    → IsSeen (column_names xs) (values_seen xs k (events_of one)) one
seen_right xs cs right k one at = record {
  count = refl;
  events = λ name inside. events_right k one xs name (all_right k one xs cs right at) inside;
  pairs = λ name inside. pairs_right k one xs name (all_right k one xs cs right at) inside;
}
