-- The steps that are told lead over events of the execution.
use Rattle.std.proofs.Common.{ℕ, zero, suc, ◌≡◌, ◌<◌, ◌+◌, ◌⊎◌, inl, inr, List, [], ◌∷◌, ◌++◌, map, length, get_or, All, Option, Some, None, refl, sym, ap, subst, ◌∙◌, arith}
use Rattle.std.specs.Prelude.{slice_get}
use Rattle.std.specs.List.{AllZip, AllByRecursion}
use Rattle.std.proofs.lemmas.Option.{get_or_from_slice_get, slice_get_within}
use Rattle.text_values.specs.ModelValue.{Clause}
use Rattle.text_values.specs.TestValue.{Content}
use Rattle.bit_rows.specs.Relation.{Has}
use Rattle.relation_cycles.specs.Cycles.{Path, IsPathFrom}
use Rattle.binding_graph.specs.declared.resolved.Code.{Code}
use Rattle.candidate_spaces.specs.Space.{Candidate}
use Rattle.cat_machine.specs.Executions.{events_of}
use Rattle.from_scratch.proofs.Knowing.{item_at}
use Rattle.why_walks.specs.declared.factor.Repeats.{Repeats}
use Rattle.why_walks.specs.declared.factor.Repeats.TheVariants as repeats
use Rattle.why_walks.specs.declared.run.Link.{Link}
use Rattle.why_walks.specs.declared.value.FactorValues.{FactorValues}
use Rattle.why_walks.specs.Values.{IsOn, IsLinkAt, AreLinksAt}
use Rattle.why_walks.specs.Walks.{IsFactorRun, IsWalk}
use Rattle.why_text.specs.declared.reason.ToldStep.{ToldStep}
use Rattle.why_forbidden.specs.Labels.{Judgement, IsStepLabel}
use Rattle.why_forbidden.specs.Steps.{StepStart, StepLeg, IsToldStep, start_at, starts_at, starts_through, next_event, leg_from, legs_to, pair_of}
use Rattle.meaning.specs.Sets.{Relation}
use Rattle.meaning.specs.Executions.{Event, Execution}
use Rattle.meaning_executions.specs.Names.{AreNamesMeant}
use Rattle.meaning_executions.proofs.Lists.{as_long}
use Rattle.meaning_answers.specs.Told.{IsPair, IsLabel, AreStepsOver}
use Rattle.meaning_answers.proofs.Carried.{event_at, pair_there}

pub long_legs : (starts : List StepStart) (end : ℕ) → length (legs_to starts end) ≡ length starts
long_legs [] end = refl
long_legs (s ∷ ss) end = ap suc (long_legs ss end)

-- ---- the steps of a walk, among the numbers below n

module _ (P : ℕ → ℕ → Type 0) where
  abbrev pub LegIs : StepLeg → Type 0
  LegIs leg = P leg.from leg.to

  abbrev pub LegsAre : List StepStart → ℕ → Type 0
  LegsAre starts end = AllByRecursion LegIs (legs_to starts end)

  -- the steps of a path
  pub path_legs : (code : Code) (Q : ℕ → ℕ → Type 0) → ((a b : ℕ) → Q a b → P a b) → (x : ℕ)
      (xs : List ℕ) (end : ℕ) → Path Q x xs end → LegsAre (starts_at code (x ∷ xs)) end
  path_legs code Q to x [] end h = (to x end h, tt)
  path_legs code Q to x (c ∷ cs) end h = (to x c h.0, path_legs code Q to c cs end h.1)

  -- the steps of a path to where the rest begins
  path_before : (code : Code) (Q : ℕ → ℕ → Type 0) → ((a b : ℕ) → Q a b → P a b)
      → (rest : List StepStart) (end : ℕ) → LegsAre rest end → (x : ℕ) (xs : List ℕ)
      → Path Q x xs (next_event rest end) → LegsAre (starts_at code (x ∷ xs) ++ rest) end
  path_before code Q to rest end after x [] h = (to x (next_event rest end) h, after)
  path_before code Q to rest end after x (c ∷ cs) h =
      (to x c h.0, path_before code Q to rest end after c cs h.1)

  abbrev LeadsOn : List StepStart → ℕ → ℕ → Type 0
  LeadsOn starts end a = LegsAre starts end × (next_event starts end ≡ a)

  step_before : (code : Code) (Q : ℕ → ℕ → Type 0) → ((a b : ℕ) → Q a b → P a b)
      → (rest : List StepStart) (end a : ℕ) (run : List ℕ) → LegsAre rest end → run ≡ a ∷ []
      → Q a (next_event rest end) → LeadsOn (starts_at code run ++ rest) end a
  step_before code Q to rest end a run after is q =
      subst (λ (xs : List ℕ). LeadsOn (starts_at code xs ++ rest) end a) (sym is)
      ((to a (next_event rest end) q, after), refl)

  stay_before : (code : Code) (rest : List StepStart) (end a c : ℕ) (run : List ℕ)
      → LeadsOn rest end c → run ≡ [] → a ≡ c → LeadsOn (starts_at code run ++ rest) end a
  stay_before code rest end a c run after is same =
      subst (λ (xs : List ℕ). LeadsOn (starts_at code xs ++ rest) end a) (sym is)
      (after.0, after.1 ∙ sym same)

  walk_before : (code : Code) (Q : ℕ → ℕ → Type 0) → ((a b : ℕ) → Q a b → P a b)
      → (rest : List StepStart) (end a : ℕ) (run : List ℕ) → LegsAre rest end
      → IsPathFrom Q a (next_event rest end) run → LeadsOn (starts_at code run ++ rest) end a
  walk_before code Q to rest end a [] after h = absurd h
  walk_before code Q to rest end a (x ∷ xs) after h =
      (path_before code Q to rest end after x xs h.1, h.0)

  run_before : (code : Code) (Q : ℕ → ℕ → Type 0) → ((a b : ℕ) → Q a b → P a b)
      → (how : Repeats) (rest : List StepStart) (end a c : ℕ) (run : List ℕ)
      → LeadsOn rest end c → IsFactorRun how Q a run c
      → LeadsOn (starts_at code run ++ rest) end a
  run_before code Q to how rest end a c run after h =
      by how (subst (λ (d : ℕ). IsFactorRun how Q a run d) (sym after.1) h)
    where
      by : (r : Repeats) → IsFactorRun r Q a run (next_event rest end)
          → LeadsOn (starts_at code run ++ rest) end a
      by repeats.Once one = step_before code Q to rest end a run after.0 one.0 one.1
      by repeats.AtMostOnce (inl stay) =
          stay_before code rest end a (next_event rest end) run (after.0, refl) stay.0 stay.1
      by repeats.AtMostOnce (inr one) =
          step_before code Q to rest end a run after.0 one.0 one.1
      by repeats.OnceOrMore path = walk_before code Q to rest end a run after.0 path
      by repeats.AnyNumber (inl stay) =
          stay_before code rest end a (next_event rest end) run (after.0, refl) stay.0 stay.1
      by repeats.AnyNumber (inr path) = walk_before code Q to rest end a run after.0 path

  walk_leads : (links : List Link) (factors : List FactorValues) (runs : List (List ℕ)) (a end : ℕ)
      → length links ≡ length factors
      → ((i : ℕ) (l : Link) → slice_get links i ≡ Some l → (b c : ℕ) → Has l.relation b c → P b c)
      → IsWalk links a runs end → LeadsOn (starts_through factors runs) end a
  walk_leads [] [] [] a end long to h = (tt, sym h)
  walk_leads [] (f ∷ fs) runs a end long to h = absurd (omega (arith, long))
  walk_leads [] [] (run ∷ runs) a end long to h = absurd h
  walk_leads (l ∷ ls) [] runs a end long to h = absurd (omega (arith, long))
  walk_leads (l ∷ ls) (f ∷ fs) [] a end long to h = absurd h
  walk_leads (l ∷ ls) (f ∷ fs) (run ∷ runs) a end long to (c, first, next) =
      run_before f.code (Has l.relation) (to 0 l refl) l.repeats (starts_through fs runs) end a c run
      (walk_leads ls fs runs c end (omega (arith, long)) (λ i m e. to (suc i) m e) next) first

-- the steps of a walk through the factors are among the events
abbrev BothBelow : ℕ → ℕ → ℕ → Type 0
BothBelow n a b = (a < n) × (b < n)

pub walk_back : (k n : ℕ) (links : List Link) (factors : List FactorValues) (runs : List (List ℕ))
    (event : ℕ) → AreLinksAt k factors links → All (λ f. IsOn k n f.values) factors
    → IsWalk links event runs event
    → LegsAre (λ a b. (a < n) × (b < n)) (starts_through factors runs) event
    × (next_event (starts_through factors runs) event ≡ event)
walk_back k n links factors runs event linked on walk =
    walk_leads (BothBelow n) links factors runs event event linked.as_many to walk
  where
    to : (i : ℕ) (l : Link) → slice_get links i ≡ Some l → (b c : ℕ) → Has l.relation b c
        → BothBelow n b c
    to i l e b c has =
        let lt : i < length factors =
        (let less = slice_get_within links i l e in
        let as_many : length links ≡ length factors = linked.as_many in omega (arith, less, as_many)) in
        let f = item_at factors i lt in
        let link : IsLinkAt k (get_or factors i f.0) l =
        subst (λ (m : Link). IsLinkAt k (get_or factors i f.0) m)
        (get_or_from_slice_get links i l l e) (linked.each i lt f.0 l) in
        let count : l.relation.count ≡ n = link.count n (on i f.0 lt) in
        let within : _ = link.regular.within b c has in (
          subst (λ (m : ℕ). b < m) count within.0,
          subst (λ (m : ℕ). c < m) count within.1,
        )

-- ---- by name

module _ (t : Content) (y : Execution) (one : Candidate) (named : AreNamesMeant t y one)
    (items : List Clause) (j : Judgement) (item k : ℕ) where
  abbrev at : ℕ → Event
  at n = event_at t y one named n

  -- labels name relations that relate the events
  abbrev pub LabelsAreSaid : Type 0
  LabelsAreSaid =
      (leg : StepLeg) (text : List ℕ) → leg.from < events_of one → leg.to < events_of one
      → IsStepLabel j item leg.code (pair_of k leg) text
      → IsLabel t y items (at leg.from) (at leg.to) text

  module _ (said : LabelsAreSaid) (R : Relation Event) where
    -- the two numbers are those of events that are related
    abbrev pub AreRelated : ℕ → ℕ → Type 0
    AreRelated a b = (a < events_of one) × (b < events_of one) × R (at a) (at b)

    pub steps_lead : (starts : List StepStart) (end : ℕ) (steps : List ToldStep)
        → LegsAre AreRelated starts end → AllZip (IsToldStep j item k) (legs_to starts end) steps
        → AreStepsOver t y items R (next_event starts end) steps end
    steps_lead [] end [] legs h = refl
    steps_lead [] end (x ∷ steps) legs h = absurd h
    steps_lead (s ∷ ss) end [] legs h = absurd h
    steps_lead (s ∷ ss) end (x ∷ steps) legs h =
        let to : x.to ≡ next_event ss end = (h.0).to in
        let label = said (leg_from s (next_event ss end)) x.label.items legs.0.0 legs.0.1 (h.0).label in (
          subst (λ (n : ℕ). IsPair t y (λ a b. R a b × IsLabel t y items a b x.label.items) s.event n)
              (sym to)
              (pair_there t y one named (λ a b. R a b × IsLabel t y items a b x.label.items) s.event
              (next_event ss end) legs.0.0 legs.0.1 (legs.0.2, label)),
          subst (λ (n : ℕ). AreStepsOver t y items R n steps end) (sym to)
              (steps_lead ss end steps legs.1 h.1),
        )
