-- The laws of the reasons that are told: `laws` states them. Read Checked and Steps first.
use Rattle.std.specs.Prelude.{ℕ, ◌≡◌, ◌⊎◌, List, [], ◌∷◌, Some, Vec, slice_get}
use Rattle.std.specs.List.{All}
use Rattle.std.specs.declared.alloc.Global.{Global}
use Rattle.binding_graph.specs.declared.resolved.ResolvedItem.{ResolvedItem}
use Rattle.candidate_spaces.specs.declared.candidate.Space.{Space}
use Rattle.candidate_spaces.specs.Space.{candidates_in, Candidate}
use Rattle.cat_machine.specs.declared.column.Column.{Column}
use Rattle.cat_machine.specs.Executions.{events_of}
use Rattle.why_witness.specs.declared.witness.Witness.{Witness}
use Rattle.why_witness.specs.declared.witness.Witness.TheVariants as shown
use Rattle.why_witness.specs.Refusals.{IsWitness}
use Rattle.why_witness.specs.Witnesses.{IsExpression, IsSame}
use Rattle.why_forbidden.specs.declared.checks.CheckValues.{CheckValues}
use Rattle.why_forbidden.specs.declared.checks.FirstRefusal.{FirstRefusal}
use Rattle.why_forbidden.specs.Checked.{IsChecked, IsFirstRefusal}
use Rattle.why_forbidden.specs.Steps.{AreStepStarts, HasSteps, IsWalkBack, AreStartsBack, StepStart, start_at}

abbrev pub IsOfExpression : CheckValues → Type 0
IsOfExpression c = IsExpression c.check.now.code.kind c.check.now.code.steps.items

-- these are checks among the items, each of an expression, with their values over the space, of
-- which this is the candidate of number k
pub record AreOver (space : Space) (columns : List (Vec Column Global)) (items : List ResolvedItem)
    (checks : List CheckValues) (k : ℕ) (one : Candidate)
    : Type 0 where
  pub checked : All (IsChecked space columns items) checks
  pub expressions : All IsOfExpression checks
  pub at : slice_get (candidates_in space.combinations.items) k ≡ Some one

-- `why` and `draw` tell of a candidate the first check that refuses it, with what shows that it
-- does: there is but one, so both show the same cycle, event or pair
abbrev pub HasOneFirstRefusal : Space → List CheckValues → Type 0
HasOneFirstRefusal space checks =
    (columns : List (Vec Column Global)) (items : List ResolvedItem) (k : ℕ) (one : Candidate)
    → AreOver space columns items checks k one
    → (a b : FirstRefusal) → IsFirstRefusal checks k a → IsFirstRefusal checks k b
    → (a.index ≡ b.index) × IsSame a.witness b.witness

-- where `irreflexive` refuses a candidate for an event, what is told is a walk through the factors
-- back to it, or, where the walk has no step, one step of the whole expression: there always is a
-- walk
abbrev pub HasWalkBack : Space → CheckValues → Type 0
HasWalkBack space check =
    (columns : List (Vec Column Global)) (items : List ResolvedItem) (k : ℕ) (one : Candidate)
    → AreOver space columns items (check ∷ []) k one
    → (event : ℕ) (starts : List StepStart)
    → IsWitness check.check.now check.values k (Some (shown.Reflexive event))
    → AreStartsBack check k (events_of one) event starts
    → HasSteps check k (events_of one) event starts
    ⊎ ((starts ≡ start_at check.check.now.code event ∷ [])
    × IsWalkBack check k (events_of one) event [])

-- the steps that are told of a refusal begin at the same events, and are of the same expressions
abbrev pub HasSameStarts : Space → CheckValues → Type 0
HasSameStarts space check =
    (columns : List (Vec Column Global)) (items : List ResolvedItem) (k : ℕ) (one : Candidate)
    → AreOver space columns items (check ∷ []) k one
    → (v w : Witness) → IsWitness check.check.now check.values k (Some v)
    → IsWitness check.check.now check.values k (Some w)
    → (starts others : List StepStart) → AreStepStarts check k (events_of one) v starts
    → AreStepStarts check k (events_of one) w others → starts ≡ others
