-- Why a check refuses a candidate of a space.
use Rattle.std.specs.Prelude.{ℕ, ◌≡◌, List, Option, Some, slice_get}
use denote.Ref.{Bor}
use Rattle.binding_graph.specs.declared.resolved.CheckCode.{CheckCode}
use Rattle.candidate_spaces.specs.declared.candidate.Space.{Space}
use Rattle.candidate_spaces.specs.Space.{candidates_in, Candidate}
use Rattle.cat_machine.specs.declared.column.Column.{Column}
use Rattle.cat_machine.specs.Executions.{events_of, EventsAt, PairsAt}
use Rattle.why_witness.specs.declared.witness.Witness.{Witness}
use Rattle.why_witness.specs.Values.{AreValues}
use Rattle.why_witness.specs.Witnesses.{AreSameWitnesses, IsExplained, IsExpression}

-- Where the column has the values of the check's expression over a space: why the check refuses the
-- candidate of this number, by the meaning of the expression there; or that it does not.
abbrev pub IsWitness : CheckCode → Column → ℕ → Option Witness → Type 0
IsWitness check values k found =
    (space : Space) (inputs : List (Bor Column)) (one : Candidate)
    → AreValues check.code inputs space values
    → slice_get (candidates_in space.combinations.items) k ≡ Some one
    → IsExplained check (events_of one) (EventsAt (events_of one) one inputs k)
    (PairsAt (events_of one) one inputs k) check.code.kind found

-- the check of an expression refuses the candidate of number k for one reason, or not at all
abbrev pub HasOneWitness : CheckCode → Column → ℕ → Type 0
HasOneWitness check values k =
    (space : Space) (inputs : List (Bor Column)) (one : Candidate)
    → IsExpression check.code.kind check.code.steps.items → AreValues check.code inputs space values
    → slice_get (candidates_in space.combinations.items) k ≡ Some one
    → (f g : Option Witness) → IsWitness check values k f → IsWitness check values k g
    → AreSameWitnesses f g
