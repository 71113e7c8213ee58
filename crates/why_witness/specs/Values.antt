-- The value of an expression in each candidate of a space.
use Rattle.std.specs.Prelude.{ℕ, ◌≡◌, List, [], ◌∷◌, length, Some, slice_get, false, Vec}
use Rattle.std.specs.declared.alloc.Global.{Global}
use denote.Ref.{Bor}
use Rattle.bit_rows.specs.Relation.{Relation, Events}
use Rattle.binding_graph.specs.declared.resolved.Body.{Body}
use Rattle.binding_graph.specs.declared.resolved.Code.{Code}
use Rattle.binding_graph.specs.declared.resolved.Role.{Role}
use Rattle.binding_graph.specs.declared.resolved.Role.TheVariants as roles
use Rattle.candidate_spaces.specs.declared.candidate.Space.{Space}
use Rattle.candidate_spaces.specs.Space.{candidates_in, Candidate}
use Rattle.cat_machine.specs.declared.column.Column.{Column}
use Rattle.cat_machine.specs.Columns.{HasColumnValue}
use Rattle.cat_machine.specs.Executions.{events_of, EventsAt, PairsAt}
use Rattle.cat_machine.specs.Values.{IsFor, IsMeaning, column_len}

-- in the candidate of number k, the column has what the code means, where the names of other items
-- have the values of the inputs
abbrev pub IsValueAt : Code → List (Bor Column) → Column → ℕ → Candidate → Type 0
IsValueAt code inputs column k one =
    (s : Events) × (r : Relation) × HasColumnValue column k s r
    × IsMeaning code.kind code.steps.items (events_of one) (EventsAt (events_of one) one inputs k)
    (PairsAt (events_of one) one inputs k) s r

-- the column has a value of the code's kind for each candidate of the space, and it is what the
-- code means there
pub record AreValues (code : Code) (inputs : List (Bor Column)) (space : Space) (column : Column)
    : Type 0 where
  pub suited : IsFor code.kind column
  pub long : column_len column ≡ length (candidates_in space.combinations.items)
  pub values : (k : ℕ) (one : Candidate)
      → slice_get (candidates_in space.combinations.items) k ≡ Some one
      → IsValueAt code inputs column k one

-- a group of one name, which stands for what the code means
pub record IsGroupOf (code : Code) (role : Role) : Type 0 where
  pub bodies : Vec Body Global
  pub group : role ≡ roles.Group false bodies
  pub body : Body
  pub alone : bodies.items ≡ body ∷ []
  pub kind : body.code.kind ≡ code.kind
  pub steps : body.code.steps.items ≡ code.steps.items
