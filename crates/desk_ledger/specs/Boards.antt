-- The cells of a board. Read this file first, then Held and Posts.
use Rattle.std.specs.Prelude.{◌≡◌, ℕ, suc, zero, ◌<◌, ◌≤◌, ◌⊎◌, List, [], ◌∷◌, Option, Some, None, IsSome, slice_get}
use Rattle.memo_core.specs.Graph.{Net}
use Rattle.memo_core.specs.Run.{Bench}
use Rattle.memo_core.specs.declared.keys.Node.{Node}
use Rattle.memo_core.specs.Step.{Has}
use Rattle.cells.specs.Cells.{Cells, IsSettledCell, StandsOn}

-- a cell of a board: the names of its test and of its model, and its outcome where it is settled
pub record BoardCell (O : Type 0) : Type 0 where
  pub test : List ℕ
  pub model : List ℕ
  pub outcome : Option O

abbrev pub open_of : {O : Type 0} → List ℕ → List ℕ → BoardCell O
open_of test model = record { test = test; model = model; outcome = None }

abbrev pub settled_with : {O : Type 0} → O → BoardCell O → BoardCell O
settled_with o c = record { test = c.test; model = c.model; outcome = Some o }

-- the cells with that outcome for one of them
abbrev pub with_outcome : {O : Type 0} → ℕ → O → List (BoardCell O) → List (BoardCell O)
with_outcome i o [] = []
with_outcome zero o (c ∷ cs) = settled_with o c ∷ cs
with_outcome (suc i) o (c ∷ cs) = c ∷ with_outcome i o cs

-- the cell of a test and a model is among these, and settled
pub record IsSettledOn {O : Type 0} (cells : List (BoardCell O)) (test model : List ℕ)
    : Type 0 where
  pub index : ℕ
  pub cell : BoardCell O
  pub there : slice_get cells index ≡ Some cell
  pub test_is : cell.test ≡ test
  pub model_is : cell.model ≡ model
  pub settled : IsSome cell.outcome

-- the cell at the index has this verdict
abbrev pub HasVerdictAt : {O : Type 0} → (List ℕ → List ℕ → Option Node) → List (BoardCell O) → ℕ
    → Node → Type 0
HasVerdictAt {O} verdict_of cells index n =
    (c : BoardCell O) × (slice_get cells index ≡ Some c) × (verdict_of c.test c.model ≡ Some n)

-- the cell at the index is settled, or has no verdict
abbrev pub HasNoneToPost : {O : Type 0} → (List ℕ → List ℕ → Option Node) → List (BoardCell O) → ℕ
    → Type 0
HasNoneToPost {O} verdict_of cells index =
    (c : BoardCell O) → slice_get cells index ≡ Some c
    → IsSome c.outcome ⊎ (verdict_of c.test c.model ≡ None)

-- every cell is settled
abbrev pub AreSettled : {O : Type 0} → List (BoardCell O) → Type 0
AreSettled {O} cells =
    (index : ℕ) (cell : BoardCell O) → slice_get cells index ≡ Some cell → IsSome cell.outcome

-- each cell that is settled on the bench is settled among these
abbrev pub ArePosted : {T E V G O : Type 0} → (T → Net G) → Cells T E V O → Bench T V
    → List (BoardCell O) → Type 0
ArePosted {T} {E} {V} {G} {O} net of bench cells =
    (test model : List ℕ) (o : O) → IsSettledCell net of bench test model o
    → IsSettledOn cells test model

-- a cell of these names is among these, at an index of the range
pub record IsListedWithin {O : Type 0} (cells : List (BoardCell O)) (first end : ℕ)
    (test model : List ℕ) : Type 0 where
  pub index : ℕ
  pub from_first : first ≤ index
  pub before_end : index < end
  pub cell : BoardCell O
  pub there : slice_get cells index ≡ Some cell
  pub test_is : cell.test ≡ test
  pub model_is : cell.model ≡ model

-- the cells whose verdicts stand on the node are among these, at indexes of the range
abbrev pub HoldsAbove : {G O : Type 0} → Net G → (List ℕ → List ℕ → Option Node) → Node
    → List (BoardCell O) → (first end : ℕ) → Type 0
HoldsAbove net verdict_of node cells first end =
    (test model : List ℕ) (verdict : Node) → verdict_of test model ≡ Some verdict
    → StandsOn net verdict node → IsListedWithin cells first end test model

-- so it is for each cell, where no node is given
abbrev pub HoldsFor : {G O : Type 0} → Net G → (List ℕ → List ℕ → Option Node) → Option Node
    → List (BoardCell O) → (first end : ℕ) → Type 0
HoldsFor net verdict_of None cells first end =
    (test model : List ℕ) (verdict : Node) → verdict_of test model ≡ Some verdict
    → IsListedWithin cells first end test model
HoldsFor net verdict_of (Some node) cells first end = HoldsAbove net verdict_of node cells first end

-- each cell whose verdict stands on the node, and that is settled on the bench, is settled among
-- these
abbrev pub ArePostedAbove : {T E V G O : Type 0} → (T → Net G) → Cells T E V O → Bench T V → Node
    → List (BoardCell O) → Type 0
ArePostedAbove {T} {E} {V} {G} {O} net of bench node cells =
    (test model : List ℕ) (o : O) (s : IsSettledCell net of bench test model o)
    → StandsOn (net bench.texts) s.verdict node → IsSettledOn cells test model

-- so it is for each cell, where no node is given
abbrev pub ArePostedFor : {T E V G O : Type 0} → (T → Net G) → Cells T E V O → Bench T V
    → Option Node → List (BoardCell O) → Type 0
ArePostedFor net of bench None cells = ArePosted net of bench cells
ArePostedFor net of bench (Some node) cells = ArePostedAbove net of bench node cells

-- each cell that is settled on the bench is settled among these, or its verdict stands on the node
abbrev pub ArePostedBut : {T E V G O : Type 0} → (T → Net G) → Cells T E V O → Bench T V → Node
    → List (BoardCell O) → Type 0
ArePostedBut {T} {E} {V} {G} {O} net of bench node cells =
    (test model : List ℕ) (o : O) (s : IsSettledCell net of bench test model o)
    → IsSettledOn cells test model ⊎ StandsOn (net bench.texts) s.verdict node

-- ---- edits

-- the verdict is the node that it was and stands on none of these nodes, and the cell is settled
-- where it was
pub record IsCellLeft {G O : Type 0} (net : Net G) (before : List ℕ → List ℕ → Option Node)
    (touched : List Node) (old new : List (BoardCell O)) (test model : List ℕ) (verdict : Node)
    : Type 0 where
  pub was : before test model ≡ Some verdict
  pub apart : (n : Node) → Has touched n → StandsOn net verdict n → ⊥
  pub shown : IsSettledOn old test model → IsSettledOn new test model

-- each cell is among the new ones, at an index of the range, or is left so
abbrev pub LeavesCells : {G O : Type 0} → Net G → (before now : List ℕ → List ℕ → Option Node)
    → (touched : List Node) → (old new : List (BoardCell O)) → (first end : ℕ) → Type 0
LeavesCells net before now touched old new first end =
    (test model : List ℕ) (verdict : Node) → now test model ≡ Some verdict
    → IsListedWithin new first end test model
    ⊎ IsCellLeft net before touched old new test model verdict

-- each cell that is settled on the bench is settled among these, or at an index of the range
abbrev pub ArePostedOutside : {T E V G O : Type 0} → (T → Net G) → Cells T E V O → Bench T V
    → (first end : ℕ) → List (BoardCell O) → Type 0
ArePostedOutside {T} {E} {V} {G} {O} net of bench first end cells =
    (test model : List ℕ) (o : O) → IsSettledCell net of bench test model o
    → IsSettledOn cells test model ⊎ IsListedWithin cells first end test model

-- ---- settled cells that are appended

-- the later cell is of the same test and model, and settled where the earlier one was
pub record IsCellKept {O : Type 0} (c d : BoardCell O) : Type 0 where
  pub test : d.test ≡ c.test
  pub model : d.model ≡ c.model
  pub outcome : IsSome c.outcome → IsSome d.outcome

-- each cell stands at its index, and what was settled is so
abbrev pub AreCellsKept : {O : Type 0} → (old new : List (BoardCell O)) → Type 0
AreCellsKept {O} old new =
    (index : ℕ) (c : BoardCell O) → slice_get old index ≡ Some c
    → (d : BoardCell O) × (slice_get new index ≡ Some d) × IsCellKept c d
