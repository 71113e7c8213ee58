-- Read this first: what a cell shows of a bench (`IsCellShown`), and what texts of tests and models
-- owe to a bench of cells.
use Rattle.std.specs.Prelude.{◌≡◌, ℕ, zero, suc, List, Option, Some, None, Bool}
use Rattle.memo_core.specs.declared.keys.Node.{Node}
use Rattle.memo_core.specs.declared.keys.Key.TheVariants.{Output}
use Rattle.memo_core.specs.Graph.{Memo, Net, at, input_nodes, IsSettled}
use Rattle.memo_core.specs.Laws.{IsUsedClosed}
use Rattle.memo_core.specs.Right.{Making, IsSolvedNode, IsUntouchedBy}
use Rattle.memo_core.specs.Run.{Bench}
use Rattle.memo_core.specs.Step.{Has}
use Rattle.cells.specs.declared.shown.Shown.{Shown}
use Rattle.cells.specs.declared.shown.Shown.TheVariants.{Settled, Open, NoCell}

-- ---- nodes

-- the first output of the node has this outcome
pub record Carries {V O : Type 0} (outcome_in : V → Option O) (memos : List (Memo V)) (n : Node)
    (o : O) : Type 0 where
  pub stamp : ℕ
  pub value : V
  pub first : at memos (Output n 0) ≡ Some (stamp, value)
  pub holds : outcome_in value ≡ Some o

-- each settled node that cells use holds what is made of what its job is given now and of the
-- present values of its present inputs, and cells use the nodes that it uses
pub record AreSolved {V G : Type 0} (makes : Making V G) (net : Net G) (memos : List (Memo V))
    : Type 0 where
  pub solved : (n : Node) → Has net.used n → IsSettled net memos n → IsSolvedNode makes net memos n
  pub closed : IsUsedClosed net

-- the second node is the first, or what the first uses, so many steps down
abbrev pub StandsOnBy : {G : Type 0} → ℕ → Net G → Node → Node → Type 0
StandsOnBy zero net n m = n ≡ m
StandsOnBy (suc d) net n m = (k : Node) × Has (input_nodes (net.inputs n)) k × StandsOnBy d net k m

abbrev pub StandsOn : {G : Type 0} → Net G → Node → Node → Type 0
StandsOn net n m = (d : ℕ) × StandsOnBy d net n m

-- the verdict of some cell stands on the node
pub record IsNeededNode {G : Type 0} (net : Net G) (verdict_of : List ℕ → List ℕ → Option Node)
    (n : Node) : Type 0 where
  pub test : List ℕ
  pub model : List ℕ
  pub verdict : Node
  pub is : verdict_of test model ≡ Some verdict
  pub stands : StandsOn net verdict n

-- ---- what texts owe, cited by the trait `CellTexts`

-- where settled nodes hold what is made of the present, a settled verdict holds an outcome of
-- evaluation from nothing
abbrev pub SolvedIsFromScratch : {V G O : Type 0} → Making V G → Net G → (V → Option O)
    → Option Node → (O → Type 0) → Type 0
SolvedIsFromScratch {V} {G} {O} makes net outcome_in verdict from_scratch =
    (memos : List (Memo V)) (n : Node) → AreSolved makes net memos → verdict ≡ Some n
    → IsSettled net memos n → (o : O) × Carries outcome_in memos n o × from_scratch o

abbrev pub UsedIsNeeded : {G : Type 0} → Net G → (List ℕ → List ℕ → Option Node) → Type 0
UsedIsNeeded net verdict_of = (n : Node) → Has net.used n → IsNeededNode net verdict_of n

-- a cell that was there has the same verdict, and nothing that the verdict stands on is touched
abbrev pub UnreachedIsUntouched : {G : Type 0} → (Node → Bool) → Net G → Net G → Option Node
    → Option Node → Type 0
UnreachedIsUntouched keep old new before after =
    (n : Node) → before ≡ Some n → (after ≡ Some n) × ((d : ℕ) → IsUntouchedBy d keep old new n)

-- ---- cells

-- the node is the verdict of some cell
abbrev pub IsVerdict : (List ℕ → List ℕ → Option Node) → Node → Type 0
IsVerdict verdict_of n = (test model : List ℕ) × (verdict_of test model ≡ Some n)

-- what texts say of cells: their verdicts, the outcomes in values, what evaluation from nothing
-- gives, which edits reach them
pub record Cells (T E V O : Type 0) : Type 1 where
  pub verdict_of : T → List ℕ → List ℕ → Option Node
  pub outcome_in : V → Option O
  pub from_scratch : T → List ℕ → List ℕ → O → Type 0
  pub reaches : T → E → T → List ℕ → List ℕ → Type 0

abbrev pub cells : {T E V O : Type 0} → (T → List ℕ → List ℕ → Option Node) → (V → Option O)
    → (T → List ℕ → List ℕ → O → Type 0) → (T → E → T → List ℕ → List ℕ → Type 0) → Cells T E V O
cells verdict_of outcome_in from_scratch reaches =
    record {
      verdict_of = verdict_of;
      outcome_in = outcome_in;
      from_scratch = from_scratch;
      reaches = reaches;
    }

-- the verdict of the cell is settled with this outcome
pub record IsSettledCell {T E V G O : Type 0} (net : T → Net G) (of : Cells T E V O) (b : Bench T V)
    (test model : List ℕ) (o : O) : Type 0 where
  pub verdict : Node
  pub is : of.verdict_of b.texts test model ≡ Some verdict
  pub settled : IsSettled (net b.texts) b.memos verdict
  pub carries : Carries of.outcome_in b.memos verdict o

-- the verdict of the cell is not settled
pub record IsOpenCell {T E V G O : Type 0} (net : T → Net G) (of : Cells T E V O) (b : Bench T V)
    (test model : List ℕ) : Type 0 where
  pub verdict : Node
  pub is : of.verdict_of b.texts test model ≡ Some verdict
  pub unsettled : IsSettled (net b.texts) b.memos verdict → ⊥

-- what is shown of the cell of a test and a model
abbrev pub IsCellShown : {T E V G O : Type 0} → (T → Net G) → Cells T E V O → Bench T V
    → (test model : List ℕ) → Shown O → Type 0
IsCellShown net of b test model (Settled o) = IsSettledCell net of b test model o.now
IsCellShown net of b test model Open = IsOpenCell net of b test model
IsCellShown net of b test model NoCell = of.verdict_of b.texts test model ≡ None

-- an outcome that is shown is what evaluating the present texts from nothing gives
abbrev pub ShowsFromScratch : {T E V O : Type 0} → Cells T E V O → T → (test model : List ℕ)
    → Shown O → Type 0
ShowsFromScratch of t test model (Settled o) = of.from_scratch t test model o.now
ShowsFromScratch of t test model Open = Unit {0}
ShowsFromScratch of t test model NoCell = Unit {0}

-- every node that cells use is settled
abbrev pub AllAreSettled : {T V G : Type 0} → (T → Net G) → Bench T V → Type 0
AllAreSettled net b = (n : Node) → Has (net b.texts).used n → IsSettled (net b.texts) b.memos n
