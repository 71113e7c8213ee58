-- An edit gives work only for what it reaches. Read it after Jobs and Unreached.
use Rattle.std.specs.Prelude.{◌≡◌, ℕ, ◌+◌, ◌≤◌, Bool, false, not, List, Some}
use Rattle.std.specs.List.{AllByRecursion as Each}
use Rattle.memo_core.specs.declared.keys.Node.{Node}
use Rattle.memo_core.specs.declared.keys.Key.{Key}
use Rattle.memo_core.specs.Run.{MemoEvent, Edit, Claim, MemoRun, Step, IsNewBench, count_unsettled}
use Rattle.memo_core.specs.Step.{Has}
use Rattle.memo_core.specs.Work.{IsJobEvent}
use Rattle.bench_values.specs.Givens.{GivenContent}
use Rattle.bench_values.specs.Values.{NodeContent}
use Rattle.bench_texts.specs.declared.edit.Edit as code
use Rattle.outcome_states.specs.declared.answer.Outcome.{Outcome}
use Rattle.cells.specs.Cells.{StandsOn, IsSettledCell}
use Rattle.bench_instance.specs.StampedCells.{slice_by_names}
use Rattle.bench_instance.specs.StampedTexts.{AreSoundTexts, stamped_net, verdict_of}
use Rattle.bench_laws.specs.Live.{live_meaning, live_cells}
use Rattle.bench_laws.specs.There.{LiveState}
use Rattle.bench_laws.specs.Jobs.{given_count, lost_count}

-- the cell was settled before the edit, which leaves its slice what it was
pub record IsUnreachedCell (old new : LiveState) (test model : List ℕ) : Type 0 where
  pub outcome : Outcome
  pub settled : IsSettledCell stamped_net live_cells old test model outcome
  pub slice : slice_by_names new.texts test model ≡ slice_by_names old.texts test model

-- the verdict of the cell stands on the node
pub record IsUnderCell (b : LiveState) (test model : List ℕ) (n : Node) : Type 0 where
  pub verdict : Node
  pub is : verdict_of b.texts test model ≡ Some verdict
  pub stands : StandsOn (stamped_net b.texts) verdict n

-- After any list of events and an edit, while claims, returns, losses and refused calls come alone:
-- no claim is given of a node under a cell that was settled before the edit and that the edit does
-- not reach.
abbrev pub OnlyReachedIsGiven : Type 0
OnlyReachedIsGiven =
    (earlier later : List (MemoEvent code.Edit NodeContent GivenContent))
    (first old start mid end : LiveState) (e : code.Edit) (number : ℕ) (n : Node)
    (given : GivenContent) (keys : List Key) (values : List NodeContent) (test model : List ℕ)
    → IsNewBench AreSoundTexts stamped_net first → MemoRun live_meaning first earlier old
    → Step live_meaning old (Edit e) start
    → MemoRun live_meaning start later mid → Each IsJobEvent later
    → Step live_meaning mid (Claim number n given keys values) end
    → IsUnreachedCell old start test model → IsUnderCell mid test model n → ⊥

-- some cell that was settled before the edit, and that the edit does not reach, is above the node
pub record IsUnderUnreached (old new : LiveState) (n : Node) : Type 0 where
  pub test : List ℕ
  pub model : List ℕ
  pub cell : IsUnreachedCell old new test model
  pub under : IsUnderCell new test model n

-- After any list of events and an edit, where each used node but those that are open is under such
-- a cell: no more claims are given after the edit, and before the next or a renewal, than used nodes
-- are open and claims are lost.
abbrev pub ReachedBoundsGiven : Type 0
ReachedBoundsGiven =
    (earlier events : List (MemoEvent code.Edit NodeContent GivenContent))
    (first old start end : LiveState) (e : code.Edit) (is_open : Node → Bool)
    → IsNewBench AreSoundTexts stamped_net first → MemoRun live_meaning first earlier old
    → Step live_meaning old (Edit e) start
    → ((n : Node) → Has (stamped_net start.texts).used n → is_open n ≡ false
    → IsUnderUnreached old start n)
    → MemoRun live_meaning start events end → Each IsJobEvent events
    → given_count events
    ≤ count_unsettled (λ n. not (is_open n)) (stamped_net start.texts).used + lost_count events
