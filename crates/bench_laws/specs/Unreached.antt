-- An edit that reaches no cell needs no job. Read it after There.
use Rattle.std.specs.Prelude.{◌≡◌, ℕ, List}
use Rattle.memo_core.specs.declared.keys.Node.{Node}
use Rattle.memo_core.specs.Run.{MemoEvent, Edit, MemoRun, Step, IsNewBench, state_in}
use Rattle.memo_core.specs.Step.{IsWork}
use Rattle.bench_values.specs.Givens.{GivenContent}
use Rattle.bench_values.specs.Values.{NodeContent}
use Rattle.bench_texts.specs.declared.edit.Edit as code
use Rattle.cells.specs.Cells.{AllAreSettled}
use Rattle.bench_instance.specs.declared.stamped_texts.StampedTexts.{StampedTexts}
use Rattle.bench_instance.specs.StampedCells.{slice_by_names}
use Rattle.bench_instance.specs.StampedTexts.{AreSoundTexts, stamped_net}
use Rattle.bench_laws.specs.Live.{live_meaning}
use Rattle.bench_laws.specs.There.{LiveState}

-- each cell has one slice in both: none, where the texts lack its test or its model
abbrev pub HaveSameSlices : StampedTexts → StampedTexts → Type 0
HaveSameSlices t u =
    (test model : List ℕ) → slice_by_names u test model ≡ slice_by_names t test model

-- no node has work: so no claim is given
abbrev pub HasNoWork : LiveState → Type 0
HasNoWork b = (n : Node) → IsWork (state_in live_meaning b) n → ⊥

-- After any list of events, where every node that cells use is settled, and an edit leaves the
-- slice of each cell what it was: every node that cells use is settled after the edit, and no claim
-- is given.
abbrev pub UnreachedNeedsNoJob : Type 0
UnreachedNeedsNoJob =
    (events : List (MemoEvent code.Edit NodeContent GivenContent)) (start old new : LiveState)
    (e : code.Edit)
    → IsNewBench AreSoundTexts stamped_net start → MemoRun live_meaning start events old
    → Step live_meaning old (Edit e) new
    → AllAreSettled stamped_net old → HaveSameSlices old.texts new.texts
    → AllAreSettled stamped_net new × HasNoWork new
