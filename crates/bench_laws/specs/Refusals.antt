-- A call that is refused changes nothing. Read it after There, and Events of `cells`.
use Rattle.std.specs.Prelude.{◌≡◌, ◌↔◌, ℕ, List, Err}
use Rattle.memo_core.specs.Run.{MemoEvent, Refused, MemoRun, Step, IsNewBench}
use Rattle.bench_values.specs.Givens.{GivenContent}
use Rattle.bench_values.specs.Values.{NodeContent}
use Rattle.bench_texts.specs.declared.edit.Edit.{Edit}
use Rattle.bench_texts.specs.declared.fault.EditFault.{EditFault}
use Rattle.outcome_states.specs.declared.answer.Outcome.{Outcome}
use Rattle.cells.specs.declared.shown.Shown.{Shown}
use Rattle.cells.specs.Cells.{IsCellShown}
use Rattle.cells.specs.Events.{IsEdited}
use Rattle.bench_instance.specs.StampedTexts.{AreSoundTexts, HasTextsOf, stamped_net}
use Rattle.bench_laws.specs.Live.{live_meaning, live_cells, live_refusing, live_last}
use Rattle.bench_laws.specs.There.{LiveState}

-- each cell is shown in both alike
abbrev pub ShowAlike : LiveState → LiveState → Type 0
ShowAlike old new =
    (test model : List ℕ) (shown : Shown Outcome)
    → IsCellShown stamped_net live_cells new test model shown
    ↔ IsCellShown stamped_net live_cells old test model shown

-- The later bench has the tests and the models of the earlier one, its nodes with their inputs and
-- the stamps of their parts, what it keeps of computations, what is out, how many numbers it has
-- taken, and its cells as they are shown.
pub record IsUnchanged (old new : LiveState) : Type 0 where
  pub texts : HasTextsOf old.texts new.texts
  pub nodes : stamped_net new.texts ≡ stamped_net old.texts
  pub memos : new.memos ≡ old.memos
  pub claims : new.claims ≡ old.claims
  pub taken : new.taken ≡ old.taken
  pub cells : ShowAlike old new

-- After any list of events, a call that is refused changes nothing.
abbrev pub RefusedChangesNothing : Type 0
RefusedChangesNothing =
    (events : List (MemoEvent Edit NodeContent GivenContent)) (start old new : LiveState)
    → IsNewBench AreSoundTexts stamped_net start → MemoRun live_meaning start events old
    → Step live_meaning old Refused new → IsUnchanged old new

-- So an edit that is refused changes nothing.
abbrev pub RefusedEditChangesNothing : Type 0
RefusedEditChangesNothing =
    (events : List (MemoEvent Edit NodeContent GivenContent)) (start old new : LiveState) (e : Edit)
    (fault : EditFault)
    → IsNewBench AreSoundTexts stamped_net start → MemoRun live_meaning start events old
    → IsEdited live_meaning live_refusing live_last old e (Err fault) new → IsUnchanged old new
