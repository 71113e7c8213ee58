-- The jobs that the bench behind a desk's lock gave since the last edit or renewal. Some list of
-- events leads to it from a new bench (`IsReachedByEvents` of `desk`). Read it after Locked.
use Rattle.std.specs.Prelude.{◌+◌, ◌≤◌, List, Bool}
use Rattle.std.specs.List.{AllByRecursion as Each}
use Rattle.memo_core.specs.declared.keys.Node.{Node}
use Rattle.memo_core.specs.Laws.{DecidesSettled}
use Rattle.memo_core.specs.Run as core
use Rattle.memo_core.specs.Run.{MemoEvent, Renew, MemoRun, Step, IsNewBench, count_unsettled, state_in}
use Rattle.memo_core.specs.Work.{IsJobEvent}
use Rattle.bench_values.specs.Givens.{GivenContent}
use Rattle.bench_values.specs.Values.{NodeContent}
use Rattle.bench_texts.specs.declared.edit.Edit.{Edit}
use Rattle.desk.specs.Runs.{IsReachedByEvents}
use Rattle.bench_instance.specs.StampedTexts.{AreSoundTexts, stamped_net}
use Rattle.bench_laws.specs.Live.{live_meaning}
use Rattle.bench_laws.specs.There.{LiveState}
use Rattle.bench_laws.specs.Jobs.{given_count, lost_count}

-- it holds of each bench to which some list of events leads
abbrev pub HoldsOfReached : (LiveState → Type 0) → Type 0
HoldsOfReached holds = (b : LiveState) → IsReachedByEvents live_meaning b → holds b

-- the bench is new, or an edit or a renewal was the last event
pub data IsBegun (b : LiveState) : Type 0 where
  AtFirst : IsNewBench AreSoundTexts stamped_net b → IsBegun b
  AfterEdit : (old : LiveState) (e : Edit) → IsReachedByEvents live_meaning old
      → Step live_meaning old (core.Edit e) b → IsBegun b
  AfterRenewal : (old : LiveState) → IsReachedByEvents live_meaning old → Step live_meaning old Renew b
      → IsBegun b

-- Since the last edit or renewal claims, returns, losses and refused calls came alone, and gave no
-- more claims than used nodes were unsettled then and claims were lost since.
pub record HasFewJobs (b : LiveState) : Type 0 where
  pub start : LiveState
  pub begun : IsBegun start
  pub events : List (MemoEvent Edit NodeContent GivenContent)
  pub run : MemoRun live_meaning start events b
  pub jobs : Each IsJobEvent events
  pub few : (settled : Node → Bool) → DecidesSettled (state_in live_meaning start) settled
      → given_count events
      ≤ count_unsettled settled (stamped_net start.texts).used + lost_count events
