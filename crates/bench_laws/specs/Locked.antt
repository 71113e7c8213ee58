-- What holds of a bench behind a lock. No list of events from a new bench is known of it, but what
-- holds of a bench at all times (`IsRightBench`). Read it after There, Stamps, Jobs and OnlyReached.
use Rattle.std.specs.Prelude.{◌≡◌, ◌≢◌, ◌+◌, ◌≤◌, ⊤, ℕ, List, Bool, true, false, not}
use Rattle.std.specs.List.{AllByRecursion as Each}
use Rattle.memo_core.specs.declared.keys.Node.{Node}
use Rattle.memo_core.specs.declared.keys.Key.{Key}
use Rattle.memo_core.specs.declared.claims.Finish.{Finish}
use Rattle.memo_core.specs.Graph.{IsSettled}
use Rattle.memo_core.specs.Laws.{DecidesSettled}
use Rattle.memo_core.specs.Run as core
use Rattle.memo_core.specs.Run.{MemoEvent, Claim, NoClaim, Returned, Lose, Renew, Refused, MemoRun, Step, IsFreshFrom, count_unsettled, state_in}
use Rattle.memo_core.specs.Step.{Return, Has, IsWork, AreClaimsNumbered}
use Rattle.memo_core.specs.Work.{IsJobEvent, is_accepted}
use Rattle.bench_values.specs.Givens.{GivenContent}
use Rattle.bench_values.specs.Values.{NodeContent}
use Rattle.bench_texts.specs.declared.edit.Edit.{Edit}
use Rattle.outcome_states.specs.declared.answer.Outcome.{Outcome}
use Rattle.cells.specs.Cells.{IsSettledCell, IsNeededNode}
use Rattle.cells.specs.Views.{IsRightBench, task_of, task_answered}
use Rattle.bench_instance.specs.StampedTexts.{stamped_net, verdict_of}
use Rattle.bench_instance.specs.StampedCells.{ReachesCellNamed}
use Rattle.bench_laws.specs.Live.{live_meaning, live_cells}
use Rattle.bench_laws.specs.There.{LiveState}
use Rattle.bench_laws.specs.Stamps.{AreLow}
use Rattle.bench_laws.specs.Jobs.{IsClaimOut, given_count, lost_count}
use Rattle.bench_laws.specs.OnlyReached.{IsUnreachedCell, IsUnderCell, IsUnderUnreached}

-- it holds wherever that holds which holds of a bench at all times
abbrev pub HoldsOfRight : (LiveState → Type 0) → Type 0
HoldsOfRight holds = (b : LiveState) → IsRightBench live_meaning b → holds b

-- an edit that does not reach a settled cell leaves it settled with the same outcome
abbrev pub EditsKeepUnreached : LiveState → Type 0
EditsKeepUnreached old =
    (new : LiveState) (e : Edit) (test model : List ℕ) (o : Outcome)
    → Step live_meaning old (core.Edit e) new
    → (ReachesCellNamed old.texts e new.texts test model → ⊥)
    → IsSettledCell stamped_net live_cells old test model o
    → IsSettledCell stamped_net live_cells new test model o

-- some cell needs the node, there is work at it, and it is not settled
pub record IsNeededWork (b : LiveState) (n : Node) : Type 0 where
  pub needed : IsNeededNode (stamped_net b.texts) (verdict_of b.texts) n
  pub work : IsWork (state_in live_meaning b) n
  pub unsettled : IsSettled (stamped_net b.texts) b.memos n → ⊥

-- a claim that is given is of such a node
abbrev pub GivesNeeded : LiveState → Type 0
GivesNeeded old =
    (new : LiveState) (number : ℕ) (n : Node) (given : GivenContent) (keys : List Key)
    (values : List NodeContent)
    → Step live_meaning old (Claim number n given keys values) new → IsNeededWork old n

-- no two claims that are out are of one node with the same inputs and stamps, and none repeats a
-- memo
abbrev pub HasNoneOutTwice : LiveState → Type 0
HasNoneOutTwice b = IsFreshFrom b.memos b.claims

-- No stamp of a part or in a memo is above the last number that was taken, nor is the number of a
-- claim that is out.
pub record HasLowMemos (b : LiveState) : Type 0 where
  pub parts : (part of : ℕ) → (stamped_net b.texts).part part of ≤ b.taken
  pub inputs : Each (λ m. AreLow b.taken m.inputs) b.memos
  pub outputs : Each (λ m. Each (λ o. o.stamp ≤ b.taken) m.outputs) b.memos
  pub numbers : AreClaimsNumbered b.taken b.claims

-- While claims, returns, losses and refused calls come alone after a claim, and it is out, a return
-- of what running its job makes is accepted.
abbrev pub AcceptsJobs : LiveState → Type 0
AcceptsJobs old =
    (later : List (MemoEvent Edit NodeContent GivenContent)) (start end new : LiveState) (number : ℕ)
    (n : Node) (given : GivenContent) (keys : List Key) (values : List NodeContent)
    (r : Return NodeContent GivenContent) (answer : Finish)
    → Step live_meaning old (Claim number n given keys values) start
    → MemoRun live_meaning start later end → Each IsJobEvent later → IsClaimOut end number
    → task_answered r ≡ task_of number n given keys values
    → Step live_meaning end (Returned r answer) new → is_accepted answer ≡ true

-- A list of claims, returns, losses and refused calls gives no more claims than used nodes are
-- unsettled at its beginning and claims are lost in it.
abbrev pub BoundsGiven : LiveState → Type 0
BoundsGiven start =
    (events : List (MemoEvent Edit NodeContent GivenContent)) (end : LiveState) (settled : Node → Bool)
    → MemoRun live_meaning start events end → Each IsJobEvent events
    → DecidesSettled (state_in live_meaning start) settled
    → given_count events ≤ count_unsettled settled (stamped_net start.texts).used + lost_count events

-- the event does not lose the claim of this number
abbrev pub LosesOther : {E V G : Type 0} → ℕ → MemoEvent E V G → Type 0
LosesOther number (core.Edit e) = ⊤
LosesOther number (Claim other n given keys values) = ⊤
LosesOther number NoClaim = ⊤
LosesOther number (Returned r answer) = ⊤
LosesOther number (Lose n answer) = n ≢ number
LosesOther number Renew = ⊤
LosesOther number Refused = ⊤

-- While claims, returns, losses and refused calls come alone after a claim, and none loses it: no
-- claim that is given is of its node.
abbrev pub GivesOnce : LiveState → Type 0
GivesOnce old =
    (later : List (MemoEvent Edit NodeContent GivenContent)) (start mid end : LiveState)
    (number other : ℕ) (n m : Node) (given more : GivenContent) (keys others : List Key)
    (values rest : List NodeContent)
    → Step live_meaning old (Claim number n given keys values) start
    → MemoRun live_meaning start later mid → Each IsJobEvent later → Each (LosesOther number) later
    → Step live_meaning mid (Claim other m more others rest) end → m ≢ n

-- While they come alone after an edit, no claim is given of a node under a cell that was settled
-- before the edit and that the edit does not reach.
abbrev pub GivesReached : LiveState → Type 0
GivesReached old =
    (later : List (MemoEvent Edit NodeContent GivenContent)) (start mid end : LiveState) (e : Edit)
    (number : ℕ) (n : Node) (given : GivenContent) (keys : List Key) (values : List NodeContent)
    (test model : List ℕ)
    → Step live_meaning old (core.Edit e) start
    → MemoRun live_meaning start later mid → Each IsJobEvent later
    → Step live_meaning mid (Claim number n given keys values) end
    → IsUnreachedCell old start test model → IsUnderCell mid test model n → ⊥

-- Where each used node but those that are open is under such a cell: a list of them gives no more
-- claims after the edit than used nodes are open and claims are lost in it.
abbrev pub BoundsReached : LiveState → Type 0
BoundsReached old =
    (events : List (MemoEvent Edit NodeContent GivenContent)) (start end : LiveState) (e : Edit)
    (is_open : Node → Bool)
    → Step live_meaning old (core.Edit e) start
    → ((n : Node) → Has (stamped_net start.texts).used n → is_open n ≡ false
    → IsUnderUnreached old start n)
    → MemoRun live_meaning start events end → Each IsJobEvent events
    → given_count events
    ≤ count_unsettled (λ n. not (is_open n)) (stamped_net start.texts).used + lost_count events
