-- How many jobs are given: a job that is run and returned is taken where no edit comes between, so
-- no more are given than there are nodes to settle. Read it after Work of `memo_core`.
use Rattle.std.specs.Prelude.{◌≡◌, ◌≢◌, ℕ, ◌+◌, ◌≤◌, ⊤, Bool, true, false, not, List, [], ◌∷◌, length, Some, if◌then◌else◌}
use Rattle.std.specs.List.{AllByRecursion as Each}
use Rattle.memo_core.specs.declared.keys.Node.{Node}
use Rattle.memo_core.specs.declared.keys.Key.{Key}
use Rattle.memo_core.specs.declared.claims.Finish.{Finish}
use Rattle.memo_core.specs.Graph.{IsSettled}
use Rattle.memo_core.specs.Laws.{DecidesSettled}
use Rattle.memo_core.specs.Right.{IsUntouchedBy}
use Rattle.memo_core.specs.Run.{Bench, MemoEvent, Edit, Claim, NoClaim, Returned, Lose, Renew, Refused, TextsMeaning, state_in, Step, MemoRun, IsNewBench, count_unsettled}
use Rattle.memo_core.specs.Step.{OpenClaim, Return, Has, claim_of}
use Rattle.memo_core.specs.Work.{IsJobEvent, is_accepted, numbers_given}
use Rattle.cells.specs.Views.{task_of, task_answered}

-- the claim of this number is out
abbrev pub IsClaimOut : {T V : Type 0} → Bench T V → ℕ → Type 0
IsClaimOut b number = (c : OpenClaim) × (claim_of number b.claims ≡ Some c)

-- After any list of events and a claim that gives a job, while claims, returns, losses and refused
-- calls come alone and the claim is out: a return of what running this job makes is accepted.
abbrev pub JobsAreAccepted : {T E V G : Type 0} → TextsMeaning T E V G → Type 0
JobsAreAccepted {T} {E} {V} {G} means =
    (earlier later : List (MemoEvent E V G)) (first old start end new : Bench T V)
    (number : ℕ) (n : Node) (given : G) (keys : List Key) (values : List V) (r : Return V G)
    (answer : Finish)
    → IsNewBench means.is_valid means.net first → MemoRun means first earlier old
    → Step means old (Claim number n given keys values) start → MemoRun means start later end
    → Each IsJobEvent later
    → IsClaimOut end number → task_answered r ≡ task_of number n given keys values
    → Step means end (Returned r answer) new → is_accepted answer ≡ true

-- the event neither returns nor loses the claim of this number
abbrev pub LeavesClaim : {E V G : Type 0} → ℕ → MemoEvent E V G → Type 0
LeavesClaim number (Edit e) = ⊤
LeavesClaim number (Claim other n given keys values) = ⊤
LeavesClaim number NoClaim = ⊤
LeavesClaim number (Returned r answer) = r.claim ≢ number
LeavesClaim number (Lose n answer) = n ≢ number
LeavesClaim number Renew = ⊤
LeavesClaim number Refused = ⊤

-- After any list of events and a claim that gives a job, while claims, returns, losses and refused
-- calls come alone: the claim is out as long as none of them returns or loses it.
abbrev pub ClaimsStayOut : {T E V G : Type 0} → TextsMeaning T E V G → Type 0
ClaimsStayOut {T} {E} {V} {G} means =
    (earlier later : List (MemoEvent E V G)) (first old start end : Bench T V) (number : ℕ) (n : Node)
    (given : G) (keys : List Key) (values : List V)
    → IsNewBench means.is_valid means.net first → MemoRun means first earlier old
    → Step means old (Claim number n given keys values) start → MemoRun means start later end
    → Each IsJobEvent later
    → Each (LeavesClaim number) later → IsClaimOut end number

-- after any list of events, a claim that is given is of a used node that is not settled
abbrev pub UnsettledIsGiven : {T E V G : Type 0} → TextsMeaning T E V G → Type 0
UnsettledIsGiven {T} {E} {V} {G} means =
    (events : List (MemoEvent E V G)) (first old new : Bench T V) (number : ℕ) (n : Node) (given : G)
    (keys : List Key) (values : List V)
    → IsNewBench means.is_valid means.net first → MemoRun means first events old
    → Step means old (Claim number n given keys values) new
    → Has (means.net old.texts).used n × (IsSettled (means.net old.texts) old.memos n → ⊥)

-- how many claims are given
abbrev pub given_count : {E V G : Type 0} → List (MemoEvent E V G) → ℕ
given_count events = length (numbers_given events)

-- 1 for a claim that is lost
abbrev pub lost_by : {E V G : Type 0} → MemoEvent E V G → ℕ
lost_by (Edit e) = 0
lost_by (Claim number n given keys values) = 0
lost_by NoClaim = 0
lost_by (Returned r answer) = 0
lost_by (Lose n answer) = if answer then 1 else 0
lost_by Renew = 0
lost_by Refused = 0

-- how many claims are lost
abbrev pub lost_count : {E V G : Type 0} → List (MemoEvent E V G) → ℕ
lost_count [] = 0
lost_count (e ∷ es) = lost_by e + lost_count es

-- After any list of events, in a list of claims, returns, losses and refused calls: no more claims
-- are given than used nodes are unsettled at its beginning and claims are lost.
abbrev pub GivenIsBounded : {T E V G : Type 0} → TextsMeaning T E V G → Type 0
GivenIsBounded {T} {E} {V} {G} means =
    (earlier events : List (MemoEvent E V G)) (first start end : Bench T V) (settled : Node → Bool)
    → IsNewBench means.is_valid means.net first → MemoRun means first earlier start
    → MemoRun means start events end → Each IsJobEvent events
    → DecidesSettled (state_in means start) settled
    → given_count events ≤ count_unsettled settled (means.net start.texts).used + lost_count events

-- the node was settled before the edit, which touches nothing that it stands on
abbrev pub IsLeftSettled : {T E V G : Type 0} → TextsMeaning T E V G → Bench T V → Bench T V → Node
    → Type 0
IsLeftSettled means old new n =
    IsSettled (means.net old.texts) old.memos n
    × ((d : ℕ)
    → IsUntouchedBy d (means.keeps new.texts) (means.net old.texts)
    (means.net new.texts) n)

-- After any list of events and an edit that leaves each node settled but those that are open: no
-- more claims are given after it, and before the next or a renewal, than used nodes are open and
-- claims are lost.
abbrev pub EditBoundsGiven : {T E V G : Type 0} → TextsMeaning T E V G → Type 0
EditBoundsGiven {T} {E} {V} {G} means =
    (earlier events : List (MemoEvent E V G)) (first old start end : Bench T V) (e : E)
    (is_open : Node → Bool)
    → IsNewBench means.is_valid means.net first → MemoRun means first earlier old
    → Step means old (Edit e) start
    → ((n : Node) → is_open n ≡ false → IsLeftSettled means old start n)
    → MemoRun means start events end → Each IsJobEvent events
    → given_count events
    ≤ count_unsettled (λ n. not (is_open n)) (means.net start.texts).used + lost_count events
