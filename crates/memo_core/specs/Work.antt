-- Read after Laws: exact work in any list of claims, returns, losses and refused calls, which edits
-- and renewals come before or after.
use Rattle.std.specs.Prelude.{◌≡◌, ℕ, ◌+◌, ◌<◌, ◌≤◌, ⊤, Bool, true, false, ◌&&◌, ◌==◌, List, [], ◌∷◌, ◌++◌, if◌then◌else◌}
use Rattle.std.specs.List.{AllByRecursion as Each}
use Rattle.memo_core.specs.declared.keys.Node.{Node}
use Rattle.memo_core.specs.declared.claims.Finish.{Finish}
use Rattle.memo_core.specs.declared.claims.Finish.TheVariants.{Unknown, Stale, Same, Stored}
use Rattle.memo_core.specs.Graph.{IsSettled, input_nodes}
use Rattle.memo_core.specs.Step.{Return, Has}
use Rattle.memo_core.specs.Run.{Bench, MemoEvent, Edit, Claim, NoClaim, Returned, Lose, Renew, Refused, TextsMeaning, state_in, Step, MemoRun, IsNewBench, count_unsettled}
use Rattle.memo_core.specs.Laws.{DecidesSettled}

-- a claim, a return, a loss or a refused call
abbrev pub IsJobEvent : {E V G : Type 0} → MemoEvent E V G → Type 0
IsJobEvent (Edit e) = ⊥
IsJobEvent (Claim number n given keys values) = ⊤
IsJobEvent NoClaim = ⊤
IsJobEvent (Returned r answer) = ⊤
IsJobEvent (Lose n answer) = ⊤
IsJobEvent Renew = ⊥
IsJobEvent Refused = ⊤

-- the number of the claim that the event gives, if it gives one
abbrev pub number_given : {E V G : Type 0} → MemoEvent E V G → List ℕ
number_given (Edit e) = []
number_given (Claim number n given keys values) = number ∷ []
number_given NoClaim = []
number_given (Returned r answer) = []
number_given (Lose n answer) = []
number_given Renew = []
number_given Refused = []

abbrev pub numbers_given : {E V G : Type 0} → List (MemoEvent E V G) → List ℕ
numbers_given [] = []
numbers_given (e ∷ es) = number_given e ++ numbers_given es

abbrev pub has_number : ℕ → List ℕ → Bool
has_number n [] = false
has_number n (m ∷ ms) = if n == m then true else has_number n ms

abbrev pub is_accepted : Finish → Bool
is_accepted Unknown = false
is_accepted (Stale stamp) = false
is_accepted Same = true
is_accepted (Stored names) = true

-- 1 for an accepted return of one of these claims
abbrev pub accepted_by : {E V G : Type 0} → List ℕ → MemoEvent E V G → ℕ
accepted_by claims (Edit e) = 0
accepted_by claims (Claim number n given keys values) = 0
accepted_by claims NoClaim = 0
accepted_by claims (Returned r answer) =
    if is_accepted answer && has_number r.claim claims then 1 else 0
accepted_by claims (Lose n answer) = 0
accepted_by claims Renew = 0
accepted_by claims Refused = 0

-- how many returns of these claims are accepted
abbrev pub accepted_count : {E V G : Type 0} → List ℕ → List (MemoEvent E V G) → ℕ
accepted_count claims [] = 0
accepted_count claims (e ∷ es) = accepted_by claims e + accepted_count claims es

-- after any list of events, an accepted return of a node whose inputs are settled lowers the number
-- of unsettled used nodes
abbrev pub ReturnsLowerInRuns : {T E V G : Type 0} → TextsMeaning T E V G → Type 0
ReturnsLowerInRuns {T} {E} {V} {G} means =
    (events : List (MemoEvent E V G)) (first old new : Bench T V) (r : Return V G) (answer : Finish)
    (before after : Node → Bool) → IsNewBench means.is_valid means.net first
    → MemoRun means first events old → Step means old (Returned r answer) new
    → is_accepted answer ≡ true
    → Each (IsSettled (means.net old.texts) old.memos)
    (input_nodes ((means.net old.texts).inputs r.node))
    → DecidesSettled (state_in means old) before → DecidesSettled (state_in means new) after
    → count_unsettled after (means.net new.texts).used
    < count_unsettled before (means.net old.texts).used

-- of the claims that a list of claims, returns, losses and refused calls gives, no more returns are
-- accepted than it settles used nodes
abbrev pub WorkIsBounded : {T E V G : Type 0} → TextsMeaning T E V G → Type 0
WorkIsBounded {T} {E} {V} {G} means =
    (earlier events : List (MemoEvent E V G)) (first start end : Bench T V) (before after : Node → Bool)
    → IsNewBench means.is_valid means.net first → MemoRun means first earlier start
    → MemoRun means start events end
    → Each IsJobEvent events → DecidesSettled (state_in means start) before
    → DecidesSettled (state_in means end) after
    → accepted_count (numbers_given events) events
    + count_unsettled after (means.net end.texts).used
    ≤ count_unsettled before (means.net start.texts).used

-- and no settled node is unsettled by it
abbrev pub WorkUnsettlesNone : {T E V G : Type 0} → TextsMeaning T E V G → Type 0
WorkUnsettlesNone {T} {E} {V} {G} means =
    (earlier events : List (MemoEvent E V G)) (first start end : Bench T V)
    → IsNewBench means.is_valid means.net first → MemoRun means first earlier start
    → MemoRun means start events end → Each IsJobEvent events
    → (n : Node) → IsSettled (means.net start.texts) start.memos n
    → IsSettled (means.net end.texts) end.memos n

-- after any list of events it is decided which nodes are settled
abbrev pub SettledIsDecided : {T E V G : Type 0} → TextsMeaning T E V G → Type 0
SettledIsDecided {T} {E} {V} {G} means =
    (events : List (MemoEvent E V G)) (first end : Bench T V)
    → IsNewBench means.is_valid means.net first
    → MemoRun means first events end
    → (settled : Node → Bool) × DecidesSettled (state_in means end) settled

-- after any list of events, where no claim is given and none is out, every used node is settled
abbrev pub QuietRunIsSettled : {T E V G : Type 0} → TextsMeaning T E V G → Type 0
QuietRunIsSettled {T} {E} {V} {G} means =
    (events : List (MemoEvent E V G)) (first before end : Bench T V)
    → IsNewBench means.is_valid means.net first → MemoRun means first events before
    → Step means before NoClaim end → before.claims ≡ []
    → (n : Node) → Has (means.net end.texts).used n → IsSettled (means.net end.texts) end.memos n
