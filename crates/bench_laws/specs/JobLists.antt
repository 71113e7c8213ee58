-- How many jobs a list of events is given, by its replies. Read it after Jobs, and Events of
-- `cells`.
use Rattle.std.specs.Prelude.{◌≡◌, true, ℕ, ◌+◌, ◌≤◌, Bool, List, [], ◌∷◌, Some, None, Ok, Err, if◌then◌else◌}
use Rattle.std.specs.List.{AllByRecursion as Each}
use Rattle.memo_core.specs.declared.keys.Node.{Node}
use Rattle.memo_core.specs.declared.claims.Finish.{Finish}
use Rattle.memo_core.specs.Laws.{DecidesSettled}
use Rattle.memo_core.specs.Run as core
use Rattle.memo_core.specs.Run.{Bench, TextsMeaning, state_in, MemoRun, IsNewBench, count_unsettled}
use Rattle.memo_core.specs.Work.{is_accepted}
use Rattle.cells.specs.declared.events.Event.{Event}
use Rattle.cells.specs.declared.events.Event.TheVariants.{Return}
use Rattle.cells.specs.declared.events.Reply.{Reply}
use Rattle.cells.specs.declared.events.Reply.TheVariants as replies
use Rattle.cells.specs.Events.{Refusing, AnswersEvents, AreEventsAnswered, IsEventAnswered, IsJob, task_given}
use Rattle.cells.specs.Views.{Task}
use Rattle.bench_laws.specs.Jobs.{IsClaimOut}

-- 1 for a claim that is given, and for one that is lost
abbrev pub given_in : {F : Type 0} → Reply F → ℕ
given_in (replies.Edited answer) = 0
given_in (replies.Claimed (Ok (Some number))) = 1
given_in (replies.Claimed (Ok None)) = 0
given_in (replies.Claimed (Err fault)) = 0
given_in (replies.Returned answer) = 0
given_in (replies.Lost answer) = 0
given_in replies.Renewed = 0

abbrev pub lost_in : {F : Type 0} → Reply F → ℕ
lost_in (replies.Edited answer) = 0
lost_in (replies.Claimed answer) = 0
lost_in (replies.Returned answer) = 0
lost_in (replies.Lost answer) = if answer then 1 else 0
lost_in replies.Renewed = 0

-- how many claims are given, and how many are lost
abbrev pub given_among : {F : Type 0} → List (Reply F) → ℕ
given_among [] = 0
given_among (r ∷ rs) = given_in r + given_among rs

abbrev pub lost_among : {F : Type 0} → List (Reply F) → ℕ
lost_among [] = 0
lost_among (r ∷ rs) = lost_in r + lost_among rs

-- After any list of events, a list of claims, returns and losses is given no more claims than used
-- nodes are unsettled at its beginning and claims are lost in it.
abbrev pub ListBoundsGiven : {T E V G F : Type 0} → TextsMeaning T E V G → Refusing T E F → (T → ℕ)
    → Type 0
ListBoundsGiven {T} {E} {V} {G} {F} means refuses last =
    (earlier : List (core.MemoEvent E V G)) (first start end : Bench T V) (events : List (Event E))
    (answers : List (Reply F)) (settled : Node → Bool)
    → IsNewBench means.is_valid means.net first → MemoRun means first earlier start
    → AnswersEvents means refuses last start events answers end → Each IsJob events
    → DecidesSettled (state_in means start) settled
    → given_among answers
    ≤ count_unsettled settled (means.net start.texts).used + lost_among answers

-- After any list of events, in a list of claims, returns and losses: while the claim of a job that
-- the list was given is out, a return that is answered is accepted.
abbrev pub ListAcceptsJobs : {T E V G F : Type 0} → TextsMeaning T E V G → Refusing T E F → (T → ℕ)
    → Type 0
ListAcceptsJobs {T} {E} {V} {G} {F} means refuses last =
    (earlier : List (core.MemoEvent E V G)) (first start mid end : Bench T V) (events : List (Event E))
    (answers : List (Reply F))
    (given after : List (Task V G)) (task : Task V G) (claim : ℕ) (answer : Finish)
    → IsNewBench means.is_valid means.net first → MemoRun means first earlier start
    → AreEventsAnswered means refuses last start [] events answers mid given → Each IsJob events
    → task_given claim given ≡ Some task → IsClaimOut mid claim
    → IsEventAnswered means refuses last mid given (Return claim) (replies.Returned (Ok answer)) end
    after → is_accepted answer ≡ true
