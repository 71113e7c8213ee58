-- Read after Cells and Events: what holds of any run of events, cited by `laws`.
use Rattle.std.specs.Prelude.{◌≡◌, ◌+◌, ◌≤◌, ℕ, List, [], Bool, false, not, Some}
use Rattle.std.specs.List.{AllByRecursion as Each}
use Rattle.memo_core.specs.declared.keys.Node.{Node}
use Rattle.memo_core.specs.declared.keys.Key.{Key}
use Rattle.memo_core.specs.Graph.{IsSettled}
use Rattle.memo_core.specs.Right.{IsUntouchedBy}
use Rattle.memo_core.specs.Laws.{DecidesSettled}
use Rattle.memo_core.specs.Run as core
use Rattle.memo_core.specs.Run.{Bench, TextsMeaning, state_in, Step, MemoRun, IsNewBench, IsFreshFrom, count_unsettled}
use Rattle.memo_core.specs.Step.{IsWork}
use Rattle.memo_core.specs.Work.{IsJobEvent, numbers_given, accepted_count}
use Rattle.cells.specs.declared.events.Event.{Event}
use Rattle.cells.specs.declared.events.Reply.{Reply}
use Rattle.cells.specs.Cells.{Cells, IsSettledCell, IsNeededNode}
use Rattle.cells.specs.Events.{Refusing, AnswersEvents, IsJob, accepted_among}
use Rattle.cells.specs.Views.{IsRightBench}

-- after any list of events, the outcome of a settled cell is what evaluating the present texts from
-- nothing gives
abbrev pub SettledCellIsFromScratch : {T E V G O : Type 0} → TextsMeaning T E V G → Cells T E V O
    → Type 0
SettledCellIsFromScratch {T} {E} {V} {G} {O} means of =
    (events : List (core.MemoEvent E V G)) (start end : Bench T V)
    → IsNewBench means.is_valid means.net start → MemoRun means start events end
    → (test model : List ℕ) (o : O) → IsSettledCell means.net of end test model o
    → of.from_scratch end.texts test model o

-- of what holds of a bench at all times this comes: the outcome of a settled cell is what evaluating
-- the present texts from nothing gives
abbrev pub RightIsFromScratch : {T E V G O : Type 0} → TextsMeaning T E V G → Cells T E V O → Type 0
RightIsFromScratch {T} {E} {V} {G} {O} means of =
    (b : Bench T V) → IsRightBench means b → (test model : List ℕ) (o : O)
    → IsSettledCell means.net of b test model o → of.from_scratch b.texts test model o

-- after any list of events, an edit that does not reach a settled cell leaves it settled with the
-- same outcome
abbrev pub UnreachedCellStays : {T E V G O : Type 0} → TextsMeaning T E V G → Cells T E V O → Type 0
UnreachedCellStays {T} {E} {V} {G} {O} means of =
    (events : List (core.MemoEvent E V G)) (start old new : Bench T V) (e : E) (test model : List ℕ)
    (o : O) → IsNewBench means.is_valid means.net start → MemoRun means start events old
    → Step means old (core.Edit e) new
    → (of.reaches old.texts e new.texts test model → ⊥)
    → IsSettledCell means.net of old test model o → IsSettledCell means.net of new test model o

-- after any list of events, a claim that is given is of a node that some cell needs, and there is
-- work at it
abbrev pub OnlyNeededIsGiven : {T E V G O : Type 0} → TextsMeaning T E V G → Cells T E V O → Type 0
OnlyNeededIsGiven {T} {E} {V} {G} means of =
    (events : List (core.MemoEvent E V G)) (start old new : Bench T V) (number : ℕ) (n : Node)
    (given : G) (keys : List Key) (values : List V) → IsNewBench means.is_valid means.net start
    → MemoRun means start events old
    → Step means old (core.Claim number n given keys values) new
    → IsNeededNode (means.net old.texts) (of.verdict_of old.texts) n × IsWork (state_in means old) n

-- after any list of events, no two claims that are out are of one node with the same inputs and
-- stamps, and none repeats a memo
abbrev pub NoneIsOutTwice : {T E V G : Type 0} → TextsMeaning T E V G → Type 0
NoneIsOutTwice {T} {E} {V} {G} means =
    (events : List (core.MemoEvent E V G)) (start end : Bench T V)
    → IsNewBench means.is_valid means.net start → MemoRun means start events end
    → IsFreshFrom end.memos end.claims

-- After any list of events and an edit: where each node was settled and not touched by the edit but
-- those that are open, no more returns are accepted, of claims given after it and before the next,
-- than used nodes are open.
abbrev pub EditBoundsWork : {T E V G : Type 0} → TextsMeaning T E V G → Type 0
EditBoundsWork {T} {E} {V} {G} means =
    (earlier events : List (core.MemoEvent E V G)) (first old start end : Bench T V) (e : E)
    (is_open : Node → Bool) → IsNewBench means.is_valid means.net first
    → MemoRun means first earlier old → Step means old (core.Edit e) start
    → ((n : Node) → is_open n ≡ false
    → IsSettled (means.net old.texts) old.memos n
    × ((d : ℕ)
    → IsUntouchedBy d (means.keeps start.texts) (means.net old.texts)
    (means.net start.texts) n))
    → MemoRun means start events end → Each IsJobEvent events
    → accepted_count (numbers_given events) events
    ≤ count_unsettled (λ n. not (is_open n)) (means.net start.texts).used

-- after any list of events, where no claim is given and none is out, every cell is settled
abbrev pub QuietCellsAreSettled : {T E V G O : Type 0} → TextsMeaning T E V G → Cells T E V O → Type 0
QuietCellsAreSettled {T} {E} {V} {G} means of =
    (events : List (core.MemoEvent E V G)) (start before end : Bench T V)
    → IsNewBench means.is_valid means.net start → MemoRun means start events before
    → Step means before core.NoClaim end → before.claims ≡ []
    → (test model : List ℕ) (n : Node) → of.verdict_of end.texts test model ≡ Some n
    → IsSettled (means.net end.texts) end.memos n

-- a list of events with its replies is a run, of which all these speak
abbrev pub ListsAreRuns : {T E V G F : Type 0} → TextsMeaning T E V G → Refusing T E F → (T → ℕ) → Type 0
ListsAreRuns {T} {E} {V} {G} {F} means refuses last =
    (old new : Bench T V) (events : List (Event E)) (replies : List (Reply F))
    → AnswersEvents means refuses last old events replies new
    → (run : List (core.MemoEvent E V G)) × MemoRun means old run new

-- after any list of events, no more returns of a list of claims, returns and losses are accepted
-- than it settles used nodes
abbrev pub ListBoundsWork : {T E V G F : Type 0} → TextsMeaning T E V G → Refusing T E F → (T → ℕ)
    → Type 0
ListBoundsWork {T} {E} {V} {G} {F} means refuses last =
    (earlier : List (core.MemoEvent E V G)) (first start end : Bench T V) (events : List (Event E))
    (replies : List (Reply F)) (before after : Node → Bool)
    → IsNewBench means.is_valid means.net first → MemoRun means first earlier start
    → AnswersEvents means refuses last start events replies end → Each IsJob events
    → DecidesSettled (state_in means start) before → DecidesSettled (state_in means end) after
    → accepted_among replies + count_unsettled after (means.net end.texts).used
    ≤ count_unsettled before (means.net start.texts).used
