-- What texts owe to the core, cited by the trait `Texts`, and what holds of any run, cited by
-- `laws`.
use Rattle.std.specs.Prelude.{◌≡◌, ◌<◌, ◌↔◌, ◌⊎◌, ℕ, List, [], Bool, true}
use Rattle.std.specs.List.{AllByRecursion as Each}
use Rattle.memo_core.specs.declared.keys.Node.{Node}
use Rattle.memo_core.specs.declared.keys.Key.{Key}
use Rattle.memo_core.specs.Graph.{Net, Matches, IsSettled, at, input_nodes, memo_of, present_inputs, outputs_among}
use Rattle.memo_core.specs.Right.{Making, ArePresent, IsPinned, IsSolvedNode, IsMadeOfPresent, IsSamePart, IsUntouchedBy}
use Rattle.memo_core.specs.Step.{MemoState, Return, Has, IsWork, Accepts, Gives, Edits}
use Rattle.memo_core.specs.Run.{Bench, MemoEvent, TextsMeaning, MemoRun, IsNewBench, IsFreshFrom, IsProgress, count_unsettled}

-- the inputs of a used node are used
abbrev pub IsUsedClosed : {G : Type 0} → Net G → Type 0
IsUsedClosed net = (n : Node) → Has net.used n → Each (Has net.used) (input_nodes (net.inputs n))

-- each used node that has an output of another among its inputs is listed as its user, and only
-- used nodes are listed as users of a used node
pub record AreUsers {G : Type 0} (net : Net G) (users : Node → List Node) : Type 0 where
  pub listed : (n u : Node) → Has net.used u → Has (input_nodes (net.inputs u)) n → Has (users n) u
  pub are_used : (n u : Node) → Has net.used n → Has (users n) u → Has net.used u

-- a used node that is listed as a user of another has an output of it among its inputs
abbrev pub AreReaders : {G : Type 0} → Net G → (Node → List Node) → Type 0
AreReaders net users =
    (n u : Node) → Has net.used u → Has (users n) u → Has (input_nodes (net.inputs u)) n

-- the rank falls from a node to its inputs, so no node stands on itself
abbrev pub Falls : {G : Type 0} → Net G → (Node → ℕ) → Type 0
Falls net rank = (n : Node) → Each (λ m. rank m < rank n) (input_nodes (net.inputs n))

-- the node is used in both, with the same inputs, and the parts among these have the same stamps
pub record IsUsedAlike {G : Type 0} (old new : Net G) (n : Node) : Type 0 where
  pub before : Has old.used n
  pub after : Has new.used n
  pub inputs : new.inputs n ≡ old.inputs n
  pub parts : Each (IsSamePart old new) (old.inputs n)

-- each node that is used in one of both is among these, or it is used alike in both
abbrev pub TouchesOnly : {G : Type 0} → Net G → Net G → List Node → Type 0
TouchesOnly old new touched =
    (n : Node) → Has old.used n ⊎ Has new.used n → Has touched n ⊎ IsUsedAlike old new n

-- a node whose inputs and parts are what they were in earlier texts is given what it was
abbrev pub GivenStays : {T G : Type 0} → (T → Type 0) → (T → T → Type 0) → (T → Net G) → Type 0
GivenStays {T} {G} is_valid since net =
    (t u : T) (n : Node) (g : G) → is_valid u → since t u → (net u).inputs n ≡ (net t).inputs n
    → Each (IsSamePart (net t) (net u)) ((net u).inputs n) → (net t).gives n g ≡ true
    → (net u).gives n g ≡ true

abbrev pub meaning : {T E V G : Type 0} → (T → Net G) → (T → Type 0) → (T → T → Type 0)
    → Making V G → (T → Node → Bool) → (T → E → ℕ → T → Type 0) → (T → ℕ) → TextsMeaning T E V G
meaning net is_valid since makes keeps edited last = record {
  net = net;
  is_valid = is_valid;
  since = since;
  makes = makes;
  keeps = keeps;
  edited = edited;
  last = last;
}

-- after any list of events, a settled node holds what is made of what its job is given now and of
-- the present values of its present inputs
abbrev pub SettledIsSolved : {T E V G : Type 0} → TextsMeaning T E V G → (T → Node → Type 0) → Type 0
SettledIsSolved {T} {E} {V} {G} means is_there =
    (events : List (MemoEvent E V G)) (start end : Bench T V)
    → IsNewBench means.is_valid means.net start
    → MemoRun means start events end
    → (n : Node) → is_there end.texts n → IsSettled (means.net end.texts) end.memos n
    → IsSolvedNode means.makes (means.net end.texts) end.memos n

-- so does a node that is not settled, where its memo's inputs and stamps are the present ones, as
-- far as its inputs have values
abbrev pub MatchingIsMade : {T E V G : Type 0} → TextsMeaning T E V G → Type 0
MatchingIsMade {T} {E} {V} {G} means =
    (events : List (MemoEvent E V G)) (start end : Bench T V)
    → IsNewBench means.is_valid means.net start
    → MemoRun means start events end
    → (n : Node) → Matches (means.net end.texts) end.memos n
    → IsMadeOfPresent means.makes (means.net end.texts) end.memos n

-- and its inputs all have values, so it holds what is made of their present values, as a settled
-- node does
abbrev pub MatchingIsSolved : {T E V G : Type 0} → TextsMeaning T E V G → Type 0
MatchingIsSolved {T} {E} {V} {G} means =
    (events : List (MemoEvent E V G)) (start end : Bench T V)
    → IsNewBench means.is_valid means.net start
    → MemoRun means start events end
    → (n : Node) → Matches (means.net end.texts) end.memos n
    → IsSolvedNode means.makes (means.net end.texts) end.memos n

-- a return that is taken at a node with settled inputs settles that node, and unsettles none
abbrev pub ReturnsSettle : (V G : Type 0) → Type 0
ReturnsSettle V G =
    (old new : MemoState V G) (r : Return V G) → IsFreshFrom old.memos old.claims
    → Accepts old r new
    → Each (IsSettled old.net old.memos) (input_nodes (old.net.inputs r.node))
    → IsProgress old new r.node

-- whether each node is settled
abbrev pub DecidesSettled : {V G : Type 0} → MemoState V G → (Node → Bool) → Type 0
DecidesSettled s settled = (n : Node) → (settled n ≡ true) ↔ IsSettled s.net s.memos n

-- such a return lowers the number of used nodes that are not settled
abbrev pub ReturnsLower : (V G : Type 0) → Type 0
ReturnsLower V G =
    (old new : MemoState V G) (r : Return V G) (before after : Node → Bool)
    → DecidesSettled old before
    → DecidesSettled new after → IsFreshFrom old.memos old.claims → Accepts old r new
    → Each (IsSettled old.net old.memos) (input_nodes (old.net.inputs r.node))
    → count_unsettled after old.net.used < count_unsettled before old.net.used

-- a return that is taken keeps the open claims apart
abbrev pub ReturnsKeepApart : (V G : Type 0) → Type 0
ReturnsKeepApart V G =
    (old new : MemoState V G) (r : Return V G) → IsFreshFrom old.memos old.claims
    → Accepts old r new
    → IsFreshFrom new.memos new.claims

-- so does a claim that is given
abbrev pub ClaimsKeepApart : (V G : Type 0) → Type 0
ClaimsKeepApart V G =
    (old new : MemoState V G) (number : ℕ) (n : Node) (given : G) (keys : List Key)
    (values : List V)
    → IsFreshFrom old.memos old.claims → Gives old number n given keys values new
    → IsFreshFrom new.memos new.claims

-- an edit that touches nothing under a settled node leaves it settled
abbrev pub UntouchedStaysSettled : (V G : Type 0) → Type 0
UntouchedStaysSettled V G =
    (keep : Node → Bool) (old new : MemoState V G) (n : Node) → Edits keep old new
    → ((d : ℕ) → IsUntouchedBy d keep old.net new.net n) → IsSettled old.net old.memos n
    → IsSettled new.net new.memos n

-- an edit leaves the memo of each node that is kept
abbrev pub KeptIsSame : (V G : Type 0) → Type 0
KeptIsSame V G =
    (keep : Node → Bool) (old new : MemoState V G) (n : Node) → Edits keep old new → keep n ≡ true
    → memo_of n new.memos ≡ memo_of n old.memos

-- what a job held stays the present values as long as the stamps are the present ones
abbrev pub ValuesStayPresent : {T E V G : Type 0} → TextsMeaning T E V G → Type 0
ValuesStayPresent {T} {E} {V} {G} means =
    (events : List (MemoEvent E V G)) (then end : Bench T V) (keys : List Key) (values : List V)
    → MemoRun means then events end
    → IsPinned (at then.memos) then.taken (present_inputs (means.net end.texts) end.memos keys)
    values
    → Each (λ i. 0 < i.stamp) (outputs_among (present_inputs (means.net end.texts) end.memos keys))
    → ArePresent (at end.memos) keys values

-- what a job was given is what its node is given, as long as its inputs and their parts are the
-- present ones
abbrev pub GivenStaysPresent : {T E V G : Type 0} → TextsMeaning T E V G → Type 0
GivenStaysPresent {T} {E} {V} {G} means =
    (events : List (MemoEvent E V G)) (then end : Bench T V) (n : Node) (g : G)
    → means.is_valid then.texts → MemoRun means then events end
    → (means.net end.texts).inputs n ≡ (means.net then.texts).inputs n
    → Each (IsSamePart (means.net then.texts) (means.net end.texts))
    ((means.net end.texts).inputs n)
    → (means.net then.texts).gives n g ≡ true → (means.net end.texts).gives n g ≡ true

-- where no node has work and no claim is open, each used node is settled
abbrev pub QuietIsSettled : (V G : Type 0) → Type 0
QuietIsSettled V G =
    (s : MemoState V G) (rank : Node → ℕ) → Falls s.net rank → IsUsedClosed s.net → s.claims ≡ []
    → ((n : Node) → IsWork s n → ⊥) → (n : Node) → Has s.net.used n → IsSettled s.net s.memos n
