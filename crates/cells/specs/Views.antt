-- How jobs and returns are read as plain data, and what holds of a bench and of a return at all
-- times.
use Rattle.std.specs.Prelude.{◌≡◌, ◌≤◌, ℕ, List, [], Vec, length, vec_len, vec_capacity}
use Rattle.std.specs.Global.{Global}
use Rattle.value_store.specs.Tokens.{TokenShown}
use Rattle.memo_core.specs.declared.keys.Node.{Node}
use Rattle.memo_core.specs.declared.keys.Key.{Key}
use Rattle.memo_core.specs.declared.keys.Output.{Output as Made}
use Rattle.memo_core.specs.declared.claims.Claim.{Claim}
use Rattle.memo_core.specs.Graph.{named_values}
use Rattle.memo_core.specs.Right.{Making, IsRight, CountsAsComputed}
use Rattle.memo_core.specs.Views.{MemoEntry, as_memos, shown_outputs}
use Rattle.memo_core.specs.Step.{Return, open_claims, AreClaimsNumbered}
use Rattle.memo_core.specs.Run.{Bench, TextsMeaning, IsFreshFrom}
use Rattle.memo_core.specs.Marks.{IsMarkedTo}

-- a job: the number of its claim, its node, what it is given of the texts, its inputs and their
-- values
pub record Task (V G : Type 0) : Type 0 where
  pub claim : ℕ
  pub node : Node
  pub given : G
  pub keys : List Key
  pub values : List V

abbrev pub task_of : {V G : Type 0} → ℕ → Node → G → List Key → List V → Task V G
task_of claim node given keys values =
    record { claim = claim; node = node; given = given; keys = keys; values = values }

-- the job that a return answers, with what it was given and its values
abbrev pub task_answered : {V G : Type 0} → Return V G → Task V G
task_answered r = task_of r.claim r.node r.given r.keys r.values

-- a return's outputs are what running its node makes, with room for their names
pub record IsJobAnswer {V G : Type 0} (makes : Making V G) (n : Node) (given : G) (keys : List Key)
    (values : List V) (outputs : List (Made (TokenShown V))) (names : Vec ℕ Global) : Type 0 where
  pub computed : makes n given keys values (named_values (shown_outputs outputs))
  pub empty : vec_len names ≡ 0
  pub room : length outputs ≤ vec_capacity names

-- a bench as plain data: its texts, its memos, what is out, and how many numbers are taken
abbrev pub plain_bench : {T V : Type 0} → T → List (MemoEntry V) → List (ℕ × Claim) → ℕ → Bench T V
plain_bench texts memos claims taken =
    record { texts = texts; memos = as_memos memos; claims = open_claims claims; taken = taken }

-- its memos are right, its claims apart, its marks true
pub record IsSoundBench {T E V G : Type 0} (means : TextsMeaning T E V G) (texts : T)
    (memos : List (MemoEntry V)) (claims : List (ℕ × Claim)) (taken : ℕ) : Type 0 where
  pub right : means.is_valid texts
      × IsRight (CountsAsComputed means.since means.net means.makes texts) (means.net texts)
      (as_memos memos) taken
  pub fresh : IsFreshFrom (as_memos memos) (open_claims claims)
      × AreClaimsNumbered taken (open_claims claims)
  pub marks : IsMarkedTo (means.net texts) memos []

-- What holds of a bench at all times: its texts are valid, each memo holds what its node makes of
-- its inputs as long as their stamps are the recorded ones, no two claims that are out are of one
-- node with the same inputs and stamps, none repeats a memo, and the number of each was given.
pub record IsRightBench {T E V G : Type 0} (means : TextsMeaning T E V G) (b : Bench T V)
    : Type 0 where
  pub valid : means.is_valid b.texts
  pub right : IsRight (CountsAsComputed means.since means.net means.makes b.texts)
      (means.net b.texts)
      b.memos b.taken
  pub fresh : IsFreshFrom b.memos b.claims
  pub numbered : AreClaimsNumbered b.taken b.claims
