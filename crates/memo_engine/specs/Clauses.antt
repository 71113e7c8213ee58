-- What the clauses of `Graph`, `Job` and `Done` say, in the words of Graph, Right, Step, Run and
-- Marks.
use Rattle.std.specs.Prelude.{◌≡◌, ◌≢◌, ℕ, List, [], Some, option_map}
use Rattle.value_store.specs.Tokens.{TokenShown}
use Rattle.value_store.specs.declared.token.StoreName.{Ghosts as NameGhosts}
use Rattle.memo_core.specs.declared.texts.Texts.{Ghosts}
use Rattle.memo_core.specs.declared.keys.Node.{Node}
use Rattle.memo_core.specs.declared.keys.Output.{Output as Made}
use Rattle.memo_engine.specs.declared.graph.Graph.{Graph}
use Rattle.memo_engine.specs.declared.job.Job.{Job}
use Rattle.memo_engine.specs.declared.job.Done.{Done}
use Rattle.memo_core.specs.Graph.{at, memo_of, named_values, IsSettled}
use Rattle.memo_core.specs.Right.{Making, ArePresent, IsRight, CountsAsComputed, IsMadeNow}
use Rattle.memo_core.specs.Views.{as_memos, shown_outputs, shown_values}
use Rattle.memo_core.specs.declared.claims.Finish.{Finish}
use Rattle.memo_core.specs.declared.claims.Finish.TheVariants.{Unknown, Stale, Same, Stored}
use Rattle.memo_core.specs.Step.{MemoState, Return, state, return_of, Gives, FinishesReturn, open_claims, AreClaimsNumbered}
use Rattle.memo_core.specs.Run.{Bench, IsFreshFrom, RefusesCall}
use Rattle.memo_core.specs.Laws.{meaning}
use Rattle.memo_core.specs.Marks.{IsMarkedTo}

module _ {K T V G E P F : Type 0} {k : NameGhosts K} {t : Ghosts T V G E P F} where
  -- what the texts say, what is kept, what is out, and how many numbers are taken
  abbrev pub state_of : Graph K T V G E P F k t → MemoState V G
  state_of g = state (t.net g.texts) g.memos.entries g.claims.entries g.taken

  -- the graph as lists of events see it
  abbrev pub bench_of : Graph K T V G E P F k t → Bench T V
  bench_of g =
      record {
        texts = g.texts;
        memos = as_memos g.memos.entries;
        claims = open_claims g.claims.entries;
        taken = g.taken;
      }

  -- the call is refused: all is as it was, but that the texts may have more room
  abbrev pub IsRefused : Graph K T V G E P F k t → Graph K T V G E P F k t → Type 0
  IsRefused old new =
      RefusesCall (meaning t.net t.is_valid t.since t.makes t.keeps t.edited t.last) (bench_of old)
      (bench_of new)

  -- the texts are valid, and each memo was computed from values that its inputs have as long as
  -- their stamps are the present ones
  abbrev pub HasRightMemos : Graph K T V G E P F k t → Type 0
  HasRightMemos g =
      t.is_valid g.texts
      × IsRight (CountsAsComputed t.since t.net t.makes g.texts) (t.net g.texts)
      (as_memos g.memos.entries)
      g.taken

  -- no claim that is out repeats another, or what a memo holds, and its number was given
  abbrev pub HasFreshClaims : Graph K T V G E P F k t → Type 0
  HasFreshClaims g =
      IsFreshFrom (as_memos g.memos.entries) (open_claims g.claims.entries)
      × AreClaimsNumbered g.taken (open_claims g.claims.entries)

  -- the marks say which used nodes are settled
  abbrev pub IsMarked : Graph K T V G E P F k t → Type 0
  IsMarked g = IsMarkedTo (t.net g.texts) g.memos.entries []

  -- the job is that of a claim which this step gives
  abbrev pub GivesJob : Graph K T V G E P F k t → Job K T V G E P F k → Graph K T V G E P F k t
      → Type 0
  GivesJob old j new =
      Gives (state_of old) j.claim j.node j.given j.keys.items (shown_values j.values.items)
      (state_of new)

  abbrev pub IsSettledIn : Graph K T V G E P F k t → Node → Type 0
  IsSettledIn g n = IsSettled (t.net g.texts) (as_memos g.memos.entries) n

  -- these outputs are those of the node's memo
  abbrev pub ShowsStored : Graph K T V G E P F k t → Node → List (Made (TokenShown V)) → Type 0
  ShowsStored g n outputs =
      option_map (λ m. m.outputs) (memo_of n (as_memos g.memos.entries))
      ≡ Some (shown_outputs outputs)

  -- these outputs are what the node makes of what its job is given now and of the present values of
  -- its present inputs
  abbrev pub ShowsSolved : Graph K T V G E P F k t → Node → List (Made (TokenShown V)) → Type 0
  ShowsSolved g n outputs =
      (values : List V)
      × ArePresent (at (as_memos g.memos.entries)) ((t.net g.texts).inputs n) values
      × IsMadeNow t.makes (t.net g.texts) n values (named_values (shown_outputs outputs))

module _ {K T V G E P F : Type 0} where
  -- the return as plain data
  abbrev pub return_from : Done K T V G E P F → Return V G
  return_from d =
      return_of d.claim d.node d.given d.keys.items (shown_values d.values.items)
      (shown_outputs d.outputs.items)

  -- the return answers the job, with what it was given and its values
  abbrev pub IsOfJob : {k : NameGhosts K} → Job K T V G E P F k → Done K T V G E P F → Type 0
  IsOfJob j d =
      (d.claim ≡ j.claim) × (d.node ≡ j.node) × (d.given ≡ j.given) × (d.keys ≡ j.keys)
      × (d.values ≡ j.values)

  -- the return's outputs are what running its node makes of what it was given and of its values
  abbrev pub IsComputed : Making V G → Done K T V G E P F → Type 0
  IsComputed makes d =
      makes d.node d.given d.keys.items (shown_values d.values.items)
      (named_values (shown_outputs d.outputs.items))

module _ {K T V G E P F : Type 0} {k : NameGhosts K} {t : Ghosts T V G E P F} where
  -- the return was taken, so answered, and what holds between calls holds again
  pub record IsReturnTaken (old : Graph K T V G E P F k t) (d : Done K T V G E P F)
      (finish : Finish)
      (new : Graph K T V G E P F k t) : Type 0 where
    pub right : HasRightMemos new
    pub fresh : HasFreshClaims new
    pub marks : IsMarked new
    pub step : FinishesReturn (state_of old) (return_from d) finish (state_of new)

-- these are the names, of outputs of this node, that the answer to an accepted return tells
abbrev pub TellsChangedNames : Node → List ℕ → Finish → Type 0
TellsChangedNames n names Same = names ≡ []
TellsChangedNames n names (Stored told) =
    (told.names.items ≡ names) × (names ≢ []) × (told.node ≡ n)
TellsChangedNames n names Unknown = ⊥
TellsChangedNames n names (Stale stamp) = ⊥
