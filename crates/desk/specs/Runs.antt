-- How the bench behind a lock came to be. Read it after Held.
use Rattle.std.specs.Prelude.{List}
use Rattle.memo_core.specs.Run.{Bench, MemoEvent, TextsMeaning, MemoRun, IsNewBench}

-- some list of events leads to the bench from a new one
pub record IsReachedByEvents {T E V G : Type 0} (means : TextsMeaning T E V G) (b : Bench T V) : Type 0 where
  pub first : Bench T V
  pub events : List (MemoEvent E V G)
  pub is_new : IsNewBench means.is_valid means.net first
  pub run : MemoRun means first events b
