-- Read this first: what marks show.
use Rattle.std.specs.Prelude.{List}
use Rattle.memo_core.specs.Graph.{Memo}
use Rattle.memo_core.specs.Views.{MemoEntry, as_memos}

-- texts, and what is kept of computations on them
pub record Marked (T V : Type 0) : Type 0 where
  pub texts : T
  pub memos : List (Memo V)

abbrev pub marked : {T V : Type 0} → T → List (MemoEntry V) → Marked T V
marked texts memos = record { texts = texts; memos = as_memos memos }
