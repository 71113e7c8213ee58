-- Operations that were appended, and those that readers see. Read this file first, then Rules.
use Rattle.std.specs.Prelude.{List, fold}

-- the operations of a desk
pub record Pressed (O : Type 0) : Type 0 where
  pub all : List O  -- those that were appended: the published operations, and then the pending ones
  pub published : List O  -- those that readers see

-- what readers see once these beginnings of the history were taken in, one after another
abbrev pub latest : {O : Type 0} → List O → List (List O) → List O
latest shown waiting = fold (λ ops posted. posted) shown waiting
