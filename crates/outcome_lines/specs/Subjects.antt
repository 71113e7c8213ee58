-- A test under a model, named, and a text that is refused.
use Rattle.std.specs.Prelude.{ℕ, List}

-- a test under a model, each by its name, and the path of the test
pub record Subject : Type 0 where
  pub path : List ℕ
  pub test : List ℕ
  pub model : List ℕ

-- the path of a text, the rule by which it was refused, as `L9`, and where: the offset, and the line
-- and the column, both from 1
pub record TextRefusal : Type 0 where
  pub path : List ℕ
  pub rule : List ℕ
  pub offset : ℕ
  pub line : ℕ
  pub column : ℕ
