-- Small numbers and one more are small numbers.
use Rattle.std.proofs.Common.{List, [], ◌∷◌, ◌++◌}
use Rattle.tests_desk.specs.declared.sums.Addend.{Addend}
use Rattle.tests_desk.specs.Sums.{IsSmall, AreSmallNumbers}

pub small_more : (ops : List Addend) (op : Addend) → AreSmallNumbers ops → IsSmall op
    → AreSmallNumbers (ops ++ op ∷ [])
small_more [] op all one = (one, tt)
small_more (o ∷ ops) op all one = (all.0, small_more ops op all.1 one)
