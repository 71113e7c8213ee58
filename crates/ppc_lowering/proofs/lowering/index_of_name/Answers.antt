use Rattle.std.proofs.Common.{ℕ, List}
use Rattle.std.proofs.lemmas.Fn.{always_returns_same}
use Rattle.ppc_lowering.specs.Lowering.{name_cmp}
use Rattle.ppc_lowering.proofs.lowering.index_of_name.Goals as goal

pub returns-clause-position : goal.returns-clause-position
returns-clause-position c =
    c.binary_search_by.ensures.position (λ (other : List ℕ). name_cmp other c.args.name.now)
    (always_returns_same _ _ _ (λ a r f' k. (k.met.1, λ j. record { 0 = k.met.0 j })))
