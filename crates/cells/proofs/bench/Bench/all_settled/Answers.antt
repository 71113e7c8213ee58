use Rattle.std.proofs.Common.{sym, subst}
use Rattle.memo_core.specs.Run.{Bench}
use Rattle.cells.specs.Cells.{AllAreSettled}
use Rattle.cells.proofs.bench.Bench.all_settled.Goals as goal

-- src/bench.rt:243:5
pub returns-clause-no : goal.returns-clause-no
returns-clause-no g c =
    λ f all. let open_node = c.all_settled.ensures.no f in
    let settled = subst (λ (b : Bench _ _). AllAreSettled g.T.Texts.net b) (sym c.self.view_is) all in
    open_node.2 (settled open_node.0 open_node.1)
