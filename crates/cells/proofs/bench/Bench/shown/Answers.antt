use Rattle.std.proofs.Common.{◌≡◌, Some, sym, subst}
use Rattle.memo_core.specs.Run.{Bench}
use Rattle.cells.proofs.bench.Bench.shown.Goals as goal

pub shown_at-requires : goal.shown_at-requires
shown_at-requires g c =
    let is = subst (λ (b : Bench _ _). g.T.CellTexts.verdict_of b.texts c.args.test.now c.args.model.now ≡ Some c.in-Some.verdict) c.self.view_is (sym c.in-Some.ensures) in
    (c.args.test.now, c.args.model.now, is)
