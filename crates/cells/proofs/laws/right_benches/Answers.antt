use Rattle.std.proofs.Common.{subst, sym}
use Rattle.cells.proofs.Solved.{bench_solved, carries_one}
use Rattle.cells.proofs.laws.right_benches.Goals as goal

pub returns : goal.returns
returns g c =
    let t = g.T.Texts in
    let of = g.T.CellTexts in
    let laws = g.met.T.Texts in
    λ b keeps test model o is.
    let solved = bench_solved t.is_valid t.since t.net t.makes t.is_there laws.given_stays laws.sound laws.used_there laws.used_closed b.texts b.memos b.taken keeps.valid keeps.right in
    let held = g.met.T.CellTexts.solved b.texts test model keeps.valid b.memos is.verdict solved is.is is.settled in
    let one = carries_one of.outcome_in b.memos is.verdict o held.0 is.carries held.1 in
    subst (λ x. of.from_scratch b.texts test model x) (sym one) held.2
