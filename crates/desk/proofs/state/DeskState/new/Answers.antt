use Rattle.std.proofs.Common.{arith}
use Rattle.memo_core.specs.Laws.{meaning}
use Rattle.desk.proofs.Reaching.{reached_new}
use Rattle.desk.proofs.Refusing.{never}
use Rattle.desk.proofs.state.DeskState.new.Goals as goal

pub invariant_of-result : goal.invariant_of-result
invariant_of-result g c =
    let means = meaning g.X.Texts.net g.X.Texts.is_valid g.X.Texts.since g.X.Texts.makes g.X.Texts.keeps g.X.Texts.edited g.X.Texts.last in
    let none = g.met.X.BoardTexts.number_none in
    let all = c.requires.press.0 in (
      c.requires.new.valid,
      rw all c.requires.after,
      rw all (omega (arith, none)),
      λ owes. absurd (never owes),
      reached_new means c.args.bench c.requires.new,
    )
