use Rattle.std.proofs.Common.{◌∙◌, arith}
use Rattle.session_script.proofs.Joined.{goes_on}
use Rattle.session_script.proofs.sink.write_whole.Goals as goal

pub loop-at-preserved : goal.loop-at-preserved
loop-at-preserved g c = (
  grind (arith, c.in-Ok.ensures.bound),
  c.in-Ok.ensures.ok ∙ c.loop-at.invariant.1,
  goes_on _ _ _ _ _ _ c.loop-at.invariant.2 c.in-Ok.ensures.bytes,
)
