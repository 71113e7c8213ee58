use Rattle.bench_edits.proofs.Touching.{edit_touches}
use Rattle.bench_edits.proofs.laws.edits_touch_only.Goals as goal

pub returns : goal.returns
returns c = edit_touches
