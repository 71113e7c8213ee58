use Rattle.why_text.proofs.RunThreads.{show_runs}
use Rattle.why_text.proofs.origin_laws.instructions_are_of_runs.Goals as goal

pub returns : goal.returns
returns c = show_runs c.args.test.now c.args.space.now
