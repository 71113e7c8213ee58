use Rattle.thread_runs.proofs.LineByLine.{line_by_line}
use Rattle.thread_runs.proofs.laws.runs_go_line_by_line.Goals as goal

pub returns : goal.returns
returns c = line_by_line
