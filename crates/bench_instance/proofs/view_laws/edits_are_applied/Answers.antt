use Rattle.board.proofs.Histories.{contents_are_those}
use Rattle.bench_instance.proofs.Contents.{edit_is_applied}
use Rattle.bench_instance.proofs.view_laws.edits_are_applied.Goals as goal

pub returns-clause-applied : goal.returns-clause-applied
returns-clause-applied c = edit_is_applied

pub returns-clause-contents : goal.returns-clause-contents
returns-clause-contents c = contents_are_those
