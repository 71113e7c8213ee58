use Rattle.bench_laws.proofs.Refusals.{refused_changes_nothing, refused_edit_changes_nothing}
use Rattle.bench_laws.proofs.laws.refused_edits_change_nothing.Goals as goal

pub returns : goal.returns
returns c = record { calls = refused_changes_nothing; edits = refused_edit_changes_nothing }
