use Rattle.session_laws.proofs.FileReports.{one_table, one_difference}
use Rattle.session_laws.proofs.reports_are_one.Goals as goal

pub returns : goal.returns
returns c = record { table = one_table; difference = one_difference }
