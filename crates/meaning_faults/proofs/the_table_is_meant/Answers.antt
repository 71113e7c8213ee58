use Rattle.std.proofs.Common.{refl}
use Rattle.meaning_faults.proofs.the_table_is_meant.Goals as goal

pub returns : goal.returns
returns c = refl
