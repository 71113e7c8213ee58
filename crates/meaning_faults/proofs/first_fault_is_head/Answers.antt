use Rattle.meaning_faults.proofs.Models.{first_is_head, no_fault_is_none}
use Rattle.meaning_faults.proofs.first_fault_is_head.Goals as goal

pub returns : goal.returns
returns c = record { first = first_is_head; none = no_fault_is_none }
