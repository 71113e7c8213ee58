use Rattle.why_witness.proofs.OneReason.{one_refusal}
use Rattle.why_witness.proofs.laws.refusal_is_one.Goals as goal

pub returns : goal.returns
returns c = one_refusal
