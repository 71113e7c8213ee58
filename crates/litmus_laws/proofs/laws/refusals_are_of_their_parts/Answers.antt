use Rattle.litmus_laws.proofs.Parts.{parts_whole, stage_of_part, refusal_of_part}
use Rattle.litmus_laws.proofs.laws.refusals_are_of_their_parts.Goals as goal

pub returns : goal.returns
returns c = record { whole = parts_whole; stage = stage_of_part; refusal = refusal_of_part }
