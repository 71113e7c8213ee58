use Rattle.litmus_laws.proofs.Parts.{init_refusal, thread_refusal, locations_refusal, condition_refusal}
use Rattle.litmus_laws.proofs.laws.refusals_of_parts.Goals as goal

pub returns : goal.returns
returns c = record {
  init = λ ps rule offset f. init_refusal ps rule offset f;
  thread = λ ps rule offset f. thread_refusal ps rule offset f;
  locations = λ threads ps rule offset f. locations_refusal ps rule offset threads f;
  condition = λ threads ps rule offset f. condition_refusal ps rule offset threads f;
}
