-- What the code says of a test under a model, in the definitions.
use Rattle.std.specs.Prelude.{map}
use Rattle.meaning.specs.Outcome as outcome
use Rattle.meaning.specs.Evaluates as evaluates
use Rattle.plain_domains.specs.Domains.{refusal_as}
use Rattle.plain_faults.specs.Found.{fault_as}
use Rattle.plain_runs.specs.Locations.{names_as}
use Rattle.plain_outcomes.specs.declared.evaluation.Observation.{Observation}
use Rattle.plain_outcomes.specs.declared.evaluation.Observation.TheVariants.{Never, Sometimes, Always}
use Rattle.plain_outcomes.specs.declared.evaluation.Evaluation.{Evaluation}
use Rattle.plain_outcomes.specs.declared.evaluation.Outcome.{Outcome}
use Rattle.plain_outcomes.specs.declared.evaluation.Outcome.TheVariants.{Faulty, Refused, Evaluated}
use Rattle.plain_outcomes.specs.States.{counted_as}

abbrev pub observation_as : Observation → outcome.Observation
observation_as Never = outcome.Never
observation_as Sometimes = outcome.Sometimes
observation_as Always = outcome.Always

abbrev pub evaluation_as : Evaluation → outcome.Evaluation
evaluation_as e = record {
  states = map counted_as e.states.items;
  positive = e.positive;
  negative = e.negative;
  observation = observation_as e.observation;
  ok = e.ok;
  flags = names_as e.flags.items;
}

abbrev pub outcome_as : Outcome → evaluates.Outcome
outcome_as (Faulty f) = evaluates.Faulty (fault_as f)
outcome_as (Refused r) = evaluates.Refused (refusal_as r)
outcome_as (Evaluated e) = evaluates.Evaluated (evaluation_as e)
