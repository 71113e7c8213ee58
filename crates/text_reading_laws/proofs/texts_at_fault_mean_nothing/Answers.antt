use Rattle.text_reading_laws.proofs.Faults.{test_apart, init_apart, thread_apart, condition_apart, locations_apart, model_apart}
use Rattle.text_reading_laws.proofs.texts_at_fault_mean_nothing.Goals as goal

pub returns : goal.returns
returns c =
    record {
      test = test_apart;
      init = init_apart;
      thread = thread_apart;
      condition = condition_apart;
      locations = locations_apart;
      model = model_apart;
    }
