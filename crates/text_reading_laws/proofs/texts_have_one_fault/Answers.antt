use Rattle.text_reading_laws.proofs.Faults.{one_test_fault, one_init_fault, one_thread_fault, one_condition_fault, one_locations_fault, one_model_fault}
use Rattle.text_reading_laws.proofs.texts_have_one_fault.Goals as goal

pub returns : goal.returns
returns c =
    record {
      test = one_test_fault;
      init = one_init_fault;
      thread = one_thread_fault;
      condition = one_condition_fault;
      locations = one_locations_fault;
      model = one_model_fault;
    }
