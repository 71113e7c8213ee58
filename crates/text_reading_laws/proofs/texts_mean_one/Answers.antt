use Rattle.text_reading_laws.proofs.Meanings.{one_test, one_init, one_thread, one_condition, one_list, one_model}
use Rattle.text_reading_laws.proofs.texts_mean_one.Goals as goal

pub returns : goal.returns
returns c =
    record {
      test = one_test;
      init = one_init;
      thread = one_thread;
      condition = one_condition;
      locations = one_list;
      model = one_model;
    }
