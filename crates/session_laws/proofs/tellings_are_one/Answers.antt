use Rattle.session_laws.proofs.Tellings.{one_model_told, one_test_told, one_told_of_both, one_fault_told}
use Rattle.session_laws.proofs.tellings_are_one.Goals as goal

pub returns : goal.returns
returns c =
    record {
      model = one_model_told;
      test = one_test_told;
      both = one_told_of_both;
      fault = one_fault_told;
    }
