use Rattle.bench_laws.proofs.OutputNames.{outputs_have_their_names}
use Rattle.bench_laws.proofs.OneOutput.{others_have_one_output}
use Rattle.bench_laws.proofs.ToldOutputs.{returns_tell_outputs}
use Rattle.bench_laws.proofs.NamedOutputs.{returns_name_outputs}
use Rattle.bench_laws.proofs.laws.outputs_have_their_names.Goals as goal

pub returns : goal.returns
returns c =
    record {
      items = outputs_have_their_names;
      others = others_have_one_output;
      told = returns_tell_outputs;
      named = returns_name_outputs;
    }
