use Rattle.bench_text_laws.proofs.Results.{result_one}
use Rattle.bench_text_laws.proofs.one_result.results_are_one.Goals as goal

pub returns : goal.returns
returns c = λ e. result_one c.args.texts.now e
