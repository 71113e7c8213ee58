use Rattle.bench_parts.proofs.Since.{given_is_kept}
use Rattle.bench_parts.proofs.laws.given_stays.Goals as goal

pub returns : goal.returns
returns c = λ t u n g valid since same parts gives. given_is_kept t u n g since same parts gives
