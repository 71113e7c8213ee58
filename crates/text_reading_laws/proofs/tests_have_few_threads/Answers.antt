use Rattle.text_reading_laws.proofs.Meanings.{few_threads}
use Rattle.text_reading_laws.proofs.tests_have_few_threads.Goals as goal

pub returns : goal.returns
returns c = few_threads
