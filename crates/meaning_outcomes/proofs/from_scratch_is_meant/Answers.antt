use Rattle.meaning_outcomes.proofs.Meant.{all_meant, all_one}
use Rattle.meaning_outcomes.proofs.from_scratch_is_meant.Goals as goal

pub returns : goal.returns
returns c = record {
  meant = λ model o h. all_meant c.args.test.now c.test_is_of_words.ensures model o h;
  one = λ model o p h g. all_one c.args.test.now c.test_is_of_words.ensures model o p h g;
}
