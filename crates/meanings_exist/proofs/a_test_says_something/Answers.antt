use Rattle.text_values.specs.TestValue.{content_of}
use Rattle.meanings_exist.proofs.a_test_says_something.Goals as goal

pub returns : goal.returns
returns c = c.a_meaning_exists.ensures (content_of c.args.test.now) c.test_is_of_words.ensures
