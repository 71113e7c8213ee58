use Rattle.text_values.specs.TestValue.{content_of}
use Rattle.meaning_texts.proofs.Reading.{all_read}
use Rattle.meaning_outcomes.proofs.Meant.{all_meant}
use Rattle.meaning_answers.proofs.readings.readings_are_meant.Goals as goal

pub returns : goal.returns
returns c = λ bytes test read model o h.
    all_meant test (all_read bytes (content_of test) read) model o h
