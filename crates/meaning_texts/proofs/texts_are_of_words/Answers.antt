use Rattle.meaning_texts.proofs.Reading.{all_read}
use Rattle.meaning_texts.proofs.texts_are_of_words.Goals as goal

pub returns : goal.returns
returns c = λ bytes t read. all_read bytes t read
