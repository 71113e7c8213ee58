use Rattle.relation_columns.proofs.Keeping.{few_events, high_words, low_words, value_read}
use Rattle.relation_columns.proofs.spans.read_value.Goals as goal

pub read_from-requires-clause-few : goal.read_from-requires-clause-few
read_from-requires-clause-few c = few_events _ _ _ _ c.requires.kept c.requires.run

pub read_from-requires-clause-low : goal.read_from-requires-clause-low
read_from-requires-clause-low c = low_words _ _ _ _ c.requires.kept c.requires.run

pub read_from-requires-clause-high : goal.read_from-requires-clause-high
read_from-requires-clause-high c = high_words _ _ _ _ c.requires.kept c.requires.run

pub returns : goal.returns
returns c = value_read _ _ _ _ _ c.requires.kept c.requires.run c.read_from.ensures
