use Rattle.escaped_texts.proofs.Escaping.{each_is_safe, has_entities_only, text_is_read}
use Rattle.escaped_texts.proofs.Balancing.{stays_in_content, stays_in_quotes}
use Rattle.escaped_texts.proofs.html_laws.texts_are_no_markup.Goals as goal

pub returns-clause-bytes : goal.returns-clause-bytes
returns-clause-bytes c = each_is_safe

pub returns-clause-read : goal.returns-clause-read
returns-clause-read c = text_is_read

pub returns-clause-entities : goal.returns-clause-entities
returns-clause-entities c = has_entities_only

pub returns-clause-content : goal.returns-clause-content
returns-clause-content c = stays_in_content

pub returns-clause-value : goal.returns-clause-value
returns-clause-value c = stays_in_quotes
