use Rattle.escaped_texts.proofs.Balancing.{text_is_balanced, parts_together, element_is_balanced, void_is_balanced}
use Rattle.escaped_texts.proofs.html_laws.elements_are_balanced.Goals as goal

pub returns-clause-texts : goal.returns-clause-texts
returns-clause-texts c = text_is_balanced

pub returns-clause-parts : goal.returns-clause-parts
returns-clause-parts c = parts_together

pub returns-clause-elements : goal.returns-clause-elements
returns-clause-elements c = element_is_balanced

pub returns-clause-void_elements : goal.returns-clause-void_elements
returns-clause-void_elements c = void_is_balanced
