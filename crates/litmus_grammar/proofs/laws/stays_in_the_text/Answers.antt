use Rattle.litmus_grammar.proofs.Bounds.{all_kept}
use Rattle.litmus_grammar.proofs.laws.stays_in_the_text.Goals as goal

pub returns : goal.returns
returns c = all_kept
