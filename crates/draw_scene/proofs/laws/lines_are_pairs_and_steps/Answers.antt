use Rattle.draw_scene.proofs.Meaning.{each_line_is}
use Rattle.draw_scene.proofs.laws.lines_are_pairs_and_steps.Goals as goal

pub returns : goal.returns
returns c = each_line_is
