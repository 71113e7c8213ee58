use Rattle.draw_scene.proofs.Adding.{laid}
use Rattle.draw_scene.proofs.drawn.put_picture.Goals as goal

pub returns-in-Ok : goal.returns-in-Ok
returns-in-Ok c =
    laid c.put_svg.result c.args.style.now c.args.picture.now c.in-Ok.layout _ _ c.in-Ok.ensures
    c.put_svg.ensures
