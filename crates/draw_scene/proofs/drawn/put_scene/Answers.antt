use Rattle.draw_scene.proofs.Adding.{pictured}
use Rattle.draw_scene.proofs.drawn.put_scene.Goals as goal

pub returns : goal.returns
returns c =
    pictured c.put_picture.result c.args.style.now c.args.telling.locations.now
    c.args.telling.initial_count c.args.drawing.now c.in_ok-picture.picture _ _
    c.in_ok-picture.ensures c.put_picture.ensures
