use Rattle.draw_scene.proofs.Adding.{captioned}
use Rattle.draw_scene.proofs.drawn.put_figure.Goals as goal

pub returns : goal.returns
returns c =
    captioned c.put_scene.result c.args.telling.locations.now c.args.telling.initial_count
    c.args.drawing.now c.args.text.now.items c.put_caption.new.text.items _
    c.in_ok-put_caption.ensures c.put_scene.ensures
