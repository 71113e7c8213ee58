use Rattle.why_forbidden.proofs.Sound.{sound_items}
use Rattle.why_forbidden.proofs.answer.put_body.Goals as goal

pub put_over_candidates-requires : goal.put_over_candidates-requires
put_over_candidates-requires c =
    sound_items c.args.model.now c.in-Ok.resolved.items.items c.in-Ok.ensures.fault
    (c.in-Ok.ensures.items, c.in-Ok.ensures.labels)
