use Rattle.std.proofs.Common.{◌≡◌, arith}
use Rattle.bit_rows.specs.Relation.{Has, IsRelation}
use Rattle.cat_machine.specs.Meaning.{Blended}
use Rattle.cat_machine.proofs.Slots.{parted}
use Rattle.cat_machine.proofs.stack.blend_top.Goals as goal

pub returns : goal.returns
returns c =
    let e = c.split_at_mut-prefix.ensures in
    parted (λ r v w. w.count ≡ v.count → IsRelation r v.count (Blended c.args.how (Has v) (Has w)))
    c.args.slots.now _ _ c.args.live c.index-prefix-live.result c.index-back-0.result
    c.blend_into.new.left c.requires.two e.value e.front_len
    (omega (arith, e.back_len, c.requires.inside, c.requires.two)) c.index-prefix-live.is
    c.index-back-0.is (rw (← c.index-prefix-live.is, ← c.index-back-0.is) at
    c.blend_into.ensures)
