use Rattle.std.proofs.Common.{◌≡◌, take, arith}
use Rattle.std.proofs.lemmas.List.{take_all}
use Rattle.from_scratch.proofs.Letting.{last_none, last_more}
use Rattle.from_scratch.proofs.keeping.LastUsers.among.Goals as goal

pub loop-at-init : goal.loop-at-init
loop-at-init c = last_none c.args.items.now c.args.indexes.now c.in_ok-last.last

pub loop-at-preserved : goal.loop-at-preserved
loop-at-preserved c =
    last_more c.args.items.now c.args.indexes.now c.loop-at.at-index 0 c.loop-at.last
    c.note_item.new.self c.requires (omega arith) c.loop-at.invariant c.note_item.ensures

pub returns : goal.returns
returns c =
    let whole : take c.loop-at.at-index c.args.indexes.now ≡ c.args.indexes.now = take_all c.loop-at.at-index c.args.indexes.now (omega arith) in
    rw whole at c.loop-at.invariant
