use Rattle.std.proofs.Common.{◌≡◌, take, arith}
use Rattle.std.proofs.lemmas.List.{take_all}
use Rattle.from_scratch.proofs.Letting.{notes_none, notes_more}
use Rattle.from_scratch.proofs.keeping.LastUsers.note_all.Goals as goal

pub loop-name-init : goal.loop-name-init
loop-name-init c = notes_none c.args.user c.args.names.now c.args.self.now

pub loop-name-preserved : goal.loop-name-preserved
loop-name-preserved c =
    notes_more c.args.user c.args.names.now c.loop-name.name-index _ c.args.self.now
    c.loop-name.self c.note.new.self (omega arith) c.loop-name.invariant c.note.ensures

pub returns : goal.returns
returns c =
    let whole : take c.loop-name.name-index c.args.names.now ≡ c.args.names.now = take_all c.loop-name.name-index c.args.names.now (omega arith) in
    rw whole at c.loop-name.invariant
