use Rattle.bench_instance.proofs.Indexes.{is_announced}
use Rattle.bench_instance.proofs.board_texts.StampedTextsBoardTexts.announce.Goals as goal

pub returns : goal.returns
returns c =
    let here = c.texts.ensures in
    let edit = c.in_ok-new.field-0 in
    let made = c.in_ok-new.ensures in
    is_announced c.args.self.now c.args.prepared.now c.args.number edit c.texts.result.now
    c.texts-2.result.now
    here c.texts-2.ensures made.number made.prepared made.follows
