use Rattle.litmus_ppc.proofs.Keys.{adds, repeats}
use Rattle.litmus_ppc.proofs.init.InitBlock.add.Goals as goal

pub returns-then-branch : goal.returns-then-branch
returns-then-branch c =
    let s = c.args.self.now in
    adds s.entries.items s.starts.items s.named.keys c.args.key c.in_ok-insert.field-0
    c.in_ok-insert.ensures.added c.insert.new.self.keys c.if-branch.true
    c.in_ok-insert.ensures.keys

pub returns-else-branch : goal.returns-else-branch
returns-else-branch c =
    let s = c.args.self.now in
    repeats s.entries.items s.starts.items s.named.keys c.args.key c.in_ok-insert.field-0
    c.in_ok-insert.ensures.added c.if-branch.false
