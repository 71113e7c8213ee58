use Rattle.std.proofs.Common.{arith, sym, ◌∙◌}
use Rattle.command_line.proofs.Found.{found_more, found_all}
use Rattle.command_line.proofs.form.words_from.Goals as goal

pub loop-i-preserved : goal.loop-i-preserved
loop-i-preserved c =
    found_more c.loop-i.found.items c.push.new.self.items c.word_at.result c.args.words.now
    c.loop-i.i c.args.index c.in_ok-push.ensures.items c.word_at.ensures (omega arith)
    c.loop-i.invariant

pub returns : goal.returns
returns c =
    sym (found_all c.loop-i.found.items c.args.words.now c.loop-i.i (omega arith))
    ∙ c.loop-i.invariant
