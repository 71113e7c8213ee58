use Rattle.std.proofs.Common.{rules, below_more}
use Rattle.session_script.proofs.Parted.{gap_found, gap_absent}
use Rattle.session_script.proofs.words.word_length.Goals as goal

pub returns-then-is_gap-clause-value : goal.returns-then-is_gap-clause-value
returns-then-is_gap-clause-value c =
    gap_found c.args.bytes.now c.loop-i.i (search rules) c.loop-i.invariant (search rules)

pub loop-i-preserved : goal.loop-i-preserved
loop-i-preserved c = below_more _ _ c.loop-i.invariant (search rules)

pub returns-clause-value : goal.returns-clause-value
returns-clause-value c = gap_absent c.args.bytes.now c.loop-i.i (search rules) c.loop-i.invariant
