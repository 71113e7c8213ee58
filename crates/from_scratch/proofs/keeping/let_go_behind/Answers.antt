use Rattle.std.proofs.Common.{◌+◌}
use Rattle.from_scratch.specs.Keeping.{IsGone}
use Rattle.from_scratch.proofs.Letting.{lets_none, lets_more}
use Rattle.from_scratch.proofs.keeping.let_go_behind.Goals as goal

pub loop-name-init : goal.loop-name-init
loop-name-init c = lets_none (IsGone c.args.last.now (c.args.at + 1)) c.args.columns.now

pub loop-name-preserved : goal.loop-name-preserved
loop-name-preserved c =
    lets_more (IsGone c.args.last.now (c.args.at + 1)) c.args.columns.now c.loop-name.columns
    c.let_go_if_gone.new.columns c.loop-name.invariant c.let_go_if_gone.ensures

pub returns : goal.returns
returns c = c.loop-name.invariant
