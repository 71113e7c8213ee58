use Rattle.cat_eval.proofs.Blocks.{blocks_with, has_kept, has_last}
use Rattle.cat_eval.proofs.table.Table.add_block.Goals as goal

pub returns-clause-right : goal.returns-clause-right
returns-clause-right c =
    λ candidates block right. rw c.in_ok-push.ensures.items (blocks_with
    c.args.self.now.blocks.items c.args.block candidates right block)

pub returns-clause-kept : goal.returns-clause-kept
returns-clause-kept c =
    λ name has.
    rw c.in_ok-push.ensures.items (has_kept c.args.self.now.blocks.items c.args.block name has)

pub returns-clause-there : goal.returns-clause-there
returns-clause-there c =
    λ name inside.
    rw c.in_ok-push.ensures.items (has_last c.args.self.now.blocks.items c.args.block name inside)

pub returns-in_err-push-clause-kept : goal.returns-in_err-push-clause-kept
returns-in_err-push-clause-kept c = λ name has. rw c.in_err-push.ensures.items has
