use Rattle.std.proofs.Common.{◌∙◌}
use Rattle.memo_core.proofs.Slots.{tokens_found, no_tokens}
use Rattle.memo_core.proofs.table.stored_outputs.Goals as goal

pub returns-in-Some-clause-tokens : goal.returns-in-Some-clause-tokens
returns-in-Some-clause-tokens g c =
    c.as_slice.ensures.value
    ∙ tokens_found c.args.node c.args.memos.now.entries c.in-Some.kept.now c.in-Some.ensures.found

pub returns-in-None-clause-tokens : goal.returns-in-None-clause-tokens
returns-in-None-clause-tokens g c =
    no_tokens c.args.node c.args.memos.now.entries c.in-None.ensures.found
