use Rattle.std.proofs.Common.{true}
use Rattle.memo_core.proofs.JudgeLemmas.{has_yes}
use Rattle.memo_engine.specs.declared.waiting.Waiting.{Waiting}
use Rattle.memo_engine.proofs.WaitingLemmas.{whole_idle, idle_whole}
use Rattle.memo_engine.proofs.MarkLemmas.{has_at, work_at}
use Rattle.memo_engine.proofs.work.find_node.Goals as goal

pub returns-in-Some-clause-used : goal.returns-in-Some-clause-used
returns-in-Some-clause-used g c =
    has_yes c.in-Some.node (g.T.Texts.net c.args.texts.now).used c.in-Some.ensures.used

pub returns-in-Some-find_work-clause-used : goal.returns-in-Some-find_work-clause-used
returns-in-Some-find_work-clause-used g c =
    has_at (g.T.Texts.net c.args.texts.now).used c.in-Some-find_work.at c.used_at.result
    c.used_at.ensures.at

pub returns-in-Some-find_work-clause-work : goal.returns-in-Some-find_work-clause-work
returns-in-Some-find_work-clause-work g c =
    work_at (g.T.Texts.net c.args.texts.now) c.args.memos.now.entries c.args.claims.now.entries
    c.in-Some-find_work.at c.in-Some-find_work.ensures.found c.used_at.result c.used_at.ensures.at

pub returns-then-waiting-clause-none : goal.returns-then-waiting-clause-none
returns-then-waiting-clause-none g c =
    whole_idle (g.T.Texts.net c.args.texts.now) c.args.memos.now.entries c.args.claims.now.entries
    c.find_waiting.new.waiting (c.find_waiting.ensures.whole c.requires.whole) c.if-waiting.true
    c.in_default.ensures.none

pub returns-in-None-clause-whole : goal.returns-in-None-clause-whole
returns-in-None-clause-whole g c =
    let w : Waiting = record { nodes = c.find_waiting.new.waiting.nodes; is_whole = true } in
    idle_whole (g.T.Texts.net c.args.texts.now) c.args.memos.now.entries c.args.claims.now.entries w
    c.in-None.ensures.none
