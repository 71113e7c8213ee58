use Rattle.std.proofs.Common.{get_or, ap, sym, ◌∙◌, arith}
use Rattle.litmus_ppc.proofs.Entries.{missing_more}
use Rattle.litmus_ppc.proofs.init.InitBlock.missing.Goals as goal

pub loop-i-preserved : goal.loop-i-preserved
loop-i-preserved c =
    let s = c.args.self.now in
    c.loop-i.invariant
    ∙ missing_more c.args.threads s.entries.items s.starts.items c.loop-i.i c.entry-item.result
    (omega (arith, c.deref-entry-items.ensures.len))
    (c.entry-item.is
    ∙ ap (λ l. get_or l c.loop-i.i c.entry-item.result)
    c.deref-entry-items.ensures.value)
    (sym c.lacks_thread.ensures ∙ c.if-lacks_thread.false)
