use Rattle.memo_core.specs.Views.{KeepsToken}
use Rattle.memo_engine.proofs.TokenLemmas.{put_step, each_last}
use Rattle.memo_engine.proofs.work.put_all.Goals as goal

pub loop-output-preserved : goal.loop-output-preserved
loop-output-preserved g c = record {
  values =
      put_step c.loop-output.all.items c.push.new.self.items c.loop-output.yielded c.in-Some.output
      c.in-Ok-put_one.kept
      c.loop-output.invariant.values c.in-Ok-put_one.ensures.name c.in-Ok-put_one.ensures.value
      c.in-Ok-push.ensures.items;
  kept =
      rw c.in-Ok-push.ensures.items (each_last (λ o. KeepsToken c.args.before.now o.name o.value)
      c.loop-output.all.items _ c.loop-output.invariant.kept c.in-Ok-put_one.ensures.kept);
}
