use Rattle.std.proofs.Common.{ℕ, List, refl, subst}
use Rattle.session_script.specs.Written.{WritesPrefix}
use Rattle.command_answers.proofs.stream.write_made.Goals as goal

pub returns-clause-written : goal.returns-clause-written
returns-clause-written g c =
    let a = c.in-Ok.answer in
    let prefix = subst (λ (l : List ℕ). WritesPrefix (g.W.ByteSink.contents c.args.sink.now) (g.W.ByteSink.contents c.write_whole.new.sink) l) c.deref.ensures.value c.write_whole.ensures.prefix in
    (a.text.items, a.is_refused, (a, c.in-Ok.is, refl, refl), prefix)
