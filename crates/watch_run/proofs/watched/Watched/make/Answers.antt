use Rattle.std.proofs.Common.{ℕ, subst, sym, ap, rules}
use Rattle.bench_texts.specs.Held.{texts_of}
use Rattle.session_views.specs.Knowing.{KnowsTexts}
use Rattle.watch_run.specs.declared.author.Counts.{Counts}
use Rattle.watch_run.proofs.watched.Watched.make.Goals as goal

pub returns-clause-ready : goal.returns-clause-ready
returns-clause-ready g c =
    let seen = g.A.Author.seen in
    let counts = g.A.Author.counts in
    let knows = c.own_edits_are_counted.ensures c.args.edit (counts c.give.new.self).last (seen c.args.self.now.author) (seen c.give.new.self) (counts c.args.self.now.author).made (texts_of c.commit.new.self) c.requires.ready c.in_ok-give.ensures.number c.in_ok-give.ensures.told (search rules) in
    subst (λ (made : ℕ). KnowsTexts (seen c.give.new.self) made (texts_of c.commit.new.self))
    (sym (ap (λ (k : Counts). k.made) c.in_ok-give.ensures.counted)) knows
