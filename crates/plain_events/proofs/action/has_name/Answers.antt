use denote.Ref.{Bor}
use Rattle.std.proofs.Common.{ℕ, List, false, refl, sym, ◌∙◌}
use Rattle.std.proofs.lemmas.Slice.Eq.{bytes_eq-Decides}
use Rattle.plain_runs.proofs.Mapping.{not_true, there_at, none_more, none_all}
use Rattle.plain_events.proofs.action.has_name.Goals as goal

pub returns-then-eq : goal.returns-then-eq
returns-then-eq c = (
  (λ is. there_at (λ (n : Bor (List ℕ)). n.now) c.args.names.now c.loop-one.one-index _ c.args.name.now c.loop-one-test.true
      ((bytes_eq-Decides _ c.args.name.now).0 (sym c.eq.ensures ∙ c.if-eq.true))),
  λ there. refl,
)

pub loop-one-preserved : goal.loop-one-preserved
loop-one-preserved c =
    none_more (λ (n : Bor (List ℕ)). n.now) c.args.names.now c.loop-one.one-index _ c.args.name.now
    c.loop-one-test.true
    (λ same. not_true c.eq.result c.if-eq.false (c.eq.ensures ∙ (bytes_eq-Decides _ c.args.name.now).1 same))
    c.loop-one.invariant

pub returns : goal.returns
returns c = (
  (λ no. absurd (not_true false refl no)),
  λ there. absurd (none_all (λ (n : Bor (List ℕ)). n.now) c.args.names.now c.loop-one.one-index c.args.name.now c.loop-one-test.false c.loop-one.invariant there),
)
