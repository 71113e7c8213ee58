use denote.Ref.{Bor}
use Rattle.std.proofs.Common.{ℕ, List, sym, ◌∙◌}
use Rattle.std.proofs.lemmas.Slice.Eq.{bytes_eq-Decides}
use Rattle.plain_runs.proofs.Mapping.{not_true, none_more, none_all}
use Rattle.plain_ends.proofs.Finals.{name_there}
use Rattle.plain_ends.proofs.ending.index_of.Goals as goal

pub returns-then-eq : goal.returns-then-eq
returns-then-eq c =
    name_there c.args.locations.now c.loop-index.index _ c.args.location.now c.loop-index-test.true
    ((bytes_eq-Decides _ c.args.location.now).0 (sym c.eq.ensures ∙ c.if-eq.true))

pub loop-index-preserved : goal.loop-index-preserved
loop-index-preserved c =
    none_more (λ (n : Bor (List ℕ)). n.now) c.args.locations.now c.loop-index.index _
    c.args.location.now c.loop-index-test.true
    (λ same. not_true c.eq.result c.if-eq.false (c.eq.ensures ∙ (bytes_eq-Decides _ c.args.location.now).1 same))
    c.loop-index.invariant

pub returns : goal.returns
returns c =
    none_all (λ (n : Bor (List ℕ)). n.now) c.args.locations.now c.loop-index.index c.args.location.now
    c.loop-index-test.false c.loop-index.invariant
