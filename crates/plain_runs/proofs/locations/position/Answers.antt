use denote.Ref.{Bor}
use Rattle.std.proofs.Common.{ℕ, List, bytes_eq, arith, sym, ◌∙◌}
use Rattle.meaning.specs.Names.{Name, is_name_before}
use Rattle.plain_runs.proofs.Placing.{placed_same, placed_before, placed_more, placed_last}
use Rattle.plain_runs.proofs.locations.position.Goals as goal

abbrev name_at : Bor (List ℕ) → Name
name_at n = n.now

pub returns-then-eq : goal.returns-then-eq
returns-then-eq c = record {
  bound = tt;
  position = placed_same bytes_eq is_name_before name_at c.args.name.now c.args.names.now c.loop-index.index _
      c.loop-index-test.true c.loop-index.invariant (sym c.eq.ensures ∙ c.if-eq.true);
}

pub returns-then-is_before : goal.returns-then-is_before
returns-then-is_before c = record {
  bound = c.loop-index.auto.index-end;
  position = placed_before bytes_eq is_name_before name_at c.args.name.now c.args.names.now c.loop-index.index _
      c.loop-index-test.true c.loop-index.invariant (sym c.eq.ensures ∙ c.if-eq.false)
      (sym c.is_before.ensures ∙ c.if-is_before.true);
}

pub returns : goal.returns
returns c = record {
  bound = omega arith;
  position = placed_last bytes_eq is_name_before name_at c.args.name.now c.args.names.now c.loop-index.index
      c.loop-index-test.false c.loop-index.invariant;
}

pub loop-index-preserved : goal.loop-index-preserved
loop-index-preserved c =
    placed_more bytes_eq is_name_before name_at c.args.name.now c.args.names.now c.loop-index.index _
    c.loop-index-test.true c.loop-index.invariant (sym c.eq.ensures ∙ c.if-eq.false)
    (sym c.is_before.ensures ∙ c.if-is_before.false)
