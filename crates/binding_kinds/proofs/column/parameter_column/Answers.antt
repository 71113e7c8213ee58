use Rattle.std.proofs.Common.{get_or, sym, ap, ◌∙◌, arith}
use Rattle.binding_kinds.specs.Combinations.{unknown}
use Rattle.binding_kinds.specs.Columns.{plain}
use Rattle.binding_kinds.proofs.Tables.{filled_more, filled_at}
use Rattle.binding_kinds.proofs.column.parameter_column.Goals as goal

pub loop-combination-preserved : goal.loop-combination-preserved
loop-combination-preserved c =
    λ arity other few lt. filled_more unknown arity c.loop-combination.combination
    (λ ks. plain (get_or ks c.args.index other)) c.loop-combination.column.items
    c.push.new.self.items c.plain.result c.in_ok-push.ensures.items
    (c.loop-combination.invariant arity other few lt)
    (λ ks long same. c.plain.ensures
    ∙ ap plain (c.kind_at.ensures ks other (sym same) (omega (arith, long, lt))
    (omega (arith, long, few))))

pub returns : goal.returns
returns c = λ arity other few lt.
    filled_at unknown arity c.loop-combination.combination _
    (λ ks. plain (get_or ks c.args.index other)) c.loop-combination.column.items
    (omega (arith, c.loop-combination-test.false, c.loop-combination.auto))
    (c.loop-combination.invariant arity other few lt)
