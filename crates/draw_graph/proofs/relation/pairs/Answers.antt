use Rattle.std.proofs.Common.{ℕ, ◌+◌, ◌≡◌, ◌∙◌, sym, subst, arith, rules, List}
use Rattle.std.proofs.lemmas.Bool.{false≢true}
use Rattle.bit_rows.specs.Relation.{Has}
use Rattle.draw_graph.proofs.Pairs.{UpTo, none_yet, one_more, none_more, row_done, all_done}
use Rattle.draw_graph.proofs.relation.pairs.Goals as goal
use Rattle.draw_graph.proofs.relation.pairs.Goals.{then-contains+in_ok-push, else-contains}

pub loop-from-init : goal.loop-from-init
loop-from-init c = rw c.new-pairs.ensures.items (none_yet (Has c.args.relation.now))

pub loop-to-preserved : goal.loop-to-preserved
loop-to-preserved c = elim c.if-contains.branch [
  | then-contains+in_ok-push w ↦
      subst
      (λ (ps : List (ℕ × ℕ)).
      UpTo (Has c.args.relation.now) c.loop-from.from (c.loop-to.to + 1) ps)
      (search rules)
      (one_more (Has c.args.relation.now) c.loop-from.from c.loop-to.to c.loop-to.pairs.items
      (c.contains.ensures.0 w.if-contains.true) c.loop-to.invariant)
  | else-contains w ↦
      subst
      (λ (ps : List (ℕ × ℕ)).
      UpTo (Has c.args.relation.now) c.loop-from.from (c.loop-to.to + 1) ps)
      (search rules)
      (none_more (Has c.args.relation.now) c.loop-from.from c.loop-to.to c.loop-to.pairs.items
      (λ bit. false≢true (sym w.if-contains.false ∙ c.contains.ensures.1 bit))
      c.loop-to.invariant)
]

pub loop-from-preserved : goal.loop-from-preserved
loop-from-preserved c =
    let full : c.loop-to.to ≡ c.count-count.result = omega (arith, c.loop-to-test.false, c.loop-to.auto.to-end) in
    let same : c.count-count.result ≡ c.args.relation.now.count = c.count-count.ensures.value in
    row_done (Has c.args.relation.now) c.loop-to.to c.loop-from.from c.loop-to.pairs.items
    (λ a b h. omega (arith, full, same, (c.count-count.ensures.regular.within a b h).1))
    c.loop-to.invariant

pub returns : goal.returns
returns c =
    let full : c.loop-from.from ≡ c.count-count.result = omega (arith, c.loop-from-test.false, c.loop-from.auto.from-end) in
    let same : c.count-count.result ≡ c.args.relation.now.count = c.count-count.ensures.value in
    all_done (Has c.args.relation.now) c.loop-from.from c.loop-from.pairs.items
    (λ a b h. omega (arith, full, same, (c.count-count.ensures.regular.within a b h).0))
    c.loop-from.invariant
