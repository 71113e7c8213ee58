use Rattle.std.proofs.Common.{ℕ, ◌+◌, ◌≡◌, ◌∙◌, sym, subst, arith, rules, List}
use Rattle.std.proofs.lemmas.Bool.{false≢true}
use Rattle.dataflow.specs.Dependencies.{ArePairsOfWords}
use Rattle.dataflow.proofs.PairLists.{UpTo, one_more, none_more, row_done, all_done, all_within}
use Rattle.dataflow.proofs.pass.pairs.Goals as goal
use Rattle.dataflow.proofs.pass.pairs.Goals.{then-has+in_ok-push, else-has}

pub loop-to-preserved : goal.loop-to-preserved
loop-to-preserved c = elim c.if-has.branch [
  | then-has+in_ok-push w ↦
      subst
      (λ (ps : List (ℕ × ℕ)).
      UpTo c.args.columns.now c.args.count c.loop-from.from (c.loop-to.to + 1) ps)
      (search rules)
      (one_more c.args.columns.now c.args.count c.loop-from.from c.loop-to.to c.loop-to.pairs.items
      c.loop-to-test.true (c.has.ensures.0 w.if-has.true) c.loop-to.invariant)
  | else-has w ↦
      subst
      (λ (ps : List (ℕ × ℕ)).
      UpTo c.args.columns.now c.args.count c.loop-from.from (c.loop-to.to + 1) ps)
      (search rules)
      (none_more c.args.columns.now c.args.count c.loop-from.from c.loop-to.to c.loop-to.pairs.items
      (λ bit. false≢true (sym w.if-has.false ∙ c.has.ensures.1 bit)) c.loop-to.invariant)
]

pub loop-from-preserved : goal.loop-from-preserved
loop-from-preserved c =
    let full : c.loop-to.to ≡ c.args.count = omega (arith, c.loop-to-test.false, c.loop-to.auto.to-end) in
    row_done c.args.columns.now c.args.count c.loop-from.from c.loop-to.pairs.items
    (subst
    (λ (k : ℕ).
    UpTo c.args.columns.now c.args.count c.loop-from.from k c.loop-to.pairs.items) full
    c.loop-to.invariant)

found : (c : goal.After-loop-from)
    → ArePairsOfWords c.args.columns.now c.args.count c.loop-from.pairs.items
found c =
    let full : c.loop-from.from ≡ c.args.count = omega (arith, c.loop-from-test.false, c.loop-from.auto.from-end) in
    all_done c.args.columns.now c.args.count c.loop-from.pairs.items (subst
    (λ (k : ℕ). UpTo c.args.columns.now c.args.count k 0 c.loop-from.pairs.items) full
    c.loop-from.invariant)

pub returns-clause-within : goal.returns-clause-within
returns-clause-within c =
    all_within c.args.columns.now c.args.count c.loop-from.pairs.items (found c)

pub returns-clause-exact : goal.returns-clause-exact
returns-clause-exact c = found c
