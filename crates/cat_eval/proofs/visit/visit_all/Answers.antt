use Rattle.std.proofs.Common.{ℕ, ◌≡◌, ◌+◌, ◌*◌, ◌++◌, ◌∙◌, List, length, take, refl, sym, ap, arith}
use Rattle.std.specs.Prelude.{map}
use Rattle.std.proofs.lemmas.List.{take_all}
use Rattle.std.proofs.lemmas.Option.{none-some}
use Rattle.store_orders.specs.Combinations.{candidates_of}
use Rattle.store_orders.proofs.Pairs.{length-candidates}
use Rattle.candidate_spaces.specs.Space.{candidates_in, Candidate}
use Rattle.cat_machine.specs.Seen.{NamedValues, seen_in, seen_run}
use Rattle.cat_eval.proofs.Entering.{flat_step}
use Rattle.cat_machine.proofs.Seeing.{first_append, in_run, in_long}
use Rattle.cat_eval.proofs.visit.visit_all.Goals as goal

pub loop-combination-init : goal.loop-combination-init
loop-combination-init g c = λ given. (
  record { number = refl; steady = λ k low high. absurd (omega (arith, high)); last = λ n is. absurd (none-some n is) },
  given,
)

pub loop-combination-preserved : goal.loop-combination-preserved
loop-combination-preserved g c = λ given.
    let named = c.args.named.now in
    let combinations = c.args.space.now.combinations.items in
    let index = c.loop-combination.combination-index in
    let one = c.combination-item.result in
    let so_far = candidates_in (take index combinations) in
    let before = c.loop-combination.invariant given in
    let next = c.in_ok-visit_combination.ensures c.args.visitor.now (seen_in named 0 so_far) before.0 before.1 in
    let many : length (candidates_of one) ≡ length one.reads_from.items * length one.orders = length-candidates one in
    let grown : candidates_in (take (index + 1) combinations) ≡ so_far ++ map (λ t. (one, t)) (candidates_of one) =
    flat_step {Y = Candidate} (λ x. map (λ t. (x, t)) (candidates_of x)) combinations index one
    (rw c.deref-combination-items.ensures.value at c.loop-combination-test.true)
    (rw c.deref-combination-items.ensures.value at c.combination-item.is) in
    let seen_so : seen_in named 0 (candidates_in (take (index + 1) combinations)) ≡ seen_in named 0 so_far ++ seen_run named (length (seen_in named 0 so_far)) (length one.events.items) (length one.reads_from.items * length one.orders) =
    ap (seen_in named 0) grown ∙ first_append named so_far (map (λ t. (one, t)) (candidates_of one))
    ∙ ap (λ (ks : List NamedValues). seen_in named 0 so_far ++ ks)
    (in_run named (length so_far) one (candidates_of one)
    ∙ ap (λ (m : ℕ). seen_run named (length so_far) (length one.events.items) m) many
    ∙ ap
    (λ (k : ℕ). seen_run named k (length one.events.items)
    (length one.reads_from.items * length one.orders))
    (sym (in_long named 0 so_far))) in
    rw seen_so next

pub returns : goal.returns
returns g c = λ given.
    let index = c.loop-combination.combination-index in
    let combinations = c.args.space.now.combinations.items in
    let whole : take index combinations ≡ combinations = take_all index combinations (omega (arith, c.loop-combination-test.false, c.deref-combination-items.ensures.len)) in
    rw whole at (c.loop-combination.invariant given).1
