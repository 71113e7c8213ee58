use Rattle.std.proofs.Common.{◌≡◌, ◌<◌, Vec, List, length, get_or, ap, subst, ◌∙◌, arith, rules, HoldsAt}
use Rattle.std.specs.declared.alloc.Global.{Global}
use Rattle.thread_runs.specs.declared.value.Value.{Value}
use Rattle.store_orders.specs.Combinations.{candidates_of}
use Rattle.candidate_spaces.specs.Space.{candidates_in, IsCandidateOf}
use Rattle.candidate_spaces.proofs.Alike.{shown_there}
use Rattle.store_orders.specs.declared.combination.Combination.{Combination}
use Rattle.candidate_spaces.proofs.Spaces.{place_within, found_there}
use Rattle.candidate_spaces.proofs.candidate.Space.execution.Goals as goal

pub returns-then-has-clause-some : goal.returns-then-has-clause-some
returns-then-has-clause-some c =
    let inside : c.loop-combination.left < length (candidates_of c.combination-item.result) = search rules in
    let at_index : c.combination-item.result ≡ get_or c.args.self.now.combinations.items c.loop-combination.combination-index c.combination-item.result =
    c.combination-item.is
    ∙ ap
    (λ (l : List Combination).
    get_or l c.loop-combination.combination-index c.combination-item.result)
    c.deref-combination-items.ensures.value in (
      place_within c.args.self.now.combinations.items c.loop-combination.combination-index
          c.loop-combination.left c.args.index c.combination-item.result (omega arith) at_index
          inside c.loop-combination.invariant,
      shown_there c.args.self.now.registers.items (candidates_in c.args.self.now.combinations.items)
          c.args.index c.in_ok-found.found
          (place_within c.args.self.now.combinations.items c.loop-combination.combination-index
          c.loop-combination.left c.args.index c.combination-item.result (omega arith)
          at_index inside c.loop-combination.invariant)
          (found_there c.args.self.now.registers.items c.args.self.now.combinations.items
          c.loop-combination.combination-index c.loop-combination.left c.args.index
          c.combination-item.result c.in_ok-found.found (omega arith) at_index inside
          c.loop-combination.invariant
          (subst
          (λ (l : List (Vec (List Value) Global)). HoldsAt
          (λ t. IsCandidateOf l c.combination-item.result t c.in_ok-found.found)
          (candidates_of c.combination-item.result) c.loop-combination.left)
          c.deref.ensures.value c.in_ok-found.ensures)),
    )
