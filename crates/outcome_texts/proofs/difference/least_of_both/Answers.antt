use Rattle.std.proofs.Common.{rules, ◌≡◌}
use Rattle.outcome_states.specs.Order.{state_cmp}
use Rattle.outcome_texts.proofs.Merging.{order_is, first_is_less, states_are_equal, second_is_less}
use Rattle.outcome_texts.proofs.difference.least_of_both.Goals as goal

pub returns-in-Less-clause-value : goal.returns-in-Less-clause-value
returns-in-Less-clause-value c =
    let order : c.cmp.result ≡ state_cmp c.index-first-0.result.values c.index-second-0.result.values = order_is c.index-first-0.result.values c.index-second-0.result.values c.cmp.result (search rules) in
    first_is_less c.args.first.now c.args.second.now c.index-first-0.result c.index-second-0.result
    c.cmp.result c.of_first.result c.requires.first c.requires.second (search rules)
    (search rules) order (search rules) (search rules)

pub returns-in-Equal-clause-value : goal.returns-in-Equal-clause-value
returns-in-Equal-clause-value c =
    let order : c.cmp.result ≡ state_cmp c.index-first-0.result.values c.index-second-0.result.values = order_is c.index-first-0.result.values c.index-second-0.result.values c.cmp.result (search rules) in
    states_are_equal c.args.first.now c.args.second.now c.index-first-0.result
    c.index-second-0.result c.cmp.result c.of_both.result c.requires.first c.requires.second
    (search rules) (search rules) order (search rules) (search rules)

pub returns-in-Greater-clause-value : goal.returns-in-Greater-clause-value
returns-in-Greater-clause-value c =
    let order : c.cmp.result ≡ state_cmp c.index-first-0.result.values c.index-second-0.result.values = order_is c.index-first-0.result.values c.index-second-0.result.values c.cmp.result (search rules) in
    second_is_less c.args.first.now c.args.second.now c.index-first-0.result c.index-second-0.result
    c.cmp.result c.of_second.result c.requires.first c.requires.second (search rules)
    (search rules) order (search rules) (search rules)
