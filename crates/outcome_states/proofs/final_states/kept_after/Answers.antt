use Rattle.std.proofs.Common.{ℕ, ◌≤◌, ◌-◌, ◌^◌, min, length, drop, ap, ◌∙◌, arith}
use Rattle.store_orders.specs.Combinations.{candidates_of}
use Rattle.outcome_states.proofs.Columns.{drop_up_to}
use Rattle.outcome_states.proofs.final_states.kept_after.Goals as goal

pub returns : goal.returns
returns c =
    let fits : length c.args.kept.now ≤ 2 ^ 64 - 1 = omega arith in
    c.kept_from.ensures
    ∙ ap (λ (n : ℕ). drop n c.args.kept.now) (c.min.ensures
    ∙ ap (λ (n : ℕ). min n (length c.args.kept.now)) c.candidate_count.ensures)
    ∙ drop_up_to (length (candidates_of c.args.combination.now)) (2 ^ 64 - 1) c.args.kept.now fits
