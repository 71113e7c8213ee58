use Rattle.std.proofs.Common.{ℕ, Contains}
use Rattle.meaning_plain.proofs.Operators.{filter_made}
use Rattle.meaning_plain.proofs.sets.intersection.Goals as goal

pub returns : goal.returns
returns c =
    filter_made (λ (x : ℕ). Contains c.args.second.now x) c.args.first.now _ _
    c.new-set.ensures.items c.in_ok-add_all_common.ensures
