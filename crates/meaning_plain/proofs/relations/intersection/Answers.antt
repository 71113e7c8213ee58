use Rattle.std.proofs.Common.{ℕ, Contains}
use Rattle.meaning_plain.proofs.Operators.{filter_made}
use Rattle.meaning_plain.proofs.relations.intersection.Goals as goal

pub returns : goal.returns
returns c =
    λ a b.
    filter_made (λ (p : ℕ × ℕ). Contains c.args.second.now p) c.args.first.now _ _
    c.new-pairs.ensures.items c.in_ok-add_all_common.ensures (a, b)
