use Rattle.std.proofs.Common.{rules, ◌≡◌, ◌-◌, ◌∙◌, ◌++◌, ℕ, min, length, take, ap}
use Rattle.session_script.proofs.Prefixes.{prefix_joined, grown}
use Rattle.session_script.proofs.source.put_prefix.Goals as goal

pub returns : goal.returns
returns c =
    let joined = prefix_joined c.args.most c.args.bytes.now.items c.args.more.now (search rules) in
    let count : c.min-count.result ≡ min (length c.args.more.now) (c.args.most - length c.args.bytes.now.items) = search rules in
    grown c.extend_from_slice.result _ _ _ _ c.extend_from_slice.ensures.items
    (ap (λ (n : ℕ). c.args.bytes.now.items ++ take n c.args.more.now) count ∙ joined)
