use Rattle.std.proofs.Common.{◌∙◌, refl}
use Rattle.cut_spaces.proofs.Passing.{one_probe, one_choice}
use Rattle.cut_spaces.proofs.rows.probes.Goals as goal

pub returns : goal.returns
returns c =
    one_probe c.args.combination.now c.args.rows c.push-2.new.self.items
    c.in_ok-combinations.combinations.items _ c.in_ok-push-2.ensures.items
    c.in_ok-combinations.ensures.items (c.in_ok-from_slice.ensures.items ∙ c.deref.ensures.value)
    c.in_ok-copied.ensures
    (one_choice c.push.new.self.items c.in_ok-reads_from.reads_from.items c.new.result
    c.in_ok-push.ensures.items c.in_ok-reads_from.ensures.items c.new.ensures.items) refl
