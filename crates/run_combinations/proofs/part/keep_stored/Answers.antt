use Rattle.std.proofs.Common.{rules}
use Rattle.run_combinations.proofs.Parting.{retained}
use Rattle.run_combinations.proofs.part.keep_stored.Goals as goal

pub returns : goal.returns
returns c =
    retained _ c.args.stored.now _ (λ s b g k. search rules) c.args.runs.now.items
    c.retain.new.self.items c.retain.ensures.filtered
