use Rattle.watch_edits.proofs.Ends.{end_goes_on, end_stops}
use Rattle.watch_edits.proofs.items.is_longer_end.Goals as goal

pub returns-clause-yes : goal.returns-clause-yes
returns-clause-yes c =
    λ t. end_goes_on c.args.old.now c.args.new.now c.args.count c.requires.old c.requires.new
    c.requires.end (c.is_same_at.ensures.yes t)

pub returns-clause-no : goal.returns-clause-no
returns-clause-no c =
    λ f s end.
    end_stops c.args.old.now c.args.new.now c.args.count s end (c.is_same_at.ensures.no f)
