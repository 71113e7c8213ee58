use Rattle.base_names.proofs.Covering.{kept_with_one}
use Rattle.base_names.proofs.names.make_room.Goals as goal

pub returns-clause-kept : goal.returns-clause-kept
returns-clause-kept c other inside =
    kept_with_one _ _ _ (rw c.reserve.ensures.items at c.push_reserved.ensures.items) other inside
