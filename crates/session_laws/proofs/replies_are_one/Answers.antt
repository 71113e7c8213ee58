use Rattle.session_laws.proofs.Replies.{one_reply}
use Rattle.session_laws.proofs.replies_are_one.Goals as goal

pub returns : goal.returns
returns c = one_reply
