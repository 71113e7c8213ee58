use Rattle.std.proofs.Common.{◌≡◌, take}
use Rattle.session_views.proofs.answer.names_of.Given as goal

abbrev pub invariant-loop-word : goal.invariant-loop-word
invariant-loop-word l = l.names.items ≡ take l.word-index l.words
