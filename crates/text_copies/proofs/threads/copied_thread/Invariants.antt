use Rattle.std.proofs.Common.{◌≡◌, take}
use Rattle.text_copies.proofs.threads.copied_thread.Given as goal

abbrev pub invariant-loop-step : goal.invariant-loop-step
invariant-loop-step l = l.steps.items ≡ take l.step-index l.thread.steps.items
