-- Where that stands which the later checks may blame, and which is refused.
use Rattle.std.specs.Prelude.{ℕ, ◌≤◌, List, [], ◌∷◌, Ok, Err}
use Rattle.litmus_table.specs.Bounds.{AreThreadsUpTo}
use Rattle.litmus_grammar.specs.TextMachine.{Draft, TextResult}

abbrev pub AreAtMost : ℕ → List ℕ → Type 0
AreAtMost n [] = Unit {0}
AreAtMost n (p ∷ ps) = (p ≤ n) × AreAtMost n ps

-- each entry, label and branch stands at most there
abbrev pub AreDraftUpTo : ℕ → Draft → Type 0
AreDraftUpTo n h = AreAtMost n h.init.starts × AreThreadsUpTo n h.table.threads

-- so where the text is taken, and else the token that is refused
abbrev pub StandsUpTo : ℕ → TextResult → Type 0
StandsUpTo n (Ok s) = AreDraftUpTo n s.draft
StandsUpTo n (Err e) = e.1 ≤ n
