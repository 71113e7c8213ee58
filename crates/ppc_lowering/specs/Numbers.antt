-- The numbers that refusals are printed with.
use Rattle.std.specs.Prelude.{ℕ}
use Rattle.ppc_lowering.specs.declared.fault.EvalRefusal.{EvalRefusal}
use Rattle.ppc_lowering.specs.declared.fault.EvalRefusal.TheVariants as refusals

abbrev pub number : EvalRefusal → ℕ
number refusals.TooManyEvents = 1
number refusals.TooManyValues = 2
number refusals.TooManyRuns = 3
number refusals.TooManyCandidates = 4
number refusals.AddressFault = 5
number refusals.TooManyCombinations = 6
