use Rattle.std.proofs.Common.{ℕ, ◌≡◌, ◌≤◌, Vec, length, slice_index_or}
use Rattle.std.specs.declared.alloc.Global.{Global}
use Rattle.store_orders.specs.Lists.{lists_of}
use Rattle.run_combinations.specs.Rounds.{AreNext}
use Rattle.run_combinations.proofs.reading.Reading.extend_all.Given as goal

abbrev pub invariant-loop-place : goal.invariant-loop-place
invariant-loop-place l = record {
  next : AreNext l.self l.load l.index l.place (lists_of l.initial.prefixes.items)
      (lists_of l.longer.items);
  many : length l.prefixes.items ≡ length l.initial.prefixes.items;
  rest : (k : ℕ) (d : Vec ℕ Global) → l.place ≤ k
      → slice_index_or l.prefixes.items k d ≡ slice_index_or l.initial.prefixes.items k d;
}
