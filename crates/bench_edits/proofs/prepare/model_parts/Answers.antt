use Rattle.bench_edits.proofs.prepare.model_parts.Goals as goal

pub returns : goal.returns
returns c = record {
  rows = rw c.next_number-fresh.ensures at c.in_ok-rows.ensures;
  faults = c.in_ok-faults.ensures;
  items = rw c.next_number-fresh.ensures at c.in_ok-items.ensures;
  slots =
      rw (c.deref-2.ensures.value, c.deref-4.ensures.value, c.deref-5.ensures.value) at
      c.in_ok-slots.ensures;
}
