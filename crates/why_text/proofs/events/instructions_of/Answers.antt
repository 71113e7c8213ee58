use Rattle.why_text.proofs.events.instructions_of.Goals as goal

pub returns : goal.returns
returns c = λ test all.
    record {
      made = c.in_ok-made.made.items;
      of_threads = rw c.deref-2.ensures.value at c.in_ok-made.ensures test all;
      whole = rw (c.in_ok-found.ensures, c.deref.ensures.value) at c.in_ok-append.ensures.items;
    }
