use Rattle.why_forbidden.proofs.evaluated.Evaluated.of.Goals as goal

pub returns : goal.returns
returns c = record {
  columns = c.in_ok-found.ensures.columns;
  each_check = rw (c.deref.ensures.value, c.deref-2.ensures.value) at c.in_ok-checks.ensures.each;
  all_checks = rw c.deref-2.ensures.value at c.in_ok-checks.ensures.all;
  each_name = c.in_ok-predefined.ensures.each;
  all_names = c.in_ok-predefined.ensures.all;
}
