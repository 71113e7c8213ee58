use Rattle.why_forbidden.proofs.checks.checked.Goals as goal

pub returns-clause-checked : goal.returns-clause-checked
returns-clause-checked c = λ items at is no_flag. record {
  item = c.args.item.now;
  stands = at;
  check = is;
  not_flag = no_flag;
  inputs = c.as_slice-inputs.result.now;
  found = rw c.as_slice-inputs.ensures.value c.in_ok-found.ensures;
  values = c.in_ok-values.ensures;
  factors = c.in_ok-factors.ensures;
}
