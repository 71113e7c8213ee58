use Rattle.draw_relations.proofs.values.check_values.Goals as goal

pub returns-in_ok-expression_column-in-Check : goal.returns-in_ok-expression_column-in-Check
returns-in_ok-expression_column-in-Check c = record {
  check = c.in-Check.check;
  role = c.in-Check.is;
  inputs = c.in_ok-found-in-Check.found.items;
  found = c.in_ok-found-in-Check.ensures;
  values = rw c.as_slice-inputs.ensures.value at c.in_ok-expression_column-in-Check.ensures;
}
