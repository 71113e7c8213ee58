use Rattle.plain_models.proofs.model.read_item.Goals as goal

pub returns : goal.returns
returns c = record {
  met = c.in_ok-is_met.ensures;
  raised = c.in_ok-is_raised.ensures;
  bound = c.in_ok-values.ensures;
}
