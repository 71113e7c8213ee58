use Rattle.command_answers.proofs.texts.draw_report.Goals as goal

pub returns-in-Ok-draw-clause-report : goal.returns-in-Ok-draw-clause-report
returns-in-Ok-draw-clause-report c = record {
  items = c.in-Ok.known.model;
  model_read = c.in-Ok.ensures.model_read;
  known = c.in-Ok.known.test;
  test_read = c.in-Ok.ensures.test_read;
  pictured = c.in-Ok-draw.ensures;
}
