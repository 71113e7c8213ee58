use Rattle.command_answers.proofs.stream.refusal_of.Goals as goal

pub returns-in-Model : goal.returns-in-Model
returns-in-Model c = rw c.in-Model.is c.model_refusal.ensures

pub returns-in-Test : goal.returns-in-Test
returns-in-Test c = rw c.in-Test.is c.test_refusal.ensures
