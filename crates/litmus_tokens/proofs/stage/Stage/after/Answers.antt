use Rattle.litmus_tokens.proofs.stage.Stage.after.Goals as goal

pub returns-in-Init : goal.returns-in-Init
returns-in-Init c = rw c.in-Init.is (c.init_after.ensures c.in-Init.field-1)
