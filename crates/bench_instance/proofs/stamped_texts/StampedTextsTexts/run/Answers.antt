use Rattle.bench_instance.proofs.stamped_texts.StampedTextsTexts.run.Goals as goal

pub returns : goal.returns
returns c = c.run.ensures c.args._node c.args._keys.now
