use Rattle.bench_instance.proofs.Preparing.{net_is, sound_is, same_keeps, since_is}
use Rattle.bench_instance.proofs.stamped_texts.StampedTextsTexts.prepare.Goals as goal

pub returns-clause-net : goal.returns-clause-net
returns-clause-net c = net_is c.args.self.now c.prepare_edit.new.self c.prepare_edit.ensures.same

pub returns-clause-valid : goal.returns-clause-valid
returns-clause-valid c =
    sound_is c.args.self.now c.prepare_edit.new.self c.prepare_edit.ensures.same

pub returns-clause-since : goal.returns-clause-since
returns-clause-since c =
    since_is c.args.self.now c.prepare_edit.new.self c.prepare_edit.ensures.same

pub returns-clause-keeps : goal.returns-clause-keeps
returns-clause-keeps c =
    same_keeps c.args.self.now c.prepare_edit.new.self c.prepare_edit.ensures.same
