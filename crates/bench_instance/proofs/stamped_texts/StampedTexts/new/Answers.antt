use Rattle.bench_instance.proofs.Empty.{empty_sound, empty_parts}
use Rattle.bench_instance.proofs.stamped_texts.StampedTexts.new.Goals as goal

pub returns-clause-sound : goal.returns-clause-sound
returns-clause-sound c =
    empty_sound (record { texts = c.new.result; parts = c.new-2.result; touched = c.new-3.result }) c.new.ensures.texts
    c.new.ensures.read c.new-2.ensures.built c.new-2.ensures.items c.new-2.ensures.models

pub returns-clause-parts : goal.returns-clause-parts
returns-clause-parts c =
    empty_parts (record { texts = c.new.result; parts = c.new-2.result; touched = c.new-3.result }) c.new.ensures.texts
    c.new.ensures.read c.new-2.ensures.built c.new-2.ensures.items c.new-2.ensures.models
