use Rattle.bench_texts.specs.Edits.{edit_of}
use Rattle.bench_texts.specs.Held.{texts_of}
use Rattle.bench_texts.specs.Replacements.{texts_with}
use Rattle.bench_instance.proofs.Preparing.{is_all_there, is_wanted}
use Rattle.bench_instance.proofs.stamped_texts.StampedTexts.prepare_edit.Goals as goal

pub returns-in-Err-touched_nodes-clause-refuses : goal.returns-in-Err-touched_nodes-clause-refuses
returns-in-Err-touched_nodes-clause-refuses c =
    let t = texts_of c.args.self.now.texts in
    let new = texts_with c.in_ok-texts.texts.replacement t in
    let e = edit_of c.args.edit.now in
    let applies = c.in_ok-texts.ensures.answer in
    (is_all_there t new c.args.spent e applies, is_wanted t new c.args.spent e applies)
