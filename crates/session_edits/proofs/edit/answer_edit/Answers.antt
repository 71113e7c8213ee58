use Rattle.bench_texts.specs.Edits.{edit_of}
use Rattle.bench_texts.specs.Held.{texts_of}
use Rattle.session_edits.proofs.Refused.{refused}
use Rattle.session_edits.proofs.edit.answer_edit.Goals as goal

pub returns-in-Err-clause-edited : goal.returns-in-Err-clause-edited
returns-in-Err-clause-edited c =
    refused (texts_of c.args.texts.now) (texts_of c.prepare_unless_spent.new.self) (edit_of c.args.edit.now)
    c.in-Err.fault c.refused_edit.result c.in-Err.ensures.answer c.in-Err.ensures.kept
    c.refused_edit.ensures.line c.refused_edit.ensures.answer
