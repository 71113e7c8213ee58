use Rattle.std.proofs.Common.{rules}
use Rattle.bench_texts.specs.Held.{texts_of}
use Rattle.bench_texts.specs.Edits.{edit_of}
use Rattle.session_run.proofs.Edits.{accepted_applies, accepted_ready}
use Rattle.session_run.proofs.Viewers.{disputed}
use Rattle.session_run.proofs.editing.make_edit.Goals as goal

pub returns-clause-ready : goal.returns-clause-ready
returns-clause-ready g c =
    accepted_ready c.args.edit c.args.session.now.viewer c.tell_desk.new.viewer
    c.args.session.now.made (texts_of c.args.session.now.texts)
    (texts_of c.answer_edit.new.texts) c.in-Ok.answer
    c.own_edits_are_counted.ensures c.requires.ready
    c.in_ok-tell_desk.ensures.told c.in-Ok.ensures.edited (search rules)

pub returns-in_err-tell_desk-clause-shared : goal.returns-in_err-tell_desk-clause-shared
returns-in_err-tell_desk-clause-shared g c is =
    disputed c.args.edit c.args.session.now.viewer _
    c.in_err-tell_desk.ensures.untold (search rules)

pub returns-in_err-tell_desk-clause-accepted : goal.returns-in_err-tell_desk-clause-accepted
returns-in_err-tell_desk-clause-accepted g c is = (
  texts_of c.answer_edit.new.texts,
  accepted_applies (texts_of c.args.session.now.texts) (texts_of c.answer_edit.new.texts)
      (edit_of c.args.edit) c.in-Ok.answer c.in-Ok.ensures.edited (search rules),
)
