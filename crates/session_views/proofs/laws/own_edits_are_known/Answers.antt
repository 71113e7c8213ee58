use Rattle.bench_texts.specs.Held.{texts_of}
use Rattle.bench_texts.specs.Edits.{edit_of}
use Rattle.bench_text_laws.proofs.Results.{result_one}
use Rattle.session_views.proofs.Counts.{knows_own_edit}
use Rattle.session_views.proofs.laws.own_edits_are_known.Goals as goal

pub returns : goal.returns
returns c = λ e number seen later made new k h applies.
    knows_own_edit e number seen later made (texts_of c.args.own.now) new k h
    (result_one c.args.own.now (edit_of e)) applies
