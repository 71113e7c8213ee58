use Rattle.text_values.specs.TestValue.{content_of}
use Rattle.bench_texts.specs.Held.{texts_of}
use Rattle.session_views.specs.Asked.{asked_model}
use Rattle.session_views.proofs.Cells.{outcome_shown}
use Rattle.session_views.proofs.Opening.{open_shown}
use Rattle.session_views.proofs.find.asked_outcome.Goals as goal

pub returns-clause-settled : goal.returns-clause-settled
returns-clause-settled c =
    outcome_shown (texts_of c.args.texts.now) c.args.board.now c.requires.shows c.args.index
    c.args.asked.now.index (content_of c.args.test.now) (asked_model c.args.asked.now)
    c.requires.test c.requires.model c.settled_at.result c.settled_at.ensures.settled

pub returns-clause-waits : goal.returns-clause-waits
returns-clause-waits c =
    open_shown (texts_of c.args.texts.now) c.args.board.now c.requires.shows c.args.index
    c.args.asked.now.index (content_of c.args.test.now) (asked_model c.args.asked.now)
    c.requires.test c.requires.model c.settled_at.result c.settled_at.ensures.unsettled
