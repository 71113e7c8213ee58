use Rattle.std.proofs.Common.{subst, ℕ, List, Option}
use Rattle.session_script.specs.Reading.{left_to, HasText, answer_of}
use Rattle.session_script.proofs.state.ScriptReader.with_text.Goals as goal

pub returns-in-None-clause-text : goal.returns-in-None-clause-text
returns-in-None-clause-text g c =
    subst
    (λ (o : Option (List ℕ)). HasText
    (left_to c.args.self.now (g.S.ByteSource.remaining c.args.source.now))
    (left_to c.text.new.self (g.S.ByteSource.remaining c.text.new.source)) c.args.request
    (answer_of c.args.request o)) c.in-None.is
    (c.in_ok-text.ensures.text c.args.request)

pub returns-in-Some-clause-text : goal.returns-in-Some-clause-text
returns-in-Some-clause-text g c =
    subst
    (λ (o : Option (List ℕ)). HasText
    (left_to c.args.self.now (g.S.ByteSource.remaining c.args.source.now))
    (left_to c.text.new.self (g.S.ByteSource.remaining c.text.new.source)) c.args.request
    (answer_of c.args.request o)) c.in-Some.is
    (c.in_ok-text.ensures.text c.args.request)
