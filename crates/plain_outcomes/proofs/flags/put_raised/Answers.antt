use denote.Ref.{Bor}
use Rattle.std.proofs.Common.{ℕ, List, [], ◌∷◌, ◌++◌, Contains, ap, ◌∙◌}
use Rattle.std.proofs.lemmas.Bool.{iff_false}
use Rattle.std.proofs.lemmas.List.{map-append}
use Rattle.text_values.specs.ModelValues.{clause_of, check_of}
use Rattle.meaning.specs.Names.{Name}
use Rattle.plain_runs.specs.Locations.{names_as}
use Rattle.plain_outcomes.proofs.Flagging.{raised_here, not_raised}
use Rattle.plain_outcomes.proofs.flags.put_raised.Goals as goal

pub returns-then-not-has : goal.returns-then-not-has
returns-then-not-has c =
    not_raised (λ i. Contains c.args.raised.now i) c.args.index (clause_of c.args.item.now)
    (check_of c.in-Flag.check) c.in-Flag.label (names_as c.args.names.now.items) (ap clause_of c.in-Flag.is)
    (iff_false c.has.ensures c.if-not-has.true)

pub returns : goal.returns
returns c =
    raised_here (λ i. Contains c.args.raised.now i) c.args.index (clause_of c.args.item.now)
    (check_of c.in-Flag.check) c.in-Flag.label (names_as c.args.names.now.items) (names_as c.push.new.self.items)
    (ap clause_of c.in-Flag.is) (c.has.ensures.0 c.if-not-has.false)
    (ap names_as c.in_ok-push.ensures.items
    ∙ map-append (λ (n : Bor (List ℕ)). n.now) c.args.names.now.items (c.as_bytes.result ∷ [])
    ∙ ap (λ (n : Name). names_as c.args.names.now.items ++ n ∷ []) c.as_bytes.ensures)
