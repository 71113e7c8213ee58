use Rattle.std.proofs.lemmas.List.Elements.{contains_decides, Decides-contains}
use Rattle.std.proofs.lemmas.Bool.Decides.{Decides-eqb}
use Rattle.std.proofs.Math.Dec.{eqb}
use Rattle.meaning_plain.proofs.sets.has_member.Goals as goal

pub returns : goal.returns
returns c =
    Decides-contains c.args.set.now c.args.event c.contains.result
    (contains_decides eqb Decides-eqb c.args.set.now
    c.args.event c.contains.result c.contains.ensures.cases)
