use Rattle.std.proofs.Common.{◌≡◌, ◌<◌, ℕ, true, rules, ap, sym, ◌∙◌, bytes_eq, get_or}
use Rattle.std.proofs.lemmas.Bool.{le-leb}
use Rattle.text_values.specs.Names.{key_of}
use Rattle.binding_kinds.proofs.Scopes.{keys_same}
use Rattle.binding_kinds.proofs.scope.is_keyed.Goals as goal

pub returns-then-mine-le-KEYED : goal.returns-then-mine-le-KEYED
returns-then-mine-le-KEYED c = λ is.
    let mine = c.as_bytes-mine.ensures in
    let others = c.as_bytes-others.ensures in
    let small : (i : ℕ) → get_or c.as_bytes-mine.result.now i 0 < 256 = search rules in
    let few : (i : ℕ) → get_or c.as_bytes-others.result.now i 0 < 256 = search rules in
    let same : bytes_eq c.as_bytes-mine.result.now c.as_bytes-others.result.now ≡ true = keys_same c.as_bytes-mine.result.now c.as_bytes-others.result.now c.key.result small few (ap key_of mine ∙ sym c.key.ensures) (c.if-key.false ∙ (is ∙ ap key_of (sym others))) c.if-mine-le-KEYED.true in
    let e : bytes_eq c.args.one.now c.args.other.now ≡ true = rw (sym mine, sym others) same in
    rw e (le-leb _ _ c.if-mine-le-KEYED.true)
