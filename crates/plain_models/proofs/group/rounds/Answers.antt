use Rattle.std.proofs.Common.{◌≡◌, length, map, [], true, false, ap, sym, subst, ◌∙◌, List}
use Rattle.std.proofs.lemmas.List.{length-map}
use Rattle.meaning.specs.Names.{Name}
use Rattle.meaning_plain.specs.Lists.{SetOf}
use Rattle.plain_models.specs.declared.value.Value.{Value}
use Rattle.plain_models.specs.Scopes.{with_named, names_in}
use Rattle.plain_models.specs.Groups.{name_of, body_of, HasGrown, IsRound}
use Rattle.plain_models.proofs.Stepping.{extend_length}
use Rattle.plain_models.proofs.Rounds.{rounds_begin, rounds_length, rounds_next, rounds_last, round_falls}
use Rattle.plain_models.proofs.group.rounds.Goals as goal

pub rounds-init : goal.rounds-init
rounds-init c =
    let s = c.args.scope.now in
    rounds_begin (SetOf s.all.now) (with_named (SetOf s.all.now) s.items.now s.outer.now [])
    c.args.group.now c.args.names.now c.in_ok-values.values.items c.requires.names
    c.in_ok-values.ensures

pub next_round-requires-clause-names : goal.next_round-requires-clause-names
next_round-requires-clause-names c =
    let s = c.args.scope.now in
    let all = SetOf s.all.now in
    let same : length c.args.group.now ≡ length c.rounds.values.items = rounds_length all (with_named all s.items.now s.outer.now []) c.args.group.now c.rounds.values.items c.rounds.invariant in
    let here : length c.deref.result.now ≡ length c.rounds.values.items = ap (λ (l : List Value). length l) c.deref.ensures.value in
    let named : length c.args.names.now ≡ length c.args.group.now = ap (λ (l : List Name). length l) c.requires.names ∙ length-map c.args.group.now name_of in
    named ∙ (same ∙ sym here)

pub next_round-requires-clause-group : goal.next_round-requires-clause-group
next_round-requires-clause-group c =
    let s = c.args.scope.now in
    let all = SetOf s.all.now in
    let same : length c.args.group.now ≡ length c.rounds.values.items = rounds_length all (with_named all s.items.now s.outer.now []) c.args.group.now c.rounds.values.items c.rounds.invariant in
    let here : length c.deref.result.now ≡ length c.rounds.values.items = ap (λ (l : List Value). length l) c.deref.ensures.value in
    same ∙ sym here

pub has_grown-requires : goal.has_grown-requires
has_grown-requires c =
    let s = c.args.scope.now in
    let all = SetOf s.all.now in
    let ns = c.args.names.now in
    let gs = c.args.group.now in
    let vs = c.rounds.values.items in
    let next = c.in_ok-next.next.items in
    let round : IsRound (SetOf c.args.scope.now.all.now) (names_in (SetOf c.args.scope.now.all.now) c.args.scope.now.items.now c.args.scope.now.outer.now c.args.names.now c.rounds.values.items) (map body_of c.args.group.now) c.rounds.values.items c.in_ok-next.next.items = subst (λ (l : List Value). IsRound all (names_in all s.items.now s.outer.now ns l) (map body_of gs) l next) c.deref.ensures.value c.in_ok-next.ensures in
    ap (λ (l : List Value). length l) c.deref-in-rounds.ensures.value
    ∙ (extend_length vs round.0 next round.2
    ∙ sym (ap (λ (l : List Value). length l) c.deref-in-rounds-2.ensures.value))

pub returns-then-not-has_grown : goal.returns-then-not-has_grown
returns-then-not-has_grown c =
    let s = c.args.scope.now in
    let all = SetOf s.all.now in
    let ns = c.args.names.now in
    let gs = c.args.group.now in
    let vs = c.rounds.values.items in
    let next = c.in_ok-next.next.items in
    let round : IsRound (SetOf c.args.scope.now.all.now) (names_in (SetOf c.args.scope.now.all.now) c.args.scope.now.items.now c.args.scope.now.outer.now c.args.names.now c.rounds.values.items) (map body_of c.args.group.now) c.rounds.values.items c.in_ok-next.next.items = subst (λ (l : List Value). IsRound all (names_in all s.items.now s.outer.now ns l) (map body_of gs) l next) c.deref.ensures.value c.in_ok-next.ensures in
    rounds_last all s.items.now s.outer.now gs ns vs next c.requires.names c.requires.apart
    c.rounds.invariant round
    (λ h.
    let grown : HasGrown c.deref-in-rounds.result.now c.deref-in-rounds-2.result.now = subst (λ (l : List Value). HasGrown l c.deref-in-rounds-2.result.now) (sym c.deref-in-rounds.ensures.value) (subst (λ (l : List Value). HasGrown vs l) (sym c.deref-in-rounds-2.ensures.value) h) in
    let t : c.has_grown.result ≡ true = c.has_grown.ensures.1 grown in
    let f : c.has_grown.result ≡ false = c.if-not-has_grown.true in
    cc)

pub rounds-smaller : goal.rounds-smaller
rounds-smaller c =
    let s = c.args.scope.now in
    let all = SetOf s.all.now in
    let ns = c.args.names.now in
    let gs = c.args.group.now in
    let vs = c.rounds.values.items in
    let next = c.in_ok-next.next.items in
    let round : IsRound (SetOf c.args.scope.now.all.now) (names_in (SetOf c.args.scope.now.all.now) c.args.scope.now.items.now c.args.scope.now.outer.now c.args.names.now c.rounds.values.items) (map body_of c.args.group.now) c.rounds.values.items c.in_ok-next.next.items = subst (λ (l : List Value). IsRound all (names_in all s.items.now s.outer.now ns l) (map body_of gs) l next) c.deref.ensures.value c.in_ok-next.ensures in
    let grown : HasGrown c.deref-in-rounds.result.now c.deref-in-rounds-2.result.now = c.has_grown.ensures.0 c.if-not-has_grown.false in
    round_falls all (names_in all s.items.now s.outer.now ns vs) (map body_of gs) vs next round
    (subst (λ (l : List Value). HasGrown vs l) c.deref-in-rounds-2.ensures.value
    (subst (λ (l : List Value). HasGrown l c.deref-in-rounds-2.result.now) c.deref-in-rounds.ensures.value grown))

pub rounds-preserved : goal.rounds-preserved
rounds-preserved c =
    let s = c.args.scope.now in
    let all = SetOf s.all.now in
    let ns = c.args.names.now in
    let gs = c.args.group.now in
    let vs = c.rounds.values.items in
    let next = c.in_ok-next.next.items in
    let round : IsRound (SetOf c.args.scope.now.all.now) (names_in (SetOf c.args.scope.now.all.now) c.args.scope.now.items.now c.args.scope.now.outer.now c.args.names.now c.rounds.values.items) (map body_of c.args.group.now) c.rounds.values.items c.in_ok-next.next.items = subst (λ (l : List Value). IsRound all (names_in all s.items.now s.outer.now ns l) (map body_of gs) l next) c.deref.ensures.value c.in_ok-next.ensures in
    rounds_next all s.items.now s.outer.now gs ns vs next c.requires.names c.requires.apart
    c.requires.grow c.rounds.invariant round
