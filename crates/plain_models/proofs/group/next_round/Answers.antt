use Rattle.std.proofs.Common.{map, sym, subst, List, Vec, Global, ◌∙◌}
use Rattle.std.proofs.lemmas.List.{length-map}
use Rattle.std.proofs.lemmas.Result.{IfOk-weaker}
use Rattle.meaning_plain.specs.Lists.{SetOf}
use Rattle.plain_models.specs.declared.value.Value.{Value}
use Rattle.plain_models.specs.Values.{HaveValues}
use Rattle.plain_models.specs.Scopes.{names_in}
use Rattle.plain_models.specs.Groups.{body_of, DoExtend, IsRound}
use Rattle.plain_models.proofs.Stepping.{meant_length}
use Rattle.plain_models.proofs.group.next_round.Goals as goal

pub all_extended-requires : goal.all_extended-requires
all_extended-requires c =
    let s = c.args.scope.now in
    let N = names_in (SetOf s.all.now) s.items.now s.outer.now c.args.names.now c.args.values.now in
    sym c.requires.group
    ∙ (sym (length-map c.args.group.now body_of)
    ∙ meant_length (SetOf s.all.now) N (map body_of c.args.group.now) c.deref.result.now
    (subst (λ (l : List Value). HaveValues (SetOf s.all.now) N (map body_of c.args.group.now) l)
    (sym c.deref.ensures.value) c.in_ok-bodies.ensures))

pub returns : goal.returns
returns c =
    let s = c.args.scope.now in
    let N = names_in (SetOf s.all.now) s.items.now s.outer.now c.args.names.now c.args.values.now in
    IfOk-weaker c.all_extended.result
    (λ (v : Vec Value Global). DoExtend c.args.values.now c.deref.result.now v.items)
    (λ (v : Vec Value Global). IsRound (SetOf s.all.now) N (map body_of c.args.group.now) c.args.values.now v.items)
    (λ v h. (
      c.deref.result.now,
      subst (λ (l : List Value). HaveValues (SetOf s.all.now) N (map body_of c.args.group.now) l)
          (sym c.deref.ensures.value) c.in_ok-bodies.ensures,
      h,
    )) c.all_extended.ensures
