-- The bodies of an item, and a check, are read by the kinds of their names.
use Rattle.std.proofs.Common.{ℕ, ◌≡◌, List, [], ◌∷◌, map, Bool, refl, ap, subst}
use Rattle.std.specs.List.{AllZip}
use Rattle.text_values.specs.declared.model.CheckWord.{CheckWord}
use Rattle.text_values.specs.ModelValue.{Term}
use Rattle.binding_kinds.specs.declared.kinds.Kind.{Kind}
use Rattle.binding_kinds.specs.declared.scope.Input.{Input}
use Rattle.binding_kinds.specs.declared.scope.Used.{Used}
use Rattle.binding_kinds.specs.Fits.{AreSoundSenses, IsFit, AreFit}
use Rattle.binding_kinds.specs.Functions.{formula_in}
use Rattle.binding_kinds.specs.Senses.{Sense, kind_in}
use Rattle.binding_kinds.specs.Value.{Naming, Bound}
use Rattle.binding_kinds.proofs.Fitted.{fit_typed}
use Rattle.binding_graph.specs.declared.resolved.Body.{Body}
use Rattle.binding_graph.specs.declared.resolved.Code.{Code}
use Rattle.binding_graph.specs.declared.resolved.ResolvedItem.{ResolvedItem}
use Rattle.binding_graph.specs.declared.resolved.Role.{Role}
use Rattle.binding_graph.specs.declared.resolved.Role.TheVariants as roles
use Rattle.binding_graph.specs.Contents as content
use Rattle.binding_graph.specs.Contents.{CodeContent, code_content, body_content, role_content}
use Rattle.binding_graph.specs.Inputs.{inputs_of}
use Rattle.binding_graph.specs.Meaning.{IsCode}
use Rattle.binding_graph.specs.Resolved.{AreBodies, IsGroupRole, IsCheckRole, IsGroup, IsCheck}
use Rattle.binding_graph.specs.Usages.{Usage, with_values, with_all_values}
use Rattle.binding_shapes.specs.Shapes.{code_with, body_with, role_with}
use Rattle.binding_shapes.proofs.Typed.{code_again}
use Rattle.meaning_items.proofs.Naming.{AreNamedSenses, AreUsedNames, AreNamedUsages, formula_named, values_named}
use Rattle.meaning_items.proofs.Used.{Extends, AllCover, covered, values_extend}
use Rattle.shape_laws.specs.Laws.{HasKind, IsReadByKind}
use Rattle.shape_laws.proofs.Leaves.{AreOfKinds, formula_kinds}

-- what the bodies of an item see
pub record IsKnownSight (items : List ResolvedItem) (ss : List Sense) (usages : List Usage)
    (names : List Naming) (from : ℕ) : Type 0 where
  pub sound : AreSoundSenses ss
  pub senses : AreNamedSenses names ss
  pub covers : AllCover usages ss
  pub named : AreNamedUsages names usages
  pub of_kinds : AreOfKinds items from names

module _ (items : List ResolvedItem) (ss : List Sense) (usages : List Usage) (names : List Naming)
    (from : ℕ) (sight : IsKnownSight items ss usages names from) where
  all_extend : (bs : List Bound) (vs : List Used)
      → Extends vs (with_all_values usages names from bs vs)
  all_extend [] vs slot i e = e
  all_extend (b ∷ bs) vs slot i e =
      all_extend bs (with_values usages names [] from b.body vs) slot i
      (values_extend usages names [] from b.body vs slot i e)

  all_named : (bs : List Bound) (vs : List Used) → AreUsedNames names vs
      → AreUsedNames names (with_all_values usages names from bs vs)
  all_named [] vs h = h
  all_named (b ∷ bs) vs h =
      all_named bs (with_values usages names [] from b.body vs)
      (values_named usages names [] from sight.named b.body vs h)

  -- where the item uses these names, and their kinds are these
  module _ (us : List Used) (used : AreUsedNames names us) (kinds : List Kind)
      (given : AllZip (HasKind items) (inputs_of us) kinds) where
    code_read : (vs : List Used) (t : Term) (c : Code) → Extends (with_values usages names [] from t vs) us
        → IsFit ss names t → IsCode ss names (with_values usages names [] from t vs) from t c
        → code_with kinds (code_content c) ≡ code_content c
    code_read vs t c more fits is =
        let now = with_values usages names [] from t vs in
        let f = formula_in ss names [] t in
        let typed = fit_typed ss names t sight.sound fits in
        code_again kinds now from f (kind_in ss names t) c typed.0 typed.1
        (formula_kinds items from names sight.of_kinds us used kinds given now more f typed.0
        (formula_named ss names [] sight.senses t)
        (covered usages ss names [] from sight.covers t vs)) is.0 is.1

    bodies_read : (bs : List Bound) (rs : List Body) (vs : List Used)
        → Extends (with_all_values usages names from bs vs) us → AreFit ss names bs
        → AreBodies ss usages names from vs bs rs
        → map (body_with kinds) (map body_content rs) ≡ map body_content rs
    bodies_read [] [] vs more fits h = refl
    bodies_read [] (r ∷ rs) vs more fits h = absurd h
    bodies_read (b ∷ bs) [] vs more fits h = absurd h
    bodies_read (b ∷ bs) (r ∷ rs) vs more fits h =
        let now = with_values usages names [] from b.body vs in
        let here : Extends now us = λ slot i e. more slot i (all_extend bs now slot i e) in
        let code = code_read vs b.body r.code here fits.0 h.1 in
        let rest = bodies_read bs rs now more fits.1 h.2 in
        λ i. record { name = r.name; code = code i } ∷ rest i

  pub group_read : (recursive : Bool) (bs : List Bound) (r : ResolvedItem) → AreFit ss names bs
      → IsGroup ss usages names from recursive bs r → IsReadByKind items r
  group_read recursive bs r fits h kinds given =
      let us = with_all_values usages names from bs [] in
      let zip : AllZip (HasKind items) (inputs_of us) kinds = subst (λ (is : List Input). AllZip (HasKind items) is kinds) h.1.inputs given in
      by_role r.role h.0 zip
    where
      by_role : (role : Role) → IsGroupRole ss usages names from recursive bs role
          → AllZip (HasKind items) (inputs_of (with_all_values usages names from bs [])) kinds
          → role_with kinds (role_content role) ≡ role_content role
      by_role (roles.Group a bodies) g zip =
          ap (content.Group a)
          (bodies_read (with_all_values usages names from bs []) (all_named bs [] tt) kinds zip bs
          bodies.items [] (λ slot i e. e) fits g.1)
      by_role (roles.Check c) g zip = absurd g
      by_role roles.Silent g zip = absurd g

  pub check_read : (w : CheckWord) (e : Term) (r : ResolvedItem) → IsFit ss names e
      → IsCheck ss usages names from w e r → IsReadByKind items r
  check_read w e r fits h kinds given =
      let us = with_values usages names [] from e [] in
      let zip : AllZip (HasKind items) (inputs_of us) kinds = subst (λ (is : List Input). AllZip (HasKind items) is kinds) h.1.inputs given in
      by_role r.role h.0 zip
    where
      by_role : (role : Role) → IsCheckRole ss usages names from w e role
          → AllZip (HasKind items) (inputs_of (with_values usages names [] from e [])) kinds
          → role_with kinds (role_content role) ≡ role_content role
      by_role (roles.Group a bodies) g zip = absurd g
      by_role (roles.Check c) g zip =
          ap (λ (d : CodeContent). content.Check c.negated c.word d c.flag)
          (code_read (with_values usages names [] from e [])
          (values_named usages names [] from sight.named e [] tt) kinds zip [] e c.code
          (λ slot i e. e) fits g.1)
      by_role roles.Silent g zip = absurd g
