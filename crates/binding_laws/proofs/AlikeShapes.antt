-- Items without fault whose names stand for the same have one shape, whatever the kinds of the names.
use Rattle.std.proofs.Common.{ℕ, ◌≡◌, List, [], ◌∷◌, map, Bool, true, false, Option, Some, None, refl, sym, ap, ◌∙◌}
use Rattle.std.specs.List.{AllByRecursion}
use Rattle.text_values.specs.declared.model.CheckWord.{CheckWord}
use Rattle.text_values.specs.declared.model.Item.{Item}
use Rattle.text_values.specs.declared.model.Item.TheVariants as items
use Rattle.text_values.specs.ModelValue.{Term}
use Rattle.text_values.specs.ModelValues.{term_of}
use Rattle.text_values.specs.declared.model.Infix.{Infix}
use Rattle.binding_kinds.specs.declared.fault.ModelFault.TheVariants as faults
use Rattle.binding_kinds.specs.declared.kinds.Kind.{Kind}
use Rattle.binding_kinds.specs.declared.kinds.Kind.TheVariants.{OfRelation}
use Rattle.binding_kinds.specs.declared.scope.Used.{Used}
use Rattle.binding_kinds.specs.Value.{Naming, Bound, BareItem, Group, Check, Mute, Defined, bare_item, bound_value_of}
use Rattle.binding_kinds.specs.Faults.{names_after, with_own}
use Rattle.binding_kinds.specs.First.{first_of_item}
use Rattle.binding_kinds.specs.Fits.{AreSoundSenses, IsFit, AreFit}
use Rattle.binding_kinds.specs.Formula.{Formula, Value, Parameter, Everything, NoPairs, NoEvents, Joined, Marked, Complement, Identity}
use Rattle.binding_kinds.specs.Functions.{formula_in}
use Rattle.binding_kinds.specs.Kinds.{takes_body}
use Rattle.binding_kinds.specs.Senses.{Sense, kind_in}
use Rattle.binding_kinds.specs.Verdict.{unless}
use Rattle.binding_kinds.proofs.Fitted.{fit, fit_in, fit_typed, known_own}
use Rattle.binding_kinds.proofs.Fitting.{none_later}
use Rattle.binding_graph.specs.declared.resolved.Body.{Body}
use Rattle.binding_graph.specs.declared.resolved.Code.{Code}
use Rattle.binding_graph.specs.declared.resolved.ResolvedItem.{ResolvedItem}
use Rattle.binding_graph.specs.declared.resolved.Role.{Role}
use Rattle.binding_graph.specs.declared.resolved.Role.TheVariants as roles
use Rattle.binding_graph.specs.declared.resolved.Step.{Step}
use Rattle.binding_graph.specs.declared.resolved.Step.TheVariants as steps
use Rattle.binding_graph.specs.Contents as content
use Rattle.binding_graph.specs.Contents.{code_content, body_content, role_content}
use Rattle.binding_graph.specs.Meaning.{IsCode, set_tree, rel_tree, steps_of}
use Rattle.binding_graph.specs.Resolved.{AreBodies, IsGroupRole, IsCheckRole, IsLabelled}
use Rattle.binding_graph.specs.Usages.{with_values}
use Rattle.binding_shapes.specs.Shapes.{shape_of_step, shape_of_code, shape_of_body, role_shape}
use Rattle.binding_shapes.proofs.Typed.{shape_of_infix, shape_steps, shape_whole}
use Rattle.binding_laws.specs.ItemLaws.{Scope, scope_with_names, Pairing, IsPairing, IsSameFormula, AreSameUsed, HasSameNames, HasSameNamesIn, IsItem}
use Rattle.binding_laws.proofs.Alike.{formula_same}
use Rattle.binding_laws.proofs.Known.{IsKnownScope}
use Rattle.binding_laws.proofs.Using.{values_same, source_same}

-- ---- what fits

-- the bodies of a recursive group see its own names
abbrev pub IsFitItem : Scope → List Naming → BareItem → Type 0
IsFitItem s own (Group true bs) = AreFit s.senses own bs
IsFitItem s own (Group false bs) = AreFit s.senses s.names bs
IsFitItem s own (Check w e) = IsFit s.senses s.names e
IsFitItem s own Mute = Unit {0}
IsFitItem s own (Defined n ps b) = Unit {0}

pub fit_item : (s : Scope) (at : ℕ) (c : BareItem) → IsKnownScope s
    → first_of_item s.senses s.names at c ≡ None
    → IsFitItem s (names_after s.senses s.names at c) c
fit_item s at (Group true bs) h none =
    fit_in s.senses (with_own s.names at 0 bs) _ true [] bs (known_own s.names at 0 bs h.known) none
fit_item s at (Group false bs) h none = fit_in s.senses s.names _ false [] bs h.known none
fit_item s at (Check w e) h none =
    fit s.senses s.names _ false e h.known
    (none_later (unless (takes_body w (kind_in s.senses s.names e)) faults.Kind) _ none)
fit_item s at Mute h none = tt
fit_item s at (Defined n ps b) h none = tt

-- ---- shapes

module _ (p : Pairing) (from start : ℕ) (pairing : IsPairing p from start) where
  module _ (us ws : List Used) (used : AreSameUsed p us ws) where
    shape_same : (f g : Formula) → IsSameFormula p f g → (rest : List Step)
        → shape_steps us from f rest ≡ shape_steps ws start g rest
    shape_same (Value f) (Value g) k rest =
        λ i. steps.PushRelation (source_same p from start pairing us ws used f g k i) ∷ rest
    shape_same (Parameter i) (Parameter j) k rest = refl
    shape_same Everything Everything k rest = refl
    shape_same NoPairs NoPairs k rest = refl
    shape_same NoEvents NoEvents k rest = refl
    shape_same (Joined op a b) (Joined oq c d) k rest =
        shape_same a c k.1 (shape_steps us from b (shape_of_infix op ∷ rest))
        ∙ ap (shape_steps ws start c) (shape_same b d k.2 (shape_of_infix op ∷ rest)
        ∙ ap (λ (o : Infix). shape_steps ws start d (shape_of_infix o ∷ rest)) k.0)
    shape_same (Marked op a) (Marked oq c) k rest =
        shape_same a c k.1 (steps.Close op ∷ rest)
        ∙ (λ i. shape_steps ws start c (steps.Close (k.0 i) ∷ rest))
    shape_same (Complement a) (Complement c) k rest =
        shape_same a c k (steps.ComplementRelation ∷ rest)
    shape_same (Identity a) (Identity c) k rest = shape_same a c k (steps.IdentityOn ∷ rest)
    shape_same f g k rest = absurd k

  -- the shape of an expression that fits
  code_shape : (ss : List Sense) (names : List Naming) (us : List Used) (at : ℕ) (t : Term)
      (c : Code) → AreSoundSenses ss → IsFit ss names t → IsCode ss names us at t c
      → map shape_of_step c.steps.items ≡ shape_steps us at (formula_in ss names [] t) []
  code_shape ss names us at t c sound fits is =
      let f = formula_in ss names [] t in
      let typed = fit_typed ss names t sound fits in
      ap (map shape_of_step) (is.1 ∙ ap (λ (k : Kind). steps_of k (set_tree us at f)
      (rel_tree us at f)) (sym typed.1))
      ∙ shape_whole us at f typed.0

  code_same : (s o : Scope) (us ws : List Used) (t : Term) (c d : Code) → HasSameNames p s o [] t
      → AreSameUsed p us ws → AreSoundSenses s.senses → AreSoundSenses o.senses
      → IsFit s.senses s.names t → IsFit o.senses o.names t → IsCode s.senses s.names us from t c
      → IsCode o.senses o.names ws start t d
      → shape_of_code (code_content c) ≡ shape_of_code (code_content d)
  code_same s o us ws t c d alike used sound other fits more h g =
      let left = code_shape s.senses s.names us from t c sound fits h in
      let right = code_shape o.senses o.names ws start t d other more g in
      let form = formula_same p s o [] t alike in
      let same = shape_same us ws used (formula_in s.senses s.names [] t) (formula_in o.senses o.names [] t) form [] in
      let all = left ∙ (same ∙ sym right) in λ i. record { kind = OfRelation; steps = all i }

  bodies_same : (s o : Scope) (us ws : List Used) (bs : List Bound) (rs qs : List Body)
      → AllByRecursion (λ b. HasSameNames p s o [] b.body) bs → AreSameUsed p us ws
      → AreSoundSenses s.senses → AreSoundSenses o.senses → AreFit s.senses s.names bs
      → AreFit o.senses o.names bs → AreBodies s.senses s.usages s.names from us bs rs
      → AreBodies o.senses o.usages o.names start ws bs qs
      → map shape_of_body (map body_content rs) ≡ map shape_of_body (map body_content qs)
  bodies_same s o us ws [] [] [] alike used sound other fits more h g = refl
  bodies_same s o us ws [] [] (q ∷ qs) alike used sound other fits more h g = absurd g
  bodies_same s o us ws [] (r ∷ rs) qs alike used sound other fits more h g = absurd h
  bodies_same s o us ws (b ∷ bs) [] qs alike used sound other fits more h g = absurd h
  bodies_same s o us ws (b ∷ bs) (r ∷ rs) [] alike used sound other fits more h g = absurd g
  bodies_same s o us ws (b ∷ bs) (r ∷ rs) (q ∷ qs) alike used sound other fits more h g =
      let later = values_same p from start pairing s o [] b.body us ws alike.0 used in
      let left = with_values s.usages s.names [] from b.body us in
      let right = with_values o.usages o.names [] start b.body ws in
      let name : r.name ≡ q.name = h.0 ∙ sym g.0 in
      let code = code_same s o left right b.body r.code q.code alike.0 later sound other fits.0 more.0 h.1 g.1 in
      let rest = bodies_same s o left right bs rs qs alike.1 later sound other fits.1 more.1 h.2 g.2 in
      λ i. record { name = name i; code = code i } ∷ rest i

  group_same : (s o : Scope) (recursive : Bool) (bs : List Bound) (r q : Role)
      → AllByRecursion (λ b. HasSameNames p s o [] b.body) bs → AreSoundSenses s.senses
      → AreSoundSenses o.senses → AreFit s.senses s.names bs → AreFit o.senses o.names bs
      → IsGroupRole s.senses s.usages s.names from recursive bs r
      → IsGroupRole o.senses o.usages o.names start recursive bs q
      → role_shape (role_content r) ≡ role_shape (role_content q)
  group_same s o recursive bs (roles.Group a rs) (roles.Group b qs) alike sound other fits more h g =
      let kind : a ≡ b = h.0 ∙ sym g.0 in
      let bodies = bodies_same s o [] [] bs rs.items qs.items alike tt sound other fits more h.1 g.1 in
      λ i. content.Group (kind i) (bodies i)
  group_same s o recursive bs (roles.Group a rs) (roles.Check c) alike sound other fits more h g =
      absurd g
  group_same s o recursive bs (roles.Group a rs) roles.Silent alike sound other fits more h g =
      absurd g
  group_same s o recursive bs (roles.Check c) q alike sound other fits more h g = absurd h
  group_same s o recursive bs roles.Silent q alike sound other fits more h g = absurd h

  check_same : (s o : Scope) (w : CheckWord) (e : Term) (negated : Bool) (flag : Option (List ℕ))
      (r q : Role) → HasSameNames p s o [] e → AreSoundSenses s.senses → AreSoundSenses o.senses
      → IsFit s.senses s.names e → IsFit o.senses o.names e
      → IsCheckRole s.senses s.usages s.names from w e r
      → IsCheckRole o.senses o.usages o.names start w e q → IsLabelled negated flag r
      → IsLabelled negated flag q → role_shape (role_content r) ≡ role_shape (role_content q)
  check_same s o w e negated flag (roles.Group a rs) q alike sound other fits more h g l m = absurd h
  check_same s o w e negated flag (roles.Check c) (roles.Group b qs) alike sound other fits more h g l m =
      absurd g
  check_same s o w e negated flag (roles.Check c) (roles.Check d) alike sound other fits more h g l m =
      let turned : c.negated ≡ d.negated = l.0 ∙ sym m.0 in
      let word : c.word ≡ d.word = h.0 ∙ sym g.0 in
      let later = values_same p from start pairing s o [] e [] [] alike tt in
      let code = code_same s o (with_values s.usages s.names [] from e []) (with_values o.usages o.names [] start e []) e c.code d.code alike later sound other fits more h.1 g.1 in
      let name : c.flag ≡ d.flag = l.1 ∙ sym m.1 in
      λ i. content.Check (turned i) (word i) (code i) (name i)
  check_same s o w e negated flag (roles.Check c) roles.Silent alike sound other fits more h g l m =
      absurd g
  check_same s o w e negated flag roles.Silent q alike sound other fits more h g l m = absurd h

-- an item without fault in two scopes
pub record AreFitBoth (s o : Scope) (own other : List Naming) (x : Item) : Type 0 where
  pub sound : AreSoundSenses s.senses
  pub still : AreSoundSenses o.senses
  pub fits : IsFitItem s own (bare_item x)
  pub also : IsFitItem o other (bare_item x)

pub alike_shapes : (x : Item) (p : Pairing) (s o : Scope) (own other : List Naming)
    (from start : ℕ) (r q : ResolvedItem) → IsPairing p from start
    → HasSameNamesIn p s o own other (bare_item x) → AreFitBoth s o own other x
    → IsItem s own from x r → IsItem o other start x q
    → role_shape (role_content r.role) ≡ role_shape (role_content q.role)
alike_shapes (items.Let true g) p s o own other from start r q pairing alike fit h k =
    group_same p from start pairing (scope_with_names s own) (scope_with_names o other) true
    (map bound_value_of g.items) r.role q.role alike fit.sound fit.still fit.fits fit.also h.0.0
    k.0.0
alike_shapes (items.Let false g) p s o own other from start r q pairing alike fit h k =
    group_same p from start pairing s o false (map bound_value_of g.items) r.role q.role alike
    fit.sound fit.still fit.fits fit.also h.0.0 k.0.0
alike_shapes (items.Function n ps b) p s o own other from start r q pairing alike fit h k =
    ap (λ (role : Role). role_shape (role_content role)) (h.0.0 ∙ sym k.0.0)
alike_shapes (items.Check c t) p s o own other from start r q pairing alike fit h k =
    check_same p from start pairing s o c.word (term_of c.body) c.negated None r.role q.role alike
    fit.sound fit.still fit.fits fit.also h.0.0 k.0.0 h.1 k.1
alike_shapes (items.Flag c t) p s o own other from start r q pairing alike fit h k =
    check_same p from start pairing s o c.word (term_of c.body) c.negated (Some t) r.role q.role
    alike fit.sound fit.still fit.fits fit.also h.0.0 k.0.0 h.1 k.1
alike_shapes (items.Show f t) p s o own other from start r q pairing alike fit h k =
    ap (λ (role : Role). role_shape (role_content role)) (h.0.0 ∙ sym k.0.0)
alike_shapes (items.Include n) p s o own other from start r q pairing alike fit h k =
    ap (λ (role : Role). role_shape (role_content role)) (h.0.0 ∙ sym k.0.0)
