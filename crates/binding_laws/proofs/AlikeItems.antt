-- An item whose names stand for the same is resolved to the same steps.
use Rattle.std.proofs.Common.{ℕ, ◌≡◌, List, [], ◌∷◌, ◌++◌, map, reverse, Bool, true, false, Option, Some, None, Contains, refl, sym, ap, ◌∙◌, subst}
use Rattle.std.specs.List.{AllZip, AllByRecursion}
use Rattle.std.proofs.lemmas.List.{reverse-append, map-append}
use Rattle.text_values.specs.declared.model.CheckWord.{CheckWord}
use Rattle.text_values.specs.declared.model.Item.{Item}
use Rattle.text_values.specs.declared.model.Item.TheVariants as items
use Rattle.text_values.specs.ModelValue.{Term}
use Rattle.text_values.specs.ModelValues.{term_of}
use Rattle.binding_kinds.specs.declared.scope.Input.{Input}
use Rattle.binding_kinds.specs.declared.scope.Used.{Used}
use Rattle.binding_kinds.specs.Value.{Bound, bound_value_of}
use Rattle.binding_kinds.specs.Senses.{kind_in}
use Rattle.binding_kinds.specs.Functions.{formula_in}
use Rattle.binding_graph.specs.declared.resolved.Body.{Body}
use Rattle.binding_graph.specs.declared.resolved.Code.{Code}
use Rattle.binding_graph.specs.declared.resolved.ResolvedItem.{ResolvedItem}
use Rattle.binding_graph.specs.declared.resolved.Role.{Role}
use Rattle.binding_graph.specs.declared.resolved.Role.TheVariants as roles
use Rattle.binding_graph.specs.Inputs.{inputs_of}
use Rattle.binding_graph.specs.Meaning.{IsCode, set_tree, rel_tree, steps_of}
use Rattle.binding_graph.specs.Resolved.{AreBodies, IsGroupRole, IsCheckRole, HasUses, IsLabelled}
use Rattle.binding_graph.specs.Usages.{with_values, with_all_values}
use Rattle.binding_graph.specs.Contents as content
use Rattle.binding_graph.specs.Contents.{code_content, body_content, role_content}
use Rattle.binding_laws.specs.ItemLaws.{Scope, Pairing, IsPairing, AreSameUsed, HasSameNames, IsAlike}
use Rattle.binding_laws.proofs.Alike.{formula_same, kind_same}
use Rattle.binding_laws.proofs.Using.{values_same, set_same, relation_same}

-- ---- inputs

inputs_joined : {X Y : Type 0} (R : X → Y → Type 0) (xs zs : List X) (ys ws : List Y)
    → AllZip R xs ys → AllZip R zs ws → AllZip R (xs ++ zs) (ys ++ ws)
inputs_joined R [] zs [] ws h k = k
inputs_joined R [] zs (y ∷ ys) ws h k = absurd h
inputs_joined R (x ∷ xs) zs [] ws h k = absurd h
inputs_joined R (x ∷ xs) zs (y ∷ ys) ws h k = (h.0, inputs_joined R xs zs ys ws h.1 k)

inputs_step : (u : Used) (us : List Used) → inputs_of (u ∷ us) ≡ inputs_of us ++ u.input ∷ []
inputs_step u us =
    ap (λ (l : List Used). map (λ x. x.input) l) (reverse-append (u ∷ []) us)
    ∙ map-append (λ (x : Used). x.input) (reverse us) (u ∷ [])

inputs_same : (p : Pairing) (us ws : List Used) → AreSameUsed p us ws
    → AllZip (λ i j. Contains p.inputs (i, j)) (inputs_of us) (inputs_of ws)
inputs_same p [] [] h = tt
inputs_same p [] (w ∷ ws) h = absurd h
inputs_same p (u ∷ us) [] h = absurd h
inputs_same p (u ∷ us) (w ∷ ws) h =
    let all : AllZip (λ i j. Contains p.inputs (i, j)) (inputs_of us ++ u.input ∷ []) (inputs_of ws ++ w.input ∷ []) =
    inputs_joined (λ i j. Contains p.inputs (i, j)) (inputs_of us) (u.input ∷ []) (inputs_of ws)
    (w.input ∷ []) (inputs_same p us ws h.1) (h.0.1, tt) in
    subst (λ (l : List Input). AllZip (λ i j. Contains p.inputs (i, j)) l (inputs_of (w ∷ ws)))
    (sym (inputs_step u us))
    (subst
    (λ (l : List Input).
    AllZip (λ i j. Contains p.inputs (i, j)) (inputs_of us ++ u.input ∷ []) l)
    (sym (inputs_step w ws)) all)

-- ---- items

module _ (p : Pairing) (from start : ℕ) (pairing : IsPairing p from start) where
  code_same : p.kinds ≡ true → (s o : Scope) (us ws : List Used) (t : Term) (c d : Code)
      → HasSameNames p s o [] t → AreSameUsed p us ws → IsCode s.senses s.names us from t c
      → IsCode o.senses o.names ws start t d → code_content c ≡ code_content d
  code_same counts s o us ws t c d alike used h g =
      let form = formula_same p s o [] t alike in
      let sets = set_same p from start pairing us ws used (formula_in s.senses s.names [] t) (formula_in o.senses o.names [] t) form in
      let relations = relation_same p from start pairing us ws used (formula_in s.senses s.names [] t) (formula_in o.senses o.names [] t) form in
      let kinds = kind_same p counts s o t alike in
      let kind : c.kind ≡ d.kind = h.0 ∙ (kinds ∙ sym g.0) in
      let all : steps_of (kind_in s.senses s.names t) (set_tree us from (formula_in s.senses s.names [] t)) (rel_tree us from (formula_in s.senses s.names [] t)) ≡ steps_of (kind_in o.senses o.names t) (set_tree ws start (formula_in o.senses o.names [] t)) (rel_tree ws start (formula_in o.senses o.names [] t)) =
      λ i. steps_of (kinds i) (sets i) (relations i) in
      let steps : c.steps.items ≡ d.steps.items = h.1 ∙ (all ∙ sym g.1) in
      λ i. record { kind = kind i; steps = steps i }

  bodies_same : p.kinds ≡ true → (s o : Scope) (us ws : List Used) (bs : List Bound)
      (rs qs : List Body)
      → AllByRecursion (λ b. HasSameNames p s o [] b.body) bs → AreSameUsed p us ws
      → AreBodies s.senses s.usages s.names from us bs rs
      → AreBodies o.senses o.usages o.names start ws bs qs
      → map body_content rs ≡ map body_content qs
  bodies_same counts s o us ws [] [] [] alike used h g = refl
  bodies_same counts s o us ws [] [] (q ∷ qs) alike used h g = absurd g
  bodies_same counts s o us ws [] (r ∷ rs) qs alike used h g = absurd h
  bodies_same counts s o us ws (b ∷ bs) [] qs alike used h g = absurd h
  bodies_same counts s o us ws (b ∷ bs) (r ∷ rs) [] alike used h g = absurd g
  bodies_same counts s o us ws (b ∷ bs) (r ∷ rs) (q ∷ qs) alike used h g =
      let more = values_same p from start pairing s o [] b.body us ws alike.0 used in
      let left = with_values s.usages s.names [] from b.body us in
      let right = with_values o.usages o.names [] start b.body ws in
      let name : r.name ≡ q.name = h.0 ∙ sym g.0 in
      let code = code_same counts s o left right b.body r.code q.code alike.0 more h.1 g.1 in
      let first : body_content r ≡ body_content q = λ i. record { name = name i; code = code i } in
      let rest = bodies_same counts s o left right bs rs qs alike.1 more h.2 g.2 in
      λ i. first i ∷ rest i

  all_used_same : (s o : Scope) (us ws : List Used) (bs : List Bound)
      → AllByRecursion (λ b. HasSameNames p s o [] b.body) bs → AreSameUsed p us ws
      → AreSameUsed p (with_all_values s.usages s.names from bs us)
      (with_all_values o.usages o.names start bs ws)
  all_used_same s o us ws [] alike used = used
  all_used_same s o us ws (b ∷ bs) alike used =
      all_used_same s o (with_values s.usages s.names [] from b.body us)
      (with_values o.usages o.names [] start b.body ws) bs alike.1
      (values_same p from start pairing s o [] b.body us ws alike.0 used)

  group_same : p.kinds ≡ true → (s o : Scope) (recursive : Bool) (bs : List Bound) (r q : Role)
      → AllByRecursion (λ b. HasSameNames p s o [] b.body) bs
      → IsGroupRole s.senses s.usages s.names from recursive bs r
      → IsGroupRole o.senses o.usages o.names start recursive bs q → role_content r ≡ role_content q
  group_same counts s o recursive bs (roles.Group a rs) (roles.Group b qs) alike h g =
      let kind : a ≡ b = h.0 ∙ sym g.0 in
      let bodies = bodies_same counts s o [] [] bs rs.items qs.items alike tt h.1 g.1 in
      λ i. content.Group (kind i) (bodies i)
  group_same counts s o recursive bs (roles.Group a rs) (roles.Check c) alike h g = absurd g
  group_same counts s o recursive bs (roles.Group a rs) roles.Silent alike h g = absurd g
  group_same counts s o recursive bs (roles.Check c) q alike h g = absurd h
  group_same counts s o recursive bs roles.Silent q alike h g = absurd h

  check_same : p.kinds ≡ true → (s o : Scope) (w : CheckWord) (e : Term) (negated : Bool)
      (flag : Option (List ℕ)) (r q : Role) → HasSameNames p s o [] e → IsCheckRole s.senses s.usages s.names from w e r
      → IsCheckRole o.senses o.usages o.names start w e q → IsLabelled negated flag r
      → IsLabelled negated flag q → role_content r ≡ role_content q
  check_same counts s o w e negated flag (roles.Group a rs) q alike h g l m = absurd h
  check_same counts s o w e negated flag (roles.Check c) (roles.Group b qs) alike h g l m = absurd g
  check_same counts s o w e negated flag (roles.Check c) (roles.Check d) alike h g l m =
      let turned : c.negated ≡ d.negated = l.0 ∙ sym m.0 in
      let word : c.word ≡ d.word = h.0 ∙ sym g.0 in
      let code = code_same counts s o (with_values s.usages s.names [] from e []) (with_values o.usages o.names [] start e []) e c.code d.code alike (values_same p from start pairing s o [] e [] [] alike tt) h.1 g.1 in
      let name : c.flag ≡ d.flag = l.1 ∙ sym m.1 in
      λ i. content.Check (turned i) (word i) (code i) (name i)
  check_same counts s o w e negated flag (roles.Check c) roles.Silent alike h g l m = absurd g
  check_same counts s o w e negated flag roles.Silent q alike h g l m = absurd h

  uses_same : (r q : ResolvedItem) (us ws : List Used) (fs gs : List ℕ) → AreSameUsed p us ws
      → HasUses r us fs → HasUses q ws gs
      → AllZip (λ i j. Contains p.inputs (i, j)) r.inputs.items q.inputs.items
  uses_same r q us ws fs gs used h g =
      subst (λ (l : List Input). AllZip (λ i j. Contains p.inputs (i, j)) r.inputs.items l)
      (sym g.inputs)
      (subst (λ (l : List Input). AllZip (λ i j. Contains p.inputs (i, j)) l (inputs_of ws))
      (sym h.inputs) (inputs_same p us ws used))

pub alike_items : (x : Item) → IsAlike x
alike_items (items.Let true g) p s o own other from start r q pairing alike h k =
    let left : Scope = record { senses = s.senses; usages = s.usages; names = own } in
    let right : Scope = record { senses = o.senses; usages = o.usages; names = other } in
    let bs = map bound_value_of g.items in (
      λ counts. group_same p from start pairing counts left right true bs r.role q.role alike h.0.0 k.0.0,
      uses_same p from start pairing r q _ _ _ _
          (all_used_same p from start pairing left right [] [] bs alike tt) h.0.1 k.0.1,
    )
alike_items (items.Let false g) p s o own other from start r q pairing alike h k =
    let bs = map bound_value_of g.items in (
      λ counts. group_same p from start pairing counts s o false bs r.role q.role alike h.0.0 k.0.0,
      uses_same p from start pairing r q _ _ _ _
          (all_used_same p from start pairing s o [] [] bs alike tt) h.0.1 k.0.1,
    )
alike_items (items.Function n ps b) p s o own other from start r q pairing alike h k = (
  λ counts. ap role_content (h.0.0 ∙ sym k.0.0),
  uses_same p from start pairing r q _ _ _ _
      (values_same p from start pairing s o ps.items (term_of b) [] [] alike tt) h.0.1
      k.0.1,
)
alike_items (items.Check c t) p s o own other from start r q pairing alike h k = (
  λ counts. check_same p from start pairing counts s o c.word (term_of c.body) c.negated None r.role q.role alike
      h.0.0 k.0.0 h.1 k.1,
  uses_same p from start pairing r q _ _ _ _
      (values_same p from start pairing s o [] (term_of c.body) [] [] alike tt) h.0.1
      k.0.1,
)
alike_items (items.Flag c t) p s o own other from start r q pairing alike h k = (
  λ counts. check_same p from start pairing counts s o c.word (term_of c.body) c.negated (Some t) r.role q.role
      alike h.0.0 k.0.0 h.1 k.1,
  uses_same p from start pairing r q _ _ _ _
      (values_same p from start pairing s o [] (term_of c.body) [] [] alike tt) h.0.1
      k.0.1,
)
alike_items (items.Show f t) p s o own other from start r q pairing alike h k =
    (λ counts. ap role_content (h.0.0 ∙ sym k.0.0), uses_same p from start pairing r q _ _ _ _ tt h.0.1 k.0.1)
alike_items (items.Include n) p s o own other from start r q pairing alike h k =
    (λ counts. ap role_content (h.0.0 ∙ sym k.0.0), uses_same p from start pairing r q _ _ _ _ tt h.0.1 k.0.1)
