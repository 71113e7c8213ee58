-- All resolutions of a model have the same content, and steps of expressions.
use Rattle.std.proofs.Common.{ℕ, ◌≡◌, ◌+◌, List, [], ◌∷◌, length, map, Bool, true, false, Option, Some, None, refl, sym, ap, ◌∙◌}
use Rattle.text_values.specs.declared.model.CheckWord.{CheckWord}
use Rattle.text_values.specs.declared.model.Item as code_item
use Rattle.text_values.specs.declared.model.Item.TheVariants as items
use Rattle.text_values.specs.declared.model.ModelText.{ModelText}
use Rattle.text_values.specs.ModelValue.{Term}
use Rattle.text_values.specs.ModelValues.{term_of}
use Rattle.binding_kinds.specs.declared.scope.Used.{Used}
use Rattle.binding_kinds.specs.Value.{Naming, Bound, bare_item, bound_value_of}
use Rattle.binding_kinds.specs.Senses.{Sense}
use Rattle.binding_kinds.specs.Faults.{names_after, senses_after}
use Rattle.binding_graph.specs.declared.resolved.Body.{Body}
use Rattle.binding_graph.specs.declared.resolved.Code.{Code}
use Rattle.binding_graph.specs.declared.resolved.ResolvedItem.{ResolvedItem}
use Rattle.binding_graph.specs.declared.resolved.Role.{Role}
use Rattle.binding_graph.specs.declared.resolved.Role.TheVariants as roles
use Rattle.binding_graph.specs.Meaning.{IsCode}
use Rattle.binding_graph.specs.Resolved.{AreBodies, IsGroupRole, IsCheckRole, HasUses, IsResolvedIn, AreResolved, IsLabelled, IsLabelledAs, AreLabelledAs}
use Rattle.binding_graph.specs.Usages.{Usage, with_values, usages_after}
use Rattle.order_growth.specs.Items as content
use Rattle.order_growth.specs.Items.{code_content, body_content, role_content, item_content}
use Rattle.binding_kinds.specs.Outermost.{outermost_names}
use Rattle.evaluation_laws.specs.Laws.{HasOneResolution}

-- ---- one content

code_one : (ss : List Sense) (names : List Naming) (us : List Used) (from : ℕ) (t : Term)
    (c d : Code) → IsCode ss names us from t c → IsCode ss names us from t d
    → code_content c ≡ code_content d
code_one ss names us from t c d h g =
    let kind : c.kind ≡ d.kind = h.0 ∙ sym g.0 in
    let steps : c.steps.items ≡ d.steps.items = h.1 ∙ sym g.1 in
    λ i. record { kind = kind i; steps = steps i }

bodies_one : (ss : List Sense) (us : List Usage) (names : List Naming) (from : ℕ) (vs : List Used)
    (bs : List Bound) (rs qs : List Body) → AreBodies ss us names from vs bs rs
    → AreBodies ss us names from vs bs qs → map body_content rs ≡ map body_content qs
bodies_one ss us names from vs [] [] [] h g = refl
bodies_one ss us names from vs [] [] (q ∷ qs) h g = absurd g
bodies_one ss us names from vs [] (r ∷ rs) qs h g = absurd h
bodies_one ss us names from vs (b ∷ bs) [] qs h g = absurd h
bodies_one ss us names from vs (b ∷ bs) (r ∷ rs) [] h g = absurd g
bodies_one ss us names from vs (b ∷ bs) (r ∷ rs) (q ∷ qs) h g =
    let used = with_values us names [] from b.body vs in
    let name : r.name ≡ q.name = h.0 ∙ sym g.0 in
    let code = code_one ss names used from b.body r.code q.code h.1 g.1 in
    let first : body_content r ≡ body_content q = λ i. record { name = name i; code = code i } in
    let rest = bodies_one ss us names from used bs rs qs h.2 g.2 in
    λ i. first i ∷ rest i

group_one : (ss : List Sense) (us : List Usage) (names : List Naming) (from : ℕ) (recursive : Bool)
    (bs : List Bound) (r q : Role) → IsGroupRole ss us names from recursive bs r
    → IsGroupRole ss us names from recursive bs q → role_content r ≡ role_content q
group_one ss us names from recursive bs (roles.Group a rs) (roles.Group b qs) h g =
    let kind : a ≡ b = h.0 ∙ sym g.0 in
    let bodies = bodies_one ss us names from [] bs rs.items qs.items h.1 g.1 in
    λ i. content.Group (kind i) (bodies i)
group_one ss us names from recursive bs (roles.Group a rs) (roles.Check c) h g = absurd g
group_one ss us names from recursive bs (roles.Group a rs) roles.Silent h g = absurd g
group_one ss us names from recursive bs (roles.Check c) q h g = absurd h
group_one ss us names from recursive bs roles.Silent q h g = absurd h

check_one : (ss : List Sense) (us : List Usage) (names : List Naming) (from : ℕ) (w : CheckWord)
    (e : Term) (negated : Bool) (flag : Option (List ℕ)) (r q : Role)
    → IsCheckRole ss us names from w e r → IsCheckRole ss us names from w e q
    → IsLabelled negated flag r → IsLabelled negated flag q → role_content r ≡ role_content q
check_one ss us names from w e negated flag (roles.Group a rs) q h g l m = absurd h
check_one ss us names from w e negated flag (roles.Check c) (roles.Group b qs) h g l m = absurd g
check_one ss us names from w e negated flag (roles.Check c) (roles.Check d) h g l m =
    let turned : c.negated ≡ d.negated = l.0 ∙ sym m.0 in
    let word : c.word ≡ d.word = h.0 ∙ sym g.0 in
    let code = code_one ss names (with_values us names [] from e []) from e c.code d.code h.1 g.1 in
    let name : c.flag ≡ d.flag = l.1 ∙ sym m.1 in
    λ i. content.Check (turned i) (word i) (code i) (name i)
check_one ss us names from w e negated flag (roles.Check c) roles.Silent h g l m = absurd g
check_one ss us names from w e negated flag roles.Silent q h g l m = absurd h

uses_one : (r q : ResolvedItem) (vs : List Used) (fs : List ℕ)
    → role_content r.role ≡ role_content q.role → HasUses r vs fs → HasUses q vs fs
    → item_content r ≡ item_content q
uses_one r q vs fs role h g =
    let inputs : r.inputs.items ≡ q.inputs.items = h.inputs ∙ sym g.inputs in
    let functions : r.functions.items ≡ q.functions.items = h.functions ∙ sym g.functions in
    λ i. record { role = role i; inputs = inputs i; functions = functions i }

item_one : (ss : List Sense) (us : List Usage) (names own : List Naming) (from : ℕ)
    (x : code_item.Item) (r q : ResolvedItem)
    → IsResolvedIn ss us names own from (bare_item x) r
    → IsResolvedIn ss us names own from (bare_item x) q → IsLabelledAs x r → IsLabelledAs x q
    → item_content r ≡ item_content q
item_one ss us names own from (items.Let true g) r q h k l m =
    uses_one r q _ _ (group_one ss us own from true (map bound_value_of g.items) r.role q.role h.0 k.0)
    h.1 k.1
item_one ss us names own from (items.Let false g) r q h k l m =
    uses_one r q _ _ (group_one ss us names from false (map bound_value_of g.items) r.role q.role h.0 k.0)
    h.1 k.1
item_one ss us names own from (items.Function n ps b) r q h k l m =
    uses_one r q _ _ (ap role_content (h.0 ∙ sym k.0)) h.1 k.1
item_one ss us names own from (items.Check c t) r q h k l m =
    uses_one r q _ _
    (check_one ss us names from c.word (term_of c.body) c.negated None r.role q.role h.0 k.0 l m)
    h.1 k.1
item_one ss us names own from (items.Flag c t) r q h k l m =
    uses_one r q _ _
    (check_one ss us names from c.word (term_of c.body) c.negated (Some t) r.role q.role h.0 k.0 l
    m) h.1 k.1
item_one ss us names own from (items.Show s t) r q h k l m =
    uses_one r q _ _ (ap role_content (h.0 ∙ sym k.0)) h.1 k.1
item_one ss us names own from (items.Include n) r q h k l m =
    uses_one r q _ _ (ap role_content (h.0 ∙ sym k.0)) h.1 k.1

all_one : (ss : List Sense) (us : List Usage) (names : List Naming) (at : ℕ)
    (xs : List code_item.Item) (rs qs : List ResolvedItem)
    → AreResolved ss us names at (map bare_item xs) rs
    → AreResolved ss us names at (map bare_item xs) qs → AreLabelledAs xs rs → AreLabelledAs xs qs
    → map item_content rs ≡ map item_content qs
all_one ss us names at [] [] [] h g l m = refl
all_one ss us names at [] [] (q ∷ qs) h g l m = absurd g
all_one ss us names at [] (r ∷ rs) qs h g l m = absurd h
all_one ss us names at (x ∷ xs) [] qs h g l m = absurd h
all_one ss us names at (x ∷ xs) (r ∷ rs) [] h g l m = absurd g
all_one ss us names at (x ∷ xs) (r ∷ rs) (q ∷ qs) h g l m =
    let c = bare_item x in
    let first = item_one ss us names (names_after ss names at c) (length names) x r q h.0 g.0 l.0 m.0 in
    let rest = all_one (senses_after ss names c) (usages_after us names at c) (names_after ss names at c) (at + 1) xs rs qs h.1 g.1 l.1 m.1 in
    λ i. first i ∷ rest i

pub one_resolution : (model : ModelText) → HasOneResolution model
one_resolution model rs qs h g = all_one [] [] outermost_names 0 model.items.items rs qs h.0 g.0 h.1 g.1
