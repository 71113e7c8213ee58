-- How much is left to evaluate: an expression, and the functions that it may apply.
use Rattle.std.proofs.Common.{◌≡◌, ℕ, ◌+◌, ◌<◌, ◌≤◌, zero, suc, List, [], ◌∷◌, ◌++◌, length, take, get_or, map, Option, Some, Vec, Global, ap, ◌∙◌, arith}
use Rattle.std.specs.Prelude.{slice_get}
use Rattle.std.proofs.lemmas.List.{take_more}
use Rattle.std.proofs.lemmas.Option.{slice_get-get_or}
use Rattle.text_values.specs.declared.model.Item.{Item}
use Rattle.text_values.specs.declared.model.Item.TheVariants as items
use Rattle.text_values.specs.declared.model.Expression.{Expression}
use Rattle.text_values.specs.ModelValue.{Term, Terms, Atom, AllEvents, EmptyRelation, EmptySet, Join, Mark, Not, On, Apply, NoTerm, OneMore, gathered}
use Rattle.text_values.specs.ModelValues.{term_of}
use Rattle.plain_models.specs.declared.scope.Bound.{Bound}
use Rattle.plain_models.specs.declared.scope.Bound.TheVariants as bounds
use Rattle.plain_models.specs.declared.scope.Named.{Named}

abbrev mutual
  pub term_weight : Term → ℕ
  term_weight (Atom n) = 1
  term_weight AllEvents = 1
  term_weight EmptyRelation = 1
  term_weight EmptySet = 1
  term_weight (Join op a b) = suc (term_weight a + term_weight b)
  term_weight (Mark op a) = suc (term_weight a)
  term_weight (Not a) = suc (term_weight a)
  term_weight (On a) = suc (term_weight a)
  term_weight (Apply n ts) = suc (terms_weight ts)

  pub terms_weight : Terms → ℕ
  terms_weight NoTerm = 0
  terms_weight (OneMore a ts) = suc (term_weight a + terms_weight ts)

abbrev pub item_weight : Option Item → ℕ
item_weight (Some (items.Function name parameters body)) = term_weight (term_of body)
item_weight _ = 0

abbrev pub bound_weight : List Item → Bound → ℕ
bound_weight is (bounds.Value v) = 0
bound_weight is (bounds.Function i) = item_weight (slice_get is i)

abbrev pub outer_weight : List Item → List Named → ℕ
outer_weight is [] = 0
outer_weight is (b ∷ bs) = 3 + bound_weight is b.bound + outer_weight is bs

weight_split : (is : List Item) (xs ys : List Named)
    → outer_weight is (xs ++ ys) ≡ outer_weight is xs + outer_weight is ys
weight_split is [] ys = omega arith
weight_split is (x ∷ xs) ys = omega (arith, weight_split is xs ys)

pub weight_take : (is : List Item) (bs : List Named) (k : ℕ)
    → outer_weight is (take k bs) ≤ outer_weight is bs
weight_take is [] zero = omega arith
weight_take is [] (suc k) = omega arith
weight_take is (b ∷ bs) zero = omega arith
weight_take is (b ∷ bs) (suc k) = omega (arith, weight_take is bs k)

pub weight_at : (is : List Item) (bs : List Named) (i : ℕ) (d : Named) → i < length bs
    → 3 + bound_weight is (get_or bs i d).bound + outer_weight is (take i bs)
    ≤ outer_weight is (take (i + 1) bs)
weight_at is bs i d lt =
    let e : outer_weight is (take (i + 1) bs) ≡ outer_weight is (take i bs ++ get_or bs i d ∷ []) = ap (outer_weight is) (take_more bs i d lt) in
    omega (arith, e, weight_split is (take i bs) (get_or bs i d ∷ []))

pub argument_weight : (es : List Expression) (i : ℕ) (d : Expression) → i < length es
    → term_weight (term_of (get_or es i d)) < terms_weight (gathered (map term_of es))
argument_weight [] i d lt = absurd (omega arith)
argument_weight (e ∷ es) zero d lt = omega arith
argument_weight (e ∷ es) (suc i) d lt = omega (arith, argument_weight es i d (omega arith))

-- the body of a function weighs less than the names up to the function
pub body_weight : (is : List Item) (bs : List Named) (index : ℕ) (d : Named) (i : ℕ)
    → index < length bs → (get_or bs index d).bound ≡ bounds.Function i
    → 2 + item_weight (slice_get is i) + outer_weight is (take index bs)
    < outer_weight is (take (index + 1) bs)
body_weight is bs index d i lt is_function =
    let e : bound_weight is (get_or bs index d).bound ≡ item_weight (slice_get is i) = ap (bound_weight is) is_function in
    omega (arith, e, weight_at is bs index d lt)

pub item_weighs : (is : List Item) (i : ℕ) (d : Item) (n : List ℕ) (ps : Vec (List ℕ) Global)
    (body : Expression) → i < length is → get_or is i d ≡ items.Function n ps body
    → item_weight (slice_get is i) ≡ term_weight (term_of body)
item_weighs is i d n ps body lt is_function =
    ap item_weight (slice_get-get_or is i d lt)
    ∙ ap (λ (x : Item). item_weight (Some x)) is_function
