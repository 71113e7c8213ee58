-- Expressions whose names stand for the same have the same form and kind.
use Rattle.std.proofs.Common.{ℕ, ◌≡◌, ◌+◌, ◌*◌, zero, suc, List, [], ◌∷◌, length, reverse, Bool, true, false, Option, Some, None, Result, Ok, Err, get_or, refl, sym, ap, ◌∙◌, subst}
use Rattle.std.specs.Prelude.{nat_lt, nat_eq, if◌then◌else◌}
use Rattle.std.specs.List.{AllZip}
use Rattle.std.proofs.lemmas.Bool.{false≢true}
use Rattle.text_values.specs.ModelValue.{Term, Terms, Atom, AllEvents, EmptyRelation, EmptySet, Join, Mark, Not, On, Apply, NoTerm, OneMore}
use Rattle.binding_kinds.specs.declared.fault.ModelFault.{ModelFault}
use Rattle.binding_kinds.specs.declared.kinds.Kind.{Kind}
use Rattle.binding_kinds.specs.declared.kinds.Kind.TheVariants.{OfAny}
use Rattle.binding_kinds.specs.declared.scope.Binder.{Binder}
use Rattle.binding_kinds.specs.declared.scope.Binder.TheVariants as binders
use Rattle.binding_kinds.specs.declared.scope.Found.{Found}
use Rattle.binding_kinds.specs.Value.{Naming}
use Rattle.binding_kinds.specs.Kinds.{found, kind_found, joined_kind, marked, narrowed}
use Rattle.binding_kinds.specs.Meanings.{parameter_of}
use Rattle.binding_kinds.specs.Formula.{Formula, Value, Parameter, Everything, NoPairs, NoEvents, Joined, Marked, Complement, Identity, filled, constant_of, factor_of}
use Rattle.binding_kinds.specs.Senses.{Sense, sense_of, size_of_arguments, size_with, size_applied, kind_applied, size_in, sizes_in, kind_in, kinds_in, count_of}
use Rattle.binding_kinds.specs.Functions.{sense_seen, bound_formula, named_formula, applied_formula, formula_in, formulas_in}
use Rattle.binding_laws.specs.ItemLaws.{Scope, Pairing, IsSameBinder, IsSameKind, IsSameFound, IsSameName, IsSameUnless, IsSameFormula, IsSameSense, IsSameFunction, HasSameNames, HaveSameNames}
use Rattle.binding_kinds.proofs.Applications.{long_kinds, found_arity}

-- ---- forms

module _ (p : Pairing) where
  abbrev pub AreSameFormulas : List Formula → List Formula → Type 0
  AreSameFormulas fs gs = AllZip (IsSameFormula p) fs gs

  bound_same : (f g : Found) (b c : Binder) → IsSameFound p f g → IsSameBinder p b c
      → IsSameFormula p (bound_formula f b) (bound_formula g c)
  bound_same f g (binders.Predefined x) (binders.Predefined y) h k = h
  bound_same f g (binders.Predefined x) (binders.Bound j) h k = absurd k
  bound_same f g (binders.Predefined x) (binders.Applicable j) h k = absurd k
  bound_same f g (binders.Bound i) (binders.Predefined y) h k = absurd k
  bound_same f g (binders.Bound i) (binders.Bound j) h k = h
  bound_same f g (binders.Bound i) (binders.Applicable j) h k = absurd k
  bound_same f g (binders.Applicable i) (binders.Predefined y) h k = absurd k
  bound_same f g (binders.Applicable i) (binders.Bound j) h k = absurd k
  bound_same f g (binders.Applicable i) (binders.Applicable j) h k = tt

  named_same : (i : Option ℕ) (f g : Option Found) → IsSameUnless p i f g
      → IsSameFormula p (named_formula i f) (named_formula i g)
  named_same (Some i) f g h = refl
  named_same None None None h = tt
  named_same None None (Some g) h = absurd h
  named_same None (Some f) None h = absurd h
  named_same None (Some f) (Some g) h = bound_same f g f.binder g.binder h h.2

  get_same : (fs gs : List Formula) (i : ℕ) → AreSameFormulas fs gs
      → IsSameFormula p (get_or fs i NoPairs) (get_or gs i NoPairs)
  get_same [] [] i h = tt
  get_same [] (g ∷ gs) i h = absurd h
  get_same (f ∷ fs) [] i h = absurd h
  get_same (f ∷ fs) (g ∷ gs) zero h = h.0
  get_same (f ∷ fs) (g ∷ gs) (suc i) h = get_same fs gs i h.1

  filled_same : (fs gs : List Formula) → AreSameFormulas fs gs → (f g : Formula)
      → IsSameFormula p f g → IsSameFormula p (filled fs f) (filled gs g)
  filled_same fs gs all (Value f) (Value g) h = h
  filled_same fs gs all (Parameter i) (Parameter j) h =
      subst (λ (k : ℕ). IsSameFormula p (get_or fs i NoPairs) (get_or gs k NoPairs)) h
      (get_same fs gs i all)
  filled_same fs gs all Everything Everything h = tt
  filled_same fs gs all NoPairs NoPairs h = tt
  filled_same fs gs all NoEvents NoEvents h = tt
  filled_same fs gs all (Joined op a b) (Joined oq c d) h =
      (h.0, filled_same fs gs all a c h.1, filled_same fs gs all b d h.2)
  filled_same fs gs all (Marked op a) (Marked oq c) h = (h.0, filled_same fs gs all a c h.1)
  filled_same fs gs all (Complement a) (Complement c) h = filled_same fs gs all a c h
  filled_same fs gs all (Identity a) (Identity c) h = filled_same fs gs all a c h
  filled_same fs gs all f g h = absurd h

  applied_same : (a b : Option Sense) (fs gs : List Formula) → IsSameFunction p a b
      → AreSameFormulas fs gs → IsSameFormula p (applied_formula a fs) (applied_formula b gs)
  applied_same None None fs gs h all = tt
  applied_same None (Some b) fs gs h all = absurd h
  applied_same (Some a) None fs gs h all = absurd h
  applied_same (Some a) (Some b) fs gs h all = filled_same fs gs all a.formula b.formula h.formula

  module _ (s o : Scope) (ps : List (List ℕ)) where
    mutual
      pub formula_same : (t : Term) → HasSameNames p s o ps t
          → IsSameFormula p (formula_in s.senses s.names ps t) (formula_in o.senses o.names ps t)
      formula_same (Atom x) h =
          named_same (parameter_of (reverse ps) x) (found s.names x) (found o.names x) h
      formula_same AllEvents h = tt
      formula_same EmptyRelation h = tt
      formula_same EmptySet h = tt
      formula_same (Join op a b) h = (refl, formula_same a h.0, formula_same b h.1)
      formula_same (Mark op a) h = (refl, formula_same a h)
      formula_same (Not a) h = formula_same a h
      formula_same (On a) h = formula_same a h
      formula_same (Apply x ts) h =
          applied_same (sense_seen s.senses s.names ps (count_of ts) x)
          (sense_seen o.senses o.names ps (count_of ts) x) (formulas_in s.senses s.names ps ts)
          (formulas_in o.senses o.names ps ts) h.0 (formulas_same ts h.2)

      formulas_same : (ts : Terms) → HaveSameNames p s o ps ts
          → AreSameFormulas (formulas_in s.senses s.names ps ts)
          (formulas_in o.senses o.names ps ts)
      formulas_same NoTerm h = tt
      formulas_same (OneMore a others) h = (formula_same a h.0, formulas_same others h.1)

  -- ---- sizes

  constant_same : (f g : Formula) → IsSameFormula p f g → constant_of f ≡ constant_of g
  constant_same (Value f) (Value g) h = refl
  constant_same (Parameter i) (Parameter j) h = refl
  constant_same Everything Everything h = refl
  constant_same NoPairs NoPairs h = refl
  constant_same NoEvents NoEvents h = refl
  constant_same (Joined op a b) (Joined oq c d) h =
      λ i. constant_same a c h.1 i + constant_same b d h.2 i + 1
  constant_same (Marked op a) (Marked oq c) h = λ i. constant_same a c h.1 i + 1
  constant_same (Complement a) (Complement c) h = λ i. constant_same a c h i + 1
  constant_same (Identity a) (Identity c) h = λ i. constant_same a c h i + 1
  constant_same f g h = absurd h

  factor_same : (f g : Formula) → IsSameFormula p f g → (k : ℕ) → factor_of f k ≡ factor_of g k
  factor_same (Value f) (Value g) h k = refl
  factor_same (Parameter i) (Parameter j) h k = ap (λ (n : ℕ). if nat_eq n k then 1 else 0) h
  factor_same Everything Everything h k = refl
  factor_same NoPairs NoPairs h k = refl
  factor_same NoEvents NoEvents h k = refl
  factor_same (Joined op a b) (Joined oq c d) h k =
      λ i. factor_same a c h.1 k i + factor_same b d h.2 k i
  factor_same (Marked op a) (Marked oq c) h k = factor_same a c h.1 k
  factor_same (Complement a) (Complement c) h k = factor_same a c h k
  factor_same (Identity a) (Identity c) h k = factor_same a c h k
  factor_same f g h k = absurd h

  arguments_same : (F G : ℕ → ℕ) → ((k : ℕ) → F k ≡ G k) → (k : ℕ) (sizes : List ℕ)
      → size_of_arguments F k sizes ≡ size_of_arguments G k sizes
  arguments_same F G e k [] = refl
  arguments_same F G e k (n ∷ ns) = λ i. e k i * n + arguments_same F G e (suc k) ns i

  size_same : (s o : Sense) → IsSameSense p s o → (sizes : List ℕ)
      → size_with s sizes ≡ size_with o sizes
  size_same s o h sizes =
      let constant = constant_same s.formula o.formula h.formula in
      let arguments = arguments_same (factor_of s.formula) (factor_of o.formula) (factor_same s.formula o.formula h.formula) 0 sizes in
      λ i. constant i + arguments i

-- ---- functions as they are applied

abbrev size_seen : Option Sense → List ℕ → ℕ
size_seen None sizes = 1
size_seen (Some s) sizes = size_with s sizes

abbrev kind_seen : Option Sense → List ℕ → List Kind → Kind
kind_seen None sizes kinds = OfAny
kind_seen (Some s) sizes kinds =
    if nat_lt 4096 (size_with s sizes) then OfAny else s.kind_with kinds

by_size : (ss : List Sense) (names : List Naming) (n : ℕ) (x : List ℕ) (sizes : List ℕ)
    (r : Result Sense ModelFault) → sense_of ss n (found names x) ≡ r
    → size_applied r sizes ≡ size_seen (sense_seen ss names [] n x) sizes
by_size ss names n x sizes (Ok s) is =
    let w : sense_seen ss names [] n x ≡ Some s = rw is refl in rw w refl
by_size ss names n x sizes (Err k) is =
    let w : sense_seen ss names [] n x ≡ None = rw is refl in rw w refl

by_kind : (ss : List Sense) (names : List Naming) (n : ℕ) (x : List ℕ) (sizes : List ℕ)
    (kinds : List Kind) (r : Result Sense ModelFault) → sense_of ss n (found names x) ≡ r
    → kind_applied r sizes kinds ≡ kind_seen (sense_seen ss names [] n x) sizes kinds
by_kind ss names n x sizes kinds (Ok s) is =
    let w : sense_seen ss names [] n x ≡ Some s = rw is refl in rw w refl
by_kind ss names n x sizes kinds (Err k) is =
    let w : sense_seen ss names [] n x ≡ None = rw is refl in rw w refl

-- the function, if there is one, has so many parameters
abbrev pub HasArity : ℕ → Option Sense → Type 0
HasArity n None = Unit {0}
HasArity n (Some s) = s.arity ≡ n

seen_arity : (ss : List Sense) (names : List Naming) (n : ℕ) (x : List ℕ)
    (r : Result Sense ModelFault) → sense_of ss n (found names x) ≡ r
    → HasArity n (sense_seen ss names [] n x)
seen_arity ss names n x (Ok s) is =
    let w : sense_seen ss names [] n x ≡ Some s = rw is refl in
    rw w (found_arity ss n (found names x) s is)
seen_arity ss names n x (Err k) is =
    let w : sense_seen ss names [] n x ≡ None = rw is refl in rw w tt

-- ---- kinds

one_kind : (b : Bool) (k l : Kind) → b ≡ true → IsSameKind b k l → k ≡ l
one_kind true k l e h = h
one_kind false k l e h = absurd (false≢true e)

module _ (p : Pairing) (counts : p.kinds ≡ true) where
  pub found_kind : (f g : Option Found) → IsSameName p f g → kind_found f ≡ kind_found g
  found_kind None None h = refl
  found_kind None (Some g) h = absurd h
  found_kind (Some f) None h = absurd h
  found_kind (Some f) (Some g) h = one_kind p.kinds f.kind g.kind counts h.1

  size_seen_same : (a b : Option Sense) → IsSameFunction p a b → (sizes : List ℕ)
      → size_seen a sizes ≡ size_seen b sizes
  size_seen_same None None h sizes = refl
  size_seen_same None (Some b) h sizes = absurd h
  size_seen_same (Some a) None h sizes = absurd h
  size_seen_same (Some a) (Some b) h sizes = size_same p a b h sizes

  kind_seen_same : (n : ℕ) (a b : Option Sense) → IsSameFunction p a b → HasArity n a
      → (sizes : List ℕ) (kinds : List Kind) → length kinds ≡ n
      → kind_seen a sizes kinds ≡ kind_seen b sizes kinds
  kind_seen_same n None None h m sizes kinds e = refl
  kind_seen_same n None (Some b) h m sizes kinds e = absurd h
  kind_seen_same n (Some a) None h m sizes kinds e = absurd h
  kind_seen_same n (Some a) (Some b) h m sizes kinds e =
      let size = size_same p a b h sizes in
      let kind = h.kind_with counts kinds (e ∙ sym m) in
      λ i. if nat_lt 4096 (size i) then OfAny else kind i

  module _ (s o : Scope) where
    size_of_application : (ts : Terms) (x : List ℕ)
        → IsSameFunction p (sense_seen s.senses s.names [] (count_of ts) x)
        (sense_seen o.senses o.names [] (count_of ts) x) → (sizes others : List ℕ)
        → sizes ≡ others
        → size_applied (sense_of s.senses (count_of ts) (found s.names x)) sizes
        ≡ size_applied (sense_of o.senses (count_of ts) (found o.names x)) others
    size_of_application ts x h sizes others e =
        by_size s.senses s.names (count_of ts) x sizes
        (sense_of s.senses (count_of ts) (found s.names x)) refl
        ∙ (size_seen_same (sense_seen s.senses s.names [] (count_of ts) x)
        (sense_seen o.senses o.names [] (count_of ts) x) h sizes
        ∙ (ap (λ (l : List ℕ). size_seen (sense_seen o.senses o.names [] (count_of ts) x) l) e
        ∙ sym (by_size o.senses o.names (count_of ts) x others
        (sense_of o.senses (count_of ts) (found o.names x)) refl)))

    kind_of_application : (ts : Terms) (x : List ℕ)
        → IsSameFunction p (sense_seen s.senses s.names [] (count_of ts) x)
        (sense_seen o.senses o.names [] (count_of ts) x)
        → (sizes others : List ℕ) (kinds more : List Kind) → sizes ≡ others → kinds ≡ more
        → length kinds ≡ count_of ts
        → kind_applied (sense_of s.senses (count_of ts) (found s.names x)) sizes kinds
        ≡ kind_applied (sense_of o.senses (count_of ts) (found o.names x)) others more
    kind_of_application ts x h sizes others kinds more e f long =
        let left = sense_seen s.senses s.names [] (count_of ts) x in
        let right = sense_seen o.senses o.names [] (count_of ts) x in
        let arity = seen_arity s.senses s.names (count_of ts) x (sense_of s.senses (count_of ts) (found s.names x)) refl in
        by_kind s.senses s.names (count_of ts) x sizes kinds
        (sense_of s.senses (count_of ts) (found s.names x)) refl
        ∙ (kind_seen_same (count_of ts) left right h arity sizes kinds long
        ∙ (ap (λ (l : List ℕ). kind_seen right l kinds) e
        ∙ (ap (λ (l : List Kind). kind_seen right others l) f
        ∙ sym (by_kind o.senses o.names (count_of ts) x others more
        (sense_of o.senses (count_of ts) (found o.names x)) refl))))

    mutual
      sizes_of_term : (t : Term) → HasSameNames p s o [] t
          → size_in s.senses s.names t ≡ size_in o.senses o.names t
      sizes_of_term (Atom x) h = refl
      sizes_of_term AllEvents h = refl
      sizes_of_term EmptyRelation h = refl
      sizes_of_term EmptySet h = refl
      sizes_of_term (Join op a b) h = λ i. sizes_of_term a h.0 i + sizes_of_term b h.1 i + 1
      sizes_of_term (Mark op a) h = λ i. sizes_of_term a h i + 1
      sizes_of_term (Not a) h = λ i. sizes_of_term a h i + 1
      sizes_of_term (On a) h = λ i. sizes_of_term a h i + 1
      sizes_of_term (Apply x ts) h =
          size_of_application ts x h.0 (sizes_in s.senses s.names ts) (sizes_in o.senses o.names ts)
          (sizes_of_terms ts h.2)

      sizes_of_terms : (ts : Terms) → HaveSameNames p s o [] ts
          → sizes_in s.senses s.names ts ≡ sizes_in o.senses o.names ts
      sizes_of_terms NoTerm h = refl
      sizes_of_terms (OneMore a others) h = λ i. sizes_of_term a h.0 i ∷ sizes_of_terms others h.1 i

    mutual
      pub kind_same : (t : Term) → HasSameNames p s o [] t
          → kind_in s.senses s.names t ≡ kind_in o.senses o.names t
      kind_same (Atom x) h = found_kind (found s.names x) (found o.names x) h
      kind_same AllEvents h = refl
      kind_same EmptyRelation h = refl
      kind_same EmptySet h = refl
      kind_same (Join op a b) h = λ i. joined_kind op (kind_same a h.0 i) (kind_same b h.1 i)
      kind_same (Mark op a) h = λ i. marked (kind_same a h i)
      kind_same (Not a) h = kind_same a h
      kind_same (On a) h = λ i. narrowed (kind_same a h i)
      kind_same (Apply x ts) h =
          kind_of_application ts x h.0 (sizes_in s.senses s.names ts) (sizes_in o.senses o.names ts)
          (kinds_in s.senses s.names ts) (kinds_in o.senses o.names ts) (sizes_of_terms ts h.2)
          (kinds_same ts h.2) (long_kinds s.senses s.names ts)

      kinds_same : (ts : Terms) → HaveSameNames p s o [] ts
          → kinds_in s.senses s.names ts ≡ kinds_in o.senses o.names ts
      kinds_same NoTerm h = refl
      kinds_same (OneMore a others) h = λ i. kind_same a h.0 i ∷ kinds_same others h.1 i
