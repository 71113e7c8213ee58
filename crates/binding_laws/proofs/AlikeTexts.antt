-- Items whose names are resolved alike have names that stand for the same.
use Rattle.std.proofs.Common.{ℕ, ◌≡◌, ◌+◌, ◌≤◌, zero, suc, List, [], ◌∷◌, map, reverse, Bool, true, false, Option, Some, None, Result, Ok, Err, Contains, refl, sym, ap, ◌∙◌, subst, arith}
use Rattle.std.specs.Prelude.{nat_eq, slice_get, option_map, if◌then◌else◌}
use Rattle.std.specs.List.{AllByRecursion}
use Rattle.std.proofs.lemmas.Option.{slice_get-map}
use Rattle.text_values.specs.declared.model.Item.{Item}
use Rattle.text_values.specs.declared.model.ModelText.{ModelText}
use Rattle.text_values.specs.ModelValue.{Term, Terms, Atom, AllEvents, EmptyRelation, EmptySet, Join, Mark, Not, On, Apply, NoTerm, OneMore}
use Rattle.binding_kinds.specs.declared.fault.ModelFault.{ModelFault}
use Rattle.binding_kinds.specs.declared.fault.ModelFault.TheVariants as faults
use Rattle.binding_kinds.specs.declared.scope.Binder.{Binder}
use Rattle.binding_kinds.specs.declared.scope.Binder.TheVariants as binders
use Rattle.binding_kinds.specs.declared.scope.Found.{Found}
use Rattle.binding_kinds.specs.Value.{Naming, Bound, BareItem, Group, Check, Mute, Defined, bare_item}
use Rattle.binding_kinds.specs.Kinds.{found}
use Rattle.binding_kinds.specs.Meanings.{parameter_of}
use Rattle.binding_kinds.specs.Applicable.{applied, applied_binder, applied_of}
use Rattle.binding_kinds.specs.Senses.{Sense, sense_of, sense_of_binder, with_arity, count_of}
use Rattle.binding_kinds.specs.Functions.{sense_seen, sense_of_function}
use Rattle.binding_graph.specs.declared.resolved.ResolvedItem.{ResolvedItem}
use Rattle.binding_graph.specs.Usages.{Usage, usage_at, values_of, usage_of_function}
use Rattle.binding_laws.specs.ItemLaws.{Scope, Sight, Matching, Pairing, IsSameSense, IsSameFunction, AreSameUsed, HasSameNames, HaveSameNames, HasSameNamesIn, scope_with_names, first_scope, scope_at, own_at, functions_before, IsFunctionAlike, IsAppliedAlike, IsNamedAlike, AreNamedAlike, IsNamedAlikeIn, IsNamedAlikeAt, HasAlikeFunctions, IsItemAt, SayTheSame, DoTheSame, HasSameNamesAt, IsResolvedAlike, HaveItemsAlikeByText}
use Rattle.binding_laws.proofs.Using.{IsOne}
use Rattle.binding_laws.proofs.Applied.{alike_sense, alike_usage}
use Rattle.binding_laws.proofs.AlikeModels.{alike_at}
use Rattle.binding_laws.proofs.Before.{IsFunctionAt, function_at}

-- ---- functions as they are applied

abbrev seen_by : Option ℕ → Result Sense ModelFault → Option Sense
seen_by (Some i) r = None
seen_by None (Ok s) = Some s
seen_by None (Err k) = None

seen_is : (ss : List Sense) (names : List Naming) (ps : List (List ℕ)) (n : ℕ) (x : List ℕ)
    → sense_seen ss names ps n x
    ≡ seen_by (parameter_of (reverse ps) x) (sense_of ss n (found names x))
seen_is ss names ps n x =
    at_both (parameter_of (reverse ps) x) (sense_of ss n (found names x)) refl refl
  where
    at_both : (i : Option ℕ) (r : Result Sense ModelFault) → parameter_of (reverse ps) x ≡ i
        → sense_of ss n (found names x) ≡ r → sense_seen ss names ps n x ≡ seen_by i r
    at_both (Some i) r at is = rw at refl
    at_both None (Ok s) at is = rw (at, is) refl
    at_both None (Err k) at is = rw (at, is) refl

-- the functions of these numbers are the same to those who apply them, and use names that stand for
-- each other
pub record AreSameAt (p : Pairing) (ss ts : List Sense) (us ws : List Usage) (f g : ℕ)
    : Type 0 where
  pub one : Sense
  pub other : Sense
  pub left : slice_get ss f ≡ Some one
  pub right : slice_get ts g ≡ Some other
  pub sense : IsSameSense p one other
  pub usage : Usage
  pub more : Usage
  pub use_left : slice_get us f ≡ Some usage
  pub use_right : slice_get ws g ≡ Some more
  pub arity : usage.arity ≡ more.arity
  pub values : AreSameUsed p usage.values more.values

counted_sense : (p : Pairing) (i : Option ℕ) (a b : Sense) → IsSameSense p a b → (t u : Bool)
    → t ≡ u
    → IsSameFunction p (seen_by i (if t then Ok a else Err faults.Arity))
    (seen_by i (if u then Ok b else Err faults.Arity))
counted_sense p (Some i) a b h t u e = tt
counted_sense p None a b h true true e = h
counted_sense p None a b h true false e = absurd (let n : true ≡ false = e in cc)
counted_sense p None a b h false true e = absurd (let n : false ≡ true = e in cc)
counted_sense p None a b h false false e = tt

counted_usage : (p : Pairing) (us ws : List Usage) (f g : ℕ)
    → AreSameUsed p (values_of (slice_get us f)) (values_of (slice_get ws g)) → (t u : Bool) → t ≡ u
    → AreSameUsed p (values_of (usage_at us (if t then Ok f else Err faults.Arity)))
    (values_of (usage_at ws (if u then Ok g else Err faults.Arity)))
counted_usage p us ws f g h true true e = h
counted_usage p us ws f g h true false e = absurd (let n : true ≡ false = e in cc)
counted_usage p us ws f g h false true e = absurd (let n : false ≡ true = e in cc)
counted_usage p us ws f g h false false e = tt

abbrev arities : List Usage → ℕ → Option ℕ
arities us f = slice_get (map (λ u. u.arity) us) f

arity_at : (us : List Usage) (f : ℕ) (u : Usage) → slice_get us f ≡ Some u
    → arities us f ≡ Some u.arity
arity_at us f u h =
    slice_get-map (λ (w : Usage). w.arity) us f ∙ ap (option_map (λ (w : Usage). w.arity)) h

module _ (m : Matching) (v w : Sight) (ss ts : List Sense) (us ws : List Usage)
    (same : (f g i j : ℕ) → slice_get v.functions f ≡ Some i → slice_get w.functions g ≡ Some j
    → Contains m.functions (i, j) → AreSameAt m.pairing ss ts us ws f g) where
  abbrev p : Pairing
  p = m.pairing

  sense_at : (i : Option ℕ) (n f g : ℕ) → AreSameAt p ss ts us ws f g
      → IsSameFunction p (seen_by i (with_arity n (slice_get ss f)))
      (seen_by i (with_arity n (slice_get ts g)))
  sense_at i n f g h =
      let both : IsSameFunction p (seen_by i (with_arity n (Some h.one))) (seen_by i (with_arity n (Some h.other))) =
      counted_sense p i h.one h.other h.sense (nat_eq h.one.arity n) (nat_eq h.other.arity n)
      (ap (λ (a : ℕ). nat_eq a n) h.sense.arity) in
      subst
      (λ (a : Option Sense). IsSameFunction p (seen_by i (with_arity n a))
      (seen_by i (with_arity n (slice_get ts g))))
      (sym h.left)
      (subst
      (λ (b : Option Sense). IsSameFunction p (seen_by i (with_arity n (Some h.one)))
      (seen_by i (with_arity n b)))
      (sym h.right) both)

  usage_both : (f g : ℕ) → AreSameAt p ss ts us ws f g
      → AreSameUsed p (values_of (slice_get us f)) (values_of (slice_get ws g))
  usage_both f g h =
      subst (λ (a : Option Usage). AreSameUsed p (values_of a) (values_of (slice_get ws g)))
      (sym h.use_left)
      (subst (λ (b : Option Usage). AreSameUsed p h.usage.values (values_of b)) (sym h.use_right)
      h.values)

  usage_at_both : (n f g : ℕ) → AreSameAt p ss ts us ws f g
      → AreSameUsed p (values_of (usage_at us (applied f n (arities us f))))
      (values_of (usage_at ws (applied g n (arities ws g))))
  usage_at_both n f g h =
      let both : AreSameUsed p (values_of (usage_at us (applied f n (Some h.usage.arity)))) (values_of (usage_at ws (applied g n (Some h.more.arity)))) =
      counted_usage p us ws f g (usage_both f g h) (nat_eq h.usage.arity n) (nat_eq h.more.arity n)
      (ap (λ (a : ℕ). nat_eq a n) h.arity) in
      subst
      (λ (a : Option ℕ). AreSameUsed p (values_of (usage_at us (applied f n a)))
      (values_of (usage_at ws (applied g n (arities ws g)))))
      (sym (arity_at us f h.usage h.use_left))
      (subst
      (λ (b : Option ℕ). AreSameUsed p
      (values_of (usage_at us (applied f n (Some h.usage.arity))))
      (values_of (usage_at ws (applied g n b))))
      (sym (arity_at ws g h.more h.use_right)) both)

  -- what is said of two binders of functions that stand for each other
  by_binder : (P : Binder → Binder → Type 0)
      → ((f g : ℕ) → AreSameAt p ss ts us ws f g → P (binders.Applicable f) (binders.Applicable g))
      → (b c : Binder) → IsFunctionAlike m v w b c → P b c
  by_binder P each (binders.Applicable f) (binders.Applicable g) h =
      each f g (same f g h.0 h.1 h.2 h.3 h.4)
  by_binder P each (binders.Applicable f) (binders.Predefined y) h = absurd h
  by_binder P each (binders.Applicable f) (binders.Bound y) h = absurd h
  by_binder P each (binders.Predefined x) c h = absurd h
  by_binder P each (binders.Bound x) c h = absurd h

  sense_found : (i : Option ℕ) (n : ℕ) (f g : Option Found) → IsAppliedAlike m v w f g
      → IsSameFunction p (seen_by i (sense_of ss n f)) (seen_by i (sense_of ts n g))
  sense_found i n None g h = absurd h
  sense_found i n (Some f) None h = absurd h
  sense_found i n (Some f) (Some g) h =
      by_binder
      (λ b c. IsSameFunction p (seen_by i (sense_of_binder ss n b))
      (seen_by i (sense_of_binder ts n c)))
      (λ f g same. sense_at i n f g same) f.binder g.binder h

  usage_found : (i : Option ℕ) (n : ℕ) (f g : Option Found) → IsAppliedAlike m v w f g
      → AreSameUsed p (values_of (usage_at us (applied_of (arities us) n i f)))
      (values_of (usage_at ws (applied_of (arities ws) n i g)))
  usage_found (Some i) n f g h = tt
  usage_found None n None g h = absurd h
  usage_found None n (Some f) None h = absurd h
  usage_found None n (Some f) (Some g) h =
      by_binder
      (λ b c. AreSameUsed p (values_of (usage_at us (applied_binder (arities us) n b)))
      (values_of (usage_at ws (applied_binder (arities ws) n c))))
      (λ f g same. usage_at_both n f g same) f.binder g.binder h

-- ---- expressions

-- functions that stand for each other are the same to those who apply them in these scopes
abbrev SeesSame : Matching → List ℕ → List ℕ → Scope → Scope → Type 0
SeesSame m is js s o =
    (f g i j : ℕ) → slice_get is f ≡ Some i → slice_get js g ≡ Some j → Contains m.functions (i, j)
    → AreSameAt m.pairing s.senses o.senses s.usages o.usages f g

module _ (m : Matching) (is js : List ℕ) (s o : Scope) (same : SeesSame m is js s o)
    (ps : List (List ℕ)) where
  abbrev left : Sight
  left = record { functions = is; names = s.names }

  abbrev right : Sight
  right = record { functions = js; names = o.names }

  function_same : (n : ℕ) (x : List ℕ)
      → IsAppliedAlike m left right (found s.names x) (found o.names x)
      → IsSameFunction m.pairing (sense_seen s.senses s.names ps n x)
      (sense_seen o.senses o.names ps n x)
  function_same n x h =
      let i = parameter_of (reverse ps) x in
      let both = sense_found m left right s.senses o.senses s.usages o.usages same i n (found s.names x) (found o.names x) h in
      subst (λ (a : Option Sense). IsSameFunction m.pairing a (sense_seen o.senses o.names ps n x))
      (sym (seen_is s.senses s.names ps n x))
      (subst
      (λ (b : Option Sense).
      IsSameFunction m.pairing (seen_by i (sense_of s.senses n (found s.names x))) b)
      (sym (seen_is o.senses o.names ps n x)) both)

  mutual
    names_same : (t : Term) → IsNamedAlike m left right ps t → HasSameNames m.pairing s o ps t
    names_same (Atom x) h = h
    names_same AllEvents h = tt
    names_same EmptyRelation h = tt
    names_same EmptySet h = tt
    names_same (Join op a b) h = (names_same a h.0, names_same b h.1)
    names_same (Mark op a) h = names_same a h
    names_same (Not a) h = names_same a h
    names_same (On a) h = names_same a h
    names_same (Apply x ts) h = (
      function_same (count_of ts) x h.0,
      usage_found m left right s.senses o.senses s.usages o.usages same
          (parameter_of (reverse ps) x) (count_of ts) (found s.names x) (found o.names x) h.0,
      all_names_same ts h.1,
    )

    all_names_same : (ts : Terms) → AreNamedAlike m left right ps ts
        → HaveSameNames m.pairing s o ps ts
    all_names_same NoTerm h = tt
    all_names_same (OneMore a others) h = (names_same a h.0, all_names_same others h.1)

-- ---- items

module _ (m : Matching) (is js : List ℕ) (s o : Scope) (same : SeesSame m is js s o) where
  bounds_same : (bs : List Bound)
      → AllByRecursion
      (λ b. IsNamedAlike m (record { functions = is; names = s.names })
      (record { functions = js; names = o.names }) [] b.body) bs
      → AllByRecursion (λ b. HasSameNames m.pairing s o [] b.body) bs
  bounds_same [] h = tt
  bounds_same (b ∷ bs) h = (names_same m is js s o same [] b.body h.0, bounds_same bs h.1)

item_same : (m : Matching) (is js : List ℕ) (s o : Scope) → SeesSame m is js s o
    → (own other : List Naming) (c : BareItem)
    → IsNamedAlikeIn m (record { functions = is; names = s.names })
    (record { functions = js; names = o.names }) own other c
    → HasSameNamesIn m.pairing s o own other c
item_same m is js s o same own other (Group true bs) h =
    bounds_same m is js (scope_with_names s own) (scope_with_names o other) same bs h
item_same m is js s o same own other (Group false bs) h = bounds_same m is js s o same bs h
item_same m is js s o same own other (Check w e) h = names_same m is js s o same [] e h
item_same m is js s o same own other Mute h = tt
item_same m is js s o same own other (Defined n ps b) h = names_same m is js s o same ps b h

-- ---- models

plain : (i behind : ℕ) → i ≡ 0 + behind → i ≡ behind
plain i behind h = omega (arith, h)

abbrev parameters_in : BareItem → List (List ℕ)
parameters_in (Group r bs) = []
parameters_in (Check w e) = []
parameters_in Mute = []
parameters_in (Defined n ps b) = ps

abbrev body_in : Term → BareItem → Term
body_in t (Group r bs) = t
body_in t (Check w e) = t
body_in t Mute = t
body_in t (Defined n ps b) = b

module _ (m : Matching) (one : IsOne m.pairing) (names more : List Naming) (model other : List Item)
    (alike : HasAlikeFunctions m names more model other) where
  abbrev before : ℕ → Scope
  before k = scope_at (first_scope names) 0 model k

  abbrev before_other : ℕ → Scope
  before_other l = scope_at (first_scope more) 0 other l

  abbrev SeesSameAt : ℕ → ℕ → Type 0
  SeesSameAt k l =
      SeesSame m (functions_before 0 model k) (functions_before 0 other l) (before k)
      (before_other l)

  -- a function and the one that stands for it, where both see functions that are the same
  one_function : (k l f g i j : ℕ) → (a : IsFunctionAt (first_scope names) 0 model k f f i)
      → (b : IsFunctionAt (first_scope more) 0 other l g g j) → Contains m.functions (i, j)
      → SeesSameAt a.behind b.behind
      → AreSameAt m.pairing (before k).senses (before_other l).senses (before k).usages
      (before_other l).usages f g
  one_function k l f g i j a b paired same =
      let at_left : slice_get model i ≡ Some a.item = subst (λ (n : ℕ). slice_get model n ≡ Some a.item) (sym (plain i a.behind a.index)) a.text in
      let at_right : slice_get other j ≡ Some b.item = subst (λ (n : ℕ). slice_get other n ≡ Some b.item) (sym (plain j b.behind b.index)) b.text in
      let both = alike i j a.item b.item paired at_left at_right in
      let same_item : IsNamedAlikeAt m names more model other a.behind b.behind (Defined a.name a.parameters a.body) =
      subst (λ (c : BareItem). IsNamedAlikeAt m names more model other a.behind b.behind c) a.clause
      (subst (λ (n : ℕ). IsNamedAlikeAt m names more model other a.behind n (bare_item a.item))
      (plain j b.behind b.index)
      (subst (λ (n : ℕ). IsNamedAlikeAt m names more model other n j (bare_item a.item))
      (plain i a.behind a.index) both.1)) in
      let alike = names_same m (functions_before 0 model a.behind) (functions_before 0 other b.behind) (before a.behind) (before_other b.behind) same a.parameters a.body same_item in
      let text : Defined a.name a.parameters a.body ≡ Defined b.name b.parameters b.body = sym a.clause ∙ (both.0 ∙ b.clause) in
      let parameters : a.parameters ≡ b.parameters = ap parameters_in text in
      let body : a.body ≡ b.body = ap (body_in a.body) text in
      let sense : Sense = sense_of_function (before_other b.behind).senses (before_other b.behind).names a.parameters a.body in
      let usage : Usage = usage_of_function (before_other b.behind).usages (before_other b.behind).names j a.parameters a.body in
      record {
        one =
            sense_of_function (before a.behind).senses (before a.behind).names a.parameters a.body;
        other = sense;
        left = a.sense;
        right =
            b.sense
            ∙ (λ n. Some (sense_of_function (before_other b.behind).senses
            (before_other b.behind).names (sym parameters n) (sym body n)));
        sense =
            alike_sense m.pairing (before a.behind) (before_other b.behind) a.parameters a.body
            alike;
        usage =
            usage_of_function (before a.behind).usages (before a.behind).names i a.parameters
            a.body;
        more = usage;
        use_left = a.usage;
        use_right =
            b.usage
            ∙ (λ n. Some (usage_of_function (before_other b.behind).usages
            (before_other b.behind).names j (sym parameters n) (sym body n)));
        arity = refl;
        values =
            alike_usage m.pairing one (before a.behind) (before_other b.behind) a.parameters a.body
            i j alike;
      }

  -- by the index of the item that sees the functions, since a function sees those before it alone
  seen_same : (most k l : ℕ) → k ≤ most → SeesSameAt k l
  seen_same zero k l few f g i j h e paired =
      let a = function_at (first_scope names) 0 model k f f f i (omega arith) (omega arith) h in
      absurd (omega (arith, a.before, few))
  seen_same (suc most) k l few f g i j h e paired =
      let a = function_at (first_scope names) 0 model k f f f i (omega arith) (omega arith) h in
      let b = function_at (first_scope more) 0 other l g g g j (omega arith) (omega arith) e in
      one_function k l f g i j a b paired (seen_same most a.behind b.behind
      (omega (arith, a.before, few)))

-- the names of an item that are resolved alike stand for the same
pub alike_names : (first second : List Item) (m : Matching) (names more : List Naming) (k l : ℕ)
    (x : Item) → IsResolvedAlike m names more first second k l x
    → HasSameNamesAt m.pairing names more first second k l x
alike_names first second m names more k l x same =
    let sees = seen_same m same.pairing.one names more first second same.functions k k l (omega arith) in
    let told = item_same m (functions_before 0 first k) (functions_before 0 second l) (scope_at (first_scope names) 0 first k) (scope_at (first_scope more) 0 second l) sees (own_at (first_scope names) 0 first k) (own_at (first_scope more) 0 second l) (bare_item x) same.item in
    record { pairing = same.pairing; same = told }

alike_by : (first second : List Item) (m : Matching) (names more : List Naming)
    (resolved others : List ResolvedItem) (k l : ℕ) (x y : Item) (r q : ResolvedItem)
    → IsItemAt names first resolved k x r → IsItemAt more second others l y q → SayTheSame x y
    → IsResolvedAlike m names more first second k l x → DoTheSame m.pairing r q
alike_by first second m names more resolved others k l x y r q h g e same =
    alike_at first second m.pairing names more resolved others k l x y r q h g e
    (alike_names first second m names more k l x same)

pub alike_by_text : (model other : ModelText) → HaveItemsAlikeByText model other
alike_by_text model other = alike_by model.items.items other.items.items
