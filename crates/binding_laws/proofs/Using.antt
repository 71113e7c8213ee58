-- Expressions whose names stand for the same use names that stand for each other, and have the same
-- steps.
use Rattle.std.proofs.Common.{ℕ, ◌≡◌, ◌↔◌, ◌-◌, ◌<◌, suc, List, [], ◌∷◌, length, reverse, Bool, true, false, Option, Some, None, Contains, refl, sym, ap, ◌∙◌, subst, eq-eqb, arith}
use Rattle.std.specs.Prelude.{◌==◌, nat_le, bytes_eq, unwrap_or, is_some, if◌then◌else◌}
use Rattle.std.proofs.lemmas.Bool.{eqb-true}
use Rattle.std.proofs.lemmas.Bool.Decides.{nat_tests}
use Rattle.text_values.specs.ModelValue.{Term, Terms, Atom, AllEvents, EmptyRelation, EmptySet, Join, Mark, Not, On, Apply, NoTerm, OneMore}
use Rattle.binding_kinds.specs.declared.scope.Binder.{Binder}
use Rattle.binding_kinds.specs.declared.scope.Binder.TheVariants as binders
use Rattle.binding_kinds.specs.declared.scope.Found.{Found}
use Rattle.binding_kinds.specs.declared.scope.Used.{Used}
use Rattle.binding_kinds.specs.Value.{Naming}
use Rattle.binding_kinds.specs.Kinds.{found}
use Rattle.binding_kinds.specs.Meanings.{parameter_of}
use Rattle.binding_kinds.specs.Formula.{Formula, Value, Parameter, Everything, NoPairs, NoEvents, Joined, Marked, Complement, Identity}
use Rattle.binding_kinds.specs.Senses.{count_of}
use Rattle.binding_graph.specs.declared.resolved.Source.{Source}
use Rattle.binding_graph.specs.declared.resolved.Source.TheVariants as sources
use Rattle.binding_graph.specs.Inputs.{index_of, with_used, with_binder, with_name}
use Rattle.binding_graph.specs.Meaning.{source_of_binder, source_of, joined_sets, joined_relations, set_tree, rel_tree}
use Rattle.binding_graph.specs.Trees.{SetName, ComplementSet, RelName, IdentityOn, Close, ComplementRelation}
use Rattle.binding_graph.specs.Usages.{with_all_used, values_of, usage_seen, with_meaning, with_values, with_values_among}
use Rattle.binding_laws.specs.ItemLaws.{Scope, Pairing, IsPairing, IsSameBinder, IsSameFound, IsSameName, IsSameUnless, IsSameFormula, IsSameUsed, AreSameUsed, HasSameNames, HaveSameNames}

bool_same : (x y : Bool) → (x ≡ true → y ≡ true) → (y ≡ true → x ≡ true) → x ≡ y
bool_same true y f g = sym (f refl)
bool_same false true f g = g refl
bool_same false false f g = refl

equal_same : (a c b d : ℕ) → (a ≡ c) ↔ (b ≡ d) → (a == c) ≡ (b == d)
equal_same a c b d h =
    bool_same (a == c) (b == d) (λ e. eq-eqb b d (h.0 (eqb-true a c e)))
    (λ e. eq-eqb a c (h.1 (eqb-true b d e)))

-- no slot stands for two
abbrev pub IsOne : Pairing → Type 0
IsOne p = (a b c d : ℕ) → Contains p.slots (a, b) → Contains p.slots (c, d) → (a ≡ c) ↔ (b ≡ d)

-- names are of the item itself together
abbrev pub IsOwnAlike : ℕ → ℕ → Option Found → Option Found → Type 0
IsOwnAlike from start None g = Unit {0}
IsOwnAlike from start (Some f) None = Unit {0}
IsOwnAlike from start (Some f) (Some g) = nat_le from f.slot ≡ nat_le start g.slot

module _ (p : Pairing) (one : IsOne p) where
  used_length : (vs ws : List Used) → AreSameUsed p vs ws → length vs ≡ length ws
  used_length [] [] h = refl
  used_length [] (w ∷ ws) h = absurd h
  used_length (v ∷ vs) [] h = absurd h
  used_length (v ∷ vs) (w ∷ ws) h = ap (λ (n : ℕ). suc n) (used_length vs ws h.1)

  place_same : (vs ws : List Used) → AreSameUsed p vs ws → (a b : ℕ) → Contains p.slots (a, b)
      → index_of vs a ≡ index_of ws b
  place_same [] [] h a b c = refl
  place_same [] (w ∷ ws) h a b c = absurd h
  place_same (v ∷ vs) [] h a b c = absurd h
  place_same (v ∷ vs) (w ∷ ws) h a b c =
      let test : (v.slot == a) ≡ (w.slot == b) = equal_same v.slot a w.slot b (one v.slot w.slot a b h.0.0 c) in
      let long = used_length vs ws h.1 in
      let rest = place_same vs ws h.1 a b c in
      λ i. if test i then Some (long i) else rest i

  noted_by : (x y : Option ℕ) → x ≡ y → (vs ws : List Used) (u w : Used) → AreSameUsed p vs ws
      → IsSameUsed p u w
      → AreSameUsed p (if is_some x then vs else u ∷ vs) (if is_some y then ws else w ∷ ws)
  noted_by x y e vs ws u w h k =
      subst
      (λ (o : Option ℕ).
      AreSameUsed p (if is_some x then vs else u ∷ vs) (if is_some o then ws else w ∷ ws)) e
      (at_first x)
    where
      at_first : (o : Option ℕ)
          → AreSameUsed p (if is_some o then vs else u ∷ vs) (if is_some o then ws else w ∷ ws)
      at_first None = (k, h)
      at_first (Some n) = h

  noted_same : (vs ws : List Used) (u w : Used) → AreSameUsed p vs ws → IsSameUsed p u w
      → AreSameUsed p (with_used vs u) (with_used ws w)
  noted_same vs ws u w h k =
      noted_by (index_of vs u.slot) (index_of ws w.slot) (place_same vs ws h u.slot w.slot k.0) vs
      ws u w h k

  all_noted_same : (vs ws us qs : List Used) → AreSameUsed p vs ws → AreSameUsed p us qs
      → AreSameUsed p (with_all_used vs us) (with_all_used ws qs)
  all_noted_same vs ws [] [] h k = h
  all_noted_same vs ws [] (q ∷ qs) h k = absurd k
  all_noted_same vs ws (u ∷ us) [] h k = absurd k
  all_noted_same vs ws (u ∷ us) (q ∷ qs) h k =
      all_noted_same (with_used vs u) (with_used ws q) us qs (noted_same vs ws u q h k.0) k.1

  binder_same : (vs ws : List Used) (a b : ℕ) (x y : Binder) → AreSameUsed p vs ws
      → Contains p.slots (a, b) → IsSameBinder p x y
      → AreSameUsed p (with_binder vs a x) (with_binder ws b y)
  binder_same vs ws a b (binders.Predefined x) (binders.Predefined y) h c k = h
  binder_same vs ws a b (binders.Predefined x) (binders.Bound j) h c k = absurd k
  binder_same vs ws a b (binders.Predefined x) (binders.Applicable j) h c k = absurd k
  binder_same vs ws a b (binders.Bound i) (binders.Predefined y) h c k = absurd k
  binder_same vs ws a b (binders.Bound i) (binders.Bound j) h c k =
      noted_same vs ws (record { slot = a; input = i }) (record { slot = b; input = j }) h (c, k)
  binder_same vs ws a b (binders.Bound i) (binders.Applicable j) h c k = absurd k
  binder_same vs ws a b (binders.Applicable i) (binders.Predefined y) h c k = absurd k
  binder_same vs ws a b (binders.Applicable i) (binders.Bound j) h c k = absurd k
  binder_same vs ws a b (binders.Applicable i) (binders.Applicable j) h c k = h

  found_by : (x y : Bool) → x ≡ y → (vs ws us qs : List Used) → AreSameUsed p vs ws
      → AreSameUsed p us qs → AreSameUsed p (if x then vs else us) (if y then ws else qs)
  found_by x y e vs ws us qs h k =
      subst (λ (b : Bool). AreSameUsed p (if x then vs else us) (if b then ws else qs)) e
      (at_first x)
    where
      at_first : (b : Bool) → AreSameUsed p (if b then vs else us) (if b then ws else qs)
      at_first true = h
      at_first false = k

  module _ (from start : ℕ) where
    name_same : (vs ws : List Used) (f g : Option Found) → IsOwnAlike from start f g
        → AreSameUsed p vs ws → IsSameName p f g
        → AreSameUsed p (with_name vs from f) (with_name ws start g)
    name_same vs ws None None e h k = h
    name_same vs ws None (Some g) e h k = absurd k
    name_same vs ws (Some f) None e h k = absurd k
    name_same vs ws (Some f) (Some g) e h k =
        found_by (nat_le from f.slot) (nat_le start g.slot) e vs ws (with_binder vs f.slot f.binder)
        (with_binder ws g.slot g.binder) h (binder_same vs ws f.slot g.slot f.binder g.binder h
        k.0 k.2)

    meaning_same : (vs ws : List Used) (i : Option ℕ) (f g : Option Found)
        → (IsSameName p f g → IsOwnAlike from start f g) → AreSameUsed p vs ws
        → IsSameUnless p i f g
        → AreSameUsed p (with_meaning vs from i f) (with_meaning ws start i g)
    meaning_same vs ws (Some i) f g e h k = h
    meaning_same vs ws None f g e h k = name_same vs ws f g (e k) h k

    module _ (s o : Scope)
        (own : (x : List ℕ) → IsSameName p (found s.names x) (found o.names x)
        → IsOwnAlike from start (found s.names x) (found o.names x))
        (ps : List (List ℕ)) where
      mutual
        pub values_by : (t : Term) (vs ws : List Used) → HasSameNames p s o ps t
            → AreSameUsed p vs ws
            → AreSameUsed p (with_values s.usages s.names ps from t vs)
            (with_values o.usages o.names ps start t ws)
        values_by (Atom x) vs ws k h =
            meaning_same vs ws (parameter_of (reverse ps) x) (found s.names x) (found o.names x)
            (own x) h k
        values_by AllEvents vs ws k h = h
        values_by EmptyRelation vs ws k h = h
        values_by EmptySet vs ws k h = h
        values_by (Join op a b) vs ws k h =
            values_by b (with_values s.usages s.names ps from a vs)
            (with_values o.usages o.names ps start a ws) k.1 (values_by a vs ws k.0 h)
        values_by (Mark op a) vs ws k h = values_by a vs ws k h
        values_by (Not a) vs ws k h = values_by a vs ws k h
        values_by (On a) vs ws k h = values_by a vs ws k h
        values_by (Apply x ts) vs ws k h =
            all_values_by ts
            (with_all_used vs (values_of (usage_seen s.usages s.names ps (count_of ts) x)))
            (with_all_used ws (values_of (usage_seen o.usages o.names ps (count_of ts) x))) k.2
            (all_noted_same vs ws (values_of (usage_seen s.usages s.names ps (count_of ts) x))
            (values_of (usage_seen o.usages o.names ps (count_of ts) x)) h k.1)

        all_values_by : (ts : Terms) (vs ws : List Used) → HaveSameNames p s o ps ts
            → AreSameUsed p vs ws
            → AreSameUsed p (with_values_among s.usages s.names ps from ts vs)
            (with_values_among o.usages o.names ps start ts ws)
        all_values_by NoTerm vs ws k h = h
        all_values_by (OneMore a others) vs ws k h =
            all_values_by others (with_values s.usages s.names ps from a vs)
            (with_values o.usages o.names ps start a ws) k.1 (values_by a vs ws k.0 h)

-- ---- what the body of a function uses

abbrev IsBelow : ℕ → Option Found → Type 0
IsBelow n None = Unit {0}
IsBelow n (Some f) = f.slot < n

below_more : (n : ℕ) (o : Option Found) → IsBelow n o → IsBelow (suc n) o
below_more n None h = tt
below_more n (Some f) h = omega (arith, h)

slot_below : (names : List Naming) (x : List ℕ) → IsBelow (length names) (found names x)
slot_below [] x = tt
slot_below (n ∷ ns) x = at_test (bytes_eq n.name x) (slot_below ns x)
  where
    at_test : (b : Bool) → IsBelow (length ns) (found ns x)
        → IsBelow (suc (length ns)) (if b then Some (record {
          slot = length ns;
          kind = n.kind;
          binder = n.binder;
        })
        else found ns x)
    at_test true h = omega arith
    at_test false h = below_more (length ns) (found ns x) h

not_own : (n : ℕ) (a : ℕ) → a < n → nat_le n a ≡ false
not_own n a h = grind (arith, nat_tests, h)

below_alike : (n m : ℕ) (f g : Option Found) → IsBelow n f → IsBelow m g → IsOwnAlike n m f g
below_alike n m None g h k = tt
below_alike n m (Some f) None h k = tt
below_alike n m (Some f) (Some g) h k = not_own n f.slot h ∙ sym (not_own m g.slot k)

-- the body of a function sees names before those of the item alone
pub values_inside : (p : Pairing) → IsOne p → (s o : Scope) (ps : List (List ℕ)) (t : Term)
    → HasSameNames p s o ps t
    → AreSameUsed p (with_values s.usages s.names ps (length s.names) t [])
    (with_values o.usages o.names ps (length o.names) t [])
values_inside p one s o ps t k =
    values_by p one (length s.names) (length o.names) s o
    (λ x same. below_alike (length s.names) (length o.names) (found s.names x) (found o.names x)
    (slot_below s.names x) (slot_below o.names x)) ps t [] [] k tt

-- ---- items

module _ (p : Pairing) (from start : ℕ) (pairing : IsPairing p from start) where
  own_alike : (f g : Option Found) → IsSameName p f g → IsOwnAlike from start f g
  own_alike None g h = tt
  own_alike (Some f) None h = tt
  own_alike (Some f) (Some g) h = pairing.own f.slot g.slot h.0

  pub values_same : (s o : Scope) (ps : List (List ℕ)) (t : Term) (vs ws : List Used)
      → HasSameNames p s o ps t → AreSameUsed p vs ws
      → AreSameUsed p (with_values s.usages s.names ps from t vs)
      (with_values o.usages o.names ps start t ws)
  values_same s o ps t vs ws k h =
      values_by p pairing.one from start s o
      (λ x same. own_alike (found s.names x) (found o.names x) same) ps t vs ws k h

  -- ---- trees

  module _ (vs ws : List Used) (h : AreSameUsed p vs ws) where
    bound_source : (a b : ℕ) (x y : Binder) → Contains p.slots (a, b) → IsSameBinder p x y
        → source_of_binder vs a x ≡ source_of_binder ws b y
    bound_source a b (binders.Predefined x) (binders.Predefined y) c k =
        λ i. sources.Predefined (k i)
    bound_source a b (binders.Predefined x) (binders.Bound j) c k = absurd k
    bound_source a b (binders.Predefined x) (binders.Applicable j) c k = absurd k
    bound_source a b (binders.Bound i) (binders.Predefined y) c k = absurd k
    bound_source a b (binders.Bound i) (binders.Bound j) c k =
        let e = place_same p pairing.one vs ws h a b c in λ i. sources.Input (unwrap_or (e i) 0)
    bound_source a b (binders.Bound i) (binders.Applicable j) c k = absurd k
    bound_source a b (binders.Applicable i) (binders.Predefined y) c k = absurd k
    bound_source a b (binders.Applicable i) (binders.Bound j) c k = absurd k
    bound_source a b (binders.Applicable i) (binders.Applicable j) c k = refl

    source_by : (x y : Bool) (m n : ℕ) (left right : Source) → x ≡ y → (x ≡ true → m ≡ n)
        → left ≡ right → (if x then sources.Own m else left) ≡ (if y then sources.Own n else right)
    source_by x y m n left right e own outer =
        subst
        (λ (b : Bool). (if x then sources.Own m else left) ≡ (if b then sources.Own n else right)) e
        (at_first x own)
      where
        at_first : (b : Bool) → (b ≡ true → m ≡ n)
            → (if b then sources.Own m else left) ≡ (if b then sources.Own n else right)
        at_first true own = λ i. sources.Own (own refl i)
        at_first false own = outer

    pub source_same : (f g : Found) → IsSameFound p f g → source_of vs from f ≡ source_of ws start g
    source_same f g k =
        source_by (nat_le from f.slot) (nat_le start g.slot) (f.slot - from) (g.slot - start)
        (source_of_binder vs f.slot f.binder) (source_of_binder ws g.slot g.binder)
        (pairing.own f.slot g.slot k.0) (pairing.position f.slot g.slot k.0)
        (bound_source f.slot g.slot f.binder g.binder k.0 k.2)

    pub set_same : (f g : Formula) → IsSameFormula p f g → set_tree vs from f ≡ set_tree ws start g
    set_same (Value f) (Value g) k = λ i. SetName (source_same f g k i)
    set_same (Parameter i) (Parameter j) k = refl
    set_same Everything Everything k = refl
    set_same NoPairs NoPairs k = refl
    set_same NoEvents NoEvents k = refl
    set_same (Joined op a b) (Joined oq c d) k =
        λ i. joined_sets (k.0 i) (set_same a c k.1 i) (set_same b d k.2 i)
    set_same (Marked op a) (Marked oq c) k = refl
    set_same (Complement a) (Complement c) k = λ i. ComplementSet (set_same a c k i)
    set_same (Identity a) (Identity c) k = refl
    set_same f g k = absurd k

    pub relation_same : (f g : Formula) → IsSameFormula p f g
        → rel_tree vs from f ≡ rel_tree ws start g
    relation_same (Value f) (Value g) k = λ i. RelName (source_same f g k i)
    relation_same (Parameter i) (Parameter j) k = refl
    relation_same Everything Everything k = refl
    relation_same NoPairs NoPairs k = refl
    relation_same NoEvents NoEvents k = refl
    relation_same (Joined op a b) (Joined oq c d) k =
        λ i. joined_relations (k.0 i) (relation_same a c k.1 i) (relation_same b d k.2 i)
        (set_same a c k.1 i) (set_same b d k.2 i)
    relation_same (Marked op a) (Marked oq c) k = λ i. Close (k.0 i) (relation_same a c k.1 i)
    relation_same (Complement a) (Complement c) k = λ i. ComplementRelation (relation_same a c k i)
    relation_same (Identity a) (Identity c) k = λ i. IdentityOn (set_same a c k i)
    relation_same f g k = absurd k
