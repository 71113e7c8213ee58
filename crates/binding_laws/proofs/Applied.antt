-- A function whose names stand for the same is the same to those who apply it.
use Rattle.std.proofs.Common.{ℕ, ◌≡◌, suc, List, [], ◌∷◌, ◌++◌, length, reverse, Bool, true, false, Option, Some, None, Result, Ok, Err, refl, sym, ap, ◌∙◌, subst, arith}
use Rattle.std.specs.Prelude.{bytes_eq, if◌then◌else◌}
use Rattle.std.proofs.lemmas.List.{reverse-append}
use Rattle.text_values.specs.ModelValue.{Term, Terms, Atom, AllEvents, EmptyRelation, EmptySet, Join, Mark, Not, On, Apply, NoTerm, OneMore}
use Rattle.binding_kinds.specs.declared.fault.ModelFault.{ModelFault}
use Rattle.binding_kinds.specs.declared.kinds.Kind.{Kind}
use Rattle.binding_kinds.specs.declared.kinds.Kind.TheVariants.{OfAny}
use Rattle.binding_kinds.specs.declared.scope.Binder.TheVariants as binders
use Rattle.binding_kinds.specs.declared.scope.Found.{Found}
use Rattle.binding_kinds.specs.declared.scope.Used.{Used}
use Rattle.binding_kinds.specs.Value.{Naming}
use Rattle.binding_kinds.specs.Combinations.{has_any}
use Rattle.binding_kinds.specs.Kinds.{found, kind_found, joined_kind, marked, narrowed}
use Rattle.binding_kinds.specs.Meanings.{parameter_of}
use Rattle.binding_kinds.specs.Senses.{Sense, sense_of, count_of}
use Rattle.binding_kinds.specs.Functions.{with_parameters, sense_seen, kind_of_sense, kind_of_body, kinds_of_body, sense_of_function}
use Rattle.binding_graph.specs.Usages.{with_values, usage_of_function}
use Rattle.binding_laws.specs.ItemLaws.{Scope, Pairing, IsSameUnless, IsSameFunction, IsSameSense, AreSameUsed, HasSameNames, HaveSameNames, IsAlikeFunction}
use Rattle.binding_laws.proofs.Alike.{HasArity, found_kind, formula_same}
use Rattle.binding_laws.proofs.Using.{IsOne, values_inside}
use Rattle.binding_kinds.proofs.Applications.{found_arity}

-- ---- names behind parameters

none_more : (qs : List (List ℕ)) (q x : List ℕ) → parameter_of qs x ≡ None → bytes_eq q x ≡ false
    → parameter_of (qs ++ q ∷ []) x ≡ None
none_more [] q x none other = ap (λ (b : Bool). if b then Some 0 else None) other
none_more (r ∷ rs) q x none other = at_test (bytes_eq r x) (λ h. none_more rs q x h other) none
  where
    at_test : (b : Bool) → (parameter_of rs x ≡ None → parameter_of (rs ++ q ∷ []) x ≡ None)
        → (if b then Some (length rs) else parameter_of rs x) ≡ None
        → (if b then Some (length (rs ++ q ∷ [])) else parameter_of (rs ++ q ∷ []) x) ≡ None
    at_test true rest h = absurd (let n : Some (length rs) ≡ None = h in cc)
    at_test false rest h = rest h

abbrev parameter : List ℕ → Kind → Naming
parameter q k =
    record { name = q; kind = k; binder = binders.Bound (record { item = 0; position = 0 }) }

behind_same : (ps : List (List ℕ)) (ks : List Kind) (names others : List Naming) (x : List ℕ)
    → length ks ≡ length ps
    → (parameter_of (reverse ps) x ≡ None
    → kind_found (found names x) ≡ kind_found (found others x))
    → kind_found (found (with_parameters ps ks names) x)
    ≡ kind_found (found (with_parameters ps ks others) x)
behind_same [] [] names others x e h = h refl
behind_same [] (k ∷ ks) names others x e h = h refl
behind_same (q ∷ ps) [] names others x e h = absurd (omega (arith, e))
behind_same (q ∷ ps) (k ∷ ks) names others x e h =
    behind_same ps ks (parameter q k ∷ names) (parameter q k ∷ others) x (omega (arith, e))
    (λ none. at_test (bytes_eq q x) refl none)
  where
    at_test : (b : Bool) → bytes_eq q x ≡ b → parameter_of (reverse ps) x ≡ None
        → kind_found (found (parameter q k ∷ names) x)
        ≡ kind_found (found (parameter q k ∷ others) x)
    at_test true is none = rw is refl
    at_test false is none =
        let gone : parameter_of (reverse (q ∷ ps)) x ≡ None = ap (λ (l : List (List ℕ)). parameter_of l x) (reverse-append (q ∷ []) ps) ∙ none_more (reverse ps) q x none is in
        rw is (h gone)

-- ---- kinds of bodies

parameters_arity : (ss : List Sense) (names : List Naming) (ps : List (List ℕ)) (n : ℕ) (x : List ℕ)
    (o : Option ℕ) (r : Result Sense ModelFault) → parameter_of (reverse ps) x ≡ o
    → sense_of ss n (found names x) ≡ r → HasArity n (sense_seen ss names ps n x)
parameters_arity ss names ps n x (Some i) r at is =
    let w : sense_seen ss names ps n x ≡ None = rw at refl in rw w tt
parameters_arity ss names ps n x None (Ok s) at is =
    let w : sense_seen ss names ps n x ≡ Some s = rw (at, is) refl in
    rw w (found_arity ss n (found names x) s is)
parameters_arity ss names ps n x None (Err k) at is =
    let w : sense_seen ss names ps n x ≡ None = rw (at, is) refl in rw w tt

module _ (p : Pairing) (s o : Scope) (ps : List (List ℕ)) (ks : List Kind)
    (many : length ks ≡ length ps) (counts : p.kinds ≡ true) where
  unless_kind : (i : Option ℕ) (f g : Option Found) → IsSameUnless p i f g → i ≡ None
      → kind_found f ≡ kind_found g
  unless_kind (Some i) f g h e = absurd (let n : Some i ≡ None = e in cc)
  unless_kind None f g h e = found_kind p counts f g h

  kind_of_same : (n : ℕ) (a b : Option Sense) → IsSameFunction p a b → HasArity n a
      → (kinds more : List Kind) → kinds ≡ more → length kinds ≡ n
      → kind_of_sense a kinds ≡ kind_of_sense b more
  kind_of_same n None None h m kinds more e long = refl
  kind_of_same n None (Some b) h m kinds more e long = absurd h
  kind_of_same n (Some a) None h m kinds more e long = absurd h
  kind_of_same n (Some a) (Some b) h m kinds more e long =
      h.kind_with counts kinds (long ∙ sym m) ∙ ap (λ (l : List Kind). b.kind_with l) e

  kinds_long : (ts : Terms) → length (kinds_of_body s.senses s.names ps ks ts) ≡ count_of ts
  kinds_long NoTerm = refl
  kinds_long (OneMore a others) = ap (λ (n : ℕ). suc n) (kinds_long others)

  mutual
    body_kind_same : (t : Term) → HasSameNames p s o ps t
        → kind_of_body s.senses s.names ps ks t ≡ kind_of_body o.senses o.names ps ks t
    body_kind_same (Atom x) h =
        behind_same ps ks s.names o.names x many (unless_kind (parameter_of (reverse ps) x)
        (found s.names x) (found o.names x) h)
    body_kind_same AllEvents h = refl
    body_kind_same EmptyRelation h = refl
    body_kind_same EmptySet h = refl
    body_kind_same (Join op a b) h =
        λ i. joined_kind op (body_kind_same a h.0 i) (body_kind_same b h.1 i)
    body_kind_same (Mark op a) h = λ i. marked (body_kind_same a h i)
    body_kind_same (Not a) h = body_kind_same a h
    body_kind_same (On a) h = λ i. narrowed (body_kind_same a h i)
    body_kind_same (Apply x ts) h =
        kind_of_same (count_of ts) (sense_seen s.senses s.names ps (count_of ts) x)
        (sense_seen o.senses o.names ps (count_of ts) x) h.0
        (parameters_arity s.senses s.names ps (count_of ts) x (parameter_of (reverse ps) x)
        (sense_of s.senses (count_of ts) (found s.names x)) refl refl)
        (kinds_of_body s.senses s.names ps ks ts) (kinds_of_body o.senses o.names ps ks ts)
        (body_kinds_same ts h.2) (kinds_long ts)

    body_kinds_same : (ts : Terms) → HaveSameNames p s o ps ts
        → kinds_of_body s.senses s.names ps ks ts ≡ kinds_of_body o.senses o.names ps ks ts
    body_kinds_same NoTerm h = refl
    body_kinds_same (OneMore a others) h =
        λ i. body_kind_same a h.0 i ∷ body_kinds_same others h.1 i

-- ---- functions

used_joined : (p : Pairing) (us vs : List Used) (ws qs : List Used) → AreSameUsed p us ws
    → AreSameUsed p vs qs → AreSameUsed p (us ++ vs) (ws ++ qs)
used_joined p [] vs [] qs h k = k
used_joined p [] vs (w ∷ ws) qs h k = absurd h
used_joined p (u ∷ us) vs [] qs h k = absurd h
used_joined p (u ∷ us) vs (w ∷ ws) qs h k = (h.0, used_joined p us vs ws qs h.1 k)

used_reversed : (p : Pairing) (us ws : List Used) → AreSameUsed p us ws
    → AreSameUsed p (reverse us) (reverse ws)
used_reversed p [] [] h = tt
used_reversed p [] (w ∷ ws) h = absurd h
used_reversed p (u ∷ us) [] h = absurd h
used_reversed p (u ∷ us) (w ∷ ws) h =
    subst (λ (l : List Used). AreSameUsed p l (reverse (w ∷ ws))) (sym (reverse-append (u ∷ []) us))
    (subst (λ (l : List Used). AreSameUsed p (reverse us ++ u ∷ []) l)
    (sym (reverse-append (w ∷ []) ws)) (used_joined p (reverse us) (u ∷ []) (reverse ws)
    (w ∷ []) (used_reversed p us ws h.1) (h.0, tt)))

pub alike_sense : (p : Pairing) (s o : Scope) (ps : List (List ℕ)) (body : Term)
    → HasSameNames p s o ps body
    → IsSameSense p (sense_of_function s.senses s.names ps body)
    (sense_of_function o.senses o.names ps body)
alike_sense p s o ps body alike = record {
  arity = refl;
  kind_with =
      λ counts ks many. ap (λ (k : Kind). if has_any ks then OfAny else k)
      (body_kind_same p s o ps ks many counts body alike);
  formula = formula_same p s o ps body alike;
}

pub alike_usage : (p : Pairing) → IsOne p
    → (s o : Scope) (ps : List (List ℕ)) (body : Term) (item other : ℕ) → HasSameNames p s o ps body
    → AreSameUsed p (usage_of_function s.usages s.names item ps body).values
    (usage_of_function o.usages o.names other ps body).values
alike_usage p one s o ps body item other alike =
    used_reversed p (with_values s.usages s.names ps (length s.names) body [])
    (with_values o.usages o.names ps (length o.names) body [])
    (values_inside p one s o ps body alike)

pub alike_functions : (p : Pairing) (s o : Scope) → IsAlikeFunction p s o
alike_functions p s o ps body item other pairing alike =
    (alike_sense p s o ps body alike, alike_usage p pairing.one s o ps body item other alike)
