-- What a name with arguments applies.
use Rattle.std.proofs.Common.{ℕ, ◌≡◌, List, [], ◌∷◌, map, reverse, Option, Some, None, Result, Ok, Err, refl, sym, ap, ◌∙◌, subst}
use Rattle.std.specs.Prelude.{slice_get, option_map}
use Rattle.std.proofs.lemmas.Option.{slice_get-map}
use Rattle.binding_kinds.specs.declared.fault.ModelFault.{ModelFault}
use Rattle.binding_kinds.specs.declared.function.Function.{Function}
use Rattle.binding_kinds.specs.declared.scope.Found.{Found}
use Rattle.binding_kinds.specs.Value.{Naming}
use Rattle.binding_kinds.specs.Kinds.{found}
use Rattle.binding_kinds.specs.Meanings.{parameter_of, named_of}
use Rattle.binding_kinds.specs.declared.sight.Named.TheVariants as named
use Rattle.binding_kinds.specs.Applicable.{applied_of}
use Rattle.binding_kinds.specs.First.{apply_fault}
use Rattle.binding_kinds.specs.Senses.{Sense, HasSense, HaveSenses, sense_of}
use Rattle.binding_kinds.specs.Functions.{sense_seen}
use Rattle.binding_kinds.proofs.Bodies.{fault_of, applied_fault}
use Rattle.binding_functions.proofs.Applied.{told_by, IsApplied}
use Rattle.binding_graph.specs.Usages.{Usage, usage_of, usage_at, usage_seen}

arities : (fs : List Function)
    → map (λ (u : Usage). u.arity) (map usage_of fs) ≡ map (λ (f : Function). f.arity) fs
arities [] = refl
arities (f ∷ fs) = ap (λ (l : List ℕ). f.arity ∷ l) (arities fs)

-- by the answer of the look-up
pub seen_usage : (fs : List Function) (names : List Naming) (ps : List (List ℕ)) (n : ℕ)
    (x : List ℕ) (r : Result ℕ ModelFault)
    → r
    ≡ applied_of (λ i. slice_get (map (λ (f : Function). f.arity) fs) i) n
    (parameter_of (reverse ps) x) (found names x)
    → usage_seen (map usage_of fs) names ps n x ≡ usage_at (map usage_of fs) r
seen_usage fs names ps n x r e =
    ap
    (λ (l : List ℕ). usage_at (map usage_of fs) (applied_of (λ i. slice_get l i) n
    (parameter_of (reverse ps) x) (found names x)))
    (arities fs) ∙ ap (usage_at (map usage_of fs)) (sym e)

pub seen_function : (fs : List Function) (names : List Naming) (ps : List (List ℕ)) (n : ℕ)
    (x : List ℕ) (f : ℕ) (o : Option Function)
    → Ok f
    ≡ applied_of (λ i. slice_get (map (λ (f : Function). f.arity) fs) i) n
    (parameter_of (reverse ps) x) (found names x) → slice_get fs f ≡ o
    → usage_seen (map usage_of fs) names ps n x ≡ option_map usage_of o
seen_function fs names ps n x f o e is =
    seen_usage fs names ps n x (Ok f) e
    ∙ (slice_get-map usage_of fs f ∙ ap (option_map usage_of) is)

-- ---- what it is, by the answer of the look-up

-- a name that is no function of so many parameters
refused : (fs : List Function) (ss : List Sense) (n : ℕ) (o : Option Found) (k : ModelFault)
    → HaveSenses fs ss
    → Err k ≡ applied_of (λ i. slice_get (map (λ (f : Function). f.arity) fs) i) n None o
    → sense_of ss n o ≡ Err k
refused fs ss n o k kept e =
    at_result (sense_of ss n o) (applied_fault fs ss n None o kept ∙ ap fault_of (sym e))
  where
    at_result : (r : Result Sense ModelFault) → apply_fault None r ≡ Some k → r ≡ Err k
    at_result (Ok s) h = absurd (let bad : None ≡ Some k = h in cc)
    at_result (Err l) h = let q : Some l ≡ Some k = h in cc

pub refused_plainly : (fs : List Function) (ss : List Sense) (names : List Naming)
    (ps : List (List ℕ)) (n : ℕ) (x : List ℕ) (k : ModelFault) → HaveSenses fs ss
    → Err k
    ≡ applied_of (λ i. slice_get (map (λ (f : Function). f.arity) fs) i) n
    (parameter_of (reverse ps) x) (found names x)
    → ps ≡ [] → sense_of ss n (found names x) ≡ Err k
refused_plainly fs ss names ps n x k kept e none =
    refused fs ss n (found names x) k kept (rw none at e)

pub unseen : (fs : List Function) (ss : List Sense) (names : List Naming) (ps : List (List ℕ))
    (n : ℕ) (x : List ℕ) (f : ℕ) → HaveSenses fs ss
    → Ok f
    ≡ applied_of (λ i. slice_get (map (λ (f : Function). f.arity) fs) i) n
    (parameter_of (reverse ps) x) (found names x) → slice_get fs f ≡ None → ⊥
unseen fs ss names ps n x f kept e none =
    let h : IsApplied fs ss f n (sense_seen ss names ps n x) = told_by fs ss names ps n x (Ok f) kept e in
    let bad : None ≡ Some h.one = sym none ∙ h.there in cc

pub seen_sense : (fs : List Function) (ss : List Sense) (names : List Naming) (ps : List (List ℕ))
    (n : ℕ) (x : List ℕ) (f : ℕ) (one : Function) → HaveSenses fs ss
    → Ok f
    ≡ applied_of (λ i. slice_get (map (λ (f : Function). f.arity) fs) i) n
    (parameter_of (reverse ps) x) (found names x) → slice_get fs f ≡ Some one
    → (s : Sense) × (sense_seen ss names ps n x ≡ Some s) × (s.arity ≡ n) × HasSense one s
seen_sense fs ss names ps n x f one kept e there =
    let h : IsApplied fs ss f n (sense_seen ss names ps n x) = told_by fs ss names ps n x (Ok f) kept e in
    let same : h.one ≡ one = let q : Some h.one ≡ Some one = sym h.there ∙ there in cc in
    (h.sense, h.sense_is, h.arity, subst (λ (g : Function). HasSense g h.sense) same h.kept)

-- where there are no parameters
pub seen_plainly : (ss : List Sense) (names : List Naming) (ps : List (List ℕ)) (n : ℕ) (x : List ℕ)
    (s : Sense) → ps ≡ [] → sense_seen ss names ps n x ≡ Some s
    → sense_of ss n (found names x) ≡ Ok s
seen_plainly ss names ps n x s none e =
    at_result (sense_of ss n (found names x)) refl (rw none at e)
  where
    at_result : (r : Result Sense ModelFault) → sense_of ss n (found names x) ≡ r
        → sense_seen ss names [] n x ≡ Some s → sense_of ss n (found names x) ≡ Ok s
    at_result (Ok t) q h =
        let w : sense_seen ss names [] n x ≡ Some t = rw q refl in
        let same : Some t ≡ Some s = sym w ∙ h in cc
    at_result (Err k) q h =
        let w : sense_seen ss names [] n x ≡ None = rw q refl in
        absurd (let bad : None ≡ Some s = sym w ∙ h in cc)

-- ---- names without arguments

-- a parameter, where there is none
pub no_parameter : (ps : List (List ℕ)) (x : List ℕ) (o : Option Found) (i : ℕ) → ps ≡ []
    → named.Parameter i ≡ named_of (parameter_of (reverse ps) x) o → ⊥
no_parameter ps x o i none e = let bad : named.Parameter i ≡ named.Other o = rw none at e in cc

-- what the parts of a look-up are, by what the name is found to be
pub name_parameter : (p : Option ℕ) (o : Option Found) (i : ℕ) → named.Parameter i ≡ named_of p o
    → p ≡ Some i
name_parameter (Some j) o i e = let same : named.Parameter i ≡ named.Parameter j = e in cc
name_parameter None o i e = absurd (let bad : named.Parameter i ≡ named.Other o = e in cc)

pub name_other : (p : Option ℕ) (o q : Option Found) → named.Other q ≡ named_of p o
    → (p ≡ None) × (o ≡ q)
name_other (Some j) o q e = absurd (let bad : named.Other q ≡ named.Parameter j = e in cc)
name_other None o q e = (refl, let same : named.Other q ≡ named.Other o = e in cc)
