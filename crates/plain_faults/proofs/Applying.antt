-- What is found in a name, and in an application.
use Rattle.std.proofs.Common.{ℕ, ◌≡◌, ◌+◌, ◌≤◌, zero, suc, List, [], ◌∷◌, ◌++◌, length, map, take, Bool, true, false, ◌||◌, Option, Some, None, bytes_eq, if◌then◌else◌, refl, sym, ap, subst, ◌∙◌, arith}
use Rattle.std.specs.Prelude.{replicate, nat_eq}
use Rattle.std.specs.List.{AllZip}
use Rattle.std.proofs.lemmas.Bool.{eq-eqb, eqb-true}
use Rattle.std.proofs.lemmas.Slice.Zip.{AllZip-long}
use Rattle.text_values.specs.declared.model.Expression.{Expression}
use Rattle.text_values.specs.ModelValues.{term_of}
use Rattle.predefined_names.specs.declared.predefined.TheConstants.{PREDEFINED}
use Rattle.meaning.specs.Names.{Name}
use Rattle.meaning.specs.Faults as definition
use Rattle.meaning.specs.Faults.{Scope, ModelFault, Unbound, Arity, OfAny, AsValue, AsFunction, known_as, finding_of, faults_in, value_with, in_name, in_use, in_terms, in_body, in_application, is_falling_parameter, outermost_scope}
use Rattle.plain_faults.specs.declared.finding.KnownName.{KnownName}
use Rattle.plain_faults.specs.declared.finding.Finding.{Finding}
use Rattle.plain_faults.specs.declared.scope.Known.{Known}
use Rattle.plain_faults.specs.declared.scope.Known.TheVariants as knowns
use Rattle.plain_faults.specs.declared.scope.Named.{Named}
use Rattle.plain_faults.specs.Found.{IsSameKnown, IsSameFinding, IsKnown, AreNames, AreFlags, ArePlainIn, AreFoundIn, AreFallingIn, IsFoundInBody, IsFoundInName, IsFoundInUse, IsFoundInFunction, arguments_as, from_name, known_weight, names_weight, with_predefined}

-- ---- names

-- what a name is, and the names before it
pub record There (S : Scope) (n : Name) (b : Named) (rest : List Named) : Type 0 where
  pub scope : Scope
  pub known : definition.Known
  pub is : known_as S n ≡ Some known
  pub stands : IsKnown scope b.known known
  pub names : AreNames rest scope

there_step : (x : Bool) (b : Named) (bs found : List Named) (a : Named) (rest : List Named)
    (S T : Scope) (n : Name) (p : definition.Known) (o : Option definition.Known)
    → IsKnown T b.known p → AreNames bs T → (if x then b ∷ bs else found) ≡ a ∷ rest
    → (found ≡ a ∷ rest → (U : Scope) × (k : definition.Known) × (o ≡ Some k) × IsKnown U a.known k × AreNames rest U)
    → (U : Scope) × (k : definition.Known) × ((if x then Some p else o) ≡ Some k) × IsKnown U a.known k
    × AreNames rest U
there_step true b bs found a rest S T n p o known names e later =
    let same : b ≡ a = cc in
    let others : bs ≡ rest = cc in (
      T,
      p,
      refl,
      subst (λ (c : Named). IsKnown T c.known p) same known,
      subst (λ (l : List Named). AreNames l T) others names,
    )
there_step false b bs found a rest S T n p o known names e later = later e

known_where : (bs : List Named) (S : Scope) (n : Name) (a : Named) (rest : List Named)
    → AreNames bs S → from_name bs n ≡ a ∷ rest
    → (U : Scope) × (k : definition.Known) × (known_as S n ≡ Some k) × IsKnown U a.known k × AreNames rest U
known_where [] S n a rest h e = absurd (let wrong : ⊥ = cc in wrong)
known_where (b ∷ bs) [] n a rest h e = absurd h
known_where (b ∷ bs) (p ∷ S) n a rest h e =
    subst
    (λ (m : Name). (U : Scope) × (k : definition.Known) × ((if bytes_eq m n then Some p.1 else known_as S n) ≡ Some k) × IsKnown U a.known k × AreNames rest U)
    h.0
    (there_step (bytes_eq b.name.now n) b bs (from_name bs n) a rest S S n p.1 (known_as S n) h.1 h.2 e
    (known_where bs S n a rest h.2))

pub known_there : (bs : List Named) (S : Scope) (n : Name) (a : Named) (rest : List Named)
    → AreNames bs S → from_name bs n ≡ a ∷ rest → There S n a rest
known_there bs S n a rest h e =
    let t = known_where bs S n a rest h e in
    record { scope = t.0; known = t.1; is = t.2; stands = t.3; names = t.4 }

none_step : (x : Bool) (b : Named) (bs found : List Named) (p : definition.Known)
    (o : Option definition.Known) → (found ≡ [] → o ≡ None) → (if x then b ∷ bs else found) ≡ []
    → (if x then Some p else o) ≡ None
none_step true b bs found p o later e = absurd (let wrong : ⊥ = cc in wrong)
none_step false b bs found p o later e = later e

pub known_nowhere : (bs : List Named) (S : Scope) (n : Name) → AreNames bs S → from_name bs n ≡ []
    → known_as S n ≡ None
known_nowhere [] [] n h e = refl
known_nowhere [] (p ∷ S) n h e = absurd h
known_nowhere (b ∷ bs) [] n h e = absurd h
known_nowhere (b ∷ bs) (p ∷ S) n h e =
    subst (λ (m : Name). (if bytes_eq m n then Some p.1 else known_as S n) ≡ None) h.0
    (none_step (bytes_eq b.name.now n) b bs (from_name bs n) p.1 (known_as S n)
    (known_nowhere bs S n h.2) e)

weight_step : (x : Bool) (b : Named) (bs found : List Named) (a : Named) (rest : List Named)
    → (found ≡ a ∷ rest → known_weight a.known + names_weight rest ≤ names_weight bs)
    → (if x then b ∷ bs else found) ≡ a ∷ rest
    → known_weight a.known + names_weight rest ≤ known_weight b.known + names_weight bs
weight_step true b bs found a rest later e =
    let same : names_weight (b ∷ bs) ≡ names_weight (a ∷ rest) = ap names_weight e in
    omega (arith, same)
weight_step false b bs found a rest later e = omega (arith, later e)

pub weight_there : (bs : List Named) (n : Name) (a : Named) (rest : List Named)
    → from_name bs n ≡ a ∷ rest → known_weight a.known + names_weight rest ≤ names_weight bs
weight_there [] n a rest e = absurd (let wrong : ⊥ = cc in wrong)
weight_there (b ∷ bs) n a rest e =
    weight_step (bytes_eq b.name.now n) b bs (from_name bs n) a rest (weight_there bs n a rest) e

-- ---- names without arguments

pub name_value : (names : List Named) (falling : Bool) (n : Name) (b : Named) (rest : List Named)
    (v : KnownName) (f : Finding) → from_name names n ≡ b ∷ rest → b.known ≡ knowns.Value v
    → ((w : definition.KnownName) → IsSameKnown v w → IsSameFinding f (in_name falling (Some (AsValue w))))
    → IsFoundInName names falling n f
name_value names falling n b rest v f at is found S stands =
    let t : There S n b rest = known_there names S n b rest stands at in
    let k : IsKnown t.scope (knowns.Value v) t.known = subst (λ (x : Known). IsKnown t.scope x t.known) is t.stands in
    subst (λ (o : Option definition.Known). IsSameFinding f (in_name falling o)) (sym (t.is ∙ ap Some k.1))
    (found k.0 k.2)

pub name_function : (names : List Named) (falling : Bool) (n : Name) (b : Named) (rest : List Named)
    (k : Known) (f : Finding) → from_name names n ≡ b ∷ rest → b.known ≡ k
    → ((T : Scope) (o : definition.Known) → IsKnown T k o → (m : ℕ) × (body : List definition.KnownName → definition.Finding) × (o ≡ AsFunction m body))
    → IsSameFinding f (finding_of OfAny 1 (Arity ∷ [])) → IsFoundInName names falling n f
name_function names falling n b rest k f at is function found S stands =
    let t : There S n b rest = known_there names S n b rest stands at in
    let what = function t.scope t.known (subst (λ (x : Known). IsKnown t.scope x t.known) is t.stands) in
    subst (λ (o : Option definition.Known). IsSameFinding f (in_name falling o)) (sym (t.is ∙ ap Some what.2))
    found

pub name_nowhere : (names : List Named) (falling : Bool) (n : Name) (f : Finding)
    → from_name names n ≡ [] → IsSameFinding f (finding_of OfAny 1 (Unbound ∷ []))
    → IsFoundInName names falling n f
name_nowhere names falling n f at found S stands =
    subst (λ (o : Option definition.Known). IsSameFinding f (in_name falling o))
    (sym (known_nowhere names S n stands at)) found

-- ---- flags

take_none : {X : Type 0} (n : ℕ) (l : List X) → l ≡ [] → take n l ≡ []
take_none zero l e = refl
take_none (suc n) [] e = refl
take_none (suc n) (x ∷ l) e = absurd (let wrong : ⊥ = cc in wrong)

pub filled : {X : Type 0} (n m : ℕ) (x : X) (old new : List X) → old ≡ [] → m ≡ n
    → new ≡ take n old ++ replicate m x → new ≡ replicate n x
filled n m x old new none same e =
    e ∙ ap (λ l. l ++ replicate m x) (take_none n old none) ∙ ap (λ k. replicate k x) same

pub none_left : {X : Type 0} (l : List X) → length l ≡ 0 → l ≡ []
none_left [] e = refl
none_left (x ∷ l) e = absurd (omega arith)

pub plain_flags : (n : ℕ) (falling : Bool) (i : ℕ)
    → AreFlags (λ j. falling || false) i (replicate n falling)
plain_flags zero falling i = tt
plain_flags (suc n) falling i = (or_false falling, plain_flags n falling (suc i))
  where
    or_false : (b : Bool) → (b || false) ≡ b
    or_false true = refl
    or_false false = refl

flags_more : (test : ℕ → Bool) (i : ℕ) (bs : List Bool) (b : Bool) → AreFlags test i bs
    → test (i + length bs) ≡ b → AreFlags test i (bs ++ b ∷ [])
flags_more test i [] b h e = (ap test (let n : i ≡ i + 0 = omega arith in n) ∙ e, tt)
flags_more test i (c ∷ bs) b h e = (
  h.0,
  flags_more test (suc i) bs b h.1
      (ap test (let n : suc i + length bs ≡ i + suc (length bs) = omega arith in n) ∙ e),
)

pub next_flag : (test : ℕ → Bool) (bs new : List Bool) (b : Bool) (n : ℕ) → length bs ≡ n
    → AreFlags test 0 bs → b ≡ test n → new ≡ bs ++ b ∷ []
    → AreFlags test 0 new
next_flag test bs new b n long h e more =
    subst (λ (l : List Bool). AreFlags test 0 l) (sym more)
    (flags_more test 0 bs b h
    (ap test (let same : 0 + length bs ≡ n = omega (arith, long) in same) ∙ sym e))

-- ---- applications

terms_length : (inside : Bool) (S : Scope) (test : ℕ → Bool) (i : ℕ) (es : List Expression)
    → length (in_terms inside S test i (arguments_as es)) ≡ length es
terms_length inside S test i [] = refl
terms_length inside S test i (e ∷ es) = ap suc (terms_length inside S test (suc i) es)

pub plain_length : (inside : Bool) (S : Scope) (test : ℕ → Bool) (i : ℕ) (es : List Expression)
    (fs : List Finding) → AllZip IsSameFinding fs (in_terms inside S test i (arguments_as es))
    → length fs ≡ length es
plain_length inside S test i es fs h =
    sym (AllZip-long IsSameFinding fs (in_terms inside S test i (arguments_as es)) h)
    ∙ terms_length inside S test i es

other_number : (m n : ℕ) → (m ≡ n → ⊥) → nat_eq m n ≡ false
other_number m n h = not_true (nat_eq m n) (λ e. h (eqb-true m n e))
  where
    not_true : (b : Bool) → (b ≡ true → ⊥) → b ≡ false
    not_true true wrong = absurd (wrong refl)
    not_true false wrong = refl

pub use_value : (inside : Bool) (names : List Named) (falling : Bool) (n : Name)
    (es : List Expression) (b : Named) (rest : List Named) (v : KnownName) (found : List Finding)
    (f : Finding) → from_name names n ≡ b ∷ rest → b.known ≡ knowns.Value v
    → ArePlainIn inside names falling es found
    → ((fs : List definition.Finding) → AllZip IsSameFinding found fs → IsSameFinding f (finding_of OfAny 1 (Arity ∷ faults_in fs)))
    → IsFoundInUse inside names falling n es f
use_value inside names falling n es b rest v found f at is plain made S stands =
    let t : There S n b rest = known_there names S n b rest stands at in
    let k : IsKnown t.scope (knowns.Value v) t.known = subst (λ (x : Known). IsKnown t.scope x t.known) is t.stands in
    let args = λ (p : ℕ → Bool). in_terms inside S (λ i. falling || p i) 0 (arguments_as es) in
    subst (λ (o : Option definition.Known). IsSameFinding f (in_use inside o args)) (sym (t.is ∙ ap Some k.1))
    (made (args (λ i. false)) (plain S stands))

pub use_nowhere : (inside : Bool) (names : List Named) (falling : Bool) (n : Name)
    (es : List Expression) (found : List Finding) (f : Finding) → from_name names n ≡ []
    → ArePlainIn inside names falling es found
    → ((fs : List definition.Finding) → AllZip IsSameFinding found fs → IsSameFinding f (finding_of OfAny 1 (Unbound ∷ faults_in fs)))
    → IsFoundInUse inside names falling n es f
use_nowhere inside names falling n es found f at plain made S stands =
    let args = λ (p : ℕ → Bool). in_terms inside S (λ i. falling || p i) 0 (arguments_as es) in
    subst (λ (o : Option definition.Known). IsSameFinding f (in_use inside o args))
    (sym (known_nowhere names S n stands at)) (made (args (λ i. false)) (plain S stands))

pub use_function : (inside : Bool) (names : List Named) (falling : Bool) (n : Name)
    (es : List Expression) (b : Named) (rest : List Named) (ps : List Name) (body : Expression)
    (k : Known) (found : List Finding) (f : Finding) → from_name names n ≡ b ∷ rest → b.known ≡ k
    → ((T : Scope) (o : definition.Known) → IsKnown T k o → o ≡ AsFunction (length ps) (in_body T ps (term_of body)))
    → length ps ≡ length es → ArePlainIn inside names falling es found
    → IsFoundInFunction inside names falling rest ps body es found f
    → IsFoundInUse inside names falling n es f
use_function inside names falling n es b rest ps body k found f at is function long plain made S stands =
    let t : There S n b rest = known_there names S n b rest stands at in
    let what : t.known ≡ AsFunction (length ps) (in_body t.scope ps (term_of body)) = function t.scope t.known (subst (λ (x : Known). IsKnown t.scope x t.known) is t.stands) in
    let args = λ (p : ℕ → Bool). in_terms inside S (λ i. falling || p i) 0 (arguments_as es) in
    let B = in_body t.scope ps (term_of body) in
    let right : definition.Finding = in_application inside (B (map (λ a. value_with a.kind a.size false) (args (λ i. false)))) (args (is_falling_parameter B)) in
    let wrong : definition.Finding = definition.in_wrong_application Arity args in
    let many : length ps ≡ length (args (λ i. false)) = long ∙ sym (terms_length inside S (λ i. falling || false) 0 es) in
    let equal : nat_eq (length ps) (length (args (λ i. false))) ≡ true = eq-eqb (length ps) (length (args (λ i. false))) many in
    subst (λ (o : Option definition.Known). IsSameFinding f (in_use inside o args)) (sym (t.is ∙ ap Some what))
    (subst (λ (x : Bool). IsSameFinding f (if x then right else wrong)) (sym equal)
    (made S t.scope stands t.names (args (λ i. false)) (plain S stands)))

pub use_wrong : (inside : Bool) (names : List Named) (falling : Bool) (n : Name)
    (es : List Expression) (b : Named) (rest : List Named) (ps : List Name) (body : Expression)
    (k : Known) (found : List Finding) (f : Finding) → from_name names n ≡ b ∷ rest → b.known ≡ k
    → ((T : Scope) (o : definition.Known) → IsKnown T k o → o ≡ AsFunction (length ps) (in_body T ps (term_of body)))
    → (length ps ≡ length es → ⊥) → ArePlainIn inside names falling es found
    → ((fs : List definition.Finding) → AllZip IsSameFinding found fs → IsSameFinding f (finding_of OfAny 1 (Arity ∷ faults_in fs)))
    → IsFoundInUse inside names falling n es f
use_wrong inside names falling n es b rest ps body k found f at is function long plain made S stands =
    let t : There S n b rest = known_there names S n b rest stands at in
    let what : t.known ≡ AsFunction (length ps) (in_body t.scope ps (term_of body)) = function t.scope t.known (subst (λ (x : Known). IsKnown t.scope x t.known) is t.stands) in
    let args = λ (p : ℕ → Bool). in_terms inside S (λ i. falling || p i) 0 (arguments_as es) in
    let B = in_body t.scope ps (term_of body) in
    let right : definition.Finding = in_application inside (B (map (λ a. value_with a.kind a.size false) (args (λ i. false)))) (args (is_falling_parameter B)) in
    let wrong : definition.Finding = definition.in_wrong_application Arity args in
    let differ : length ps ≡ length (args (λ i. false)) → ⊥ = λ e. long (e ∙ terms_length inside S (λ i. falling || false) 0 es) in
    let unequal : nat_eq (length ps) (length (args (λ i. false))) ≡ false = other_number (length ps) (length (args (λ i. false))) differ in
    subst (λ (o : Option definition.Known). IsSameFinding f (in_use inside o args)) (sym (t.is ∙ ap Some what))
    (subst (λ (x : Bool). IsSameFinding f (if x then right else wrong)) (sym unequal)
    (made (args (λ i. false)) (plain S stands)))

pub applied : (inside : Bool) (names : List Named) (falling : Bool) (outer : List Named)
    (ps : List Name) (body : Expression) (es : List Expression) (found : List Finding)
    (values : List KnownName) (inner : Finding) (flags : List Bool) (all : List Finding) (f : Finding)
    → ((fs : List definition.Finding) → AllZip IsSameFinding found fs → AllZip IsSameKnown values (map (λ a. value_with a.kind a.size false) fs))
    → IsFoundInBody outer ps body values inner → AreFallingIn outer ps body falling flags
    → AreFoundIn inside names flags es all
    → ((b : definition.Finding) → IsSameFinding inner b → (fs : List definition.Finding) → AllZip IsSameFinding all fs → IsSameFinding f (in_application inside b fs))
    → IsFoundInFunction inside names falling outer ps body es found f
applied inside names falling outer ps body es found values inner flags all f same in_inner are in_all made S T there before fs each =
    let B = in_body T ps (term_of body) in
    let test = λ (i : ℕ). falling || is_falling_parameter B i in
    made (B (map (λ a. value_with a.kind a.size false) fs))
    (in_inner T before (map (λ a. value_with a.kind a.size false) fs) (same fs each))
    (in_terms inside S test 0 (arguments_as es)) (in_all S there test 0 (are T before))

values_repeated : (n : ℕ) (v : KnownName) (w : definition.KnownName) → IsSameKnown v w
    → AllZip IsSameKnown (replicate n v) (replicate n w)
values_repeated zero v w h = tt
values_repeated (suc n) v w h = (h, values_repeated n v w h)

values_then : (vs : List KnownName) (ws : List definition.KnownName) (v : KnownName)
    (w : definition.KnownName) → AllZip IsSameKnown vs ws → IsSameKnown v w
    → AllZip IsSameKnown (vs ++ v ∷ []) (ws ++ w ∷ [])
values_then [] [] v w h last = (last, tt)
values_then [] (x ∷ ws) v w h last = absurd h
values_then (x ∷ vs) [] v w h last = absurd h
values_then (x ∷ vs) (y ∷ ws) v w h last = (h.0, values_then vs ws v w h.1 last)

pub trial : (n : ℕ) (plain falling : KnownName) (filled new : List KnownName)
    → IsSameKnown plain (value_with OfAny 1 false) → IsSameKnown falling (value_with OfAny 1 true)
    → filled ≡ replicate n plain → new ≡ filled ++ falling ∷ []
    → AllZip IsSameKnown new (replicate n (value_with OfAny 1 false) ++ value_with OfAny 1 true ∷ [])
trial n plain falling filled new p q e more =
    subst (λ l. AllZip IsSameKnown l (replicate n (value_with OfAny 1 false) ++ value_with OfAny 1 true ∷ []))
    (sym (more ∙ ap (λ l. l ++ falling ∷ []) e))
    (values_then (replicate n plain) (replicate n (value_with OfAny 1 false)) falling
    (value_with OfAny 1 true) (values_repeated n plain (value_with OfAny 1 false) p) q)

-- ---- predefined names

pub outermost : with_predefined PREDEFINED [] ≡ outermost_scope
outermost = refl
