-- What is found in applications, from what is found in the body and in the arguments.
use Rattle.std.proofs.Common.{ℕ, zero, suc, ◌≡◌, ◌<◌, ◌+◌, ◌*◌, List, [], ◌∷◌, length, map, get_or, Bool, true, false, ◌&&◌, ◌||◌, Option, Some, refl, ap, sym, ◌∙◌, arith}
use Rattle.std.specs.Prelude.{nat_lt, nat_eq, not, if◌then◌else◌}
use Rattle.std.specs.List.{list_any}
use Rattle.std.proofs.lemmas.Bool.{eq-eqb, eqb-true}
use Rattle.std.proofs.lemmas.List.{length-map}
use Rattle.std.proofs.lemmas.List.Folds.{list_any-append}
use Rattle.text_values.specs.ModelValue.{Terms, NoTerm, OneMore}
use Rattle.binding_kinds.specs.declared.kinds.Kind as code_kind
use Rattle.binding_kinds.specs.declared.kinds.Kind.TheVariants as kinds
use Rattle.binding_kinds.specs.Combinations.{has_any}
use Rattle.binding_kinds.specs.Formula.{Formula, Value, Parameter, Everything, NoPairs, NoEvents, Joined, Marked, Complement, Identity, filled, constant_of, factor_of, HasParameters}
use Rattle.binding_kinds.specs.Senses.{Sense, size_with, size_of_arguments, count_of}
use Rattle.binding_kinds.proofs.Sizes.{args_both}
use Rattle.meaning.specs.Faults as meant
use Rattle.meaning.specs.Faults.{KindOf, OfAny, ModelFault, Kind, TooLarge, Finding, Known, AsFunction, Scope, is_set, is_relation, fault_if, is_kind_fault, is_monotone_fault, is_falling_parameter, faults_in, in_application, in_use, in_terms}
use Rattle.meaning_faults.proofs.Likeness.{kind_to, kinds_of, sizes_of, value_kinds, values_of, kinds_of_values, sizes_of_values, any_same}
use Rattle.meaning_faults.proofs.Scopes.{IsSense}

pub long_terms : (inside : Bool) (S : Scope) (g : ℕ → Bool) (i : ℕ) (ts : Terms)
    → length (in_terms inside S g i ts) ≡ count_of ts
long_terms inside S g i NoTerm = refl
long_terms inside S g i (OneMore a ts) = ap suc (long_terms inside S g (suc i) ts)

pub right_use : (inside : Bool) (o : Option Known) (count : ℕ)
    (body : List meant.KnownName → Finding) (arguments : (ℕ → Bool) → List Finding)
    → o ≡ Some (AsFunction count body) → length (arguments (λ i. false)) ≡ count
    → in_use inside o arguments
    ≡ in_application inside (body (values_of (arguments (λ i. false))))
    (arguments (is_falling_parameter body))
right_use inside o count body arguments e long =
    ap (λ (k : Option Known). in_use inside k arguments) e
    ∙ rw (eq-eqb count (length (arguments (λ i. false))) (sym long)) refl

choice : (b : Bool) (k : KindOf)
    → (if b then kinds.OfAny else kind_to k) ≡ kind_to (if b then OfAny else k)
choice true k = refl
choice false k = refl

-- the kind of an application that is not too large
pub application_kind : (s : Sense) (inside : Bool) (count : ℕ) (body : List meant.KnownName → Finding)
    (ks : List code_kind.Kind) (plain arguments : List Finding) → IsSense s count body
    → length plain ≡ count → ks ≡ kinds_of plain → ks ≡ kinds_of arguments
    → (not inside && nat_lt 4096 (body (values_of plain)).size) ≡ false
    → s.kind_with ks ≡ kind_to (in_application inside (body (values_of plain)) arguments).kind
application_kind s inside count body ks plain arguments same long is also small =
    let values : value_kinds (values_of plain) ≡ ks = kinds_of_values plain ∙ sym is in
    let long' : length (values_of plain) ≡ count = length-map plain _ ∙ long in
    let any : has_any (value_kinds (values_of plain))
    ≡ list_any (λ f. is_set f.kind && is_relation f.kind) arguments =
    ap has_any (values ∙ also) ∙ any_same arguments in
    ap s.kind_with (sym values)
    ∙ (same.kind (values_of plain) long'
    ∙ (ap (λ (b : Bool). if b then kinds.OfAny else kind_to (body (values_of plain)).kind) any
    ∙ (choice (list_any (λ f. is_set f.kind && is_relation f.kind) arguments)
    (body (values_of plain)).kind
    ∙ sym (ap (λ (b : Bool). kind_to (if b || list_any (λ f. is_set f.kind && is_relation f.kind) arguments
    then OfAny else (body (values_of plain)).kind)) small))))

pub application_size : (s : Sense) (count : ℕ) (body : List meant.KnownName → Finding)
    (ns : List ℕ) (plain : List Finding) → IsSense s count body → length plain ≡ count
    → ns ≡ sizes_of plain → size_with s ns ≡ (body (values_of plain)).size
application_size s count body ns plain same long is =
    ap (size_with s) (is ∙ sym (sizes_of_values plain))
    ∙ same.size (values_of plain) (length-map plain _ ∙ long)

pub application_clash : (s : Sense) (count : ℕ) (body : List meant.KnownName → Finding)
    (ks : List code_kind.Kind) (plain : List Finding) → IsSense s count body
    → length plain ≡ count → ks ≡ kinds_of plain
    → s.clashes ks ≡ list_any is_kind_fault (body (values_of plain)).faults
application_clash s count body ks plain same long is =
    ap s.clashes (is ∙ sym (kinds_of_values plain))
    ∙ same.clash (values_of plain) (length-map plain _ ∙ long)

-- ---- which faults there are

pub kind_if : (b : Bool) → list_any is_kind_fault (fault_if b Kind) ≡ b
kind_if true = refl
kind_if false = refl

pub monotone_if : (b : Bool) → list_any is_monotone_fault (fault_if b Kind) ≡ false
monotone_if true = refl
monotone_if false = refl

-- an operator of the body clashes, or one in an argument does
pub clash_inside_application : (body : Finding) (arguments : List Finding)
    → list_any is_kind_fault (in_application true body arguments).faults
    ≡ (list_any is_kind_fault body.faults || list_any is_kind_fault (faults_in arguments))
clash_inside_application body arguments =
    list_any-append is_kind_fault (fault_if (list_any is_kind_fault body.faults) Kind)
    (faults_in arguments)
    ∙ ap (λ (b : Bool). b || list_any is_kind_fault (faults_in arguments))
    (kind_if (list_any is_kind_fault body.faults))

pub under_inside_application : (body : Finding) (arguments : List Finding)
    → list_any is_monotone_fault (in_application true body arguments).faults
    ≡ list_any is_monotone_fault (faults_in arguments)
under_inside_application body arguments =
    list_any-append is_monotone_fault (fault_if (list_any is_kind_fault body.faults) Kind)
    (faults_in arguments)
    ∙ ap (λ (b : Bool). b || list_any is_monotone_fault (faults_in arguments))
    (monotone_if (list_any is_kind_fault body.faults))

-- ---- the size of a formula, with each parameter counted as an argument

abbrev pub size_at : List ℕ → Formula → ℕ
size_at ns f = constant_of f + size_of_arguments (factor_of f) 0 ns

pub no_arguments : (from : ℕ) (ns : List ℕ) → size_of_arguments (λ p. 0) from ns ≡ 0
no_arguments from [] = refl
no_arguments from (n ∷ ns) = let e = no_arguments (suc from) ns in omega (arith, e)

passed : (i from : ℕ) (ns : List ℕ) → i < from
    → size_of_arguments (λ p. if nat_eq i p then 1 else 0) from ns ≡ 0
passed i from [] lt = refl
passed i from (n ∷ ns) lt =
    at_test (nat_eq i from) (eqb-true i from) (passed i (suc from) ns (omega (arith, lt)))
  where
    at_test : (b : Bool) → (b ≡ true → i ≡ from)
        → size_of_arguments (λ p. if nat_eq i p then 1 else 0) (suc from) ns ≡ 0
        → (if b then 1 else 0) * n
        + size_of_arguments (λ p. if nat_eq i p then 1 else 0) (suc from) ns
        ≡ 0
    at_test true is e = let same = is refl in absurd (omega (arith, same, lt))
    at_test false is e = omega (arith, e)

-- the argument of a parameter
pub argument_at : (k i from : ℕ) (ns : List ℕ) → i ≡ from + k → k < length ns
    → size_of_arguments (λ p. if nat_eq i p then 1 else 0) from ns ≡ get_or ns k 0
argument_at k i from [] e lt = absurd (omega (arith, lt))
argument_at zero i from (n ∷ ns) e lt =
    let same : i ≡ from = omega (arith, e) in
    let rest = passed i (suc from) ns (omega (arith, same)) in
    let one : (if nat_eq i from then 1 else 0) ≡ 1 = rw (eq-eqb i from same) refl in
    here (if nat_eq i from then 1 else 0) one rest
  where
    here : (m : ℕ) → m ≡ 1
        → size_of_arguments (λ p. if nat_eq i p then 1 else 0) (suc from) ns ≡ 0
        → m * n + size_of_arguments (λ p. if nat_eq i p then 1 else 0) (suc from) ns ≡ n
    here m one rest = rw one (omega (arith, rest))
argument_at (suc k) i from (n ∷ ns) e lt =
    at_test (nat_eq i from) (eqb-true i from)
    (argument_at k i (suc from) ns (omega (arith, e)) (omega (arith, lt)))
  where
    at_test : (b : Bool) → (b ≡ true → i ≡ from)
        → size_of_arguments (λ p. if nat_eq i p then 1 else 0) (suc from) ns ≡ get_or ns k 0
        → (if b then 1 else 0) * n
        + size_of_arguments (λ p. if nat_eq i p then 1 else 0) (suc from) ns
        ≡ get_or ns k 0
    at_test true is h = let same = is refl in absurd (omega (arith, same, e))
    at_test false is h = omega (arith, h)

mapped_at : (ns : List ℕ) (fs : List Formula) (i : ℕ) → i < length fs
    → size_at ns (get_or fs i NoPairs) ≡ get_or (map (size_at ns) fs) i 0
mapped_at ns [] i lt = absurd (omega (arith, lt))
mapped_at ns (f ∷ fs) zero lt = refl
mapped_at ns (f ∷ fs) (suc i) lt = mapped_at ns fs i (omega (arith, lt))

-- the size with arguments put in is that with the sizes of the arguments
pub filled_size : (ns : List ℕ) (fs : List Formula) (f : Formula) → HasParameters (length fs) f
    → size_at ns (filled fs f) ≡ size_at (map (size_at ns) fs) f
filled_size ns fs (Value f) h =
    let e = no_arguments 0 ns in let d = no_arguments 0 (map (size_at ns) fs) in omega (arith, d, e)
filled_size ns fs (Parameter i) h =
    let long = length-map fs (size_at ns) in
    let e = argument_at i i 0 (map (size_at ns) fs) (omega arith) (omega (arith, h, long)) in
    let d = mapped_at ns fs i h in omega (arith, d, e)
filled_size ns fs Everything h =
    let e = no_arguments 0 ns in let d = no_arguments 0 (map (size_at ns) fs) in omega (arith, d, e)
filled_size ns fs NoPairs h =
    let e = no_arguments 0 ns in let d = no_arguments 0 (map (size_at ns) fs) in omega (arith, d, e)
filled_size ns fs NoEvents h =
    let e = no_arguments 0 ns in let d = no_arguments 0 (map (size_at ns) fs) in omega (arith, d, e)
filled_size ns fs (Joined op a b) h =
    let l = filled_size ns fs a h.0 in
    let r = filled_size ns fs b h.1 in
    let e = args_both (factor_of (filled fs a)) (factor_of (filled fs b)) 0 ns in
    let d = args_both (factor_of a) (factor_of b) 0 (map (size_at ns) fs) in
    omega (arith, l, r, d, e)
filled_size ns fs (Marked op a) h = let l = filled_size ns fs a h in omega (arith, l)
filled_size ns fs (Complement a) h = let l = filled_size ns fs a h in omega (arith, l)
filled_size ns fs (Identity a) h = let l = filled_size ns fs a h in omega (arith, l)
