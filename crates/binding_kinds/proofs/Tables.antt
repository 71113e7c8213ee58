-- Tables for all combinations of kinds, an entry at a time.
use Rattle.std.proofs.Common.{ℕ, suc, ◌≡◌, ◌<◌, ◌≤◌, ◌+◌, ◌*◌, ◌^◌, inl, inr, ◌⊎◌, List, [], ◌∷◌, ◌++◌, length, map, reverse, get_or, Bool, true, false, ◌||◌, Option, Some, None, refl, sym, ap, ◌∙◌, arith, length-append}
use Rattle.std.specs.Prelude.{if◌then◌else◌, bytes_eq}
use Rattle.std.proofs.lemmas.Bool.{cases_lt}
use Rattle.std.proofs.lemmas.List.{get_or_push, get_or_append_left, get_or_default, reverse-append, length-reverse}
use Rattle.std.proofs.Math.Nat.{pow-succ', mul_assoc, mul_comm}
use Rattle.text_values.specs.declared.model.Expression.{Expression}
use Rattle.text_values.specs.ModelValues as values
use Rattle.text_values.specs.ModelValue.{Terms, Apply, gathered}
use Rattle.binding_kinds.specs.declared.kinds.Kind.{Kind}
use Rattle.binding_kinds.specs.declared.kinds.Kind.TheVariants.{OfAny}
use Rattle.binding_kinds.specs.declared.scope.Binder.TheVariants as binders
use Rattle.binding_kinds.specs.declared.column.Gathered.{Gathered}
use Rattle.binding_kinds.specs.Value.{Naming}
use Rattle.binding_kinds.specs.Kinds.{found, kind_found}
use Rattle.binding_kinds.specs.Meanings.{parameter_of}
use Rattle.binding_kinds.specs.declared.signature.Signature.{Signature}
use Rattle.binding_kinds.specs.declared.function.Function.{Function}
use Rattle.binding_kinds.specs.Combinations.{digit, kinds_number}
use Rattle.binding_kinds.specs.Senses.{Sense, HasSense, count_of}
use Rattle.binding_kinds.specs.Functions.{with_parameters, sense_seen, kind_of_sense, clash_of_sense, kind_of_body, kinds_of_body, clashes_in, clash_among}
use Rattle.binding_kinds.specs.Columns.{IsFilled, plain, of_applied, with_one, signature_in, gathered_in}
use Rattle.binding_kinds.proofs.Applications.{below_power, below_table, count_arguments}

-- one more entry
pub filled_more : {X : Type 0} (d : X) (arity n : ℕ) (made : List Kind → X) (xs ys : List X) (y : X)
    → ys ≡ xs ++ y ∷ [] → IsFilled d arity n made xs
    → ((ks : List Kind) → length ks ≡ arity → kinds_number ks ≡ n → y ≡ made ks)
    → IsFilled d arity (n + 1) made ys
filled_more {X} d arity n made xs ys y is h new = record {
  long =
      let e = ap length is in
      let l = length-append xs (y ∷ []) in let k = h.long in omega (arith, e, l, k);
  entries =
      λ ks e lt. ap (λ (l : List X). get_or l (kinds_number ks) d) is
      ∙ at_index ks e lt (cases_lt (kinds_number ks) n);
}
  where
    at_index : (ks : List Kind) → length ks ≡ arity → kinds_number ks < n + 1
        → (kinds_number ks < n) ⊎ (n ≤ kinds_number ks) → get_or (xs ++ y ∷ []) (kinds_number ks) d ≡ made ks
    at_index ks e lt (inl less) =
        let k = h.long in
        get_or_append_left xs (y ∷ []) d (kinds_number ks) (omega (arith, less, k))
        ∙ h.entries ks e less
    at_index ks e lt (inr more) =
        let same : kinds_number ks ≡ n = omega (arith, lt, more) in
        get_or_push xs y d (kinds_number ks) (h.long ∙ sym same) ∙ new ks e same

pub filled_as : {X : Type 0} (d : X) (arity n : ℕ) (f g : List Kind → X) (xs : List X)
    → ((ks : List Kind) → length ks ≡ arity → f ks ≡ g ks) → IsFilled d arity n f xs
    → IsFilled d arity n g xs
filled_as d arity n f g xs same h =
    record { long = h.long; entries = λ ks e lt. h.entries ks e lt ∙ same ks e }

pub filled_at : {X : Type 0} (d : X) (arity n m : ℕ) (f : List Kind → X) (xs : List X) → n ≡ m
    → IsFilled d arity n f xs → IsFilled d arity m f xs
filled_at d arity n m f xs same h =
    record { long = h.long ∙ same; entries = λ ks e lt. h.entries ks e (omega (arith, lt, same)) }

-- all entries are there
pub filled_all : {X Y : Type 0} (d : X) (o : Y) (arity rows n : ℕ) (f : List Kind → X)
    (g : List Kind → Y) (all : List X) (xs : List Y) → IsFilled d arity rows f all
    → length all ≤ n → n ≤ length all → IsFilled o arity n g xs → IsFilled o arity rows g xs
filled_all d o arity rows n f g all xs h le ge k =
    let l = h.long in let same : n ≡ rows = omega (arith, l, le, ge) in
    record { long = k.long ∙ same; entries = λ ks e lt. k.entries ks e (omega (arith, lt, same)) }

pub entry_at : {X : Type 0} (d w : X) (arity rows i : ℕ) (made : List Kind → X) (all : List X)
    (ks : List Kind) → IsFilled d arity rows made all → i < length all → length ks ≡ arity
    → kinds_number ks ≡ i → get_or all i w ≡ made ks
entry_at d w arity rows i made all ks h lt long same =
    let l = h.long in
    get_or_default all i w d lt
    ∙ (ap (λ (n : ℕ). get_or all n d) (sym same)
    ∙ h.entries ks long (omega (arith, lt, l, same)))

-- one more entry, made of those of two tables
pub zipped_more : {X Y Z : Type 0} (d w : X) (e : Z) (o : Y) (arity rows i : ℕ)
    (first : List Kind → X) (second : List Kind → Z) (f : X → Z → Y) (all : List X)
    (others : List Z) (xs ys : List Y) (y : Y) → i < length all
    → ((ks : List Kind) → get_or all i w ≡ first ks → y ≡ f (get_or all i w) (get_or others i e))
    → ys ≡ xs ++ y ∷ [] → IsFilled d arity rows first all → IsFilled e arity rows second others
    → IsFilled o arity i (λ ks. f (first ks) (second ks)) xs
    → IsFilled o arity (i + 1) (λ ks. f (first ks) (second ks)) ys
zipped_more {X} {Y} {Z} d w e o arity rows i first second f all others xs ys y lt y_is is h k inv =
    filled_more o arity i (λ ks. f (first ks) (second ks)) xs ys y is inv (λ ks long same.
    let l = h.long in
    let m = k.long in
    let a : get_or all i w ≡ first ks = entry_at d w arity rows i first all ks h lt long same in
    let b : get_or others i e ≡ second ks = entry_at e e arity rows i second others ks k (omega (arith, lt, l, m)) long same in
    y_is ks a ∙ (ap (λ (x : X). f x (get_or others i e)) a ∙ ap (λ (z : Z). f (first ks) z) b))

-- one more entry, made of that of another table
pub mapped_more : {X Y : Type 0} (d w : X) (o : Y) (arity rows i : ℕ) (before : List Kind → X)
    (f : X → Y) (all : List X) (xs ys : List Y) (y : Y) → i < length all
    → y ≡ f (get_or all i w) → ys ≡ xs ++ y ∷ []
    → IsFilled d arity rows before all → IsFilled o arity i (λ ks. f (before ks)) xs
    → IsFilled o arity (i + 1) (λ ks. f (before ks)) ys
mapped_more d w o arity rows i before f all xs ys y lt y_is is h inv =
    zipped_more d w d o arity rows i before before (λ x z. f x) all all xs ys y lt (λ ks e. y_is) is
    h h inv

-- a table has a combination of its kinds
pub below_arity : (ks : List Kind) (arity : ℕ) → length ks ≡ arity → kinds_number ks < 3 ^ arity
below_arity ks arity e =
    let h = below_power ks in let p = ap (λ (n : ℕ). 3 ^ n) e in omega (arith, h, p)

-- ---- parameters

abbrev shifted : Option ℕ → Bool → Option ℕ
shifted (Some i) b = Some (suc i)
shifted None true = Some 0
shifted None false = None

abbrev kind_at_parameter : List Kind → Option ℕ → Kind → Kind
kind_at_parameter ks None k = k
kind_at_parameter ks (Some i) k = get_or ks i OfAny

parameter_before : (ps : List (List ℕ)) (p x : List ℕ)
    → parameter_of (ps ++ p ∷ []) x ≡ shifted (parameter_of ps x) (bytes_eq p x)
parameter_before [] p x = at_test (bytes_eq p x)
  where
    at_test : (b : Bool) → (if b then Some 0 else None) ≡ shifted None b
    at_test true = refl
    at_test false = refl
parameter_before (q ∷ ps) p x = at_test (bytes_eq q x) (parameter_before ps p x)
  where
    long : length (ps ++ p ∷ []) ≡ suc (length ps)
    long = let l = length-append ps (p ∷ []) in omega (arith, l)

    at_test : (b : Bool)
        → parameter_of (ps ++ p ∷ []) x ≡ shifted (parameter_of ps x) (bytes_eq p x)
        → (if b then Some (length (ps ++ p ∷ [])) else parameter_of (ps ++ p ∷ []) x)
        ≡ shifted (if b then Some (length ps) else parameter_of ps x) (bytes_eq p x)
    at_test true h = ap (λ (n : ℕ). Some n) long
    at_test false h = h

parameter_within : (ps : List (List ℕ)) (x : List ℕ) (i : ℕ) → Some i ≡ parameter_of ps x
    → i < length ps
parameter_within [] x i e = absurd (let f : Some i ≡ None = e in cc)
parameter_within (p ∷ ps) x i e = at_test (bytes_eq p x) (parameter_within ps x i) e
  where
    at_test : (b : Bool) → (Some i ≡ parameter_of ps x → i < length ps)
        → Some i ≡ (if b then Some (length ps) else parameter_of ps x) → i < suc (length ps)
    at_test true below h =
        let same : i ≡ length ps = let f : Some i ≡ Some (length ps) = h in cc in
        omega (arith, same)
    at_test false below h = let lt = below h in omega (arith, lt)

pub parameter_below : (ps : List (List ℕ)) (x : List ℕ) (i : ℕ)
    → Some i ≡ parameter_of (reverse ps) x → i < length ps
parameter_below ps x i e =
    let lt = parameter_within (reverse ps) x i e in
    let l = length-reverse ps in omega (arith, lt, l)

-- A parameter has the kind of its argument, and hides any other name.
found_kind : (ps : List (List ℕ)) (ks : List Kind) (names : List Naming) (x : List ℕ)
    → length ks ≡ length ps
    → kind_found (found (with_parameters ps ks names) x)
    ≡ kind_at_parameter ks (parameter_of (reverse ps) x) (kind_found (found names x))
found_kind [] ks names x e = refl
found_kind (p ∷ ps) [] names x e = absurd (omega (arith, e))
found_kind (p ∷ ps) (k ∷ ks) names x e =
    let n : Naming = record { name = p; kind = k; binder = binders.Bound (record { item = 0; position = 0 }) } in
    found_kind ps ks (n ∷ names) x (omega (arith, e))
    ∙ (at_parameter (parameter_of (reverse ps) x) (bytes_eq p x)
    ∙ sym (ap (λ (o : Option ℕ). kind_at_parameter (k ∷ ks) o (kind_found (found names x)))
    (ap (λ (l : List (List ℕ)). parameter_of l x) (reverse-append (p ∷ []) ps)
    ∙ parameter_before (reverse ps) p x)))
  where
    at_parameter : (o : Option ℕ) (b : Bool)
        → kind_at_parameter ks o (kind_found (if b then Some (record {
          slot = length names;
          kind = k;
          binder = binders.Bound (record { item = 0; position = 0 });
        })
        else found names x))
        ≡ kind_at_parameter (k ∷ ks) (shifted o b) (kind_found (found names x))
    at_parameter (Some i) b = refl
    at_parameter None true = refl
    at_parameter None false = refl

pub parameter_kind : (ps : List (List ℕ)) (ks : List Kind) (names : List Naming) (x : List ℕ)
    (i : ℕ) → length ks ≡ length ps → Some i ≡ parameter_of (reverse ps) x
    → get_or ks i OfAny ≡ kind_found (found (with_parameters ps ks names) x)
parameter_kind ps ks names x i e is =
    sym (found_kind ps ks names x e
    ∙ ap (λ (o : Option ℕ). kind_at_parameter ks o (kind_found (found names x))) (sym is))

pub other_kind : (ps : List (List ℕ)) (ks : List Kind) (names : List Naming) (x : List ℕ)
    → length ks ≡ length ps → None ≡ parameter_of (reverse ps) x
    → kind_found (found names x) ≡ kind_found (found (with_parameters ps ks names) x)
other_kind ps ks names x e is =
    sym (found_kind ps ks names x e
    ∙ ap (λ (o : Option ℕ). kind_at_parameter ks o (kind_found (found names x))) (sym is))

-- ---- arguments

abbrev pub terms_in : List Expression → Terms
terms_in xs = gathered (map values.term_of xs)

long_kinds : (ss : List Sense) (names : List Naming) (ps : List (List ℕ)) (ks : List Kind)
    (xs : List Expression) → length (kinds_of_body ss names ps ks (terms_in xs)) ≡ length xs
long_kinds ss names ps ks [] = refl
long_kinds ss names ps ks (x ∷ xs) = ap suc (long_kinds ss names ps ks xs)

number_last : (ks : List Kind) (k : Kind)
    → kinds_number (ks ++ k ∷ []) ≡ kinds_number ks + digit k * 3 ^ length ks
number_last [] k = omega arith
number_last (l ∷ ks) k =
    let h = number_last ks k in
    let e = pow-succ' 3 (length ks) in
    let m : digit k * (3 * 3 ^ length ks) ≡ 3 * (digit k * 3 ^ length ks) = sym (mul_assoc (digit k) 3 (3 ^ length ks)) ∙ (ap (λ (n : ℕ). n * 3 ^ length ks) (mul_comm (digit k) 3) ∙ mul_assoc 3 (digit k) (3 ^ length ks)) in
    let w : digit k * 3 ^ suc (length ks) ≡ digit k * (3 * 3 ^ length ks) = ap (λ (n : ℕ). digit k * n) e in
    omega (arith, h, m, w)

kinds_last : (ss : List Sense) (names : List Naming) (ps : List (List ℕ)) (ks : List Kind)
    (xs : List Expression) (e : Expression)
    → kinds_of_body ss names ps ks (terms_in (xs ++ e ∷ []))
    ≡ kinds_of_body ss names ps ks (terms_in xs)
    ++ kind_of_body ss names ps ks (values.term_of e) ∷ []
kinds_last ss names ps ks [] e = refl
kinds_last ss names ps ks (x ∷ xs) e =
    ap (λ (l : List Kind). kind_of_body ss names ps ks (values.term_of x) ∷ l)
    (kinds_last ss names ps ks xs e)

clash_last : (ss : List Sense) (names : List Naming) (ps : List (List ℕ)) (ks : List Kind)
    (xs : List Expression) (e : Expression)
    → clash_among ss names ps ks (terms_in (xs ++ e ∷ []))
    ≡ (clash_among ss names ps ks (terms_in xs) || clashes_in ss names ps ks (values.term_of e))
clash_last ss names ps ks [] e = at_bool (clashes_in ss names ps ks (values.term_of e))
  where
    at_bool : (b : Bool) → (b || false) ≡ (false || b)
    at_bool true = refl
    at_bool false = refl
clash_last ss names ps ks (x ∷ xs) e =
    ap (λ (b : Bool). clashes_in ss names ps ks (values.term_of x) || b)
    (clash_last ss names ps ks xs e) ∙ at_bool (clashes_in ss names ps ks (values.term_of x))
  where
    at_bool : (b : Bool)
        → (b
        || (clash_among ss names ps ks (terms_in xs)
        || clashes_in ss names ps ks (values.term_of e))) ≡ (b
        || clash_among ss names ps ks (terms_in xs)
        || clashes_in ss names ps ks (values.term_of e))
    at_bool true = refl
    at_bool false = refl

-- one more argument
pub gathered_more : (ss : List Sense) (names : List Naming) (ps : List (List ℕ))
    (xs : List Expression) (i : ℕ) (e : Expression) (ks : List Kind) → length xs ≡ i
    → with_one i (gathered_in ss names ps (terms_in xs) ks)
    (signature_in ss names ps (values.term_of e) ks)
    ≡ gathered_in ss names ps (terms_in (xs ++ e ∷ [])) ks
gathered_more ss names ps xs i e ks long =
    let count : length (kinds_of_body ss names ps ks (terms_in xs)) ≡ i = long_kinds ss names ps ks xs ∙ long in
    let number : kinds_number (kinds_of_body ss names ps ks (terms_in (xs ++ e ∷ []))) ≡ kinds_number (kinds_of_body ss names ps ks (terms_in xs)) + digit (kind_of_body ss names ps ks (values.term_of e)) * 3 ^ i =
    ap kinds_number (kinds_last ss names ps ks xs e)
    ∙ (number_last (kinds_of_body ss names ps ks (terms_in xs))
    (kind_of_body ss names ps ks (values.term_of e))
    ∙ ap
    (λ (n : ℕ). kinds_number (kinds_of_body ss names ps ks (terms_in xs))
    + digit (kind_of_body ss names ps ks (values.term_of e)) * 3 ^ n) count) in
    let g : (n : ℕ) (b : Bool) → Gathered = λ n b. record { combination = n; clashes = b } in
    sym (ap (λ (n : ℕ). g n (clash_among ss names ps ks (terms_in (xs ++ e ∷ [])))) number
    ∙ ap
    (λ (b : Bool). g
    (kinds_number (kinds_of_body ss names ps ks (terms_in xs))
    + digit (kind_of_body ss names ps ks (values.term_of e)) * 3 ^ i) b)
    (clash_last ss names ps ks xs e))

pub gathered_small : (ss : List Sense) (names : List Naming) (ps : List (List ℕ))
    (xs : List Expression) (ks : List Kind) → length xs ≤ 8
    → (gathered_in ss names ps (terms_in xs) ks).combination < 6561
gathered_small ss names ps xs ks le =
    let l = long_kinds ss names ps ks xs in
    below_table (kinds_of_body ss names ps ks (terms_in xs)) (omega (arith, l, le))

-- what an application makes, by what its name stands for
pub applied_signature : (ss : List Sense) (names : List Naming) (ps : List (List ℕ)) (x : List ℕ)
    (xs : List Expression) (f : Function) (s : Sense) (ks : List Kind) → HasSense f s
    → sense_seen ss names ps (length xs) x ≡ Some s → length xs ≡ s.arity
    → of_applied f (gathered_in ss names ps (terms_in xs) ks)
    ≡ signature_in ss names ps (Apply x (terms_in xs)) ks
applied_signature ss names ps x xs f s ks kept seen long =
    let ts = terms_in xs in
    let kinds = kinds_of_body ss names ps ks ts in
    let b = clash_among ss names ps ks ts in
    let is : sense_seen ss names ps (count_of ts) x ≡ Some s = ap (λ (m : ℕ). sense_seen ss names ps m x) (count_arguments xs) ∙ seen in
    let g : Signature → Signature = λ z. record { kind = z.kind; clashes = b || z.clashes } in
    let h : Option Sense → Signature = λ q. record { kind = kind_of_sense q kinds; clashes = clash_of_sense q b kinds } in
    ap g (kept.kinds kinds (long_kinds ss names ps ks xs ∙ long)) ∙ sym (ap h is)

pub refused_signature : (ss : List Sense) (names : List Naming) (ps : List (List ℕ)) (x : List ℕ)
    (xs : List Expression) (ks : List Kind) → sense_seen ss names ps (length xs) x ≡ None
    → plain OfAny ≡ signature_in ss names ps (Apply x (terms_in xs)) ks
refused_signature ss names ps x xs ks seen =
    let ts = terms_in xs in
    let is : sense_seen ss names ps (count_of ts) x ≡ None = ap (λ (m : ℕ). sense_seen ss names ps m x) (count_arguments xs) ∙ seen in
    let h : Option Sense → Signature = λ q. record { kind = kind_of_sense q (kinds_of_body ss names ps ks ts); clashes = clash_of_sense q (clash_among ss names ps ks ts) (kinds_of_body ss names ps ks ts) } in
    sym (ap h is)
