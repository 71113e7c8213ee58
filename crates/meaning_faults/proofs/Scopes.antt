-- The names that an expression sees, as the program has them and as the definitions have them.
use Rattle.std.proofs.Common.{ℕ, zero, suc, ◌≡◌, ◌<◌, ◌≤◌, ◌⊎◌, inl, inr, List, [], ◌∷◌, ◌++◌, length, reverse, get_or, Bool, true, false, bytes_eq, Option, Some, None, Result, Ok, Err, refl, ap, sym, ◌∙◌, subst, arith}
use Rattle.std.specs.Prelude.{nat_le, nat_eq, if◌then◌else◌, slice_get}
use Rattle.std.specs.List.{list_any}
use Rattle.std.proofs.lemmas.Bool.{cases_Bool, leb-true, eqb-true}
use Rattle.std.proofs.lemmas.List.{reverse-append, length-append}
use Rattle.binding_kinds.specs.declared.fault.ModelFault as program
use Rattle.binding_kinds.specs.declared.kinds.Kind as code_kind
use Rattle.binding_kinds.specs.declared.kinds.Kind.TheVariants as kinds
use Rattle.binding_kinds.specs.declared.scope.Found.{Found}
use Rattle.binding_kinds.specs.declared.scope.Binder.{Binder}
use Rattle.binding_kinds.specs.declared.scope.Binder.TheVariants as binders
use Rattle.binding_kinds.specs.Value.{Naming}
use Rattle.binding_kinds.specs.Kinds.{found}
use Rattle.binding_kinds.specs.Combinations.{has_any}
use Rattle.binding_kinds.specs.Meanings.{parameter_of}
use Rattle.binding_kinds.specs.Formula.{HasParameters}
use Rattle.binding_kinds.specs.Senses.{Sense, size_with, with_arity, sense_of_binder, sense_of}
use Rattle.meaning.specs.Names.{Name}
use Rattle.meaning.specs.Faults.{OfAny, ModelFault, Unbound, Arity, Finding, KnownName, Known, AsValue, AsFunction, Scope, known_as, value_with, is_kind_fault, is_falling_parameter, in_use, in_wrong_application, is_body_fault, with_parameters}
use Rattle.meaning_faults.specs.Laws.{fault_of}
use Rattle.meaning_faults.proofs.Likeness.{kind_to, value_kinds, value_sizes}

-- What is found in the body of a function is what the program says of the function.
pub record IsSense (s : Sense) (n : ℕ) (body : List KnownName → Finding) : Type 0 where
  pub arity : s.arity ≡ n
  pub within : HasParameters n s.formula
  pub kind : (vs : List KnownName) → length vs ≡ n
      → s.kind_with (value_kinds vs)
      ≡ (if has_any (value_kinds vs) then kinds.OfAny else kind_to (body vs).kind)
  pub size : (vs : List KnownName) → length vs ≡ n
      → size_with s (value_sizes vs) ≡ (body vs).size
  pub clash : (vs : List KnownName) → length vs ≡ n
      → s.clashes (value_kinds vs) ≡ list_any is_kind_fault (body vs).faults
  pub under : (i : ℕ) → i < n → s.is_under i ≡ is_falling_parameter body i

-- a set or a relation of this kind, which is recursive or not
pub record IsValueAs (k : code_kind.Kind) (r : Bool) (v : KnownName) : Type 0 where
  pub kind : k ≡ kind_to v.kind
  pub size : v.size ≡ 1
  pub recursive : v.recursive ≡ r

-- a function that the program knows by this number
pub record IsFunctionAs (ss : List Sense) (k : code_kind.Kind) (f : ℕ) (n : ℕ)
    (body : List KnownName → Finding) : Type 0 where
  pub kind : k ≡ kinds.OfAny
  pub sense : Sense
  pub there : slice_get ss f ≡ Some sense
  pub same : IsSense sense n body

abbrev pub IsKnownAs : List Sense → code_kind.Kind → Bool → Binder → Known → Type 0
IsKnownAs ss k recursive (binders.Predefined p) (AsValue v) = IsValueAs k recursive v
IsKnownAs ss k recursive (binders.Predefined p) (AsFunction n body) = ⊥
IsKnownAs ss k recursive (binders.Bound i) (AsValue v) = IsValueAs k recursive v
IsKnownAs ss k recursive (binders.Bound i) (AsFunction n body) = ⊥
IsKnownAs ss k recursive (binders.Applicable f) (AsValue v) = ⊥
IsKnownAs ss k recursive (binders.Applicable f) (AsFunction n body) = IsFunctionAs ss k f n body

-- A name is the same to both. It is recursive where its slot is not below `from`.
abbrev pub IsFoundAs : List Sense → ℕ → Option Found → Option Known → Type 0
IsFoundAs ss from None None = Unit {0}
IsFoundAs ss from None (Some k) = ⊥
IsFoundAs ss from (Some f) None = ⊥
IsFoundAs ss from (Some f) (Some k) = IsKnownAs ss f.kind (nat_le from f.slot) f.binder k

-- All names are the same to both.
abbrev pub AreTied : List Sense → ℕ → List Naming → Scope → Type 0
AreTied ss from [] [] = Unit {0}
AreTied ss from [] (b ∷ bs) = ⊥
AreTied ss from (n ∷ ns) [] = ⊥
AreTied ss from (n ∷ ns) (b ∷ bs) =
    (n.name ≡ b.0) × IsKnownAs ss n.kind (nat_le from (length ns)) n.binder b.1
    × AreTied ss from ns bs

pub found_tied : (ss : List Sense) (from : ℕ) (names : List Naming) (S : Scope) (x : Name)
    → AreTied ss from names S → IsFoundAs ss from (found names x) (known_as S x)
found_tied ss from [] [] x h = tt
found_tied ss from [] (b ∷ bs) x h = absurd h
found_tied ss from (n ∷ ns) [] x h = absurd h
found_tied ss from (n ∷ ns) (b ∷ bs) x h =
    rw h.0 (at_test (bytes_eq b.0 x) h.1 (found_tied ss from ns bs x h.2))
  where
    at_test : (c : Bool) → IsKnownAs ss n.kind (nat_le from (length ns)) n.binder b.1
        → IsFoundAs ss from (found ns x) (known_as bs x)
        → IsFoundAs ss from
        (if c then Some (record { slot = length ns; kind = n.kind; binder = n.binder })
        else found ns x) (if c then Some b.1 else known_as bs x)
    at_test true here there = here
    at_test false here there = there

-- ---- what is not recursive

abbrev pub IsPlain : Option Known → Type 0
IsPlain None = Unit {0}
IsPlain (Some (AsValue v)) = v.recursive ≡ false
IsPlain (Some (AsFunction n body)) = Unit {0}

pub not_before : (from slot : ℕ) → slot < from → nat_le from slot ≡ false
not_before from slot lt = elim (cases_Bool (nat_le from slot)) [
  | inl is ↦ let le : from ≤ slot = leb-true from slot is in absurd (omega (arith, le, lt))
  | inr not ↦ not
]

plain_known : (ss : List Sense) (k : code_kind.Kind) (r : Bool) (b : Binder) (known : Known)
    → r ≡ false → IsKnownAs ss k r b known → IsPlain (Some known)
plain_known ss k r (binders.Predefined p) (AsValue v) e h = h.recursive ∙ e
plain_known ss k r (binders.Predefined p) (AsFunction n body) e h = absurd h
plain_known ss k r (binders.Bound i) (AsValue v) e h = h.recursive ∙ e
plain_known ss k r (binders.Bound i) (AsFunction n body) e h = absurd h
plain_known ss k r (binders.Applicable f) (AsValue v) e h = absurd h
plain_known ss k r (binders.Applicable f) (AsFunction n body) e h = tt

pub plain_tied : (ss : List Sense) (from : ℕ) (names : List Naming) (S : Scope) (x : Name)
    → AreTied ss from names S → length names ≤ from → IsPlain (known_as S x)
plain_tied ss from [] [] x h le = tt
plain_tied ss from [] (b ∷ bs) x h le = absurd h
plain_tied ss from (n ∷ ns) [] x h le = absurd h
plain_tied ss from (n ∷ ns) (b ∷ bs) x h le =
    at_test (bytes_eq b.0 x)
    (plain_known ss n.kind (nat_le from (length ns)) n.binder b.1
    (not_before from (length ns) (omega (arith, le))) h.1)
    (plain_tied ss from ns bs x h.2 (omega (arith, le)))
  where
    at_test : (c : Bool) → IsPlain (Some b.1) → IsPlain (known_as bs x)
        → IsPlain (if c then Some b.1 else known_as bs x)
    at_test true here there = here
    at_test false here there = there

recursive_again : (ss : List Sense) (k : code_kind.Kind) (r q : Bool) (b : Binder) (known : Known)
    → r ≡ q → IsKnownAs ss k r b known → IsKnownAs ss k q b known
recursive_again ss k r q b known e h = subst (λ (c : Bool). IsKnownAs ss k c b known) e h

-- the same names, where none of them is recursive
pub tied_again : (ss : List Sense) (from next : ℕ) (names : List Naming) (S : Scope)
    → AreTied ss from names S → length names ≤ from → length names ≤ next
    → AreTied ss next names S
tied_again ss from next [] [] h le less = tt
tied_again ss from next [] (b ∷ bs) h le less = absurd h
tied_again ss from next (n ∷ ns) [] h le less = absurd h
tied_again ss from next (n ∷ ns) (b ∷ bs) h le less = (
  h.0,
  recursive_again ss n.kind (nat_le from (length ns)) (nat_le next (length ns)) n.binder b.1
      (not_before from (length ns) (omega (arith, le))
      ∙ sym (not_before next (length ns) (omega (arith, less)))) h.1,
  tied_again ss from next ns bs h.2 (omega (arith, le)) (omega (arith, less)),
)

-- ---- one more function

more_senses : (ss : List Sense) (s : Sense) (f : ℕ) (t : Sense) → slice_get ss f ≡ Some t
    → slice_get (ss ++ s ∷ []) f ≡ Some t
more_senses [] s f t e = absurd (let d : None ≡ Some t = e in cc)
more_senses (r ∷ ss) s zero t e = e
more_senses (r ∷ ss) s (suc f) t e = more_senses ss s f t e

pub last_sense : (ss : List Sense) (s : Sense) → slice_get (ss ++ s ∷ []) (length ss) ≡ Some s
last_sense [] s = refl
last_sense (r ∷ ss) s = last_sense ss s

known_more : (ss : List Sense) (s : Sense) (k : code_kind.Kind) (r : Bool) (b : Binder)
    (known : Known) → IsKnownAs ss k r b known → IsKnownAs (ss ++ s ∷ []) k r b known
known_more ss s k r (binders.Predefined p) (AsValue v) h = h
known_more ss s k r (binders.Predefined p) (AsFunction n body) h = absurd h
known_more ss s k r (binders.Bound i) (AsValue v) h = h
known_more ss s k r (binders.Bound i) (AsFunction n body) h = absurd h
known_more ss s k r (binders.Applicable f) (AsValue v) h = absurd h
known_more ss s k r (binders.Applicable f) (AsFunction n body) h = record {
  kind = h.kind;
  sense = h.sense;
  there = more_senses ss s f h.sense h.there;
  same = h.same;
}

pub tied_more : (ss : List Sense) (s : Sense) (from : ℕ) (names : List Naming) (S : Scope)
    → AreTied ss from names S → AreTied (ss ++ s ∷ []) from names S
tied_more ss s from [] [] h = tt
tied_more ss s from [] (b ∷ bs) h = absurd h
tied_more ss s from (n ∷ ns) [] h = absurd h
tied_more ss s from (n ∷ ns) (b ∷ bs) h = (
  h.0,
  known_more ss s n.kind (nat_le from (length ns)) n.binder b.1 h.1,
  tied_more ss s from ns bs h.2,
)

-- ---- parameters

abbrev shifted : Option ℕ → Bool → Option ℕ
shifted (Some i) b = Some (suc i)
shifted None true = Some 0
shifted None false = None

parameter_before : (ps : List Name) (p x : Name)
    → parameter_of (ps ++ p ∷ []) x ≡ shifted (parameter_of ps x) (bytes_eq p x)
parameter_before [] p x = at_test (bytes_eq p x)
  where
    at_test : (b : Bool) → (if b then Some 0 else None) ≡ shifted None b
    at_test true = refl
    at_test false = refl
parameter_before (q ∷ ps) p x = at_test (bytes_eq q x) (parameter_before ps p x)
  where
    long : length (ps ++ p ∷ []) ≡ suc (length ps)
    long = let l = length-append ps (p ∷ []) in omega (arith, l)

    at_test : (b : Bool)
        → parameter_of (ps ++ p ∷ []) x ≡ shifted (parameter_of ps x) (bytes_eq p x)
        → (if b then Some (length (ps ++ p ∷ [])) else parameter_of (ps ++ p ∷ []) x)
        ≡ shifted (if b then Some (length ps) else parameter_of ps x) (bytes_eq p x)
    at_test true h = ap (λ (n : ℕ). Some n) long
    at_test false h = h

-- an argument that is not there
abbrev pub plain_value : KnownName
plain_value = value_with OfAny 1 false

-- a name of a body, which is a parameter or another
abbrev pub known_inside : List KnownName → Option ℕ → Option Known → Option Known
known_inside vs None o = o
known_inside vs (Some i) o = Some (AsValue (get_or vs i plain_value))

pub known_parameter : (ps : List Name) (vs : List KnownName) (S : Scope) (x : Name)
    → known_as (with_parameters ps vs S) x
    ≡ known_inside vs (parameter_of (reverse ps) x) (known_as S x)
known_parameter [] vs S x = refl
known_parameter (p ∷ ps) [] S x =
    known_parameter ps [] ((p, AsValue plain_value) ∷ S) x
    ∙ (at_parameter (parameter_of (reverse ps) x) (bytes_eq p x)
    ∙ sym (ap (λ (o : Option ℕ). known_inside [] o (known_as S x))
    (ap (λ (l : List Name). parameter_of l x) (reverse-append (p ∷ []) ps)
    ∙ parameter_before (reverse ps) p x)))
  where
    at_parameter : (o : Option ℕ) (b : Bool)
        → known_inside [] o (if b then Some (AsValue plain_value) else known_as S x)
        ≡ known_inside [] (shifted o b) (known_as S x)
    at_parameter (Some i) b = refl
    at_parameter None true = refl
    at_parameter None false = refl
known_parameter (p ∷ ps) (v ∷ vs) S x =
    known_parameter ps vs ((p, AsValue v) ∷ S) x
    ∙ (at_parameter (parameter_of (reverse ps) x) (bytes_eq p x)
    ∙ sym (ap (λ (o : Option ℕ). known_inside (v ∷ vs) o (known_as S x))
    (ap (λ (l : List Name). parameter_of l x) (reverse-append (p ∷ []) ps)
    ∙ parameter_before (reverse ps) p x)))
  where
    at_parameter : (o : Option ℕ) (b : Bool)
        → known_inside vs o (if b then Some (AsValue v) else known_as S x)
        ≡ known_inside (v ∷ vs) (shifted o b) (known_as S x)
    at_parameter (Some i) b = refl
    at_parameter None true = refl
    at_parameter None false = refl

-- ---- names with arguments

-- It is no function of so many arguments, to both.
pub record IsWrongUse (r : Result Sense program.ModelFault) (o : Option Known) (count : ℕ)
    : Type 0 where
  pub fault : ModelFault
  pub answer : r ≡ Err (fault_of fault)
  pub of_body : is_body_fault fault ≡ true
  pub wrong : (inside : Bool) (arguments : (ℕ → Bool) → List Finding)
      → length (arguments (λ i. false)) ≡ count
      → in_use inside o arguments ≡ in_wrong_application fault arguments

-- It is a function of so many arguments, to both.
pub record IsRightUse (r : Result Sense program.ModelFault) (o : Option Known) (count : ℕ)
    : Type 0 where
  pub sense : Sense
  pub body : List KnownName → Finding
  pub answer : r ≡ Ok sense
  pub known : o ≡ Some (AsFunction count body)
  pub same : IsSense sense count body

at_function : (ss : List Sense) (count : ℕ) (k : code_kind.Kind) (f n : ℕ)
    (body : List KnownName → Finding) → IsFunctionAs ss k f n body
    → IsWrongUse (with_arity count (slice_get ss f)) (Some (AsFunction n body)) count
    ⊎ IsRightUse (with_arity count (slice_get ss f)) (Some (AsFunction n body)) count
at_function ss count k f n body h = rw h.there (at_test (nat_eq n count) refl)
  where
    at_test : (b : Bool) → nat_eq n count ≡ b
        → IsWrongUse (with_arity count (Some h.sense)) (Some (AsFunction n body)) count
        ⊎ IsRightUse (with_arity count (Some h.sense)) (Some (AsFunction n body)) count
    at_test true e =
        let same : n ≡ count = eqb-true n count e in
        inr record {
          sense = h.sense;
          body = body;
          answer = rw (h.same.arity, e) refl;
          known = rw same refl;
          same = subst (λ (m : ℕ). IsSense h.sense m body) same h.same;
        }
    at_test false e =
        inl record {
          fault = Arity;
          answer = rw (h.same.arity, e) refl;
          of_body = refl;
          wrong = λ inside arguments long. rw (long, e) refl;
        }

pub use_of : (ss : List Sense) (from count : ℕ) (o : Option Found) (k : Option Known)
    → IsFoundAs ss from o k
    → IsWrongUse (sense_of ss count o) k count ⊎ IsRightUse (sense_of ss count o) k count
use_of ss from count None None h =
    inl record {
      fault = Unbound;
      answer = refl;
      of_body = refl;
      wrong = λ inside arguments long. refl;
    }
use_of ss from count None (Some k) h = absurd h
use_of ss from count (Some f) None h = absurd h
use_of ss from count (Some f) (Some k) h = at_binder f.binder k h
  where
    at_binder : (b : Binder) (known : Known)
        → IsKnownAs ss f.kind (nat_le from f.slot) b known
        → IsWrongUse (sense_of_binder ss count b) (Some known) count
        ⊎ IsRightUse (sense_of_binder ss count b) (Some known) count
    at_binder (binders.Predefined p) (AsValue v) h =
        inl record {
          fault = Arity;
          answer = refl;
          of_body = refl;
          wrong = λ inside arguments long. refl;
        }
    at_binder (binders.Predefined p) (AsFunction n body) h = absurd h
    at_binder (binders.Bound i) (AsValue v) h =
        inl record {
          fault = Arity;
          answer = refl;
          of_body = refl;
          wrong = λ inside arguments long. refl;
        }
    at_binder (binders.Bound i) (AsFunction n body) h = absurd h
    at_binder (binders.Applicable g) (AsValue v) h = absurd h
    at_binder (binders.Applicable g) (AsFunction n body) h =
        at_function ss count f.kind g n body h
