-- Names that are bound alike: expressions mean the same under both.
use Rattle.std.proofs.Common.{◌≡◌, ℕ, suc, List, [], ◌∷◌, length, nat_eq, bytes_eq, Bool, true, false, refl, ap, subst}
use Rattle.text_values.specs.ModelValue.{Term, Terms, Atom, AllEvents, EmptyRelation, EmptySet, Join, Mark, Not, On, Apply, NoTerm, OneMore}
use Rattle.meaning.specs.Sets.{Set}
use Rattle.meaning.specs.Names.{Name}
use Rattle.meaning.specs.Cat.{Meaning, Nothing, Bound, ToMeaning, ToFunction, ToNothing, Names, choice_of, bound_of, of_name, of_application, meaning_of, meanings_of, with_arguments}
use Rattle.meaning_laws.specs.Inside.{IsAlike}
use Rattle.meaning_laws.proofs.Inside.{infix_alike, postfix_inside, identity_inside, complement_inside}

-- one by one
abbrev pub AllAlike : {E : Type 0} → List (Meaning E) → List (Meaning E) → Type 0
AllAlike [] [] = Unit {0}
AllAlike (m ∷ ms) (k ∷ ks) = IsAlike m k × AllAlike ms ks
AllAlike _ _ = ⊥

pub data AlikeBound {E : Type 0} : Bound E → Bound E → Type 1 where
  meanings : (m k : Meaning E) → IsAlike m k → AlikeBound (ToMeaning m) (ToMeaning k)
  functions : (n : ℕ) (r q : List (Meaning E) → Meaning E)
      → ((ms ks : List (Meaning E)) → AllAlike ms ks → IsAlike (r ms) (q ks))
      → AlikeBound (ToFunction n r) (ToFunction n q)
  nothing : AlikeBound ToNothing ToNothing

pub data AlikeNames {E : Type 0} : Names E → Names E → Type 1 where
  none : AlikeNames [] []
  more : (n : Name) (b c : Bound E) (N K : Names E) → AlikeBound b c → AlikeNames N K
      → AlikeNames ((n, b) ∷ N) ((n, c) ∷ K)

choice_alike : {E : Type 0} (t : Bool) (b c d e : Bound E) → AlikeBound b c → AlikeBound d e
    → AlikeBound (choice_of t b d) (choice_of t c e)
choice_alike true b c d e first second = first
choice_alike false b c d e first second = second

pub alike_bound : {E : Type 0} (N K : Names E) → AlikeNames N K → (n : Name)
    → AlikeBound (bound_of N n) (bound_of K n)
alike_bound N K none n = nothing
alike_bound N K (more q b c M L first rest) n =
    choice_alike (bytes_eq q n) b c (bound_of M n) (bound_of L n) first (alike_bound M L rest n)

name_alike : {E : Type 0} (b c : Bound E) → AlikeBound b c → IsAlike (of_name b) (of_name c)
name_alike b c (meanings m k h) = h
name_alike b c (functions n r q h) = (tt, tt)
name_alike b c nothing = (tt, tt)

pub alike_length : {E : Type 0} (ms ks : List (Meaning E)) → AllAlike ms ks → length ms ≡ length ks
alike_length [] [] h = refl
alike_length [] (k ∷ ks) h = absurd h
alike_length (m ∷ ms) [] h = absurd h
alike_length (m ∷ ms) (k ∷ ks) h = ap suc (alike_length ms ks h.1)

chosen_alike : {E : Type 0} (t u : Bool) (m k : Meaning E) → t ≡ u → IsAlike m k
    → IsAlike (choice_of t m Nothing) (choice_of u k Nothing)
chosen_alike t u m k same h =
    subst (λ (v : Bool). IsAlike (choice_of t m Nothing) (choice_of v k Nothing)) same (one t)
  where
    one : (v : Bool) → IsAlike (choice_of v m Nothing) (choice_of v k Nothing)
    one true = h
    one false = (tt, tt)

pub application_alike : {E : Type 0} (b c : Bound E) (ms ks : List (Meaning E)) → AlikeBound b c
    → AllAlike ms ks → IsAlike (of_application b ms) (of_application c ks)
application_alike b c ms ks (meanings m k h) all = (tt, tt)
application_alike b c ms ks (functions n r q h) all =
    chosen_alike (nat_eq n (length ms)) (nat_eq n (length ks)) (r ms) (q ks)
    (ap (λ (l : ℕ). nat_eq n l) (alike_length ms ks all)) (h ms ks all)
application_alike b c ms ks nothing all = (tt, tt)

mutual
  pub alike_meaning : {E : Type 0} (all : Set E) (N K : Names E) → AlikeNames N K → (t : Term)
      → IsAlike (meaning_of all N t) (meaning_of all K t)
  alike_meaning all N K alike (Atom n) =
      name_alike (bound_of N n) (bound_of K n) (alike_bound N K alike n)
  alike_meaning all N K alike AllEvents = (λ a h. h, λ a h. h)
  alike_meaning all N K alike EmptyRelation = (λ a b h. h, λ a b h. h)
  alike_meaning all N K alike EmptySet = (λ a h. h, λ a h. h)
  alike_meaning all N K alike (Join op a b) =
      infix_alike op (meaning_of all N a) (meaning_of all K a) (meaning_of all N b)
      (meaning_of all K b) (alike_meaning all N K alike a) (alike_meaning all N K alike b)
  alike_meaning all N K alike (Mark op a) =
      let h : IsAlike (meaning_of all N a) (meaning_of all K a) = alike_meaning all N K alike a in (
        postfix_inside all op (meaning_of all N a) (meaning_of all K a) h.0,
        postfix_inside all op (meaning_of all K a) (meaning_of all N a) h.1,
      )
  alike_meaning all N K alike (Not a) =
      let h : IsAlike (meaning_of all N a) (meaning_of all K a) = alike_meaning all N K alike a in (
        complement_inside all (meaning_of all K a) (meaning_of all N a) h.1,
        complement_inside all (meaning_of all N a) (meaning_of all K a) h.0,
      )
  alike_meaning all N K alike (On a) =
      let h : IsAlike (meaning_of all N a) (meaning_of all K a) = alike_meaning all N K alike a in (
        identity_inside (meaning_of all N a) (meaning_of all K a) h.0,
        identity_inside (meaning_of all K a) (meaning_of all N a) h.1,
      )
  alike_meaning all N K alike (Apply n ts) =
      application_alike (bound_of N n) (bound_of K n) (meanings_of all N ts)
      (meanings_of all K ts) (alike_bound N K alike n) (alike_meanings all N K alike ts)

  pub alike_meanings : {E : Type 0} (all : Set E) (N K : Names E) → AlikeNames N K → (ts : Terms)
      → AllAlike (meanings_of all N ts) (meanings_of all K ts)
  alike_meanings all N K alike NoTerm = tt
  alike_meanings all N K alike (OneMore a ts) =
      (alike_meaning all N K alike a, alike_meanings all N K alike ts)

pub alike_arguments : {E : Type 0} (ps : List Name) (ms ks : List (Meaning E)) (N K : Names E) → AllAlike ms ks
    → AlikeNames N K → AlikeNames (with_arguments ps ms N) (with_arguments ps ks K)
alike_arguments [] ms ks N K all alike = alike
alike_arguments (p ∷ ps) [] [] N K all alike = alike
alike_arguments (p ∷ ps) [] (k ∷ ks) N K all alike = absurd all
alike_arguments (p ∷ ps) (m ∷ ms) [] N K all alike = absurd all
alike_arguments (p ∷ ps) (m ∷ ms) (k ∷ ks) N K all alike =
    alike_arguments ps ms ks ((p, ToMeaning m) ∷ N) ((p, ToMeaning k) ∷ K) all.1
    (more p (ToMeaning m) (ToMeaning k) N K (meanings m k all.0) alike)
