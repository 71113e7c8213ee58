-- Lists of read choices.
use Rattle.std.proofs.Common.{ℕ, zero, suc, ◌≡◌, ◌<◌, ◌≤◌, ◌+◌, List, [], ◌∷◌, ◌++◌, length, get_or, take, drop, arith, sym, subst, refl, ap, ◌∙◌, append-nil, append_assoc, length-append, length-drop, drop-cons, Contains}
use Rattle.std.specs.List.{flat_map}
use Rattle.std.proofs.lemmas.List.{take_more, take-append-drop}
use Rattle.store_orders.specs.Lists.{tuples, IsFiltered, none, kept, left}
use Rattle.run_combinations.specs.ReadChoices.{Accesses, MayReadFrom, IsReadChoice, IsPossible, AreProperAccesses, nexts}
use Rattle.store_orders.proofs.Filters.{IsFiltered-append, IsFiltered-split, Split, IsFiltered-through, none_of_map, tuples_more, tuples-append}
use Rattle.run_combinations.proofs.Deriving.{longer, possible_is_read_choice, read_choice_is_possible, possible_front, possible_goes_on}

-- the possible read choices with one load more
pub read_choices_more : (g : Accesses) (p : ℕ) → p < length g.sources → (prefixes next : List (List ℕ))
    → IsFiltered (IsPossible g) (tuples [] (take p g.sources)) prefixes
    → IsFiltered (IsPossible g) (flat_map (nexts (get_or g.sources p [])) prefixes) next
    → IsFiltered (IsPossible g) (tuples [] (take (p + 1) g.sources)) next
read_choices_more g p lt prefixes next before step =
    subst (λ (l : List (List ℕ)). IsFiltered (IsPossible g) l next) (sym same)
    (IsFiltered-through (IsPossible g) (IsPossible g) (nexts (get_or g.sources p []))
    (λ f fails. none_of_map (IsPossible g) (λ x. f ++ x ∷ [])
    (λ x h. fails (possible_front g f x h)) (get_or g.sources p []))
    (tuples [] (take p g.sources)) prefixes next before step)
  where
    same : tuples [] (take (p + 1) g.sources)
        ≡ flat_map (nexts (get_or g.sources p [])) (tuples [] (take p g.sources))
    same =
        ap (λ (l : List (List ℕ)). tuples [] l) (take_more g.sources p [] lt)
        ∙ tuples_more (take p g.sources) (get_or g.sources p []) []

-- a fact of each member
abbrev pub Each : {X : Type 0} → (X → Type 0) → List X → Type 0
Each P [] = Unit {0}
Each P (x ∷ xs) = P x × Each P xs

Each-append : {X : Type 0} (P : X → Type 0) (xs ys : List X) → Each P xs → Each P ys
    → Each P (xs ++ ys)
Each-append P [] ys a b = b
Each-append P (x ∷ xs) ys a b = (a.0, Each-append P xs ys a.1 b)

pub Each-map : {X : Type 0} (P Q : X → Type 0) → ((x : X) → P x → Q x) → (xs : List X) → Each P xs
    → Each Q xs
Each-map P Q h [] a = tt
Each-map P Q h (x ∷ xs) a = (h x a.0, Each-map P Q h xs a.1)

pub Each-at : {X : Type 0} (P : X → Type 0) (xs : List X) (k : ℕ) (d : X) → k < length xs
    → Each P xs → P (get_or xs k d)
Each-at P [] k d lt a = absurd (omega (arith, lt))
Each-at P (x ∷ xs) zero d lt a = a.0
Each-at P (x ∷ xs) (suc k) d lt a = Each-at P xs k d (omega (arith, lt)) a.1

each_of : (P Q : List ℕ → Type 0) (f : ℕ → List (List ℕ))
    → ((x : ℕ) (ys : List (List ℕ)) → IsFiltered P (f x) ys → Each Q ys)
    → (d : List ℕ) (ys : List (List ℕ)) → IsFiltered P (flat_map f d) ys → Each Q ys
each_of P Q f every [] ys none = tt
each_of P Q f every (x ∷ d) ys h =
    let s : Split P (f x) (flat_map f d) ys = IsFiltered-split P (f x) (flat_map f d) ys h in
    subst (λ (l : List (List ℕ)). Each Q l) (sym s.whole) (Each-append Q s.first s.second
    (every x s.first s.of_first) (each_of P Q f every d s.second s.of_second))

-- what is kept of tuples has their length and the fact
pub all_fit : (P : List ℕ → Type 0) (cs : List (List ℕ)) (prefix : List ℕ) (ys : List (List ℕ))
    → IsFiltered P (tuples prefix cs) ys → Each (λ f. (length f ≡ length prefix + length cs) × P f) ys
all_fit P [] prefix ys (kept p none) = ((omega arith, p), tt)
all_fit P [] prefix ys (left p none) = tt
all_fit P (c ∷ cs) prefix ys h =
    each_of P (λ f. (length f ≡ length prefix + suc (length cs)) × P f)
    (λ x. tuples (prefix ++ x ∷ []) cs)
    (λ x us t. Each-map (λ f. (length f ≡ length (prefix ++ x ∷ []) + length cs) × P f)
    (λ f. (length f ≡ length prefix + suc (length cs)) × P f)
    (λ f a. (omega (arith, a.0, longer prefix x), a.1)) us
    (all_fit P cs (prefix ++ x ∷ []) us t))
    c ys h

-- one of each list of choices
abbrev AreChosen : List (List ℕ) → List ℕ → Type 0
AreChosen [] [] = Unit {0}
AreChosen [] (x ∷ xs) = ⊥
AreChosen (c ∷ cs) [] = ⊥
AreChosen (c ∷ cs) (x ∷ xs) = Contains c x × AreChosen cs xs

chosen_long : (cs : List (List ℕ)) (xs : List ℕ) → AreChosen cs xs → length xs ≡ length cs
chosen_long [] [] h = refl
chosen_long [] (x ∷ xs) h = absurd h
chosen_long (c ∷ cs) [] h = absurd h
chosen_long (c ∷ cs) (x ∷ xs) h = ap (λ (k : ℕ). suc k) (chosen_long cs xs h.1)

chosen_each : (cs : List (List ℕ)) (xs : List ℕ) → AreChosen cs xs → (i : ℕ) → i < length xs
    → Contains (get_or cs i []) (get_or xs i 0)
chosen_each [] [] h i lt = absurd (omega (arith, lt))
chosen_each [] (x ∷ xs) h i lt = absurd h
chosen_each (c ∷ cs) [] h i lt = absurd h
chosen_each (c ∷ cs) (x ∷ xs) h zero lt = h.0
chosen_each (c ∷ cs) (x ∷ xs) h (suc i) lt = chosen_each cs xs h.1 i (omega (arith, lt))

over_choices : (P Q : List ℕ → Type 0) (f : ℕ → List (List ℕ)) (d : List ℕ) (ys : List (List ℕ))
    → ((x : ℕ) → Contains d x → (us : List (List ℕ)) → IsFiltered P (f x) us
    → IsFiltered Q (f x) us) → IsFiltered P (flat_map f d) ys
    → IsFiltered Q (flat_map f d) ys
over_choices P Q f [] ys every none = none
over_choices P Q f (x ∷ d) ys every h =
    let s : Split P (f x) (flat_map f d) ys = IsFiltered-split P (f x) (flat_map f d) ys h in
    subst (λ (l : List (List ℕ)). IsFiltered Q (f x ++ flat_map f d) l) (sym s.whole)
    (IsFiltered-append Q (f x) s.first (flat_map f d) s.second
    (every x (0, omega arith, refl) s.first s.of_first)
    (over_choices P Q f d s.second
    (λ y there. every y (suc there.0, omega (arith, there.1), there.2)) s.of_second))

-- a fact that is the same of tuples
same_in_tuples : (P Q : List ℕ → Type 0) (cs : List (List ℕ)) (prefix : List ℕ) (ys : List (List ℕ))
    → ((rest reads_from : List ℕ) → AreChosen cs rest → reads_from ≡ prefix ++ rest
    → (P reads_from → Q reads_from) × ((P reads_from → ⊥) → Q reads_from → ⊥)) → IsFiltered P (tuples prefix cs) ys
    → IsFiltered Q (tuples prefix cs) ys
same_in_tuples P Q [] prefix ys same (kept p none) =
    kept ((same [] prefix tt (sym (append-nil prefix))).0 p) none
same_in_tuples P Q [] prefix ys same (left p none) =
    left ((same [] prefix tt (sym (append-nil prefix))).1 p) none
same_in_tuples P Q (c ∷ cs) prefix ys same h =
    over_choices P Q (λ x. tuples (prefix ++ x ∷ []) cs) c ys
    (λ x there us t. same_in_tuples P Q cs (prefix ++ x ∷ []) us
    (λ rest reads_from are is.
    same (x ∷ rest) reads_from (there, are) (is ∙ append_assoc prefix (x ∷ []) rest)) t)
    h

-- where each load has its store, the possible read choices are those without a cycle
pub read_choices_all : (n : ℕ) (g : Accesses) → AreProperAccesses n g → (read_choices : List (List ℕ))
    → IsFiltered (IsPossible g) (tuples [] g.sources) read_choices
    → IsFiltered (IsReadChoice g) (tuples [] g.sources) read_choices
read_choices_all n g p read_choices h = same_in_tuples (IsPossible g) (IsReadChoice g) g.sources [] read_choices same h
  where
    same : (rest reads_from : List ℕ) → AreChosen g.sources rest → reads_from ≡ rest
        → (IsPossible g reads_from → IsReadChoice g reads_from) × ((IsPossible g reads_from → ⊥) → IsReadChoice g reads_from → ⊥)
    same rest reads_from are is = (
      possible_is_read_choice n g reads_from p (omega (arith, long, p.paired)),
      (λ never acyclic.
          read_choice_is_possible n g reads_from p (omega (arith, long, p.paired)) allowed acyclic never),
    )
      where
        long : length reads_from ≡ length g.sources
        long = ap (λ (l : List ℕ). length l) is ∙ chosen_long g.sources rest are

        allowed : (i : ℕ) → i < length reads_from → MayReadFrom g i (get_or reads_from i 0)
        allowed i lt =
            subst (λ (l : List ℕ). MayReadFrom g i (get_or l i 0)) (sym is)
            (chosen_each g.sources rest are i (subst (λ (l : List ℕ). i < length l) is lt))

no_members : {X : Type 0} (us vs : List X) → (let e : List X = [] in e) ≡ us ++ vs
    → (us ≡ []) × (vs ≡ [])
no_members [] vs e = (refl, sym e)
no_members (u ∷ us) vs e = absurd cc

none_of_one : (P : List ℕ → Type 0) (f : ℕ → List (List ℕ)) (d : List ℕ) (s : ℕ) → (k : ℕ)
    → k < length d → get_or d k s ≡ s → IsFiltered P (flat_map f d) [] → IsFiltered P (f s) []
none_of_one P f [] s k lt is h = absurd (omega (arith, lt))
none_of_one P f (x ∷ d) s zero lt is h =
    let t : Split P (f x) (flat_map f d) [] = IsFiltered-split P (f x) (flat_map f d) [] h in
    subst (λ (y : ℕ). IsFiltered P (f y) []) is (subst (λ (l : List (List ℕ)). IsFiltered P (f x) l)
    (no_members t.first t.second t.whole).0 t.of_first)
none_of_one P f (x ∷ d) s (suc k) lt is h =
    let t : Split P (f x) (flat_map f d) [] = IsFiltered-split P (f x) (flat_map f d) [] h in
    none_of_one P f d s k (omega (arith, lt)) is (subst
    (λ (l : List (List ℕ)). IsFiltered P (flat_map f d) l)
    (no_members t.first t.second t.whole).1 t.of_second)

-- a possible read choice begins a read choice
possible_has_read_choice : (n : ℕ) (g : Accesses) → AreProperAccesses n g → (ds : List (List ℕ)) (h : List ℕ)
    → ds ≡ drop (length h) g.sources → IsPossible g h → IsFiltered (IsReadChoice g) (tuples h ds) [] → ⊥
possible_has_read_choice n g p [] h e possible (left never none) =
    let l : length (drop (length h) g.sources) ≡ 0 = ap (λ (u : List (List ℕ)). length u) (sym e) in
    never (possible_is_read_choice n g h p (omega (arith, l, length-drop (length h) g.sources, p.paired))
    possible)
possible_has_read_choice n g p (d ∷ ds) h e possible f =
    possible_goes_on n g h p (omega (arith, lt, p.paired)) possible
    (λ s source more. possible_has_read_choice n g p ds (h ++ s ∷ []) (tail s) more
    (let there = subst (λ (c : List ℕ). Contains c s) (sym head) source in
    none_of_one (IsReadChoice g) (λ x. tuples (h ++ x ∷ []) ds) d s there.0 there.1 there.2 f))
  where
    lt : length h < length g.sources
    lt =
        let l : suc (length ds) ≡ length (drop (length h) g.sources) =
        ap (λ (u : List (List ℕ)). length u) e in
        omega (arith, l, length-drop (length h) g.sources)

    parts : d ∷ ds ≡ get_or g.sources (length h) [] ∷ drop (suc (length h)) g.sources
    parts = e ∙ drop-cons g.sources (length h) [] lt

    head : d ≡ get_or g.sources (length h) []
    head = cc parts

    tail : (s : ℕ) → ds ≡ drop (length (h ++ s ∷ [])) g.sources
    tail s =
        let k : suc (length h) ≡ length (h ++ s ∷ []) = omega (arith, longer h s) in
        let t : ds ≡ drop (suc (length h)) g.sources = cc parts in
        t ∙ ap (λ (j : ℕ). drop j g.sources) k

-- a possible read choice begins as many read choices as it has possible next ones, or more
more_nexts : (n : ℕ) (g : Accesses) → AreProperAccesses n g → (h : List ℕ) (ds : List (List ℕ))
    → ((x : ℕ) → ds ≡ drop (length (h ++ x ∷ [])) g.sources) → (d : List ℕ) (us zs : List (List ℕ))
    → IsFiltered (IsPossible g) (nexts d h) us
    → IsFiltered (IsReadChoice g) (flat_map (λ x. tuples (h ++ x ∷ []) ds) d) zs → length us ≤ length zs
more_nexts n g p h ds e [] us zs none t = omega arith
more_nexts n g p h ds e (x ∷ d) us zs (kept {ys = vs} possible f) t =
    let s : Split (IsReadChoice g) (tuples (h ++ x ∷ []) ds) (flat_map (λ y. tuples (h ++ y ∷ []) ds) d) zs = IsFiltered-split (IsReadChoice g) (tuples (h ++ x ∷ []) ds) (flat_map (λ y. tuples (h ++ y ∷ []) ds) d) zs t in
    let l : length zs ≡ length (s.first ++ s.second) = ap (λ (u : List (List ℕ)). length u) s.whole in
    let some : 0 < length s.first = has_some s.first (λ is. possible_has_read_choice n g p ds (h ++ x ∷ []) (e x) possible (subst (λ (u : List (List ℕ)). IsFiltered (IsReadChoice g) (tuples (h ++ x ∷ []) ds) u) is s.of_first)) in
    let rest : length vs ≤ length s.second = more_nexts n g p h ds e d vs s.second f s.of_second in
    omega (arith, l, length-append s.first s.second, some, rest)
  where
    has_some : (u : List (List ℕ)) → (u ≡ [] → ⊥) → 0 < length u
    has_some [] never = absurd (never refl)
    has_some (v ∷ u) never = omega arith
more_nexts n g p h ds e (x ∷ d) us zs (left never f) t =
    let s : Split (IsReadChoice g) (tuples (h ++ x ∷ []) ds) (flat_map (λ y. tuples (h ++ y ∷ []) ds) d) zs = IsFiltered-split (IsReadChoice g) (tuples (h ++ x ∷ []) ds) (flat_map (λ y. tuples (h ++ y ∷ []) ds) d) zs t in
    let l : length zs ≡ length (s.first ++ s.second) = ap (λ (u : List (List ℕ)). length u) s.whole in
    let rest : length us ≤ length s.second = more_nexts n g p h ds e d us s.second f s.of_second in
    omega (arith, l, length-append s.first s.second, rest)

-- the same for the first ones of a list
more_part : (n : ℕ) (g : Accesses) → AreProperAccesses n g → (p : ℕ) (c : List ℕ) (ds : List (List ℕ))
    → ds ≡ drop (p + 1) g.sources → (k : ℕ) (xs prefixes us zs : List (List ℕ))
    → Each (λ f. (length f ≡ p) × IsPossible g f) prefixes → IsFiltered (IsPossible g) xs prefixes
    → IsFiltered (IsPossible g) (flat_map (nexts c) (take k prefixes)) us
    → IsFiltered (IsReadChoice g) (flat_map (λ f. tuples f (c ∷ ds)) xs) zs → length us ≤ length zs
more_part n g q p c ds e zero xs prefixes us zs fit f none t = omega arith
more_part n g q p c ds e (suc k) [] prefixes us zs fit none none t = omega arith
more_part n g q p c ds e (suc k) (x ∷ xs) prefixes us zs fit (kept {ys = vs} possible f) h t =
    let a : Split (IsPossible g) (nexts c x) (flat_map (nexts c) (take k vs)) us = IsFiltered-split (IsPossible g) (nexts c x) (flat_map (nexts c) (take k vs)) us h in
    let b : Split (IsReadChoice g) (tuples x (c ∷ ds)) (flat_map (λ f. tuples f (c ∷ ds)) xs) zs = IsFiltered-split (IsReadChoice g) (tuples x (c ∷ ds)) (flat_map (λ f. tuples f (c ∷ ds)) xs) zs t in
    let la : length us ≡ length (a.first ++ a.second) = ap (λ (u : List (List ℕ)). length u) a.whole in
    let lb : length zs ≡ length (b.first ++ b.second) = ap (λ (u : List (List ℕ)). length u) b.whole in
    let one : length a.first ≤ length b.first = more_nexts n g q x ds (λ y. e ∙ ap (λ (j : ℕ). drop j g.sources) (sym (longer x y ∙ ap (λ (j : ℕ). j + 1) fit.0.0))) c a.first b.first a.of_first b.of_first in
    let rest : length a.second ≤ length b.second = more_part n g q p c ds e k xs vs a.second b.second fit.1 f a.of_second b.of_second in
    omega (arith, la, lb, length-append a.first a.second, length-append b.first b.second, one, rest)
more_part n g q p c ds e (suc k) (x ∷ xs) prefixes us zs fit (left never f) h t =
    let b : Split (IsReadChoice g) (tuples x (c ∷ ds)) (flat_map (λ f. tuples f (c ∷ ds)) xs) zs = IsFiltered-split (IsReadChoice g) (tuples x (c ∷ ds)) (flat_map (λ f. tuples f (c ∷ ds)) xs) zs t in
    let lb : length zs ≡ length (b.first ++ b.second) = ap (λ (u : List (List ℕ)). length u) b.whole in
    let rest : length us ≤ length b.second = more_part n g q p c ds e (suc k) xs prefixes us b.second fit f h b.of_second in
    omega (arith, lb, length-append b.first b.second, rest)

-- there are as many read choices as possible beginnings, or more
pub no_fewer_read_choices : (n : ℕ) (g : Accesses) → AreProperAccesses n g → (p k : ℕ) → p < length g.sources
    → (prefixes us all : List (List ℕ))
    → IsFiltered (IsPossible g) (tuples [] (take p g.sources)) prefixes
    → Each (λ f. (length f ≡ p) × IsPossible g f) prefixes
    → IsFiltered (IsPossible g) (flat_map (nexts (get_or g.sources p [])) (take k prefixes)) us
    → IsFiltered (IsReadChoice g) (tuples [] g.sources) all → length us ≤ length all
no_fewer_read_choices n g q p k lt prefixes us all f fit h t =
    more_part n g q p (get_or g.sources p []) (drop (p + 1) g.sources) refl k
    (tuples [] (take p g.sources)) prefixes us all fit f h
    (subst (λ (l : List (List ℕ)). IsFiltered (IsReadChoice g) l all) whole t)
  where
    whole : tuples [] g.sources
        ≡ flat_map (λ f. tuples f (get_or g.sources p [] ∷ drop (p + 1) g.sources))
        (tuples [] (take p g.sources))
    whole =
        let j : suc p ≡ p + 1 = omega arith in
        ap (λ (l : List (List ℕ)). tuples [] l) (sym (take-append-drop p g.sources))
        ∙ tuples-append (take p g.sources) (drop p g.sources) []
        ∙ ap (λ (l : List (List ℕ)). flat_map (λ f. tuples f l) (tuples [] (take p g.sources)))
        (drop-cons g.sources p [] lt
        ∙ ap (λ (m : ℕ). get_or g.sources p [] ∷ drop m g.sources) j)
