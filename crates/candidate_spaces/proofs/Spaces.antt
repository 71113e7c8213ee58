-- Laws of the list of candidates of a space.
use Rattle.std.proofs.Common.{inl, inr, drop, drop-cons, add-one, append_assoc, ℕ, suc, ◌≡◌, ◌<◌, ◌≤◌, ◌+◌, ◌/◌, ◌%◌, List, [], ◌∷◌, ◌++◌, map, min, take, length, get_or, refl, sym, ap, subst, ◌∙◌, arith, Vec}
use Rattle.std.specs.List.{zip}
use Rattle.std.proofs.lemmas.Slice.Zip.{length-zip}
use Rattle.std.proofs.lemmas.Bool.{cases_lt}
use Rattle.std.specs.declared.alloc.Global.{Global}
use Rattle.std.proofs.lemmas.List.{length-map, get_or-map, append-nil, drop_all}
use Rattle.std.proofs.lemmas.List.Concat.{get_or-flat_map}
use Rattle.std.proofs.lemmas.List.Folds.{length-flat_map-take}
use Rattle.std.specs.Prelude.{HoldsAt}
use Rattle.thread_runs.specs.declared.value.Value.{Value}
use Rattle.store_orders.specs.Combinations.{candidates_of}
use Rattle.candidate_spaces.specs.Space.{candidates_in, end_at, registers_at, IsCandidateOf}
use Rattle.store_orders.specs.declared.combination.Combination.{Combination}
use Rattle.candidate_spaces.specs.declared.execution.Execution.{Execution}
use Rattle.store_orders.proofs.Pairs.{beside, candidate_at, has_orders, has_index}

-- one combination after others
pub length-one : (c : Combination)
    → length {A = Combination × (List ℕ × List ℕ)} (map (λ t. (c, t)) (candidates_of c))
    ≡ length (candidates_of c)
length-one c = length-map (candidates_of c) (λ t. (c, t))

pub candidate_in : (cs : List Combination) (i p : ℕ) (e : Combination) (t : List ℕ × List ℕ)
    (d : Combination × (List ℕ × List ℕ)) → i < length cs
    → p < length (candidates_of (get_or cs i e))
    → get_or (candidates_in cs) (length (candidates_in (take i cs)) + p) d
    ≡ (get_or cs i e, get_or (candidates_of (get_or cs i e)) p t)
candidate_in cs i p e t d lt inside =
    get_or-flat_map (λ c. map (λ t. (c, t)) (candidates_of c)) cs i p e d lt
    (subst (λ (n : ℕ). p < n) (sym (length-one (get_or cs i e))) inside)
    ∙ get_or-map (λ (u : List ℕ × List ℕ). (get_or cs i e, u)) (candidates_of (get_or cs i e)) p t d
    inside

abbrev own : Combination → List (Combination × (List ℕ × List ℕ))
own c = map (λ (t : List ℕ × List ℕ). beside c t) (candidates_of c)

-- a place among those of one combination is one of the whole list
pub place_within : (cs : List Combination) (i left place : ℕ) (e : Combination) → i < length cs
    → e ≡ get_or cs i e → left < length (candidates_of e)
    → length (candidates_in (take i cs)) + left ≡ place → place < length (candidates_in cs)
place_within cs i left place e lt is inside at =
    let m : length (candidates_in (take i cs)) + length (own (get_or cs i e)) ≤ length (candidates_in cs) = length-flat_map-take own cs i e lt in
    let o : length (own (get_or cs i e)) ≡ length (candidates_of (get_or cs i e)) = length-one (get_or cs i e) in
    let k : left < length (candidates_of (get_or cs i e)) = subst (λ (c : Combination). left < length (candidates_of c)) is inside in
    omega (arith, m, o, k, at)

pub found_there : (threads : List (Vec (List Value) Global)) (cs : List Combination)
    (i left place : ℕ) (e : Combination) (x : Execution) → i < length cs → e ≡ get_or cs i e
    → left < length (candidates_of e) → length (candidates_in (take i cs)) + left ≡ place
    → HoldsAt (λ t. IsCandidateOf threads e t x) (candidates_of e) left
    → HoldsAt (λ u. IsCandidateOf threads u.0 u.1 x) (candidates_in cs) place
found_there threads cs i left place e x lt is inside at holds d =
    subst (λ (u : Combination × (List ℕ × List ℕ)). IsCandidateOf threads u.0 u.1 x) (sym there)
    (subst (λ (c : Combination). IsCandidateOf threads c (get_or (candidates_of c) left d.1) x) is
    (holds d.1))
  where
    k : left < length (candidates_of (get_or cs i e))
    k = subst (λ (c : Combination). left < length (candidates_of c)) is inside

    there : get_or (candidates_in cs) place d
        ≡ (get_or cs i e, get_or (candidates_of (get_or cs i e)) left d.1)
    there =
        ap (λ (n : ℕ). get_or (candidates_in cs) n d) (sym at) ∙ candidate_in cs i left e d.1 d lt k

pub candidate_there : (threads : List (Vec (List Value) Global)) (c : Combination) (p n : ℕ)
    (v : Vec ℕ Global) (w : List ℕ) (x : Execution) → n ≡ length c.orders
    → p < length (candidates_of c) → v ≡ get_or c.reads_from.items (p / n) v
    → w ≡ get_or c.orders (p % n) [] → IsCandidateOf threads c (v.items, w) x
    → HoldsAt (λ t. IsCandidateOf threads c t x) (candidates_of c) p
candidate_there threads c p n v w x is lt source order holds d =
    subst (λ (t : List ℕ × List ℕ). IsCandidateOf threads c t x) (sym there) holds
  where
    there : get_or (candidates_of c) p d ≡ (v.items, w)
    there =
        candidate_at c p d v (has_orders c p lt) ((has_index c p (has_orders c p lt)).1 lt)
        ∙ sym (ap
        (λ (k : ℕ). ((get_or c.reads_from.items (p / k) v).items, get_or c.orders (p % k) []))
        is)
        ∙ sym (ap (λ (u : Vec ℕ Global). (u.items, get_or c.orders (p % n) [])) source)
        ∙ sym (ap (λ (l : List ℕ). (v.items, l)) order)

-- the registers of one thread more
pub ends_on : (threads : List (Vec (List Value) Global)) (runs : List ℕ) (i : ℕ)
    (t : Vec (List Value) Global) → i < length threads → i < length runs
    → t ≡ get_or threads i t
    → registers_at (drop i threads) (drop i runs)
    ≡ end_at t.items (get_or runs i 0) ∷ registers_at (drop (i + 1) threads) (drop (i + 1) runs)
ends_on threads runs i t lt lr is =
    ap (λ (l : List (Vec (List Value) Global)). registers_at l (drop i runs))
    (drop-cons threads i t lt)
    ∙ ap (λ (l : List ℕ). registers_at (get_or threads i t ∷ drop (suc i) threads) l)
    (drop-cons runs i 0 lr)
    ∙ ap
    (λ (u : Vec (List Value) Global). end_at u.items (get_or runs i 0)
    ∷ registers_at (drop (suc i) threads) (drop (suc i) runs))
    (sym is)
    ∙ ap (λ (k : ℕ). end_at t.items (get_or runs i 0) ∷ registers_at (drop k threads) (drop k runs))
    (sym (add-one i))

pub one_thread_more : (threads : List (Vec (List Value) Global)) (runs : List ℕ) (i : ℕ)
    (t : Vec (List Value) Global) (found found' all : List (List Value)) → i < length threads
    → i < length runs → t ≡ get_or threads i t
    → found ++ registers_at (drop i threads) (drop i runs) ≡ all
    → found' ≡ found ++ end_at t.items (get_or runs i 0) ∷ []
    → found' ++ registers_at (drop (i + 1) threads) (drop (i + 1) runs) ≡ all
one_thread_more threads runs i t found found' all lt lr is before more =
    let rest : List (List Value) = registers_at (drop (i + 1) threads) (drop (i + 1) runs) in
    ap (λ (l : List (List Value)). l ++ rest) more
    ∙ append_assoc found (end_at t.items (get_or runs i 0) ∷ []) rest
    ∙ ap (λ (l : List (List Value)). found ++ l) (sym (ends_on threads runs i t lt lr is))
    ∙ before

zip-nil : {X Y : Type 0} (xs : List X) → zip {X = Y} xs [] ≡ []
zip-nil [] = refl
zip-nil (x ∷ xs) = refl

-- after the last of the runs or of the threads
pub ends_counted : (threads : List (Vec (List Value) Global)) (runs : List ℕ)
    → length (registers_at threads runs) ≡ min (length threads) (length runs)
ends_counted threads runs =
    length-map (zip threads runs) (λ p. end_at p.0.items p.1) ∙ length-zip threads runs

pub no_more_ends : (threads : List (Vec (List Value) Global)) (runs : List ℕ) (i : ℕ)
    → min (length threads) (length runs) ≤ i → registers_at (drop i threads) (drop i runs) ≡ []
no_more_ends threads runs i past = elim (cases_lt i (length threads)) [
  | inr few ↦ ap (λ (l : List (Vec (List Value) Global)). registers_at l (drop i runs))
      (drop_all i threads few)
  | inl more ↦
      ap (λ (l : List ℕ). registers_at (drop i threads) l)
      (drop_all i runs (omega (arith, past, more)))
      ∙ ap (λ (l : List (Vec (List Value) Global × ℕ)). map (λ p. end_at p.0.items p.1) l)
      (zip-nil (drop i threads))
]

pub all_threads : (threads : List (Vec (List Value) Global)) (runs : List ℕ) (i : ℕ)
    (found all : List (List Value)) → min (length threads) (length runs) ≤ i
    → found ++ registers_at (drop i threads) (drop i runs) ≡ all → found ≡ all
all_threads threads runs i found all past before =
    sym (append-nil found)
    ∙ ap (λ (l : List (List Value)). found ++ l) (sym (no_more_ends threads runs i past)) ∙ before
