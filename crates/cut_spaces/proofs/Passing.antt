-- Rows that a check does not refuse alone.
use Rattle.std.proofs.Common.{ℕ, ◌≡◌, ◌+◌, ◌++◌, suc, List, [], ◌∷◌, map, length, get_or, Bool, true, false, Some, Vec, Global, refl, sym, ap, ◌∙◌, subst, arith}
use Rattle.std.specs.Prelude.{slice_get}
use Rattle.std.specs.Option.{option_map}
use Rattle.std.proofs.lemmas.List.{append-nil, length-map}
use Rattle.std.proofs.lemmas.Option.{slice_get-map}
use Rattle.binding_graph.specs.declared.resolved.ResolvedItem.{ResolvedItem}
use Rattle.binding_graph.specs.declared.resolved.Role.{Role}
use Rattle.taints.specs.DependencyLists.{dependency_lists}
use Rattle.store_orders.specs.Combinations.{pairs, candidates_of}
use Rattle.store_orders.specs.Lists.{lists_of}
use Rattle.store_orders.specs.Rows.{rows_kept}
use Rattle.store_orders.specs.declared.combination.Combination.{Combination}
use Rattle.candidate_spaces.specs.declared.candidate.Space.{Space}
use Rattle.candidate_spaces.specs.Space.{Candidate, candidates_in}
use Rattle.cat_machine.specs.Values.{AnswersOf}
use Rattle.whole_outcomes.specs.Sublists.{LeavesOut, nothing_left, stays, is_left}
use Rattle.cut_spaces.specs.Rows.{IsTried, IsProbe, HasProbe, IsRowRefused, KeepsRows}

pub nothing : {X : Type 0} (xs : List X) → length xs ≡ 0 → xs ≡ []
nothing [] e = refl
nothing (x ∷ xs) e = absurd (omega (arith, e))

-- ---- the candidates of a probe

abbrev probe_at : Combination → List ℕ → Candidate
probe_at probe row = (probe, ([], row))

candidates_are : (c : Combination) → lists_of c.reads_from.items ≡ [] ∷ []
    → candidates_of c ≡ map (λ row. ([], row)) c.orders
unfolding candidates_of
candidates_are c none =
    ap (λ (reads : List (List ℕ)). pairs reads c.orders) none
    ∙ append-nil (map (λ row. ([], row)) c.orders)

each_probe : (probe : Combination) (rows : List (List ℕ))
    → map (λ t. (probe, t)) (map (λ row. ([], row)) rows) ≡ map (probe_at probe) rows
each_probe probe [] = refl
each_probe probe (r ∷ rs) = ap (λ (l : List Candidate). (probe, ([], r)) ∷ l) (each_probe probe rs)

probes_are : (c probe : Combination) (rows : List (List ℕ)) → IsProbe c rows probe
    → candidates_in (probe ∷ []) ≡ map (probe_at probe) rows
probes_are c probe rows is =
    append-nil (map (λ t. (probe, t)) (candidates_of probe))
    ∙ ap (λ (ts : List (List ℕ × List ℕ)). map (λ t. (probe, t)) ts) (candidates_are probe is.reads)
    ∙ each_probe probe probe.orders
    ∙ ap (λ (rs : List (List ℕ)). map (probe_at probe) rs) is.orders

-- the candidates of a space with a probe
space_is : (c probe : Combination) (rows : List (List ℕ)) (s : Space)
    → s.combinations.items ≡ probe ∷ [] → IsProbe c rows probe
    → candidates_in s.combinations.items ≡ map (probe_at probe) rows
space_is c probe rows s one is =
    ap (λ (cs : List Combination). candidates_in cs) one ∙ probes_are c probe rows is

-- as many answers as rows
answers_long : (role : Role) (r : ResolvedItem) (tried : IsTried r) (s : Space)
    (answers : List Bool) → AnswersOf r.role [] s answers
    → length answers ≡ length (candidates_in s.combinations.items)
answers_long role r tried s answers are =
    (subst (λ (x : Role). AnswersOf x [] s answers) tried.role are).0

pub answers_enough : (r : ResolvedItem) (c : Combination) (rows : List (List ℕ)) (s : Space)
    (answers : List Bool) → IsTried r → HasProbe c rows s → AnswersOf r.role [] s answers
    → length answers ≡ length rows
answers_enough r c rows s answers tried (probe, one, is) are =
    answers_long r.role r tried s answers are
    ∙ ap (λ (l : List Candidate). length l) (space_is c probe rows s one is)
    ∙ length-map rows (probe_at probe)

-- the probe is the one combination
pub orders_of_probe : (c : Combination) (rows : List (List ℕ)) (s : Space) (d : Combination)
    → HasProbe c rows s → (get_or s.combinations.items 0 d).orders ≡ rows
orders_of_probe c rows s d (found, one, is) =
    ap (λ (cs : List Combination). (get_or cs 0 d).orders) one ∙ is.orders

pub one_probe : (c : Combination) (rows : List (List ℕ)) (made old : List Combination)
    (x : Combination) → made ≡ old ++ x ∷ [] → old ≡ [] → x.events.items ≡ c.events.items
    → dependency_lists x.dependencies ≡ dependency_lists c.dependencies
    → lists_of x.reads_from.items ≡ [] ∷ [] → x.orders ≡ rows
    → (y : Combination) × (made ≡ y ∷ []) × IsProbe c rows y
one_probe c rows made old x grown none events dependencies reads orders = (
  x,
  grown ∙ ap (λ (l : List Combination). l ++ x ∷ []) none,
  record { events = events; dependencies = dependencies; reads = reads; orders = orders },
)

pub one_choice : (made old : List (Vec ℕ Global)) (x : Vec ℕ Global) → made ≡ old ++ x ∷ []
    → old ≡ [] → x.items ≡ [] → lists_of made ≡ [] ∷ []
one_choice made old x grown none empty =
    ap lists_of (grown ∙ ap (λ (l : List (Vec ℕ Global)). l ++ x ∷ []) none)
    ∙ ap (λ (l : List ℕ). l ∷ []) empty

-- ---- rows that are kept

module _ (r : ResolvedItem) (c : Combination) where
  pub all_stay : (rows : List (List ℕ)) (i j : ℕ)
      → LeavesOut (λ i x j y. x ≡ y) (λ i row. IsRowRefused r c row) i rows j rows
  all_stay [] i j = nothing_left
  all_stay (x ∷ xs) i j = stays refl (all_stay xs (i + 1) (j + 1))

  leaves : (rows : List (List ℕ)) (answers : List Bool) (i j : ℕ) → length answers ≡ length rows
      → ((k : ℕ) (row : List ℕ) → slice_get rows k ≡ Some row → slice_get answers k ≡ Some false
      → IsRowRefused r c row)
      → LeavesOut (λ i x j y. x ≡ y) (λ i row. IsRowRefused r c row) i rows j
      (rows_kept rows answers)
  leaves [] answers i j long h = nothing_left
  leaves (x ∷ xs) [] i j long h = absurd (omega (arith, long))
  leaves (x ∷ xs) (true ∷ bs) i j long h =
      stays refl (leaves xs bs (i + 1) (j + 1) (omega (arith, long)) (λ k row at no. h (suc k) row at no))
  leaves (x ∷ xs) (false ∷ bs) i j long h =
      is_left (h 0 x refl refl)
      (leaves xs bs (i + 1) j (omega (arith, long)) (λ k row at no. h (suc k) row at no))

  pub rows_pass : (rows kept : List (List ℕ)) (s : Space) (answers : List Bool) → IsTried r
      → HasProbe c rows s → AnswersOf r.role [] s answers → kept ≡ rows_kept rows answers
      → KeepsRows r c rows kept
  rows_pass rows kept s answers tried (probe, one, is) are e =
      subst (λ (l : List (List ℕ)). KeepsRows r c rows l) (sym e)
      (leaves rows answers 0 0 (answers_enough r c rows s answers tried (probe, one, is) are)
      (λ k row at no. record {
        probes = s;
        answers = answers;
        are = are;
        probe = probe;
        events = is.events;
        dependencies = is.dependencies;
        index = k;
        there = ap (λ (l : List Candidate). slice_get l k) (space_is c probe rows s one is)
            ∙ (slice_get-map (probe_at probe) rows k
            ∙ ap (λ o. option_map (probe_at probe) o) at);
        refused = no;
      }))
