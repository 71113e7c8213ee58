-- The space of kept orders shows what that of all orders does, without candidates that a check
-- refuses.
use Rattle.std.proofs.Common.{ℕ, ◌≡◌, ◌+◌, ◌++◌, Some, List, [], ◌∷◌, map, length, get_or, min, Vec, Global, refl, sym, ap, ◌∙◌, subst, append_assoc, arith}
use Rattle.std.specs.Prelude.{slice_get}
use Rattle.std.specs.List.{AllZip}
use Rattle.std.proofs.lemmas.List.{length-map, map-append}
use Rattle.thread_runs.specs.declared.value.Value.{Value}
use Rattle.binding_graph.specs.declared.resolved.ResolvedItem.{ResolvedItem}
use Rattle.taints.specs.DependencyLists.{dependency_lists}
use Rattle.store_orders.specs.Combinations.{CombinationLists, combination_lists, ordered, pairs, candidates_of}
use Rattle.store_orders.specs.Lists.{lists_of}
use Rattle.store_orders.specs.Orders.{all_orders}
use Rattle.store_orders.specs.declared.combination.Combination.{Combination}
use Rattle.candidate_spaces.specs.declared.candidate.Space.{Space}
use Rattle.candidates.specs.declared.space_parts.SpaceParts.{SpaceParts}
use Rattle.candidates.specs.Parts.{IsWholeOf}
use Rattle.candidate_spaces.specs.Space.{Candidate, candidates_in, shown_of, registers_at}
use Rattle.whole_outcomes.specs.Sublists.{LeavesOut, nothing_left, stays, is_left}
use Rattle.order_growth.specs.Coded.{IsOfExpressions}
use Rattle.whole_outcomes.specs.Cut.{IsRefusedAt, IsCut}
use Rattle.whole_outcomes.proofs.Leaving.{indexes_of, with_indexes, changed}
use Rattle.cut_spaces.specs.Rows.{IsTried, IsRefusedByRow}
use Rattle.cut_spaces.specs.Spaces.{IsCutCombination, IsCutOf}
use Rattle.cut_spaces.proofs.Refusing.{IsRefusedCandidate, candidate_refused}

abbrev later : {X : Type 0} → List X → List X
later [] = []
later (x ∷ xs) = xs

listed : (c : Combination) → pairs (lists_of c.reads_from.items) c.orders ≡ candidates_of c
unfolding candidates_of
listed c = refl

module _ (r : ResolvedItem) (n : ℕ) (registers : List (Vec (List Value) Global)) where
  abbrev ShownFrom : ℕ → List Candidate → ℕ → List Candidate → Type 0
  ShownFrom i xs j ys =
      LeavesOut (λ i x j y. shown_of registers x ≡ shown_of registers y)
      (λ i x. IsRefusedCandidate r x) i xs j ys

  -- wherever the indexes begin
  abbrev Leaves : List Candidate → List Candidate → Type 0
  Leaves xs ys = (i j : ℕ) → ShownFrom i xs j ys

  -- a combination with all orders, and with those that are kept
  module _ (a c d : Combination) (whole : combination_lists a ≡ ordered n (combination_lists c))
      (cut : IsCutCombination r n c d) where
    events : a.events.items ≡ c.events.items
    events = ap (λ (s : CombinationLists). s.events) whole

    dependencies : dependency_lists a.dependencies ≡ dependency_lists c.dependencies
    dependencies = ap (λ (s : CombinationLists). s.dependencies) whole

    same_events : a.events.items ≡ d.events.items
    same_events = events ∙ sym cut.events

    same_dependencies : dependency_lists a.dependencies ≡ dependency_lists d.dependencies
    same_dependencies = dependencies ∙ sym cut.dependencies

    same_runs : a.runs.items ≡ d.runs.items
    same_runs = ap (λ (s : CombinationLists). s.runs) whole ∙ sym cut.runs

    shows : (reads order other : List ℕ) → order ≡ other
        → shown_of registers (a, (reads, order)) ≡ shown_of registers (d, (reads, other))
    shows reads order other e = λ i. record {
      events = same_events i;
      dependencies = same_dependencies i;
      reads_from = reads;
      coherence = e i;
      registers = registers_at registers (same_runs i);
    }

    with_orders : (reads : List ℕ) {k l : ℕ} {orders kept : List (List ℕ)}
        → LeavesOut (λ i x j y. x ≡ y) (λ i order. IsRefusedByRow r c order) k orders l kept
        → (us vs : List Candidate) → Leaves us vs
        → Leaves (map (λ t. (a, t)) (map (λ o. (reads, o)) orders) ++ us)
        (map (λ t. (d, t)) (map (λ o. (reads, o)) kept) ++ vs)
    with_orders reads nothing_left us vs rest = rest
    with_orders reads (stays {x = order} {y = other} e more) us vs rest = λ i j.
        stays (shows reads order other e) (with_orders reads more us vs rest (i + 1) (j + 1))
    with_orders reads (is_left {x = order} gone more) us vs rest = λ i j.
        is_left (record {
          combination = c;
          events = sym events;
          dependencies = sym dependencies;
          row = gone;
        }) (with_orders reads more us vs rest (i + 1) j)

    all_choices : (choices : List (List ℕ)) (us vs : List Candidate) → Leaves us vs
        → Leaves (map (λ t. (a, t)) (pairs choices (all_orders c.events.items n)) ++ us)
        (map (λ t. (d, t)) (pairs choices d.orders) ++ vs)
    all_choices [] us vs rest = rest
    all_choices (x ∷ xs) us vs rest =
        let A : List (List ℕ) = all_orders c.events.items n in
        let f : List ℕ × List ℕ → Candidate = λ t. (a, t) in
        let g : List ℕ × List ℕ → Candidate = λ t. (d, t) in
        let left : map f (map (λ o. (x, o)) A) ++ (map f (pairs xs A) ++ us) ≡ map f (pairs (x ∷ xs) A) ++ us =
        sym (append_assoc (map f (map (λ o. (x, o)) A)) (map f (pairs xs A)) us)
        ∙ ap (λ (l : List Candidate). l ++ us) (sym (map-append f (map (λ o. (x, o)) A) (pairs xs A))) in
        let right : map g (map (λ o. (x, o)) d.orders) ++ (map g (pairs xs d.orders) ++ vs) ≡ map g (pairs (x ∷ xs) d.orders) ++ vs =
        sym (append_assoc (map g (map (λ o. (x, o)) d.orders)) (map g (pairs xs d.orders)) vs)
        ∙ ap (λ (l : List Candidate). l ++ vs) (sym (map-append g (map (λ o. (x, o)) d.orders) (pairs xs d.orders))) in
        subst (λ (l : List Candidate). Leaves l (map g (pairs (x ∷ xs) d.orders) ++ vs)) left
        (subst (λ (l : List Candidate). Leaves (map f (map (λ o. (x, o)) A) ++ (map f (pairs xs A) ++ us)) l) right
        (with_orders x cut.orders (map f (pairs xs A) ++ us) (map g (pairs xs d.orders) ++ vs)
        (all_choices xs us vs rest)))

    one_combination : (us vs : List Candidate) → Leaves us vs
        → Leaves (map (λ t. (a, t)) (candidates_of a) ++ us) (map (λ t. (d, t)) (candidates_of d) ++ vs)
    one_combination us vs rest =
        let mine : pairs (lists_of c.reads_from.items) (all_orders c.events.items n) ≡ candidates_of a =
        ap (λ (s : CombinationLists). pairs s.reads_from s.orders) (sym whole) ∙ listed a in
        let its : pairs (lists_of c.reads_from.items) d.orders ≡ candidates_of d =
        ap (λ (reads : List (List ℕ)). pairs reads d.orders) (sym cut.reads_from) ∙ listed d in
        subst
        (λ (ts : List (List ℕ × List ℕ)). Leaves (map (λ t. (a, t)) (candidates_of a) ++ us) (map (λ t. (d, t)) ts ++ vs)) its
        (subst
        (λ (ts : List (List ℕ × List ℕ)). Leaves (map (λ t. (a, t)) ts ++ us)
        (map (λ t. (d, t)) (pairs (lists_of c.reads_from.items) d.orders) ++ vs)) mine
        (all_choices (lists_of c.reads_from.items) us vs rest))

  all_combinations : (bs cs ds : List Combination)
      → map combination_lists bs ≡ map (λ c. ordered n (combination_lists c)) cs
      → AllZip (IsCutCombination r n) cs ds → Leaves (candidates_in bs) (candidates_in ds)
  all_combinations [] [] [] e h = λ i j. nothing_left
  all_combinations [] [] (d ∷ ds) e h = absurd h
  all_combinations [] (c ∷ cs) ds e h =
      absurd (let no : [] ≡ ordered n (combination_lists c) ∷ map (λ x. ordered n (combination_lists x)) cs = e in cc)
  all_combinations (a ∷ bs) [] ds e h =
      absurd (let no : combination_lists a ∷ map combination_lists bs ≡ [] = e in cc)
  all_combinations (a ∷ bs) (c ∷ cs) [] e h = absurd h
  all_combinations (a ∷ bs) (c ∷ cs) (d ∷ ds) e h =
      one_combination a c d (ap (λ (l : List CombinationLists). get_or l 0 (combination_lists a)) e)
      h.0 (candidates_in bs) (candidates_in ds) (all_combinations bs cs ds (ap later e) h.1)

module _ (r : ResolvedItem) (p : SpaceParts) (all s : Space) (whole : IsWholeOf p all)
    (cut : IsCutOf r p s) where
  abbrev Alike : Candidate → Candidate → Type 0
  Alike x y = shown_of all.registers.items x ≡ shown_of s.registers.items y

  abbrev Gone : ℕ → Candidate → Type 0
  Gone i x = IsRefusedCandidate r x

  abbrev Candidates : List Candidate
  Candidates = candidates_in all.combinations.items

  shown_alike : LeavesOut (λ i x j y. Alike x y) (λ i x. Gone i x) 0 Candidates 0
      (candidates_in s.combinations.items)
  shown_alike =
      let mine : all.registers.items ≡ p.registers.items = ap (λ (v : Vec (Vec (List Value) Global) Global). v.items) whole.registers in
      let its : s.registers.items ≡ p.registers.items = ap (λ (v : Vec (Vec (List Value) Global) Global). v.items) cut.registers in
      let both : LeavesOut (λ i x j y. shown_of p.registers.items x ≡ shown_of p.registers.items y)
      (λ i x. Gone i x) 0 Candidates 0 (candidates_in s.combinations.items) =
      all_combinations r (min p.location_count 128) p.registers.items all.combinations.items
      p.combinations.items s.combinations.items whole.combinations cut.combinations 0 0 in
      subst
      (λ (rs : List (Vec (List Value) Global)). LeavesOut
      (λ i x j y. shown_of all.registers.items x ≡ shown_of rs y) (λ i x. Gone i x) 0 Candidates 0
      (candidates_in s.combinations.items)) (sym its)
      (subst
      (λ (rs : List (Vec (List Value) Global)). LeavesOut
      (λ i x j y. shown_of rs x ≡ shown_of p.registers.items y) (λ i x. Gone i x) 0 Candidates 0
      (candidates_in s.combinations.items)) (sym mine) both)

  from_start : {Z : Type 0} (zs : List Z) (k : ℕ) → slice_get zs (0 + k) ≡ slice_get zs k
  from_start zs k = ap (λ (m : ℕ). slice_get zs m) (omega arith)

  pub is_cut : (rs : List ResolvedItem) → IsTried r → IsOfExpressions r.role → IsCut rs r all s
  is_cut rs tried tree = record {
    locations = ap (λ v. v.items) (whole.locations ∙ sym cut.locations);
    stay = changed
        (λ i x j y. Alike x y × (slice_get (indexes_of Alike Gone shown_alike) i ≡ Some (Some j)))
        (λ i x. Gone i x × (slice_get Candidates i ≡ Some x)) (λ i x j y. Alike x y)
        (λ i x. IsRefusedAt rs r all i) (λ i x j y same. same.0)
        (λ i x gone. candidate_refused r tried rs all tree i x gone.0 gone.1)
        (with_indexes Alike Gone (indexes_of Alike Gone shown_alike) Candidates shown_alike
        (λ k. from_start (indexes_of Alike Gone shown_alike) k) (λ k. from_start Candidates k));
  }

-- ---- the space of all orders, which nothing makes

abbrev with_list : {X : Type 0} (v : Vec X Global) (xs : List X) → length v.items ≡ length xs
    → Vec X Global
with_list v xs same = record {
  ptr = v.ptr;
  len = v.len;
  cap = v.cap;
  alloc = v.alloc;
  items = xs;
  ok = (v.ok.0 ∙ same, v.ok.1);
  small = v.small;
}

abbrev with_all : ℕ → Combination → Combination
with_all n c = record c { orders = all_orders c.events.items n }

all_ordered : (n : ℕ) (cs : List Combination)
    → map combination_lists (map (with_all n) cs) ≡ map (λ c. ordered n (combination_lists c)) cs
all_ordered n [] = refl
all_ordered n (c ∷ cs) =
    ap (λ (l : List CombinationLists). ordered n (combination_lists c) ∷ l) (all_ordered n cs)

pub whole_of : (p : SpaceParts) → (s : Space) × IsWholeOf p s
whole_of p =
    let n = min p.location_count 128 in
    let cs = map (with_all n) p.combinations.items in (
      record {
        locations = p.locations;
        registers = p.registers;
        combinations = with_list p.combinations cs (sym (length-map p.combinations.items (with_all n)));
      },
      record {
        locations = refl;
        registers = refl;
        combinations = all_ordered n p.combinations.items;
      },
    )
