-- The first walk is one.
use Rattle.std.proofs.Common.{ℕ, ◌≡◌, ◌<◌, ◌≤◌, ◌∙◌, inl, inr, List, [], ◌∷◌, length, refl, sym, ap, subst, arith}
use Rattle.std.proofs.lemmas.Bool.{cases_lt}
use Rattle.bit_rows.specs.Relation.{Has}
use Rattle.relation_cycles.specs.Cycles.{IsShortestPath}
use Rattle.relation_cycles.proofs.Steps.{same_place}
use Rattle.why_walks.specs.declared.factor.Repeats.{Repeats}
use Rattle.why_walks.specs.declared.factor.Repeats.TheVariants as repeats
use Rattle.why_walks.specs.declared.run.Link.{Link}
use Rattle.why_walks.specs.declared.value.FactorValues.{FactorValues}
use Rattle.why_walks.specs.Values.{AreLinksAt, IsLinkAt}
use Rattle.why_walks.specs.Walks.{IsFirstRun, IsFirstWalk, IsLeastNext, IsFactorRun, IsWalk}
use Rattle.why_walks.proofs.Walking.{links_head, links_tail, path_same, run_of_first, run_same, walk_same}

pub walk_of_first : (ls : List Link) (a : ℕ) (runs : List (List ℕ)) (b : ℕ)
    → IsFirstWalk ls a runs b → IsWalk ls a runs b
walk_of_first [] a [] b w = w
walk_of_first [] a (run ∷ runs) b w = absurd w
walk_of_first (l ∷ ls) a [] b w = absurd w
walk_of_first (l ∷ ls) a (run ∷ runs) b w = (
  w.0,
  run_of_first l.repeats (Has l.relation) a run w.0 w.1,
  walk_of_first ls w.0 runs b w.3,
)

-- ---- one run, one next event

one_shortest : (R : ℕ → ℕ → Type 0) (a b : ℕ) (xs ys : List ℕ) → IsShortestPath R a b xs
    → IsShortestPath R a b ys → xs ≡ ys
one_shortest R a b xs ys p q =
    let less : length xs ≤ length ys = p.least ys q.path in
    let more : length ys ≤ length xs = q.least xs p.path in
    same_place xs ys (omega arith) (p.first ys q.path (omega arith))
    (q.first xs p.path (omega arith))

one_run : (how : Repeats) (R : ℕ → ℕ → Type 0) (a b : ℕ) (xs ys : List ℕ)
    → IsFirstRun how R a xs b → IsFirstRun how R a ys b → xs ≡ ys
one_run repeats.Once R a b xs ys p q = p.0 ∙ sym q.0
one_run repeats.AtMostOnce R a b xs ys (inl p) (inl q) = p.0 ∙ sym q.0
one_run repeats.AtMostOnce R a b xs ys (inl p) (inr q) = absurd (q.0 p.1)
one_run repeats.AtMostOnce R a b xs ys (inr p) (inl q) = absurd (p.0 q.1)
one_run repeats.AtMostOnce R a b xs ys (inr p) (inr q) = p.1.0 ∙ sym q.1.0
one_run repeats.OnceOrMore R a b xs ys p q = one_shortest R a b xs ys p q
one_run repeats.AnyNumber R a b xs ys (inl p) (inl q) = p.0 ∙ sym q.0
one_run repeats.AnyNumber R a b xs ys (inl p) (inr q) = absurd (q.0 p.1)
one_run repeats.AnyNumber R a b xs ys (inr p) (inl q) = absurd (p.0 q.1)
one_run repeats.AnyNumber R a b xs ys (inr p) (inr q) = one_shortest R a b xs ys p.1 q.1

not_before : (l : Link) (ls : List Link) (a b c d : ℕ) (run : List ℕ) (runs : List (List ℕ))
    → c < d → IsFirstRun l.repeats (Has l.relation) a run c → IsFirstWalk ls c runs b
    → IsLeastNext l ls a d b → ⊥
not_before l ls a b c d run runs lt first walk least =
    least c lt run (run_of_first l.repeats (Has l.relation) a run c first) runs
    (walk_of_first ls c runs b walk)

pub one_walk : (ls : List Link) (a b : ℕ) (runs others : List (List ℕ)) → IsFirstWalk ls a runs b
    → IsFirstWalk ls a others b → runs ≡ others
one_walk [] a b [] [] p q = refl
one_walk [] a b [] (y ∷ ys) p q = absurd q
one_walk [] a b (x ∷ xs) others p q = absurd p
one_walk (l ∷ ls) a b [] others p q = absurd p
one_walk (l ∷ ls) a b (x ∷ xs) [] p q = absurd q
one_walk (l ∷ ls) a b (x ∷ xs) (y ∷ ys) p q = elim (cases_lt p.0 q.0) [
  | inl lt ↦ absurd (not_before l ls a b p.0 q.0 x xs lt p.1 p.3 q.2)
  | inr le ↦ elim (cases_lt q.0 p.0) [
    | inl gt ↦ absurd (not_before l ls a b q.0 p.0 y ys gt q.1 q.3 p.2)
    | inr ge ↦
        let next : q.0 ≡ p.0 = omega arith in
        let run : IsFirstRun l.repeats (Has l.relation) a y p.0 = subst (λ (c : ℕ). IsFirstRun l.repeats (Has l.relation) a y c) next q.1 in
        let walk : IsFirstWalk ls p.0 ys b = subst (λ (c : ℕ). IsFirstWalk ls c ys b) next q.3 in
        ap (λ (r : List ℕ). r ∷ xs) (one_run l.repeats (Has l.relation) a p.0 x y p.1 run)
        ∙ ap (λ (rs : List (List ℕ)). y ∷ rs) (one_walk ls p.0 b xs ys p.3 walk)
  ]
]

-- ---- the first walk through the same factors

shortest_same : (R S : ℕ → ℕ → Type 0) → ((a b : ℕ) → R a b → S a b)
    → ((a b : ℕ) → S a b → R a b) → (a b : ℕ) (events : List ℕ) → IsShortestPath R a b events
    → IsShortestPath S a b events
shortest_same R S to back a b events p = record {
  path = path_same R S to a b events p.path;
  least = λ others q. p.least others (path_same S R back a b others q);
  first = λ others q long. p.first others (path_same S R back a b others q) long;
}

first_run_same : (how : Repeats) (R S : ℕ → ℕ → Type 0) → ((a b : ℕ) → R a b → S a b)
    → ((a b : ℕ) → S a b → R a b) → (a b : ℕ) (events : List ℕ) → IsFirstRun how R a events b
    → IsFirstRun how S a events b
first_run_same repeats.Once R S to back a b events run = (run.0, to a b run.1)
first_run_same repeats.AtMostOnce R S to back a b events (inl stay) = inl stay
first_run_same repeats.AtMostOnce R S to back a b events (inr step) =
    inr (step.0, (step.1.0, to a b step.1.1))
first_run_same repeats.OnceOrMore R S to back a b events run =
    shortest_same R S to back a b events run
first_run_same repeats.AnyNumber R S to back a b events (inl stay) = inl stay
first_run_same repeats.AnyNumber R S to back a b events (inr path) =
    inr (path.0, shortest_same R S to back a b events path.1)

pub first_walk_same : (k : ℕ) (fs : List FactorValues) (ls ms : List Link) → AreLinksAt k fs ls
    → AreLinksAt k fs ms → (a b : ℕ) (runs : List (List ℕ)) → IsFirstWalk ls a runs b
    → IsFirstWalk ms a runs b
first_walk_same k fs [] [] h g a b runs w = w
first_walk_same k fs [] (m ∷ ms) h g a b runs w = absurd (omega (arith, h.as_many, g.as_many))
first_walk_same k fs (l ∷ ls) [] h g a b runs w = absurd (omega (arith, h.as_many, g.as_many))
first_walk_same k [] (l ∷ ls) (m ∷ ms) h g a b runs w = absurd (omega (arith, h.as_many))
first_walk_same k (f ∷ fs) (l ∷ ls) (m ∷ ms) h g a b [] w = absurd w
first_walk_same k (f ∷ fs) (l ∷ ls) (m ∷ ms) h g a b (run ∷ runs) w =
    let p : IsLinkAt k f l = links_head k f fs l ls h in
    let q : IsLinkAt k f m = links_head k f fs m ms g in
    let how : l.repeats ≡ m.repeats = p.repeats ∙ sym q.repeats in
    let to : (x y : ℕ) → Has l.relation x y → Has m.relation x y = λ x y r. (q.pairs x y).1 ((p.pairs x y).0 r) in
    let back : (x y : ℕ) → Has m.relation x y → Has l.relation x y = λ x y r. (p.pairs x y).1 ((q.pairs x y).0 r) in
    let first = first_run_same l.repeats (Has l.relation) (Has m.relation) to back a w.0 run w.1 in
    let least : IsLeastNext m ms a w.0 b = λ d lt r step others v.
    w.2 d lt r (subst (λ (s : Repeats). IsFactorRun s (Has l.relation) a r d) (sym how)
    (run_same m.repeats (Has m.relation) (Has l.relation) back a d r step)) others
    (walk_same k fs ms ls (links_tail k f fs m ms g) (links_tail k f fs l ls h) d b others v) in (
      w.0,
      subst (λ (r : Repeats). IsFirstRun r (Has m.relation) a run w.0) how first,
      least,
      first_walk_same k fs ls ms (links_tail k f fs l ls h) (links_tail k f fs m ms g) w.0 b runs
          w.3,
    )
