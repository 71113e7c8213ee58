-- Whether a finite relation has a cycle is decided; so the read choices, and the combinations that
-- have one, exist.
use Rattle.std.proofs.Common.{ℕ, zero, suc, ◌≡◌, ◌<◌, ◌⊎◌, List, [], ◌∷◌, ◌++◌, length, get_or, ap, sym, subst, inl, inr, arith, Contains}
use Rattle.std.proofs.lemmas.Bool.{cases_eq}
use Rattle.std.proofs.lemmas.List.Elements.{Contains-append_left, Contains-append_right, Contains-append_cases}
use Rattle.bit_rows.specs.Pairs.{Union, Path, IsAcyclic}
use Rattle.candidates.proofs.Elements.{member_cases, member_later, member_first, no_member}
use Rattle.run_combinations.specs.Candidates.{AreCombinations, nothing_left, with_read_choices, without}
use Rattle.store_orders.specs.Events.{numbers, is_load, is_store, ReadsFrom}
use Rattle.store_orders.specs.Lists.{tuples, IsFiltered, none, kept, left}
use Rattle.run_combinations.specs.Search.{PrefixLists}
use Rattle.store_orders.specs.Combinations.{CombinationLists}
use Rattle.run_combinations.specs.ReadChoices.{AreReadChoices, IsReadChoice, accesses_in}
use Rattle.store_orders.specs.declared.combination.Event.{Event}

-- a fact is decided
abbrev pub Decided : Type 0 → Type 0
Decided P = P ⊎ (P → ⊥)

either_decided : {P Q : Type 0} → Decided P → Decided Q → Decided (P ⊎ Q)
either_decided (inl p) q = inl (inl p)
either_decided (inr n) (inl q) = inl (inr q)
either_decided (inr n) (inr m) = inr (λ u. elim u [ inl p ↦ n p | inr q ↦ m q ])

both_decided : {P Q : Type 0} → Decided P → Decided Q → Decided (P × Q)
both_decided (inr n) q = inr (λ u. n u.0)
both_decided (inl p) (inr m) = inr (λ u. m u.1)
both_decided (inl p) (inl q) = inl (p, q)

decided_as : {P Q : Type 0} → (P → Q) → (Q → P) → Decided P → Decided Q
decided_as to back (inl p) = inl (to p)
decided_as to back (inr n) = inr (λ q. n (back q))

same_decided : (a b : ℕ) → Decided (a ≡ b)
same_decided a b = elim (cases_eq a b) [ inl e ↦ inl e | inr n ↦ inr n ]

member_decided : (xs : List ℕ) (x : ℕ) → Decided (Contains xs x)
member_decided [] x = inr (λ c. no_member x c)
member_decided (y ∷ xs) x =
    decided_as
    (λ u. elim u [
      | inl e ↦ subst (λ (z : ℕ). Contains (y ∷ xs) z) e (member_first y xs)
      | inr c
          ↦ member_later y xs x c
    ])
    (λ c. member_cases y xs x c)
    (either_decided (same_decided y x) (member_decided xs x))

-- the edges of a relation
abbrev Edges : Type 0
Edges = List (ℕ × ℕ)

abbrev Edge : Edges → ℕ → ℕ → Type 0
Edge es a b = Contains es (a, b)

abbrev Reach : Edges → ℕ → ℕ → Type 0
Reach es a b = (through : List ℕ) × Path (Edge es) a through b

abbrev Stay : Edges → ℕ → ℕ → Type 0
Stay es a b = (a ≡ b) ⊎ Reach es a b

path_more : (u v : ℕ) (es : Edges) (a : ℕ) (cs : List ℕ) (b : ℕ) → Path (Edge es) a cs b
    → Path (Edge ((u, v) ∷ es)) a cs b
path_more u v es a [] b p = member_later (u, v) es (a, b) p
path_more u v es a (c ∷ cs) b p = (member_later (u, v) es (a, c) p.0, path_more u v es c cs b p.1)

path_joined : (R : ℕ → ℕ → Type 0) (a : ℕ) (cs : List ℕ) (c : ℕ) (ds : List ℕ) (b : ℕ)
    → Path R a cs c → Path R c ds b → Path R a (cs ++ c ∷ ds) b
path_joined R a [] c ds b p q = (p, q)
path_joined R a (x ∷ cs) c ds b p q = (p.0, path_joined R x cs c ds b p.1 q)

reach_joined : (es : Edges) (a c b : ℕ) → Reach es a c → Reach es c b → Reach es a b
reach_joined es a c b p q = (p.0 ++ c ∷ q.0, path_joined (Edge es) a p.0 c q.0 b p.1 q.1)

-- with one edge more: a path goes over it or does not
abbrev Over : ℕ → ℕ → Edges → ℕ → ℕ → Type 0
Over u v es a b = Reach es a b ⊎ (Stay es a u × Stay es v b)

abbrev pair : ℕ → ℕ → ℕ × ℕ
pair a b = (a, b)

pair_is : (u v a b : ℕ) → pair u v ≡ pair a b → (u ≡ a) × (v ≡ b)
pair_is u v a b e = (ap (λ (p : ℕ × ℕ). p.0) e, ap (λ (p : ℕ × ℕ). p.1) e)

over_edge : (u v : ℕ) (es : Edges) (a b : ℕ) → Edge ((u, v) ∷ es) a b → Over u v es a b
over_edge u v es a b p = elim (member_cases (u, v) es (a, b) p) [
  | inl e ↦ let s : (u ≡ a) × (v ≡ b) = pair_is u v a b e in inr (inl (sym s.0), inl s.1)
  | inr d ↦ inl ([], d)
]

over_step : (u v : ℕ) (es : Edges) (a c b : ℕ) → (((u ≡ a) × (v ≡ c)) ⊎ Edge es a c)
    → Over u v es c b → Over u v es a b
over_step u v es a c b (inl s) (inl r) =
    inr (inl (sym s.0), inr (subst (λ (x : ℕ). Reach es x b) (sym s.1) r))
over_step u v es a c b (inl s) (inr o) = inr (inl (sym s.0), o.1)
over_step u v es a c b (inr d) (inl r) = inl (c ∷ r.0, (d, r.1))
over_step u v es a c b (inr d) (inr (inl e, o)) =
    inr (inr ([], subst (λ (x : ℕ). Edge es a x) e d), o)
over_step u v es a c b (inr d) (inr (inr r, o)) = inr (inr (c ∷ r.0, (d, r.1)), o)

over : (u v : ℕ) (es : Edges) (a : ℕ) (cs : List ℕ) (b : ℕ) → Path (Edge ((u, v) ∷ es)) a cs b
    → Over u v es a b
over u v es a [] b p = over_edge u v es a b p
over u v es a (c ∷ cs) b p =
    over_step u v es a c b
    (elim (member_cases (u, v) es (a, c) p.0)
    [ inl e ↦ inl (pair_is u v a c e) | inr d ↦ inr d ])
    (over u v es c cs b p.1)

more : (u v : ℕ) (es : Edges) (a b : ℕ) → Reach es a b → Reach ((u, v) ∷ es) a b
more u v es a b r = (r.0, path_more u v es a r.0 b r.1)

over_there : (u v : ℕ) (es : Edges) (a b : ℕ) → Over u v es a b → Reach ((u, v) ∷ es) a b
over_there u v es a b (inl r) = more u v es a b r
over_there u v es a b (inr o) = front o.0 (behind o.1)
  where
    edge : Reach ((u, v) ∷ es) u v
    edge = ([], member_first (u, v) es)

    behind : Stay es v b → Reach ((u, v) ∷ es) u b
    behind (inl e) = subst (λ (x : ℕ). Reach ((u, v) ∷ es) u x) e edge
    behind (inr r) = reach_joined ((u, v) ∷ es) u v b edge (more u v es v b r)

    front : Stay es a u → Reach ((u, v) ∷ es) u b → Reach ((u, v) ∷ es) a b
    front (inl e) r = subst (λ (x : ℕ). Reach ((u, v) ∷ es) x b) (sym e) r
    front (inr q) r = reach_joined ((u, v) ∷ es) a u b (more u v es a u q) r

reach_decided : (es : Edges) (a b : ℕ) → Decided (Reach es a b)
reach_decided [] a b = inr (λ r. nowhere r.0 r.1)
  where
    nowhere : (cs : List ℕ) → Path (Edge []) a cs b → ⊥
    nowhere [] p = no_member (a, b) p
    nowhere (c ∷ cs) p = no_member (a, c) p.0
reach_decided ((u, v) ∷ es) a b =
    decided_as (over_there u v es a b) (λ r. over u v es a r.0 b r.1)
    (either_decided (reach_decided es a b) (both_decided
    (either_decided (same_decided a u) (reach_decided es a u))
    (either_decided (same_decided v b) (reach_decided es v b))))

-- no edge of the list is on a cycle, or one is
starts : (all es : Edges) → Decided ((a b : ℕ) → Contains es (a, b) → Reach all a a → ⊥)
starts all [] = inl (λ a b c r. no_member (a, b) c)
starts all ((u, v) ∷ es) = go (reach_decided all u u) (starts all es)
  where
    go : Decided (Reach all u u) → Decided ((a b : ℕ) → Contains es (a, b) → Reach all a a → ⊥)
        → Decided ((a b : ℕ) → Contains ((u, v) ∷ es) (a, b) → Reach all a a → ⊥)
    go (inl r) rest = inr (λ never. never u v (member_first (u, v) es) r)
    go (inr n) (inr m) = inr (λ never. m (λ a b c r. never a b (member_later (u, v) es (a, b) c) r))
    go (inr n) (inl m) = inl (λ a b c r. elim (member_cases (u, v) es (a, b) c) [
      | inl e ↦ n (subst (λ (x : ℕ). Reach all x x) (sym (pair_is u v a b e).0) r)
      | inr d ↦ m a b d r
    ])

acyclic_decided : (es : Edges) → Decided (IsAcyclic (Edge es))
acyclic_decided es = decided_as to (λ never a b c r. never a r) (starts es es)
  where
    to : ((a b : ℕ) → Contains es (a, b) → Reach es a a → ⊥) → IsAcyclic (Edge es)
    to each a r = from r.0 r.1
      where
        from : (cs : List ℕ) → Path (Edge es) a cs a → ⊥
        from [] p = each a a p ([], p)
        from (c ∷ cs) p = each a c p.0 (c ∷ cs, p)

-- a relation with the same edges
path_same : (R S : ℕ → ℕ → Type 0) → ((a b : ℕ) → R a b → S a b) → (a : ℕ) (cs : List ℕ) (b : ℕ)
    → Path R a cs b → Path S a cs b
path_same R S to a [] b p = to a b p
path_same R S to a (c ∷ cs) b p = (to a c p.0, path_same R S to c cs b p.1)

pub finite_decided : (R : ℕ → ℕ → Type 0) (es : Edges) → ((a b : ℕ) → R a b → Contains es (a, b))
    → ((a b : ℕ) → Contains es (a, b) → R a b) → Decided (IsAcyclic R)
finite_decided R es to back =
    decided_as (λ never a p. never a (p.0, path_same R (Edge es) to a p.0 a p.1))
    (λ never a p. never a (p.0, path_same (Edge es) R back a p.0 a p.1)) (acyclic_decided es)

-- the edges of reads-from and need
record Found (R : ℕ → ℕ → Type 0) : Type 0 where
  edges : Edges
  there : (a b : ℕ) → R a b → Contains edges (a, b)
  back : (a b : ℕ) → Contains edges (a, b) → R a b

kept_edges : (P : ℕ → ℕ → Type 0) → ((a b : ℕ) → Decided (P a b)) → (es : Edges)
    → Found (λ a b. Contains es (a, b) × P a b)
kept_edges P each [] =
    record {
      edges = [];
      there = λ a b h. absurd (no_member (a, b) h.0);
      back = λ a b c. absurd (no_member (a, b) c);
    }
kept_edges P each ((u, v) ∷ es) = go (each u v) (kept_edges P each es)
  where
    go : Decided (P u v) → Found (λ a b. Contains es (a, b) × P a b)
        → Found (λ a b. Contains ((u, v) ∷ es) (a, b) × P a b)
    go (inl p) f = record {
      edges = (u, v) ∷ f.edges;
      there = λ a b h. elim (member_cases (u, v) es (a, b) h.0) [
        | inl e ↦ subst (λ (q : ℕ × ℕ). Contains ((u, v) ∷ f.edges) q) e
            (member_first (u, v) f.edges)
        | inr d ↦ member_later (u, v) f.edges (a, b) (f.there a b (d, h.1))
      ];
      back = λ a b c. elim (member_cases (u, v) f.edges (a, b) c) [
        | inl e ↦
            let s : (u ≡ a) × (v ≡ b) = pair_is u v a b e in (
              subst (λ (q : ℕ × ℕ). Contains ((u, v) ∷ es) q) e (member_first (u, v) es),
              subst (λ (x : ℕ). P x b) s.0 (subst (λ (y : ℕ). P u y) s.1 p),
            )
        | inr d ↦
            let h : Contains es (a, b) × P a b = f.back a b d in
            (member_later (u, v) es (a, b) h.0, h.1)
      ];
    }
    go (inr n) f = record {
      edges = f.edges;
      there = λ a b h. elim (member_cases (u, v) es (a, b) h.0) [
        | inl e ↦
            let s : (u ≡ a) × (v ≡ b) = pair_is u v a b e in
            absurd (n (subst (λ (x : ℕ). P x v) (sym s.0) (subst (λ (y : ℕ). P a y) (sym s.1) h.1)))
        | inr d ↦ f.there a b (d, h.1)
      ];
      back =
          λ a b c.
          let h : Contains es (a, b) × P a b = f.back a b c in
          (member_later (u, v) es (a, b) h.0, h.1);
    }

found_as : (R S : ℕ → ℕ → Type 0) → ((a b : ℕ) → R a b → S a b) → ((a b : ℕ) → S a b → R a b)
    → Found R → Found S
found_as R S to from f =
    record {
      edges = f.edges;
      there = λ a b h. f.there a b (from a b h);
      back = λ a b c. to a b (f.back a b c);
    }

-- the pairs of two lists
one_read : (l s : ℕ) (loads reads_from : List ℕ) → Found (ReadsFrom loads reads_from)
    → Found (ReadsFrom (l ∷ loads) (s ∷ reads_from))
one_read l s loads reads_from rest = record {
  edges = (s, l) ∷ rest.edges;
  there = λ a b h. to a b h.0 h.1 h.2 h.3 h.4;
  back = λ a b c. elim (member_cases (s, l) rest.edges (a, b) c) [
    | inl e ↦
        let i : (s ≡ a) × (l ≡ b) = pair_is s l a b e in
        (0, omega arith, omega arith, sym i.0, sym i.1)
    | inr d ↦
        let h : ReadsFrom loads reads_from a b = rest.back a b d in
        (suc h.0, omega (arith, h.1), omega (arith, h.2), h.3, h.4)
  ];
}
  where
    to : (a b i : ℕ) → i < length (s ∷ reads_from) → i < length (l ∷ loads) → a ≡ get_or (s ∷ reads_from) i 0
        → b ≡ get_or (l ∷ loads) i 0 → Contains ((s, l) ∷ rest.edges) (a, b)
    to a b zero lt lt' e f =
        subst (λ (x : ℕ). Contains ((s, l) ∷ rest.edges) (x, b)) (sym e) (subst
        (λ (y : ℕ). Contains ((s, l) ∷ rest.edges) (s, y)) (sym f)
        (member_first (s, l) rest.edges))
    to a b (suc i) lt lt' e f =
        member_later (s, l) rest.edges (a, b) (rest.there a b
        (i, omega (arith, lt), omega (arith, lt'), e, f))

reads_edges : (loads reads_from : List ℕ) → Found (ReadsFrom loads reads_from)
reads_edges [] reads_from =
    record {
      edges = [];
      there = λ a b h. let lt : h.0 < 0 = h.2 in absurd (omega (arith, lt));
      back = λ a b c. absurd (no_member (a, b) c);
    }
reads_edges (l ∷ loads) [] =
    record {
      edges = [];
      there = λ a b h. let lt : h.0 < 0 = h.1 in absurd (omega (arith, lt));
      back = λ a b c. absurd (no_member (a, b) c);
    }
reads_edges (l ∷ loads) (s ∷ reads_from) = one_read l s loads reads_from (reads_edges loads reads_from)

union_edges : (R S : ℕ → ℕ → Type 0) → Found R → Found S → Found (Union R S)
union_edges R S f g = record {
  edges = f.edges ++ g.edges;
  there =
      λ a b u. elim u [
        | inl r ↦ Contains-append_left f.edges g.edges (a, b) (f.there a b r)
        | inr s
            ↦ Contains-append_right f.edges g.edges (a, b) (g.there a b s)
      ];
  back =
      λ a b c. elim (Contains-append_cases f.edges g.edges (a, b) c)
      [ inl d ↦ inl (f.back a b d) | inr d ↦ inr (g.back a b d) ];
}

read_choice_decided : (es : List Event) (pairs : List (ℕ × ℕ)) (reads_from : List ℕ)
    → Decided (IsReadChoice (accesses_in es pairs) reads_from)
read_choice_decided es pairs reads_from =
    let need : Found (accesses_in es pairs).Need =
    found_as
    (λ a x. Contains pairs (a, x)
    × (Contains (numbers is_load 0 es) a × Contains (numbers is_store 0 es) x))
    (accesses_in es pairs).Need
    (λ a x h. (h.0, h.1.0, h.1.1))
    (λ a x h. (h.0, (h.1, h.2)))
    (kept_edges (λ a x. Contains (numbers is_load 0 es) a × Contains (numbers is_store 0 es) x)
    (λ a x. both_decided (member_decided (numbers is_load 0 es) a)
    (member_decided (numbers is_store 0 es) x)) pairs) in
    let all : Found (Union (accesses_in es pairs).Need (ReadsFrom (numbers is_load 0 es) reads_from)) = union_edges (accesses_in es pairs).Need (ReadsFrom (numbers is_load 0 es) reads_from) need (reads_edges (numbers is_load 0 es) reads_from) in
    finite_decided (Union (accesses_in es pairs).Need (ReadsFrom (numbers is_load 0 es) reads_from))
    all.edges all.there all.back

-- a filter by a fact that is decided
pub filtered : {X : Type 0} (P : X → Type 0) → ((x : X) → Decided (P x)) → (xs : List X)
    → (ys : List X) × IsFiltered P xs ys
filtered P each [] = ([], none)
filtered {X} P each (x ∷ xs) = go (each x) (filtered P each xs)
  where
    go : Decided (P x) → ((ys : List X) × IsFiltered P xs ys)
        → (ys : List X) × IsFiltered P (x ∷ xs) ys
    go (inl p) f = (x ∷ f.0, kept p f.1)
    go (inr n) f = (f.0, left n f.1)

-- so there are the combinations
pub combined : (n : ℕ) (bs : List PrefixLists)
    → (cs : List CombinationLists) × AreCombinations n bs cs
combined n [] = ([], nothing_left)
combined n (b ∷ bs) =
    go
    (filtered (IsReadChoice (accesses_in b.combination.events b.needs))
    (read_choice_decided b.combination.events b.needs) (tuples []
    (accesses_in b.combination.events b.needs).sources))
    (combined n bs)
  where
    go : ((choices : List (List ℕ)) × AreReadChoices b.combination.events b.needs choices)
        → ((cs : List CombinationLists) × AreCombinations n bs cs)
        → (cs : List CombinationLists) × AreCombinations n (b ∷ bs) cs
    go ([], are) rest = (rest.0, without are rest.1)
    go ((w ∷ ws), are) rest = (_, with_read_choices are rest.1)
