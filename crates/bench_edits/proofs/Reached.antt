-- The nodes that a settled node stands on: they are settled too, and so are all that they use.
use Rattle.std.proofs.Common.{ℕ, ◌≡◌, zero, suc, List, [], ◌∷◌, Bool, true, false, ◌||◌, refl, subst}
use Rattle.std.specs.List.{AllByRecursion as Each}
use Rattle.std.proofs.lemmas.Bool.{or_left, or_right}
use Rattle.memo_core.specs.declared.keys.Node.{Node}
use Rattle.memo_core.specs.Names.{same_node}
use Rattle.memo_core.specs.Graph.{Memo, Net, input_nodes, IsSettledBy, IsSettled}
use Rattle.memo_core.proofs.Tests.{same_node_exact, same_node_refl}

abbrev pub any_of : (Node → Bool) → List Node → Bool
any_of f [] = false
any_of f (n ∷ ns) = f n || any_of f ns

-- whether the first node stands on the second, so many steps down
abbrev pub reached : {G : Type 0} → ℕ → Net G → Node → Node → Bool
reached zero net n m = false
reached (suc d) net n m =
    same_node n m || any_of (λ k. reached d net k m) (input_nodes (net.inputs n))

-- what holds of all of the first kind holds of all of the second
pub all_map : (P Q : Node → Type 0) → ((n : Node) → P n → Q n) → (ns : List Node) → Each P ns
    → Each Q ns
all_map P Q f [] h = tt
all_map P Q f (n ∷ ns) h = (f n h.0, all_map P Q f ns h.1)

-- each of these nodes is found by a test that finds it
any_each : (f : Node → Node → Bool) (ns : List Node) → Each (λ n. f n n ≡ true) ns
    → Each (λ m. any_of (λ k. f k m) ns ≡ true) ns
any_each f [] h = tt
any_each f (n ∷ ns) h = (
  or_left (f n n) (any_of (λ k. f k n) ns) h.0,
  all_map (λ m. any_of (λ k. f k m) ns ≡ true) (λ m. (f n m || any_of (λ k. f k m) ns) ≡ true)
      (λ m e. or_right (f n m) (any_of (λ k. f k m) ns) e) ns (any_each f ns h.1),
)

-- what follows where one of these nodes passes the test
pub any_gives : (f : Node → Bool) (P : Node → Type 0) (X : Type 0)
    → ((n : Node) → f n ≡ true → P n → X) → (ns : List Node) → Each P ns → any_of f ns ≡ true → X
any_gives f P X g [] all h = absurd (let e : false ≡ true = h in cc)
any_gives f P X g (n ∷ ns) all h = by_test (f n) refl h (any_gives f P X g ns all.1)
  where
    by_test : (b : Bool) → f n ≡ b → (b || any_of f ns) ≡ true → (any_of f ns ≡ true → X) → X
    by_test true e h later = g n e all.0
    by_test false e h later = later h

-- where one of these nodes reaches a node, they reach what that node uses
any_closed : (f : Node → Node → Bool) (P : Node → Type 0) (m : Node) (uses : List Node)
    → ((j : Node) → P j → f j m ≡ true → Each (λ k. f j k ≡ true) uses) → (ns : List Node)
    → Each P ns → any_of (λ j. f j m) ns ≡ true → Each (λ k. any_of (λ j. f j k) ns ≡ true) uses
any_closed f P m uses each [] all h = absurd (let e : false ≡ true = h in cc)
any_closed f P m uses each (n ∷ ns) all h =
    by_test (f n m) refl h (any_closed f P m uses each ns all.1)
  where
    by_test : (b : Bool) → f n m ≡ b → (b || any_of (λ j. f j m) ns) ≡ true
        → (any_of (λ j. f j m) ns ≡ true → Each (λ k. any_of (λ j. f j k) ns ≡ true) uses)
        → Each (λ k. (f n k || any_of (λ j. f j k) ns) ≡ true) uses
    by_test true e h later =
        all_map (λ k. f n k ≡ true) (λ k. (f n k || any_of (λ j. f j k) ns) ≡ true)
        (λ k r. or_left (f n k) (any_of (λ j. f j k) ns) r) uses (each n all.0 e)
    by_test false e h later =
        all_map (λ k. any_of (λ j. f j k) ns ≡ true) (λ k. (f n k || any_of (λ j. f j k) ns) ≡ true)
        (λ k r. or_right (f n k) (any_of (λ j. f j k) ns) r) uses (later h)

both_all : (P Q : Node → Type 0) (ns : List Node) → Each P ns → Each Q ns → Each (λ n. P n × Q n) ns
both_all P Q [] h g = tt
both_all P Q (n ∷ ns) h g = ((h.0, g.0), both_all P Q ns h.1 g.1)

module _ {V G : Type 0} (net : Net G) (memos : List (Memo V)) where
  pub itself : (d : ℕ) (n : Node) → IsSettledBy d net memos n → reached d net n n ≡ true
  itself zero n s = absurd s
  itself (suc d) n s =
      or_left (same_node n n) (any_of (λ k. reached d net k n) (input_nodes (net.inputs n)))
      (same_node_refl n)

  inputs_reached : (d : ℕ) (n : Node) → Each (IsSettledBy d net memos) (input_nodes (net.inputs n))
      → Each (λ m. any_of (λ k. reached d net k m) (input_nodes (net.inputs n)) ≡ true)
      (input_nodes (net.inputs n))
  inputs_reached d n s =
      any_each (reached d net) (input_nodes (net.inputs n)) (all_map (IsSettledBy d net memos)
      (λ k. reached d net k k ≡ true) (itself d) (input_nodes (net.inputs n)) s)

  deeper : (d : ℕ) (n : Node) (ks : List Node)
      → Each (λ k. any_of (λ j. reached d net j k) (input_nodes (net.inputs n)) ≡ true) ks
      → Each (λ k. reached (suc d) net n k ≡ true) ks
  deeper d n ks h =
      all_map (λ k. any_of (λ j. reached d net j k) (input_nodes (net.inputs n)) ≡ true)
      (λ k. reached (suc d) net n k ≡ true)
      (λ k e.
      or_right (same_node n k) (any_of (λ j. reached d net j k) (input_nodes (net.inputs n))) e)
      ks h

  -- a node that is reached uses nodes that are reached
  pub closed : (d : ℕ) (n m : Node) → IsSettledBy d net memos n → reached d net n m ≡ true
      → Each (λ k. reached d net n k ≡ true) (input_nodes (net.inputs m))
  closed zero n m s r = absurd s
  closed (suc d) n m s r = by_test (same_node n m) refl r (λ j sj e. closed d j m sj e)
    where
      by_test : (b : Bool) → same_node n m ≡ b
          → (b || any_of (λ k. reached d net k m) (input_nodes (net.inputs n))) ≡ true
          → ((j : Node) → IsSettledBy d net memos j → reached d net j m ≡ true
          → Each (λ k. reached d net j k ≡ true) (input_nodes (net.inputs m)))
          → Each (λ k. reached (suc d) net n k ≡ true) (input_nodes (net.inputs m))
      by_test true e h each =
          subst
          (λ (x : Node). Each (λ k. reached (suc d) net n k ≡ true) (input_nodes (net.inputs x)))
          (same_node_exact n m e) (deeper d n (input_nodes (net.inputs n)) (inputs_reached d n s.1))
      by_test false e h each =
          deeper d n (input_nodes (net.inputs m)) (any_closed (reached d net)
          (IsSettledBy d net memos) m (input_nodes (net.inputs m)) each
          (input_nodes (net.inputs n)) s.1 h)

  -- a node that is reached is settled, and there
  pub stands : (is_there : Node → Type 0)
      → ((n : Node) → is_there n → Each is_there (input_nodes (net.inputs n)))
      → (d : ℕ) (n m : Node) → IsSettledBy d net memos n → is_there n → reached d net n m ≡ true
      → IsSettled net memos m × is_there m
  stands is_there there zero n m s t r = absurd s
  stands is_there there (suc d) n m s t r =
      by_test (same_node n m) refl r (λ j sj tj e. stands is_there there d j m sj tj e)
    where
      by_test : (b : Bool) → same_node n m ≡ b
          → (b || any_of (λ k. reached d net k m) (input_nodes (net.inputs n))) ≡ true
          → ((j : Node) → IsSettledBy d net memos j → is_there j → reached d net j m ≡ true
          → IsSettled net memos m × is_there m) → IsSettled net memos m × is_there m
      by_test true e h each =
          subst (λ (x : Node). IsSettled net memos x × is_there x) (same_node_exact n m e)
          ((suc d, s), t)
      by_test false e h each =
          any_gives (λ k. reached d net k m) (λ k. IsSettledBy d net memos k × is_there k)
          (IsSettled net memos m × is_there m) (λ j r p. each j p.0 p.1 r)
          (input_nodes (net.inputs n))
          (both_all (IsSettledBy d net memos) is_there (input_nodes (net.inputs n)) s.1 (there n t))
          h
