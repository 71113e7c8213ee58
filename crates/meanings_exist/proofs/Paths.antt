-- Whether a path leads from one thing to another is decided, where each step is, and ends in a list.
use Rattle.std.proofs.Common.{◌≡◌, ◌⊎◌, inl, inr, List, [], ◌∷◌, Contains, sym, subst}
use Rattle.meaning.specs.Sets.{Relation, Path, Transitive, IsAcyclic}
use Rattle.meaning.proofs.Counting.{here, behind, head_or_tail}
use Rattle.plain_runs.proofs.Listing.{none_there}
use Rattle.meanings_exist.proofs.Decisions.{Decided, decided_as, both_decided, either_decided, not_decided}
use Rattle.meanings_exist.proofs.Finite.{finite_list, each_decided}

-- All of them stand in the first list.
abbrev pub AreIn : {X : Type 0} → List X → List X → Type 0
AreIn ks [] = Unit {0}
AreIn ks (c ∷ cs) = Contains ks c × AreIn ks cs

-- a path through things of a list alone
abbrev pub PathBy : {X : Type 0} → List X → Relation X → Relation X
PathBy {X} ks R a b = (cs : List X) × Path R a cs b × AreIn ks cs

module _ {X : Type 0} (R : Relation X) where
  more : (k : X) (ks cs : List X) → AreIn ks cs → AreIn (k ∷ ks) cs
  more k ks [] are = tt
  more k ks (c ∷ cs) are = (behind k ks c are.0, more k ks cs are.1)

  wider : (k : X) (ks : List X) (a b : X) → PathBy ks R a b → PathBy (k ∷ ks) R a b
  wider k ks a b h = (h.0, h.1, more k ks h.0 h.2)

  before : (ks : List X) (a c b : X) → R a c → Contains ks c → PathBy ks R c b
      → PathBy ks R a b
  before ks a c b step there h = (c ∷ h.0, (step, h.1), (there, h.2))

  -- two paths, one behind the other
  joined : (ks : List X) (a : X) (cs : List X) (m b : X) → Contains ks m → Path R a cs m
      → AreIn ks cs → PathBy ks R m b → PathBy ks R a b
  joined ks a [] m b there path are h = before ks a m b path there h
  joined ks a (c ∷ cs) m b there path are h =
      before ks a c b path.0 are.0 (joined ks c cs m b there path.1 are.1 h)

  -- a path through one thing more goes through the others alone, or twice so with this thing between
  abbrev Through : X → List X → Relation X
  Through k ks a b = PathBy ks R a b ⊎ (PathBy ks R a k × PathBy ks R k b)

  direct : (ks : List X) (a c : X) → R a c → PathBy ks R a c
  direct ks a c step = ([], step, tt)

  cut_step : (k : X) (ks : List X) (a c b : X) → R a c → (k ≡ c) ⊎ Contains ks c
      → Through k ks c b → Through k ks a b
  cut_step k ks a c b step (inr there) (inl h) = inl (before ks a c b step there h)
  cut_step k ks a c b step (inr there) (inr h) =
      inr (before ks a c k step there h.0, h.1)
  cut_step k ks a c b step (inl e) (inl h) =
      inr (
        direct ks a k (subst (λ (z : X). R a z) (sym e) step),
        subst (λ (z : X). PathBy ks R z b) (sym e) h,
      )
  cut_step k ks a c b step (inl e) (inr h) =
      inr (direct ks a k (subst (λ (z : X). R a z) (sym e) step), h.1)

  cut : (k : X) (ks : List X) (a : X) (cs : List X) (b : X) → Path R a cs b
      → AreIn (k ∷ ks) cs → Through k ks a b
  cut k ks a [] b path are = inl (direct ks a b path)
  cut k ks a (c ∷ cs) b path are =
      cut_step k ks a c b path.0 (head_or_tail k ks c are.0) (cut k ks c cs b path.1 are.1)

  back : (k : X) (ks : List X) (a b : X) → Through k ks a b → PathBy (k ∷ ks) R a b
  back k ks a b (inl h) = wider k ks a b h
  back k ks a b (inr h) =
      let first : PathBy (k ∷ ks) R a k = wider k ks a k h.0 in
      joined (k ∷ ks) a first.0 k b (here k ks) first.1 first.2 (wider k ks k b h.1)

  alone : (a : X) (cs : List X) (b : X) → Path R a cs b → AreIn [] cs → R a b
  alone a [] b path are = path
  alone a (c ∷ cs) b path are = absurd (none_there c are.0)

  by_decided : ((a b : X) → Decided (R a b)) → (ks : List X) (a b : X)
      → Decided (PathBy ks R a b)
  by_decided step [] a b =
      decided_as (λ s. direct [] a b s) (λ h. alone a h.0 b h.1 h.2) (step a b)
  by_decided step (k ∷ ks) a b =
      decided_as (λ h. back k ks a b h) (λ h. cut k ks a h.0 b h.1 h.2)
      (either_decided (by_decided step ks a b)
      (both_decided (by_decided step ks a k) (by_decided step ks k b)))

  module _ (ks : List X) (inside : (a b : X) → R a b → Contains ks b) where
    pub path_ends : (a : X) (cs : List X) (b : X) → Path R a cs b → Contains ks b
    path_ends a [] b path = inside a b path
    path_ends a (c ∷ cs) b path = path_ends c cs b path.1

    all_in : (a : X) (cs : List X) (b : X) → Path R a cs b → AreIn ks cs
    all_in a [] b path = tt
    all_in a (c ∷ cs) b path = (inside a c path.0, all_in c cs b path.1)

    pub transitive_decided : ((a b : X) → Decided (R a b)) → (a b : X)
        → Decided (Transitive R a b)
    transitive_decided step a b =
        decided_as (λ h. (h.0, h.1)) (λ h. (h.0, h.1, all_in a h.0 b h.1))
        (by_decided step ks a b)

    pub acyclic_decided : ((a b : X) → Decided (R a b)) → Decided (IsAcyclic R)
    acyclic_decided step =
        decided_as (λ h a loop. h a (path_ends a loop.0 a loop.1) loop)
        (λ h a there loop. h a loop)
        (each_decided (λ a. Contains ks a) (λ a. Transitive R a a → ⊥) (finite_list ks)
        (λ a there. not_decided (transitive_decided step a a)))
