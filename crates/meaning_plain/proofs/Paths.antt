-- A relation that is closed through the begin of each of its pairs in turn has all its paths.
use Rattle.std.proofs.Common.{◌≡◌, ◌↔◌, ◌⊎◌, inl, inr, ℕ, ◌+◌, ◌<◌, List, [], ◌∷◌, ◌++◌, length, take, get_or, Contains, refl, sym, subst}
use Rattle.std.proofs.lemmas.List.{take_more}
use Rattle.std.proofs.lemmas.List.Elements.{Contains-push, Contains-push_cases, Contains-append_left}
use Rattle.meaning.specs.Sets.{Relation, Path, Transitive}
use Rattle.meaning_plain.specs.Lists.{RelationOf, HasPairs, Through}
use Rattle.meaning_plain.proofs.Growing.{by_cases, nothing_there}

-- the thing is the begin of some pair of the list
abbrev pub IsBegin : List (ℕ × ℕ) → ℕ → Type 0
IsBegin ks c = (p : ℕ × ℕ) × Contains ks p × (p.0 ≡ c)

-- all of them are begins
abbrev pub AreBegins : List (ℕ × ℕ) → List ℕ → Type 0
AreBegins ks [] = Unit {0}
AreBegins ks (c ∷ cs) = IsBegin ks c × AreBegins ks cs

-- a path through begins alone
abbrev pub PathBy : List (ℕ × ℕ) → Relation ℕ → Relation ℕ
PathBy ks R a b = (cs : List ℕ) × Path R a cs b × AreBegins ks cs

begin_push : (ks : List (ℕ × ℕ)) (k : ℕ × ℕ) (c : ℕ) → IsBegin ks c → IsBegin (ks ++ k ∷ []) c
begin_push ks k c h = (h.0, Contains-append_left ks (k ∷ []) h.0 h.1, h.2)

begins_push : (ks : List (ℕ × ℕ)) (k : ℕ × ℕ) (cs : List ℕ) → AreBegins ks cs
    → AreBegins (ks ++ k ∷ []) cs
begins_push ks k [] h = tt
begins_push ks k (c ∷ cs) h = (begin_push ks k c h.0, begins_push ks k cs h.1)

-- a begin is an earlier one, or the last
begin_cases : (ks : List (ℕ × ℕ)) (k : ℕ × ℕ) (c : ℕ) → IsBegin (ks ++ k ∷ []) c
    → IsBegin ks c ⊎ (k.0 ≡ c)
begin_cases ks k c h =
    by_cases (λ there. inl (h.0, there, h.2))
    (λ e. inr (subst (λ (p : ℕ × ℕ). p.0 ≡ c) (sym e) h.2)) (Contains-push_cases ks k h.0 h.1)

-- one step before a path
before : (ks : List (ℕ × ℕ)) (R : Relation ℕ) (a c b : ℕ) → IsBegin ks c → R a c
    → PathBy ks R c b → PathBy ks R a b
before ks R a c b is step h = (c ∷ h.0, (step, h.1), (is, h.2))

-- a path through one begin more goes through the earlier ones, or twice so and through this one
-- between: cut at the first step
cut : (ks : List (ℕ × ℕ)) (k : ℕ × ℕ) (R : Relation ℕ) (a c b : ℕ)
    → IsBegin ks c ⊎ (k.0 ≡ c) → R a c → Through (PathBy ks R) k.0 c b
    → Through (PathBy ks R) k.0 a b
cut ks k R a c b (inl is) step (inl h) = inl (before ks R a c b is step h)
cut ks k R a c b (inl is) step (inr h) = inr (before ks R a c k.0 is step h.0, h.1)
cut ks k R a c b (inr e) step (inl h) =
    inr (
      ([], subst (λ (x : ℕ). R a x) (sym e) step, tt),
      subst (λ (x : ℕ). PathBy ks R x b) (sym e) h,
    )
cut ks k R a c b (inr e) step (inr h) =
    inr (([], subst (λ (x : ℕ). R a x) (sym e) step, tt), h.1)

path_cut : (ks : List (ℕ × ℕ)) (k : ℕ × ℕ) (R : Relation ℕ) (a : ℕ) (cs : List ℕ) (b : ℕ)
    → Path R a cs b → AreBegins (ks ++ k ∷ []) cs → Through (PathBy ks R) k.0 a b
path_cut ks k R a [] b path are = inl ([], path, tt)
path_cut ks k R a (c ∷ cs) b path are =
    cut ks k R a c b (begin_cases ks k c are.0) path.0 (path_cut ks k R c cs b path.1 are.1)

-- two paths, one behind the other
joined : (ks : List (ℕ × ℕ)) (R : Relation ℕ) (a : ℕ) (cs : List ℕ) (m b : ℕ) → IsBegin ks m
    → Path R a cs m → AreBegins ks cs → PathBy ks R m b → PathBy ks R a b
joined ks R a [] m b is path are h = before ks R a m b is path h
joined ks R a (c ∷ cs) m b is path are h =
    before ks R a c b are.0 path.0 (joined ks R c cs m b is path.1 are.1 h)

pushed : (ks : List (ℕ × ℕ)) (k : ℕ × ℕ) (R : Relation ℕ) (a b : ℕ) → PathBy ks R a b
    → PathBy (ks ++ k ∷ []) R a b
pushed ks k R a b h = (h.0, h.1, begins_push ks k h.0 h.2)

-- so a path through one begin more is of one of the two kinds, and the other way round
pub one_more : (ks : List (ℕ × ℕ)) (k : ℕ × ℕ) (R : Relation ℕ) (a b : ℕ)
    → Through (PathBy ks R) k.0 a b ↔ PathBy (ks ++ k ∷ []) R a b
one_more ks k R a b = (to, λ h. path_cut ks k R a h.0 b h.1 h.2)
  where
    last : IsBegin (ks ++ k ∷ []) k.0
    last = (k, Contains-push ks k, refl)

    to : Through (PathBy ks R) k.0 a b → PathBy (ks ++ k ∷ []) R a b
    to (inl h) = pushed ks k R a b h
    to (inr h) =
        let first : PathBy (ks ++ k ∷ []) R a k.0 = pushed ks k R a k.0 h.0 in
        joined (ks ++ k ∷ []) R a first.0 k.0 b last first.1 first.2 (pushed ks k R k.0 b h.1)

-- ---- the loop

pub paths_begin : (ps xs : List (ℕ × ℕ)) → xs ≡ ps → HasPairs (PathBy [] (RelationOf ps)) xs
paths_begin ps xs e a b = (
  (λ h. ([], subst (λ (l : List (ℕ × ℕ)). Contains l (a, b)) e h, tt)),
  λ h. subst (λ (l : List (ℕ × ℕ)). Contains l (a, b)) (sym e) (alone h.0 h.1 h.2),
)
  where
    alone : (cs : List ℕ) → Path (RelationOf ps) a cs b → AreBegins [] cs → Contains ps (a, b)
    alone [] path are = path
    alone (c ∷ cs) path are = absurd (nothing_there are.0.0 are.0.1)

through_as : (R S : Relation ℕ) (k : ℕ) → ((a b : ℕ) → R a b ↔ S a b) → (a b : ℕ)
    → Through R k a b ↔ Through S k a b
through_as R S k same a b = (to, back)
  where
    to : Through R k a b → Through S k a b
    to (inl h) = inl ((same a b).0 h)
    to (inr h) = inr ((same a k).0 h.0, (same k b).0 h.1)

    back : Through S k a b → Through R k a b
    back (inl h) = inl ((same a b).1 h)
    back (inr h) = inr ((same a k).1 h.0, (same k b).1 h.1)

pub paths_more : (ps : List (ℕ × ℕ)) (i : ℕ) (d : ℕ × ℕ) (R : Relation ℕ)
    (old same new : List (ℕ × ℕ)) → i < length ps → same ≡ old
    → HasPairs (PathBy (take i ps) R) old
    → HasPairs (Through (RelationOf same) (get_or ps i d).0) new
    → HasPairs (PathBy (take (i + 1) ps) R) new
paths_more ps i d R old same new lt e are through =
    subst (λ (l : List (ℕ × ℕ)). HasPairs (PathBy l R) new) (sym (take_more ps i d lt))
    (λ a b. (
      (λ h. (one_more (take i ps) (get_or ps i d) R a b).0 ((via a b).0 ((through a b).0 h))),
      λ h. (through a b).1 ((via a b).1 ((one_more (take i ps) (get_or ps i d) R a b).1 h)),
    ))
  where
    own : HasPairs (PathBy (take i ps) R) same
    own = subst (λ (l : List (ℕ × ℕ)). HasPairs (PathBy (take i ps) R) l) (sym e) are

    via : (a b : ℕ) → Through (RelationOf same) (get_or ps i d).0 a b
        ↔ Through (PathBy (take i ps) R) (get_or ps i d).0 a b
    via = through_as (RelationOf same) (PathBy (take i ps) R) (get_or ps i d).0 own

-- each thing that a path goes through is a begin
all_begins : (ps : List (ℕ × ℕ)) (a : ℕ) (cs : List ℕ) (b : ℕ) → Path (RelationOf ps) a cs b
    → AreBegins ps cs
all_begins ps a [] b path = tt
all_begins ps a (c ∷ []) b path = (((c, b), path.1, refl), tt)
all_begins ps a (c ∷ (e ∷ cs)) b path =
    (((c, e), path.1.0, refl), all_begins ps c (e ∷ cs) b path.1)

pub paths_all : (ps xs : List (ℕ × ℕ)) → HasPairs (PathBy ps (RelationOf ps)) xs
    → HasPairs (Transitive (RelationOf ps)) xs
paths_all ps xs are a b = (
  (λ h. let path : PathBy ps (RelationOf ps) a b = (are a b).0 h in (path.0, path.1)),
  λ h. (are a b).1 (h.0, h.1, all_begins ps a h.0 b h.1),
)
