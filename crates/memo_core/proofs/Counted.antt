use Rattle.std.proofs.Common.{◌≡◌, ℕ, List, [], ◌∷◌, refl, ap₂, subst, sym, ◌∙◌}
use Rattle.std.specs.List.{AllByRecursion as Each}
use Rattle.memo_core.specs.declared.keys.Node.{Node}
use Rattle.memo_core.specs.declared.keys.Key.{Key}
use Rattle.memo_core.specs.declared.keys.Key.TheVariants.{Part, Output}
use Rattle.memo_core.specs.declared.keys.Input.{Input}
use Rattle.memo_core.specs.Graph.{Memo, Net, present_inputs, HasPartStamp, AreAsNow}
use Rattle.memo_core.specs.Right.{Making, IsMadeNow, CountsAsComputed, IsSamePart}
use Rattle.memo_core.specs.Laws.{GivenStays}

-- the present inputs are as now
pub as_now_present : {V G : Type 0} (net : Net G) (memos : List (Memo V)) (ks : List Key)
    → AreAsNow net (present_inputs net memos ks) ks
as_now_present net memos [] = tt
as_now_present net memos (Part p q ∷ ks) = (refl, refl, as_now_present net memos ks)
as_now_present net memos (Output n x ∷ ks) = (refl, tt, as_now_present net memos ks)

-- a stamp that a part has in both is one stamp
same_part : {G : Type 0} (a b : Net G) (k : Key) (s : ℕ) → HasPartStamp a k s → HasPartStamp b k s
    → IsSamePart a b k
same_part a b (Part p q) s h i = sym i ∙ h
same_part a b (Output n x) s h i = tt

-- inputs that are as now on both texts have one list of keys, and parts of one stamp
pub as_both : {G : Type 0} (a b : Net G) (is : List Input) (ks ls : List Key) → AreAsNow a is ks
    → AreAsNow b is ls → (ls ≡ ks) × Each (IsSamePart a b) ls
as_both a b [] [] [] h i = (refl, tt)
as_both a b [] [] (l ∷ ls) h i = absurd i
as_both a b [] (k ∷ ks) ls h i = absurd h
as_both a b (x ∷ is) [] ls h i = absurd h
as_both a b (x ∷ is) (k ∷ ks) [] h i = absurd i
as_both a b (x ∷ is) (k ∷ ks) (l ∷ ls) h i =
    let e : k ≡ l = sym h.0 ∙ i.0 in
    let rest = as_both a b is ks ls h.2 i.2 in (
      ap₂ (λ (k : Key) (ks : List Key). k ∷ ks) (sym e) rest.0,
      (
        same_part a b l x.stamp (subst (λ (k : Key). HasPartStamp a k x.stamp) e h.1) i.1,
        rest.1,
      ),
    )

module _ {T V G : Type 0} (is_valid : T → Type 0) (since : T → T → Type 0) (net : T → Net G)
    (makes : Making V G) where
  -- what is made now counts
  pub counted_now : (t : T) → since t t
      → (n : Node) (is : List Input) (vs : List V) (os : List (ℕ × V))
      → AreAsNow (net t) is ((net t).inputs n) → IsMadeNow makes (net t) n vs os
      → CountsAsComputed since net makes t n is vs os
  counted_now t same n is vs os as_now made =
      record { before = t; came = same; as_then = as_now; then = made }

  -- what counted still does on later texts
  pub counted_later : (t u : T) → ((w : T) → since w t → since w u)
      → (n : Node) (is : List Input) (vs : List V) (os : List (ℕ × V))
      → CountsAsComputed since net makes t n is vs os → CountsAsComputed since net makes u n is vs os
  counted_later t u on n is vs os c =
      record { before = c.before; came = on c.before c.came; as_then = c.as_then; then = c.then }

  -- what counts, from inputs that are as now, is made now
  pub counted_made : GivenStays is_valid since net → (t : T) → is_valid t
      → (n : Node) (is : List Input) (vs : List V) (os : List (ℕ × V))
      → CountsAsComputed since net makes t n is vs os → AreAsNow (net t) is ((net t).inputs n)
      → IsMadeNow makes (net t) n vs os
  counted_made stays t valid n is vs os c as_now =
      let both = as_both (net c.before) (net t) is ((net c.before).inputs n) ((net t).inputs n) c.as_then as_now in
      record {
        given = (c.then).given;
        gives = stays c.before t n (c.then).given valid c.came both.0 both.1 (c.then).gives;
        made =
            subst (λ (ks : List Key). makes n (c.then).given ks vs os) (sym both.0) (c.then).made;
      }
