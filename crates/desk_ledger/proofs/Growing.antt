-- What readers see only grows.
use Rattle.std.proofs.Common.{◌≡◌, ◌⊎◌, inl, inr, Bool, true, false, List, [], ◌∷◌, ◌++◌, sym, ◌∙◌, subst}
use Rattle.std.specs.Prelude.{MatchBool}
use mathlib.Core.List.{IsPrefix}
use Rattle.desk_history.proofs.Fronts.{prefix_self, prefix_trans}

pub prefix_same : {A : Type 0} (xs ys : List A) → ys ≡ xs → IsPrefix xs ys
prefix_same xs ys e = subst (λ (l : List _). IsPrefix xs l) (sym e) (prefix_self xs)

-- all is shown, or what was shown before
pub grown_by : {A : Type 0} (b : Bool) (old all new : List A) → IsPrefix old all
    → MatchBool b (new ≡ all) (new ≡ old) → IsPrefix old new
grown_by true old all new begins e = subst (λ (l : List _). IsPrefix old l) (sym e) begins
grown_by false old all new begins e = prefix_same old new e

-- it grew, from what is the same as before
pub grown_from : {A : Type 0} (old mid new : List A) → mid ≡ old → IsPrefix mid new
    → IsPrefix old new
grown_from old mid new e p = subst (λ (l : List _). IsPrefix l new) e p

-- all is shown or what is the same as before
pub whole_from : {A : Type 0} (old mid all new : List A) → mid ≡ old → (new ≡ all) ⊎ (new ≡ mid)
    → (new ≡ all) ⊎ (new ≡ old)
whole_from old mid all new e (inl h) = inl h
whole_from old mid all new e (inr h) = inr (h ∙ e)

-- ---- what was appended goes on from what a viewer knew

pub begins_after : {A : Type 0} (me old more all : List A) → IsPrefix me old → all ≡ old ++ more
    → IsPrefix me all
begins_after me old more all p e = prefix_trans me old all p (more, sym e)

pub begins_edit : {A : Type 0} (me old : List A) (op : A) (list more all : List A)
    → IsPrefix me old → list ≡ old ++ op ∷ [] → all ≡ list ++ more → IsPrefix me all
begins_edit me old op list more all p made e =
    begins_after me list more all (begins_after me old (op ∷ []) list p made) e
