-- All beginnings go on by one line.
use Rattle.std.proofs.Common.{Vec, ℕ, zero, suc, arith, ◌≡◌, ◌<◌, ◌≤◌, ◌+◌, Bool, true, false, List, [], ◌∷◌, ◌++◌, map, length, get_or, drop, refl, sym, ap, subst, ◌∙◌, if◌then◌else◌, add-one}
use Rattle.std.specs.List.{flat_map}
use Rattle.std.specs.declared.alloc.Global.{Global}
use Rattle.std.proofs.Math.Seq.{drop-cons}
use Rattle.std.proofs.lemmas.List.{drop_all}
use Rattle.std.proofs.lemmas.List.Concat.{flat_map_single}
use Rattle.std.proofs.lemmas.Grind.{flat_map-append}
use Rattle.thread_runs.specs.declared.value.Value.{Value}
use Rattle.thread_runs.specs.declared.value.Value.TheVariants.{Number, Address, NoValue}
use Rattle.thread_runs.specs.declared.instruction.Instruction.{Instruction}
use Rattle.thread_runs.specs.declared.instruction.Line.{Line}
use Rattle.thread_runs.specs.declared.instruction.Line.TheVariants.{Label, Does}
use Rattle.thread_runs.specs.Machine.{address_of, is_load}
use Rattle.thread_runs.specs.AllRuns.{Beginning, gone_over, executes, with_load, next, all_from, served, spread_over, next_over, all_over}

pub flat_map-flat_map : {A B C : Type 0} (f : B → List C) (g : A → List B) (xs : List A)
    → flat_map f (flat_map g xs) ≡ flat_map (λ x. flat_map f (g x)) xs
flat_map-flat_map f g [] = refl
flat_map-flat_map f g (x ∷ xs) =
    flat_map-append f (g x) (flat_map g xs)
    ∙ ap (λ (ys : List _). flat_map f (g x) ++ ys) (flat_map-flat_map f g xs)

pub flat_map_same : {A B : Type 0} (f g : A → List B) (xs : List A) → ((x : A) → f x ≡ g x)
    → flat_map f xs ≡ flat_map g xs
flat_map_same f g [] same = refl
flat_map_same f g (x ∷ xs) same =
    let e = same x in let r : flat_map f xs ≡ flat_map g xs = flat_map_same f g xs same in cc

module _ (V : List Value) (held : List (Vec Value Global)) (bs : List Beginning) where
  pub label_next : (m : ℕ) → flat_map (next_over V held (Label m)) bs ≡ map (gone_over (Label m)) bs
  label_next m = flat_map_single (gone_over (Label m)) bs

  pub plain_next : (i : Instruction) → is_load i ≡ false
      → flat_map (next_over V held (Does i)) bs ≡ map (gone_over (Does i)) bs
  plain_next i plain =
      flat_map_same _ _ bs (λ b. ap
      (λ (c : Bool). if c then spread_over V held i b else gone_over (Does i) b ∷ []) plain)
      ∙ flat_map_single (gone_over (Does i)) bs

  pub load_next : (i : Instruction) → is_load i ≡ true
      → flat_map (next_over V held (Does i)) bs ≡ flat_map (spread_over V held i) bs
  load_next i load =
      flat_map_same _ _ bs (λ b.
      ap (λ (c : Bool). if c then spread_over V held i b else gone_over (Does i) b ∷ []) load)

  pub label_as : (x : Line) (m : ℕ) → x ≡ Label m
      → flat_map (next_over V held x) bs ≡ map (gone_over x) bs
  label_as x m e =
      subst (λ (y : Line). flat_map (next_over V held y) bs ≡ map (gone_over y) bs) (sym e)
      (label_next m)

  pub plain_as : (x : Line) (i : Instruction) → x ≡ Does i → is_load i ≡ false
      → flat_map (next_over V held x) bs ≡ map (gone_over (Does i)) bs
  plain_as x i e plain = ap (λ (y : Line). flat_map (next_over V held y) bs) e ∙ plain_next i plain

pub same_line : (xs : List Line) (k : ℕ) (d e : Line) → k < length xs
    → get_or xs k d ≡ get_or xs k e
same_line [] k d e lt = absurd (omega arith)
same_line (x ∷ xs) zero d e lt = refl
same_line (x ∷ xs) (suc k) d e lt = same_line xs k d e (omega arith)

module _ (V : List Value) (held : List (Vec Value Global)) (lines : List Line) (k : ℕ)
    (bs : List Beginning) where
  pub line_step : (d : Line) → k < length lines
      → flat_map (all_over V held (drop k lines)) bs
      ≡ flat_map (all_over V held (drop (k + 1) lines))
      (flat_map (next_over V held (get_or lines k d)) bs)
  line_step d lt =
      rw (same_line lines k d (Label 0) lt) (rw (add-one, drop-cons lines k (Label 0))
      (sym (flat_map-flat_map _ _ bs)))

  pub end_step : length lines ≤ k → flat_map (all_over V held (drop k lines)) bs ≡ bs
  end_step le =
      ap (λ (xs : List Line). flat_map (all_over V held xs) bs) (drop_all k lines le)
      ∙ flat_map_single (λ b. b) bs ∙ map_same bs
    where
      map_same : {A : Type 0} (xs : List A) → map (λ x. x) xs ≡ xs
      map_same [] = refl
      map_same (x ∷ xs) = ap (λ (ys : List _). x ∷ ys) (map_same xs)

-- where nothing is given of locations, loads take all values
module _ (V : List Value) where
  served_none : (a : Value) → served V [] a ≡ V
  served_none (Number n) = refl
  served_none (Address l) = refl
  served_none NoValue = refl

  next_none : (x : Line) (b : Beginning) → next_over V [] x b ≡ next V x b
  next_none (Label m) b = refl
  next_none (Does i) b =
      ap
      (λ (vs : List Value). if is_load i then (if executes i b then map (with_load i b) vs
      else gone_over (Does i) b ∷ [])
      else gone_over (Does i) b ∷ [])
      (served_none (address_of i b.walk.state))

  pub all_over_none : (xs : List Line) (b : Beginning) → all_over V [] xs b ≡ all_from V xs b
  all_over_none [] b = refl
  all_over_none (x ∷ xs) b =
      ap (flat_map (all_over V [] xs)) (next_none x b)
      ∙ flat_map_same (all_over V [] xs) (all_from V xs) (next V x b) (all_over_none xs)
