-- All free runs go on by one line.
use Rattle.std.proofs.Common.{ℕ, ◌≡◌, Bool, false, List, [], ◌∷◌, map, refl, sym, ap, subst, ◌∙◌, Option, Some, None}
use Rattle.std.specs.List.{flat_map}
use Rattle.std.proofs.lemmas.List.Concat.{flat_map_single}
use Rattle.thread_runs.specs.declared.value.Value.{Value}
use Rattle.thread_runs.specs.declared.instruction.Instruction.{Instruction}
use Rattle.thread_runs.specs.declared.instruction.Line.{Line}
use Rattle.thread_runs.specs.declared.instruction.Line.TheVariants.{Label, Does}
use Rattle.thread_runs.specs.declared.free.FreeWalk.{FreeWalk}
use Rattle.thread_runs.specs.Machine.{is_load, is_branch}
use Rattle.thread_runs.specs.FreeWalks.{over, walk_over, does_next, next_on, next_of}
use Rattle.thread_runs.proofs.RunList.{flat_map_same}

module _ (V : List Value) (on there : Bool) (ws : List FreeWalk) where
  label_one : (m : ℕ) (sk : Option ℕ) (w : FreeWalk)
      → next_on V on there sk (Label m) w ≡ walk_over sk (Label m) w ∷ []
  label_one m (Some l) w = refl
  label_one m None w = refl

  plain_one : (i : Instruction) (sk : Option ℕ) (w : FreeWalk) → is_load i ≡ false
      → is_branch i ≡ false → next_on V on there sk (Does i) w ≡ walk_over sk (Does i) w ∷ []
  plain_one i (Some l) w d b = refl
  plain_one i None w d b =
      ap (λ (t : Bool). does_next t (is_branch i) V on there i w) d
      ∙ ap (λ (t : Bool). does_next false t V on there i w) b

  pub label_on : (x : Line) (m : ℕ) (new : List FreeWalk) → x ≡ Label m → new ≡ map (over x) ws
      → new ≡ flat_map (next_of V on there x) ws
  label_on x m new e n =
      n ∙ sym (flat_map_single (over x) ws)
      ∙ sym (flat_map_same (next_of V on there x) (λ w. over x w ∷ []) ws (λ w. subst
      (λ (y : Line). next_of V on there y w ≡ over y w ∷ []) (sym e)
      (label_one m w.seeking w)))

  pub plain_on : (x : Line) (i : Instruction) (new : List FreeWalk) → x ≡ Does i → is_load i ≡ false
      → is_branch i ≡ false → new ≡ map (over (Does i)) ws
      → new ≡ flat_map (next_of V on there x) ws
  plain_on x i new e d b n =
      n ∙ ap (λ (y : Line). map (over y) ws) (sym e) ∙ sym (flat_map_single (over x) ws)
      ∙ sym (flat_map_same (next_of V on there x) (λ w. over x w ∷ []) ws (λ w. subst
      (λ (y : Line). next_of V on there y w ≡ over y w ∷ []) (sym e)
      (plain_one i w.seeking w d b)))
