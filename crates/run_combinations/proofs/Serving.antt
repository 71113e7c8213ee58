-- The runs of one thread more.
use Rattle.std.proofs.Common.{Vec, ℕ, ◌≡◌, List, [], ◌∷◌, ◌++◌, length, Some, slice_get, inl, inr, sym, ap, subst, ◌∙◌}
use Rattle.std.specs.declared.alloc.Global.{Global}
use Rattle.thread_runs.specs.declared.value.Value.{Value}
use Rattle.thread_runs.specs.declared.run.Run.{Run}
use Rattle.thread_runs.specs.declared.instruction.Program.{Program}
use Rattle.thread_runs.specs.LocationValues.{ShowsServed}
use Rattle.run_combinations.proofs.Gathering.{pushed_at}

abbrev pub AreServed : Program → List Value → List (Vec Run Global) → Type 0
AreServed p V runs =
    (t : ℕ) (v : Vec Run Global) → slice_get runs t ≡ Some v → ShowsServed p t V v.items

pub one_served : (p : Program) (V : List Value) (n : ℕ) (runs after : List (Vec Run Global))
    (rs : Vec Run Global)
    → length runs ≡ n → AreServed p V runs → ShowsServed p n V rs.items → after ≡ runs ++ rs ∷ []
    → AreServed p V after
one_served p V n runs after rs many are here e t v got =
    elim (pushed_at runs rs v t (ap (λ (l : List (Vec Run Global)). slice_get l t) (sym e) ∙ got)) [
      | inl old ↦ are t v old
      | inr new ↦
          subst (λ (k : ℕ). ShowsServed p k V v.items) (sym many ∙ sym new.0)
          (subst (λ (us : Vec Run Global). ShowsServed p n V us.items) (sym new.1) here)
    ]
