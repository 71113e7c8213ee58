-- Values that are added to others, all of them up to a number.
use Rattle.std.proofs.Common.{ℕ, ◌≡◌, ◌⊎◌, ◌↔◌, ◌<◌, ◌≤◌, ◌+◌, inl, inr, List, [], ◌∷◌, length, get_or, take, refl, sym, subst, ◌∙◌, arith, add-one}
use Rattle.std.specs.List.{Contains}
use Rattle.std.proofs.Math.Seq.{take-suc}
use Rattle.std.proofs.lemmas.List.Elements.{Contains-push, Contains-push_cases, Contains-append_left}
use Rattle.thread_runs.specs.declared.value.Value.{Value}
use Rattle.thread_runs.specs.declared.instruction.Line.{Line}
use Rattle.thread_runs.specs.declared.free.FreeWalk.{FreeWalk}
use Rattle.thread_runs.specs.ValueSet.{IsProperValue, IsValueAdded}
use Rattle.thread_runs.specs.FreeWalks.{AreAdded, SomeStores, values_stored_at}

-- nothing to add
pub added_none : (P : Value → Type 0) (vs : List Value) → ((v : Value) → P v → ⊥) → AreAdded P vs vs
added_none P vs none = record {
  longer = omega arith;
  unchanged = λ _. refl;
  kept = λ v h. h;
  sound = λ v h. inl h;
  whole = λ few v p one. absurd (none v p);
}

pub added_one : (value : Value) (us old new : List Value) → us ≡ value ∷ []
    → length old ≤ length new → (length old ≡ length new → old ≡ new) → IsValueAdded value old new
    → AreAdded (Contains us) old new
added_one value us old new e longer unchanged added = record {
  longer = longer;
  unchanged = unchanged;
  kept = λ v h. (added v).1 (inl h);
  sound = λ v h. elim ((added v).0 h) [
    | inl w ↦ inl w
    | inr w ↦ inr (
      subst (λ (xs : List Value). Contains xs v) (sym e) (subst
          (λ (u : Value). Contains (value ∷ []) u) (sym w.0) (Contains-push [] value)),
      subst (λ (u : Value). IsProperValue u) (sym w.0) w.1,
    )
  ];
  whole =
      λ few v h one.
      elim (Contains-push_cases [] value v (subst (λ (xs : List Value). Contains xs v) e h)) [
        | inl none ↦ absurd (let lt = none.1 in omega arith)
        | inr f ↦ (added v).1 (inr (sym f, subst (λ (u : Value). IsProperValue u) (sym f) one))
      ];
}

pub added_after : (P Q R : Value → Type 0) (a b c : List Value) → AreAdded P a b → AreAdded Q b c
    → ((v : Value) → (P v ⊎ Q v) ↔ R v) → AreAdded R a c
added_after P Q R a b c p q r = record {
  longer = let s = p.longer in let t = q.longer in omega arith;
  unchanged =
      λ same.
      let s = p.longer in
      let t = q.longer in p.unchanged (omega arith) ∙ q.unchanged (omega arith);
  kept = λ v h. q.kept v (p.kept v h);
  sound = λ v h. elim (q.sound v h) [
    | inl w ↦ elim (p.sound v w) [ inl u ↦ inl u | inr u ↦ inr ((r v).0 (inl u.0), u.1) ]
    | inr w ↦ inr ((r v).0 (inr w.0), w.1)
  ];
  whole = λ few v h one. elim ((r v).1 h) [
    | inl w ↦ q.kept v (p.whole (let t = q.longer in omega arith) v w one)
    | inr w ↦ q.whole few v w one
  ];
}

pub some_none : (x : Line) (v : Value) → SomeStores x [] v → ⊥
some_none x v h = let lt = h.1.1 in omega arith

pub some_more : (x : Line) (ws : List FreeWalk) (k : ℕ) (d : FreeWalk) → k < length ws → (v : Value)
    → (SomeStores x (take k ws) v ⊎ Contains (values_stored_at x (get_or ws k d)) v)
    ↔ SomeStores x (take (k + 1) ws) v
some_more x ws k d lt v = rw (add-one, take-suc ws k d lt) (
  (λ h. elim h [
    | inl w ↦ (w.0, Contains-append_left (take k ws) (get_or ws k d ∷ []) w.0 w.1, w.2)
    | inr w ↦ (get_or ws k d, Contains-push (take k ws) (get_or ws k d), w)
  ]),
  (λ h. elim (Contains-push_cases (take k ws) (get_or ws k d) h.0 h.1) [
    | inl w ↦ inl (h.0, w, h.2)
    | inr e ↦ inr (subst (λ (u : FreeWalk). Contains (values_stored_at x u) v) (sym e) h.2)
  ]),
)
