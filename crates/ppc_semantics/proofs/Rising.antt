-- The values round by round.
use Rattle.std.proofs.Common.{ℕ, suc, ◌≡◌, ◌⊎◌, ◌↔◌, ◌<◌, ◌≤◌, ◌+◌, inl, inr, List, [], ◌∷◌, ◌++◌, length, get_or, take, sym, ap, subst, ◌∙◌, Some, add-one}
use Rattle.std.specs.List.{Contains}
use Rattle.std.proofs.Math.Seq.{take-suc}
use Rattle.std.proofs.lemmas.List.{take_all}
use Rattle.std.proofs.lemmas.List.Elements.{Contains-push, Contains-push_cases, Contains-append_left}
use Rattle.thread_runs.specs.declared.value.Value.{Value}
use Rattle.thread_runs.specs.declared.instruction.Line.{Line}
use Rattle.thread_runs.specs.declared.instruction.Program.{Program}
use Rattle.thread_runs.specs.declared.state.State.{State}
use Rattle.thread_runs.specs.Runs.{Thread, StoresFreely, free_run_of}
use Rattle.thread_runs.specs.AllRuns.{thread_of}
use Rattle.thread_runs.specs.ValueSet.{IsProperValue, IsValueAdded}
use Rattle.thread_runs.specs.FreeWalks.{AreAdded, Stores}
use Rattle.ppc_lowering.specs.Domain.{threads_from}
use Rattle.thread_runs.proofs.Adding.{added_after}

-- the values at the start
pub initial_more : (xs ys : List Value) (k : ℕ) (d : Value) (old new : List Value) → ys ≡ xs
    → k < length ys → ((u : Value) → Contains old u ↔ (Contains (take k xs) u × IsProperValue u))
    → IsValueAdded (get_or ys k d) old new
    → (u : Value) → Contains new u ↔ (Contains (take (k + 1) xs) u × IsProperValue u)
initial_more xs ys k d old new e lt exact added u = rw (← e, add-one, take-suc ys k d lt) (
  (λ h. elim ((added u).0 h) [
    | inl w ↦
        let (there, one) = (rw (← e) at (exact u)).0 w in
        (Contains-append_left (take k ys) (get_or ys k d ∷ []) u there, one)
    | inr w ↦ (
      subst (λ (z : Value). Contains (take k ys ++ get_or ys k d ∷ []) z) (sym w.0)
          (Contains-push (take k ys) (get_or ys k d)),
      subst (λ (z : Value). IsProperValue z) (sym w.0) w.1,
    )
  ]),
  (λ h. elim (Contains-push_cases (take k ys) (get_or ys k d) u h.0) [
    | inl w ↦ (added u).1 (inl ((rw (← e) at (exact u)).1 (w, h.1)))
    | inr f ↦ (added u).1 (inr (sym f, subst (λ (z : Value). IsProperValue z) (sym f) h.1))
  ]),
)

pub initial_end : (xs ys : List Value) (k : ℕ) (values : List Value) → ys ≡ xs → length ys ≤ k
    → ((u : Value) → Contains values u ↔ (Contains (take k xs) u × IsProperValue u)) → (u : Value)
    → Contains values u ↔ (Contains xs u × IsProperValue u)
initial_end xs ys k values e le exact u =
    let same : take k xs ≡ xs = ap (take k) (sym e) ∙ take_all k ys le ∙ e in
    subst (λ (zs : List Value). Contains values u ↔ (Contains zs u × IsProperValue u)) same (exact u)

-- one thread more
stores_more : (ts : List Thread) (t : Thread) (V : List Value) (v : Value)
    → (StoresFreely ts (Contains V) v ⊎ Stores t.lines t.first V v)
    ↔ StoresFreely (ts ++ t ∷ []) (Contains V) v
stores_more ts t V v = (
  (λ h. elim h [
    | inl w ↦
        let (s, there, bs, vs, within, f, e, a, found) = w in
        (s, Contains-append_left ts (t ∷ []) s there, bs, vs, within, f, e, a, found)
    | inr w ↦
        let (bs, vs, within, f, e, a, found) = w in
        (t, Contains-push ts t, bs, vs, within, f, e, a, found)
  ]),
  (λ h. let (s, there, bs, vs, within, f, e, a, found) =
      h in elim (Contains-push_cases ts t s there) [
        | inl w ↦ inl (s, w, bs, vs, within, f, e, a, found)
        | inr same ↦ inr (
          bs,
          vs,
          within,
          f,
          subst (λ (z : Thread). free_run_of z.lines z.first bs vs ≡ Some f) (sym same) e,
          a,
          found,
        )
      ]),
)

pub next_more : (p : Program) (k : ℕ) (V : List Value) (lines : List Line) (first : State)
    (a b c : List Value) → lines ≡ (thread_of p k).lines → first ≡ (thread_of p k).first
    → AreAdded (StoresFreely (threads_from p k) (Contains V)) a b
    → AreAdded (Stores lines first V) b c
    → AreAdded (StoresFreely (threads_from p (k + 1)) (Contains V)) a c
next_more p k V lines first a b c e f had more =
    let here : AreAdded (Stores (thread_of p k).lines (thread_of p k).first V) b c = subst (λ (ls : List Line). AreAdded (Stores ls (thread_of p k).first V) b c) e (subst (λ (s : State). AreAdded (Stores lines s V) b c) f more) in
    rw add-one (added_after (StoresFreely (threads_from p k) (Contains V))
    (Stores (thread_of p k).lines (thread_of p k).first V)
    (StoresFreely (threads_from p (suc k)) (Contains V)) a b c had here
    (stores_more (threads_from p k) (thread_of p k) V))
