-- What the nodes under a settled verdict hold.
use Rattle.std.proofs.Common.{ℕ, ◌≡◌, zero, suc, List, [], ◌∷◌, Bool, true, Option, Some, None, slice_get, zip, refl, sym, ap, ◌∙◌, subst}
use Rattle.std.specs.List.{AllByRecursion as Each}
use Rattle.std.proofs.lemmas.Option.{none-some}
use Rattle.memo_core.specs.declared.keys.Node.{Node}
use Rattle.memo_core.specs.declared.keys.Key.{Key}
use Rattle.memo_core.specs.declared.keys.Key.TheVariants.{Part, Output}
use Rattle.memo_core.specs.Graph.{Memo, Net, at, memo_of, stored_output, named_values, input_nodes, IsSettledBy}
use Rattle.memo_core.specs.Right as core
use Rattle.memo_core.specs.Step.{Has}
use Rattle.bench_values.specs.Givens.{GivenContent}
use Rattle.bench_values.specs.Makes.{Makes, output_names}
use Rattle.bench_values.specs.Values.{NodeContent}
use Rattle.bench_values.proofs.Counting.{makes_many}
use Rattle.bench_parts.specs.States.{makes}
use Rattle.bench_edits.specs.Settled.{outputs_of, StandsOnce, IsNode, AreNodesSolved}
use Rattle.bench_edits.proofs.Named.{made_values, values_named, found_at}
use Rattle.bench_edits.proofs.Reached.{reached, closed, stands}

abbrev pub stored_values : Option (Memo NodeContent) → List NodeContent
stored_values None = []
stored_values (Some m) = made_values m.outputs

-- what a node holds
abbrev pub values_in : List (Memo NodeContent) → Node → List NodeContent
values_in memos n = stored_values (memo_of n memos)

-- ---- keys

present_outputs : (now : Key → Option (ℕ × NodeContent)) (ks : List Key) (vs : List NodeContent)
    → core.ArePresent now ks vs → core.ArePresent now (outputs_of ks) vs
present_outputs now [] [] h = h
present_outputs now [] (v ∷ vs) h = absurd h
present_outputs now (Part p q ∷ ks) vs h = present_outputs now ks vs h
present_outputs now (Output n x ∷ ks) [] h = absurd h
present_outputs now (Output n x ∷ ks) (v ∷ vs) h = (h.0, present_outputs now ks vs h.1)

same_nodes : (ks : List Key) → input_nodes (outputs_of ks) ≡ input_nodes ks
same_nodes [] = refl
same_nodes (Part p q ∷ ks) = same_nodes ks
same_nodes (Output n x ∷ ks) = ap (λ (ns : List Node). n ∷ ns) (same_nodes ks)

-- ---- what a settled node holds

-- nodes that are settled, with all that they use
pub record AreHeld (net : Net GivenContent) (memos : List (Memo NodeContent)) (held : Node → Bool)
    : Type 0 where
  pub solved : (n : Node) → held n ≡ true → core.IsSolvedNode makes net memos n
  pub closed : (n : Node) → held n ≡ true → Each (λ m. held m ≡ true) (input_nodes (net.inputs n))

-- the nodes that a settled node stands on
pub held_under : (net : Net GivenContent) (memos : List (Memo NodeContent)) → AreNodesSolved net memos
    → (d : ℕ) (n : Node) → Has net.used n → IsSettledBy d net memos n
    → AreHeld net memos (reached d net n)
held_under net memos all d n t s = record {
  solved =
      λ m r.
      let f = stands net memos (λ k. Has net.used k) all.closed d n m s t r in all.solved m f.1 f.0;
  closed = λ m r. closed net memos d n m s r;
}

-- values of the outputs that it uses, and what is made of them
pub record Holds (memos : List (Memo NodeContent)) (n : Node) (given : GivenContent)
    (uses : List Key) : Type 0 where
  pub values : List NodeContent
  pub present : core.ArePresent (at memos) uses values
  pub made : Makes given values (values_in memos n)

module _ (net : Net GivenContent) (memos : List (Memo NodeContent)) (held : Node → Bool)
    (all : AreHeld net memos held) where
  module _ (n : Node) (given : GivenContent) (uses : List Key) (is_held : held n ≡ true)
      (is : IsNode net n given uses) (once : StandsOnce (output_names given)) where
    solved : core.IsSolvedNode makes net memos n
    solved = all.solved n is_held

    same_given : solved.made.given ≡ given
    same_given = is.given_is solved.made.given solved.made.gives

    made_of : Makes given solved.values solved.made.made.0
    made_of =
        subst (λ (g : GivenContent). Makes g solved.values solved.made.made.0) same_given
        solved.made.made.1

    outputs_are : named_values solved.memo.outputs ≡ zip (output_names given) solved.made.made.0
    outputs_are =
        solved.made.made.2
        ∙ ap (λ (g : GivenContent). zip (output_names g) solved.made.made.0) same_given

    values_are : values_in memos n ≡ solved.made.made.0
    values_are =
        ap stored_values solved.found
        ∙ values_named solved.memo.outputs (output_names given) solved.made.made.0
        (sym (makes_many given solved.values solved.made.made.0 made_of)) outputs_are

    pub holds : Holds memos n given uses
    holds = record {
      values = solved.values;
      present =
          subst (λ (ks : List Key). core.ArePresent (at memos) ks solved.values) is.uses_are
          (present_outputs (at memos) (net.inputs n) solved.values solved.present);
      made =
          subst (λ (vs : List NodeContent). Makes given solved.values vs) (sym values_are) made_of;
    }

    -- the present value of an output is among what its node holds, at the place of its name
    pub output_there : (place x s : ℕ) (v : NodeContent)
        → slice_get (output_names given) place ≡ Some x → at memos (Output n x) ≡ Some (s, v)
        → slice_get (values_in memos n) place ≡ Some v
    output_there place x s v name now =
        let found : stored_output x (Some solved.memo) ≡ Some (s, v) = subst (λ (m : Option (Memo NodeContent)). stored_output x m ≡ Some (s, v)) solved.found now in
        let stands = found_at solved.memo.outputs (output_names given) solved.made.made.0 x s v outputs_are found in
        let same : stands.0 ≡ place = once stands.0 place x stands.1 name in
        subst (λ (k : ℕ). slice_get (values_in memos n) k ≡ Some v) same
        (ap (λ (vs : List NodeContent). slice_get vs stands.0) values_are ∙ stands.2)

  pub used_held : (n : Node) (given : GivenContent) (uses : List Key) → held n ≡ true
      → IsNode net n given uses → Each (λ m. held m ≡ true) (input_nodes uses)
  used_held n given uses is_held is =
      subst (λ (ks : List Key). Each (λ m. held m ≡ true) (input_nodes ks)) is.uses_are
      (subst (λ (ns : List Node). Each (λ m. held m ≡ true) ns) (sym (same_nodes (net.inputs n)))
      (all.closed n is_held))

-- ---- nodes of one output

pub one_once : StandsOnce {A = ℕ} (0 ∷ [])
one_once zero zero x at also = refl
one_once zero (suc q) x at also = absurd (none-some x also)
one_once (suc p) q x at also = absurd (none-some x at)
