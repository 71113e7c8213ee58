-- The numbers that a return tells are those of outputs of its node.
use Rattle.std.proofs.Common.{◌≡◌, ℕ, ◌+◌, ◌==◌, inl, inr, Bool, true, false, if◌then◌else◌, List, [], ◌∷◌, Option, Some, None, sym, ap, subst, ◌∙◌}
use Rattle.std.specs.List.{zip, AllByRecursion as Each}
use Rattle.memo_core.specs.declared.keys.Output.{Output as Made}
use Rattle.memo_core.specs.Graph.{named_values}
use Rattle.memo_core.specs.Step.{Has, names_stamped}
use Rattle.bench_values.specs.Givens.{GivenContent}
use Rattle.bench_values.specs.Makes.{output_names}
use Rattle.bench_values.specs.Values.{NodeContent}
use Rattle.bench_parts.specs.States.{given_to_node, is_given}
use Rattle.bench_parts.proofs.Equality.{given_exact}
use Rattle.bench_instance.specs.StampedTexts.{stamped_state}
use Rattle.bench_laws.specs.ToldOutputs.{ReturnsTellOutputs}

each_later : (n : ℕ) (ns ks : List ℕ) → Each (Has ns) ks → Each (Has (n ∷ ns)) ks
each_later n ns [] all = tt
each_later n ns (k ∷ ks) all = (inr all.0, each_later n ns ks all.1)

first_of : {a b : ℕ × NodeContent} {xs ys : List (ℕ × NodeContent)} → a ∷ xs ≡ b ∷ ys → a ≡ b
first_of e = cc

later_names : {a b : ℕ × NodeContent} {xs ys : List (ℕ × NodeContent)} → a ∷ xs ≡ b ∷ ys → xs ≡ ys
later_names e = cc

-- the outputs that have a number go by names among these
stamped_among : (k : ℕ) (ns : List ℕ) (vs : List NodeContent) (os : List (Made NodeContent))
    → named_values os ≡ zip ns vs → Each (Has ns) (names_stamped k os)
stamped_among k ns vs [] e = tt
stamped_among k [] vs (o ∷ os) e = cc
stamped_among k (n ∷ ns) [] (o ∷ os) e = cc
stamped_among k (n ∷ ns) (v ∷ vs) (o ∷ os) e =
    one (o.stamp == k) (sym (ap (λ (p : ℕ × NodeContent). p.0) (first_of e)))
    (each_later n ns (names_stamped k os) (stamped_among k ns vs os (later_names e)))
  where
    one : (b : Bool) → n ≡ o.name → Each (Has (n ∷ ns)) (names_stamped k os)
        → Each (Has (n ∷ ns)) (if b then o.name ∷ names_stamped k os else names_stamped k os)
    one true is rest = (inl is, rest)
    one false is rest = rest

given_some : (o : Option GivenContent) (g : GivenContent) → is_given o g ≡ true → o ≡ Some g
given_some None g e = cc
given_some (Some h) g e =
    ap (λ (x : GivenContent). let o : Option GivenContent = Some x in o) ((given_exact h g).0 e)

pub returns_tell_outputs : ReturnsTellOutputs
returns_tell_outputs old new r told h =
    let a = (h.2).0 in
    let made = h.0 in
    let among = stamped_among (old.taken + 1) (output_names r.given) made.0 a.outputs (a.values ∙ made.2) in (
      (h.2).3,
      record {
        given_is =
            given_some (given_to_node (stamped_state old.texts) r.node) r.given
            a.of_present.given;
        each =
            subst (λ (ns : List ℕ). Each (Has (output_names r.given)) ns) (sym (h.2).1) among;
      },
    )
