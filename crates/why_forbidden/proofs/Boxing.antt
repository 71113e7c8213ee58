-- The boxes of a drawing, as they are listed.
use Rattle.std.proofs.Common.{ℕ, ◌≡◌, ◌<◌, ◌⊎◌, ◌+◌, ◌↔◌, ◌∙◌, inl, inr, List, [], ◌∷◌, ◌++◌, length, get_or, sym, ap, subst, arith}
use Rattle.std.specs.Prelude.{Bool, IsTrue, None, Some, Option, slice_get, slice_index_or}
use Rattle.std.specs.List.{All, AllPairs, Contains}
use Rattle.std.proofs.lemmas.Bool.{cases_eq}
use Rattle.std.proofs.lemmas.List.{length-append, map-append}
use Rattle.std.proofs.lemmas.List.Elements.{All-push, Contains-append_left, Contains-get_or, Contains-push, Contains-push_cases}
use Rattle.std.proofs.lemmas.List.Quantifiers.{all_pairs_push}
use Rattle.std.proofs.lemmas.Option.{same_Some, slice_get_within}
use Rattle.cat_eval.proofs.Visits.{get_more}
use Rattle.draw_graph.specs.declared.drawing.Cluster.{Cluster}
use Rattle.why_text.specs.declared.event.ToldEvent.{ToldEvent}
use Rattle.store_orders.specs.declared.combination.Event.{Event}
use Rattle.why_forbidden.specs.Drawings.{AreBoxes, AreClusters, HasThread, IsBox, IsBoxed, IsCluster, box_numbers}
use Rattle.why_forbidden.specs.Told.{Scene}

-- the boxes of the events below a number
pub record BoxesBelow (scene : Scene) (P : ℕ → Type 0) (i : ℕ) (boxes : List ToldEvent)
    : Type 0 where
  pub rising : AllPairs (λ m n. m < n) (box_numbers boxes)
  pub each : All (IsBox scene) boxes
  pub exact : (n : ℕ) → Contains (box_numbers boxes) n ↔ ((n < i) × P n)

none_in : (n : ℕ) → Contains (let ns : List ℕ = [] in ns) n → ⊥
none_in n here = let (k, lt, same) = here in absurd (omega (arith, lt))

pub one_boxed : (scene : Scene) (P : ℕ → Type 0) (i : ℕ) (boxes : List ToldEvent) (b : ToldEvent)
    → P i → b.number ≡ i → slice_get scene.events i ≡ Some b.event
    → b.instruction ≡ slice_index_or scene.instructions i None
    → BoxesBelow scene P i boxes → BoxesBelow scene P (i + 1) (boxes ++ b ∷ [])
one_boxed scene P i boxes b here at is by old = record {
  rising =
      subst (λ (ns : List ℕ). AllPairs (λ m n. m < n) ns) (sym more) (all_pairs_push (λ m n. m < n)
      (box_numbers boxes) i old.rising below);
  each = All-push (IsBox scene) boxes b old.each record {
    event = subst (λ (k : ℕ). slice_get scene.events k ≡ Some b.event) (sym at) is;
    instruction =
        subst (λ (k : ℕ). b.instruction ≡ slice_index_or scene.instructions k None) (sym at) by;
  };
  exact =
      λ n. subst (λ (ns : List ℕ). Contains ns n ↔ ((n < i + 1) × P n)) (sym more)
      ((λ x. forth n (Contains-push_cases (box_numbers boxes) i n x)), back n);
}
  where
    more : box_numbers (boxes ++ b ∷ []) ≡ box_numbers boxes ++ i ∷ []
    more =
        map-append (λ (c : ToldEvent). c.number) boxes (b ∷ [])
        ∙ ap (λ (k : ℕ). box_numbers boxes ++ k ∷ []) at

    below : (k d : ℕ) → k < length (box_numbers boxes) → get_or (box_numbers boxes) k d < i
    below k d lt =
        ((old.exact (get_or (box_numbers boxes) k d)).0
        (Contains-get_or (box_numbers boxes) k d lt)).0

    forth : (n : ℕ) → Contains (box_numbers boxes) n ⊎ (i ≡ n) → (n < i + 1) × P n
    forth n (inl x) = let (l, p) = (old.exact n).0 x in (omega (arith, l), p)
    forth n (inr e) = (omega (arith, e), subst P e here)

    back : (n : ℕ) → (n < i + 1) × P n → Contains (box_numbers boxes ++ i ∷ []) n
    back n x = let (l, p) = x in elim (cases_eq n i) [
      | inl same ↦ subst (λ (k : ℕ). Contains (box_numbers boxes ++ i ∷ []) k) (sym same)
          (Contains-push (box_numbers boxes) i)
      | inr ne ↦ Contains-append_left (box_numbers boxes) (i ∷ []) n
          ((old.exact n).1 (omega (arith, l, ne), p))
    ]

pub one_left : (scene : Scene) (P : ℕ → Type 0) (i : ℕ) (boxes : List ToldEvent) → (P i → ⊥)
    → BoxesBelow scene P i boxes → BoxesBelow scene P (i + 1) boxes
one_left scene P i boxes none old = record {
  rising = old.rising;
  each = old.each;
  exact = λ n. ((λ x. let (l, p) = (old.exact n).0 x in (omega (arith, l), p)), back n);
}
  where
    back : (n : ℕ) → (n < i + 1) × P n → Contains (box_numbers boxes) n
    back n x = let (l, p) = x in elim (cases_eq n i) [
      | inl same ↦ absurd (none (subst P same p))
      | inr ne ↦ (old.exact n).1 (omega (arith, l, ne), p)
    ]

pub all_boxed : (scene : Scene) (P : ℕ → Type 0) (i : ℕ) (boxes : List ToldEvent)
    → ((n : ℕ) → P n → n < i) → BoxesBelow scene P i boxes → AreBoxes scene P boxes
all_boxed scene P i boxes within old = record {
  rising = old.rising;
  each = old.each;
  exact = λ n. ((λ x. ((old.exact n).0 x).1), (λ p. (old.exact n).1 (within n p, p)));
}

pub thread_is : (events : List Event) (thread : Option ℕ) (i : ℕ) (b : Bool) (e : Event)
    → slice_get events i ≡ Some e → IsTrue b ↔ (e.thread ≡ thread)
    → IsTrue b ↔ HasThread events thread i
thread_is events thread i b e at told = (
  (λ t. (e, at, told.0 t)),
  (λ h.
      let (f, is, own) = h in
      told.1 (ap (λ (x : Event). x.thread) (same_Some e f (sym at ∙ is)) ∙ own)),
)

-- an event of a thread is one of the events
pub boxed_within : (events : List Event) (D : ℕ → Type 0) (thread : Option ℕ) (n : ℕ)
    → IsBoxed events D thread n → n < length events
boxed_within events D thread n x =
    let (here, drawn) = x in let (e, is, own) = here in slice_get_within events n e is

-- ---- clusters

pub cluster_more : (scene : Scene) (D : ℕ → Type 0) (i : ℕ) (cs : List Cluster) (c : Cluster)
    → IsCluster scene D i c → AreClusters scene D i cs → AreClusters scene D (i + 1) (cs ++ c ∷ [])
cluster_more scene D i cs c here old = record {
  count = length-append cs (c ∷ []) ∙ ap (λ (k : ℕ). k + 1) old.count;
  each = λ t x is. elim (get_more cs c x t is) [
    | inl sooner ↦ old.each t x sooner
    | inr last ↦ subst (λ (y : Cluster). IsCluster scene D t y) last.1
        (subst (λ (k : ℕ). IsCluster scene D k c) (sym old.count ∙ sym last.0) here)
  ];
}
