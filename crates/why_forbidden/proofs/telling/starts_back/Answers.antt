use Rattle.std.proofs.Common.{◌≡◌, ◌<◌, ◌∙◌, inl, inr, List, [], ◌∷◌, length, map, refl, arith, rules, vec_len}
use Rattle.why_walks.specs.Walks.{runs_of}
use Rattle.why_forbidden.specs.declared.telling.Start.{Start}
use Rattle.why_forbidden.specs.Steps.{StepStart}
use Rattle.why_forbidden.specs.Views.{start_of}
use Rattle.why_forbidden.proofs.Finding.{no_walk, too_many, walk_by}
use Rattle.why_forbidden.proofs.telling.starts_back.Goals as goal

no_starts : (xs : List Start) → length xs ≡ 0 → [] ≡ map start_of xs
no_starts [] e = refl
no_starts (x ∷ xs) e = absurd (omega (arith, e))

some_starts : (xs : List Start) → (length xs ≡ 0 → ⊥) → 0 < length (map start_of xs)
some_starts [] some = absurd (some refl)
some_starts (x ∷ xs) some = omega arith

pub returns-then-told-gt-MAX_EVENTS : goal.returns-then-told-gt-MAX_EVENTS
returns-then-told-gt-MAX_EVENTS c =
    let linked = rw c.deref.ensures.value at c.in_ok-links.ensures in
    too_many c.args.check.now c.args.told.candidate (length c.args.told.events.now) c.args.event
    c.in_ok-links.links.items linked (omega (arith, c.if-told-gt-MAX_EVENTS.true))

pub returns-in_default : goal.returns-in_default
returns-in_default c =
    let linked = rw c.deref.ensures.value at c.in_ok-links.ensures in
    let none = rw c.deref-2.ensures.value at c.in_ok-runs.ensures.none in
    inr (no_walk c.args.check.now c.args.told.candidate (length c.args.told.events.now) c.args.event
    c.in_ok-links.links.items linked (λ all lt. none all lt c.in_default.is))

pub returns-then-is_empty : goal.returns-then-is_empty
returns-then-is_empty c =
    let linked = rw c.deref.ensures.value at c.in_ok-links.ensures in
    let walk = rw c.in-Some.is at (rw c.deref-2.ensures.value at c.in_ok-runs.ensures.walk) in
    let first = rw c.in-Some.is at (rw c.deref-2.ensures.value at c.in_ok-runs.ensures.first) in
    let through = rw c.deref-4.ensures.value at (rw c.deref-3.ensures.value at c.in_ok-starts.ensures) in
    let empty : vec_len c.in_ok-starts.starts ≡ 0 = search (rules, c.is_empty.ensures, c.if-is_empty.true) in
    let none : [] ≡ map start_of c.in_ok-starts.starts.items = no_starts c.in_ok-starts.starts.items (omega (arith, empty)) in
    inl (walk_by c.args.check.now c.args.told.candidate (length c.args.told.events.now) c.args.event
    c.in_ok-links.links.items linked (runs_of c.in-Some.runs.items) walk first [] (none ∙ through))

pub returns : goal.returns
returns c =
    let linked = rw c.deref.ensures.value at c.in_ok-links.ensures in
    let walk = rw c.in-Some.is at (rw c.deref-2.ensures.value at c.in_ok-runs.ensures.walk) in
    let first = rw c.in-Some.is at (rw c.deref-2.ensures.value at c.in_ok-runs.ensures.first) in
    let through = rw c.deref-4.ensures.value at (rw c.deref-3.ensures.value at c.in_ok-starts.ensures) in
    let starts : List StepStart = map start_of c.in_ok-starts.starts.items in
    let full : vec_len c.in_ok-starts.starts ≡ 0 → ⊥ = search (rules, c.is_empty.ensures, c.if-is_empty.false) in
    let some : 0 < length starts = some_starts c.in_ok-starts.starts.items (λ e. full (omega (arith, e))) in (
      walk_by c.args.check.now c.args.told.candidate (length c.args.told.events.now) c.args.event
          c.in_ok-links.links.items linked (runs_of c.in-Some.runs.items) walk first starts through,
      some,
    )
