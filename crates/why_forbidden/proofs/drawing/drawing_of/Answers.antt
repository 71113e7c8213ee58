use Rattle.std.proofs.Common.{◌≡◌, ◌++◌, ◌∙◌, List, ap, length, refl, sym}
use Rattle.std.specs.Prelude.{None}
use Rattle.bit_rows.specs.Relation.{IsEvents, IsMember}
use Rattle.draw_graph.specs.Drawn.{IsDrawnEvent}
use Rattle.store_orders.specs.declared.combination.Event.{Event}
use Rattle.why_forbidden.specs.Drawable.{subject_of}
use Rattle.why_forbidden.specs.Drawings.{IsDrawnIn, step_ends}
use Rattle.why_forbidden.specs.Told.{Scene}
use Rattle.why_forbidden.proofs.Graphing.{boxed_as, clusters_as, drawn_in, events_shown, shown_there, sources_shown}
use Rattle.why_forbidden.proofs.Pairing.{edges_as_drawn}
use Rattle.why_forbidden.proofs.drawing.drawing_of.Goals as goal

pub edges_of-requires-clause-count : goal.edges_of-requires-clause-count
edges_of-requires-clause-count c =
    let space = c.args.scene.space.now in
    let k = c.args.candidate in
    let e = c.args.execution.now in
    let (one, is) = shown_there space k e c.requires.shown in
    let long : c.drawn_events-drawn.result.count ≡ length e.events.items = rw c.deref-4.ensures.value at c.drawn_events-drawn.ensures.count in (
      one,
      is,
      long
          ∙ ap (λ (xs : List Event). length xs)
          (events_shown space k e one c.requires.shown is),
    )

pub returns : goal.returns
returns c = λ one is.
    let space = c.args.scene.space.now in
    let k = c.args.candidate in
    let e = c.args.execution.now in
    let events = e.events.items in
    let reads_from = e.reads_from.items in
    let drawn = c.drawn_events-drawn.result in
    let same = events_shown space k e one c.requires.shown is in
    let read = sources_shown space k e one c.requires.shown is in
    let ends = step_ends c.in_ok-first.first c.in_ok-first.steps.items in
    let told : c.in_ok-ends.ends.items ≡ ends = rw c.deref-3.ensures.value at c.in_ok-ends.ensures in
    let named : c.deref-6.result.now ≡ ends = c.deref-6.ensures.value ∙ told in
    let are : IsEvents drawn (length events) (IsDrawnEvent events (reads_from ++ ends)) = rw (c.deref-4.ensures.value, c.deref-5.ensures.value, named) at c.drawn_events-drawn.ensures in
    let scene : Scene = record { candidate = k; events = c.deref.result.now; instructions = c.deref-2.result.now } in
    let members = drawn_in events reads_from ends one drawn same read are in
    let made = c.in_ok-instructions.ensures c.args.scene.test.now c.requires.runs in
    record {
      scene = scene;
      stands = record {
        number = refl;
        events = c.deref.ensures.value ∙ same;
        instructions = rw (sym c.deref.ensures.value, sym c.deref-2.ensures.value) at made;
      };
      fate = c.in_ok-fate.fate.items;
      told = c.in_ok-fate.ensures;
      title = rw (c.as_bytes.ensures, c.deref-7.ensures.value) at c.in_ok-title_of.ensures;
      initial =
          boxed_as scene (IsMember drawn) (IsDrawnIn one ends) None members
          c.in_ok-boxes.field-0.items c.in_ok-boxes.ensures;
      clusters =
          clusters_as scene (IsMember drawn) (IsDrawnIn one ends) _ members
          c.in_ok-clusters.field-0.items (rw c.len.ensures at c.in_ok-clusters.ensures);
      edges =
          edges_as_drawn (subject_of c.args.scene) k one (IsMember drawn) (IsDrawnIn one ends)
          members c.in_ok-edges_of.field-0.items (c.in_ok-edges_of.ensures one is);
      steps = c.in_ok-first.ensures;
    }
