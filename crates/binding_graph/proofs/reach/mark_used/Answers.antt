use Rattle.std.proofs.Common.{length, refl}
use Rattle.std.proofs.lemmas.Option.{slice_get_read, slice_get_past}
use Rattle.binding_graph.proofs.Reaching.{marks_used, marks_no_item}
use Rattle.binding_graph.proofs.reach.mark_used.Goals as goal

pub returns-in_ok-mark_functions : goal.returns-in_ok-mark_functions
returns-in_ok-mark_functions c =
    marks_used c.args.items.now c.args.index c.in-Some.item.now c.deref.result.now
    c.deref-in-Some.result.now c.args.marks.now.items c.mark_inputs.new.marks.items
    c.mark_functions.new.marks.items c.args.waiting.now.items c.mark_inputs.new.waiting.items
    c.mark_functions.new.waiting.items
    (slice_get_read c.args.items.now (length c.args.items.now) c.args.index c.in-Some.item.now refl
    c.in-Some.ensures.lookup.3.0 c.in-Some.ensures.lookup.1) c.deref.ensures.value
    c.deref-in-Some.ensures.value c.in_ok-mark_inputs.ensures c.in_ok-mark_functions.ensures

pub returns-in_default : goal.returns-in_default
returns-in_default c =
    marks_no_item c.args.items.now c.args.index c.args.marks.now.items c.args.waiting.now.items
    (slice_get_past c.args.items.now c.args.index c.in_default.ensures.lookup.3)
