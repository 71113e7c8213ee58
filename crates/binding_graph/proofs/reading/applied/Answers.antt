use Rattle.std.proofs.Common.{◌≡◌, Some, None, Err, length, map, reverse, slice_get, refl, sym, ap, ◌∙◌}
use Rattle.std.proofs.lemmas.Option.{slice_get_read, slice_get_past}
use Rattle.binding_kinds.specs.Value.{entry_of}
use Rattle.binding_kinds.specs.Kinds.{found}
use Rattle.binding_kinds.specs.Meanings.{parameter_of}
use Rattle.binding_kinds.proofs.Bodies.{fault_of, applied_fault}
use Rattle.binding_functions.proofs.Applied.{told_by}
use Rattle.binding_graph.proofs.Sights.{seen_usage, seen_function, refused_plainly, unseen, seen_sense}
use Rattle.binding_graph.proofs.reading.applied.Goals as goal

pub returns-in-Err-clause-usage : goal.returns-in-Err-clause-usage
returns-in-Err-clause-usage c =
    let fs = c.args.sight.now.functions.now in
    let names = reverse (map entry_of c.args.sight.now.entries.now) in
    let ps = c.args.sight.now.parameters.now in
    let n = c.args.count in
    let x = c.args.name.now in
    seen_usage fs names ps n x (Err c.in-Err.fault) c.in-Err.ensures

pub returns-in-Err-clause-sense : goal.returns-in-Err-clause-sense
returns-in-Err-clause-sense c = λ ss kept.
    let fs = c.args.sight.now.functions.now in
    let names = reverse (map entry_of c.args.sight.now.entries.now) in
    let ps = c.args.sight.now.parameters.now in
    let n = c.args.count in
    let x = c.args.name.now in (
      told_by fs ss names ps n x (Err c.in-Err.fault) kept c.in-Err.ensures,
      refused_plainly fs ss names ps n x c.in-Err.fault kept c.in-Err.ensures,
    )

pub returns-in-None-clause-usage : goal.returns-in-None-clause-usage
returns-in-None-clause-usage c =
    let fs = c.args.sight.now.functions.now in
    let names = reverse (map entry_of c.args.sight.now.entries.now) in
    let ps = c.args.sight.now.parameters.now in
    let n = c.args.count in
    let x = c.args.name.now in
    seen_function fs names ps n x c.in-Ok.index None c.in-Ok.ensures
    (slice_get_past fs c.in-Ok.index c.in-None.ensures.lookup.3)

pub returns-in-None-clause-sense : goal.returns-in-None-clause-sense
returns-in-None-clause-sense c = λ ss kept.
    let fs = c.args.sight.now.functions.now in
    let names = reverse (map entry_of c.args.sight.now.entries.now) in
    let ps = c.args.sight.now.parameters.now in
    let n = c.args.count in
    let x = c.args.name.now in
    absurd (unseen fs ss names ps n x c.in-Ok.index kept c.in-Ok.ensures
    (slice_get_past fs c.in-Ok.index c.in-None.ensures.lookup.3))

pub returns-in-Some-clause-usage : goal.returns-in-Some-clause-usage
returns-in-Some-clause-usage c =
    let fs = c.args.sight.now.functions.now in
    let names = reverse (map entry_of c.args.sight.now.entries.now) in
    let ps = c.args.sight.now.parameters.now in
    let n = c.args.count in
    let x = c.args.name.now in
    let one = c.in-Some.function.now in
    let there : slice_get fs c.in-Ok.index ≡ Some one = slice_get_read fs (length fs) c.in-Ok.index one refl c.in-Some.ensures.lookup.3.0 c.in-Some.ensures.lookup.1 in
    seen_function fs names ps n x c.in-Ok.index (Some one) c.in-Ok.ensures there

pub returns-in-Some-clause-sense : goal.returns-in-Some-clause-sense
returns-in-Some-clause-sense c = λ ss kept.
    let fs = c.args.sight.now.functions.now in
    let names = reverse (map entry_of c.args.sight.now.entries.now) in
    let ps = c.args.sight.now.parameters.now in
    let n = c.args.count in
    let x = c.args.name.now in
    let one = c.in-Some.function.now in
    let there : slice_get fs c.in-Ok.index ≡ Some one = slice_get_read fs (length fs) c.in-Ok.index one refl c.in-Some.ensures.lookup.3.0 c.in-Some.ensures.lookup.1 in
    seen_sense fs ss names ps n x c.in-Ok.index one kept c.in-Ok.ensures there

pub returns-in-Err-clause-fault : goal.returns-in-Err-clause-fault
returns-in-Err-clause-fault c = λ ss kept.
    let fs = c.args.sight.now.functions.now in
    let names = reverse (map entry_of c.args.sight.now.entries.now) in
    let x = c.args.name.now in
    applied_fault fs ss c.args.count (parameter_of (reverse c.args.sight.now.parameters.now) x)
    (found names x) kept ∙ ap fault_of (sym c.in-Err.ensures)

pub returns-in-None-clause-fault : goal.returns-in-None-clause-fault
returns-in-None-clause-fault c = λ ss kept.
    let fs = c.args.sight.now.functions.now in
    let names = reverse (map entry_of c.args.sight.now.entries.now) in
    let ps = c.args.sight.now.parameters.now in
    absurd (unseen fs ss names ps c.args.count c.args.name.now c.in-Ok.index kept c.in-Ok.ensures
    (slice_get_past fs c.in-Ok.index c.in-None.ensures.lookup.3))

pub returns-in-Some-clause-fault : goal.returns-in-Some-clause-fault
returns-in-Some-clause-fault c = λ ss kept.
    let fs = c.args.sight.now.functions.now in
    let names = reverse (map entry_of c.args.sight.now.entries.now) in
    let x = c.args.name.now in
    applied_fault fs ss c.args.count (parameter_of (reverse c.args.sight.now.parameters.now) x)
    (found names x) kept ∙ ap fault_of (sym c.in-Ok.ensures)
