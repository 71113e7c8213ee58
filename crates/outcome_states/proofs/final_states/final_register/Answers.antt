use Rattle.std.proofs.Common.{◌≡◌, length, slice_get, refl}
use Rattle.std.specs.Prelude.{Some, None}
use Rattle.std.proofs.lemmas.Option.{slice_get_read, slice_get_past}
use Rattle.outcome_states.proofs.final_states.final_register.Goals as goal

pub returns-in_default : goal.returns-in_default
returns-in_default c =
    let none : slice_get c.args.space.now.registers.items c.args.thread ≡ None = rw c.deref.ensures.value at (slice_get_past c.deref.result.now c.args.thread c.in_default.ensures.lookup.3) in
    rw none refl

pub returns-in_default-get : goal.returns-in_default-get
returns-in_default-get c =
    let runs : slice_get c.args.space.now.registers.items c.args.thread ≡ Some c.in-Some.runs.now = rw c.deref.ensures.value at (slice_get_read c.deref.result.now (length c.deref.result.now) c.args.thread c.in-Some.runs.now refl c.in-Some.ensures.lookup.3.0 c.in-Some.ensures.lookup.1) in
    let none : slice_get c.args.combination.now.runs.items c.args.thread ≡ None = rw c.deref-2.ensures.value at (slice_get_past c.deref-2.result.now c.args.thread c.in_default-get.ensures.lookup.3) in
    rw (runs, none) refl

pub returns-in-None : goal.returns-in-None
returns-in-None c =
    let runs : slice_get c.args.space.now.registers.items c.args.thread ≡ Some c.in-Some.runs.now = rw c.deref.ensures.value at (slice_get_read c.deref.result.now (length c.deref.result.now) c.args.thread c.in-Some.runs.now refl c.in-Some.ensures.lookup.3.0 c.in-Some.ensures.lookup.1) in
    let run : slice_get c.args.combination.now.runs.items c.args.thread ≡ Some c.in-Some-get.run'.now = rw c.deref-2.ensures.value at (slice_get_read c.deref-2.result.now (length c.deref-2.result.now) c.args.thread c.in-Some-get.run'.now refl c.in-Some-get.ensures.lookup.3.0 c.in-Some-get.ensures.lookup.1) in
    let none : slice_get c.in-Some.runs.now.items c.in-Some-get.run'.now ≡ None = rw c.deref-3.ensures.value at (slice_get_past c.deref-3.result.now c.in-Some-get.run'.now c.in-None.ensures.lookup.3) in
    rw (runs, run, none) refl

pub returns-in-None-get : goal.returns-in-None-get
returns-in-None-get c =
    let runs : slice_get c.args.space.now.registers.items c.args.thread ≡ Some c.in-Some.runs.now = rw c.deref.ensures.value at (slice_get_read c.deref.result.now (length c.deref.result.now) c.args.thread c.in-Some.runs.now refl c.in-Some.ensures.lookup.3.0 c.in-Some.ensures.lookup.1) in
    let run : slice_get c.args.combination.now.runs.items c.args.thread ≡ Some c.in-Some-get.run'.now = rw c.deref-2.ensures.value at (slice_get_read c.deref-2.result.now (length c.deref-2.result.now) c.args.thread c.in-Some-get.run'.now refl c.in-Some-get.ensures.lookup.3.0 c.in-Some-get.ensures.lookup.1) in
    let registers : slice_get c.in-Some.runs.now.items c.in-Some-get.run'.now ≡ Some c.in-Some-get-2.registers.now = rw c.deref-3.ensures.value at (slice_get_read c.deref-3.result.now (length c.deref-3.result.now) c.in-Some-get.run'.now c.in-Some-get-2.registers.now refl c.in-Some-get-2.ensures.lookup.3.0 c.in-Some-get-2.ensures.lookup.1) in
    let none : slice_get c.in-Some-get-2.registers.now c.args.register ≡ None = rw c.from.ensures at (slice_get_past c.in-Some-get-2.registers.now c.from.result c.in-None-get.ensures.lookup.3) in
    rw (runs, run, registers, none) refl

pub returns-in-Some-get-3 : goal.returns-in-Some-get-3
returns-in-Some-get-3 c =
    let runs : slice_get c.args.space.now.registers.items c.args.thread ≡ Some c.in-Some.runs.now = rw c.deref.ensures.value at (slice_get_read c.deref.result.now (length c.deref.result.now) c.args.thread c.in-Some.runs.now refl c.in-Some.ensures.lookup.3.0 c.in-Some.ensures.lookup.1) in
    let run : slice_get c.args.combination.now.runs.items c.args.thread ≡ Some c.in-Some-get.run'.now = rw c.deref-2.ensures.value at (slice_get_read c.deref-2.result.now (length c.deref-2.result.now) c.args.thread c.in-Some-get.run'.now refl c.in-Some-get.ensures.lookup.3.0 c.in-Some-get.ensures.lookup.1) in
    let registers : slice_get c.in-Some.runs.now.items c.in-Some-get.run'.now ≡ Some c.in-Some-get-2.registers.now = rw c.deref-3.ensures.value at (slice_get_read c.deref-3.result.now (length c.deref-3.result.now) c.in-Some-get.run'.now c.in-Some-get-2.registers.now refl c.in-Some-get-2.ensures.lookup.3.0 c.in-Some-get-2.ensures.lookup.1) in
    let value : slice_get c.in-Some-get-2.registers.now c.args.register ≡ Some c.in-Some-get-3.value.now = rw c.from.ensures at (slice_get_read c.in-Some-get-2.registers.now (length c.in-Some-get-2.registers.now) c.from.result c.in-Some-get-3.value.now refl c.in-Some-get-3.ensures.lookup.3.0 c.in-Some-get-3.ensures.lookup.1) in
    rw (runs, run, registers, value) refl
