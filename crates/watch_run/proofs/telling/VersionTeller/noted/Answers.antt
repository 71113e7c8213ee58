use Rattle.std.proofs.Common.{◌≡◌, List, ℕ, get_or, ap, ◌∙◌, arith}
use Rattle.std.specs.Prelude.{bytes_eq, Vec}
use Rattle.std.specs.declared.alloc.Global.{Global}
use Rattle.watch_run.proofs.Told.{fault_same, fault_new}
use Rattle.watch_run.proofs.telling.VersionTeller.noted.Goals as goal

pub returns-then-eq-clause-told : goal.returns-then-eq-clause-told
returns-then-eq-clause-told g c =
    let now = c.begin_faults.new.self.faults.items in
    let last = c.index.result.now in
    let same : c.eq.result ≡ bytes_eq (get_or now c.args.index last).items c.args.fault.items =
    c.eq.ensures
    ∙ ap (λ (l : List ℕ). bytes_eq l c.as_slice-2.result.now)
    (c.as_slice.ensures.value ∙ ap (λ (v : Vec ℕ Global). v.items) c.index.ensures)
    ∙ ap (λ (l : List ℕ). bytes_eq (get_or now c.args.index last).items l)
    c.as_slice-2.ensures.value in
    fault_same c.args.index c.args.fault.items _ _ now last c.eq.result
    (omega (arith, c.requires, c.in_ok-begin_faults.ensures.long)) c.in_ok-begin_faults.ensures.faults same c.if-eq.true
    c.new.ensures.items

pub returns-clause-told : goal.returns-clause-told
returns-clause-told g c =
    let now = c.begin_faults.new.self.faults.items in
    let last = c.index.result.now in
    let same : c.eq.result ≡ bytes_eq (get_or now c.args.index last).items c.args.fault.items =
    c.eq.ensures
    ∙ ap (λ (l : List ℕ). bytes_eq l c.as_slice-2.result.now)
    (c.as_slice.ensures.value ∙ ap (λ (v : Vec ℕ Global). v.items) c.index.ensures)
    ∙ ap (λ (l : List ℕ). bytes_eq (get_or now c.args.index last).items l)
    c.as_slice-2.ensures.value in
    fault_new c.args.index c.args.fault.items _ now last c.replace-last.new.dest c.eq.result
    (omega (arith, c.requires, c.in_ok-begin_faults.ensures.long)) c.in_ok-begin_faults.ensures.faults same c.if-eq.false
    (ap (λ (v : Vec ℕ Global). v.items) c.replace-last.ensures.after ∙ c.in_ok-copy.ensures.items
    ∙ c.deref.ensures.value)
