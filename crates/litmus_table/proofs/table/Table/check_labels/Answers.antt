use Rattle.std.proofs.Common.{◌≡◌, ◌<◌, List, length, get_or, Some, None, sym, ap, ◌∙◌, subst, arith}
use Rattle.litmus_table.specs.declared.late.PlacedThread.{PlacedThread}
use Rattle.litmus_table.specs.Checks.{IsFoundAt}
use Rattle.litmus_table.specs.Late.{first_late}
use Rattle.litmus_table.specs.Reading.{thread_of, threads_of}
use Rattle.litmus_table.specs.Bounds.{AllAtMost, AreThreadsUpTo, IsFoundWithin}
use Rattle.litmus_table.proofs.Places.{thread_within}
use Rattle.litmus_table.proofs.Walk.{found_in, passed, stopped, all_passed}
use Rattle.litmus_table.proofs.table.Table.check_labels.Goals as goal

pub returns-in-Some-clause-within : goal.returns-in-Some-clause-within
returns-in-Some-clause-within c = λ n h.
    let ts = c.deref-thread-items.result.now in
    let i = c.loop-thread.thread-index in
    let same : ts ≡ c.args.self.now.threads.items = c.deref-thread-items.ensures.value in
    let there : AreThreadsUpTo n (threads_of ts) = subst (λ (us : List PlacedThread). AreThreadsUpTo n (threads_of us)) (sym same) h in
    let lt : i < length ts = omega arith in
    let item : c.thread-item.result ≡ get_or ts i c.thread-item.result = c.thread-item.is in
    let here : AllAtMost n c.thread-item.result.offsets.items = subst (λ (t : PlacedThread). AllAtMost n t.offsets.items) (sym item) (thread_within n ts i c.thread-item.result there lt) in
    subst (IsFoundWithin n) c.in-Some.is (c.in_ok-fault.ensures.within n here)

pub returns-in-Some-clause-found : goal.returns-in-Some-clause-found
returns-in-Some-clause-found c = λ text notes a.
    let ts = c.args.self.now.threads.items in
    let i = c.loop-thread.thread-index in
    let d = c.thread-item.result in
    let lt : i < length ts = omega arith in
    let item : get_or ts i d ≡ d = ap (λ (l : List PlacedThread). get_or l i d) (sym c.deref-thread-items.ensures.value) ∙ sym c.thread-item.is in
    let found : found_in (thread_of (get_or ts i d)) ≡ Some c.in-Some.fault = ap (λ (t : PlacedThread). found_in (thread_of t)) item ∙ sym c.in_ok-fault.ensures.found ∙ c.in-Some.is in
    subst (IsFoundAt text (Some c.in-Some.fault)) (sym (c.loop-thread.invariant text notes a))
    (stopped text notes ts i d c.in-Some.fault a lt found)

pub loop-thread-preserved : goal.loop-thread-preserved
loop-thread-preserved c = λ text notes a.
    let ts = c.args.self.now.threads.items in
    let i = c.loop-thread.thread-index in
    let d = c.thread-item.result in
    let lt : i < length ts = omega arith in
    let item : get_or ts i d ≡ d = ap (λ (l : List PlacedThread). get_or l i d) (sym c.deref-thread-items.ensures.value) ∙ sym c.thread-item.is in
    let found : found_in (thread_of (get_or ts i d)) ≡ None = ap (λ (t : PlacedThread). found_in (thread_of t)) item ∙ sym c.in_ok-fault.ensures.found ∙ c.in_default.is in
    c.loop-thread.invariant text notes a ∙ passed text notes ts i d a lt found

pub returns-clause-found : goal.returns-clause-found
returns-clause-found c = λ text notes a.
    let ts = c.args.self.now.threads.items in
    let i = c.loop-thread.thread-index in
    let e : first_late notes ≡ None = c.loop-thread.invariant text notes a ∙ all_passed text notes ts i a (omega arith) in
    subst (IsFoundAt text None) (sym e) tt
