use Rattle.std.proofs.Common.{ℕ, ◌+◌, ◌≡◌, ◌∙◌, inl, inr, List, arith, length, refl, sym, subst}
use Rattle.std.specs.Prelude.{Option, vec_len}
use Rattle.std.proofs.lemmas.Option.{slice_get_read}
use Rattle.thread_runs.specs.declared.instruction.Instruction.{Instruction}
use Rattle.why_text.specs.Origins.{AreMadeBelow, NoThread}
use Rattle.why_text.proofs.Replaying.{threads_more}
use Rattle.why_text.proofs.events.all_made.Goals as goal

pub loop-thread-init : goal.loop-thread-init
loop-thread-init c =
    record {
      made = λ test domain count over. rw c.new-found.ensures.items NoThread;
      none = λ e. c.new-found.ensures.items;
    }

pub loop-thread-preserved : goal.loop-thread-preserved
loop-thread-preserved c =
    let threads = c.args.threads.now in
    let events = c.args.events.now in
    let n : ℕ = c.loop-thread.thread in
    let runs = c.index-threads-thread.result in
    let is = slice_get_read threads (length threads) n runs refl (omega arith) c.index-threads-thread.is in
    let made = rw c.deref.ensures.value at c.in_ok-made.ensures in
    record {
      made = λ test domain count over.
          subst (λ (xs : List (Option Instruction)). AreMadeBelow test domain events (n + 1) xs)
          (sym {A = List (Option Instruction)} c.in_ok-append.ensures.items)
          (threads_more test domain events count n threads runs c.loop-thread.found.items
          c.in_ok-made.made.items over is made
          (c.loop-thread.invariant.made test domain count over));
      none = λ e. absurd (omega (arith, e));
    }

pub returns : goal.returns
returns c = λ test all.
    let n : ℕ = c.loop-thread.thread in
    let full : n ≡ length c.args.threads.now = omega (arith, c.loop-thread-test.false, c.loop-thread.auto.thread-end) in
    elim all [
      | inl over ↦
          let (domain, is, runs) = over in
          inl (
            domain,
            is,
            subst
                (λ (k : ℕ).
                AreMadeBelow test domain c.args.events.now k c.loop-thread.found.items)
                (full ∙ runs.all)
                (c.loop-thread.invariant.made test domain (vec_len test.threads) runs),
          )
      | inr refused ↦
          let (r, fault, empty) = refused in
          inr (r, fault, c.loop-thread.invariant.none (rw empty at full))
    ]
