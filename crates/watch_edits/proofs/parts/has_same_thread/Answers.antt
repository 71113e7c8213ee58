use Rattle.std.proofs.Common.{◌≡◌, ◌<◌, length, map, sym, ◌∙◌, arith}
use Rattle.std.proofs.lemmas.Bool.{false≢true}
use Rattle.std.proofs.lemmas.List.{length-map}
use Rattle.text_values.specs.TestValue.{thread_steps}
use Rattle.watch_edits.proofs.Ends.{same_threads, same_steps}
use Rattle.watch_edits.proofs.parts.has_same_thread.Goals as goal

pub returns-clause-yes : goal.returns-clause-yes
returns-clause-yes c = λ t.
    let os = c.args.old.now.threads.items in let ns = c.args.new.now.threads.items in
    let m : length (map thread_steps os) ≡ length os = length-map os thread_steps in let n : length (map thread_steps ns) ≡ length ns = length-map ns thread_steps in
    let a : c.args.index < length os = omega (arith, m, c.requires.old) in let b : c.args.index < length ns = omega (arith, n, c.requires.new) in
    same_threads os ns c.args.index c.index-this.result.now c.index-that.result.now a b
    c.index-this.ensures c.index-that.ensures (sym c.deref.ensures.value
    ∙ (c.are_same_steps.ensures.0 t ∙ c.deref-2.ensures.value))

pub returns-clause-no : goal.returns-clause-no
returns-clause-no c = λ f s.
    let os = c.args.old.now.threads.items in let ns = c.args.new.now.threads.items in
    let m : length (map thread_steps os) ≡ length os = length-map os thread_steps in let n : length (map thread_steps ns) ≡ length ns = length-map ns thread_steps in
    let a : c.args.index < length os = omega (arith, m, c.requires.old) in let b : c.args.index < length ns = omega (arith, n, c.requires.new) in
    let e = same_steps os ns c.args.index c.index-this.result.now c.index-that.result.now a b c.index-this.ensures c.index-that.ensures s in
    false≢true (sym f
    ∙ c.are_same_steps.ensures.1
    (c.deref.ensures.value ∙ (e ∙ sym c.deref-2.ensures.value)))
