use Rattle.std.proofs.Common.{◌≡◌, ◌+◌, ◌-◌, ◌++◌, ◌∙◌, ℕ, List, take, drop, ap, arith}
use Rattle.session_script.proofs.Parted.{gap_passed, word_pushed}
use Rattle.session_script.proofs.words.words_of.Goals as goal

pub loop-start-preserved-then-length-eq0 : goal.loop-start-preserved-then-length-eq0
loop-start-preserved-then-length-eq0 c =
    c.loop-start.invariant
    ∙ ap (λ (l : List (List ℕ)). c.loop-start.words.items ++ l) (gap_passed c.args.line.now
    c.loop-start.start c.word_length-length.result (omega arith)
    c.word_length-length.ensures.value (omega arith))

pub loop-start-preserved : goal.loop-start-preserved
loop-start-preserved c =
    let n = c.word_length-length.result in
    let i = c.loop-start.start in
    let count : (i + n) - i ≡ n = omega arith in
    word_pushed c.args.line.now c.loop-start.words.items c.push_word.new.words.items i n _
    (omega arith) c.word_length-length.ensures.value (omega arith)
    (ap (λ (k : ℕ). take k (drop i c.args.line.now)) count) c.in_ok-push_word.ensures
    c.loop-start.invariant
