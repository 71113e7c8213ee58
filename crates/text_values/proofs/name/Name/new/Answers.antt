use Rattle.std.proofs.Common.{ap, ◌∙◌, ◌≡◌, ℕ, ◌++◌, ◌≤◌, List, length, take, Vec, Global, arith}
use Rattle.std.proofs.lemmas.List.{take-append-le, take_all}
use Rattle.text_values.proofs.name.Name.new.Goals as goal

-- the bytes that were written in front
written : (text prefix behind : List ℕ) → prefix ≡ text → take (length text) (prefix ++ behind) ≡ text
written text prefix behind e =
    let l : length text ≤ length prefix = omega (arith, ap length e) in
    take-append-le (length text) prefix behind l
    ∙ take_all (length text) prefix (omega (arith, ap length e)) ∙ e

pub returns-then-text-gt-SHORT : goal.returns-then-text-gt-SHORT
returns-then-text-gt-SHORT c =
    ap (λ (v : Vec ℕ Global). v.items) c.in_ok-long.ensures.ok ∙ c.in_ok-from_slice.ensures.items

pub returns : goal.returns
returns c = written c.args.text.now c.copy_from_slice.new.self _ c.copy_from_slice.ensures.after
