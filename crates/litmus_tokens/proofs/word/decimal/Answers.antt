use Rattle.std.proofs.Common.{◌≡◌, ℕ, ◌+◌, ◌-◌, ◌*◌, ◌≤◌, ◌<◌, ◌⊎◌, inl, inr, List, [], ◌∷◌, min, drop, get_or, ap, ◌∙◌, arith}
use Rattle.std.proofs.lemmas.Bool.{cases_lt}
use Rattle.std.proofs.lemmas.List.{at_drop_more, at_drop_all}
use Rattle.litmus_tokens.specs.Words.{decimal, decimal_from}
use Rattle.litmus_tokens.proofs.word.decimal.Goals as goal

at_least : (a m : ℕ) (ds : List ℕ) → m ≤ a → m ≤ decimal_from a ds
at_least a m [] h = h
at_least a m (d ∷ ds) h = at_least (a * 10 + (d - 48)) m ds (omega arith)

both : (a b m : ℕ) → m ≤ a → m ≤ b → min a m ≡ min b m
both a b m h k = omega arith

-- a number over the bound stays over it
capped : (a b m : ℕ) (ds : List ℕ) → b ≡ min a m
    → min (decimal_from a ds) m ≡ min (decimal_from b ds) m
capped a b m ds e = choose (cases_lt a m)
  where
    choose : (a < m) ⊎ (m ≤ a) → min (decimal_from a ds) m ≡ min (decimal_from b ds) m
    choose (inl lt) = let same : a ≡ b = omega arith in ap (λ x. min (decimal_from x ds) m) same
    choose (inr le) =
        let high : m ≤ b = omega arith in
        both (decimal_from a ds) (decimal_from b ds) m (at_least a m ds le) (at_least b m ds high)

pub loop-digit-preserved : goal.loop-digit-preserved
loop-digit-preserved c =
    let ds = c.args.digits.now in
    let i = c.loop-digit.digit-index in
    let n = c.loop-digit.n in
    let next : c.saturating_add-n.result ≡ min (n * 10 + (get_or ds i 0 - 48)) 18446744073709551615 = omega (arith, c.saturating_mul.ensures, c.saturating_sub.ensures, c.from.ensures, c.saturating_add-n.ensures) in
    record {
      fits = omega arith;
      same =
          c.loop-digit.invariant.same
          ∙ ap (λ x. min x 18446744073709551615)
          (at_drop_more (decimal_from n) ds i 0 (omega arith))
          ∙ capped (n * 10 + (get_or ds i 0 - 48)) c.saturating_add-n.result 18446744073709551615
          (drop (i + 1) ds) next;
    }

pub returns : goal.returns
returns c =
    let ds = c.args.digits.now in
    let i = c.loop-digit.digit-index in
    let n = c.loop-digit.n in
    let e : min (decimal ds) 18446744073709551615 ≡ min n 18446744073709551615 = c.loop-digit.invariant.same ∙ ap (λ x. min x 18446744073709551615) (at_drop_all (decimal_from n) ds i (omega arith)) in
    omega (arith, e, c.loop-digit.invariant.fits)
