use Rattle.std.proofs.Common.{◌≡◌, ◌<◌, ◌^◌, false, IsTrue, sym, subst, ◌∙◌, arith, rules}
use Rattle.bit_rows.specs.Relation.{Events}
use Rattle.run_combinations.specs.Rounds.{IsArisingRound}
use Rattle.run_combinations.proofs.Members.{wider_grows, few_fit}
use Rattle.run_combinations.proofs.Arising.{round_keeps, round_count, round_arises, nothing_more}
use Rattle.run_combinations.proofs.reading.Reading.derived.Goals as goal

pub loop-derived-smaller : goal.loop-derived-smaller
loop-derived-smaller c =
    let r = c.args.self.now in let reads_from = c.args.reads_from.now in let without = c.args.without in
    let old = c.loop-derived.derived in let new = c.loop-derived.next in
    let round = c.loop-derived.invariant.round in
    let apart : new ≡ old → ⊥ = λ e. let t : IsTrue false = c.loop-derived-test.ensures.1 e in search rules in
    let more : old.word < new.word = wider_grows old new (sym (round_count r reads_from without old new round)) (round_keeps r reads_from without old new round) (λ e. apart (sym e)) in
    let few : new.word < 2 ^ 128 = few_fit new (λ a m. let w = round.loads.within a m in let s = round.stores.count in let k = c.loop-derived.invariant.count in omega (arith, w, s, k)) in
    omega (arith, more, few)

pub loop-derived-preserved : goal.loop-derived-preserved
loop-derived-preserved c = record {
  count =
      round_count c.args.self.now c.args.reads_from.now c.args.without c.loop-derived.derived
      c.loop-derived.next c.loop-derived.invariant.round ∙ c.loop-derived.invariant.count;
  round = c.round-next-in-loop-derived.ensures;
  arise =
      round_arises c.args.self.now c.args.reads_from.now c.args.without c.loop-derived.derived
      c.loop-derived.next c.loop-derived.invariant.round c.loop-derived.invariant.arise;
}

pub returns : goal.returns
returns c es pairs shows x =
    let e : c.loop-derived.next ≡ c.loop-derived.derived = c.loop-derived-test.ensures.0 (search rules) in (
      c.loop-derived.invariant.arise es pairs shows x,
      nothing_more es pairs c.args.self.now c.args.reads_from.now c.args.without c.loop-derived.derived
          shows
          (let h = c.loop-derived.invariant.count in let f = shows.few in omega (arith, h, f))
          (subst
          (λ (n : Events). IsArisingRound c.args.self.now c.args.reads_from.now c.args.without
          c.loop-derived.derived n) e c.loop-derived.invariant.round) x,
    )
