use Rattle.std.proofs.Common.{w64, Fits, arith, sym, ◌∙◌}
use Rattle.std.proofs.lemmas.Simd.{Each1-get_or}
use Rattle.bit_rows.specs.Rows.{Sixteen}
use Rattle.bit_rows.proofs.EightWords.{written_block}
use Rattle.bit_rows.proofs.Registers.{first_lane, second_lane}
use Rattle.bit_rows.proofs.Writing.{written_none}
use Rattle.bit_rows.proofs.lanes.store_sixteen.Goals as goal

pub returns : goal.returns
returns c =
    let P = Sixteen 0 c.args.first c.args.second in
    let early = written_block _ _ _ _ 0 8 P (omega arith) (c.store.array_long ∙ sym c.told-words) (written_none c.args.words.now P) c.store.ensures
    (λ f j lt. (Each1-get_or (Fits w64) c.args.first j 0 (omega (arith, lt, c.fits-first.0))
    c.fits-first.1).fits)
    (λ j lt b. first_lane c.args.first c.args.second j b lt) in
    written_block _ _ _ _ 8 16 P (omega arith) (c.store-2.array_long ∙ sym c.store.array_long) early
    c.store-2.ensures
    (λ f j lt. (Each1-get_or (Fits w64) c.args.second j 0 (omega (arith, lt, c.fits-second.0))
    c.fits-second.1).fits)
    (λ j lt b. second_lane c.args.first c.args.second j b lt)
