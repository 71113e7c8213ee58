use Rattle.std.proofs.Common.{arith, ap, subst, sym, ◌≤◌, length}
use Rattle.text_values.specs.Names.{key_of, key_bytes, name_bytes, IsSoundName}
use Rattle.text_values.proofs.InPlace.{at_index, counted}
use Rattle.text_values.proofs.name.Name.key.Goals as goal

pub returns-in-Short : goal.returns-in-Short
unfolding key_of key_bytes
returns-in-Short c =
    let sound : IsSoundName c.self.inside.bytes = c.self.invariant in
    let same = subst IsSoundName c.in-Short.is sound in
    let fits : c.in-Short.length ≤ length c.in-Short.short = omega (arith, same.0, c.short_key.ensures.room) in
    let at = at_index c.in-Short.length c.in-Short.short same.1 fits in
    rw (
      sym c.self.view_is,
      ap name_bytes c.in-Short.is,
      counted c.in-Short.length c.in-Short.short same.0 fits,
      at 0,
      at 1,
      at 2,
      at 3,
      at 4,
      at 5,
      at 6,
    )
    (c.short_key.ensures.key (omega (arith, same.0)))
