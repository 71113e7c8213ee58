use Rattle.std.proofs.Common.{◌≡◌, drop}
use Rattle.std.specs.List.{list_all}
use Rattle.cat_expressions.specs.Reading.{is_no_bracket}
use Rattle.cat_expressions.proofs.frames.are_outermost.Given as goal

abbrev pub invariant-loop-f : goal.invariant-loop-f
invariant-loop-f l =
    list_all is_no_bracket l.frames ≡ list_all is_no_bracket (drop l.f-index l.frames)
