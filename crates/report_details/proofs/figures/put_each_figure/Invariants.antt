use Rattle.std.proofs.Common.{◌≡◌, ◌++◌, take, map}
use Rattle.std.specs.List.{flat_map}
use Rattle.report_details.specs.Figures.{figure_of}
use Rattle.report_details.proofs.figures.put_each_figure.Given as goal

abbrev pub invariant-loop-first : goal.invariant-loop-first
invariant-loop-first l =
    l.text.items
    ≡ l.initial.text.items
    ++ flat_map (figure_of l.models (map (λ d. d.items) l.drawings) l.groups)
    (take l.first-index l.firsts)
