use Rattle.why_forbidden.proofs.drawing.edges_of.Goals as goal

pub returns : goal.returns
returns c = λ one is. record {
  known = c.in_ok-lines.lines.items;
  shown = c.in_ok-shown.shown.items;
  both = c.in_ok-append.ensures.items;
  of_language = c.in_ok-lines.ensures one is;
  of_model = c.in_ok-shown.ensures;
}
