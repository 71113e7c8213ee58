use Rattle.why_labels.proofs.label.+innermost.Given as goal

abbrev pub decreases-innermost : goal.decreases-innermost
decreases-innermost l = l.item
