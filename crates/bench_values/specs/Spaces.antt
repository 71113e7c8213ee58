-- What a space shows, as plain data: its locations, and its executions in order.
use Rattle.std.specs.Prelude.{ℕ, List, []}
use Rattle.candidate_spaces.specs.Space.{Shown, shown_in}
use Rattle.candidate_spaces.specs.declared.candidate.Space.{Space}

pub record SpaceContent : Type 0 where
  pub locations : List (List ℕ)
  pub executions : List Shown

abbrev pub space_content : Space → SpaceContent
space_content s = record { locations = s.locations.items; executions = shown_in s }

-- a space without executions
abbrev pub no_executions : SpaceContent
no_executions = record { locations = []; executions = [] }
