-- The exit statuses of the program.
use Rattle.std.specs.Prelude.{ℕ, true, false}
use Rattle.command_line.specs.declared.status.RunEnd.{RunEnd}
use Rattle.command_line.specs.declared.status.RunEnd.TheVariants as ends

-- 0 done, 1 a text was refused, 2 usage or help, 3 a fault of reading, writing or memory
abbrev pub status_of : RunEnd → ℕ
status_of (ends.Answered false) = 0
status_of (ends.Answered true) = 1
status_of ends.Usage = 2
status_of (ends.Fault fault) = 3
