-- Four parts, written one behind the other.
use Rattle.std.proofs.Common.{◌≡◌, ℕ, List, ◌++◌, append_assoc}

pub four_parts : (t a b c d : List ℕ)
    → (((t ++ a) ++ b) ++ c) ++ d ≡ t ++ (a ++ b ++ c ++ d)
four_parts t a b c d = simp append_assoc
