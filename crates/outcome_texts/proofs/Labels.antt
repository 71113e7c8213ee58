-- Lines that are printed in parts.
use Rattle.std.proofs.Common.{◌≡◌, ℕ, List, ◌++◌, Bool, codes, append_assoc}
use Rattle.std.specs.Prelude.{decimal}
use Rattle.outcome_texts.specs.Log.{line_end, met_word, observation_label, witness_lines}

pub label_joined : (t a b d name : List ℕ) → a ≡ t ++ codes "Observation " → b ≡ a ++ name
    → d ≡ b ++ codes " " → d ≡ t ++ observation_label name
unfolding observation_label
label_joined t a b d name p q r = rw (r, q, p) (simp append_assoc)

pub witnesses_joined : (t a b d e g h word : List ℕ) (ok : Bool) (positive negative : ℕ)
    → word ≡ met_word ok → a ≡ t ++ word → b ≡ a ++ codes "\nWitnesses\nPositive: "
    → d ≡ b ++ decimal positive → e ≡ d ++ codes " Negative: " → g ≡ e ++ decimal negative
    → h ≡ g ++ line_end → h ≡ t ++ witness_lines ok positive negative
unfolding witness_lines
witnesses_joined t a b d e g h word ok positive negative is p q r s u v =
    rw (v, u, s, r, q, p, is) (simp append_assoc)
