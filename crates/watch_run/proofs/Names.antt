-- The names of the models on the bench.
use Rattle.std.proofs.Common.{◌≡◌, ℕ, suc, ◌+◌, ◌<◌, ◌^◌, List, [], ◌∷◌, ◌++◌, ap, ◌∙◌, arith}
use Rattle.std.specs.Prelude.{codes, decimal}
use Rattle.std.proofs.lemmas.Fmt.{decimal_injective}
use Rattle.std.proofs.lemmas.List.{append_cancel_left}
use Rattle.watch_run.specs.Holding.{bench_model_name, bench_model_names}

-- two indexes have two names
pub apart : (index : ℕ) (name : List ℕ) → index < 2 ^ 64 → name ≡ bench_model_name index
    → (other : ℕ) → other < 2 ^ 64 → bench_model_name other ≡ name → other ≡ index
apart index name inside is other below same =
    decimal_injective other index below inside
    (append_cancel_left (codes "model") (decimal other) (decimal index) (same ∙ is))

-- with one file more
pub names_more : (index : ℕ)
    → bench_model_names (index + 1) ≡ bench_model_names index ++ bench_model_name index ∷ []
names_more index =
    let one : index + 1 ≡ suc index = omega arith in
    ap bench_model_names one
