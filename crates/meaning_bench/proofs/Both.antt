-- Two things hold of a value, where there is one.
use Rattle.std.specs.Prelude.{Result, Ok, Err, IfOk}

pub both_ok : {X F : Type 0} (r : Result X F) (P Q : X → Type 0) → IfOk r P → IfOk r Q
    → IfOk r (λ x. P x × Q x)
both_ok (Ok x) P Q p q = (p, q)
both_ok (Err f) P Q p q = tt
