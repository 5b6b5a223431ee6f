-- Facts of an answer that follow from others.
use Rattle.std.proofs.Common.{Result, Ok, Err, IfOk}
use Rattle.std.specs.Prelude.{OnErr}

-- of two that an answer has
pub if_both : {X Y : Type 0} (r : Result X Y) (P Q R : X → Type 0) → ((x : X) → P x → Q x → R x) → IfOk r P → IfOk r Q → IfOk r R
if_both (Ok x) P Q R f p q = f x p q
if_both (Err e) P Q R f p q = tt

-- of what a refusal means
pub refused_more : {X Y : Type 0} (r : Result X Y) (P Q : Type 0) → (P → Q) → OnErr r P → OnErr r Q
refused_more (Ok x) P Q f p = tt
refused_more (Err e) P Q f p = f p
