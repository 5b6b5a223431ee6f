-- A reply that is the journal's own or the tree's, where the tree's means more.
use Rattle.std.proofs.Common.{◌≡◌, ◌∙◌, ap, Result, Ok, Err, OnOk, ⊎_elim, inl, inr}
use Rattle.lsm_below.specs.declared.error.Error.{Error}
use Rattle.lsm_below.specs.declared.error.Error.TheVariants.{OutOfMemory, OutOfOrder}
use Rattle.lsm_recorded.specs.Recorded.{OwnOr}

pub own_or-weaker : {A : Type 0} (r : Result A Error) (P Q : Type 0) → (P → Q) → OwnOr r P → OwnOr r Q
own_or-weaker r P Q f h = ⊎_elim (λ own. inl own) (λ rest. ⊎_elim (λ memory. inr (inl memory)) (λ p. inr (inr (f p))) rest) h

-- an answer is the tree's
pub own_or-ok : {A : Type 0} (r : Result A Error) (P Q R : Type 0) → (P → Q → R) → OwnOr r P → OnOk r Q → OnOk r R
own_or-ok (Ok x) P Q R f h q = ⊎_elim (λ own. absurd (cc own)) (λ rest. ⊎_elim (λ memory. absurd (cc memory)) (λ p. f p q) rest) h
own_or-ok (Err e) P Q R f h q = tt

-- a refusal that is handed on is the tree's own as far as it was
pub own_or-handed : {A B : Type 0} (r : Result A Error) (s : Result B Error) (e : Error) (P Q : Type 0) → r ≡ Err e → s ≡ Err e → (P → Q) → OwnOr r P → OwnOr s Q
own_or-handed r s e P Q was is f h = ⊎_elim (λ own. let told : e ≡ OutOfOrder = cc (was, own) in inl (is ∙ ap Err told)) (λ rest. ⊎_elim (λ memory. let told : e ≡ OutOfMemory = cc (was, memory) in inr (inl (is ∙ ap Err told))) (λ p. inr (inr (f p))) rest) h

pub own_or-answered : {A : Type 0} (r : Result A Error) (x : A) (P : Type 0) → r ≡ Ok x → OwnOr r P → P
own_or-answered r x P was h = ⊎_elim (λ own. absurd (cc (was, own))) (λ rest. ⊎_elim (λ memory. absurd (cc (was, memory))) (λ p. p) rest) h
