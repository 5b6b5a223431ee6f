-- The least number above entries.
use Rattle.std.proofs.Common.{ℕ, ◌<◌, ◌≤◌, true, false, cond, List, [], ◌∷◌, subst, arith}
use Rattle.std.specs.List.{AllByRecursion}
use Rattle.lsm_below.specs.Keys.{Bytes, is_same}
use Rattle.lsm_below.specs.Entries.{Entry, above, stack}
use Rattle.lsm_below.specs.Each.{each_filter}
use Rattle.lsm_model.proofs.Journals.{same_itself}

pub tail_stack : (n : ℕ) (k : Bytes) (e : Entry) (es : List Entry) → AllByRecursion (λ f. f.key.seqno < n) (stack k (e ∷ es)) → AllByRecursion (λ f. f.key.seqno < n) (stack k es)
tail_stack n k e es h =
    elim (is_same k e.key.user_key) as (λ b. AllByRecursion (λ (f : Entry). f.key.seqno < n) (cond b (e ∷ stack k es) (stack k es)) → AllByRecursion (λ (f : Entry). f.key.seqno < n) (stack k es)) [
      | true ↦ λ q. q.1
      | false ↦ λ q. q
    ] h

-- what is below for each key is below
pub above_keys : (n : ℕ) (es : List Entry) → ((k : Bytes) → AllByRecursion (λ e. e.key.seqno < n) (stack k es)) → above es ≤ n
above_keys n [] h = omega arith
above_keys n (e ∷ es) h =
    let here : AllByRecursion (λ (f : Entry). f.key.seqno < n) (e ∷ stack e.key.user_key es) = subst (λ b. AllByRecursion (λ (f : Entry). f.key.seqno < n) (cond b (e ∷ stack e.key.user_key es) (stack e.key.user_key es))) (same_itself e.key.user_key) (h e.key.user_key) in
    let first = here.0 in
    let rest = above_keys n es (λ k. tail_stack n k e es (h k)) in omega arith

pub below_each : (n : ℕ) (es : List Entry) → above es ≤ n → AllByRecursion (λ e. e.key.seqno < n) es
below_each n [] l = tt
below_each n (e ∷ es) l = (omega arith, below_each n es (omega arith))

pub below_stack : (n : ℕ) (k : Bytes) (es : List Entry) → above es ≤ n → AllByRecursion (λ e. e.key.seqno < n) (stack k es)
below_stack n k es l = each_filter (λ (e : Entry). e.key.seqno < n) (λ e. is_same k e.key.user_key) es (below_each n es l)

pub above_each : (n : ℕ) (es : List Entry) → AllByRecursion (λ e. e.key.seqno < n) es → above es ≤ n
above_each n [] h = omega arith
above_each n (e ∷ es) h = let a = h.0 in let r = above_each n es h.1 in omega arith
