-- Why a batch of a logged tree that stands is refused.
use Rattle.std.proofs.Common.{◌≡◌, ◌⊎◌, ⊎_elim, inl, inr, ℕ, Bool, true, false, ◌||◌, List, [], Option, Some, None, IfSome, map, is_some, option_to_list, Result, Err, refl, sym, ap, ◌∙◌}
use Rattle.lsm_below.specs.Keys.{Bytes}
use Rattle.lsm_below.specs.declared.error.Error.{Error}
use Rattle.lsm_below.specs.declared.error.Error.TheVariants.{OutOfMemory, Store, CommitUnknown, Unrecoverable}
use Rattle.lsm_store.specs.World.{World}
use Rattle.lsm_model.specs.Beginnings.{Saved}
use Rattle.lsm_model.specs.declared.op.Op.{Op}
use Rattle.lsm_log_model.specs.Logs.{LostBatch}
use Rattle.lsm_log_model.specs.Records.{LogImage}
use Rattle.lsm_logged.specs.Keeping.{SeenLogged, is_unsure}
use Rattle.lsm_logged.specs.Levels.{SeenVersion, placed_of}
use Rattle.lsm_runs.specs.Compacting.{Strategies}
use Rattle.lsm_runs.specs.declared.steps.Reply.{Reply}
use Rattle.lsm_runs.specs.declared.steps.Reply.TheVariants.{Refused}
use Rattle.lsm_state.specs.Refusals.{batch_refusal}
use Rattle.lsm_log_runs.specs.declared.steps.LogStep.{LogStep}
use Rattle.lsm_log_runs.specs.declared.steps.LogStep.TheVariants.{Write}
use Rattle.lsm_log_runs.specs.Pasts.{LogPast}
use Rattle.lsm_log_runs.specs.Runs.{TakesAlone}
use Rattle.lsm_log_runs.specs.Standing.{StandsLogged}
use Rattle.lsm_log_runs.specs.Trying.{HasReason}

none_lost : (o : Option SeenVersion) → map (λ (v : SeenVersion). placed_of v.levels) (option_to_list o) ≡ [] → is_some o ≡ false
none_lost None h = refl
none_lost (Some v) h = absurd (cc h)

none_doubted : (o : Option LostBatch) → o ≡ None → is_some o ≡ false
none_doubted o none = ap is_some none

-- while every outcome is known, none is unknown to the tree
known_sure : {S : Type 0} (world : S → World) (image : LogImage) (past : LogPast) (t : SeenLogged S) → StandsLogged world image past t → past.known ≡ true → is_unsure t ≡ false
known_sure world image past t s known =
    let certain = s.came.certain known in
    let doubt : t.doubted ≡ false = sym s.is.doubt ∙ none_doubted s.log.lost certain.1 in
    let lost : is_some t.core.lost ≡ false = none_lost t.core.lost (sym (ap (λ (x : Saved). x.others) s.is.tree) ∙ certain.0) in
    ap (λ b. b || is_some t.core.lost) doubt ∙ lost

module _ (ops : List (Bytes × Op)) (c : ℕ) (known : Bool) (e : Error) where
  same_error : (x : Error) → ◌≡◌ {A = Result ℕ Error} (Err e) (Err x) → e ≡ x
  same_error x h = cc h

  by_itself : (o : Option Error) → batch_refusal c ops ≡ o → IfSome o (λ x. (◌≡◌ {A = Result ℕ Error} (Err e) (Err x)) ⊎ (◌≡◌ {A = Result ℕ Error} (Err e) (Err OutOfMemory))) → (o ≡ None → (e ≡ OutOfMemory) ⊎ ((e ≡ Store) ⊎ (e ≡ CommitUnknown))) → HasReason c known (Write ops) (Refused e)
  by_itself None is told memory = ⊎_elim (λ m. inr (inl m)) (λ later. inr (inr (inl (⊎_elim (λ s. inl s) (λ u. inr (inl u)) later)))) (memory refl)
  by_itself (Some x) is told memory = ⊎_elim (λ same. inl (is ∙ ap Some (sym (same_error x same)))) (λ m. inr (inl (same_error OutOfMemory m))) told

pub reason_of : {S : Type 0} (world : S → World) (image : LogImage) (past : LogPast) (strategies : Strategies) (x : LogStep) (r : Reply) (old new : SeenLogged S) → StandsLogged world image past old → TakesAlone strategies x r old new → HasReason old.core.seqno past.known x r
reason_of world image past strategies (Write ops) (Refused e) old new s w = by_sure (is_unsure old) refl
  where
    unknown : is_unsure old ≡ true → (known : Bool) → past.known ≡ known → past.known ≡ false
    unknown unsure true is = absurd (let no : true ≡ false = sym unsure ∙ known_sure world image past old s is in cc no)
    unknown unsure false is = is

    by_sure : (u : Bool) → is_unsure old ≡ u → HasReason old.core.seqno past.known (Write ops) (Refused e)
    by_sure true unsure = inr (inr (inr (same_error ops old.core.seqno past.known e Unrecoverable (w.unsure unsure).0, unknown unsure past.known refl)))
    by_sure false sure = by_itself ops old.core.seqno past.known e (batch_refusal old.core.seqno ops) refl (w.tree sure).told (w.tree sure).memory
reason_of world image past strategies x r old new s w = tt
