-- Outcomes of reads of many keys.
use Rattle.std.proofs.Common.{◌≡◌, ℕ, List, [], Option, Some, None, option_map, Result, Ok, Err, map, refl, ap, ◌⊎◌, ◌↔◌, ⊎_elim, inr, IfOk, IfErr, IsErrOf, subst, sym}
use Rattle.std.specs.declared.ops.Bound.{Bound}
use Rattle.std.proofs.lemmas.Result.{IfOk-weaker}
use Rattle.lsm_below.specs.Keys.{Bytes}
use Rattle.lsm_below.specs.Entries.{Entry}
use Rattle.lsm_model.specs.Views.{found_at}
use Rattle.lsm_model.specs.declared.question.Question.{Question}
use Rattle.lsm_model.specs.declared.question.Question.TheVariants.{Between, Prefix}
use Rattle.lsm_iter.specs.Left.{SeenIter}
use Rattle.lsm_iter.specs.Guards.{Pair, Item, pair_of}
use Rattle.lsm_iter.specs.declared.tree_iter.End.{End}
use Rattle.lsm_below.specs.declared.error.Error.{Error}
use Rattle.lsm_below.specs.declared.error.Error.TheVariants.{OutOfMemory, SnapshotTooOld}
use Rattle.lsm_state.specs.Core.{Core, latest_of, older_of}
use Rattle.lsm_state.specs.Ranges.{Ranges, Prefixes, IsListStep, PairAt}
use Rattle.lsm_state.specs.ListSteps.{ListsAreSteps}
use Rattle.lsm_runs.specs.declared.steps.Reply.TheVariants.{Refused}
use Rattle.lsm_runs.specs.ReadSteps.{IsReadRefusal, TakesPairs, TakesRange, TakesPrefix, TakesSilent, IsEndReply, ToldFound, told_pairs, told_end}
use Rattle.lsm_state.specs.Listing.{Lists, ListsPrefix}
use Rattle.lsm_runs.specs.Told.{Told}

-- how a read of a snapshot is refused
module _ (s : ℕ) (c : Core) where
  abbrev pub TellsTooOld : {A : Type 0} → Result A Error → Type 0
  TellsTooOld r = IsErrOf r SnapshotTooOld ↔ (found_at s (latest_of c) (older_of c) ≡ None)

  abbrev pub RefusesOnly : {A : Type 0} → Result A Error → Type 0
  RefusesOnly r = IfErr r (λ e. (e ≡ SnapshotTooOld) ⊎ (e ≡ OutOfMemory))

  refusal : {A : Type 0} (x : Error) → TellsTooOld {A = A} (Err x) → RefusesOnly {A = A} (Err x) → IsReadRefusal s c x
  refusal x old only = (only, ((λ q. old.0 (ap Err q)), (λ none. cc (old.1 none))))

  -- memory may be missing after an answer too
  memory : {A : Type 0} (a : A) → TellsTooOld (Ok a) → IsReadRefusal s c OutOfMemory
  memory a old = (inr refl, ((λ q. absurd (cc q)), (λ none. absurd (cc (old.1 none)))))

  pub pairs_taken : (question : Question) (r : Result SeenIter Error) (Right : List Pair → Type 0) (told : Told)
      → IfOk r (λ iter. Right (map pair_of iter.left) × IsListStep c question s (map pair_of iter.left)) → TellsTooOld r → RefusesOnly r
      → ToldFound question s r told → TakesPairs question Right s told.reply told.entries c c
  pairs_taken question (Ok iter) Right told right old only is = ⊎_elim
      (λ (answered : told ≡ told_pairs question s (map pair_of iter.left)). subst (λ (t : Told). TakesPairs question Right s t.reply t.entries c c) (sym answered) (refl, refl, right.0, right.1))
      (λ (refused : told ≡ record { reply = Refused OutOfMemory; entries = [] }). subst (λ (t : Told). TakesPairs question Right s t.reply t.entries c c) (sym refused) (refl, refl, memory iter old))
      is
  pairs_taken question (Err x) Right told right old only is = subst (λ (t : Told). TakesPairs question Right s t.reply t.entries c c) (sym is) (refl, refl, refusal x old only)

  -- the pairs within bounds
  pub range_taken : ListsAreSteps → {X : Type 0} (low high : Bound Bytes) (r : Result SeenIter Error) (outcome : Result Told X) → IfOk r (λ iter. Ranges c None low high s iter.left) → TellsTooOld r → RefusesOnly r
      → IfOk outcome (ToldFound (Between low high) s r) → IfOk outcome (λ told. TakesRange low high s told.reply told.entries c c)
  range_taken law low high r outcome right old only h =
      IfOk-weaker outcome (ToldFound (Between low high) s r) (λ told. TakesRange low high s told.reply told.entries c c) (λ told is. pairs_taken (Between low high) r (Lists c low high s) told (listed r right) old only is) h
    where
      listed : (r : Result SeenIter Error) → IfOk r (λ iter. Ranges c None low high s iter.left) → IfOk r (λ iter. Lists c low high s (map pair_of iter.left) × IsListStep c (Between low high) s (map pair_of iter.left))
      listed (Ok iter) h = ((iter.left, h, refl), law.range c low high s iter.left h)
      listed (Err x) h = tt

  -- the pairs of the keys that begin so
  pub prefix_taken : ListsAreSteps → {X : Type 0} (prefix : Bytes) (r : Result SeenIter Error) (outcome : Result Told X) → IfOk r (λ iter. Prefixes c None prefix s iter.left) → TellsTooOld r → RefusesOnly r
      → IfOk outcome (ToldFound (Prefix prefix) s r) → IfOk outcome (λ told. TakesPrefix prefix s told.reply told.entries c c)
  prefix_taken law prefix r outcome right old only h =
      IfOk-weaker outcome (ToldFound (Prefix prefix) s r) (λ told. TakesPrefix prefix s told.reply told.entries c c) (λ told is. pairs_taken (Prefix prefix) r (ListsPrefix c prefix s) told (listed r right) old only is) h
    where
      listed : (r : Result SeenIter Error) → IfOk r (λ iter. Prefixes c None prefix s iter.left) → IfOk r (λ iter. ListsPrefix c prefix s (map pair_of iter.left) × IsListStep c (Prefix prefix) s (map pair_of iter.left))
      listed (Ok iter) h = ((iter.left, h, refl), law.prefix c prefix s iter.left h)
      listed (Err x) h = tt

  -- the pair at an end
  end_reply : (end : End) (r : Result (Option Item) Error) → IfOk r (PairAt end c None s) → TellsTooOld r → RefusesOnly r → IsEndReply end s c (told_end r)
  end_reply end (Ok None) h old only = h
  end_reply end (Ok (Some (Ok p))) h old only = h
  end_reply end (Ok (Some (Err x))) h old only = absurd (no_refusal x h.0 h.2)
    where
      no_refusal : (x : Error) (e : Option Entry) → Some (Err x) ≡ option_map (λ (f : Entry). Ok (pair_of f)) e → ⊥
      no_refusal x None q = cc q
      no_refusal x (Some f) q = cc q
  end_reply end (Err x) h old only = refusal x old only

  pub end_taken : (end : End) (r : Result (Option Item) Error) (told : Told) → IfOk r (PairAt end c None s) → TellsTooOld r → RefusesOnly r
      → told ≡ record { reply = told_end r; entries = [] } → TakesSilent (IsEndReply end s c) told.reply told.entries c c
  end_taken end r told h old only is = subst (λ (t : Told). TakesSilent (IsEndReply end s c) t.reply t.entries c c) (sym is) (refl, refl, end_reply end r h old only)
