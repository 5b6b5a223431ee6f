-- What calls do to files, by their parts.
use Rattle.std.proofs.Common.{◌≡◌, ℕ, ◌<◌, ◌^◌, Bool, true, false, Option, Some, None, IsSome, IfSome, Result, Ok, Err, IfOk, IfErr, refl, sym, ap, subst, ◌∙◌}
use Rattle.lsm_below.specs.declared.error.Error.{Error}
use Rattle.lsm_below.specs.declared.error.Error.TheVariants.{CommitUnknown}
use Rattle.lsm_store.specs.World.{World}
use Rattle.lsm_commit.specs.Causes.{HasCause, BlamesStore, Blames, no_fault, causes_less}
use Rattle.lsm_flush.specs.declared.jobs.Registered.{Registered}
use Rattle.lsm_compaction.specs.Merges.{SeenCompaction}
use Rattle.lsm_pick.specs.declared.choice.Choice.{Choice}
use Rattle.lsm_pick.specs.declared.choice.ChooseError.{ChooseError}
use Rattle.lsm_parts.specs.History.{SeenHistory}
use Rattle.lsm_state.specs.declared.compaction.Options.{Options}
use Rattle.lsm_state.specs.declared.compaction.Begun.{Begun}
use Rattle.lsm_state.specs.declared.compaction.Begun.TheVariants.{Job}
use Rattle.lsm_state.specs.declared.compaction.Finished.{Finished}
use Rattle.lsm_state.specs.Core.{Core, Seen}
use Rattle.lsm_state.specs.Calls.{Rotates}
use Rattle.lsm_state.specs.Causes.{BlamesOrUncleanFlush, BlamesOrUncleanBehind}
use Rattle.lsm_state.specs.Cleaning.{LeavesNoFiles, LeavesNoVersions, RemovesDrawn, RemovesRefused, none_drawn}
use Rattle.lsm_state.specs.Compactions.{BeginsChoice, BeginsCompaction, Relation, EndsOrRests, closed}
use Rattle.lsm_state.specs.WholeFlushes.{answer_behind}
use Rattle.lsm_state.specs.WholeCompactions.{Follows}
use Rattle.lsm_state.specs.Files.{FlushesFiles, FlushesActiveFiles, BeginsFiles, FinishesFiles, CompactsFiles, FollowsFiles}
use Rattle.lsm_state.proofs.Causing.{follows_cause}
use Rattle.lsm_state.proofs.CleaningUp.{rotated_leaves}
use Rattle.lsm_state.proofs.WholeFlushes.{rotated_lost, rotated_open, rotated_table}
use Rattle.lsm_state.proofs.Merges.{spent_stays}
use Rattle.lsm_state.proofs.Wholes.{OnlyMerges, job_stays, begun_stays, follows_leave, DrawsNone, choice_draws, compaction_draws, refused_behind, rests_behind}

-- ---- a call that is refused before it touches anything

pub refused_ends : {S : Type 0} (tells : Type 0) (world : S → World) (e : Error) (old new : Seen S) → (BlamesStore e → ⊥) → new.store ≡ old.store → new.core.next_table ≡ old.core.next_table → FinishesFiles (Err e) tells world old new
refused_ends tells world e old new faultless same table = record {
  causes = no_fault _ (world old.store) (world new.store) (ap (λ s. (world s).failures) same) faultless;
  gone = λ told done. absurd (cc done);
  rests = tt;
  refused = λ told small known before. none_drawn old.core.next_table new.core.next_table (world old.store) (world new.store) table;
  no_call = λ lost. same;
}

pub refused_compacts : {S : Type 0} (tells : Type 0) (world : S → World) (e : Error) (old new : Seen S) → (BlamesStore e → ⊥) → new.store ≡ old.store → new.core.next_table ≡ old.core.next_table → CompactsFiles (Err e) tells world old new
refused_compacts tells world e old new faultless same table = let end = refused_ends tells world e old new faultless same table in record {
  causes = end.causes;
  gone = λ told done. absurd (cc done);
  rests = tt;
  refused = end.refused;
  no_call = end.no_call;
}

-- ---- a flush after a rotation

abbrev Flushed : Type 0
Flushed = Result (Option (ℕ × Registered)) Error

blames_behind : (id : Option ℕ) (r : Flushed) → BlamesOrUncleanBehind (answer_behind id r) → BlamesOrUncleanFlush r
blames_behind id (Ok a) blamed = blamed
blames_behind id (Err e) blamed = blamed

behind_gone : (id : Option ℕ) (r : Flushed) (w : World) (old mid : Core) (new : SeenHistory) → Rotates old id mid → IfOk r (λ a. IfSome a (λ p. p.1.cleaned ≡ true → LeavesNoVersions w mid.history new)) → IfOk (answer_behind id r) (λ a. IfSome a.1 (λ p. p.1.cleaned ≡ true → LeavesNoVersions w old.history new))
behind_gone id (Ok None) w old mid new rotates left = left
behind_gone id (Ok (Some p)) w old mid new rotates left = λ whole. rotated_leaves w old mid id new rotates (left whole)
behind_gone id (Err e) w old mid new rotates left = tt

behind_refused : (id : Option ℕ) (r : Flushed) (w v : World) (old mid new : Core) → Rotates old id mid → (mid.next_table < 2 ^ 63 → IfErr r (λ e. (e ≡ CommitUnknown → ⊥) → RemovesDrawn mid.next_table new.next_table w v)) → old.next_table < 2 ^ 63 → IfErr (answer_behind id r) (λ e. (e.0 ≡ CommitUnknown → ⊥) → RemovesDrawn old.next_table new.next_table w v)
behind_refused id (Ok a) w v old mid new rotates did small = tt
behind_refused id (Err e) w v old mid new rotates did small =
    let same = rotated_table old id mid rotates in
    λ known. subst (λ n. RemovesDrawn n new.next_table w v) same (did (subst (λ n. n < 2 ^ 63) (sym same) small) known)

behind_rests : {S : Type 0} (id : Option ℕ) (r : Flushed) (old mid new : S) → mid ≡ old → IfOk r (λ a. a ≡ None → new ≡ mid) → IfOk (answer_behind id r) (λ a. a.1 ≡ None → new ≡ old)
behind_rests id (Ok a) old mid new same rests = λ none. rests none ∙ same
behind_rests id (Err e) old mid new same rests = tt

pub rotated_files : {S : Type 0} (tells : Type 0) (world : S → World) (id : Option ℕ) (r : Result (Option (ℕ × Registered)) Error) (old mid new : Seen S) → Rotates old.core id mid.core → mid.store ≡ old.store → FlushesFiles r tells world mid new → FlushesActiveFiles (answer_behind id r) tells world old new
rotated_files tells world id r old mid new rotates same files = record {
  causes = causes_less _ _ (world old.store) (world new.store) (subst (λ s. HasCause (BlamesOrUncleanFlush r) (world s) (world new.store)) same files.causes) (blames_behind id r);
  gone = λ told. behind_gone id r (world new.store) old.core mid.core new.core.history rotates (files.gone told);
  rests = behind_rests id r old.store mid.store new.store same files.rests;
  refused = λ told. behind_refused id r (world old.store) (world new.store) old.core mid.core new.core rotates (subst (λ s. mid.core.next_table < 2 ^ 63 → IfErr r (λ e. (e ≡ CommitUnknown → ⊥) → RemovesDrawn mid.core.next_table new.core.next_table (world s) (world new.store))) same (files.refused told));
  no_call = λ lost. files.no_call (subst IsSome (sym (rotated_lost old.core id mid.core rotates)) lost) ∙ same;
  flush_open = λ some. files.flush_open (subst IsSome (sym (rotated_open old.core id mid.core rotates)) some) ∙ same;
}

-- ---- compactions

-- a merge whose job is spent before it ends
pub spent_files : {S : Type 0} (tells : Type 0) (world : S → World) (r : Result Finished Error) (n : ℕ) (found : Bool) (old mid new : Seen S) → (found ≡ true → mid.core ≡ closed n old.core) → (found ≡ false → mid.core ≡ old.core) → mid.store ≡ old.store → FinishesFiles r tells world mid new → FinishesFiles r tells world old new
spent_files tells world r n found old mid new closes other same files = record {
  causes = subst (λ s. HasCause (Blames r) (world s) (world new.store)) same files.causes;
  gone = λ told done. subst (λ (h : SeenHistory). LeavesNoFiles (world new.store) h new.core.history) (stays (λ c. c.history) refl) (files.gone told done);
  rests = subst (λ s. IfOk r (λ f. EndsOrRests f s new.store)) same files.rests;
  refused = λ told. subst (λ s. RemovesRefused r old.core new.core (world s) (world new.store)) same (drawn (files.refused told));
  no_call = λ lost. files.no_call (subst IsSome (sym (stays (λ c. c.lost) refl)) lost) ∙ same;
}
  where
    stays : {A : Type 0} (of : Core → A) → of (closed n old.core) ≡ of old.core → of mid.core ≡ of old.core
    stays of kept = spent_stays of old.core mid.core n found kept closes other

    drawn : RemovesRefused r mid.core new.core (world mid.store) (world new.store) → RemovesRefused r old.core new.core (world mid.store) (world new.store)
    drawn did = subst (λ (m : ℕ). RemovesRefused r (record old.core { next_table = m }) new.core (world mid.store) (world new.store)) (stays (λ c. c.next_table) refl) did

-- a compaction that begins, and what follows
both_files : {S : Type 0} (tells : Type 0) (world : S → World) (begun r : Result Begun Error) (old mid new : Seen S) → ((job : SeenCompaction) → begun ≡ Ok (Job job) → OnlyMerges old.core mid.core) → DrawsNone begun old.core mid.core → (IsSome old.core.lost → mid.core ≡ old.core) → Follows begun r mid.core new.core
    → BeginsFiles begun tells world old mid → FollowsFiles begun r tells world mid new → CompactsFiles r tells world old new
both_files tells world begun r old mid new stays draws uncertain follows first second = record {
  causes = follows_cause (world old.store) (world mid.store) (world new.store) begun r mid.core new.core follows first.causes second.causes;
  gone = λ told. follows_leave (world mid.store) (world new.store) begun r old.core mid.core new.core stays follows (first.gone told) (second.gone told) (λ is. ap world (second.done is));
  rests = rests_behind begun r old.store mid.store new.store mid.core new.core follows first.rests second.rests;
  refused = λ told. refused_behind (world old.store) (world mid.store) (world new.store) begun r old.core mid.core new.core first.causes.rises draws follows (second.refused told);
  no_call = λ lost. second.no_call (subst (λ (c : Core). IsSome c.lost) (sym (uncertain lost)) lost) ∙ first.no_call lost;
}

pub choice_files : {S : Type 0} (tells : Type 0) (world : S → World) (choice : Choice) (o : Options) (begun r : Result Begun Error) (old mid new : Seen S) → BeginsChoice choice o begun old.core mid.core → Follows begun r mid.core new.core → BeginsFiles begun tells world old mid → FollowsFiles begun r tells world mid new → CompactsFiles r tells world old new
choice_files tells world choice o begun r old mid new begins =
    both_files tells world begun r old mid new (λ job is. job_stays choice o job old.core mid.core (subst (λ b. BeginsChoice choice o b old.core mid.core) is begins)) (choice_draws choice o begun old.core mid.core begins) begins.uncertain

pub whole_files : {S : Type 0} (tells : Type 0) (world : S → World) (may_choose : Relation Choice) (may_refuse : Relation ChooseError) (o : Options) (begun r : Result Begun Error) (old mid new : Seen S) → BeginsCompaction may_choose may_refuse o begun old.core mid.core → Follows begun r mid.core new.core → BeginsFiles begun tells world old mid → FollowsFiles begun r tells world mid new → CompactsFiles r tells world old new
whole_files tells world may_choose may_refuse o begun r old mid new begins =
    both_files tells world begun r old mid new (λ job is. begun_stays may_choose may_refuse o job old.core mid.core (subst (λ b. BeginsCompaction may_choose may_refuse o b old.core mid.core) is begins)) (compaction_draws may_choose may_refuse o begun old.core mid.core begins) begins.uncertain
