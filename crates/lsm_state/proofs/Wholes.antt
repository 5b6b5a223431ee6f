-- A compaction in one call: what a crash in its parts leaves, and which files are left.
use Rattle.std.proofs.Common.{◌≡◌, ◌⊎◌, ℕ, ◌-◌, ◌≤◌, ◌<◌, ◌^◌, min, Option, None, Some, IsSome, Result, Ok, Err, IfOk, inl, inr, ⊎_elim, refl, sym, ap, subst, ◌∙◌}
use Rattle.lsm_below.specs.declared.error.Error.{Error}
use Rattle.lsm_below.specs.declared.error.Error.TheVariants.{CommitUnknown, AfterCommit}
use Rattle.lsm_store.specs.World.{World}
use Rattle.lsm_versions.specs.Levels.{SeenVersion}
use Rattle.lsm_checks.specs.declared.choice.Why.{Why}
use Rattle.lsm_checks.specs.declared.input.Input.{Input}
use Rattle.lsm_compaction.specs.Merges.{SeenCompaction}
use Rattle.lsm_pick.specs.declared.choice.Choice.{Choice}
use Rattle.lsm_pick.specs.declared.choice.Choice.TheVariants.{DoNothing, Move, Merge, Drop}
use Rattle.lsm_pick.specs.declared.choice.ChooseError.{ChooseError}
use Rattle.lsm_state.specs.declared.compaction.Options.{Options}
use Rattle.lsm_state.specs.declared.compaction.Begun.{Begun}
use Rattle.lsm_state.specs.declared.compaction.Begun.TheVariants.{DidNothing, Declined, Installed, Job}
use Rattle.lsm_state.specs.Core.{Core, versions_left}
use Rattle.lsm_state.specs.Commits.{Upholds, counted}
use Rattle.lsm_state.specs.Cleaning.{LeavesNoFiles, RemovesDrawn, RemovesRefused}
use Rattle.lsm_state.specs.Compactions.{reason_of, InstallsChoice, OpensMerge, Does, BeginsChoice, Relation, BeginsCompaction, Spends, InstallsOrRests}
use Rattle.lsm_state.specs.WholeCompactions.{Follows}
use Rattle.lsm_state.proofs.Causing.{removes_then}
use Rattle.lsm_state.proofs.Installing.{upholds_join}
use Rattle.lsm_state.proofs.WholeFlushes.{upholds_behind}

-- a job changes nothing but the open merges
abbrev pub OnlyMerges : Core → Core → Type 0
OnlyMerges old mid = mid ≡ (let c : Core = record old { merges = mid.merges } in c)

opened_stays : (choice : Choice) (o : Options) (job : SeenCompaction) (old mid : Core) → Does choice o (Ok (Job job)) old mid → OnlyMerges old mid
opened_stays DoNothing o job old mid does = absurd (cc does.0)
opened_stays (Move input) o job old mid does = absurd (cc does.ok)
opened_stays (Merge input) o job old mid does = does.ok ∙ ap (λ m. let c : Core = record old { merges = m } in c) (sym (ap (λ c. c.merges) does.ok))
opened_stays (Drop ids) o job old mid does = absurd (cc does.ok)

pub job_stays : (choice : Choice) (o : Options) (job : SeenCompaction) (old mid : Core) → BeginsChoice choice o (Ok (Job job)) old mid → OnlyMerges old mid
job_stays choice o job old mid begins = by_lost old.lost refl
  where
    declined : (why : Why) → ◌≡◌ {A = Result Begun Error} (Ok (Job job)) (Ok (Declined why)) → ⊥
    declined why h = cc h

    refused : (e : Error) → ◌≡◌ {A = Result Begun Error} (Ok (Job job)) (Err e) → ⊥
    refused e h = cc h

    by_reason : old.lost ≡ None → (why : Option Why) → reason_of choice old ≡ why → OnlyMerges old mid
    by_reason certain None is = opened_stays choice o job old mid (begins.does certain is)
    by_reason certain (Some why) is = ⊎_elim (λ h. absurd (declined why h)) (λ h. absurd (refused _ h)) (begins.declines why certain is).0

    by_lost : (l : Option SeenVersion) → old.lost ≡ l → OnlyMerges old mid
    by_lost None certain = by_reason certain (reason_of choice old) refl
    by_lost (Some v) is = absurd (refused _ (begins.unrecoverable.1 (subst IsSome (sym is) refl)))

pub begun_stays : (may_choose : Relation Choice) (may_refuse : Relation ChooseError) (o : Options) (job : SeenCompaction) (old mid : Core) → BeginsCompaction may_choose may_refuse o (Ok (Job job)) old mid → OnlyMerges old mid
begun_stays may_choose may_refuse o job old mid begins = by_lost old.lost refl
  where
    refused : (e : Error) → ◌≡◌ {A = Result Begun Error} (Ok (Job job)) (Err e) → ⊥
    refused e h = cc h

    by_lost : (l : Option SeenVersion) → old.lost ≡ l → OnlyMerges old mid
    by_lost None certain = ⊎_elim (λ h. job_stays h.0 o job old mid h.2) (λ h. absurd (refused _ h.2)) (begins.chosen certain)
    by_lost (Some v) is = absurd (refused _ (begins.unrecoverable.1 (subst IsSome (sym is) refl)))

-- what a crash leaves in how a compaction begins, and in what follows, it leaves in both together
follows_uphold : (w v u : World) (begun r : Result Begun Error) (old mid new : Core) → ((job : SeenCompaction) → begun ≡ Ok (Job job) → OnlyMerges old mid) → Follows begun r mid new → Upholds w v old mid → Upholds v u mid new → Upholds w u old new
follows_uphold w v u (Ok DidNothing) r old mid new stays follows first second = upholds_join w v u old mid new (ap versions_left follows.1) first second
follows_uphold w v u (Ok (Declined why)) r old mid new stays follows first second = upholds_join w v u old mid new (ap versions_left follows.1) first second
follows_uphold w v u (Ok Installed) r old mid new stays follows first second = upholds_join w v u old mid new (ap versions_left follows.1) first second
follows_uphold w v u (Ok (Job job)) r old mid new stays follows first second = upholds_behind w v u old mid new (ap versions_left (stays job refl)) first second
follows_uphold w v u (Err e) r old mid new stays follows first second = upholds_join w v u old mid new (ap versions_left follows.1) first second

pub choice_upholds : (w v u : World) (choice : Choice) (o : Options) (begun r : Result Begun Error) (old mid new : Core) → BeginsChoice choice o begun old mid → Follows begun r mid new → Upholds w v old mid → Upholds v u mid new → Upholds w u old new
choice_upholds w v u choice o begun r old mid new begins follows first second =
    follows_uphold w v u begun r old mid new (λ job is. job_stays choice o job old mid (subst (λ b. BeginsChoice choice o b old mid) is begins)) follows first second

pub whole_upholds : (w v u : World) (may_choose : Relation Choice) (may_refuse : Relation ChooseError) (o : Options) (begun r : Result Begun Error) (old mid new : Core) → BeginsCompaction may_choose may_refuse o begun old mid → Follows begun r mid new → Upholds w v old mid → Upholds v u mid new → Upholds w u old new
whole_upholds w v u may_choose may_refuse o begun r old mid new begins follows first second =
    follows_uphold w v u begun r old mid new (λ job is. begun_stays may_choose may_refuse o job old mid (subst (λ b. BeginsCompaction may_choose may_refuse o b old mid) is begins)) follows first second

-- ---- which files are left

pub same_job : (a b : SeenCompaction) → ◌≡◌ {A = Begun} (Job a) (Job b) → a ≡ b
same_job a b h = cc h

not_done : (r q : Result Begun Error) → r ≡ q → r ≡ Ok Installed → q ≡ Ok Installed
not_done r q is done = sym is ∙ done

-- what is left after a compaction that is installed
pub follows_leave : (v u : World) (begun r : Result Begun Error) (old mid new : Core) → ((job : SeenCompaction) → begun ≡ Ok (Job job) → OnlyMerges old mid) → Follows begun r mid new → (begun ≡ Ok Installed → LeavesNoFiles v old.history mid.history)
    → ((job : SeenCompaction) → begun ≡ Ok (Job job) → r ≡ Ok Installed → LeavesNoFiles u mid.history new.history) → (begun ≡ Ok Installed → u ≡ v) → r ≡ Ok Installed → LeavesNoFiles u old.history new.history
follows_leave v u (Ok DidNothing) r old mid new stays follows first second rests done = let q = not_done r (Ok DidNothing) follows.0 done in absurd (cc q)
follows_leave v u (Ok (Declined why)) r old mid new stays follows first second rests done = let q = not_done r (Ok (Declined why)) follows.0 done in absurd (cc q)
follows_leave v u (Ok Installed) r old mid new stays follows first second rests done =
    subst (λ (z : World). LeavesNoFiles z old.history new.history) (sym (rests refl)) (subst (λ (c : Core). LeavesNoFiles v old.history c.history) (sym follows.1) (first refl))
follows_leave v u (Ok (Job job)) r old mid new stays follows first second rests done = subst (λ h. LeavesNoFiles u h new.history) (ap (λ c. c.history) (stays job refl)) (second job refl done)
follows_leave v u (Err e) r old mid new stays follows first second rests done = let q = not_done r (Err e) follows.0 done in absurd (cc q)

-- ---- refused, what is left of the files that were written

-- how a compaction begins draws no id of a table, where it is refused or becomes a job
abbrev pub DrawsNone : Result Begun Error → Core → Core → Type 0
DrawsNone (Ok (Job job)) old mid = mid.next_table ≡ old.next_table
DrawsNone (Ok DidNothing) old mid = Unit {0}
DrawsNone (Ok (Declined why)) old mid = Unit {0}
DrawsNone (Ok Installed) old mid = Unit {0}
DrawsNone (Err e) old mid = (e ≡ CommitUnknown → ⊥) → (e ≡ AfterCommit → ⊥) → mid.next_table ≡ old.next_table

draws_none : (begun : Result Begun Error) (old mid : Core) → ((begun ≡ Ok Installed → ⊥) → mid.next_table ≡ old.next_table) → DrawsNone begun old mid
draws_none (Ok (Job job)) old mid same = same (λ h. cc h)
draws_none (Ok DidNothing) old mid same = tt
draws_none (Ok (Declined why)) old mid same = tt
draws_none (Ok Installed) old mid same = tt
draws_none (Err e) old mid same = λ known before. same (λ h. cc h)

installing_draws : {Made : SeenVersion → Type 0} {Unmade : Error → Type 0} (w : ℕ) (begun : Result Begun Error) (old mid : Core) → InstallsChoice Made Unmade w begun old mid → DrawsNone begun old mid
installing_draws w (Ok begun) old mid did = draws_none (Ok begun) old mid (λ isnt. absurd (isnt (ap Ok did.ok)))
installing_draws w (Err e) old mid did = λ known before. ⊎_elim
    (⊎_elim (λ h. as_before_or_counted (did.settles.memory (ap Err h))) (⊎_elim (λ h. as_before_or_counted (did.settles.store (ap Err h))) (λ h. absurd (known h))))
    (⊎_elim (λ h. as_before (did.settles.before (inl (ap Err h)))) (⊎_elim (λ h. as_before (did.settles.before (inr (ap Err h)))) (λ h. absurd (before h))))
    did.only
  where
    as_before : mid ≡ old → mid.next_table ≡ old.next_table
    as_before is = ap (λ c. c.next_table) is

    as_before_or_counted : (mid ≡ old) ⊎ (mid ≡ counted old) → mid.next_table ≡ old.next_table
    as_before_or_counted = ⊎_elim as_before (λ is. ap (λ c. c.next_table) is)

opening_draws : (input : Input) (o : Options) (begun : Result Begun Error) (old mid : Core) → OpensMerge input o begun old mid → DrawsNone begun old mid
opening_draws input o (Ok begun) old mid did = draws_none (Ok begun) old mid (λ isnt. ap (λ c. c.next_table) did.ok)
opening_draws input o (Err e) old mid did = draws_none (Err e) old mid (λ isnt. ap (λ c. c.next_table) did.err)

doing_draws : (choice : Choice) (o : Options) (begun : Result Begun Error) (old mid : Core) → Does choice o begun old mid → DrawsNone begun old mid
doing_draws DoNothing o begun old mid does = draws_none begun old mid (λ isnt. ap (λ c. c.next_table) does.1)
doing_draws (Move input) o begun old mid does = installing_draws o.mvcc_gc_watermark begun old mid does
doing_draws (Merge input) o begun old mid does = opening_draws input o begun old mid does
doing_draws (Drop ids) o begun old mid does = installing_draws o.mvcc_gc_watermark begun old mid does

pub choice_draws : (choice : Choice) (o : Options) (begun : Result Begun Error) (old mid : Core) → BeginsChoice choice o begun old mid → DrawsNone begun old mid
choice_draws choice o begun old mid begins = by_lost old.lost refl
  where
    as_before : mid ≡ old → DrawsNone begun old mid
    as_before is = draws_none begun old mid (λ isnt. ap (λ c. c.next_table) is)

    by_reason : old.lost ≡ None → (why : Option Why) → reason_of choice old ≡ why → DrawsNone begun old mid
    by_reason certain None is = doing_draws choice o begun old mid (begins.does certain is)
    by_reason certain (Some why) is = as_before (begins.declines why certain is).1

    by_lost : (l : Option SeenVersion) → old.lost ≡ l → DrawsNone begun old mid
    by_lost None certain = by_reason certain (reason_of choice old) refl
    by_lost (Some v) is = as_before (begins.uncertain (subst IsSome (sym is) refl))

pub compaction_draws : (may_choose : Relation Choice) (may_refuse : Relation ChooseError) (o : Options) (begun : Result Begun Error) (old mid : Core) → BeginsCompaction may_choose may_refuse o begun old mid → DrawsNone begun old mid
compaction_draws may_choose may_refuse o begun old mid begins = by_lost old.lost refl
  where
    as_before : mid ≡ old → DrawsNone begun old mid
    as_before is = draws_none begun old mid (λ isnt. ap (λ c. c.next_table) is)

    by_lost : (l : Option SeenVersion) → old.lost ≡ l → DrawsNone begun old mid
    by_lost None certain = ⊎_elim (λ h. choice_draws h.0 o begun old mid h.2) (λ h. as_before h.3) (begins.chosen certain)
    by_lost (Some v) is = as_before (begins.uncertain (subst IsSome (sym is) refl))

-- a job that is spent draws none
pub spending_draws : (job : SeenCompaction) (old new : Core) → Spends job old new → new.next_table ≡ old.next_table
spending_draws job old new = ⊎_elim (λ h. ap (λ c. c.next_table) h.1) (λ h. ap (λ c. c.next_table) h.1)

same_error : (d e : Error) → ◌≡◌ {A = Result Begun Error} (Err d) (Err e) → d ≡ e
same_error d e h = cc h

-- what follows leaves none, so both together leave none
pub refused_behind : (w v u : World) (begun r : Result Begun Error) (old mid new : Core) → min w.failures (2 ^ 64 - 1) ≤ v.failures → DrawsNone begun old mid → Follows begun r mid new → RemovesRefused r mid new v u → RemovesRefused r old new w u
refused_behind w v u begun (Ok x) old mid new rises draws follows did = λ small. tt
refused_behind w v u begun (Err e) old mid new rises draws follows did = λ small known before. by_begun small known before begun draws follows
  where
    then : old.next_table < 2 ^ 63 → (e ≡ CommitUnknown → ⊥) → (e ≡ AfterCommit → ⊥) → mid.next_table ≡ old.next_table → RemovesDrawn old.next_table new.next_table w u
    then small known before same = removes_then old.next_table new.next_table w v u rises (subst (λ n. RemovesDrawn n new.next_table v u) same (did (subst (λ n. n < 2 ^ 63) (sym same) small) known before))

    by_begun : old.next_table < 2 ^ 63 → (e ≡ CommitUnknown → ⊥) → (e ≡ AfterCommit → ⊥) → (b : Result Begun Error) → DrawsNone b old mid → Follows b (Err e) mid new → RemovesDrawn old.next_table new.next_table w u
    by_begun small known before (Ok (Job job)) drawn is = then small known before drawn
    by_begun small known before (Ok DidNothing) drawn is = absurd (cc is.0)
    by_begun small known before (Ok (Declined why)) drawn is = absurd (cc is.0)
    by_begun small known before (Ok Installed) drawn is = absurd (cc is.0)
    by_begun small known before (Err d) drawn is = let one = same_error e d is.0 in then small known before (drawn (λ h. known (one ∙ h)) (λ h. before (one ∙ h)))

-- where neither installs anything, both together make no call of the store
pub rests_behind : {S : Type 0} (begun r : Result Begun Error) (s m n : S) (mid new : Core) → Follows begun r mid new → IfOk begun (λ b. InstallsOrRests b s m) → IfOk r (λ b. InstallsOrRests b m n) → IfOk r (λ b. InstallsOrRests b s n)
rests_behind begun (Err e) s m n mid new follows first then = tt
rests_behind {S} begun (Ok x) s m n mid new follows first then = by_begun begun follows first
  where
    moved : m ≡ s → InstallsOrRests x s n
    moved same = subst (λ (t : S). InstallsOrRests x t n) same then

    same_answer : (y : Begun) → ◌≡◌ {A = Result Begun Error} (Ok x) (Ok y) → x ≡ y
    same_answer y h = cc h

    by_begun : (b : Result Begun Error) → Follows b (Ok x) mid new → IfOk b (λ y. InstallsOrRests y s m) → InstallsOrRests x s n
    by_begun (Ok (Job job)) is rests = moved rests
    by_begun (Ok DidNothing) is rests = moved rests
    by_begun (Ok (Declined why)) is rests = moved rests
    by_begun (Ok Installed) is rests = subst (λ (y : Begun). InstallsOrRests y s n) (sym (same_answer Installed is.0)) tt
    by_begun (Err e) is rests = absurd (cc is.0)
