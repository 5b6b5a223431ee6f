-- What the calls of a compaction leave of the open flush and of the open merges.
use Rattle.std.proofs.Common.{◌≡◌, ◌⊎◌, inl, inr, ⊎_elim, ℕ, ◌<◌, ◌≤◌, ◌==◌, Bool, true, cond, not, List, [], ◌∷◌, ◌++◌, Option, Some, None, is_some, Result, Ok, Err, IfOk, IfErr, refl, sym, ap, ◌∙◌, subst, arith, append-nil}
use Rattle.std.specs.List.{AllByRecursion}
use Rattle.std.proofs.lemmas.Bool.{ne_eqb}
use Rattle.std.proofs.lemmas.Bool.Decides.{eqb_tells}
use Rattle.std.proofs.lemmas.List.Elements.{filter-append}
use Rattle.lsm_below.specs.Each.{each_weaker}
use Rattle.lsm_below.specs.FilterLaws.{filter_all}
use Rattle.lsm_below.specs.Members.{IsIn}
use Rattle.lsm_below.specs.declared.error.Error.{Error}
use Rattle.lsm_below.specs.declared.error.Error.TheVariants.{OutOfMemory, Store, CommitUnknown, Unrecoverable, OutOfNumbers, TooManyRuns, AfterCommit}
use Rattle.lsm_model.specs.Journal.{Event}
use Rattle.lsm_versions.specs.Levels.{SeenVersion}
use Rattle.lsm_checks.specs.declared.choice.Why.{Why}
use Rattle.lsm_checks.specs.declared.choice.Why.TheVariants.{UnknownJob}
use Rattle.lsm_checks.specs.declared.input.Input.{Input}
use Rattle.lsm_compaction.specs.declared.settings.MergeSettings.{MergeSettings}
use Rattle.lsm_compaction.specs.Merges.{SeenCompaction}
use Rattle.lsm_compaction.specs.OpenMerges.{SeenOpenMerge, SeenMerges, IsMergeOf, IsOpenIn, without, opened, ended}
use Rattle.lsm_pick.specs.declared.choice.Choice.{Choice}
use Rattle.lsm_pick.specs.declared.choice.Choice.TheVariants.{DoNothing, Move, Merge, Drop}
use Rattle.lsm_state.specs.declared.compaction.Options.{Options}
use Rattle.lsm_state.specs.declared.compaction.Begun.{Begun}
use Rattle.lsm_state.specs.declared.compaction.Begun.TheVariants.{DidNothing, Declined, Installed, Job}
use Rattle.lsm_state.specs.declared.compaction.Finished.{Finished}
use Rattle.lsm_state.specs.declared.compaction.Finished.TheVariants.{Declined as Over}
use Rattle.lsm_state.specs.Core.{Core}
use Rattle.lsm_state.specs.Commits.{counted}
use Rattle.lsm_state.specs.Settling.{SettlesSome, IsInstalled}
use Rattle.lsm_state.specs.Flushes.{with_next_table}
use Rattle.lsm_state.specs.Compactions.{settings_of, job_for, reason_of, OpensMerge, InstallsChoice, Does, BeginsChoice, closed, Ends, EndsFor, Spends, Finishes}
use Rattle.lsm_state.specs.WholeCompactions.{Completes, Follows}
use Rattle.lsm_journal.specs.Noted.{BeginsAnswer, CompactsAnswer}

-- ---- words

-- the open flush and the open merges stay
abbrev pub KeepsOpenWork : Core → Core → Type 0
KeepsOpenWork old new = (new.flush ≡ old.flush) × (new.merges ≡ old.merges)

-- they do so where the tree becomes one that has those of before
pub kept_by : (old mid new : Core) → new ≡ mid → KeepsOpenWork old mid → KeepsOpenWork old new
kept_by old mid new e k = subst (KeepsOpenWork old) (sym e) k

-- a merge of this job is open after the others
pub record OpensJob (job : SeenCompaction) (old new : Core) : Type 0 where
  pub ids : List ℕ
  pub settings : MergeSettings
  pub flush : new.flush ≡ old.flush
  pub merges : new.merges ≡ opened ids settings old.merges
  pub number : job.number ≡ old.merges.next
  pub is : IsMergeOf job (record { number = old.merges.next; ids = ids; settings = settings })

-- that merge
abbrev pub newest : (job : SeenCompaction) (old new : Core) → OpensJob job old new → SeenOpenMerge
newest job old new o = record { number = old.merges.next; ids = o.ids; settings = o.settings }

-- what a beginning leaves of them
abbrev pub LeavesBegun : Result Begun Error → Core → Core → Type 0
LeavesBegun r old new =
    (KeepsOpenWork old new × ((job : SeenCompaction) → r ≡ Ok (Job job) → ⊥))
    ⊎ ((job : SeenCompaction) × (r ≡ Ok (Job job)) × OpensJob job old new)

-- what the end of a merge leaves of them: it is open no longer, where it was
abbrev pub LeavesEnded : SeenCompaction → Core → Core → Type 0
LeavesEnded job old new =
    (IsOpenIn job old.merges.underway × ((new.flush ≡ old.flush) × (new.merges ≡ ended job.number old.merges)))
    ⊎ ((IsOpenIn job old.merges.underway → ⊥) × KeepsOpenWork old new)

-- ---- installing

abbrev pub IsOneOf : Error → Type 0
IsOneOf e = ((e ≡ OutOfMemory) ⊎ ((e ≡ Store) ⊎ (e ≡ CommitUnknown))) ⊎ ((e ≡ OutOfNumbers) ⊎ ((e ≡ TooManyRuns) ⊎ (e ≡ AfterCommit)))

installed_work : (v : SeenVersion) (w : ℕ) (whole : Bool) (old new : Core) → IsInstalled v w whole old new → KeepsOpenWork old new
installed_work v w whole old new i = kept_by old _ new i.rest (refl, refl)

pub same_or_counted : (old new : Core) → (new ≡ old) ⊎ (new ≡ counted old) → KeepsOpenWork old new
same_or_counted old new (inl e) = kept_by old old new e (refl, refl)
same_or_counted old new (inr e) = kept_by old (counted old) new e (refl, refl)

settled_work : {T : Type 0} (IsMade : SeenVersion → Type 0) (w : ℕ) (r : Result T Error) (old new : Core) → SettlesSome IsMade w r old new → IfErr r IsOneOf → KeepsOpenWork old new
settled_work IsMade w (Ok x) old new s only = let i = s.ok in installed_work i.0 w true old new i.2
settled_work IsMade w (Err e) old new s only = go only
  where
    go : IsOneOf e → KeepsOpenWork old new
    go (inl (inl is)) = same_or_counted old new (s.memory (ap Err is))
    go (inl (inr (inl is))) = same_or_counted old new (s.store (ap Err is))
    go (inl (inr (inr is))) = let u = s.unknown (ap Err is) in kept_by old _ new u.2 (refl, refl)
    go (inr (inl is)) = kept_by old old new (s.before (inl (ap Err is))) (refl, refl)
    go (inr (inr (inl is))) = kept_by old old new (s.before (inr (ap Err is))) (refl, refl)
    go (inr (inr (inr is))) = let a = s.after (ap Err is) in installed_work a.0 w a.2 old new a.3

-- ---- beginning

no_job : (r : Result Begun Error) (b : Begun) → r ≡ Ok b → ((job : SeenCompaction) → b ≡ Job job → ⊥) → (job : SeenCompaction) → r ≡ Ok (Job job) → ⊥
no_job r b is other job at = other job (one_begun (sym is ∙ at))
  where
    one_begun : ◌≡◌ {A = Result Begun Error} (Ok b) (Ok (Job job)) → b ≡ Job job
    one_begun e = cc

no_job_refused : (r : Result Begun Error) (e : Error) → r ≡ Err e → (job : SeenCompaction) → r ≡ Ok (Job job) → ⊥
no_job_refused r e is job at = go (sym is ∙ at)
  where
    go : ◌≡◌ {A = Result Begun Error} (Err e) (Ok (Job job)) → ⊥
    go h = cc

installs_begun : (IsMade : SeenVersion → Type 0) (IsUnmade : Error → Type 0) (w : ℕ) (r : Result Begun Error) (old new : Core) → InstallsChoice IsMade IsUnmade w r old new → LeavesBegun r old new
installs_begun IsMade IsUnmade w r old new i = inl (settled_work IsMade w r old new i.settles i.only, λ job at. go job (subst (λ x. IfOk x (λ b. b ≡ Installed)) at i.ok))
  where
    go : (job : SeenCompaction) → ◌≡◌ {A = Begun} (Job job) Installed → ⊥
    go job h = cc

opens_begun : (input : Input) (o : Options) (r : Result Begun Error) (old new : Core) → OpensMerge input o r old new → LeavesBegun r old new
opens_begun input o (Ok b) old new h = inr (
  job_for input o old,
  ap Ok h.job,
  record {
    ids = input.table_ids.keys;
    settings = settings_of input o;
    flush = ap (λ (c : Core). c.flush) h.ok;
    merges = ap (λ (c : Core). c.merges) h.ok;
    number = refl;
    is = record { number = refl; ids = λ i. refl; level = refl; target = refl; watermark = refl };
  },
)
opens_begun input o (Err e) old new h = inl (kept_by old old new h.err (refl, refl), no_job_refused (Err e) e refl)

does_begun : (choice : Choice) (o : Options) (r : Result Begun Error) (old new : Core) → Does choice o r old new → LeavesBegun r old new
does_begun DoNothing o r old new d = inl (kept_by old old new d.1 (refl, refl), no_job r DidNothing d.0 (λ job h. cc h))
does_begun (Move input) o r old new d = installs_begun _ _ o.mvcc_gc_watermark r old new d
does_begun (Merge input) o r old new d = opens_begun input o r old new d
does_begun (Drop ids) o r old new d = installs_begun _ _ o.mvcc_gc_watermark r old new d

choice_begun : (choice : Choice) (o : Options) (r : Result Begun Error) (old new : Core) → BeginsChoice choice o r old new → LeavesBegun r old new
choice_begun choice o r old new b = by_lost old.lost refl
  where
    declined : (why : Why) → (r ≡ Ok (Declined why)) ⊎ (r ≡ Err OutOfMemory) → (job : SeenCompaction) → r ≡ Ok (Job job) → ⊥
    declined why (inl is) = no_job r (Declined why) is (λ job h. cc h)
    declined why (inr is) = no_job_refused r OutOfMemory is

    by_reason : (why : Option Why) → old.lost ≡ None → reason_of choice old ≡ why → LeavesBegun r old new
    by_reason (Some why) certain is = let d = b.declines why certain is in inl (kept_by old old new d.1 (refl, refl), declined why d.0)
    by_reason None certain is = does_begun choice o r old new (b.does certain is)

    by_lost : (lost : Option SeenVersion) → old.lost ≡ lost → LeavesBegun r old new
    by_lost None is = by_reason (reason_of choice old) is refl
    by_lost (Some v) is = inl (kept_by old old new (b.uncertain (ap is_some is)) (refl, refl), no_job_refused r Unrecoverable (b.unrecoverable.1 (ap is_some is)))

pub begun_work : (answer : Result Choice Error) (o : Options) (r : Result Begun Error) (events : List Event) (old new : Core) → BeginsAnswer answer o r events old new → LeavesBegun r old new
begun_work (Ok choice) o r events old new b = choice_begun choice o r old new b.0
begun_work (Err e) o r events old new b = inl (kept_by old old new b.2 (refl, refl), no_job_refused r e b.0)

-- ---- finishing

pub spends_work : (job : SeenCompaction) (old new : Core) → Spends job old new → LeavesEnded job old new
spends_work job old new (inl s) = inl (s.0, (ap (λ (c : Core). c.flush) s.1, ap (λ (c : Core). c.merges) s.1))
spends_work job old new (inr s) = inr (s.0, kept_by old old new s.1 (refl, refl))

ends_for_work : (job : SeenCompaction) (why : Option Why) (r : Result Finished Error) (old new : Core) → EndsFor job why r old new → KeepsOpenWork old new
ends_for_work job None r old new e = settled_work _ job.settings.watermark r (with_next_table e.0.table old) new e.0.settles e.0.only
ends_for_work job (Some why) r old new e = kept_by old old new e.1 (refl, refl)

ends_work : (job : SeenCompaction) (r : Result Finished Error) (old new : Core) → Ends job r old new → KeepsOpenWork old new
ends_work job r old new (inl e) = kept_by old old new e.1 (refl, refl)
ends_work job r old new (inr e) = ends_for_work job e.0 r old new e.2

pub finished_work : (job : SeenCompaction) (r : Result Finished Error) (old new : Core) → Finishes job r old new → LeavesEnded job old new
finished_work job r old new f = by_lost old.lost refl
  where
    over : ((IsOpenIn job old.merges.underway → ⊥) × ((r ≡ Ok (Over UnknownJob)) × (new ≡ old))) ⊎ (IsOpenIn job old.merges.underway × Ends job r (closed job.number old) new) → LeavesEnded job old new
    over (inl e) = inr (e.0, kept_by old old new e.1.1 (refl, refl))
    over (inr e) = inl (e.0, ends_work job r (closed job.number old) new e.1)

    by_lost : (lost : Option SeenVersion) → old.lost ≡ lost → LeavesEnded job old new
    by_lost None is = over (f.ends is)
    by_lost (Some v) is = spends_work job old new (f.uncertain (ap is_some is))

pub ended_flush : (job : SeenCompaction) (old new : Core) → LeavesEnded job old new → new.flush ≡ old.flush
ended_flush job old new (inl e) = e.1.0
ended_flush job old new (inr e) = e.1.0

pub begun_flush : (r : Result Begun Error) (old new : Core) → LeavesBegun r old new → new.flush ≡ old.flush
begun_flush r old new (inl b) = b.0.0
begun_flush r old new (inr b) = b.2.flush

-- ---- numbers of merges

-- each open merge has a number below the next one
abbrev pub AreBelow : ℕ → List SeenOpenMerge → Type 0
AreBelow n merges = AllByRecursion (λ m. m.number < n) merges

other_number : (n : ℕ) (m : SeenOpenMerge) → m.number < n → not (m.number == n) ≡ true
other_number n m below = ap not (ne_eqb m.number n (λ e. omega arith))

without_below : (n : ℕ) (merges : List SeenOpenMerge) → AreBelow n merges → without n merges ≡ merges
without_below n merges below = filter_all (λ (m : SeenOpenMerge). not (m.number == n)) merges (each_weaker (λ m. m.number < n) (λ m. not (m.number == n) ≡ true) (λ m lt. other_number n m lt) merges below)

-- the newest one ends
without_newest : (m : SeenOpenMerge) (merges : List SeenOpenMerge) → AreBelow m.number merges → without m.number (merges ++ m ∷ []) ≡ merges
without_newest m merges below =
    filter-append (λ (k : SeenOpenMerge). not (k.number == m.number)) merges (m ∷ [])
    ∙ ap (λ ms. ms ++ without m.number (m ∷ [])) (without_below m.number merges below)
    ∙ ap (λ b. merges ++ cond (not b) (m ∷ []) []) (same m.number)
    ∙ append-nil merges
  where
    same : (n : ℕ) → (n == n) ≡ true
    same n = ⊎_elim (λ e. e.0) (λ e. absurd (e.1 refl)) (eqb_tells n n)

-- those that are older stay
pub without_start : (start : SeenMerges) (own : List SeenOpenMerge) (n : ℕ) → AreBelow start.next start.underway → start.next ≤ n → without n (start.underway ++ own) ≡ start.underway ++ without n own
without_start start own n first later =
    filter-append (λ (m : SeenOpenMerge). not (m.number == n)) start.underway own
    ∙ ap (λ ms. ms ++ without n own) (without_below n start.underway (each_weaker (λ m. m.number < start.next) (λ m. m.number < n) (λ m lt. omega arith) start.underway first))

pub in_right : (m : SeenOpenMerge) (xs ys : List SeenOpenMerge) → IsIn m ys → IsIn m (xs ++ ys)
in_right m [] ys at = at
in_right m (x ∷ xs) ys at = inr (in_right m xs ys at)

last_in : (m : SeenOpenMerge) (merges : List SeenOpenMerge) → IsIn m (merges ++ m ∷ [])
last_in m merges = in_right m merges (m ∷ []) (inl refl)

-- ---- in one call

-- the open flush and the open merges stay, and numbers of merges may be used
pub record KeepsWork (old new : Core) : Type 0 where
  pub flush : new.flush ≡ old.flush
  pub underway : new.merges.underway ≡ old.merges.underway
  pub next : old.merges.next ≤ new.merges.next

pub all_kept : (old new : Core) → KeepsOpenWork old new → KeepsWork old new
all_kept old new k = record { flush = k.0; underway = ap (λ (ms : SeenMerges). ms.underway) k.1; next = subst (λ (ms : SeenMerges). old.merges.next ≤ ms.next) (sym k.1) (omega arith) }

completed_work : (job : SeenCompaction) (r : Result Begun Error) (old new : Core) → Completes job r old new → LeavesEnded job old new
completed_work job r old new (inl c) = spends_work job old new c.1
completed_work job r old new (inr c) = finished_work job c.0 old new c.1

-- a merge that is opened, and then ends
whole_work : (job : SeenCompaction) (old mid new : Core) → AreBelow old.merges.next old.merges.underway → OpensJob job old mid → LeavesEnded job mid new → KeepsWork old new
whole_work job old mid new below o e = go e
  where
    there : IsOpenIn job mid.merges.underway
    there = (newest job old mid o, subst (λ (ms : SeenMerges). IsIn (newest job old mid o) ms.underway) (sym o.merges) (last_in (newest job old mid o) old.merges.underway), o.is)

    merges_of : new.merges ≡ ended job.number mid.merges → new.merges ≡ ended old.merges.next (opened o.ids o.settings old.merges)
    merges_of is = is ∙ ap (λ (ms : SeenMerges). ended job.number ms) o.merges ∙ ap (λ n. ended n (opened o.ids o.settings old.merges)) o.number

    go : LeavesEnded job mid new → KeepsWork old new
    go (inl h) = record {
      flush = h.1.0 ∙ o.flush;
      underway = ap (λ (ms : SeenMerges). ms.underway) (merges_of h.1.1) ∙ without_newest (newest job old mid o) old.merges.underway below;
      next = subst (λ (ms : SeenMerges). old.merges.next ≤ ms.next) (sym (merges_of h.1.1)) (omega arith);
    }
    go (inr h) = absurd (h.0 there)

follows_work : (begun r : Result Begun Error) (old mid new : Core) → AreBelow old.merges.next old.merges.underway → LeavesBegun begun old mid → Follows begun r mid new → KeepsWork old new
follows_work begun r old mid new below (inl b) f = all_kept old new (kept_by old mid new (stays begun f b.1) b.0)
  where
    stays : (x : Result Begun Error) → Follows x r mid new → ((job : SeenCompaction) → x ≡ Ok (Job job) → ⊥) → new ≡ mid
    stays (Ok DidNothing) g other = g.1
    stays (Ok (Declined why)) g other = g.1
    stays (Ok Installed) g other = g.1
    stays (Ok (Job job)) g other = absurd (other job refl)
    stays (Err e) g other = g.1
follows_work begun r old mid new below (inr b) f = whole_work b.0 old mid new below b.2 (completed_work b.0 r mid new (subst (λ x. Follows x r mid new) b.1 f))

pub compacted_work : (answer : Result Choice Error) (o : Options) (r : Result Begun Error) (events : List Event) (old new : Core) → AreBelow old.merges.next old.merges.underway → CompactsAnswer answer o r events old new → KeepsWork old new
compacted_work (Ok choice) o r events old new below c =
    let whole = c.compacts in
    follows_work whole.begun r old whole.mid new below (choice_begun choice o whole.begun old whole.mid whole.begins) whole.follows
compacted_work (Err e) o r events old new below b = all_kept old new (kept_by old old new b.2 (refl, refl))
