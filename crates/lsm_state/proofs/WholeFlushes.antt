-- A flush in one call: what its parts do, taken together.
use Rattle.std.proofs.Common.{◌≡◌, ℕ, ◌+◌, ◌-◌, ◌≤◌, ◌<◌, ◌^◌, Bool, true, false, cond, List, [], ◌++◌, take, length, reverse, map, flat_map, Option, Some, None, IsSome, Ok, Err, IsErrOf, inl, inr, ◌⊎◌, ⊎_elim, refl, sym, ap, ◌∙◌, subst, arith, eqb, eq-eqb}
use Rattle.std.proofs.lemmas.List.{length-reverse, reverse-reverse, take_all}
use Rattle.lsm_below.specs.Each.{each_append}
use Rattle.lsm_below.specs.Members.{IsIn}
use Rattle.lsm_below.specs.declared.error.Error.{Error}
use Rattle.lsm_below.specs.declared.error.Error.TheVariants.{OutOfMemory, Store, CommitUnknown, Unrecoverable, OutOfNumbers, FlushOpen, TooManyRuns}
use Rattle.lsm_store.specs.World.{World}
use Rattle.lsm_store.specs.Moments.{joined}
use Rattle.lsm_versions.specs.Levels.{SeenVersion}
use Rattle.lsm_versions.specs.Refusals.{IsRefusedFor}
use Rattle.lsm_commit.specs.Stored.{HoldsOneOf, Leaves, AreAmong}
use Rattle.lsm_commit.specs.Writing.{HoldEntries}
use Rattle.lsm_flush.specs.Jobs.{SeenJob, SeenWritten, SeenOpen, IsWrittenFrom}
use Rattle.lsm_flush.specs.declared.jobs.Registered.{Registered}
use Rattle.lsm_parts.specs.Held.{entries_of}
use Rattle.lsm_state.specs.Calls.{Rotates}
use Rattle.lsm_state.specs.Kept.{KeepsTables}
use Rattle.lsm_state.specs.Cleaning.{AreDrawnBelow}
use Rattle.lsm_state.specs.Core.{Core, Seen, versions_left, written_by, written_of}
use Rattle.lsm_commit.specs.Foreign.{AtRest, passes_then}
use Rattle.lsm_state.specs.Commits.{UpholdsFiles, Upholds, counted}
use Rattle.lsm_state.specs.Flushes.{sealed_ids, job_in, begun, Begins, wrote, spent, spent_in, IsCurrent, Registers, Installs, Doubts, IsFlushDeed, IsLostFlush}
use Rattle.lsm_state.specs.WholeFlushes.{sealed_bytes, drawn_until, DrawsFew, IsWhole, LeavesRest, Flushes, MarksFlush, WritesJob}
use Rattle.lsm_state.proofs.Upholding.{among_left, leaves_more, upheld_still}
use Rattle.lsm_state.proofs.Writing.{stored_spent}

-- ---- what a crash leaves

-- a job is given up after a call
pub upholds_spent : (w v : World) (old mid : Core) (n : ℕ) → Upholds w v old mid → Upholds w v old (spent n mid)
upholds_spent w v old mid n upholds = record {
  files = λ stored. let one = upholds.files stored in (stored_spent v (versions_left mid) n mid.flush one.0, one.1);
  passes = upholds.passes;
}

-- two calls in turn, of which the first one changes no version
pub files_behind : (w v u : World) (old mid new : Core) → versions_left mid ≡ versions_left old → UpholdsFiles w v old mid → UpholdsFiles v u mid new → UpholdsFiles w u old new
files_behind w v u old mid new same first second stored =
    let one = first stored in
    let two = second one.0 in
    let all = versions_left old ++ versions_left new in
    let before : Leaves w v all = leaves_more w v (versions_left old ++ versions_left mid) all (subst (λ l. AreAmong (versions_left old ++ l) all) (sym same) (both (versions_left old) all (among_left (versions_left old) (versions_left new)))) one.1 in
    let behind : Leaves v u all = subst (λ l. Leaves v u (l ++ versions_left new)) same two.1 in
    (two.0, joined w v u (HoldsOneOf all) (HoldsOneOf all) (HoldsOneOf all) before behind (λ image h. h) (λ image h. h))
  where
    both : (xs all : List SeenVersion) → AreAmong xs all → AreAmong (xs ++ xs) all
    both xs all h = each_append (λ v. IsIn v all) xs xs h h

pub upholds_behind : (w v u : World) (old mid new : Core) → versions_left mid ≡ versions_left old → Upholds w v old mid → Upholds v u mid new → Upholds w u old new
upholds_behind w v u old mid new same first second = record { files = files_behind w v u old mid new same first.files second.files; passes = passes_then w v u first.passes second.passes }

-- nothing is done to the files, and the tree has the same of them
pub upholds_same : (w v : World) (old new : Core) → v ≡ w → versions_left new ≡ versions_left old → written_of new ≡ written_of old → AtRest w → Upholds w v old new
upholds_same w v old new same versions written stays = subst (λ u. Upholds w u old new) (sym same) (upheld_still w old new versions written stays)

-- the same of a tree that is as it was
pub upholds_as_it_was : {S : Type 0} (world : S → World) (old new : Seen S) → new.store ≡ old.store → new.core ≡ old.core → AtRest (world old.store) → Upholds (world old.store) (world new.store) old.core new.core
upholds_as_it_was world old new store core rest = upholds_same (world old.store) (world new.store) old.core new.core (ap world store) (ap versions_left core) (ap written_of core) rest

pub rotated_lost : (old : Core) (id : Option ℕ) (mid : Core) → Rotates old id mid → mid.lost ≡ old.lost
rotated_lost old None mid rotates = ap (λ (c : Core). c.lost) rotates.1
rotated_lost old (Some id) mid rotates = ap (λ (c : Core). c.lost) rotates.2

pub rotated_table : (old : Core) (id : Option ℕ) (mid : Core) → Rotates old id mid → mid.next_table ≡ old.next_table
rotated_table old None mid rotates = ap (λ (c : Core). c.next_table) rotates.1
rotated_table old (Some id) mid rotates = ap (λ (c : Core). c.next_table) rotates.2

pub rotated_open : (old : Core) (id : Option ℕ) (mid : Core) → Rotates old id mid → mid.flush ≡ old.flush
rotated_open old None mid rotates = ap (λ (c : Core). c.flush) rotates.1
rotated_open old (Some id) mid rotates = ap (λ (c : Core). c.flush) rotates.2

-- ---- a job that is begun

module _ (old mid : Core) (job : SeenJob) (begins : Begins (Ok (Some job)) old mid) where
  begun_is : (job ≡ job_in old) × (mid ≡ begun old)
  begun_is = begins.begins

  pub something : sealed_ids old ≡ [] → ⊥
  something none = cc (begins.none none)

  pub certain : old.lost ≡ None
  certain = by_case old.lost refl
    where
      by_case : (o : Option SeenVersion) → old.lost ≡ o → old.lost ≡ None
      by_case None is = is
      by_case (Some v) is = absurd (cc (begins.unrecoverable.1 (something, subst IsSome (sym is) refl)))

  pub closed : old.flush ≡ None
  closed = by_case old.flush refl
    where
      by_case : (o : Option SeenOpen) → old.flush ≡ o → old.flush ≡ None
      by_case None is = is
      by_case (Some f) is = absurd (cc (begins.flush_open.1 (something, (certain, subst IsSome (sym is) refl))))

  pub begun_core : mid ≡ begun old
  begun_core = begun_is.1

  pub begun_versions : versions_left mid ≡ versions_left old
  begun_versions = ap versions_left begun_is.1

  pub begun_written : written_of mid ≡ written_of old
  begun_written = ap written_of begun_is.1 ∙ ap written_by (sym closed)

  -- a call after it
  pub upholds_begun : (a b d : World) (made : Core) → b ≡ a → AtRest a → Upholds b d mid made → Upholds a d old made
  upholds_begun a b d made same rest then = upholds_behind a b d old mid made begun_versions (upholds_same a b old mid same begun_versions begun_written rest) then

-- what is used of ids after its beginning
pub draws_few : (w : ℕ) (old mid : Core) (job : SeenJob) → Begins (Ok (Some job)) old mid → (n : ℕ) → DrawsFew w job mid.next_table n → DrawsFew w (job_in old) old.next_table n
draws_few w old mid job begins n few = subst (λ (j : SeenJob). DrawsFew w j old.next_table n) begins.begins.0 (subst (λ (c : Core). DrawsFew w job c.next_table n) begins.begins.1 few)

-- what a refused flush leaves has no tables but those of before
pub left_below : (first : ℕ) (old new : Core) → LeavesRest old new → AreDrawnBelow first old → AreDrawnBelow first new
left_below first old new left below = subst (AreDrawnBelow first) (sym left.rest) below

pub drawn_below : (first : ℕ) (c : Core) → KeepsTables c.flush c.history c.next_table → first ≡ c.next_table → first < 2 ^ 63 → AreDrawnBelow first c
drawn_below first c k is small = subst (λ n. AreDrawnBelow n c) (sym is) (k.below (omega (arith, is, small)))

no_some : {A : Type 0} (o : Option A) → o ≡ None → IsSome o → ⊥
no_some None none some = cc some
no_some (Some x) none some = cc none

-- ---- its tables are written

module _ (w : ℕ) (old mid made : Core) (job : SeenJob) (x : SeenWritten) (begins : Begins (Ok (Some job)) old mid) (writes : WritesJob w job (Ok x) mid made) where
  is_mid : mid ≡ begun old
  is_mid = begins.begins.1

  is_job : x.job ≡ job_in old
  is_job = writes.of_job.0 ∙ begins.begins.0

  abbrev noted : SeenOpen
  noted = record { number = old.next_job; ids = sealed_ids old; written = x.tables }

  abbrev fresh : SeenOpen
  fresh = record { number = old.next_job; ids = sealed_ids old; written = [] }

  abbrev next : ℕ
  next = made.next_table

  abbrev drawn : Core
  drawn = drawn_until next old

  own_number : eqb old.next_job old.next_job ≡ true
  own_number = eq-eqb old.next_job old.next_job refl

  made_is : made ≡ record drawn { flush = Some noted }
  made_is =
      writes.ok
      ∙ ap (λ n. wrote n x.tables next mid) (ap (λ j. j.number) begins.begins.0)
      ∙ ap (wrote old.next_job x.tables next) is_mid
      ∙ ap (λ b. record drawn { flush = cond b (Some noted) (Some fresh) }) own_number

  all_first : take (length (sealed_ids old)) old.history.latest.sealed_memtables ≡ reverse (sealed_ids old)
  all_first =
      let s = old.history.latest.sealed_memtables in
      ap (λ n. take n s) (length-reverse s) ∙ take_all (length s) s (omega arith) ∙ sym (reverse-reverse s)

  pub current : IsCurrent x made
  current = subst (IsCurrent x) (sym made_is) (record {
    current = ap (λ (j : SeenJob). Some (record { number = j.number; ids = j.ids; written = x.tables })) (sym is_job);
    sealed = ap (λ (j : SeenJob). take (length j.ids) old.history.latest.sealed_memtables) is_job ∙ all_first ∙ ap (λ (j : SeenJob). reverse j.ids) (sym is_job);
    entries = ap (λ (j : SeenJob). j.sources) is_job ∙ ap (λ (j : SeenJob). map (entries_of old.memtables) j.ids) (sym is_job);
  })

  spent_is : spent x.job.number made ≡ drawn
  spent_is =
      ap (spent x.job.number) made_is
      ∙ ap (λ (j : SeenJob). record drawn { flush = spent_in j.number (Some noted) }) is_job
      ∙ ap (λ b. record drawn { flush = cond b None (Some noted) }) own_number
      ∙ ap (λ f. record drawn { flush = f }) (sym (closed old mid job begins))

  pub made_history : made.history ≡ old.history
  made_history = ap (λ c. c.history) made_is

  pub made_versions : versions_left made ≡ versions_left old
  made_versions = ap versions_left made_is

  -- it is begun, its tables are written, and they are registered
  pub upholds_whole : (a b d e : World) (new : Core) → b ≡ a → AtRest a → Upholds b d mid made → Upholds d e made new → Upholds a e old new
  upholds_whole a b d e new same rest write register = upholds_behind a d e old made new made_versions (upholds_begun old mid job begins a b d made same rest write) register

  rises : old.next_table ≤ next
  rises = subst (λ (c : Core). c.next_table ≤ next) is_mid writes.rises

  is_whole : (new : Core) → new.next_table ≡ next → IsWhole w x old new
  is_whole new same = record {
    of_sealed = is_job;
    watermark = writes.of_job.1;
    written = subst (λ j. IsWrittenFrom j w x.tables) (sym writes.of_job.0) writes.written;
    held = subst (λ n. HoldEntries old.moment (flat_map (λ t. t.entries) x.tables) old.next_table n x.tables) (sym same) (subst (λ (c : Core). HoldEntries c.moment (flat_map (λ t. t.entries) x.tables) c.next_table next x.tables) is_mid writes.held);
  }

  none_lost : IsSome old.lost → ⊥
  none_lost = no_some old.lost (certain old mid job begins)

  none_open : IsSome old.flush → ⊥
  none_open = no_some old.flush (closed old mid job begins)

  none_sealed : sealed_ids old ≡ [] → ⊥
  none_sealed = something old mid job begins

  -- ---- registered

  module _ (new : Core) (a : Registered) (registers : Registers x (Ok a) made new) where
    installed : a.installed ≡ true
    installed = by_case a.installed refl
      where
        by_case : (b : Bool) → a.installed ≡ b → a.installed ≡ true
        by_case true is = is
        by_case false is = absurd ((registers.stale is).0 current)

    installs : Installs x a.cleaned drawn new
    installs = subst (λ c. Installs x a.cleaned c new) spent_is (registers.installs installed).1

    same_tables : new.next_table ≡ next
    same_tables = ap (λ (c : Core). c.next_table) installs.cleans.rest

    pub marks_flushed : (size : ℕ) → MarksFlush w true (Ok (Some (size, a))) old new
    marks_flushed size = record {
      written = λ h. (x, is_whole new same_tables);
      ok = (λ h. refl, λ h. refl);
      registered = λ h. refl;
      before = λ h. absurd (⊎_elim (λ u. cc u) (λ f. cc f) h);
    }

    pub flushed : (size : ℕ) → size ≡ sealed_bytes old → (a.installed ≡ true → IsFlushDeed x made new) → Flushes w (Ok (Some (size, a))) old new
    flushed size is_size deed = record {
      none = λ e. absurd (none_sealed e);
      some = λ e. absurd (cc e);
      installs = record {
        installed = installed;
        bytes = is_size;
        job = x;
        whole = is_whole new same_tables;
        installs = subst (λ n. Installs x a.cleaned (drawn_until n old) new) (sym same_tables) installs;
        deeds = subst (λ c. IsFlushDeed x c new) made_is (deed installed);
      };
      err = tt;
      unknown = λ e. absurd (cc e);
      known = tt;
      draws = subst (DrawsFew w (job_in old) old.next_table) (sym same_tables) (draws_few w old mid job begins next writes.draws);
      unrecoverable = (λ e. absurd (cc e), λ p. absurd (none_lost p.1));
      flush_open = (λ e. absurd (cc e), λ p. absurd (none_open p.1.1));
      before = λ e. absurd (⊎_elim (λ u. cc u) (λ f. cc f) e);
      out_of_numbers = λ e. absurd (cc e);
      too_many_runs = λ e. absurd (cc e);
      numbered = λ e. absurd (cc e);
      only = tt;
    }

  -- ---- refused

  module _ (new : Core) (e : Error) (registers : Registers x (Err e) made new) where
    -- the tree as it was left: of unknown outcome, or drawn from alone
    abbrev Left : Type 0
    Left = ((e ≡ CommitUnknown) × Doubts x drawn new) ⊎ ((e ≡ CommitUnknown → ⊥) × ((new ≡ drawn) ⊎ (new ≡ counted drawn)))

    before : IsErrOf {T = Registered} (Err e) Unrecoverable ⊎ (IsErrOf {T = Registered} (Err e) OutOfNumbers ⊎ IsErrOf {T = Registered} (Err e) TooManyRuns) → new ≡ drawn
    before h = registers.before h ∙ spent_is

    left : Left
    left = ⊎_elim
        (⊎_elim
        (λ (m : e ≡ OutOfMemory). let isnt : e ≡ CommitUnknown → ⊥ = λ u. cc in inr (isnt, ⊎_elim (λ is. inl (is ∙ spent_is)) (λ is. inr (is ∙ ap counted spent_is)) (registers.memory (ap Err m))))
        (⊎_elim
        (λ (s : e ≡ Store). let isnt : e ≡ CommitUnknown → ⊥ = λ u. cc in inr (isnt, inr (registers.store (ap Err s) ∙ ap counted spent_is)))
        (λ (u : e ≡ CommitUnknown). inl (u, subst (λ c. Doubts x c new) spent_is (registers.unknown (ap Err u)).1))))
        (⊎_elim
        (λ (r : e ≡ Unrecoverable). let isnt : e ≡ CommitUnknown → ⊥ = λ u. cc in inr (isnt, inl (before (inl (ap Err r)))))
        (⊎_elim
        (λ (r : e ≡ OutOfNumbers). let isnt : e ≡ CommitUnknown → ⊥ = λ u. cc in inr (isnt, inl (before (inr (inl (ap Err r))))))
        (λ (r : e ≡ TooManyRuns). let isnt : e ≡ CommitUnknown → ⊥ = λ u. cc in inr (isnt, inl (before (inr (inr (ap Err r))))))))
        registers.only

    leaves : (s : ℕ) (l : Option SeenVersion) → new ≡ record drawn { seqno = s; lost = l } → (s ≡ old.seqno) ⊎ (s ≡ old.seqno + 1) → LeavesRest old new
    leaves s l is number = subst (LeavesRest old) (sym is) (record { rest = refl; next_job = inr refl; next_table = rises; seqno = number })

    leaves_rest : LeavesRest old new
    leaves_rest = ⊎_elim
        (λ (d : (e ≡ CommitUnknown) × Doubts x drawn new). leaves (old.seqno + 1) (Some (d.1.next.version)) d.1.is (inr refl))
        (λ (k : (e ≡ CommitUnknown → ⊥) × ((new ≡ drawn) ⊎ (new ≡ counted drawn))). ⊎_elim (λ is. leaves old.seqno old.lost is (inl refl)) (λ is. leaves (old.seqno + 1) old.lost is (inr refl)) k.1)
        left

    same_next : new.next_table ≡ next
    same_next = ⊎_elim
        (λ (d : (e ≡ CommitUnknown) × Doubts x drawn new). ap (λ (c : Core). c.next_table) d.1.is)
        (λ (k : (e ≡ CommitUnknown → ⊥) × ((new ≡ drawn) ⊎ (new ≡ counted drawn))). ⊎_elim (λ is. ap (λ (c : Core). c.next_table) is) (λ is. ap (λ (c : Core). c.next_table) is) k.1)
        left

    few : DrawsFew w (job_in old) old.next_table new.next_table
    few = subst (DrawsFew w (job_in old) old.next_table) (sym same_next) (draws_few w old mid job begins next writes.draws)

    known : (e ≡ CommitUnknown → ⊥) → new.lost ≡ old.lost
    known isnt = ⊎_elim
        (λ (d : (e ≡ CommitUnknown) × Doubts x drawn new). absurd (isnt d.0))
        (λ (k : (e ≡ CommitUnknown → ⊥) × ((new ≡ drawn) ⊎ (new ≡ counted drawn))). ⊎_elim (λ is. ap (λ (c : Core). c.lost) is) (λ is. ap (λ (c : Core). c.lost) is) k.1)
        left

    error_is : (f : Error) → IsErrOf {T = Option (ℕ × Registered)} (Err e) f → e ≡ f
    error_is f h = cc h

    told : (f : Error) → IsErrOf {T = Option (ℕ × Registered)} (Err e) f → IsErrOf {T = Registered} (Err e) f
    told f h = ap Err (error_is f h)

    not_lost : IsErrOf {T = Option (ℕ × Registered)} (Err e) Unrecoverable → ⊥
    not_lost u = none_lost (subst (λ (c : Core). IsSome c.lost) made_is (registers.unrecoverable.0 (told Unrecoverable u)))

    not_open : e ≡ FlushOpen → ⊥
    not_open f = ⊎_elim
        (⊎_elim (λ (m : e ≡ OutOfMemory). cc) (⊎_elim (λ (s : e ≡ Store). cc) (λ (u : e ≡ CommitUnknown). cc)))
        (⊎_elim (λ (r : e ≡ Unrecoverable). cc) (⊎_elim (λ (r : e ≡ OutOfNumbers). cc) (λ (r : e ≡ TooManyRuns). cc)))
        registers.only

    doubted_tables : Doubts x drawn new → new.next_table ≡ next
    doubted_tables d = ap (λ (c : Core). c.next_table) d.is

    pub marks_refused : MarksFlush w true (Err e) old new
    marks_refused = record {
      written = λ h. (x, is_whole new same_next);
      ok = tt;
      registered = λ h. refl;
      before = λ h. absurd (⊎_elim not_lost (λ f. not_open (error_is FlushOpen f)) h);
    }

    pub refused : (IsErrOf {T = Registered} (Err e) CommitUnknown → IsLostFlush x made new) → Flushes w (Err e) old new
    refused lost = record {
      none = λ h. absurd (none_sealed h);
      some = tt;
      installs = tt;
      err = leaves_rest;
      unknown = λ u.
          let d : Doubts x drawn new = subst (λ c. Doubts x c new) spent_is (registers.unknown (told CommitUnknown u)).1 in
          record {
            job = x;
            whole = is_whole new (doubted_tables d);
            doubts = subst (λ n. Doubts x (drawn_until n old) new) (sym (doubted_tables d)) d;
            deeds = subst (λ c. IsLostFlush x c new) made_is (lost (told CommitUnknown u));
          };
      known = known;
      draws = few;
      unrecoverable = (λ u. absurd (not_lost u), λ p. absurd (none_lost p.1));
      flush_open = (λ f. absurd (not_open (error_is FlushOpen f)), λ p. absurd (none_open p.1.1));
      before = λ h. absurd (⊎_elim not_lost (λ f. not_open (error_is FlushOpen f)) h);
      out_of_numbers = λ h. inr (subst (λ (c : Core). (2 ^ 63 ≤ c.seqno) ⊎ (c.history.latest.version.id ≡ 2 ^ 64 - 1)) made_is (registers.out_of_numbers (told OutOfNumbers h)));
      too_many_runs = λ h. record {
        job = x;
        whole = is_whole new (ap (λ (c : Core). c.next_table) (before (inr (inr (told TooManyRuns h)))));
        full = subst (λ (c : Core). IsRefusedFor [] x.tables 0 c.history.latest.version TooManyRuns) made_is (registers.too_many_runs (told TooManyRuns h));
      };
      numbered = λ h. subst (λ (c : Core). c.seqno < 2 ^ 63) made_is (registers.numbered (told TooManyRuns h));
      only = ⊎_elim inl (λ r. inr (⊎_elim (λ u. inl (inl u)) inr r)) registers.only;
    }

-- a flush that is answered found none open
pub flushed_closed : (w : ℕ) (p : ℕ × Registered) (old new : Core) → Flushes w (Ok (Some p)) old new → IsSome old.flush → ⊥
flushed_closed w p old new f some = cc (f.flush_open.1 (something, (certain old.lost refl, some)))
  where
    something : sealed_ids old ≡ [] → ⊥
    something none = cc (f.none none)

    certain : (o : Option SeenVersion) → old.lost ≡ o → old.lost ≡ None
    certain None is = is
    certain (Some v) is = absurd (cc (f.unrecoverable.1 (something, subst IsSome (sym is) refl)))
