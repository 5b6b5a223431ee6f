-- Jobs that are given up are no part of what the theory sees, and leave the tree's files as they are stored.
use Rattle.std.proofs.Common.{◌≡◌, inl, inr, ℕ, Bool, true, false, List, [], ◌∷◌, Option, Some, None, Result, Ok, Err, refl, sym, ap, ◌∙◌, subst, Contains}
use Rattle.std.specs.BTreeMap.{BTreeMap, IsOrdered, get}
use Rattle.std.specs.Ordering.{nat_cmp}
use Rattle.std.proofs.lemmas.Cmp.{nat_cmp_total}
use Rattle.std.proofs.lemmas.Map.Lookups.{exact_unsigned}
use Rattle.std.proofs.lemmas.Map.Views.{btree_map_get_iff}
use Rattle.lsm_below.specs.declared.error.Error.{Error}
use Rattle.lsm_store.specs.World.{World}
use Rattle.lsm_model.specs.Journal.{Event}
use Rattle.lsm_model.specs.Beginnings.{Note}
use Rattle.lsm_commit.specs.Stored.{IsStored}
use Rattle.lsm_logged.specs.Jobs.{SeenJob}
use Rattle.lsm_log_model.specs.Logs.{Logged as Log, MayBeDrawn}
use Rattle.lsm_log_model.specs.Records.{LogImage, opened_by}
use Rattle.lsm_runs.specs.declared.slots.Job.{Job}
use Rattle.lsm_runs.specs.Files.{AreApart, StaysStored}
use Rattle.lsm_runs.specs.Slots.{waiting, job_in, Closes}
use Rattle.lsm_runs.proofs.Files.{closed_stored}
use Rattle.lsm_runs.proofs.GivingUp.{spent_closes, all_closes}
use Rattle.lsm_state.specs.Core.{Core, versions_left, written_of}
use Rattle.lsm_state.specs.Flushes.{sealed_ids, spent}
use Rattle.lsm_logged.specs.Flushing.{BeginsLogged}
use Rattle.lsm_logged.specs.Keeping.{SeenLogged, IsLogOf, KeepsLog}
use Rattle.lsm_log_runs.specs.LoggedRuns.{called}
use Rattle.lsm_log_runs.specs.Pasts.{LogPast}
use Rattle.lsm_log_runs.specs.Slots.{LogStage, at_first, StaysBeside, AreAllThatWait, EndsLogged, ClosesLogged}
use Rattle.lsm_log_runs.specs.Standing.{IsUnder, StandsLogged, StandsWithJobs}
use Rattle.lsm_log_runs.proofs.Waiting.{begins_of, first_waiting}

-- ---- all jobs

pub beside_then : {S : Type 0} (old mid new : SeenLogged S) → StaysBeside old mid → StaysBeside mid new → StaysBeside old new
beside_then old mid new a b = record { store = b.store ∙ a.store; numbers = b.numbers ∙ a.numbers; doubt = b.doubt ∙ a.doubt }

-- those in slots are all that wait
pub all_waiting : (slots : BTreeMap ℕ (Option Job)) → IsOrdered nat_cmp slots → AreAllThatWait (job_in slots) slots.entries
all_waiting slots ordered n job = (λ waits. there (get nat_cmp slots n) refl waits, λ has. ap waiting ((btree_map_get_iff nat_cmp_total exact_unsigned slots ordered n (Some job)).1 has))
  where
    there : (o : Option (Option Job)) → get nat_cmp slots n ≡ o → job_in slots n ≡ Some job → Contains slots.entries (n, Some job)
    there None found waits = absurd (none_waits (sym (ap waiting found) ∙ waits))
      where
        none_waits : ◌≡◌ {A = Option Job} None (Some job) → ⊥
        none_waits e = cc
    there (Some place) found waits = (btree_map_get_iff nat_cmp_total exact_unsigned slots ordered n (Some job)).0 (found ∙ ap (λ (p : Option Job). Some p) (sym (ap waiting found) ∙ waits))

ends_closes : {S : Type 0} (last : LogStage S) (new : SeenLogged S) → EndsLogged last new → ClosesLogged last.tree new
ends_closes last new e = record { core = all_closes e.places last.tree.core new.core e.given_up; rest = e.rest }

-- ---- what stands

closed_is : (journal : List Event) (notes : List Note) (old new : Core) (log : Log) → Closes old new → (doubted : Bool) → IsLogOf journal notes old doubted log → IsLogOf journal notes new doubted log
closed_is journal notes old new log c doubted is = subst (λ (x : Core). IsLogOf journal notes x doubted log) (sym c.rest) (record { tree = is.tree; from = is.from; other = is.other; doubt = is.doubt })

closed_stands : {S : Type 0} (world : S → World) (image : LogImage) (past : LogPast) (old new : SeenLogged S) → ClosesLogged old new → StandsLogged world image past old → StandsLogged world image past new
closed_stands {S} world image past old new c s = record {
  log = s.log;
  came = s.came;
  is = subst (λ b. IsLogOf past.journal past.notes new.core b s.log) (sym c.rest.doubt) (closed_is past.journal past.notes old.core new.core s.log c.core old.doubted s.is);
  keeps = subst (λ (x : S). KeepsLog (world x) s.log) (sym c.rest.store) s.keeps;
  next = subst (λ (x : Core). MayBeDrawn (opened_by image) s.log x.seqno) (sym c.core.rest) s.next;
  under = subst (λ (x : Core). IsUnder x.seqno s.log) (sym c.core.rest) s.under;
  stored = closed_stored world old.store new.store old.core new.core c.core c.rest.store s.stored;
  apart = subst (λ (x : Core). AreApart (versions_left x)) (sym c.core.rest) s.apart;
  small = s.small;
}

pub given_up_stands : {S : Type 0} (world : S → World) (image : LogImage) (past : LogPast) (last : LogStage S) (new : SeenLogged S) → EndsLogged last new → StandsWithJobs world image (called last past) → StandsWithJobs world image (called (at_first new) past)
given_up_stands world image past last new ends s = record { tree = closed_stands world image past last.tree new (ends_closes last new ends) s.tree; waits = first_waiting past }

-- ---- what stays stored

pub spent_stored : {S : Type 0} (world : S → World) (old new : SeenLogged S) (n : ℕ) → new.core ≡ spent n old.core → new.store ≡ old.store → StaysStored (world old.store) (world new.store) old.core new.core
spent_stored world old new n is same = closed_stored world old.store new.store old.core new.core (spent_closes n old.core new.core is) same

-- where the tree stays
same_stored : {S : Type 0} (world : S → World) (old new : SeenLogged S) → new.core ≡ old.core → new.store ≡ old.store → StaysStored (world old.store) (world new.store) old.core new.core
same_stored {S} world old new core store h = subst (λ (x : S). IsStored (world x) (versions_left new.core) (written_of new.core)) (sym store) (subst (λ (x : Core). IsStored (world old.store) (versions_left x) (written_of x)) (sym core) h)

-- where a flush is begun: no tables are written for it yet
pub begun_stored : {S : Type 0} (world : S → World) (old new : SeenLogged S) (r : Result (Option SeenJob) Error) → BeginsLogged r old new → StaysStored (world old.store) (world new.store) old.core new.core
begun_stored {S} world old new (Ok None) b = same_stored world old new ((begins_of None old new b).some refl).1 b.store
begun_stored {S} world old new (Ok (Some job)) b = λ h.
    let less : IsStored (world old.store) (versions_left old.core) [] = record { current = h.current; whole = h.whole; written = tt; no_version = h.no_version; in_tables = h.in_tables } in
    let begins = begins_of (Some job) old new b in
    subst (λ (x : S). IsStored (world x) (versions_left new.core) (written_of new.core)) (sym b.store) (subst (λ (x : Core). IsStored (world old.store) (versions_left x) (written_of x)) (sym begins.begins.1) less)
begun_stored {S} world old new (Err x) b = same_stored world old new (by_doubt old.doubted refl (sealed_ids old.core) refl) b.store
  where
    by_doubt : (d : Bool) → old.doubted ≡ d → (ids : List ℕ) → sealed_ids old.core ≡ ids → new.core ≡ old.core
    by_doubt false is ids at = (b.begins (inl is)).err
    by_doubt true is [] at = (b.begins (inr at)).err
    by_doubt true is (i ∷ ids) at = ap (λ (t : SeenLogged S). t.core) (b.doubted is (λ e. let y : ◌≡◌ {A = List ℕ} (i ∷ ids) [] = sym at ∙ e in cc y)).1
