-- A compaction in one call: what its beginning tells, and what the end of its merge tells after it.
use Rattle.std.proofs.Common.{◌≡◌, ◌⊎◌, ⊎_elim, inl, inr, ℕ, List, [], ◌∷◌, ◌++◌, length, take, refl, sym, ap, ◌∙◌, subst, append-nil, Option, None, Some, IsSome, Result, Ok, Err}
use Rattle.lsm_below.specs.declared.error.Error.{Error}
use Rattle.lsm_below.specs.declared.error.Error.TheVariants.{CommitUnknown, AfterCommit}
use Rattle.lsm_model.specs.Journal.{Event}
use Rattle.lsm_model.specs.declared.journal.JournalEntry.TheVariants.{Mark, Install}
use Rattle.lsm_versions.specs.Levels.{SeenVersion}
use Rattle.lsm_checks.specs.declared.choice.Why.{Why}
use Rattle.lsm_checks.specs.declared.input.Input.{Input}
use Rattle.lsm_compaction.specs.Merges.{SeenCompaction}
use Rattle.lsm_pick.specs.declared.choice.Choice.{Choice}
use Rattle.lsm_pick.specs.declared.choice.Choice.TheVariants.{DoNothing, Move, Merge, Drop}
use Rattle.lsm_state.specs.declared.compaction.Options.{Options}
use Rattle.lsm_state.specs.declared.compaction.Begun.{Begun}
use Rattle.lsm_state.specs.declared.compaction.Begun.TheVariants.{DidNothing, Declined, Installed, Job}
use Rattle.lsm_state.specs.Core.{Core}
use Rattle.lsm_state.specs.Compactions.{reason_of, Does, OpensMerge, BeginsChoice}
use Rattle.lsm_state.specs.CompactionReads.{TellsChoice, ranges_told}
use Rattle.lsm_state.specs.WholeCompactions.{Follows, CompactsChoice}
use Rattle.lsm_journal.specs.Noted.{noted_of, kept_of, TellsBehind, CompactsNoted}
use Rattle.lsm_journal.proofs.Telling.{kept, tells_choice}

-- ---- what becomes a job is a merge

-- a merge, and that it is opened
pub record IsOpened (choice : Choice) (o : Options) (job : SeenCompaction) (old mid : Core) : Type 0 where
  pub input : Input
  pub is : choice ≡ Merge input
  pub opens : OpensMerge input o (Ok (Job job)) old mid

job_done : (choice : Choice) (o : Options) (job : SeenCompaction) (old mid : Core) → Does choice o (Ok (Job job)) old mid → IsOpened choice o job old mid
job_done DoNothing o job old mid does = absurd (cc does.0)
job_done (Move input) o job old mid does = absurd (cc does.ok)
job_done (Merge input) o job old mid does = record { input = input; is = refl; opens = does }
job_done (Drop ids) o job old mid does = absurd (cc does.ok)

pub job_begun : (choice : Choice) (o : Options) (job : SeenCompaction) (old mid : Core) → BeginsChoice choice o (Ok (Job job)) old mid → IsOpened choice o job old mid
job_begun choice o job old mid begins = by_lost old.lost refl
  where
    declined : (why : Why) → ◌≡◌ {A = Result Begun Error} (Ok (Job job)) (Ok (Declined why)) → ⊥
    declined why h = cc h

    refused : (e : Error) → ◌≡◌ {A = Result Begun Error} (Ok (Job job)) (Err e) → ⊥
    refused e h = cc h

    by_reason : old.lost ≡ None → (why : Option Why) → reason_of choice old ≡ why → IsOpened choice o job old mid
    by_reason certain None is = job_done choice o job old mid (begins.does certain is)
    by_reason certain (Some why) is = ⊎_elim (λ h. absurd (declined why h)) (λ h. absurd (refused _ h)) (begins.declines why certain is).0

    by_lost : (l : Option SeenVersion) → old.lost ≡ l → IsOpened choice o job old mid
    by_lost None certain = by_reason certain (reason_of choice old) refl
    by_lost (Some v) is = absurd (refused _ (begins.unrecoverable.1 (subst IsSome (sym is) refl)))

-- ---- what is told

module _ (choice : Choice) (o : Options) (old new : Core) where
  abbrev w : ℕ
  w = o.mvcc_gc_watermark

  -- where nothing follows
  alone : (begun : Result Begun Error) (r : Result Begun Error) (c : CompactsChoice choice o r old new) → c.begun ≡ begun → r ≡ begun → TellsBehind c.begun r c.mid [] → CompactsNoted choice o r (kept choice w old r) old new
  alone begun r c is same silent = record {
    compacts = c;
    front = kept choice w old r;
    behind = [];
    begins = subst (λ b. TellsChoice choice w b old (kept choice w old r)) (same ∙ sym is) (tells_choice choice w old r);
    follows = silent;
    told = sym (append-nil (kept choice w old r));
  }

  -- where a merge follows: the mark, and then its install where it is installed in the end
  module _ (job : SeenCompaction) (r : Result Begun Error) (c : CompactsChoice choice o r old new) (is : c.begun ≡ Ok (Job job)) where
    opens : IsOpened choice o job old c.mid
    opens = job_begun choice o job old c.mid (subst (λ b. BeginsChoice choice o b old c.mid) is c.begins)

    begins : TellsChoice choice w c.begun old (Mark w ∷ [])
    begins = subst (λ b. TellsChoice choice w b old (Mark w ∷ [])) (sym is) (tells_choice choice w old (Ok (Job job)))

    -- the counter stands where it stood
    number : c.mid.seqno ≡ old.seqno
    number = ap (λ (x : Core). x.seqno) opens.opens.ok

    no_ranges : ranges_told choice old ≡ []
    no_ranges = ap (λ x. ranges_told x old) opens.is

    all : noted_of (Ok choice) w old ≡ Mark w ∷ (Install old.seqno ∷ [])
    all = ap (λ es. Mark w ∷ (es ++ Install old.seqno ∷ [])) no_ranges

    followed : (end : List Event) → kept choice w old r ≡ Mark w ∷ end → TellsBehind (Ok (Job job)) r c.mid end → CompactsNoted choice o r (kept choice w old r) old new
    followed end told behind = record {
      compacts = c;
      front = Mark w ∷ [];
      behind = end;
      begins = begins;
      follows = subst (λ b. TellsBehind b r c.mid end) (sym is) behind;
      told = told;
    }

    abbrev cut : Result Begun Error → List Event → List Event
    cut x es = take (kept_of x (length es)) es

    installed : (x : Result Begun Error) → r ≡ x → ((l : List Event) → kept_of x (length l) ≡ length l) → (r ≡ Ok Installed) ⊎ (r ≡ Err AfterCommit) → CompactsNoted choice o r (kept choice w old r) old new
    installed x same whole done = followed (Install old.seqno ∷ []) (ap (λ y. cut y (noted_of (Ok choice) w old)) same ∙ ap (cut x) all ∙ ap (λ n. take n (Mark w ∷ (Install old.seqno ∷ []))) (whole (Mark w ∷ (Install old.seqno ∷ [])))) (inl (done, ap (λ n. Install n ∷ []) (sym number)))

    silent : (x : Result Begun Error) → r ≡ x → ((x ≡ Ok Installed) → ⊥) → ((x ≡ Err AfterCommit) → ⊥) → cut x (Mark w ∷ (Install old.seqno ∷ [])) ≡ Mark w ∷ [] → CompactsNoted choice o r (kept choice w old r) old new
    silent x same no_ok no_err mark = followed [] (ap (λ y. cut y (noted_of (Ok choice) w old)) same ∙ ap (cut x) all ∙ mark) (inr (λ h. no_ok (sym same ∙ h), λ h. no_err (sym same ∙ h), refl))

    merged : (x : Result Begun Error) → r ≡ x → CompactsNoted choice o r (kept choice w old r) old new
    merged (Ok Installed) same = installed (Ok Installed) same (λ l. refl) (inl same)
    merged (Ok begun) same = silent (Ok begun) same (λ h. cc h) (λ h. cc h) refl
    merged (Err AfterCommit) same = installed (Err AfterCommit) same (λ l. refl) (inr same)
    merged (Err CommitUnknown) same = silent (Err CommitUnknown) same (λ h. cc h) (λ h. cc h) refl
    merged (Err e) same = silent (Err e) same (λ h. cc h) (λ h. cc h) refl

  by_begun : (begun : Result Begun Error) (r : Result Begun Error) (c : CompactsChoice choice o r old new) → c.begun ≡ begun → CompactsNoted choice o r (kept choice w old r) old new
  by_begun (Ok (Job job)) r c is = merged job r c is r refl
  by_begun (Ok DidNothing) r c is = let f : Follows (Ok DidNothing) r c.mid new = subst (λ b. Follows b r c.mid new) is c.follows in alone (Ok DidNothing) r c is f.0 (subst (λ b. TellsBehind b r c.mid []) (sym is) refl)
  by_begun (Ok (Declined why)) r c is = let f : Follows (Ok (Declined why)) r c.mid new = subst (λ b. Follows b r c.mid new) is c.follows in alone (Ok (Declined why)) r c is f.0 (subst (λ b. TellsBehind b r c.mid []) (sym is) refl)
  by_begun (Ok Installed) r c is = let f : Follows (Ok Installed) r c.mid new = subst (λ b. Follows b r c.mid new) is c.follows in alone (Ok Installed) r c is f.0 (subst (λ b. TellsBehind b r c.mid []) (sym is) refl)
  by_begun (Err e) r c is = let f : Follows (Err e) r c.mid new = subst (λ b. Follows b r c.mid new) is c.follows in alone (Err e) r c is f.0 (subst (λ b. TellsBehind b r c.mid []) (sym is) refl)

pub compacts_noted : (choice : Choice) (o : Options) (r : Result Begun Error) (old new : Core) → CompactsChoice choice o r old new → CompactsNoted choice o r (kept choice o.mvcc_gc_watermark old r) old new
compacts_noted choice o r old new c = by_begun choice o old new c.begun r c refl
