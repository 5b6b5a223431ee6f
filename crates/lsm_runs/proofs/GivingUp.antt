-- What is left of a tree when the jobs that wait are given up.
use Rattle.std.proofs.Common.{◌≡◌, ℕ, zero, suc, ◌≤◌, ◌==◌, Bool, true, false, cond, not, ◌⊎◌, inl, inr, List, [], ◌∷◌, ◌++◌, Option, Some, None, IfSome, slice_get, refl, sym, ap, ◌∙◌, subst, append-nil}
use Rattle.std.specs.List.{AllByRecursion}
use Rattle.std.specs.BTreeMap.{BTreeMap, IsOrdered, get, is_at}
use Rattle.std.specs.Ordering.{nat_cmp}
use Rattle.std.proofs.lemmas.Bool.Decides.{eqb_tells}
use Rattle.std.proofs.lemmas.Cmp.{nat_cmp_total}
use Rattle.std.proofs.lemmas.Map.Entries.{btree_map_get_place, place_from_lookup}
use Rattle.lsm_below.specs.Each.{each_weaker}
use Rattle.lsm_below.specs.Members.{IsIn}
use Rattle.lsm_flush.specs.Jobs.{SeenOpen}
use Rattle.lsm_compaction.specs.Merges.{SeenCompaction}
use Rattle.lsm_compaction.specs.OpenMerges.{SeenOpenMerge, SeenMerges, IsMergeOf, without, ended}
use Rattle.lsm_state.specs.Core.{Core}
use Rattle.lsm_state.specs.Flushes.{spent, spent_in}
use Rattle.lsm_state.specs.Compactions.{Spends}
use Rattle.lsm_runs.specs.declared.slots.Job.{Job}
use Rattle.lsm_runs.specs.declared.slots.Job.TheVariants.{Begun, Merged, Written, Compaction, Compacted}
use Rattle.lsm_runs.specs.Slots.{beside, waiting, job_in, merge_in, number_in, WaitsFor, KeepsOpen, HasJob, KeepsMerges, GivesUp, GivesUpAll, all_ended, Closes}
use Rattle.lsm_runs.proofs.CompactionRest.{LeavesEnded, AreBelow, without_start, in_right, spends_work, ended_flush}
use Rattle.lsm_runs.proofs.OpenFlush.{one_flush, spent_other, none_isnt}

-- ---- nothing but the open flush and the open merges changes

closes_none : (old new : Core) → new ≡ old → Closes old new
closes_none old new e = subst (Closes old) (sym e) (record { rest = refl; flush = inl refl; numbers = []; merges = refl })

pub spent_closes : (n : ℕ) (old new : Core) → new ≡ spent n old → Closes old new
spent_closes n old new e = subst (Closes old) (sym e) (record { rest = refl; flush = go old.flush; numbers = []; merges = refl })
  where
    closed : (f : SeenOpen) (b : Bool) → (cond b None (Some f) ≡ Some f) ⊎ (cond b None (Some f) ≡ None)
    closed f true = inr refl
    closed f false = inl refl

    go : (o : Option SeenOpen) → (spent_in n o ≡ o) ⊎ (spent_in n o ≡ None)
    go None = inl refl
    go (Some f) = closed f (f.number == n)

spends_closes : (job : SeenCompaction) (old new : Core) → Spends job old new → Closes old new
spends_closes job old new (inl s) = subst (Closes old) (sym s.1) (record { rest = refl; flush = inl refl; numbers = job.number ∷ []; merges = refl })
spends_closes job old new (inr s) = closes_none old new s.1

given_closes : (place : Option Job) (old new : Core) → GivesUp place old new → Closes old new
given_closes None old new g = closes_none old new g
given_closes (Some (Begun job)) old new g = spent_closes job.number old new g
given_closes (Some (Merged job)) old new g = spent_closes job.job.number old new g
given_closes (Some (Written job)) old new g = spent_closes job.job.number old new g
given_closes (Some (Compaction job)) old new g = spends_closes job old new g
given_closes (Some (Compacted job)) old new g = spends_closes job.job old new g

ended_append : (xs ys : List ℕ) (ms : SeenMerges) → all_ended (xs ++ ys) ms ≡ all_ended ys (all_ended xs ms)
ended_append [] ys ms = refl
ended_append (x ∷ xs) ys ms = ended_append xs ys (ended x ms)

-- some are given up, and then others
pub closes_both : (old mid new : Core) → Closes old mid → Closes mid new → Closes old new
closes_both old mid new a b = record {
  rest = b.rest ∙ ap (λ (c : Core). record c { flush = new.flush; merges = new.merges }) a.rest;
  flush = go b.flush a.flush;
  numbers = a.numbers ++ b.numbers;
  merges = b.merges ∙ ap (all_ended b.numbers) a.merges ∙ sym (ended_append a.numbers b.numbers old.merges);
}
  where
    go : (new.flush ≡ mid.flush) ⊎ (new.flush ≡ None) → (mid.flush ≡ old.flush) ⊎ (mid.flush ≡ None) → (new.flush ≡ old.flush) ⊎ (new.flush ≡ None)
    go (inl e) (inl f) = inl (e ∙ f)
    go (inl e) (inr f) = inr (e ∙ f)
    go (inr e) f = inr e

pub all_closes : (xs : List (ℕ × Option Job)) (old new : Core) → GivesUpAll xs old new → Closes old new
all_closes [] old new g = closes_none old new g
all_closes (x ∷ xs) old new g = closes_both old g.0 new (given_closes x.1 old g.0 g.1) (all_closes xs g.0 new g.2)

-- ---- the open flush

-- what was open after the flush of this number, if of any, is given up
abbrev left_by : Option ℕ → Option SeenOpen → Option SeenOpen
left_by None flush = flush
left_by (Some n) flush = spent_in n flush

abbrev left_by_all : List (ℕ × Option Job) → Option SeenOpen → Option SeenOpen
left_by_all [] flush = flush
left_by_all (x ∷ xs) flush = left_by_all xs (left_by (number_in x.1) flush)

given_flush : (place : Option Job) (old new : Core) → GivesUp place old new → new.flush ≡ left_by (number_in place) old.flush
given_flush None old new g = one_flush new old g
given_flush (Some (Begun job)) old new g = one_flush new (spent job.number old) g
given_flush (Some (Merged job)) old new g = one_flush new (spent job.job.number old) g
given_flush (Some (Written job)) old new g = one_flush new (spent job.job.number old) g
given_flush (Some (Compaction job)) old new g = ended_flush job old new (spends_work job old new g)
given_flush (Some (Compacted job)) old new g = ended_flush job.job old new (spends_work job.job old new g)

all_flush : (xs : List (ℕ × Option Job)) (old new : Core) → GivesUpAll xs old new → new.flush ≡ left_by_all xs old.flush
all_flush [] old new g = one_flush new old g
all_flush (x ∷ xs) old new g = all_flush xs g.0 new g.2 ∙ ap (left_by_all xs) (given_flush x.1 old g.0 g.1)

-- none is open then that wasn't
all_none : (xs : List (ℕ × Option Job)) → left_by_all xs None ≡ None
all_none [] = refl
all_none (x ∷ xs) = ap (left_by_all xs) (go (number_in x.1)) ∙ all_none xs
  where
    go : (o : Option ℕ) → left_by o None ≡ None
    go None = refl
    go (Some n) = refl

-- one of which no job waits stays open
all_other : (xs : List (ℕ × Option Job)) (f : SeenOpen) → ((i n : ℕ) (place : Option Job) → slice_get xs i ≡ Some (n, place) → number_in place ≡ Some f.number → ⊥) → left_by_all xs (Some f) ≡ Some f
all_other [] f other = refl
all_other (x ∷ xs) f other = ap (left_by_all xs) (go (number_in x.1) (other zero x.0 x.1 refl)) ∙ all_other xs f (λ i. other (suc i))
  where
    go : (o : Option ℕ) → (o ≡ Some f.number → ⊥) → left_by o (Some f) ≡ Some f
    go None differs = refl
    go (Some n) differs = spent_other n f (λ e. differs (ap (λ (m : ℕ). Some m) (sym e)))

-- one whose job waits is given up
given_either : (o : Option ℕ) (f : SeenOpen) → (left_by o (Some f) ≡ None) ⊎ ((left_by o (Some f) ≡ Some f) × (o ≡ Some f.number → ⊥))
given_either None f = inr (refl, none_isnt None f.number refl)
given_either (Some n) f = elim (eqb_tells f.number n) [
  | inl e ↦ inl (ap (λ b. cond b None (Some f)) e.0)
  | inr e ↦ inr (ap (λ b. cond b None (Some f)) e.0, λ same. e.1 (sym (one_number same)))
]
  where
    one_number : ◌≡◌ {A = Option ℕ} (Some n) (Some f.number) → n ≡ f.number
    one_number same = cc

all_waited : (xs : List (ℕ × Option Job)) (i n : ℕ) (place : Option Job) (f : SeenOpen) → slice_get xs i ≡ Some (n, place) → number_in place ≡ Some f.number → left_by_all xs (Some f) ≡ None
all_waited [] i n place f here same = absurd (none_there here)
  where
    none_there : ◌≡◌ {A = Option (ℕ × Option Job)} None (Some (n, place)) → ⊥
    none_there e = cc
all_waited (x ∷ xs) zero n place f here same = elim (given_either (number_in x.1) f) [
  | inl none ↦ ap (left_by_all xs) none ∙ all_none xs
  | inr other ↦ absurd (other.1 (ap (λ (p : ℕ × Option Job). number_in p.1) (one_entry here) ∙ same))
]
  where
    one_entry : ◌≡◌ {A = Option (ℕ × Option Job)} (Some x) (Some (n, place)) → x ≡ (n, place)
    one_entry e = cc
all_waited (x ∷ xs) (suc i) n place f here same = elim (given_either (number_in x.1) f) [
  | inl none ↦ ap (left_by_all xs) none ∙ all_none xs
  | inr other ↦ ap (left_by_all xs) other.0 ∙ all_waited xs i n place f here same
]

-- what was open at the start is open at the end, and nothing else
pub given_up_open : (start : Option SeenOpen) (slots : BTreeMap ℕ (Option Job)) (old new : Core) → IsOrdered nat_cmp slots → GivesUpAll slots.entries old new → KeepsOpen start (beside old slots) → new.flush ≡ start
given_up_open start slots old new ordered g k = all_flush slots.entries old new g ∙ (elim k [
  | inl l ↦ ap (left_by_all slots.entries) l.0 ∙ stays start l.1
  | inr r ↦ ap (left_by_all slots.entries) r.1.1 ∙ goes r.1.0 r.1.2.0 r.1.2.1 (get nat_cmp slots r.1.2.0) refl ∙ sym r.0
])
  where
    stays : (o : Option SeenOpen) → IfSome o (λ f. WaitsFor f (job_in slots) → ⊥) → left_by_all slots.entries o ≡ o
    stays None none = all_none slots.entries
    stays (Some f) none = all_other slots.entries f (λ i n place at number. none (n, ap (λ (o : Option (Option Job)). number_in (waiting o)) (btree_map_get_place nat_cmp_total slots i n place ordered at) ∙ number))

    goes : (f : SeenOpen) (n : ℕ) → number_in (job_in slots n) ≡ Some f.number → (o : Option (Option Job)) → get nat_cmp slots n ≡ o → left_by_all slots.entries (Some f) ≡ None
    goes f n number None none = absurd (none_isnt (number_in (job_in slots n)) f.number (ap (λ (o : Option (Option Job)). number_in (waiting o)) none) number)
    goes f n number (Some place) found =
        let at = place_from_lookup (is_at (nat_cmp n)) slots.entries place found in
        all_waited slots.entries at.0 at.1 place f at.2 (sym (ap (λ (o : Option (Option Job)). number_in (waiting o)) found) ∙ number)

-- ---- the open merges

one_merges : (c d : Core) → c ≡ d → c.merges ≡ d.merges
one_merges c d e = ap (λ (x : Core). x.merges) e

given_merges : (place : Option Job) (old new : Core) → GivesUp place old new → ((merge_in place ≡ None) × (new.merges ≡ old.merges)) ⊎ ((job : SeenCompaction) × (merge_in place ≡ Some job) × LeavesEnded job old new)
given_merges None old new g = inl (refl, one_merges new old g)
given_merges (Some (Begun job)) old new g = inl (refl, one_merges new (spent job.number old) g)
given_merges (Some (Merged job)) old new g = inl (refl, one_merges new (spent job.job.number old) g)
given_merges (Some (Written job)) old new g = inl (refl, one_merges new (spent job.job.number old) g)
given_merges (Some (Compaction job)) old new g = inr (job, refl, spends_work job old new g)
given_merges (Some (Compacted job)) old new g = inr (job.job, refl, spends_work job.job old new g)

-- the job of this merge waits in one of these slots
abbrev WaitsAmong : List (ℕ × Option Job) → SeenOpenMerge → Type 0
WaitsAmong xs m = (i n : ℕ) × (place : Option Job) × (slice_get xs i ≡ Some (n, place)) × (job : SeenCompaction) × (merge_in place ≡ Some job) × IsMergeOf job m

-- each job that waits in one of these has a number from this one on
abbrev AreFrom : ℕ → List (ℕ × Option Job) → Type 0
AreFrom next xs = (i n : ℕ) (place : Option Job) (job : SeenCompaction) → slice_get xs i ≡ Some (n, place) → merge_in place ≡ Some job → next ≤ job.number

one_job : (o : Option SeenCompaction) (a b : SeenCompaction) → o ≡ Some a → o ≡ Some b → a ≡ b
one_job o a b first second = cc

no_job : (o : Option SeenCompaction) (job : SeenCompaction) → o ≡ None → o ≡ Some job → ⊥
no_job o job none some = cc

module _ (x : ℕ × Option Job) (xs : List (ℕ × Option Job)) where
  -- the first of the slots isn't where it waits
  not_first : (m : SeenOpenMerge) → ((job : SeenCompaction) → merge_in x.1 ≡ Some job → IsMergeOf job m → ⊥) → WaitsAmong (x ∷ xs) m → WaitsAmong xs m
  not_first m other w = go w.0 w.3
    where
      one_entry : ◌≡◌ {A = Option (ℕ × Option Job)} (Some x) (Some (w.1, w.2)) → x ≡ (w.1, w.2)
      one_entry e = cc

      go : (i : ℕ) → slice_get (x ∷ xs) i ≡ Some (w.1, w.2) → WaitsAmong xs m
      go zero at = absurd (other w.4 (ap (λ (p : ℕ × Option Job). merge_in p.1) (one_entry at) ∙ w.5) w.6)
      go (suc i) at = (i, w.1, w.2, at, w.4, w.5, w.6)

  -- those of another number than that of the first slot's job
  left_among : (job : SeenCompaction) → merge_in x.1 ≡ Some job → (own : List SeenOpenMerge) → AllByRecursion (WaitsAmong (x ∷ xs)) own → AllByRecursion (WaitsAmong xs) (without job.number own)
  left_among job here [] h = tt
  left_among job here (m ∷ own) h = elim (eqb_tells m.number job.number) [
    | inl e ↦ subst (λ b. AllByRecursion (WaitsAmong xs) (cond (not b) (m ∷ without job.number own) (without job.number own))) (sym e.0) (left_among job here own h.1)
    | inr e ↦ subst (λ b. AllByRecursion (WaitsAmong xs) (cond (not b) (m ∷ without job.number own) (without job.number own))) (sym e.0)
        (not_first m (λ j at of. e.1 (of.number ∙ ap (λ (k : SeenCompaction). k.number) (one_job (merge_in x.1) j job at here))) h.0, left_among job here own h.1)
  ]

  none_among : (own : List SeenOpenMerge) → ((m : SeenOpenMerge) → IsIn m own → (job : SeenCompaction) → merge_in x.1 ≡ Some job → IsMergeOf job m → ⊥) → AllByRecursion (WaitsAmong (x ∷ xs)) own → AllByRecursion (WaitsAmong xs) own
  none_among [] other h = tt
  none_among (m ∷ own) other h = (not_first m (other m (inl refl)) h.0, none_among own (λ k at. other k (inr at)) h.1)

-- nothing waits in no slot
none_left : (own : List SeenOpenMerge) → AllByRecursion (WaitsAmong []) own → own ≡ []
none_left [] h = refl
none_left (m ∷ own) h = absurd (none_there h.0.3)
  where
    none_there : ◌≡◌ {A = Option (ℕ × Option Job)} None (Some (h.0.1, h.0.2)) → ⊥
    none_there e = cc

module _ (start : SeenMerges) (first : AreBelow start.next start.underway) where
  later_rest : (x : ℕ × Option Job) (xs : List (ℕ × Option Job)) → AreFrom start.next (x ∷ xs) → AreFrom start.next xs
  later_rest x xs later i n place job at = later (suc i) n place job at

  merges_left : (xs : List (ℕ × Option Job)) (own : List SeenOpenMerge) (old new : Core) → old.merges.underway ≡ start.underway ++ own → AllByRecursion (WaitsAmong xs) own → AreFrom start.next xs → GivesUpAll xs old new → new.merges.underway ≡ start.underway
  merges_left [] own old new is h later g =
      ap (λ (c : Core). c.merges.underway) g ∙ is ∙ ap (λ ms. start.underway ++ ms) (none_left own h) ∙ append-nil start.underway
  merges_left (x ∷ xs) own old new is h later g = elim (given_merges x.1 old g.0 g.1) [
    | inl none ↦ merges_left xs own g.0 new (ap (λ (ms : SeenMerges). ms.underway) none.1 ∙ is) (none_among x xs own (λ m at job here of. no_job (merge_in x.1) job none.0 here) h) (later_rest x xs later) g.2
    | inr some ↦ elim some.2 [
      | inl e ↦ merges_left xs (without some.0.number own) g.0 new
          (ap (λ (ms : SeenMerges). ms.underway) e.1.1 ∙ ap (without some.0.number) is ∙ without_start start own some.0.number first (later zero x.0 x.1 some.0 refl some.1))
          (left_among x xs some.0 some.1 own h) (later_rest x xs later) g.2
      | inr e ↦ merges_left xs own g.0 new (ap (λ (ms : SeenMerges). ms.underway) e.1.1 ∙ is)
          (none_among x xs own (λ m at j there of. e.0 (m, subst (IsIn m) (sym is) (in_right m start.underway own at), subst (λ k. IsMergeOf k m) (one_job (merge_in x.1) j some.0 there some.1) of)) h) (later_rest x xs later) g.2
    ]
  ]

-- what was open at the start is open at the end, and no other merge
pub given_up_merges : (start : SeenMerges) (slots : BTreeMap ℕ (Option Job)) (old new : Core) → IsOrdered nat_cmp slots → GivesUpAll slots.entries old new → KeepsMerges start (beside old slots) → new.merges.underway ≡ start.underway
given_up_merges start slots old new ordered g k =
    merges_left start k.first slots.entries k.own old new k.underway (each_weaker (λ m. HasJob m (job_in slots)) (WaitsAmong slots.entries) (λ m w. among m w (get nat_cmp slots w.0) refl) k.own k.wait)
    (λ i n place job at here. k.later n job (ap (λ (o : Option (Option Job)). merge_in (waiting o)) (btree_map_get_place nat_cmp_total slots i n place ordered at) ∙ here)) g
  where
    among : (m : SeenOpenMerge) (w : HasJob m (job_in slots)) (o : Option (Option Job)) → get nat_cmp slots w.0 ≡ o → WaitsAmong slots.entries m
    among m w None none = absurd (no_job (merge_in (job_in slots w.0)) w.1 (ap (λ (o : Option (Option Job)). merge_in (waiting o)) none) w.2)
    among m w (Some place) found =
        let at = place_from_lookup (is_at (nat_cmp w.0)) slots.entries place found in
        (at.0, at.1, place, at.2, w.1, sym (ap (λ (o : Option (Option Job)). merge_in (waiting o)) found) ∙ w.2, w.3)
