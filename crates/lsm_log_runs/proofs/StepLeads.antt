-- What each step leads to, by its kind and its reply.
use Rattle.std.proofs.Common.{◌≡◌, ⊎_elim, ℕ, ◌+◌, ◌<◌, ◌≤◌, ◌^◌, Bool, true, false, cond, List, [], ◌∷◌, ◌++◌, map, length, Some, None, Result, Ok, Err, refl, sym, ap, ◌∙◌, subst, arith}
use Rattle.std.specs.List.{AllByRecursion, list_any}
use Rattle.lsm_below.specs.Each.{each_left, each_right, each_weaker}
use Rattle.lsm_below.specs.Entries.{Entry}
use Rattle.lsm_below.specs.Keys.{Bytes}
use Rattle.lsm_below.specs.declared.error.Error.{Error}
use Rattle.lsm_below.specs.declared.error.Error.TheVariants.{CommitUnknown, AfterCommit, OutOfNumbers, KeyTooLong, ValueTooLong, DuplicateKey}
use Rattle.lsm_store.specs.World.{World}
use Rattle.lsm_model.specs.Journal.{Event, InOrder, next_number}
use Rattle.lsm_model.specs.Ops.{op_entries, op_value, keys_of, repeats}
use Rattle.lsm_model.specs.Sound.{Holds}
use Rattle.lsm_model.specs.Steps.{Action, Marked, Maintained}
use Rattle.lsm_model.specs.Beginnings.{Note, Saved, FlushedIds}
use Rattle.lsm_model.specs.declared.op.Op.{Op}
use Rattle.lsm_model.specs.declared.journal.JournalEntry.TheVariants.{Write as Wrote, Install}
use Rattle.lsm_commit.specs.Foreign.{AtRest}
use Rattle.lsm_log_model.specs.Logs.{Logged as Log, IsCertain, lost_of, Act, Batched, BatchLost, Did, CommitLost, AllActs}
use Rattle.lsm_log_model.specs.Records.{Batch, HasDistinctKeys, LogImage, logged, opened_by}
use Rattle.lsm_log_model.proofs.Writes.{deeds_run}
use Rattle.lsm_run_model.specs.Outcomes.{sealed_in}
use Rattle.lsm_runs.specs.declared.steps.Reply.{Reply}
use Rattle.lsm_runs.specs.declared.steps.Reply.TheVariants.{Number, Flushed, Cleared, Refused}
use Rattle.lsm_state.specs.Clearing.{Clears}
use Rattle.lsm_state.specs.Flushes.{sealed_ids}
use Rattle.lsm_state.specs.Refusals.{is_great, is_long_key, is_long_value, batch_refusal}
use Rattle.lsm_logged.specs.Acting.{DrawBelow, LeadsBy, LeadsByCommit, LeadsByLost, LeadsByClear, clear_of}
use Rattle.lsm_logged.specs.Flushing.{ClearsLogged, IsClearSaid}
use Rattle.lsm_logged.specs.Keeping.{SeenLogged, is_unsure}
use Rattle.lsm_logged.specs.Writing.{WritesLogged, WritesAct, Leads, batch_of}
use Rattle.lsm_logged.proofs.Acted.{distinct_keys}
use Rattle.lsm_log_runs.specs.Adds.{AddsBatch, AddsFlush, AddsClear}
use Rattle.lsm_log_runs.specs.Doing.{ActsBatch, ActsFlush, ActsClear}
use Rattle.lsm_log_runs.specs.LoggedRuns.{SparesAnswers}
use Rattle.lsm_log_runs.specs.Pasts.{LogPast, past_of, with_batch, with_lost, with_flushed, with_flush, with_doubt, with_clear, with_lost_clear}
use Rattle.lsm_log_runs.specs.Runs.{TakesBatch, TakesClear}
use Rattle.lsm_log_runs.specs.Standing.{StandsLogged}
use Rattle.lsm_log_runs.specs.Trying.{IsOverOne}
use Rattle.lsm_log_runs.proofs.BatchOrders.{batch_order}
use Rattle.lsm_log_runs.proofs.Beside.{beside, is_sealed}
use Rattle.lsm_log_runs.proofs.Going.{holds_on}
use Rattle.lsm_log_runs.proofs.Leading.{Reading, Stores, StepFiles, Led, past_eq, stands_on, spared, leads_on, nothing_led}
use Rattle.lsm_log_runs.proofs.Numbers.{IsBatchBelow}
use Rattle.lsm_log_runs.proofs.Orders.{order_marked, order_cleared, order_installed}
use Rattle.lsm_log_runs.proofs.Sparing.{is_steady, ForgetLast}

-- ---- acts that write nothing

abbrev pub IsQuiet : Act → Type 0
IsQuiet (Batched b) = ⊥
IsQuiet (BatchLost b) = ⊥
IsQuiet (Did action) = Unit {0}
IsQuiet (CommitLost action would) = Unit {0}

-- they leave which batches are acknowledged or of unknown outcome
quiet : (opened : List Entry) (old : Log) (acts : List Act) (new : Log) → AllByRecursion IsQuiet acts → AllActs opened old acts new → (new.reached ≡ old.reached) × (new.lost ≡ old.lost)
quiet opened old [] new q d = (ap (λ (t : Log). t.reached) d, ap (λ (t : Log). t.lost) d)
quiet opened old (Batched b ∷ acts) new q d = absurd q.0
quiet opened old (BatchLost b ∷ acts) new q d = absurd q.0
quiet opened old (Did action ∷ acts) new q d = let rest = quiet opened d.0 acts new q.1 d.2 in (rest.0 ∙ ap (λ (t : Log). t.reached) d.1.rest, rest.1 ∙ ap (λ (t : Log). t.lost) d.1.rest)
quiet opened old (CommitLost action would ∷ acts) new q d = let rest = quiet opened d.0 acts new q.1 d.2 in (rest.0 ∙ ap (λ (t : Log). t.reached) d.1.rest, rest.1 ∙ ap (λ (t : Log). t.lost) d.1.rest)

quiet_below : (act : Act) → IsQuiet act → IsBatchBelow (2 ^ 63) act
quiet_below (Batched b) q = absurd q
quiet_below (BatchLost b) q = absurd q
quiet_below (Did action) q = tt
quiet_below (CommitLost action would) q = tt

abbrev pub IsAnswered : Act → Type 0
IsAnswered (Did action) = Unit {0}
IsAnswered other = ⊥

-- answered ones leave that all outcomes are known
pub answered : (opened : List Entry) (old : Log) (acts : List Act) (new : Log) → AllByRecursion IsAnswered acts → AllActs opened old acts new → IsCertain old → IsCertain new
answered opened old [] new q d certain = subst IsCertain (sym d) certain
answered opened old (Did action ∷ acts) new q d certain =
    answered opened d.0 acts new q.1 d.2 (d.1.done.others ∙ certain.0, ap (λ (t : Log). t.lost) d.1.rest ∙ certain.1)
answered opened old (Batched b ∷ acts) new q d certain = absurd q.0
answered opened old (BatchLost b ∷ acts) new q d certain = absurd q.0
answered opened old (CommitLost action would ∷ acts) new q d certain = absurd q.0

-- ---- a batch that isn't refused

four_tests : (a b c d : Bool) → cond a (Some OutOfNumbers) (cond b (Some KeyTooLong) (cond c (Some ValueTooLong) (cond d (Some DuplicateKey) None))) ≡ None → d ≡ false
four_tests true b c d h = absurd (cc h)
four_tests false true c d h = absurd (cc h)
four_tests false false true d h = absurd (cc h)
four_tests false false false true h = absurd (cc h)
four_tests false false false false h = refl

-- one of unknown outcome has no key twice
lost_distinct : {S : Type 0} (ops : List (Bytes × Op)) (old new : SeenLogged S) → WritesLogged ops (Err CommitUnknown) old new → HasDistinctKeys (batch_of old.core.seqno ops)
lost_distinct ops old new writes = by_sure (is_unsure old) refl
  where
    free : batch_refusal old.core.seqno ops ≡ None → repeats (keys_of ops) ≡ false
    free h = four_tests (is_great old.core.seqno) (list_any (λ p. is_long_key p.0) ops) (list_any (λ p. is_long_value (op_value p.1)) ops) (repeats (keys_of ops)) h

    by_sure : (u : Bool) → is_unsure old ≡ u → HasDistinctKeys (batch_of old.core.seqno ops)
    by_sure true is = let z = (writes.unsure is).0 in absurd (cc z)
    by_sure false is = distinct_keys ops (free ((writes.tree is).doubted refl))

module _ {S : Type 0} (world : S → World) (reading : Reading) (between : Stores world) (image : LogImage) (past : LogPast) (old new : SeenLogged S) (s : StandsLogged world image past old) (stored : StepFiles world old new) where
  abbrev opened : List Entry
  opened = opened_by image

  abbrev w : World
  w = world old.store

  abbrev w' : World
  w' = world new.store

  -- a step leads to what this adds
  abbrev pub LeadsOn : (LogPast → Type 0) → Type 0
  LeadsOn Added = (next : LogPast) × Added next × Led world reading between image past next old new

  -- the counter is past the journal
  pub fresh : next_number opened past.journal ≤ old.core.seqno
  fresh = subst (λ (p : LogPast). next_number opened p.journal ≤ old.core.seqno) s.came.past_is s.next.above_journal

  reached_is : s.log.reached ≡ past.reached
  reached_is = ap (λ (p : LogPast). p.reached) s.came.past_is

  lost_is : s.log.lost ≡ past.lost
  lost_is = ap (λ (p : LogPast). p.lost) s.came.past_is

  pub holds : Holds opened (logged image) s.log.tree.state
  holds = holds_on reading.theory image past s.log s.came

  -- one act leads
  abbrev led_by : (journal : List Event) (notes : List Note) (act : Act) (leads : Leads opened journal notes s.log act old.core new.core new.doubted w w') → old.core.seqno ≤ new.core.seqno → DrawBelow new.core.seqno opened s.log (act ∷ []) leads.log (leads.log, leads.acts, refl) → LeadsBy opened journal notes s.log (act ∷ []) w w' old new
  led_by journal notes act leads counter drawn = record { log = leads.log; done = (leads.log, leads.acts, refl); is = leads.is; keeps = leads.keeps; counter = counter; drawn = drawn; moments = leads.versions }

  -- what leads by acts that write nothing
  module _ (next : LogPast) (acts : List Act) (q : AllByRecursion IsQuiet acts) (l : LeadsBy opened next.journal next.notes s.log acts w w' old new) (reached : next.reached ≡ past.reached) (lost : next.lost ≡ past.lost) (order : InOrder opened next.journal)
      (certain : next.known ≡ true → IsCertain l.log) where
    quiet_past : past_of next.known next.begun l.log ≡ next
    quiet_past =
        let same = quiet opened s.log acts l.log q l.done in
        past_eq l.log next (ap (λ (t : Saved). t.state.journal) l.is.tree) (ap (λ (t : Saved). t.notes) l.is.tree) (same.0 ∙ reached_is ∙ sym reached) (same.1 ∙ lost_is ∙ sym lost)

    all_below : AllByRecursion (IsBatchBelow (2 ^ 63)) acts
    all_below = each_weaker IsQuiet (IsBatchBelow (2 ^ 63)) quiet_below acts q

    pub quiet_stands : StandsLogged world image next new
    quiet_stands = stands_on world reading between image past next old new s acts l quiet_past order certain stored all_below

    pub quiet_spared : ForgetLast acts → SparesAnswers past next old.core new.core
    quiet_spared last = spared world reading between image past next old new s acts l quiet_past order certain stored all_below last

    pub by_quiet : ForgetLast acts → AtRest w' → Led world reading between image past next old new
    by_quiet last rest = leads_on world reading between image past next old new s acts l quiet_past order certain stored all_below last rest

  -- the notes tell what is sealed
  pub sealed_are : sealed_ids old.core ≡ sealed_in past.notes
  sealed_are =
      sym (ap (λ (t : Saved). t.state.latest.sealed) s.is.tree)
      ∙ sym (is_sealed opened s.log (beside opened image s.came.first s.came.acts s.log s.came.reopened s.came.done))
      ∙ ap (λ (p : LogPast). sealed_in p.notes) s.came.past_is

  module _ (rest : AtRest (world new.store)) where
    pub none_done : (Added : LogPast → Type 0) → Added past → LeadsBy opened past.journal past.notes s.log [] w w' old new → LeadsOn Added
    none_done Added added l = (past, added, nothing_led world reading between image past old new s l stored rest)

    pub quietly : (next : LogPast) (acts : List Act) → AllByRecursion IsQuiet acts → ForgetLast acts → (l : LeadsBy opened next.journal next.notes s.log acts w w' old new) → next.reached ≡ past.reached → next.lost ≡ past.lost → InOrder opened next.journal → (next.known ≡ true → IsCertain l.log)
        → Led world reading between image past next old new
    quietly next acts q last l reached lost order certain = by_quiet next acts q l reached lost order certain last rest

    -- ---- a batch

    module _ (ops : List (Bytes × Op)) (tried : AllByRecursion (IsOverOne opened past.journal) ops) where
      order : HasDistinctKeys (batch_of old.core.seqno ops) → InOrder opened (past.journal ++ map Wrote (op_entries old.core.seqno ops))
      order distinct = batch_order opened past.journal old.core.seqno ops s.came.order fresh distinct tried

      abbrev IsNamed : Batch → Type 0
      IsNamed b = b.number < 2 ^ 63

      -- the batch is acknowledged
      acked : Leads opened (past.journal ++ map Wrote (op_entries old.core.seqno ops)) past.notes s.log (Batched (batch_of old.core.seqno ops)) old.core new.core new.doubted w w' → new.core.seqno ≡ old.core.seqno + 1
          → (n : ℕ) → n ≡ old.core.seqno → LeadsOn (AddsBatch old.core.seqno ops (Number n) past)
      acked leads drawn n is =
          let next = with_batch (batch_of old.core.seqno ops) past in
          let act : Act = Batched (batch_of old.core.seqno ops) in
          let l = led_by next.journal next.notes act leads (omega (arith, drawn)) (omega (arith, drawn), tt) in
          let journal = ap (λ (t : Saved). t.state.journal) leads.is.tree in
          let small = subst (λ (t : Log). AllByRecursion IsNamed (t.records ++ lost_of t.lost)) leads.acts.rest leads.keeps.small in
          let named = each_right IsNamed s.log.records (batch_of old.core.seqno ops ∷ []) (each_left IsNamed (s.log.records ++ batch_of old.core.seqno ops ∷ []) (lost_of s.log.lost) small) in
          let written = deeds_run opened s.log.tree leads.log.tree (op_entries old.core.seqno ops) leads.acts.writes in (
            next,
            (is, ap (λ m. with_batch (batch_of m ops) past) (sym is)),
            leads_on world reading between image past next old new s (act ∷ []) l
                (past_eq leads.log next journal (ap (λ (t : Saved). t.notes) leads.is.tree) (ap (λ (t : Log). t.reached) leads.acts.rest ∙ ap (λ (j : List Event). length j) journal) (ap (λ (t : Log). t.lost) leads.acts.rest ∙ lost_is))
                (order leads.acts.distinct) (λ known. (written.others ∙ leads.acts.certain.0, ap (λ (t : Log). t.lost) leads.acts.rest ∙ leads.acts.certain.1)) stored named tt rest,
          )

      -- its outcome is unknown
      doubtful : Leads opened past.journal past.notes s.log (BatchLost (batch_of old.core.seqno ops)) old.core new.core new.doubted w w' → new.core.seqno ≡ old.core.seqno + 1 → LeadsOn (AddsBatch old.core.seqno ops (Refused CommitUnknown) past)
      doubtful leads drawn =
          let next = with_lost (batch_of old.core.seqno ops) past in
          let act : Act = BatchLost (batch_of old.core.seqno ops) in
          let l = led_by next.journal next.notes act leads (omega (arith, drawn)) (omega (arith, drawn), tt) in
          let small = subst (λ (t : Log). AllByRecursion IsNamed (t.records ++ lost_of t.lost)) leads.acts.rest leads.keeps.small in
          let named = each_right IsNamed s.log.records (batch_of old.core.seqno ops ∷ []) small in
          let before = ap (λ (p : LogPast). length p.journal) s.came.past_is in (
            next,
            refl,
            leads_on world reading between image past next old new s (act ∷ []) l
                (past_eq leads.log next (ap (λ (t : Saved). t.state.journal) leads.is.tree) (ap (λ (t : Saved). t.notes) leads.is.tree) (ap (λ (t : Log). t.reached) leads.acts.rest ∙ reached_is)
                (ap (λ (t : Log). t.lost) leads.acts.rest ∙ ap (λ k. Some (record { batch = batch_of old.core.seqno ops; place = k })) before))
                s.came.order (λ known. absurd (cc known)) stored named tt rest,
          )

      refused_batch : (x : Error) → WritesLogged ops (Err x) old new → WritesAct ops (Err x) w w' old new → LeadsOn (AddsBatch old.core.seqno ops (Refused x) past)
      refused_batch CommitUnknown takes acts = let a = acts opened past.journal past.notes s.log s.is s.keeps s.next in doubtful (a.unknown refl (order (lost_distinct ops old new takes))) (a.used refl)
      refused_batch x takes acts =
          let a = acts opened past.journal past.notes s.log s.is s.keeps s.next in
          ⊎_elim (λ e. absurd (cc e)) (λ (l : LeadsBy opened past.journal past.notes s.log [] w w' old new). none_done (AddsBatch old.core.seqno ops (Refused x) past) refl l) a.still

      pub batch_leads : (reply : Reply) → TakesBatch ops reply old new → ActsBatch ops reply w w' old new → LeadsOn (AddsBatch old.core.seqno ops reply past)
      batch_leads (Number n) takes acts = let a = acts opened past.journal past.notes s.log s.is s.keeps s.next in acked a.ok a.drawn n a.number
      batch_leads (Refused x) takes acts = refused_batch x takes acts
      batch_leads reply takes acts = absurd acts

    -- ---- a flush

    abbrev flush_acts : ℕ → Action → List Act
    flush_acts watermark action = Did (Marked watermark) ∷ (Did action ∷ (Did (Maintained watermark) ∷ []))

    pub flushed : (ids : List ℕ) (watermark : ℕ) (action : Action) → is_steady action ≡ true → LeadsByCommit watermark action (Install old.core.seqno ∷ []) (FlushedIds ids ∷ []) opened past.journal past.notes s.log w w' old new
        → LeadsOn (λ next. next ≡ with_flushed ids watermark old.core.seqno past)
    flushed ids watermark action steady l =
        let next = with_flushed ids watermark old.core.seqno past in (
          next,
          refl,
          quietly next (flush_acts watermark action) (tt, (tt, (tt, tt))) (refl, (steady, tt)) l refl refl (order_installed opened past.journal s.came.order watermark old.core.seqno fresh)
              (λ known. answered opened s.log (flush_acts watermark action) l.log (tt, (tt, (tt, tt))) l.done (s.came.certain known)),
        )

    installed : (watermark : ℕ) (action : Action) → is_steady action ≡ true → LeadsByCommit watermark action (Install old.core.seqno ∷ []) (FlushedIds (sealed_ids old.core) ∷ []) opened past.journal past.notes s.log w w' old new
        → LeadsOn (λ next. next ≡ with_flush watermark old.core.seqno past)
    installed watermark action steady l =
        let f = flushed (sealed_ids old.core) watermark action steady l in
        (f.0, f.1 ∙ ap (λ ids. with_flushed ids watermark old.core.seqno past) sealed_are, f.2)

    pub unknown : (watermark : ℕ) (action : Action) → LeadsByLost watermark action [] opened past.journal past.notes s.log w w' old new → LeadsOn (λ next. next ≡ with_doubt watermark [] past)
    unknown watermark action l =
        let next = with_doubt watermark [] past in (
          next,
          refl,
          quietly next (Did (Marked watermark) ∷ (CommitLost action l.0 ∷ [])) (tt, (tt, tt)) (refl, tt) l.1 refl refl (order_marked opened past.journal s.came.order watermark) (λ known. absurd (cc known)),
        )

    refused_flush : (watermark : ℕ) (x : Error) → ActsFlush watermark (Refused x) w w' old new → LeadsOn (AddsFlush old.core.seqno watermark (Refused x) past)
    refused_flush watermark CommitUnknown acts = let a = acts opened (logged image) past.journal past.notes s.log s.is s.keeps s.next holds in unknown watermark _ a.1
    refused_flush watermark x acts = none_done (AddsFlush old.core.seqno watermark (Refused x) past) refl (acts opened (logged image) past.journal past.notes s.log s.is s.keeps s.next holds)

    pub flush_leads : (watermark : ℕ) (reply : Reply) → ActsFlush watermark reply w w' old new → LeadsOn (AddsFlush old.core.seqno watermark reply past)
    flush_leads watermark (Flushed None) acts = none_done (AddsFlush old.core.seqno watermark (Flushed None) past) refl (acts opened (logged image) past.journal past.notes s.log s.is s.keeps s.next holds)
    flush_leads watermark (Flushed (Some p)) acts = let a = acts opened (logged image) past.journal past.notes s.log s.is s.keeps s.next holds in installed watermark _ refl a.1
    flush_leads watermark (Refused x) acts = refused_flush watermark x acts
    flush_leads watermark reply acts = absurd acts

    -- ---- a clear

    cleared : LeadsByClear opened past.journal past.notes s.log w w' old new → (next : LogPast) × (next ≡ with_clear old.core.seqno past) × Led world reading between image past next old new
    cleared l =
        let next = with_clear old.core.seqno past in (
          next,
          refl,
          quietly next (Did (clear_of old) ∷ []) (tt, tt) tt l refl refl (order_cleared opened past.journal s.came.order old.core.seqno fresh)
              (λ known. answered opened s.log (Did (clear_of old) ∷ []) l.log (tt, tt) l.done (s.came.certain known)),
        )

    refused_clear : (x : Error) → ActsClear (Refused x) w w' old new → LeadsOn (AddsClear old.core.seqno (Refused x) past)
    refused_clear AfterCommit acts = let r = cleared (acts opened past.journal past.notes s.log s.is s.keeps s.next) in (r.0, r.1, r.2)
    refused_clear CommitUnknown acts =
        let a = acts opened past.journal past.notes s.log s.is s.keeps s.next in
        let next = with_lost_clear old.core.seqno past in (
          next,
          refl,
          quietly next (CommitLost (clear_of old) a.0 ∷ []) (tt, tt) tt a.1 refl refl s.came.order (λ known. absurd (cc known)),
        )
    refused_clear x acts = none_done (AddsClear old.core.seqno (Refused x) past) refl (acts opened past.journal past.notes s.log s.is s.keeps s.next)

    -- its number is what it answers
    clear_number : (n : ℕ) → ClearsLogged (Ok n) old new → n ≡ old.core.seqno
    clear_number n c = by_sure (is_unsure old) refl
      where
        said : (told : Result ℕ Error) → Clears told old.core new.core → IsClearSaid told (Ok n) → n ≡ old.core.seqno
        said (Ok m) clears is = ⊎_elim (λ (e : Ok n ≡ Ok m). let z : n ≡ m = cc e in z ∙ clears.ok.0) (λ e. absurd (cc e)) is
        said (Err x) clears is = absurd (cc is)

        by_sure : (u : Bool) → is_unsure old ≡ u → n ≡ old.core.seqno
        by_sure true is = let z = (c.unsure is).0 in absurd (cc z)
        by_sure false is = let t = c.tree is in said t.told t.clears t.said

    pub clear_leads : (reply : Reply) → TakesClear reply old new → ActsClear reply w w' old new → LeadsOn (AddsClear old.core.seqno reply past)
    clear_leads (Cleared n) takes acts = let r = cleared (acts opened past.journal past.notes s.log s.is s.keeps s.next) in (r.0, (clear_number n takes, r.1 ∙ ap (λ m. with_clear m past) (sym (clear_number n takes))), r.2)
    clear_leads (Refused x) takes acts = refused_clear x acts
    clear_leads reply takes acts = absurd acts
