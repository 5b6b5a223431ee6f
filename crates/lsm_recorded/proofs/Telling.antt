-- After what a call tells of itself, what always holds of a tree with its journal goes on.
use Rattle.std.proofs.Common.{◌≡◌, ℕ, ◌≤◌, false, List, [], ◌∷◌, ◌++◌, fold, refl, sym, ap, ◌∙◌, subst, arith, append-nil, append_assoc}
use Rattle.std.specs.BTreeMap.{BTreeMap}
use Rattle.std.proofs.lemmas.Grind.{fold-append}
use Rattle.std.proofs.lemmas.List.{append_cancel_left}
use Rattle.lsm_below.specs.Keys.{Bytes}
use Rattle.lsm_below.specs.Ranges.{Range}
use Rattle.lsm_below.specs.Entries.{Entry, above, stack, values}
use Rattle.lsm_model.specs.Soundness.{Soundness}
use Rattle.lsm_model.specs.Journal.{Event, InOrder, next_after, sets_after, floor_after, floor, next_number_after, next_number}
use Rattle.lsm_model.specs.Steps.{StaysAt}
use Rattle.lsm_model.specs.Views.{Placed, held}
use Rattle.lsm_model.specs.Beginnings.{shown_by}
use Rattle.lsm_model.specs.declared.journal.JournalEntry.TheVariants.{Write, Clear, Install, Dropped, Mark as Watermark, Read}
use Rattle.lsm_state.specs.Core.{Core, state_of}
use Rattle.lsm_state.specs.CompactionReads.{SparesReads, IsAny, IsAnySnapshot, AreSparedBy}
use Rattle.lsm_model.proofs.Journals.{in_order_push}
use Rattle.lsm_recorded.specs.declared.marks.Mark.{Mark}
use Rattle.lsm_recorded.specs.Marks.{mark_in}
use Rattle.lsm_recorded.specs.Order.{weak_after}
use Rattle.lsm_recorded.specs.Recorded.{AreMarked, IsRecorded, Stays, StaysBehind}
use Rattle.lsm_recorded.proofs.RecordedLemmas.{recorded}

-- marks and dropped ranges, and after them at most an install or a clear under this number
abbrev pub IsTold : ℕ → List Event → Type 0
IsTold n [] = Unit {0}
IsTold n (Watermark w ∷ es) = IsTold n es
IsTold n (Dropped ranges m ∷ es) = IsTold n es
IsTold n (Install m ∷ es) = (m ≡ n) × (es ≡ [])
IsTold n (Clear m ∷ es) = (m ≡ n) × (es ≡ [])
IsTold n (Write e ∷ es) = ⊥
IsTold n (Read at question answer ∷ es) = ⊥

-- what no such event changes stays
quiet : {A : Type 0} (f : A → Event → A) (n : ℕ) (a : A) (es : List Event) → ((b : A) (w : ℕ) → f b (Watermark w) ≡ b) → ((b : A) (ranges : List Range) (m : ℕ) → f b (Dropped ranges m) ≡ b) → ((b : A) (m : ℕ) → f b (Install m) ≡ b) → ((b : A) (m : ℕ) → f b (Clear m) ≡ b) → IsTold n es → fold f a es ≡ a
quiet f n a [] mark drop install clear t = refl
quiet f n a (Watermark w ∷ es) mark drop install clear t = ap (λ b. fold f b es) (mark a w) ∙ quiet f n a es mark drop install clear t
quiet f n a (Dropped ranges m ∷ es) mark drop install clear t = ap (λ b. fold f b es) (drop a ranges m) ∙ quiet f n a es mark drop install clear t
quiet f n a (Install m ∷ es) mark drop install clear t = ap (λ b. fold f b es) (install a m) ∙ ap (fold f a) t.1
quiet f n a (Clear m ∷ es) mark drop install clear t = ap (λ b. fold f b es) (clear a m) ∙ ap (fold f a) t.1
quiet f n a (Write e ∷ es) mark drop install clear t = absurd t
quiet f n a (Read at question answer ∷ es) mark drop install clear t = absurd t

-- ---- the next number

more_after : (a b : ℕ) (x : Event) → a ≤ b → next_number_after a x ≤ next_number_after b x
more_after a b (Write e) h = omega (arith, h)
more_after a b (Clear m) h = omega (arith, h)
more_after a b (Install m) h = omega (arith, h)
more_after a b (Dropped ranges m) h = h
more_after a b (Watermark w) h = h
more_after a b (Read at question answer) h = h

more_behind : (a b : ℕ) (es : List Event) → a ≤ b → fold next_number_after a es ≤ fold next_number_after b es
more_behind a b [] h = h
more_behind a b (x ∷ es) h = more_behind (next_number_after a x) (next_number_after b x) es (more_after a b x h)

module _ (opened : List Placed) (least : ℕ) (marks : BTreeMap Bytes Mark) where
  abbrev first : List Entry
  first = held opened

  -- marks of keys stay
  same_marks : (n : ℕ) (journal es : List Event) (k : Bytes) → IsTold n es → mark_in first (journal ++ es) k ≡ mark_in first journal k
  same_marks n journal es k t =
      let next = fold-append (next_after k) (above (stack k first)) journal es ∙ quiet (next_after k) n (fold (next_after k) (above (stack k first)) journal) es (λ b w. refl) (λ b ranges m. refl) (λ b m. refl) (λ b m. refl) t in
      let sets = fold-append (sets_after k) (values (stack k first)) journal es ∙ quiet (sets_after k) n (fold (sets_after k) (values (stack k first)) journal) es (λ b w. refl) (λ b ranges m. refl) (λ b m. refl) (λ b m. refl) t in
      let weak = fold-append (weak_after k) false journal es ∙ quiet (weak_after k) n (fold (weak_after k) false journal) es (λ b w. refl) (λ b ranges m. refl) (λ b m. refl) (λ b m. refl) t in
      rw (next, sets, weak) refl

  -- the events come in order
  told_in_order : (n : ℕ) (journal es : List Event) → IsTold n es → InOrder first journal → next_number first journal ≤ n → InOrder first (journal ++ es)
  told_in_order n journal [] t order up = subst (InOrder first) (sym (append-nil journal)) order
  told_in_order n journal (Watermark w ∷ es) t order up =
      subst (InOrder first) (append_assoc journal (Watermark w ∷ []) es)
      (told_in_order n (journal ++ Watermark w ∷ []) es t (in_order_push first journal (Watermark w) order tt) (rw (fold-append next_number_after (above first) journal (Watermark w ∷ [])) up))
  told_in_order n journal (Dropped ranges m ∷ es) t order up =
      subst (InOrder first) (append_assoc journal (Dropped ranges m ∷ []) es)
      (told_in_order n (journal ++ Dropped ranges m ∷ []) es t (in_order_push first journal (Dropped ranges m) order tt) (rw (fold-append next_number_after (above first) journal (Dropped ranges m ∷ [])) up))
  told_in_order n journal (Install m ∷ es) t order up = subst (λ l. InOrder first (journal ++ Install m ∷ l)) (sym t.1) (in_order_push first journal (Install m) order (subst (λ x. next_number first journal ≤ x) (sym t.0) up))
  told_in_order n journal (Clear m ∷ es) t order up = subst (λ l. InOrder first (journal ++ Clear m ∷ l)) (sym t.1) (in_order_push first journal (Clear m) order (subst (λ x. next_number first journal ≤ x) (sym t.0) up))
  told_in_order n journal (Write e ∷ es) t order up = absurd t
  told_in_order n journal (Read at question answer ∷ es) t order up = absurd t

  -- and are counted
  told_counted : (n next : ℕ) (journal es : List Event) → next_number first journal ≤ n → fold next_number_after n es ≤ next → next_number first (journal ++ es) ≤ next
  told_counted n next journal es up le =
      let more = more_behind (next_number first journal) n es up in
      rw (fold-append next_number_after (above first) journal es) (omega (arith, more, le))

  pub told_floor : (low low' : ℕ) (journal es : List Event) → low ≡ floor journal → low' ≡ fold floor_after low es → low' ≡ floor (journal ++ es)
  told_floor low low' journal es is follows = follows ∙ ap (λ m. fold floor_after m es) is ∙ sym (fold-append floor_after 0 journal es)

  -- a call that leaves reads right after what it tells keeps what always holds
  pub told_recorded : (theory : Soundness) (IsBefore : List Event → Type 0) (IsSpared : ℕ → Type 0) (es : List Event) (low low' : ℕ) (old new : Core) (journal : List Event) → SparesReads IsBefore es IsSpared old new → IsBefore journal → IsTold old.seqno es → fold next_number_after old.seqno es ≤ new.seqno
      → low' ≡ floor (journal ++ es) → AreMarked (journal ++ es) new → IsRecorded opened least marks low old journal → IsRecorded opened least marks low' new (journal ++ es) × ((s : ℕ) → IsSpared s → StaysAt s (state_of [] old) (state_of [] new))
  told_recorded theory IsBefore IsSpared es low low' old new journal spares before told le floored marked r =
      let order = told_in_order old.seqno journal es told r.order r.counted in (
        recorded opened least theory r.least_is marks low' new (journal ++ es) (spares.right first (shown_by opened) journal before order r.holds)
            (record { order = order; counted = told_counted old.seqno new.seqno journal es r.counted le }) floored
            (λ k. r.noted k ∙ sym (same_marks old.seqno journal es k told)) marked,
        spares.stays first (shown_by opened) journal before order r.holds,
      )

  -- what snapshots see stays that the events spare
  pub stays_told : (journal es : List Event) (old new : Core) → ((s : ℕ) → AreSparedBy es s → StaysAt s (state_of [] old) (state_of [] new)) → StaysBehind journal (journal ++ es) old new
  stays_told journal es old new stays others is s spared = stays s (subst (λ l. AreSparedBy l s) (sym (append_cancel_left journal es others is)) spared)

  -- a call that tells nothing
  pub silent_recorded : (theory : Soundness) (low : ℕ) (old new : Core) (journal : List Event) → SparesReads IsAny [] IsAnySnapshot old new → old.seqno ≤ new.seqno → AreMarked journal new → IsRecorded opened least marks low old journal → IsRecorded opened least marks low new journal × Stays old new
  silent_recorded theory low old new journal spares le marked r =
      let nil = append-nil journal in
      let t = told_recorded theory IsAny IsAnySnapshot [] low low old new journal spares tt tt le (subst (λ j. low ≡ floor j) (sym nil) r.floored) (subst (λ j. AreMarked j new) (sym nil) marked) r in
      (subst (λ j. IsRecorded opened least marks low new j) nil t.0, λ s. t.1 s tt)
