-- What a commit or a clear adds to a journal keeps its order, where its number is past all.
use Rattle.std.proofs.Common.{ℕ, ◌≤◌, List, [], ◌∷◌, ◌++◌, subst, sym, ◌∙◌}
use Rattle.std.proofs.lemmas.Grind.{fold-append}
use Rattle.lsm_below.specs.Entries.{Entry, above}
use Rattle.lsm_below.specs.Ranges.{Range}
use Rattle.lsm_model.specs.Journal.{Event, InOrder, next_number, next_number_after}
use Rattle.lsm_model.specs.declared.journal.JournalEntry.TheVariants.{Clear, Install, Dropped, Mark}
use Rattle.lsm_log_model.proofs.Orders.{order_join}
use Rattle.lsm_log_runs.specs.Adds.{IsDrop}

module _ (opened : List Entry) (journal : List Event) (order : InOrder opened journal) where
  pub order_marked : (w : ℕ) → InOrder opened (journal ++ Mark w ∷ [])
  order_marked w = order_join opened [] journal (Mark w ∷ []) order (tt, tt)

  pub order_cleared : (n : ℕ) → next_number opened journal ≤ n → InOrder opened (journal ++ Clear n ∷ [])
  order_cleared n le = order_join opened [] journal (Clear n ∷ []) order (le, tt)

  pub order_installed : (w n : ℕ) → next_number opened journal ≤ n → InOrder opened (journal ++ Mark w ∷ (Install n ∷ []))
  order_installed w n le =
      let is = fold-append next_number_after (above opened) journal (Mark w ∷ []) in
      order_join opened [] journal (Mark w ∷ (Install n ∷ [])) order (tt, (subst (λ k. k ≤ n) (sym is) le, tt))

  pub order_merged : (n : ℕ) → next_number opened journal ≤ n → InOrder opened (journal ++ Install n ∷ [])
  order_merged n le = order_join opened [] journal (Install n ∷ []) order (le, tt)

  -- a compaction, which may drop
  pub order_dropping : (May : List Range → Type 0) (w n : ℕ) (drop : List Event) → IsDrop May n drop → next_number opened journal ≤ n → InOrder opened (journal ++ Mark w ∷ (drop ++ Install n ∷ []))
  order_dropping May w n [] is le = order_installed w n le
  order_dropping May w n (Dropped ranges m ∷ []) is le =
      let before = journal ++ Mark w ∷ [] in
      let one = fold-append next_number_after (above opened) journal (Mark w ∷ []) in
      let two = fold-append next_number_after (above opened) before (Dropped ranges m ∷ []) in
      order_join opened [] journal (Mark w ∷ (Dropped ranges m ∷ (Install n ∷ []))) order (tt, (tt, (subst (λ k. k ≤ n) (sym (two ∙ one)) le, tt)))
  order_dropping May w n (Dropped ranges m ∷ (x ∷ drop)) is le = absurd is
  order_dropping May w n (x ∷ drop) is le = absurd is

  pub order_lost : (May : List Range → Type 0) (w n : ℕ) (drop : List Event) → IsDrop May n drop → InOrder opened (journal ++ Mark w ∷ drop)
  order_lost May w n [] is = order_marked w
  order_lost May w n (Dropped ranges m ∷ []) is = order_join opened [] journal (Mark w ∷ (Dropped ranges m ∷ [])) order (tt, (tt, tt))
  order_lost May w n (Dropped ranges m ∷ (x ∷ drop)) is = absurd is
  order_lost May w n (x ∷ drop) is = absurd is
