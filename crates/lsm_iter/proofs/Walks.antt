-- Entries with their heads, as the code goes over them from both ends.
use Rattle.std.proofs.Common.{◌≡◌, ℕ, Bool, true, false, not, ◌&&◌, ◌||◌, ◌-◌, cond, List, [], ◌∷◌, ◌++◌, length, take, filter, Option, Some, None, MatchOption, refl, sym, ap, ◌∙◌, subst, append_assoc, append-nil}
use Rattle.std.specs.List.{All}
use Rattle.std.specs.declared.cmp.Ordering.TheVariants.{Less}
use Rattle.std.proofs.lemmas.Bool.{and_parts}
use Rattle.std.proofs.lemmas.List.Elements.{All-contains, All-from_recursion, All-nil, All-push, All-weaker, Contains-push}
use Rattle.lsm_below.specs.Entries.{Entry, entry_cmp}
use Rattle.lsm_below.specs.Sorted.{Rises}
use Rattle.lsm_below.specs.Slots.{same_key, firsts}
use Rattle.lsm_iter.specs.Reads.{at}
use Rattle.lsm_iter.specs.Left.{tops, end_item, last_item, Takes}
use Rattle.lsm_iter.specs.Cursors.{repeats, firsts_after}
use Rattle.lsm_iter.specs.Trims.{IsTrimmed, RisesTrimmed, Trims, counts, hides}
use Rattle.lsm_iter.specs.declared.tree_iter.End.TheVariants.{Front, Back}
use Rattle.lsm_iter.proofs.Tops.{apart_before, before_last, filter_yes, filter_no, first_counts, last_is, tops_repeat, tops_hidden, tops_ends, tops_last, trimmed_front, trimmed_back}
use Rattle.lsm_iter.proofs.Rises.{rises_left, rises_right}
use Rattle.lsm_iter.proofs.Trims.{takes_front, takes_back}

-- ---- from the front

module _ (s : ℕ) (p : Option Entry) (e : Entry) (es : List Entry) where
  -- an entry that isn't left is passed
  pub front_step : (counts s e && not (repeats p e)) ≡ false → firsts_after p (filter (counts s) es) ≡ firsts_after p (filter (counts s) (e ∷ es))
  front_step h = go p (counts s e) refl h
    where
      go : (p : Option Entry) (b : Bool) → counts s e ≡ b → (b && not (repeats p e)) ≡ false → firsts_after p (filter (counts s) es) ≡ firsts_after p (filter (counts s) (e ∷ es))
      go p false hidden h = ap (firsts_after p) (sym (filter_no s e es hidden))
      go None true counted h = absurd (cc h)
      go (Some l) true counted h = again (same_key l e) refl h
        where
          again : (b : Bool) → same_key l e ≡ b → (true && not b) ≡ false → firsts_after (Some l) (filter (counts s) es) ≡ firsts_after (Some l) (filter (counts s) (e ∷ es))
          again true same h = sym (ap (firsts_after (Some l)) (filter_yes s e es counted) ∙ ap (λ b. cond b (firsts_after (Some l) (filter (counts s) es)) (firsts (e ∷ filter (counts s) es))) same)
          again false same h = absurd (cc h)

-- ---- from the back

-- the last entry, and those before it
pub seen_back : (s : List Entry) (o : Option Entry) → MatchOption o (s ≡ []) (λ h. s ≡ take (length s - 1) s ++ h ∷ []) → Takes Back s o (take (length s - 1) s)
seen_back s None none = (none, ap (λ l. take (length l - 1) l) none)
seen_back s (Some e) is = is

-- what is seen at the back
pub back_is : (s : List Entry) (o : Option Entry) → MatchOption o (s ≡ []) (λ h. s ≡ take (length s - 1) s ++ h ∷ []) → o ≡ end_item Back s
back_is s None none = sym (ap last_item none)
back_is s (Some e) is = sym (last_is s (take (length s - 1) s) e is)

-- an entry that isn't left is passed
pub back_step : (s : ℕ) (rest front more : List Entry) (x : Entry) (before : Option Entry) → rest ≡ front ++ x ∷ [] → Takes Back front before more → (not (counts s x) || hides s (before) x) ≡ true → tops (at s front) ≡ tops (at s rest)
back_step s rest front more x before is taken h = go before taken (counts s x) refl h ∙ ap (λ l. tops (at s l)) (sym is)
  where
    go : (o : Option Entry) → Takes Back front o more → (b : Bool) → counts s x ≡ b → (not b || hides s (o) x) ≡ true → tops (at s front) ≡ tops (at s (front ++ x ∷ []))
    go o taken false hidden h = sym (tops_hidden s front x hidden)
    go None taken true counted h = absurd (cc h)
    go (Some g) taken true counted h =
        let parts = and_parts (counts s g) (same_key g x) h in
        ap (λ l. tops (at s l)) taken ∙ sym (tops_repeat s more g x parts.0 counted parts.1) ∙ ap (λ l. tops (at s (l ++ x ∷ []))) (sym taken)

-- all that count before the last entry have other keys, where the one before it doesn't hide it
apart_from_last : (s : ℕ) (front more : List Entry) (x : Entry) (before : Option Entry) → Rises entry_cmp (front ++ x ∷ []) → Takes Back front before more → hides s (before) x ≡ false → All (λ f. counts s f ≡ true → same_key f x ≡ false) front
apart_from_last s front more x None rises taken h = subst (All (λ f. counts s f ≡ true → same_key f x ≡ false)) (sym taken.0) (All-nil (λ f. counts s f ≡ true → same_key f x ≡ false))
apart_from_last s front more x (Some b) rises taken h =
    let g = b in
    let P : Entry → Type 0 = λ f. counts s f ≡ true → same_key f x ≡ false in
    let order : Rises entry_cmp ((more ++ g ∷ []) ++ x ∷ []) = subst (λ l. Rises entry_cmp (l ++ x ∷ [])) taken rises in
    let below : All (λ e. entry_cmp e x ≡ Less) (more ++ g ∷ []) = All-from_recursion (λ e. entry_cmp e x ≡ Less) (more ++ g ∷ []) (before_last (more ++ g ∷ []) x order) in
    let next : entry_cmp g x ≡ Less = All-contains (λ e. entry_cmp e x ≡ Less) (more ++ g ∷ []) g below (Contains-push more g) in
    let others : All (λ e. entry_cmp e g ≡ Less) more = All-from_recursion (λ e. entry_cmp e g ≡ Less) more (before_last more g (rises_left entry_cmp (more ++ g ∷ []) (x ∷ []) order)) in
    subst (All P) (sym taken)
    (All-push P more g (All-weaker (λ e. entry_cmp e g ≡ Less) P (λ e less counted. apart_before s e g x less next h counted) more others) (λ counted. sym (ap (λ b. b && same_key g x) counted) ∙ h))

-- one that is left stands at the end
pub back_end : (s : ℕ) (rest front more : List Entry) (x : Entry) (before : Option Entry) → rest ≡ front ++ x ∷ [] → Rises entry_cmp rest → Takes Back front before more → (not (counts s x) || hides s (before) x) ≡ false → end_item Back (tops (at s rest)) ≡ end_item Back rest
back_end s rest front more x before is rises taken h = go (counts s x) refl h
  where
    go : (b : Bool) → counts s x ≡ b → (not b || hides s (before) x) ≡ false → last_item (tops (at s rest)) ≡ last_item rest
    go false hidden h = absurd (cc h)
    go true counted h =
        ap (λ l. last_item (tops (at s l))) is ∙ tops_ends s front x counted (apart_from_last s front more x before (subst (Rises entry_cmp) is rises) taken h) ∙ sym (last_is rest front x is)

-- one more was passed
pub passed_more : (all rest behind gone : List Entry) (e : Entry) → all ≡ gone ++ rest → rest ≡ e ∷ behind → all ≡ (gone ++ e ∷ []) ++ behind
passed_more all rest behind gone e is next = is ∙ ap (λ l. gone ++ l) next ∙ sym (append_assoc gone (e ∷ []) behind)

pub dropped_more : (all rest front gone : List Entry) (e : Entry) → all ≡ rest ++ gone → rest ≡ front ++ e ∷ [] → all ≡ front ++ (e ∷ gone)
dropped_more all rest front gone e is next = is ∙ ap (λ l. l ++ gone) next ∙ append_assoc front (e ∷ []) gone

-- ---- steps

-- without the first entry's key, and what doesn't count after it
pub past_first : (s : ℕ) (es behind front rest : List Entry) (e : Entry) → es ≡ e ∷ behind → behind ≡ front ++ rest → RisesTrimmed s es → tops (at s rest) ≡ firsts_after (Some e) (filter (counts s) behind) → end_item Front (tops (at s rest)) ≡ end_item Front rest
    → Takes Front (tops (at s es)) (end_item Front (tops (at s es))) (tops (at s rest)) × RisesTrimmed s rest
past_first s es behind front rest e is passed was same ends =
    let counted : counts s e ≡ true = first_counts s es e (was.trimmed Front ∙ ap (end_item Front) is) in
    let taken : tops (at s es) ≡ e ∷ tops (at s rest) = ap (λ l. tops (at s l)) is ∙ ap firsts (filter_yes s e behind counted) ∙ ap (λ l. e ∷ l) (sym same) in (
      takes_front (tops (at s es)) (tops (at s rest)) e taken,
      record {
        rises = rises_right entry_cmp front rest (subst (Rises entry_cmp) passed (subst (Rises entry_cmp) is was.rises).1);
        trimmed = trimmed_front s es (e ∷ front) rest (e ∷ []) (is ∙ ap (λ l. e ∷ l) passed) taken was.trimmed ends;
      },
    )

-- without the last entry, and what isn't left then
pub past_last : (s : ℕ) (es front rest back : List Entry) (x : Entry) → es ≡ front ++ x ∷ [] → front ≡ rest ++ back → RisesTrimmed s es → Trims Back s front rest
    → Takes Back (tops (at s es)) (end_item Back (tops (at s es))) (tops (at s rest)) × RisesTrimmed s rest
past_last s es front rest back x is passed was trims =
    let taken : tops (at s es) ≡ tops (at s rest) ++ x ∷ [] = tops_last s es front x is was.rises was.trimmed ∙ ap (λ l. l ++ x ∷ []) (sym trims.same) in (
      takes_back (tops (at s es)) (tops (at s rest)) x taken,
      record {
        rises = rises_left entry_cmp rest back (subst (Rises entry_cmp) passed (rises_left entry_cmp front (x ∷ []) (subst (Rises entry_cmp) is was.rises)));
        trimmed = trimmed_back s es (back ++ x ∷ []) rest (x ∷ []) (is ∙ ap (λ l. l ++ x ∷ []) passed ∙ append_assoc rest back (x ∷ [])) taken (was.trimmed Front) trims.ends;
      },
    )

-- both ends trimmed, one after the other
pub both_trimmed : (s : ℕ) (all front rest back : List Entry) → tops (at s front) ≡ tops (at s all) → end_item Front (tops (at s front)) ≡ end_item Front front → front ≡ rest ++ back → Trims Back s front rest → (tops (at s rest) ≡ tops (at s all)) × IsTrimmed s rest
both_trimmed s all front rest back same begins passed trims = (
  trims.same ∙ same,
  trimmed_back s front back rest [] passed (sym trims.same ∙ sym (append-nil (tops (at s rest)))) begins trims.ends,
)
