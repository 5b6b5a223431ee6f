-- A batch comes in order under a number that is past all, where no key comes twice and each that it removes weakly was set once at most.
use Rattle.std.proofs.Common.{◌≡◌, ℕ, ◌+◌, ◌≤◌, max, false, cond, ◌&&◌, List, [], ◌∷◌, ◌++◌, map, refl, sym, ap, ◌∙◌, subst, arith}
use Rattle.std.specs.List.{AllByRecursion}
use Rattle.std.proofs.lemmas.Grind.{fold-append}
use Rattle.lsm_below.specs.Each.{each_both}
use Rattle.lsm_below.specs.Entries.{Entry, above, stack, values, is_value}
use Rattle.lsm_below.specs.Keys.{Bytes, is_same}
use Rattle.lsm_below.specs.Orders.{same_swap}
use Rattle.lsm_model.specs.Journal.{Event, InOrder, InOrderFrom, MayWrite, next_number, next_of, next_after, floor, floor_after, sets_of, sets_after}
use Rattle.lsm_model.specs.Ops.{op_entry, op_entries}
use Rattle.lsm_model.specs.Views.{EachPair}
use Rattle.lsm_model.specs.declared.op.Op.{Op}
use Rattle.lsm_model.specs.declared.op.Op.TheVariants.{Set, Del, Weak}
use Rattle.lsm_model.specs.declared.journal.JournalEntry.TheVariants.{Write}
use Rattle.lsm_model.proofs.Journals.{next_of-le, floor-le}
use Rattle.lsm_log_model.proofs.Orders.{order_join}
use Rattle.lsm_log_runs.specs.Trying.{IsOverOne}

module _ (opened : List Entry) (n : ℕ) where
  -- a write that may come
  may_write : (before : List Event) (k : Bytes) (o : Op) → floor before ≤ n → next_of k opened before ≤ n → (o ≡ Weak → sets_of k opened before ≤ 1) → MayWrite opened before (op_entry k n o)
  may_write before k (Set v) low own single = record { after_installs = low; after_own = own; single = λ weak. absurd (cc weak) }
  may_write before k Del low own single = record { after_installs = low; after_own = own; single = λ weak. absurd (cc weak) }
  may_write before k Weak low own single = record { after_installs = low; after_own = own; single = λ weak. single refl }

  -- of another key nothing has changed after it
  same_floor : (before : List Event) (e : Entry) → floor (before ++ Write e ∷ []) ≡ floor before
  same_floor before e = fold-append floor_after 0 before (Write e ∷ [])

  other_key : (k q : Bytes) (o : Op) → is_same k q ≡ false → is_same q (op_entry k n o).key.user_key ≡ false
  other_key k q (Set v) h = same_swap q k ∙ h
  other_key k q Del h = same_swap q k ∙ h
  other_key k q Weak h = same_swap q k ∙ h

  same_next : (before : List Event) (e : Entry) (q : Bytes) → is_same q e.key.user_key ≡ false → next_of q opened (before ++ Write e ∷ []) ≡ next_of q opened before
  same_next before e q h = fold-append (next_after q) (above (stack q opened)) before (Write e ∷ []) ∙ ap (λ b. cond b (max (next_of q opened before) (e.key.seqno + 1)) (next_of q opened before)) h

  same_sets : (before : List Event) (e : Entry) (q : Bytes) → is_same q e.key.user_key ≡ false → sets_of q opened (before ++ Write e ∷ []) ≡ sets_of q opened before
  same_sets before e q h = fold-append (sets_after q) (values (stack q opened)) before (Write e ∷ []) ∙ ap (λ b. cond (b && is_value e) (sets_of q opened before + 1) (sets_of q opened before)) h

  abbrev IsHigh : List Event → (Bytes × Op) → Type 0
  IsHigh before p = next_of p.0 opened before ≤ n

  from : (before : List Event) (ops : List (Bytes × Op)) → floor before ≤ n → AllByRecursion (IsHigh before) ops → AllByRecursion (IsOverOne opened before) ops → EachPair (λ p q. is_same p.0 q.0 ≡ false) ops → InOrderFrom opened before (map Write (op_entries n ops))
  from before [] low high single distinct = tt
  from before (p ∷ ops) low high single distinct =
      let e = op_entry p.0 n p.1 in
      let after = before ++ Write e ∷ [] in (
        may_write before p.0 p.1 low high.0 single.0,
        from after ops
            (subst (λ m. m ≤ n) (sym (same_floor before e)) low)
            (each_both (λ q. is_same p.0 q.0 ≡ false) (IsHigh before) (IsHigh after) (λ q apart h. subst (λ m. m ≤ n) (sym (same_next before e q.0 (other_key p.0 q.0 p.1 apart))) h) ops distinct.0 high.1)
            (each_both (λ q. is_same p.0 q.0 ≡ false) (IsOverOne opened before) (IsOverOne opened after) (λ q apart h weak. subst (λ m. m ≤ 1) (sym (same_sets before e q.0 (other_key p.0 q.0 p.1 apart))) (h weak)) ops distinct.0 single.1)
            distinct.1,
      )

pub batch_order : (opened : List Entry) (journal : List Event) (n : ℕ) (ops : List (Bytes × Op)) → InOrder opened journal → next_number opened journal ≤ n → EachPair (λ p q. is_same p.0 q.0 ≡ false) ops → AllByRecursion (IsOverOne opened journal) ops
    → InOrder opened (journal ++ map Write (op_entries n ops))
batch_order opened journal n ops order le distinct single =
    let low = floor-le opened journal in
    order_join opened [] journal (map Write (op_entries n ops)) order (from opened n journal ops (omega (arith, low, le)) (high ops) single distinct)
  where
    high : (ops : List (Bytes × Op)) → AllByRecursion (λ p. next_of p.0 opened journal ≤ n) ops
    high [] = tt
    high (p ∷ ops) = let own = next_of-le p.0 opened journal in (omega (arith, own, le), high ops)
