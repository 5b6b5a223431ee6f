-- A batch of one, whose entry is made already.
use Rattle.std.proofs.Common.{◌≡◌, ◌⊎◌, inl, ℕ, ◌+◌, max, ◌<◌, Bool, true, false, cond, ◌||◌, [], ◌∷◌, ◌++◌, Option, Some, None, Result, Ok, Err, IfSome, refl, sym, ap, ◌∙◌, subst, arith}
use Rattle.std.proofs.lemmas.Bool.Decides.{nat_tests}
use Rattle.lsm_below.specs.Keys.{Bytes}
use Rattle.lsm_below.specs.Entries.{Entry, plain}
use Rattle.lsm_below.specs.declared.error.Error.{Error}
use Rattle.lsm_below.specs.declared.error.Error.TheVariants.{OutOfMemory, OutOfNumbers, KeyTooLong, ValueTooLong, NumberTooGreat}
use Rattle.lsm_model.specs.Ops.{op_entry}
use Rattle.lsm_model.specs.declared.op.Op.{Op}
use Rattle.lsm_model.specs.declared.op.Op.TheVariants.{Set, Del, Weak}
use Rattle.lsm_model.specs.declared.journal.JournalEntry.TheVariants.{Write}
use Rattle.lsm_parts.specs.Held.{put_first, put_all_first}
use Rattle.lsm_state.specs.Core.{Core, state_of, drawn_core}
use Rattle.lsm_state.specs.Calls.{Appends, WritesBatch}
use Rattle.lsm_state.specs.Refusals.{is_great, is_long_key, is_long_value, entry_refusal, batch_refusal}

-- the entry of a write is plain
pub op_plain : (k : Bytes) (n : ℕ) (op : Op) → plain (op_entry k n op) ≡ op_entry k n op
op_plain k n (Set value) = refl
op_plain k n Del = refl
op_plain k n Weak = refl

-- ---- why it is refused

or_false : (b : Bool) → (b || false) ≡ b
or_false true = refl
or_false false = refl

not_great : (n : ℕ) → n < 9223372036854775808 → is_great n ≡ false
not_great n small = grind (arith, nat_tests)

refusals : (k v : Bytes) (n : ℕ) → is_great n ≡ false
    → cond (is_great n) (Some OutOfNumbers) (cond (is_long_key k || false) (Some KeyTooLong) (cond (is_long_value v || false) (Some ValueTooLong) None))
    ≡ cond (is_long_key k) (Some KeyTooLong) (cond (is_long_value v) (Some ValueTooLong) (cond (is_great n) (Some NumberTooGreat) None))
refusals k v n small = rw (small, or_false (is_long_key k), or_false (is_long_value v)) refl

one_refusal : (k : Bytes) (n : ℕ) (op : Op) → n < 9223372036854775808 → batch_refusal n ((k, op) ∷ []) ≡ entry_refusal (op_entry k n op)
one_refusal k n (Set value) small = refusals k value n (not_great n small)
one_refusal k n Del small = refusals k [] n (not_great n small)
one_refusal k n Weak small = refusals k [] n (not_great n small)

none_told : {A B : Type 0} (a : A) (b : B) (o : Option Error) → IfSome o (λ x. ◌≡◌ {A = Result A Error} (Ok a) (Err x)) → IfSome o (λ x. (◌≡◌ {A = Result B Error} (Ok b) (Err x)) ⊎ (◌≡◌ {A = Result B Error} (Ok b) (Err OutOfMemory)))
none_told a b None h = tt
none_told a b (Some x) h = absurd (cc h)

same_told : (A B : Type 0) (e : Error) (o : Option Error) → IfSome o (λ x. ◌≡◌ {A = Result A Error} (Err e) (Err x)) → IfSome o (λ x. (◌≡◌ {A = Result B Error} (Err e) (Err x)) ⊎ (◌≡◌ {A = Result B Error} (Err e) (Err OutOfMemory)))
same_told A B e None h = tt
same_told A B e (Some x) h = let same : e ≡ x = cc h in inl (ap Err same)

-- ---- what it does

one_put : (e : Entry) (c : Core) → put_first e c.memtables ≡ put_all_first (e ∷ []) c.memtables
one_put e c = elim c.memtables as (λ tables. put_first e tables ≡ put_all_first (e ∷ []) tables) [ [] ↦ refl | t ∷ tables ↦ refl ]

module _ (k : Bytes) (op : Op) (e : Entry) (old : Core) (is : e ≡ op_entry k old.seqno op) where
  abbrev made : Entry
  made = op_entry k old.seqno op

  same : plain e ≡ made
  same = ap plain is ∙ op_plain k old.seqno op

  -- answered, whatever the counters are set to in the end
  pub put_done : (n s v : ℕ) (sizes : ℕ × ℕ) (mid : Core) → n ≡ old.seqno → n < 9223372036854775808 → Appends (plain e) (Ok sizes) old mid → s ≡ n + 1 → v ≡ max mid.visible_seqno (n + 1) → WritesBatch ((k, op) ∷ []) (Ok n) old (record mid { seqno = s; visible_seqno = v })
  put_done n s v sizes mid first small appends next visible =
      let a : Appends made (Ok sizes) old mid = subst (λ x. Appends x (Ok sizes) old mid) same appends in
      let new : Core = record mid { seqno = s; visible_seqno = v } in
      let below : old.seqno < 9223372036854775808 = subst (λ m. m < 9223372036854775808) first small in
      let counted : n + 1 ≡ mid.seqno + 1 = ap (λ m. m + 1) (first ∙ sym (ap (λ (c : Core). c.seqno) a.core)) in
      let drawn : new ≡ drawn_core mid = ap (λ m. record mid { seqno = m; visible_seqno = v }) (next ∙ counted) ∙ ap (λ m. record mid { seqno = mid.seqno + 1; visible_seqno = m }) (visible ∙ ap (λ m. max mid.visible_seqno m) counted) in
      record {
        number = first;
        core = drawn ∙ ap drawn_core (a.core ∙ ap (λ m. record old { memtables = m }) (one_put made old));
        run = λ opened journal. (
          state_of (journal ++ Write made ∷ []) new,
          a.step opened journal,
          refl,
        );
        unchanged = tt;
        told = subst (λ o. IfSome o (λ x. (◌≡◌ {A = Result ℕ Error} (Ok n) (Err x)) ⊎ (◌≡◌ {A = Result ℕ Error} (Ok n) (Err OutOfMemory)))) (sym (one_refusal k old.seqno op below)) (none_told sizes n (entry_refusal made) a.told);
        memory = λ none. tt;
      }

  pub put_refused : (x : Error) (new : Core) → old.seqno < 9223372036854775808 → Appends (plain e) (Err x) old new → WritesBatch ((k, op) ∷ []) (Err x) old new
  put_refused x new small appends =
      let a : Appends made (Err x) old new = subst (λ y. Appends y (Err x) old new) same appends in
      record {
        number = tt;
        core = tt;
        run = tt;
        unchanged = a.unchanged;
        told = subst (λ o. IfSome o (λ y. (◌≡◌ {A = Result ℕ Error} (Err x) (Err y)) ⊎ (◌≡◌ {A = Result ℕ Error} (Err x) (Err OutOfMemory)))) (sym (one_refusal k old.seqno op small)) (same_told (ℕ × ℕ) ℕ x (entry_refusal made) a.told);
        memory = λ none. a.memory (sym (one_refusal k old.seqno op small) ∙ none);
      }
