-- Writes on their way into a tree, the marks and a journal.
use Rattle.std.proofs.Common.{cond, ◌≡◌, ℕ, ◌<◌, ◌≤◌, Bool, true, false, ◌&&◌, nat_le, List, [], ◌∷◌, ◌++◌, suc, length, length-append, Result, Err, IsErrOf, OnErr, Ok, ◌↔◌, inl, inr, refl, sym, ap, subst, ◌∙◌, arith}
use Rattle.std.specs.List.{list_all}
use Rattle.std.proofs.lemmas.Bool.Decides.{nat_tests}
use Rattle.lsm_below.specs.Keys.{Bytes}
use Rattle.lsm_below.specs.Entries.{Entry}
use Rattle.lsm_below.specs.declared.error.Error.{Error}
use Rattle.lsm_below.specs.declared.error.Error.TheVariants.{OutOfMemory, OutOfOrder}
use Rattle.lsm_model.specs.Ops.{op_entry}
use Rattle.lsm_model.specs.declared.journal.JournalEntry.{JournalEntry}
use Rattle.lsm_model.specs.declared.op.Op.{Op}
use Rattle.lsm_model.specs.declared.op.Op.TheVariants.{Set, Del, Weak}
use Rattle.lsm_recorded.specs.declared.marks.Mark.{Mark}
use Rattle.lsm_recorded.specs.Marks.{mark_allows, op_type, op_allowed}
use Rattle.lsm_recorded.specs.Passes.{Notes}
use Rattle.lsm_recorded.specs.Recorded.{OwnOr}
use Rattle.lsm_iter.proofs.Prefixes.{and_true}

-- ---- refusals

pub on_err : {A E : Type 0} {P : Type 0} (r : Result A E) → P → OnErr r P
on_err (Ok x) p = tt
on_err (Err e) p = p

-- a key for which there was no memory
pub own_by : {A : Type 0} (r : Result A Error) (e : Error) (b : Bool) (P : Type 0) → r ≡ Err e → e ≡ cond b OutOfMemory OutOfOrder → OwnOr r P
own_by r e true P is told = inr (inl (is ∙ ap Err told))
own_by r e false P is told = inl (is ∙ ap Err told)

pub refused_told : {A : Type 0} (r : Result A Error) (e : Error) (b a : Bool) → r ≡ Err e → e ≡ cond b OutOfMemory OutOfOrder → a ≡ b → (IsErrOf r OutOfOrder ↔ (a ≡ false))
refused_told r e true a is told same = (λ q. absurd (cc (is, told, q)), λ q. absurd (cc (same, q)))
refused_told r e false a is told same = (λ q. same, λ q. is ∙ ap Err told)

-- a refusal that is handed on
pub refusal_handed : {A B P : Type 0} (r : Result A Error) (s : Result B Error) (e x : Error) → r ≡ Err e → s ≡ Err e → (IsErrOf r x ↔ P) → (IsErrOf s x ↔ P)
refusal_handed r s e x was is told = (λ h. let same : e ≡ x = cc (is, h) in told.0 (was ∙ ap Err same), λ p. let h = told.1 p in let same : e ≡ x = cc (was, h) in is ∙ ap Err same)

-- an answer refuses nothing
pub answer_told : {A B P : Type 0} (r : Result A Error) (s : Result B Error) (a : A) (b : B) (x : Error) → r ≡ Ok a → s ≡ Ok b → (IsErrOf r x ↔ P) → (IsErrOf s x ↔ P)
answer_told r s a b x was is told = (λ h. absurd (cc (is, h)), λ p. let h = told.1 p in absurd (cc (was, h)))

-- ---- an entry that is shared

-- what is put into both lists, in which there was made room, is noted in both
pub both_noted : (e note copy : JournalEntry) (journal room journal' : List JournalEntry) (pass wide pass' : List (ℕ × JournalEntry)) → note ≡ e → copy ≡ note → room ≡ journal → wide ≡ pass
    → journal' ≡ room ++ note ∷ [] → pass' ≡ wide ++ (length room, copy) ∷ [] → Notes (e ∷ []) journal journal' pass pass'
both_noted e note copy journal room journal' pass wide pass' is copied same still put passed = record {
  behind = put ∙ ap (λ (l : List JournalEntry). l ++ note ∷ []) same ∙ ap (λ (x : JournalEntry). journal ++ x ∷ []) is;
  passed = passed ∙ ap (λ (l : List (ℕ × JournalEntry)). l ++ (length room, copy) ∷ []) still ∙ ap (λ (l : List JournalEntry). pass ++ (length l, copy) ∷ []) same
      ∙ ap (λ (x : JournalEntry). pass ++ (length journal, x) ∷ []) (copied ∙ is);
}

-- ---- a batch of one

-- the last of a batch of one is all of it
pub popped_one : (ops rest : List (Bytes × Op)) (p : Bytes × Op) → ops ≡ rest ++ p ∷ [] → length ops ≡ 1 → ops ≡ p ∷ []
popped_one ops [] p is one = is
popped_one ops (x ∷ rest) p is one =
    let long : length ops ≡ suc (length (rest ++ p ∷ [])) = ap (λ l. length l) is in
    let more = length-append rest (p ∷ []) in
    absurd (omega arith)

floor_false : (low n : ℕ) → n < low → nat_le low n ≡ false
floor_false low n below = grind (arith, nat_tests)

floor_true : (low n : ℕ) → low ≤ n → nat_le low n ≡ true
floor_true low n up = grind (arith, nat_tests)

pub floor_refuses : (marks : Bytes → Mark) (low n : ℕ) (ops : List (Bytes × Op)) → length ops ≡ 1 → n < low → list_all (op_allowed marks low n) ops ≡ false
floor_refuses marks low n [] one below = absurd (omega arith)
floor_refuses marks low n (p ∷ ops) one below = ap (λ b. (b && mark_allows (marks p.0) n (op_type p.1)) && list_all (op_allowed marks low n) ops) (floor_false low n below)

-- its order is that of the mark of its entry
entry_allows : (marks : Bytes → Mark) (low n : ℕ) (ops : List (Bytes × Op)) (k : Bytes) (op : Op) (e : Entry) → ops ≡ (k, op) ∷ [] → e ≡ op_entry k n op → low ≤ n
    → list_all (op_allowed marks low n) ops ≡ mark_allows (marks e.key.user_key) e.key.seqno e.key.value_type
entry_allows marks low n ops k op e one is up =
    ap (list_all (op_allowed marks low n)) one ∙ and_true (op_allowed marks low n (k, op)) ∙ ap (λ b. b && mark_allows (marks k) n (op_type op)) (floor_true low n up)
    ∙ by_type op ∙ ap (λ (x : Entry). mark_allows (marks x.key.user_key) x.key.seqno x.key.value_type) (sym is)
  where
    by_type : (op : Op) → mark_allows (marks k) n (op_type op) ≡ mark_allows (marks (op_entry k n op).key.user_key) (op_entry k n op).key.seqno (op_entry k n op).key.value_type
    by_type (Set value) = refl
    by_type Del = refl
    by_type Weak = refl

pub one_told : {A : Type 0} (r : Result A Error) (marks : Bytes → Mark) (low n m : ℕ) (ops : List (Bytes × Op)) (k : Bytes) (op : Op) (e : Entry) → m ≡ n → ops ≡ (k, op) ∷ [] → e ≡ op_entry k n op → low ≤ m
    → (IsErrOf r OutOfOrder ↔ (mark_allows (marks e.key.user_key) e.key.seqno e.key.value_type ≡ false)) → (IsErrOf r OutOfOrder ↔ (list_all (op_allowed marks low n) ops ≡ false))
one_told r marks low n m ops k op e first one is up told =
    subst (λ b. IsErrOf r OutOfOrder ↔ (b ≡ false)) (sym (entry_allows marks low n ops k op e one is (subst (λ x. low ≤ x) first up))) told

-- it has the sequence number that it was made with
pub op_number : (k : Bytes) (n : ℕ) (op : Op) → (op_entry k n op).key.seqno ≡ n
op_number k n (Set value) = refl
op_number k n Del = refl
op_number k n Weak = refl
