-- A batch on its way into a journal.
use Rattle.std.proofs.Common.{◌≡◌, ℕ, ◌+◌, Bool, true, false, ◌&&◌, List, [], ◌∷◌, nat_lt, nat_le, refl, sym, ap, ◌∙◌, arith, lt-ltb, Result, Ok, Err, IsErrOf, ◌↔◌}
use Rattle.std.specs.List.{list_all}
use Rattle.lsm_below.specs.Keys.{Bytes}
use Rattle.lsm_below.specs.Entries.{Entry}
use Rattle.lsm_below.specs.declared.error.Error.{Error}
use Rattle.lsm_below.specs.declared.error.Error.TheVariants.{OutOfMemory, OutOfOrder}
use Rattle.lsm_model.specs.Journal.{Event, floor}
use Rattle.lsm_model.specs.Ops.{op_entry}
use Rattle.lsm_model.specs.declared.op.Op.{Op}
use Rattle.lsm_model.specs.declared.op.Op.TheVariants.{Set, Del, Weak}
use Rattle.lsm_recorded.specs.declared.marks.Mark.{Mark}
use Rattle.lsm_recorded.specs.Marks.{mark_in, mark_allows, mark_tells_order, op_type, op_allowed}
use Rattle.lsm_recorded.specs.Order.{keeps_order, batch_keeps_order}
use Rattle.lsm_recorded.proofs.MarksLemmas.{order_told}

-- ---- the test of order

pub both_true : (a b : Bool) → a ≡ true → b ≡ true → (a && b) ≡ true
both_true true b p q = q
both_true false b p q = absurd (cc p)

-- what isn't refused as out of order is in order
in_order_unless : (b : Bool) → (b ≡ false → ⊥) → b ≡ true
in_order_unless true h = refl
in_order_unless false h = absurd (h refl)

pub not_refused : {A : Type 0} {x : A} (r : Result A Error) (b : Bool) → r ≡ Ok x → (IsErrOf r OutOfOrder ↔ (b ≡ false)) → b ≡ true
not_refused {A} {x} r b is told = in_order_unless b (λ q. let e : r ≡ Err OutOfOrder = told.1 q in cc (is, e))

pub not_refused_short : {A : Type 0} (r : Result A Error) (b : Bool) → r ≡ Err OutOfMemory → (IsErrOf r OutOfOrder ↔ (b ≡ false)) → b ≡ true
not_refused_short {A} r b is told = in_order_unless b (λ q. let e : r ≡ Err OutOfOrder = told.1 q in cc (is, e))

module _ (opened : List Entry) (journal : List Event) (n : ℕ) where
  below : nat_lt n (n + 1) ≡ true
  below = lt-ltb n (n + 1) (omega arith)

  -- a write under the counter's sequence number
  one : (marks : Bytes → Mark) (low : ℕ) (k : Bytes) (op : Op) → ((q : Bytes) → marks q ≡ mark_in opened journal q) → low ≡ floor journal → op_allowed marks low n (k, op) ≡ keeps_order opened journal (n + 1) (op_entry k n op)
  one marks low k op same least =
      ap (λ m. nat_le low n && mark_allows m n (op_type op)) (same k) ∙ ap (λ l. nat_le l n && mark_allows (mark_in opened journal k) n (op_type op)) least ∙ ap (λ b. b && nat_le (floor journal) n && mark_allows (mark_in opened journal k) n (op_type op)) (sym below) ∙ typed op ∙ sym (order_told opened journal (n + 1) (op_entry k n op))
    where
      typed : (op : Op) → (nat_lt n (n + 1) && nat_le (floor journal) n && mark_allows (mark_in opened journal k) n (op_type op)) ≡ mark_tells_order opened journal (n + 1) (op_entry k n op)
      typed (Set value) = refl
      typed Del = refl
      typed Weak = refl

  pub allowed_order : (marks : Bytes → Mark) (low : ℕ) (ops : List (Bytes × Op)) → ((q : Bytes) → marks q ≡ mark_in opened journal q) → low ≡ floor journal → list_all (op_allowed marks low n) ops ≡ batch_keeps_order opened journal n ops
  allowed_order marks low [] same least = refl
  allowed_order marks low (p ∷ ops) same least =
      ap (λ b. b && list_all (op_allowed marks low n) ops) (one marks low p.0 p.1 same least) ∙ ap (λ b. keeps_order opened journal (n + 1) (op_entry p.0 n p.1) && b) (allowed_order marks low ops same least)

-- ---- entries

pub key_is : (k : Bytes) (n : ℕ) (op : Op) → (op_entry k n op).key.user_key ≡ k
key_is k n (Set value) = refl
key_is k n Del = refl
key_is k n Weak = refl

pub seqno_is : (k : Bytes) (n : ℕ) (op : Op) → (op_entry k n op).key.seqno ≡ n
seqno_is k n (Set value) = refl
seqno_is k n Del = refl
seqno_is k n Weak = refl
