use Rattle.std.proofs.Common.{◌≡◌, ◌++◌, ◌∷◌, [], ◌+◌, ◌<◌, max, Ok, Err, refl, ap, sym, subst, ◌∙◌, map, option_to_list, inr, arith}
use Rattle.std.proofs.lemmas.Result.{err_from_is_err_and}
use Rattle.lsm_below.specs.Keys.{Bytes}
use Rattle.lsm_below.specs.Entries.{Entry, plain}
use Rattle.lsm_below.specs.declared.error.Error.TheVariants.{OutOfOrder}
use Rattle.lsm_model.specs.Ops.{op_entry, op_entries}
use Rattle.lsm_model.specs.declared.journal.JournalEntry.TheVariants.{Write}
use Rattle.lsm_state.specs.Calls.{Appends, WritesBatch}
use Rattle.lsm_recorded.specs.Marks.{mark_of, marked_by, marked_all}
use Rattle.lsm_recorded.specs.Passes.{Notes}
use Rattle.lsm_recorded.proofs.OwnOr.{own_or-handed, own_or-answered}
use Rattle.lsm_recorded.proofs.Putting.{op_plain, put_done, put_refused}
use Rattle.lsm_recorded.proofs.WritesLemmas.{floor_refuses, popped_one, one_told, op_number, refusal_handed, answer_told}
use Rattle.lsm_recorded.proofs.writes.write_one.Given.{Over}
use Rattle.lsm_recorded.proofs.writes.write_one.Goals as goal

pub returns-then-number-floor-clause-out_of_order : goal.returns-then-number-floor-clause-out_of_order
returns-then-number-floor-clause-out_of_order g c =
    let a = c.get-number.ensures in
    let b = c.seqno.ensures in
    (λ told. floor_refuses (mark_of c.args.marks.now) c.args.floor c.args.core.now.core.seqno c.args.ops.items c.requires (omega arith), λ refused. refl)

-- where it is answered: the one write of the batch, whose entry is made under the next number
module _ (g : Over) (c : goal.After-drop-ops-2 g) where
  first : c.get-number.result ≡ c.args.core.now.core.seqno
  first = c.get-number.ensures ∙ c.seqno.ensures

  taken : c.args.ops.items ≡ (c.in-Some.key, c.in-Some.op) ∷ []
  taken = popped_one c.args.ops.items c.pop.new.self.items (c.in-Some.key, c.in-Some.op) (c.pop.ensures.items ∙ ap (λ o. c.pop.new.self.items ++ option_to_list o) c.in-Some.is) c.requires

  made : c.house-entry.result ≡ op_entry c.in-Some.key c.args.core.now.core.seqno c.in-Some.op
  made = c.house-entry.ensures.same ∙ c.into_entry.ensures ∙ ap (λ m. op_entry c.in-Some.key m c.in-Some.op) first

-- the same where it is refused
module _ (g : Over) (c : goal.After-drop-ops-in_err-append_at_mark g) where
  next : c.get-number.result ≡ c.args.core.now.core.seqno
  next = c.get-number.ensures ∙ c.seqno.ensures

  alone : c.args.ops.items ≡ (c.in-Some.key, c.in-Some.op) ∷ []
  alone = popped_one c.args.ops.items c.pop.new.self.items (c.in-Some.key, c.in-Some.op) (c.pop.ensures.items ∙ ap (λ o. c.pop.new.self.items ++ option_to_list o) c.in-Some.is) c.requires

  entry : c.house-entry.result ≡ op_entry c.in-Some.key c.args.core.now.core.seqno c.in-Some.op
  entry = c.house-entry.ensures.same ∙ c.into_entry.ensures ∙ ap (λ m. op_entry c.in-Some.key m c.in-Some.op) next

pub append_at_mark-requires : goal.append_at_mark-requires
append_at_mark-requires g c =
    let number : c.house-entry.result.key.seqno ≡ c.get-number.result = ap (λ (e : Entry). e.key.seqno) (c.house-entry.ensures.same ∙ c.into_entry.ensures) ∙ op_number c.in-Some.key c.get-number.result c.in-Some.op in
    let small = c.if-number-ge-LIMIT.false in
    omega arith

pub returns-in_err-append_at_mark-clause-out_of_order : goal.returns-in_err-append_at_mark-clause-out_of_order
returns-in_err-append_at_mark-clause-out_of_order g c =
    let p = err_from_is_err_and c.from_residual-in_err-append_at_mark.result c.from_residual-in_err-append_at_mark.ensures.1 in
    refusal_handed c.append_at_mark.result c.from_residual-in_err-append_at_mark.result p.0 OutOfOrder (c.in_err-append_at_mark.was ∙ ap Err (sym p.2)) p.1
    (one_told c.append_at_mark.result (mark_of c.args.marks.now) c.args.floor c.args.core.now.core.seqno c.get-number.result c.args.ops.items c.in-Some.key c.in-Some.op c.house-entry.result (next g c) (alone g c) (entry g c) (omega arith) c.append_at_mark.ensures.out_of_order)

pub returns-in_err-append_at_mark-clause-core : goal.returns-in_err-append_at_mark-clause-core
returns-in_err-append_at_mark-clause-core g c =
    let old = c.args.core.now.core in
    let new = c.append_at_mark.new.core.core in
    let key = c.in-Some.key in
    let op = c.in-Some.op in
    let first : c.get-number.result ≡ old.seqno = next g c in
    let above = c.if-number-ge-LIMIT.false in
    let small : old.seqno < 9223372036854775808 = omega arith in
    let stays = ap (λ t. t.core) c.house-entry.ensures.stays in
    let p = err_from_is_err_and c.from_residual-in_err-append_at_mark.result c.from_residual-in_err-append_at_mark.ensures.1 in
    let was = c.in_err-append_at_mark.was ∙ ap Err (sym p.2) in
    let refused : Appends (plain c.house-entry.result) c.append_at_mark.result c.house-entry.new.self.core new → WritesBatch c.args.ops.items c.from_residual-in_err-append_at_mark.result old new =
    λ appends. subst (λ r. WritesBatch c.args.ops.items r old new) (sym p.1) (subst (λ ops. WritesBatch ops (Err p.0) old new) (sym (alone g c))
    (put_refused key op c.house-entry.result old (entry g c) p.0 new small (subst (λ r. Appends (plain c.house-entry.result) r old new) was (subst (λ t. Appends (plain c.house-entry.result) c.append_at_mark.result t new) stays appends)))) in
    own_or-handed c.append_at_mark.result c.from_residual-in_err-append_at_mark.result p.0 _ _ was p.1 refused c.append_at_mark.ensures.core

pub returns-clause-out_of_order : goal.returns-clause-out_of_order
returns-clause-out_of_order g c = answer_told c.append_at_mark.result (Ok c.get-number.result) _ _ OutOfOrder c.in_ok-append_at_mark.was refl
    (one_told c.append_at_mark.result (mark_of c.args.marks.now) c.args.floor c.args.core.now.core.seqno c.get-number.result c.args.ops.items c.in-Some.key c.in-Some.op c.house-entry.result (first g c) (taken g c) (made g c) (omega arith) c.append_at_mark.ensures.out_of_order)

pub returns-clause-core : goal.returns-clause-core
returns-clause-core g c =
    let old = c.args.core.now.core in
    let mid = c.append_at_mark.new.core.core in
    let first : c.get-number.result ≡ old.seqno = first g c in
    let small = c.if-number-ge-LIMIT.false in
    let appends = own_or-answered c.append_at_mark.result _ _ c.in_ok-append_at_mark.was c.append_at_mark.ensures.core in
    let there = subst (λ r. Appends (plain c.house-entry.result) r old mid) c.in_ok-append_at_mark.was (subst (λ t. Appends (plain c.house-entry.result) c.append_at_mark.result t mid) (ap (λ t. t.core) c.house-entry.ensures.stays) appends) in
    inr (inr (subst (λ ops. WritesBatch ops (Ok c.get-number.result) old (record mid { seqno = c.set.new.self; visible_seqno = c.fetch_max.new.self })) (sym (taken g c))
    (put_done c.in-Some.key c.in-Some.op c.house-entry.result old (made g c) c.get-number.result _ _ _ mid first (omega arith) there c.set.ensures (c.fetch_max.ensures ∙ ap (λ v. max v (c.get-number.result + 1)) c.visible_seqno_mut.ensures.value))))

pub returns-clause-marks : goal.returns-clause-marks
returns-clause-marks g c =
    let old = mark_of c.args.marks.now in
    let new = mark_of c.append_at_mark.new.marks in
    subst (λ ops. (q : Bytes) → new q ≡ marked_all (op_entries c.args.core.now.core.seqno ops) old q) (sym (taken g c))
    (subst (λ (e : Entry). (q : Bytes) → new q ≡ marked_by e old q) (made g c) c.in_ok-append_at_mark.ensures.marks)

pub returns-clause-noted : goal.returns-clause-noted
returns-clause-noted g c =
    let journal = c.args.journal.now.items in
    let pass = c.args.pass.now.items in
    let written = ap plain (made g c) ∙ op_plain c.in-Some.key c.args.core.now.core.seqno c.in-Some.op in
    subst (λ ops. Notes (map Write (op_entries c.args.core.now.core.seqno ops)) journal c.append_at_mark.new.journal.items pass c.append_at_mark.new.pass.items) (sym (taken g c))
    (subst (λ (e : Entry). Notes (Write e ∷ []) journal c.append_at_mark.new.journal.items pass c.append_at_mark.new.pass.items) written c.in_ok-append_at_mark.ensures.noted)
