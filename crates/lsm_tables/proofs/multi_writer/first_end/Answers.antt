use Rattle.std.proofs.Common.{◌≡◌, ◌<◌, ◌-◌, ℕ, ◌∷◌, length, get_or, take, drop, false, true, ap, sym, ◌∙◌, arith}
use Rattle.lsm_below.specs.Entries.{Entry}
use Rattle.lsm_below.specs.Slots.{same_key}
use Rattle.lsm_tables.specs.Image.{entry_bytes}
use Rattle.lsm_tables.proofs.Cutting.{none_earlier_more, held_more}
use Rattle.lsm_tables.proofs.Lists.{more_left, next_is, behind_is}
use Rattle.lsm_tables.proofs.multi_writer.first_end.Goals.{else-held-target-via-then-held-target+else-not-has_same_key, else-held-target-via-else-held-target}
use Rattle.lsm_tables.proofs.multi_writer.first_end.Goals as goal

pub overflow_add-end : goal.overflow_add-end
overflow_add-end c =
    let lt = more_left c.args.entries.now c.loop-entry.end c.in-Some-split_first.entry.now c.in-Some-split_first.behind (sym c.loop-entry.invariant.4 ∙ c.in-Some-split_first.ensures) in
    let n = c.len.ensures in
    let fits = c.len.type_inv in
    omega arith

pub loop-entry-preserved : goal.loop-entry-preserved
loop-entry-preserved c =
    let i = c.loop-entry.invariant in
    let es = c.args.entries.now in
    let end : ℕ = c.loop-entry.end in
    let e = c.in-Some-split_first.entry.now in
    let behind = c.in-Some-split_first.behind in
    let left : drop end es ≡ e ∷ behind = sym i.4 ∙ c.in-Some-split_first.ensures in
    let lt : end < length es = more_left es end e behind left in
    let is : (d : Entry) → e ≡ get_or es end d = λ d. next_is es end e behind d left in
    let here : (d : Entry) → same_key (get_or es (end - 1) d) (get_or es end d) ≡ false → entry_bytes (take end es) < c.args.target =
    elim c.else-held-target.branch [
      | else-held-target-via-then-held-target+else-not-has_same_key w ↦ λ d other.
          let same : true ≡ same_key (get_or es (end - 1) d) (get_or es end d) = w.if-not-has_same_key.ensures ∙ ap (λ (x : Entry). same_key x e) (i.5 d) ∙ ap (same_key (get_or es (end - 1) d)) (is d) in
          cc (same, other)
      | else-held-target-via-else-held-target w ↦ λ d other. let below = w.if-held-target.false in let held = i.2 in let fits = c.ranges.target.fits in omega arith
    ] in (
      omega arith,
      omega arith,
      held_more es end c.loop-entry.held c.size_of_entry.result c.saturating_add-held.result e lt (is e) i.2 c.size_of_entry.ensures c.saturating_add-held.ensures,
      none_earlier_more c.args.target es end i.3 here,
      behind_is es end e behind left,
      λ d. is d ∙ ap (λ k. get_or es k d) (omega arith),
    )
