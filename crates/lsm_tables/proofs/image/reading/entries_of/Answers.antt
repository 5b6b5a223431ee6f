use Rattle.std.proofs.lemmas.Bool.{and_left}
use Rattle.std.proofs.Common.{◌≡◌, ◌++◌, ◌∷◌, [], sym, ap, subst, ◌∙◌}
use Rattle.std.proofs.lemmas.Result.{err_from_is_err_and}
use Rattle.lsm_tables.specs.Reading.{many}
use Rattle.lsm_tables.specs.Spellings.{goes_on, is_done}
use Rattle.lsm_tables.proofs.Images.{entry_fails}
use Rattle.lsm_tables.specs.ImageReading.{spelled_at, rises, follows}
use Rattle.lsm_below.specs.Keys.{AreBytes}
use Rattle.lsm_below.specs.Heads.{key_head, AreHeads}
use Rattle.lsm_tables.proofs.Adjacent.{rises_push, and_when, heads_push}
use Rattle.lsm_tables.proofs.image.reading.entries_of.Goals.{then-rising, else-rising}
use Rattle.lsm_tables.proofs.image.reading.entries_of.Goals as goal

pub returns-in_err-entry-clause-read : goal.returns-in_err-entry-clause-read
returns-in_err-entry-clause-read c =
    let p = err_from_is_err_and c.from_residual-in_err-entry.result c.from_residual-in_err-entry.ensures.1 in
    rw (p.1, p.2) (entry_fails c.in_err-entry.field-0.0 c.loop.entries.items c.args.count c.loop.counter c.loop.bytes (many spelled_at c.args.count c.args.bytes.now) c.loop-test.true c.in_err-entry.ensures c.loop.invariant.read)

pub loop-preserved : goal.loop-preserved
loop-preserved c =
    let e = c.in_ok-entry.entry in
    let es = c.loop.entries.items in
    let head = c.head_of-head.ensures.head ∙ ap key_head c.as_slice.ensures in
    let own = subst AreBytes c.as_slice.ensures c.head_of-head.ensures.bytes in
    let pushed : c.push-in-loop.new.self.items ≡ es ++ e ∷ [] = c.in_ok-push-2.ensures.items in
    let push : rises c.push-in-loop.new.self.items ≡ rises (es ++ e ∷ []) = ap rises pushed in
    record {
      read = rw pushed (goes_on spelled_at es c.args.count c.loop.counter c.loop.bytes e c.entry_of.new.bytes (many spelled_at c.args.count c.args.bytes.now) c.loop-test.true c.in_ok-entry.ensures c.loop.invariant.read);
      heads = subst (λ l. AreHeads l c.push-in-loop.new.self.items) (sym c.in_ok-push.ensures.items) (subst (λ l. AreHeads (c.loop.heads.items ++ c.head_of-head.result ∷ []) l) (sym pushed) (heads_push c.loop.heads.items es c.head_of-head.result e c.loop.invariant.heads head own));
      rising = elim c.if-rising.branch [
        | then-rising w ↦ w.rising-is ∙ w.follows_headed-rising.ensures ∙ ap (follows w.deref-then-rising.result.now) w.new.ensures ∙ ap (λ s. follows s e) w.deref-then-rising.ensures.value ∙ sym (push ∙ rises_push es e ∙ and_when (rises es) (follows es e) (sym c.loop.invariant.rising ∙ w.if-rising.true))
        | else-rising w ↦ w.rising-is ∙ w.if-rising.false ∙ sym (push ∙ rises_push es e ∙ and_left (rises es) (follows es e) (sym c.loop.invariant.rising ∙ w.if-rising.false))
      ];
    }

pub returns-clause-read : goal.returns-clause-read
returns-clause-read c = is_done spelled_at c.loop.entries.items c.args.count c.loop.counter c.loop.bytes (many spelled_at c.args.count c.args.bytes.now) c.loop-test.false c.loop.invariant.read
