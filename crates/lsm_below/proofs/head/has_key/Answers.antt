use Rattle.std.proofs.Common.{length, sym, ap, ◌∙◌}
use Rattle.std.specs.Ordering.{is_eq, nat_cmp}
use Rattle.std.specs.Cmp.Lexicographic.{slice_cmp, texts_ties}
use Rattle.lsm_below.proofs.Heads.{keys_tie}
use Rattle.lsm_below.proofs.head.has_key.Goals as goal

pub returns-then-key-le-HEAD : goal.returns-then-key-le-HEAD
returns-then-key-le-HEAD c =
    let own = c.as_slice-own.ensures in
    sym (ap is_eq (keys_tie c.args.entry.now.key.user_key c.args.key.now c.requires.own c.requires.bytes c.requires.head (sym (ap (λ l. length l) own) ∙ c.if-own-key.true) c.if-key-le-HEAD.true))

pub returns : goal.returns
returns c = c.eq.ensures ∙ (texts_ties c.as_slice-own.result.now c.args.key.now ∙ ap (λ x. is_eq (slice_cmp nat_cmp x c.args.key.now)) c.as_slice-own.ensures)
