use Rattle.std.proofs.Common.{◌≡◌, ◌∷◌, ◌++◌, [], ap, ◌∙◌, append_assoc, arith}
use Rattle.lsm_iter.proofs.Prefixes.{between, full_only, begins_between, begins_on}
use Rattle.lsm_iter.proofs.prefix.upper_of.Goals as goal

pub returns-then-last-lt255 : goal.returns-then-last-lt255
returns-then-last-lt255 c =
    let inv = c.loop-last.invariant in
    let last = c.in-Some.last.now in
    let front = c.in-Some.front.now in
    let parts = c.in-Some.ensures.cases in
    let is : c.args.prefix.now ≡ front ++ (last ∷ inv.0) = inv.1 ∙ ap (λ x. x ++ inv.0) parts.0 ∙ append_assoc front (last ∷ []) inv.0 in
    record {
      only = λ key bytes. rw (is, c.in_ok-raised.ensures) (between front last inv.0 key (omega arith) inv.2 bytes);
      all = λ key begins. rw (is, c.in_ok-raised.ensures) (begins_between front last inv.0 key (rw is at begins));
    }

pub returns : goal.returns
returns c =
    let inv = c.loop-last.invariant in
    record {
      only = λ key bytes. full_only c.args.prefix.now c.loop-last.rest.now inv.0 key inv.1 c.in_default.ensures.cases inv.2 bytes;
      all = λ key begins. begins_on c.args.prefix.now key begins;
    }
