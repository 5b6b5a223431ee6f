use Rattle.std.proofs.Common.{◌≡◌, ◌++◌, ◌∷◌, [], sym, ap, ◌∙◌, subst, append_assoc}
use Rattle.std.specs.List.{All}
use Rattle.std.proofs.lemmas.List.Elements.{All-push}
use Rattle.lsm_below.specs.Entries.{HasBytes}
use Rattle.lsm_iter.specs.Left.{Takes}
use Rattle.lsm_iter.specs.declared.tree_iter.End.TheVariants.{Front}
use Rattle.lsm_iter.proofs.cursor.copy_tops.Goals as goal

pub loop-entry-preserved : goal.loop-entry-preserved
loop-entry-preserved c =
    let e = c.in-Some.entry.now in
    let copy = c.in_ok-copy.field-0 in
    let list = c.loop-entry.list in
    let old = c.loop-entry.walk in
    let rest = c.take_front.new.self in
    let taken : old ≡ e ∷ rest = subst (λ o. Takes Front old o rest) (sym c.in-Some.ensures.is) c.in-Some.ensures.takes in
    let pushed : c.push.new.self ≡ list ++ e ∷ [] = c.in_ok-push.ensures ∙ ap (λ x. list ++ x ∷ []) c.in_ok-copy.ensures in
    record {
      is = c.loop-entry.invariant.is ∙ ap (λ l. list ++ l) taken ∙ sym (append_assoc list (e ∷ []) rest) ∙ ap (λ l. l ++ rest) (sym pushed);
      bytes = subst (All HasBytes) (sym c.in_ok-push.ensures) (All-push HasBytes list copy c.loop-entry.invariant.bytes (subst HasBytes (sym c.in_ok-copy.ensures) c.key_has_bytes.ensures));
    }
