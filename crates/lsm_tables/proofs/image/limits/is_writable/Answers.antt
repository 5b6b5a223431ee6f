use Rattle.std.proofs.Common.{◌≡◌, ◌+◌, ◌++◌, ◌∷◌, [], take, sym, ap, subst, ◌∙◌}
use Rattle.std.proofs.lemmas.List.{take_more}
use Rattle.lsm_below.specs.Entries.{Entry}
use Rattle.lsm_tables.specs.Cutting.{IsWritable}
use Rattle.lsm_tables.proofs.Cutting.{writable_take}
use Rattle.lsm_tables.proofs.image.limits.is_writable.Goals as goal

pub returns-then-not-may_stand_behind : goal.returns-then-not-may_stand_behind
returns-then-not-may_stand_behind c =
    let es = c.args.entries.now in
    let e = c.index-entries-i.result in
    let i = c.loop-i.i in
    let more : take (i + 1) es ≡ take i es ++ e ∷ [] = take_more es i e c.loop-i-test.true ∙ ap (λ (x : Entry). take i es ++ x ∷ []) (sym c.index-entries-i.is) in
    (λ no. absurd (cc no), λ w. let yes = c.may_stand_behind.ensures.1 (subst IsWritable more (writable_take (i + 1) es w)) in cc (yes, c.if-not-may_stand_behind.true))

pub loop-i-preserved : goal.loop-i-preserved
loop-i-preserved c =
    let es = c.args.entries.now in
    let e = c.index-entries-i.result in
    let i = c.loop-i.i in
    let more : take (i + 1) es ≡ take i es ++ e ∷ [] = take_more es i e c.loop-i-test.true ∙ ap (λ (x : Entry). take i es ++ x ∷ []) (sym c.index-entries-i.is) in
    subst IsWritable (sym more) (c.may_stand_behind.ensures.0 c.if-not-may_stand_behind.false)
