use Rattle.std.proofs.Common.{◌≡◌, Ok, List, length, take, refl, sym, ap, ◌∙◌, subst, arith}
use Rattle.lsm_model.specs.Journal.{Event}
use Rattle.lsm_commit.specs.Causes.{Blames}
use Rattle.lsm_state.specs.WholeCompactions.{as_begun}
use Rattle.lsm_state.proofs.Files.{refused_compacts}
use Rattle.lsm_journal.specs.Noted.{noted_of, kept_of, CompactsAnswer, CompactsNoted}
use Rattle.lsm_journal.proofs.Compacting.{compacts_noted}
use Rattle.lsm_journal.proofs.compaction.whole.compact_chosen.Goals as goal

pub returns-in-Ok-clause-compacts : goal.returns-in-Ok-clause-compacts
returns-in-Ok-clause-compacts g c =
    let choice = c.in-Ok.choice in
    let o = c.args.options in
    let w = o.mvcc_gc_watermark in
    let old = c.args.tree.now.core in
    let new = c.compact_choice-done.new.self.core in
    let r = as_begun c.compact_choice-done.result in
    let entries : List Event = c.args.chosen.entries.items in
    let noted : entries ≡ noted_of (Ok choice) w old = c.requires ∙ ap (λ a. noted_of a w old) c.in-Ok.is in
    let all : c.len.result ≡ length entries = omega (arith, c.len.ensures) in
    let kept = c.count_done-kept.ensures ∙ ap (kept_of r) all in
    let events = c.cut.ensures.kept ∙ ap (λ n. take n entries) kept ∙ ap (λ (es : List Event). take (kept_of r (length es)) es) noted in
    subst (λ a. CompactsAnswer a o r c.cut.result.items old new) (sym c.in-Ok.is) (subst (λ es. CompactsNoted choice o r es old new) (sym events) (compacts_noted choice o r old new c.compact_choice-done.ensures.compacts))

pub returns-in-Err-clause-files : goal.returns-in-Err-clause-files
returns-in-Err-clause-files g c blameless =
    let now = c.args.tree.now in
    refused_compacts g.S.Store.tells g.S.Store.world _ now now (λ blamed. blameless (subst Blames (sym c.in-Err.is) blamed)) refl refl
