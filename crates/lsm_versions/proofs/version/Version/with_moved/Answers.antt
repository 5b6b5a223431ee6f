use Rattle.std.proofs.Common.{◌≡◌, arith, subst, ap, ◌∙◌, length, ◌<◌}
use Rattle.lsm_below.specs.Optimizes.{tables_of}
use Rattle.lsm_versions.specs.Levels.{IsNext, IsOneRun, AreCovered, chosen_from}
use Rattle.lsm_versions.proofs.Ids.{own_moved}
use Rattle.lsm_versions.proofs.Laid.{made_cover, moved_same}
use Rattle.lsm_versions.proofs.Placed.{merged}
use Rattle.lsm_versions.proofs.version.Version.with_moved.Goals as goal

pub returns-clause-ok : goal.returns-clause-ok
returns-clause-ok c =
    let ids = c.args.ids.now.keys in
    let to = c.args.to in
    let run = c.in_ok-run.run'.items in
    let old = c.args.self.now.levels in
    let chosen : tables_of c.in_ok-chosen.chosen.items ≡ chosen_from ids old = c.in_ok-chosen.ensures ∙ ap (chosen_from ids) c.levels.ensures in
    let one : IsOneRun (chosen_from ids old) run = subst (λ ts. IsOneRun ts run) chosen c.in_ok-run.ensures in
    let next : IsNext ids run to 0 c.args.self.now c.in_ok-next.next = subst (λ f. IsNext ids f to 0 c.args.self.now c.in_ok-next.next) c.deref.ensures.value c.in_ok-next.ensures.ok in
    let cover : AreCovered run = subst AreCovered c.deref-2.ensures.value c.see_run.ensures.covered in
    let lt : to < length old = (let seven = c.facts.ensures.is.seven in let level = c.requires.level in omega arith) in
    record {
      run = run;
      one = one;
      next = next;
      moved = record {
        covers = made_cover to run cover;
        placed = merged ids run to old c.in_ok-next.next.levels next.levels lt;
        same = moved_same c.tables_are_placed.ensures ids to old run c.facts.ensures.is.covered cover one.keys;
      };
    }

pub changed-requires-clause-own_ids : goal.changed-requires-clause-own_ids
changed-requires-clause-own_ids c =
    let ids = c.args.ids.now.keys in
    let old = c.args.self.now.levels in
    let run = c.in_ok-run.run'.items in
    let chosen : tables_of c.in_ok-chosen.chosen.items ≡ chosen_from ids old = c.in_ok-chosen.ensures ∙ ap (chosen_from ids) c.levels.ensures in
    let one : IsOneRun (chosen_from ids old) run = subst (λ ts. IsOneRun ts run) chosen c.in_ok-run.ensures in
    rw c.deref.ensures.value (own_moved ids run old one c.facts.ensures.is.own_ids)
