use Rattle.std.proofs.Common.{◌≡◌, ◌≤◌, true, arith, subst, rules}
use Rattle.std.specs.FinMap.{get}
use Rattle.lsm_below.specs.Entries.{above}
use Rattle.lsm_model.specs.Journal.{is_outside, replay}
use Rattle.lsm_model.specs.Views.{held}
use Rattle.lsm_model.specs.Beginnings.{shown_by}
use Rattle.lsm_versions.specs.Levels.{placed_of}
use Rattle.lsm_recorded.proofs.RecordedLemmas.{recorded_read, answers_replay}
use Rattle.lsm_recorded.proofs.recorded.Recorded.get.Goals as goal

pub invariant_of-self-2 : goal.invariant_of-self-2
invariant_of-self-2 g c =
    let i = c.self.inside in
    let opened = placed_of i.opened.levels in
    let not_below = c.if-snapshot-self.false in
    let is = c.self.invariant.least_is in
    let up : above (held opened) ≤ c.args.snapshot = omega arith in
    rw (c.in_ok-note_entry.ensures.ok.behind, c.in_ok-entry.ensures, c.in_ok-shared.ensures.key)
    (recorded_read opened i.least c.reads_are_sound.ensures i.marks i.floor i.core.core i.journal.items c.args.key.now c.args.snapshot c.in_ok-shared.value c.self.invariant up c.in_ok-shared.ensures.step)

pub returns : goal.returns
returns g c =
    let i = c.self.inside in
    let opened = placed_of i.opened.levels in
    let not_below = c.if-snapshot-self.false in
    let is = c.self.invariant.least_is in
    let up : above (held opened) ≤ c.args.snapshot = omega arith in
    record {
      core = search rules;
      replay = subst (λ t. is_outside c.args.key.now c.args.snapshot t.journal ≡ true → c.in_ok-shared.value ≡ get (replay (shown_by t.opened) t.journal c.args.snapshot) c.args.key.now) c.self.view_is
          (answers_replay opened i.least c.reads_are_sound.ensures i.marks i.floor c.args.key.now c.args.snapshot c.in_ok-shared.value i.journal.items i.core.core c.in_ok-shared.ensures.value c.self.invariant up);
      noted = search rules;
      tree = search rules;
      opened = search rules;
      err = search rules;
      refuses = search rules;
      kept = search rules;
    }
