use Rattle.std.proofs.Common.{sym, ap, subst, ◌∙◌, length}
use Rattle.std.specs.List.{All}
use Rattle.lsm_below.specs.Entries.{HasBytes}
use Rattle.lsm_memtable.specs.Memtables.{highest_of}
use Rattle.lsm_memtable.proofs.memtable.revert.Goals as goal

pub returns-clause-same : goal.returns-clause-same
returns-clause-same c before total back =
    let same = c.take_all_back.ensures.same before back.puts in
    cc

pub returns-clause-sound : goal.returns-clause-sound
returns-clause-sound c =
    let before = c.requires.made.0 in
    let back = c.requires.made.2 in
    let same = c.take_all_back.ensures.same before back.puts in
    record {
      blocks = c.take_all_back.ensures.sound;
      bytes = subst (All HasBytes) (sym same) back.bytes;
      count = back.count ∙ ap (λ l. length l) (sym same);
      highest = back.highest ∙ ap highest_of (sym same);
      arena = c.requires.sound.arena;
    }
