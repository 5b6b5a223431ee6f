use Rattle.std.proofs.Common.{◌∷◌, [], length, take, sym, ◌∙◌, ap, subst}
use Rattle.std.specs.List.{All}
use Rattle.std.proofs.Math.Seq.{take-append_seam}
use Rattle.std.proofs.lemmas.List.Elements.{All-take}
use Rattle.lsm_memtable.specs.Blocks.{IsFilled}
use Rattle.lsm_memtable.specs.Parts.{blocks_of}
use Rattle.lsm_memtable.proofs.Between.{last_of}
use Rattle.lsm_memtable.proofs.iter.Iter.take_last.Goals as goal

pub invariant_of-self-in-Some-split_last : goal.invariant_of-self-in-Some-split_last
invariant_of-self-in-Some-split_last c =
    let blocks = blocks_of c.self.inside.middle in
    let before = blocks_of c.in-Some-split_last.middle in
    subst (All IsFilled) (ap (take (length before)) c.in-Some-split_last.ensures ∙ take-append_seam before (c.in-Some-split_last.block.now ∷ [])) (All-take IsFilled (length before) blocks c.self.invariant)

pub returns-in-Some-split_last : goal.returns-in-Some-split_last
returns-in-Some-split_last c =
    let s = c.self.inside in
    sym c.self.view_is ∙ last_of s.front (blocks_of s.middle) (blocks_of c.in-Some-split_last.middle) s.back c.in-Some-split_last.block.now c.in_ok-headed.back c.in_ok-headed.headed c.in_default.ensures c.in-Some-split_last.ensures (sym c.stretch.ensures ∙ c.in_ok-headed.ensures)
