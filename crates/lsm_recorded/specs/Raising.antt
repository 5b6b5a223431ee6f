-- Marks that were raised, and what they were.
use Rattle.std.specs.Prelude.{List, [], ◌∷◌, IsSome}
use Rattle.std.specs.BTreeMap as tree
use Rattle.std.specs.BTreeMap.{BTreeMap}
use Rattle.std.specs.List.{AllByRecursion}
use Rattle.lsm_below.specs.Keys.{Bytes}
use Rattle.lsm_recorded.specs.Headed.{headed_cmp}
use Rattle.lsm_recorded.specs.Marks.{marked}
use Rattle.lsm_recorded.specs.declared.marks.Mark.{Mark}

-- marks as they were before these were raised, the first of them first
abbrev pub restored : List (Bytes × Mark) → (Bytes → Mark) → Bytes → Mark
restored [] marks = marks
restored (was ∷ later) marks = marked (restored later marks) was.0 was.1

-- each of these keys has a mark
abbrev pub AreThere : BTreeMap Bytes Mark → List (Bytes × Mark) → Type 0
AreThere marks raised = AllByRecursion (λ p. IsSome (tree.get headed_cmp marks p.0)) raised
