-- Turns at both ends, one after the other.
use Rattle.std.proofs.Common.{List, [], ◌∷◌, ◌++◌, Option, refl, subst}
use Rattle.lsm_below.specs.Entries.{Entry}
use Rattle.lsm_iter.specs.Guards.{Item}
use Rattle.lsm_iter.specs.Ends.{TakesPair, TakesEnds}
use Rattle.lsm_iter.specs.declared.tree_iter.End.{End}

-- one turn more
pub ends_more : (s mid t : List Entry) (ends : List End) (ps : List (Option Item)) (end : End) (p : Option Item) → TakesEnds s ends ps mid → TakesPair end mid p t → TakesEnds s (ends ++ end ∷ []) (ps ++ p ∷ []) t
ends_more s mid t [] [] end p m step = (t, subst (λ o. TakesPair end o p t) m step, refl)
ends_more s mid t (e ∷ ends) (x ∷ ps) end p m step = (m.0, m.1, ends_more m.0 mid t ends ps end p m.2 step)
ends_more s mid t [] (x ∷ ps) end p m step = absurd m
ends_more s mid t (e ∷ ends) [] end p m step = absurd m
