-- Loops over tables, one after the other: laws for proofs of this crate and of those above it.
use Rattle.std.proofs.Common.{◌≡◌, List, [], ◌∷◌, ◌++◌, sym, ap, ◌∙◌, subst, append_assoc, append-nil}
use Rattle.lsm_tables.specs.Tables.{SeenTable}

-- a fact of the tables that a loop has passed, all but those that are left
pub record Walked (P : List SeenTable → Type 0) (all left : List SeenTable) : Type 0 where
  pub done : List SeenTable
  pub whole : done ++ left ≡ all
  pub holds : P done

pub walk_starts : {P : List SeenTable → Type 0} {all left : List SeenTable} → left ≡ all → P [] → Walked P all left
walk_starts e h = record { done = []; whole = e; holds = h }

-- the next table is passed
pub walk_goes : {P Q : List SeenTable → Type 0} {all left next : List SeenTable} {x : SeenTable} → left ≡ x ∷ next → (w : Walked Q all left) → P (w.done ++ x ∷ []) → Walked P all next
walk_goes {P} {Q} {all} {left} {next} {x} first w h = record { done = w.done ++ x ∷ []; whole = append_assoc w.done (x ∷ []) next ∙ ap (λ l. w.done ++ l) (sym first) ∙ w.whole; holds = h }

-- no table is left
pub walk_ends : {P : List SeenTable → Type 0} {all left : List SeenTable} → left ≡ [] → Walked P all left → P all
walk_ends {P} none w = subst P (sym (append-nil w.done) ∙ ap (λ l. w.done ++ l) (sym none) ∙ w.whole) w.holds
