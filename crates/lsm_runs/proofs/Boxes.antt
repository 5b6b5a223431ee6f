-- What strategies in boxes may choose is what the types that they hold say: so a caller that makes boxes of strategies that never drop shows it.
use base.Stored.{Gv}
use denote.Param.Object.{Made}
use Rattle.std.proofs.Common.{◌≡◌, ℕ, zero, suc, List, [], ◌∷◌, slice_get, sym, subst, ap}
use Rattle.std.specs.List.{AllByRecursion}
use Rattle.std.specs.declared.dyn_box.DynBox.{DynBox}
use Rattle.std.specs.DynBox.{dyn_box_with}
use Rattle.lsm_pick.specs.declared.choice.Choice.{Choice}
use Rattle.lsm_state.specs.Compactions.{Relation}
use Rattle.lsm_state.specs.Dropping.{NeverDrops}
use Rattle.lsm_runs.specs.Compacting.{relation_of}

-- this one of them never drops
pub record Never {B : Type 0} (may : B → Relation Choice) (b : B) : Type 0 where
  pub never : NeverDrops (may b)

-- a box is the one that holds the value which went into it
same_box :
    {I Z X : Type 0} {D : I → Type 0} (b : DynBox I Z D) (code : (i : I) → D i → Gv) (at : I) (d : X → Gv) (x : X) (to : X → D at) →
    ((a : D at) (v : X) → code at a ≡ d v → a ≡ to v) → (i : I) → i ≡ at → (y : D i) → code i y ≡ d x → dyn_box_with b i y ≡ dyn_box_with b at (to x)
same_box {I} {Z} {X} {D} b code at d x to one i is =
    subst (λ (j : I). (y : D j) → code j y ≡ d x → dyn_box_with b j y ≡ dyn_box_with b at (to x)) (sym is) (λ y e. ap (dyn_box_with b at) (one y x e))

-- what `Box::new` made of a value of a type whose values have codes of their own
pub held :
    {I Z X : Type 0} {D : I → Type 0} {may : DynBox I Z D → Relation Choice} (b : DynBox I Z D) {code : (i : I) → D i → Gv} {at : I} {d : X → Gv} {x : X} →
    Made code d at b.vtable b.value x → (to : X → D at) → ((a : D at) (v : X) → code at a ≡ d v → a ≡ to v) → NeverDrops (may (dyn_box_with b at (to x))) → Never may b
held {may = may} b {code} {at} {d} {x} made to one never =
    record { never = subst (λ e. NeverDrops (may e)) (sym (same_box b code at d x to one b.vtable made.index b.value made.codes)) never }

-- of a list of which none drops no place does
at_each : {B : Type 0} (may : B → Relation Choice) (list : List B) → AllByRecursion (Never may) list → (at : ℕ) → NeverDrops (relation_of may (slice_get list at))
at_each may [] all at config hidden version choice m = absurd m
at_each may (b ∷ list) all zero config hidden version choice m = all.0.never config hidden version choice m
at_each may (b ∷ list) all (suc at) config hidden version choice m = at_each may list all.1 at config hidden version choice m

-- this is `NoneDrops (strategies_of may refuse list)`, where the list is of these boxes
pub none_drops : {B : Type 0} (may : B → Relation Choice) (list items : List B) → list ≡ items → AllByRecursion (Never may) items → (at : ℕ) → NeverDrops (relation_of may (slice_get list at))
none_drops may list items is all = at_each may list (subst (AllByRecursion (Never may)) (sym is) all)
