use Rattle.std.proofs.Common.{◌≡◌, Bool, true, false, not, List, [], ◌∷◌, Option, Some, None, MatchOption, Bor, is_none, is_some, refl}
use Rattle.lsm_below.specs.Keys.{Bytes}
use Rattle.lsm_below.specs.Entries.{Entry}
use Rattle.lsm_iter.specs.Lenders.{LendsPair}
use Rattle.lsm_iter.specs.declared.tree_iter.End.TheVariants.{Front}
use Rattle.lsm_state.proofs.reads.ranges.is_over.Goals as goal

not_false : (b : Bool) → false ≡ not b → b ≡ true
not_false true h = refl
not_false false h = absurd (cc h)

not_true : (b : Bool) → true ≡ not b → b ≡ false
not_true true h = absurd (cc h)
not_true false h = refl

-- a pair that is lent is the first one's
first_lent : (s t : List Entry) (r : Option (Bor Bytes × Bor Bytes)) (b : Bool) → is_some r ≡ not b → LendsPair Front s r t → (e : Option Entry) × (b ≡ is_none e) × MatchOption e (s ≡ []) (λ e. (rest : List Entry) × (s ≡ e ∷ rest))
first_lent s t None b is h = (None, not_false b is, h.0)
first_lent s t (Some p) b is h = (Some h.0, not_true b is, (t, h.1))

pub returns : goal.returns
returns c = first_lent c.args.pairs c.next.new.self c.next.result c.is_none.result c.is_none.ensures c.next.ensures.steps
