use Rattle.std.proofs.Common.{◌≡◌, ℕ, List, eqb, sym, subst}
use Rattle.std.specs.Prelude.{Contains}
use Rattle.std.specs.List.{dedup}
use Rattle.std.specs.List.Sorted.{IsStrictlyIncreasing}
use Rattle.std.proofs.lemmas.List.Filters.{dedup_is}
use Rattle.std.proofs.lemmas.List.Kept.{Contains-dedup_nat, Contains-from_dedup}
use Rattle.std.proofs.lemmas.List.Sorted.{Contains-permutation, IsPermutation-sym}
use Rattle.std.proofs.lemmas.Map.Keys.{IsStrictlyIncreasing-dedup}
use Rattle.lsm_log.proofs.listing.rising.Goals as goal

pub returns-clause-rises : goal.returns-clause-rises
returns-clause-rises c =
    let sorted = c.sort_unstable.new.self.items in
    let out = c.dedup.new.self.items in
    let is : out ≡ dedup eqb sorted = dedup_is eqb sorted out c.dedup.ensures.filtered in
    subst IsStrictlyIncreasing (sym is) (IsStrictlyIncreasing-dedup sorted c.sort_unstable.ensures.sorted)

pub returns-clause-same : goal.returns-clause-same
returns-clause-same c k =
    let old = c.args.numbers.items in
    let sorted = c.sort_unstable.new.self.items in
    let out = c.dedup.new.self.items in
    let is : out ≡ dedup eqb sorted = dedup_is eqb sorted out c.dedup.ensures.filtered in (
      λ at. Contains-permutation sorted old k (IsPermutation-sym old sorted c.sort_unstable.ensures.permutation) (Contains-from_dedup eqb sorted k (subst (λ (l : List ℕ). Contains l k) is at)),
      λ at. subst (λ (l : List ℕ). Contains l k) (sym is) (Contains-dedup_nat sorted k (Contains-permutation old sorted k c.sort_unstable.ensures.permutation at)),
    )
