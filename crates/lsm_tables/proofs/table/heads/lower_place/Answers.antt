use Rattle.std.proofs.Common.{◌≡◌, ◌<◌, true, false, not, length, get_or, subst, sym, ◌∙◌, arith}
use Rattle.std.specs.List.Sorted.{IsPartitionPoint}
use Rattle.lsm_below.specs.Entries.{Entry}
use Rattle.lsm_below.specs.Lookups.{is_from}
use Rattle.lsm_below.proofs.Bounds.{from_included, from_excluded}
use Rattle.lsm_tables.specs.Image.{Fits}
use Rattle.std.proofs.lemmas.List.Elements.{All-from_recursion}
use Rattle.lsm_tables.proofs.table.heads.lower_place.Goals as goal

pub returns-in-Included-clause-parts : goal.returns-in-Included-clause-parts
returns-in-Included-clause-parts c =
    let es = c.args.entries.now in
    let k = c.in-Included.low in
    let bound = c.place_below.ensures.bound in
    let before = rw c.as_slice-key.ensures at c.place_below.ensures.before in
    let behind = rw c.as_slice-key.ensures at c.place_below.ensures.behind in
    subst (λ x. IsPartitionPoint (λ (e : Entry). not (is_from x e.key.user_key) ≡ true) (λ (e : Entry). not (is_from x e.key.user_key) ≡ false) es c.place_below.result) (sym c.in-Included.is) (
      λ j d _ lt. let inside : j < length es = omega arith in from_included k (get_or es j d) (All-from_recursion Fits es c.requires.each j d inside).seqno ∙ before j d lt,
      λ j d le lt. from_included k (get_or es j d) (All-from_recursion Fits es c.requires.each j d lt).seqno ∙ behind j d le lt,
    )

pub returns-in-Excluded-clause-parts : goal.returns-in-Excluded-clause-parts
returns-in-Excluded-clause-parts c =
    let es = c.args.entries.now in
    let k = c.in-Excluded.low in
    let before = rw c.as_slice-key-in-Excluded.ensures at c.place_below-in-Excluded.ensures.before in
    let behind = rw c.as_slice-key-in-Excluded.ensures at c.place_below-in-Excluded.ensures.behind in
    subst (λ x. IsPartitionPoint (λ (e : Entry). not (is_from x e.key.user_key) ≡ true) (λ (e : Entry). not (is_from x e.key.user_key) ≡ false) es c.place_below-in-Excluded.result) (sym c.in-Excluded.is) (
      λ j d _ lt. from_excluded k (get_or es j d) ∙ before j d lt,
      λ j d le lt. from_excluded k (get_or es j d) ∙ behind j d le lt,
    )
