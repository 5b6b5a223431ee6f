use Rattle.std.proofs.Common.{ℕ, List, sym, ap, subst, ◌++◌, ◌∙◌, drop, arith}
use Rattle.std.specs.List.{flat_map}
use Rattle.lsm_tables.specs.Image.{front, spelled, image}
use Rattle.lsm_tables.specs.OpenImages.{SeenOpenImage, Spells}
use Rattle.lsm_tables.proofs.Lengths.{with_other_front}
use Rattle.lsm_tables.proofs.image.open.OpenImage.finish.Goals as goal

pub returns : goal.returns
returns c es h =
    let i = c.self.inside in
    let seen : SeenOpenImage = record { made_at = i.made_at; bytes = i.bytes.items; count = i.count } in
    let s : Spells es seen = subst (Spells es) (sym c.self.view_is) h in
    let put = c.put_front.ensures ∙ ap (λ (b : List ℕ). front i.made_at i.count ++ drop 20 b) c.deref_mut.ensures.value in
    with_other_front i.made_at i.count 0 i.bytes.len (flat_map spelled es) i.bytes.items c.put_front.new.bytes s.bytes put (let ok = i.bytes.ok in omega arith)
    ∙ ap (λ (n : ℕ). front i.made_at n ++ flat_map spelled es) s.count
    ∙ ap (λ (x : SeenOpenImage). image x.made_at es) c.self.view_is
