-- An image tells once from which number a version reads a log.
use Rattle.std.proofs.Common.{◌≡◌, ℕ, List, Option, Some, None, IsSome, refl, sym, ap, ◌∙◌, subst}
use Rattle.lsm_store.specs.World.{Image}
use Rattle.lsm_tables.specs.Spellings.{ok_is}
use Rattle.lsm_versions.specs.Levels.{Levels as SeenLevels, SeenVersion}
use Rattle.lsm_manifest.specs.Finding.{Finds, Named, FoundOnce}
use Rattle.lsm_manifest.specs.Names.{current_name, version_name}
use Rattle.lsm_manifest.specs.Opening.{ReadsFrom}
use Rattle.lsm_manifest.specs.Reading.{told_at}
use Rattle.lsm_manifest.specs.Recovery.{Levels}
use Rattle.lsm_manifest.specs.Versions.{log_from_in, named_levels}
use Rattle.lsm_commit.specs.Stored.{HoldsOneOf}
use Rattle.lsm_logged.specs.Meanwhile.{ReadsVersion}
use Rattle.lsm_manifest.proofs.OpeningLemmas.{named_once}
use Rattle.lsm_manifest.proofs.Recovering.{named_so}
use Rattle.lsm_manifest.proofs.Whole.{told_again}

pub from_once : (image : Image) (u v : SeenVersion) → ReadsFrom image u → ReadsFrom image v → u.levels ≡ v.levels → u.log_from ≡ v.log_from
from_once image u v a b same =
    let id : u.id ≡ v.id = (named_once image u.id v.id a.layout b.layout (named_so image u.id a.from a.layout a.named) (named_so image v.id b.from b.layout b.named)).0 in
    let files : Some a.named.bytes ≡ Some b.named.bytes = sym a.named.version ∙ ap (λ i. image (version_name i)) id ∙ b.named.version in
    let bytes : a.named.bytes ≡ b.named.bytes = cc files in
    let told = ok_is (a.from, a.layout) (b.from, b.layout) (sym (told_again a.from a.layout a.named.bytes a.named.reads) ∙ ap told_at bytes ∙ told_again b.from b.layout b.named.bytes b.named.reads) in
    let from : a.from ≡ b.from = ap (λ (p : Option ℕ × Levels). p.0) told in
    a.is ∙ ap (λ o. log_from_in o u.levels) from ∙ ap (log_from_in b.from) same ∙ sym b.is

-- what is found in an image that has one of these versions is that version
pub version_once : FoundOnce → (versions : List SeenVersion) (image : Image) (v : SeenVersion) → (one : HoldsOneOf versions image) → Finds image v.levels → ReadsFrom image v → (one.0.levels ≡ v.levels) × (one.0.log_from ≡ v.log_from)
version_once once versions image v one found reads =
    let same = once image one.0.levels v.levels (Named one.0.id (named_levels one.0.levels) one.2) found in
    (same, from_once image one.0 v one.3 reads same)

abbrev made : ℕ → ℕ → SeenLevels → SeenVersion
made id from levels = record { id = id; log_from = from; levels = levels }

-- an opening reads one version in an image
pub version_is_one : FoundOnce → (image : Image) (u v : SeenVersion) → ReadsVersion image u → ReadsVersion image v → u ≡ v
version_is_one once image u v a b = by_current (image current_name) refl
  where
    named_one : ReadsFrom image u → ReadsFrom image v → u.levels ≡ v.levels → u ≡ v
    named_one x y same =
        let id : u.id ≡ v.id = (named_once image u.id v.id x.layout y.layout (named_so image u.id x.from x.layout x.named) (named_so image v.id y.from y.layout y.named)).0 in
        let from : u.log_from ≡ v.log_from = from_once image u v x y same in
        ap (λ i. made i u.log_from u.levels) id ∙ (ap (λ f. made v.id f u.levels) from ∙ ap (made v.id v.log_from) same)

    by_current : (c : Option (List ℕ)) → image current_name ≡ c → u ≡ v
    by_current None is = a.fresh is ∙ sym (b.fresh is)
    by_current (Some bytes) is =
        let there = subst (λ (o : Option (List ℕ)). IsSome o) (sym is) refl in
        named_one (a.version there) (b.version there) (once image u.levels v.levels (a.found there) (b.found there))
