-- A store of which each image that a crash may leave stands, and whose log isn't bad in any, can be read: what its log reads can be put on
-- the disk. It may be opened, where each is numbered below 2^63.
use Rattle.std.proofs.Common.{◌≡◌, inl, inr, ℕ, true, false, List, [], Option, Some, IsSome, refl, sym, ap, ◌∙◌, subst, codes}
use Rattle.std.specs.Prelude.{nat_eq, unwrap_or}
use Rattle.std.specs.List.{starts_with}
use Rattle.std.proofs.lemmas.Bool.{both_ways}
use Rattle.lsm_store.specs.World.{Image, World, IsImage}
use Rattle.lsm_logged.specs.Levels.{SeenVersion}
use Rattle.lsm_manifest.specs.Finding.{FoundOnce, UnreadNamesDontMatter}
use Rattle.lsm_manifest.specs.Ready.{IsReady}
use Rattle.lsm_manifest.proofs.Readiness.{changed, changed_here, changed_else, changed_is}
use Rattle.lsm_log.specs.LogNames.{record_name}
use Rattle.lsm_log.specs.Logs.{IsBadLog}
use Rattle.lsm_log.specs.Records.{Ops, IsRecordOf, front}
use Rattle.lsm_log_model.specs.Records.{LogStands}
use Rattle.lsm_logged.specs.Meanwhile.{ReadsVersion}
use Rattle.lsm_logged.specs.Opening.{CanBeSettled}
use Rattle.lsm_logged.proofs.LogNames.{refused_begins}
use Rattle.lsm_logged.proofs.Meanwhile.{reads_outside}
use Rattle.lsm_runs.proofs.Readiness.{less_ready}
use Rattle.lsm_log_runs.specs.Images.{HoldsLogged, IsSmall, CanBeRead, LogMayBeOpened}

-- ---- another content of a name in the folder of the log

module _ (once : FoundOnce) (unread : UnreadNamesDontMatter) (image : Image) (m : List ℕ) (c : Option (List ℕ)) (inside : starts_with nat_eq m (codes "log/") ≡ true) where
  outside : (n : List ℕ) → starts_with nat_eq n (codes "log/") ≡ false → changed image m c n ≡ image n
  outside n out = changed_else image m c n (λ e. both_ways (starts_with nat_eq n (codes "log/")) out (ap (λ (l : List ℕ). starts_with nat_eq l (codes "log/")) e ∙ inside))

  -- is none of the version's
  pub reads_still : (v : SeenVersion) → ReadsVersion image v → ReadsVersion (changed image m c) v
  reads_still v reads = reads_outside unread image (changed image m c) outside v reads

-- ---- what its log reads

-- an empty file is no record
empty_is_none : (k : ℕ) (ops : Ops) → IsRecordOf k ops [] → ⊥
unfolding front
empty_is_none k ops r = let e = r.written in absurd (cc e)

module _ (once : FoundOnce) (unread : UnreadNamesDontMatter) (w : World) (stands : (image : Image) → IsImage w.may image → HoldsLogged LogStands image) where
  -- so no name in the folder of the log can have a content that makes the log bad
  never : (image : Image) (v : SeenVersion) → IsImage w.may image → ReadsVersion image v → (m : List ℕ) (c : Option (List ℕ)) (inside : starts_with nat_eq m (codes "log/") ≡ true) → IsBadLog (changed image m c) v.log_from → ¬ w.may m c
  never image v at reads m c inside bad may =
      (stands (changed image m c) (changed_is image m c w at may)).good v (reads_still once unread image m c inside v reads) bad

  there : (image : Image) (m : List ℕ) (inside : starts_with nat_eq m (codes "log/") ≡ true) → IsSome (changed image m (Some []) m)
  there image m inside = subst (λ (o : Option (List ℕ)). IsSome o) (sym (changed_here image m (Some []))) refl

  settles : (image : Image) (v : SeenVersion) → IsImage w.may image → ReadsVersion image v → CanBeSettled w v.log_from
  settles image v at reads = record {
    records = λ k small le. (
      Some [],
      never image v at reads (record_name k) (Some []) refl (inr (
        k,
        record { small = small; file = there image (record_name k) refl },
        le,
        λ bytes ops file r.
            let e : [] ≡ bytes = ap (λ (o : Option (List ℕ)). unwrap_or o []) (sym (changed_here image (record_name k) (Some [])) ∙ file) in
            empty_is_none k ops (subst (IsRecordOf k ops) (sym e) r),
      )),
    );
    refused = λ n bad. (
      Some [],
      never image v at reads n (Some []) (refused_begins n bad) (inl (record { name = n; refused = bad; there = there image n (refused_begins n bad) })),
    );
  }

  pub stands_read : IsReady w → CanBeRead w
  stands_read ready = record { ready = ready; stands = stands; settles = settles }

  pub stands_opens : ((image : Image) → IsImage w.may image → HoldsLogged IsSmall image) → IsReady w → LogMayBeOpened w
  stands_opens small ready = record { read = stands_read ready; small = small }

-- and so can one of which a crash leaves less
pub less_opens : FoundOnce → UnreadNamesDontMatter → (old new : World) → ((image : Image) → IsImage new.may image → IsImage old.may image) → LogMayBeOpened old → LogMayBeOpened new
less_opens once unread old new less may =
    stands_opens once unread new (λ image at. may.read.stands image (less image at)) (λ image at. may.small image (less image at)) (less_ready old new less may.read.ready)
