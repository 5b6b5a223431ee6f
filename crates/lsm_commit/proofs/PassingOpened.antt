-- An opening leaves foreign names.
use Rattle.std.proofs.Common.{◌≡◌, ◌≢◌, ⊎_elim, ℕ, Bool, true, false, ◌||◌, List, Option, Some, None, Ok, IsSome, refl, sym, ap, ◌∙◌, subst, codes}
use Rattle.lsm_store.specs.World.{World, IsOnDisk, LeavesOnly}
use Rattle.lsm_store.specs.Moments.{weakened}
use Rattle.lsm_manifest.specs.declared.kinds.NameKind.TheVariants.{VersionFile, Other}
use Rattle.lsm_manifest.specs.declared.opening.Opened.{Opened}
use Rattle.lsm_manifest.specs.Names.{current_name, version_name}
use Rattle.lsm_manifest.specs.Kinds.{kind_of, is_old_version, is_stray, is_orphan}
use Rattle.lsm_manifest.specs.Clearing.{IsCleared, Removes}
use Rattle.lsm_manifest.specs.Persist.{IsOldOrNew}
use Rattle.lsm_manifest.specs.Spelling.{ids_of}
use Rattle.lsm_manifest.specs.Versions.{file_of, first_version}
use Rattle.lsm_manifest.specs.Opening.{IsFirstNamed, Opens, LeavesStanding}
use Rattle.lsm_commit.specs.Foreign.{IsForeign, KeepsForeign, Passes}

pub no_orphan : (id : ℕ) (ids n : List ℕ) → IsForeign n → is_orphan id ids n ≡ false
no_orphan id ids n foreign = ap (λ k. is_old_version id n k || is_stray ids k) foreign.other

both_ways : (b : Bool) → b ≡ true → b ≡ false → ⊥
both_ways b t f = let z : true ≡ false = sym t ∙ f in absurd (cc z)

-- orphans are removed
removed : (id : ℕ) (ids : List ℕ) (old new : World) → Removes (is_orphan id ids) old new → LeavesOnly old new (IsCleared (is_orphan id ids) old) → Passes old new
removed id ids old new r leaves = record {
  gives = λ n foreign. r.gives n (no_orphan id ids n foreign);
  may = λ n c foreign m. ⊎_elim (λ was. was) (λ gone. absurd (both_ways (is_orphan id ids n) gone.1 (no_orphan id ids n foreign))) (r.may n c m);
  leaves = weakened old new (IsCleared (is_orphan id ids) old) (KeepsForeign old) leaves
      (λ image cleared n foreign. ⊎_elim (λ was. was) (λ gone. absurd (both_ways (is_orphan id ids n) gone.1 (no_orphan id ids n foreign))) (cleared n));
}

module _ (first_kind : kind_of (version_name 0) ≡ VersionFile) where
  no_first : (n : List ℕ) → IsForeign n → n ≢ version_name 0
  no_first n foreign e = let z : Other ≡ VersionFile = sym foreign.other ∙ (ap kind_of e ∙ first_kind) in absurd (cc z)

  -- a new tree is persisted
  persisted : (old new : World) → IsFirstNamed old new → LeavesOnly old new (IsOldOrNew 0 (file_of first_version) old) → Passes old new
  persisted old new p leaves = record {
    gives = λ n foreign. p.gives n (no_first n foreign) foreign.not_current;
    may = λ n c foreign. p.may n c (no_first n foreign) foreign.not_current;
    leaves = weakened old new (IsOldOrNew 0 (file_of first_version) old) (KeepsForeign old) leaves (λ image one n foreign. one.elsewhere n (no_first n foreign) foreign.not_current);
  }

  pub opening_passes : (old new : World) (o : Opened) → Opens old new (Ok o) → LeavesStanding old new → Passes old new
  opening_passes old new o opens leaves = by_version (old.gives (codes "version")) refl
    where
      named : old.gives (codes "version") ≡ None → (c : Option (List ℕ)) → old.gives current_name ≡ c → Passes old new
      named none None is = persisted old new (opens.fresh none is).persisted (leaves.new_moment is)
      named none (Some bytes) is =
          let found = opens.opens none (subst IsSome (sym is) refl) in
          let at = found.1.named in
          removed o.version.id (ids_of found.1.layout) old new (opens.removes o.version.id found.1.layout at) (leaves.any_moment o.version.id found.1.layout at)

      by_version : (c : Option (List ℕ)) → old.gives (codes "version") ≡ c → Passes old new
      by_version None is = named is (old.gives current_name) refl
      by_version (Some bytes) is = absurd (opens.version (subst IsSome (sym is) refl))

  -- what was read of them is on the disk
  pub opening_settles : (old new : World) (o : Opened) → Opens old new (Ok o) → (n : List ℕ) → IsForeign n → IsOnDisk old new n
  opening_settles old new o opens n foreign = by_version (old.gives (codes "version")) refl
    where
      named : old.gives (codes "version") ≡ None → (c : Option (List ℕ)) → old.gives current_name ≡ c → IsOnDisk old new n
      named none None is = (opens.fresh none is).persisted.on_disk n (no_first n foreign) foreign.not_current
      named none (Some bytes) is =
          let found = opens.opens none (subst IsSome (sym is) refl) in
          let ids = ids_of found.1.layout in
          (opens.removes o.version.id found.1.layout found.1.named).on_disk n (no_orphan o.version.id ids n foreign)

      by_version : (c : Option (List ℕ)) → old.gives (codes "version") ≡ c → IsOnDisk old new n
      by_version None is = named is (old.gives current_name) refl
      by_version (Some bytes) is = absurd (opens.version (subst IsSome (sym is) refl))
