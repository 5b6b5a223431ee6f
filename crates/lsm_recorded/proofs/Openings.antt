-- What comes of opening a recorded tree, by what comes of opening the tree below it.
use Rattle.std.proofs.Common.{◌≡◌, ℕ, List, Option, None, Err, IsSome, refl, sym, subst}
use Rattle.std.specs.Prelude.{codes}
use Rattle.lsm_below.specs.declared.error.Error.{Error}
use Rattle.lsm_below.specs.declared.error.Error.TheVariants as error
use Rattle.lsm_store.specs.World.{World}
use Rattle.lsm_versions.specs.Levels.{SeenVersion}
use Rattle.lsm_manifest.specs.declared.found.Found.{Found}
use Rattle.lsm_manifest.specs.declared.opening.Opened.{Opened}
use Rattle.lsm_manifest.specs.Looking.{Looks}
use Rattle.lsm_manifest.specs.Opening.{Opens, OpensFiles, OpensNew, OpensAs, IsOlder, KeepsFiles, LeavesStanding}
use Rattle.lsm_manifest.specs.OpeningLaws.{told_memory, told_unrecoverable, told_with, told_not_as, found_others, found_first}
use Rattle.lsm_manifest.specs.OpeningWith.{IsUnrecoverable}
use Rattle.lsm_manifest.specs.Ready.{OpeningLeavesRead}
use Rattle.lsm_manifest.specs.Told.{Told, TellsOpen, told_weaker}
use Rattle.lsm_manifest.specs.Versions.{first_version}
use Rattle.lsm_state.specs.Opened.{FoundStanding}
use Rattle.lsm_recorded.specs.MarkedTables.{TablesAreInOrder}
use Rattle.lsm_recorded.specs.Opened.{OpensRecorded}

none_not : (o : Option (List ℕ)) → IsSome o → o ≡ None → ⊥
none_not o there none = let e = subst (λ (p : Option (List ℕ)). IsSome p) none there in absurd (cc e)

-- no table, and so none out of order
first_in_order : TablesAreInOrder first_version.levels
first_in_order = record { ordered = λ k. tt; single = λ k. tt }

module _ {S : Type 0} (world : S → World) (law : OpeningLeavesRead S world) (old new : S) (leaves : LeavesStanding (world old) (world new)) where
  -- refused as the tree below is
  pub refused_so : (e : Error) → Told TellsOpen (Opens (world old) (world new)) (Err e) → OpensRecorded world old (Err (e, new))
  refused_so e told =
      let opens = Opens (world old) (world new) in
      record {
        version = λ there. told_weaker TellsOpen opens (IsOlder {T = Opened}) (Err e) (λ q o. o.version there) told;
        opens = λ none there. told_with TablesAreInOrder (world old).gives e (told_weaker TellsOpen opens (OpensFiles (world old).gives) (Err e) (λ q o. o.opens none there) told);
        from = λ there. tt;
        takes = λ id ls ts stands small ordered. told_weaker TellsOpen opens (OpensAs id ls ts) (Err e) (λ q o. o.takes id ls ts stands small) told;
        unordered = λ id ls ts stands small others. told_not_as id ls ts e (told_weaker TellsOpen opens (OpensAs id ls ts) (Err e) (λ q o. o.takes id ls ts stands small) told);
        new = λ none absent. told_weaker TellsOpen opens (OpensNew (world old) (world new)) (Err e) (λ q o. o.fresh none absent) told;
        removes = λ id ls named. tt;
        any_moment = leaves.any_moment;
        stands = leaves.stands;
        new_moment = leaves.new_moment;
        meanwhile = λ ts ready finds. law old new ts ready finds leaves;
        stored = λ ready. tt;
        keeps = told_weaker TellsOpen opens (KeepsFiles {T = Opened} (world old) (world new)) (Err e) (λ q o. o.keeps) told;
      }

  -- for want of memory, when nothing has changed
  pub memory_so : (f : Found) → Looks (world old) (world new) f → OpensRecorded world old (Err (error.OutOfMemory, new))
  memory_so f looks = refused_so error.OutOfMemory (
      told_memory
      (Opens (world old) (world new))
      record {
        version = λ there. tt;
        opens = λ none there. tt;
        from = λ there. tt;
        takes = λ id ls ts stands small. tt;
        fresh = λ none absent. tt;
        removes = λ id ls named. tt;
        settles = λ there. tt;
        keeps = tt;
        unnamed = λ unnamed. looks.same;
        older = λ there. looks.same;
      }
      )

  -- since its tables aren't in order
  pub others_so : (f : Found) → Looks (world old) (world new) f → FoundStanding (world old) f → (TablesAreInOrder f.opened.version.levels → ⊥) → OpensRecorded world old (Err (error.Unrecoverable, new))
  others_so f looks standing others = record {
    version = λ there. absurd (none_not ((world old).gives (codes "version")) there looks.found.no_version);
    opens = λ none there. found_others TablesAreInOrder (world old) (world new) f looks others there;
    from = λ there. tt;
    takes = λ id ls ts stands small ordered. absurd (others (subst TablesAreInOrder (sym (standing id ls ts stands small).1) ordered));
    unordered = λ id ls ts stands small none. told_unrecoverable (IsUnrecoverable {T = Opened}) refl;
    new = λ none absent. absurd (others (subst (λ (v : SeenVersion). TablesAreInOrder v.levels) (sym (found_first (world old) (world new) f looks absent)) first_in_order));
    removes = λ id ls named. tt;
    any_moment = leaves.any_moment;
    stands = leaves.stands;
    new_moment = leaves.new_moment;
    meanwhile = λ ts ready finds. law old new ts ready finds leaves;
    stored = λ ready. tt;
    keeps = told_unrecoverable (KeepsFiles {T = Opened} (world old) (world new)) looks.same;
  }
