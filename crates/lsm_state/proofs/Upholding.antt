-- Calls keep a tree's files stored, and a crash meanwhile leaves one of its versions.
use Rattle.std.proofs.Common.{◌≡◌, ◌<◌, List, [], ◌∷◌, ◌++◌, Some, None, Result, Ok, Err, IsErrOf, option_to_list, refl, sym, ap, ◌∙◌, subst, arith, inl, inr, ⊎_elim}
use Rattle.lsm_below.specs.Members.{IsIn, each_in}
use Rattle.lsm_below.specs.declared.error.Error.{Error}
use Rattle.lsm_below.specs.declared.error.Error.TheVariants.{CommitUnknown}
use Rattle.lsm_store.specs.World.{World}
use Rattle.lsm_store.specs.Moments.{weakened}
use Rattle.lsm_tables.specs.Tables.{SeenTable}
use Rattle.lsm_versions.specs.Levels.{SeenVersion, all_of}
use Rattle.lsm_commit.specs.Stored.{IsStored, AreOnDisk, HoldsOneOf, Leaves, AreAmong}
use Rattle.lsm_commit.specs.Commits.{Stores, CommitsStored}
use Rattle.lsm_state.specs.Core.{Core, Seen, versions_left, written_of}
use Rattle.lsm_commit.specs.Foreign.{AtRest}
use Rattle.lsm_state.specs.Commits.{UpholdsFiles, Upholds}

-- ---- lists of versions

others : (xs : List SeenVersion) (v : SeenVersion) (ys : List SeenVersion) → AreAmong xs ys → AreAmong xs (v ∷ ys)
others [] v ys h = tt
others (x ∷ xs) v ys h = (inr h.0, others xs v ys h.1)

pub among_left : (xs ys : List SeenVersion) → AreAmong xs (xs ++ ys)
among_left [] ys = tt
among_left (x ∷ xs) ys = (inl refl, others xs x (xs ++ ys) (among_left xs ys))

among_self : (ys : List SeenVersion) → AreAmong ys ys
among_self [] = tt
among_self (y ∷ ys) = (inl refl, others ys y ys (among_self ys))

pub among_right : (xs ys : List SeenVersion) → AreAmong ys (xs ++ ys)
among_right [] ys = among_self ys
among_right (x ∷ xs) ys = others ys x (xs ++ ys) (among_right xs ys)

pub leaves_more : (w w' : World) (some all : List SeenVersion) → AreAmong some all → Leaves w w' some → Leaves w w' all
leaves_more w w' some all among leaves = weakened w w' (HoldsOneOf some) (HoldsOneOf all) leaves (λ image one. (one.0, each_in (λ v. IsIn v all) some one.0 among one.1, one.2, one.3))

-- ---- calls

-- what is stored of a tree stays so
pub upheld : (w w' : World) (old new : Core) (vs : List SeenVersion) (ts : List SeenTable) (some : List SeenVersion) → versions_left new ≡ vs → written_of new ≡ ts → IsStored w' vs ts → Leaves w w' some → AreAmong some (versions_left old ++ vs)
    → IsStored w' (versions_left new) (written_of new) × Leaves w w' (versions_left old ++ versions_left new)
upheld w w' old new vs ts some is_vs is_ts stored leaves among = (
  subst (λ l. IsStored w' l (written_of new)) (sym is_vs) (subst (λ l. IsStored w' vs l) (sym is_ts) stored),
  subst (λ l. Leaves w w' (versions_left old ++ l)) (sym is_vs) (leaves_more w w' some (versions_left old ++ vs) among leaves),
)

-- nothing is done
pub upheld_still : (w : World) (old new : Core) → versions_left new ≡ versions_left old → written_of new ≡ written_of old → AtRest w → Upholds w w old new
upheld_still w old new vs ts stays = record {
  files = λ stored. upheld w w old new (versions_left old) (written_of old) (versions_left old) vs ts stored (stays.leaves (versions_left old) (written_of old) stored) (among_left (versions_left old) (versions_left old));
  passes = stays.passes;
}

-- the same of a tree, whose store was read
pub upheld_at : {S : Type 0} (world : S → World) (now : Seen S) (store : S) → store ≡ now.store → AtRest (world store) → Upholds (world now.store) (world now.store) now.core now.core
upheld_at world now store read rest = upheld_still (world now.store) now.core now.core refl refl (subst (λ s. AtRest (world s)) read rest)

-- a commit
module _ (w w' : World) (old new : Core) (v : SeenVersion) (certain : old.lost ≡ None) (later : old.history.latest.version.id < v.id) (disk : AreOnDisk w (all_of v.levels)) (same : new.flush ≡ old.flush) where
  abbrev latest : SeenVersion
  latest = old.history.latest.version

  left_is : versions_left old ≡ latest ∷ []
  left_is = ap (λ o. latest ∷ option_to_list o) certain

  written_is : written_of new ≡ written_of old
  written_is = ap (λ f. written_of (record old { flush = f })) same

  stores : (r : Result (Unit {0}) Error) → CommitsStored v w w' r → IsStored w (versions_left old) (written_of old) → Stores latest v (written_of old) w w' r
  stores r commits stored = commits latest (written_of old) (subst (λ l. IsStored w l (written_of old)) left_is stored) (λ e. let eq : v.id ≡ latest.id = e in let lt : latest.id < v.id = later in absurd (omega (arith, eq, lt))) disk

  pub committed_upholds : (x : Unit {0}) → CommitsStored v w w' (Ok x) → new.history.latest.version ≡ v → new.lost ≡ None → UpholdsFiles w w' old new
  committed_upholds x commits is lost stored =
      let s = stores (Ok x) commits stored in
      upheld w w' old new (v ∷ []) (written_of old) (latest ∷ (v ∷ [])) (ap (λ o. new.history.latest.version ∷ option_to_list o) lost ∙ ap (λ u. u ∷ []) is) written_is s.ok s.leaves
      (subst (λ l. AreAmong (latest ∷ (v ∷ [])) (l ++ v ∷ [])) (sym left_is) (inl refl, (inr (inl refl), tt)))

  pub doubted_upholds : (e : Error) → CommitsStored v w w' (Err e) → e ≡ CommitUnknown → new.history.latest.version ≡ latest → new.lost ≡ Some v → UpholdsFiles w w' old new
  doubted_upholds e commits is still lost stored =
      let s = stores (Err e) commits stored in
      upheld w w' old new (latest ∷ (v ∷ [])) (written_of old) (latest ∷ (v ∷ [])) (ap (λ o. new.history.latest.version ∷ option_to_list o) lost ∙ ap (λ u. u ∷ (v ∷ [])) still) written_is (s.unknown (ap Err is)) s.leaves
      (among_right (versions_left old) (latest ∷ (v ∷ [])))

  pub refused_upholds : (e : Error) → CommitsStored v w w' (Err e) → (e ≡ CommitUnknown → ⊥) → new.history.latest.version ≡ latest → new.lost ≡ old.lost → UpholdsFiles w w' old new
  refused_upholds e commits isnt still lost stored =
      let s = stores (Err e) commits stored in
      let one = ⊎_elim (λ (u : IsErrOf {T = Unit {0}} (Err e) CommitUnknown). absurd (isnt (err_same e CommitUnknown u))) (λ (p : IsStored w' (latest ∷ []) (written_of old) × Leaves w w' (latest ∷ [])). p) s.refused in
      upheld w w' old new (latest ∷ []) (written_of old) (latest ∷ []) (ap (λ o. new.history.latest.version ∷ option_to_list o) (lost ∙ certain) ∙ ap (λ u. u ∷ []) still) written_is one.0 one.1
      (among_right (versions_left old) (latest ∷ []))
    where
      err_same : (a b : Error) → ◌≡◌ {A = Result (Unit {0}) Error} (Err a) (Err b) → a ≡ b
      err_same a b h = cc h
