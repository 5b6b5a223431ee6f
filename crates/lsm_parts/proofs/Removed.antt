-- Files of versions that are removed, the oldest first.
use Rattle.std.proofs.Common.{◌≡◌, ⊎_elim, ℕ, ◌+◌, ◌<◌, ◌≤◌, List, [], ◌∷◌, take, drop, length, get_or, zero, suc, None, refl, sym, ap, ◌∙◌, subst}
use Rattle.std.specs.List.{AllByRecursion}
use Rattle.std.proofs.lemmas.List.{drop_more, length-take-le, take-take}
use Rattle.lsm_below.specs.Each.{each_weaker}
use Rattle.lsm_store.specs.World.{World}
use Rattle.lsm_store.specs.Moments.{joined}
use Rattle.lsm_manifest.specs.Names.{version_name}
use Rattle.lsm_commit.specs.Stored.{HoldsOneOf}
use Rattle.lsm_commit.specs.Foreign.{AtRest, Passes}
use Rattle.lsm_parts.specs.declared.version.super_version.SuperVersion.{SuperVersion}
use Rattle.lsm_parts.specs.History.{SeenHistory, NumbersFall}
use Rattle.lsm_parts.specs.Maintenance.{KeepsNewer, KeepsVersions}

-- the files of all older super versions after the first n are gone, and beside files of older versions nothing has changed
pub record KeepsFiles (tells : Type 0) (h : SeenHistory) (n : ℕ) (old new : World) : Type 0 where
  pub gone : tells → AllByRecursion (λ sv. sv.version.id < h.latest.version.id → new.gives (version_name sv.version.id) ≡ None) (drop n h.older)
  pub keeps : tells → KeepsNewer h.latest.version.id old new
  pub stored : tells → KeepsVersions h.latest.version.id old new
  pub passes : tells → Passes old new
  pub failures : new.failures ≡ old.failures

drop_whole : {A : Type 0} (xs : List A) → drop (length xs) xs ≡ []
drop_whole [] = refl
drop_whole (x ∷ xs) = drop_whole xs

pub files_none : (tells : Type 0) (h : SeenHistory) (w : World) → (tells → AtRest w) → KeepsFiles tells h (length h.older) w w
files_none tells h w rests = record {
  gone = λ s. subst (AllByRecursion (λ sv. sv.version.id < h.latest.version.id → w.gives (version_name sv.version.id) ≡ None)) (sym (drop_whole h.older)) tt;
  keeps = λ s. record { may = λ n c out. (λ may. may, λ may. may); gives = λ n out. refl };
  stored = λ s versions unnamed stored newer. (stored, (rests s).leaves versions unnamed stored);
  passes = λ s. (rests s).passes;
  failures = refl;
}

module _ (id : ℕ) (old mid new : World) where
  pub newer_then : KeepsNewer id old mid → KeepsNewer id mid new → KeepsNewer id old new
  newer_then a b = record {
    may = λ n c out. (λ may. (a.may n c out).0 ((b.may n c out).0 may), λ may. (b.may n c out).1 ((a.may n c out).1 may));
    gives = λ n out. b.gives n out ∙ a.gives n out;
  }

  pub stored_then : KeepsVersions id old mid → KeepsVersions id mid new → KeepsVersions id old new
  stored_then a b versions unnamed stored newer =
      let first = a versions unnamed stored newer in
      let second = b versions unnamed first.0 newer in
      (second.0, joined old mid new (HoldsOneOf versions) (HoldsOneOf versions) (HoldsOneOf versions) first.1 second.1 (λ image has. has) (λ image has. has))

-- the last of the first n + 1, after its file
pub gone_more : (tells : Type 0) (h : SeenHistory) (n : ℕ) (mid new : World) (sv : SuperVersion) → n < length h.older → sv ≡ get_or h.older n sv → (tells → sv.version.id < h.latest.version.id → new.gives (version_name sv.version.id) ≡ None) → (tells → (m : List ℕ) → mid.gives m ≡ None → new.gives m ≡ None)
    → (tells → AllByRecursion (λ sv. sv.version.id < h.latest.version.id → mid.gives (version_name sv.version.id) ≡ None) (drop (n + 1) h.older)) → tells → AllByRecursion (λ sv. sv.version.id < h.latest.version.id → new.gives (version_name sv.version.id) ≡ None) (drop n h.older)
gone_more tells h n mid new sv lt is gone absent before s =
    let P = λ (u : SuperVersion). u.version.id < h.latest.version.id → new.gives (version_name u.version.id) ≡ None in
    subst (AllByRecursion P) (sym (drop_more h.older n sv lt ∙ ap (λ (x : SuperVersion). x ∷ drop (n + 1) h.older) (sym is)))
    (gone s, each_weaker (λ u. u.version.id < h.latest.version.id → mid.gives (version_name u.version.id) ≡ None) P (λ u was low. absent s (version_name u.version.id) (was low)) (drop (n + 1) h.older) (before s))

-- one less
pub shorter : {A : Type 0} (xs all : List A) (n : ℕ) → n ≤ length xs → length xs ≤ length all → xs ≡ take (length xs) all → take n xs ≡ take (length (take n xs)) all
shorter xs all n le within is = ap (take n) is ∙ take-take n (length xs) all le ∙ ap (λ m. take m all) (sym (length-take-le n xs le))

pub each_take : {A : Type 0} (P : A → Type 0) (n : ℕ) (xs : List A) → AllByRecursion P xs → AllByRecursion P (take n xs)
each_take P zero xs all = tt
each_take P (suc n) [] all = tt
each_take P (suc n) (x ∷ xs) all = (all.0, each_take P n xs all.1)

pub fall_take : (m n : ℕ) (xs : List SuperVersion) → NumbersFall m xs → NumbersFall m (take n xs)
fall_take m zero xs h = tt
fall_take m (suc n) [] h = tt
fall_take m (suc n) (x ∷ xs) h = (h.0, fall_take x.seqno n xs h.1)
