-- Which records are known, after calls that pass records or remove some.
use Rattle.std.proofs.Common.{◌≡◌, ◌≢◌, ◌⊎◌, ⊎_elim, inl, inr, ℕ, ◌<◌, ◌^◌, Bool, true, false, List, [], ◌∷◌, eqb, eqb-true, take, drop, Option, None, IsSome, Contains, Result, Ok, Err, OnOk, OnErr, refl, sym, subst, arith}
use Rattle.std.proofs.lemmas.List.{take-append-drop}
use Rattle.std.specs.List.{All, AllByRecursion}
use Rattle.std.proofs.lemmas.Bool.{eqb-false}
use Rattle.std.proofs.lemmas.List.Elements.{All-contains, All-from_recursion, Contains-append_cases, Contains-append_right}
use Rattle.lsm_below.specs.Numbers.{PlainNumbersAreRead}
use Rattle.lsm_below.specs.declared.error.Error.{Error}
use Rattle.lsm_store.specs.World.{World}
use Rattle.lsm_commit.specs.Foreign.{Passes}
use Rattle.lsm_log.specs.LogNames.{record_name}
use Rattle.lsm_log.specs.Changes.{IsNoneOf}
use Rattle.lsm_state.specs.Core.{Core, Seen}
use Rattle.lsm_state.specs.Commits.{UpholdsFiles, Upholds}
use Rattle.lsm_logged.specs.Keeping.{SeenLogged, AreKnown}
use Rattle.lsm_logged.specs.Removing.{log_from_of, Forgets, AreGone, KeepsKnown, RemovesPassed, Passed}
use Rattle.lsm_logged.proofs.LogNames.{names_apart, record_is_foreign}
use Rattle.lsm_logged.proofs.Seen.{logged_with}
use Rattle.lsm_logged.proofs.Removals.{LeavesBehind, removed_on, leaves_behind}

-- a number is forgotten only where no record of it is left
abbrev pub ForgetsGone : World → List ℕ → List ℕ → Type 0
ForgetsGone new numbers left = (k : ℕ) → Contains numbers k → Contains left k ⊎ (new.gives (record_name k) ≡ None)

forgets_none : (new : World) (numbers left : List ℕ) → left ≡ numbers → ForgetsGone new numbers left
forgets_none new numbers left same k has = inl (subst (λ l. Contains l k) (sym same) has)

forgets_gone : {T : Type 0} (r : Result T Error) (from : ℕ) (numbers left : List ℕ) (old new : World) → RemovesPassed from numbers old new r → OnOk r (Forgets from numbers left) → OnErr r (left ≡ numbers) → ForgetsGone new numbers left
forgets_gone (Ok x) from numbers left old new removes forgets keeps k has = ⊎_elim
    (λ early. inr (removes.gone k has (All-contains (λ j. j < from) (take forgets.at numbers) k forgets.gone early)))
    (λ late. inl (subst (λ l. Contains l k) (sym forgets.items) late))
    (Contains-append_cases (take forgets.at numbers) (drop forgets.at numbers) k (subst (λ l. Contains l k) (sym (take-append-drop forgets.at numbers)) has))
forgets_gone (Err e) from numbers left old new removes forgets keeps k has = forgets_none new numbers left keeps k has

-- nothing is done
pub known_still : (w : World) (numbers : List ℕ) → KeepsKnown w w numbers numbers
known_still w numbers = record { forgotten = λ k has. inl has; known = λ known. known }

-- of names that are none of the tree's own nothing changes
passes_known : (old new : World) (numbers : List ℕ) → Passes old new → AreKnown old numbers → AreKnown new numbers
passes_known old new numbers passes known k small there = known k small (subst (λ (c : Option (List ℕ)). IsSome c) (passes.gives (record_name k) (record_is_foreign k)) there)

-- so no number is forgotten
keeps_all : (old new : World) (numbers : List ℕ) → Passes old new → KeepsKnown old new numbers numbers
keeps_all old new numbers passes = record { forgotten = λ k has. inl has; known = passes_known old new numbers passes }

-- what a call after another one keeps known, where that changed neither the store nor the numbers
pub known_behind : {S : Type 0} (world : S → World) (old mid new : SeenLogged S) → mid.store ≡ old.store → mid.numbers ≡ old.numbers → KeepsKnown (world mid.store) (world new.store) mid.numbers new.numbers → KeepsKnown (world old.store) (world new.store) old.numbers new.numbers
known_behind world old mid new store numbers known = subst (λ l. KeepsKnown (world old.store) (world new.store) l new.numbers) numbers (subst (λ s. KeepsKnown (world s) (world new.store) mid.numbers new.numbers) store known)

-- is the number among these?
pub is_known_or_not : (k : ℕ) (ns : List ℕ) → Contains ns k ⊎ AllByRecursion (λ j. j ≢ k) ns
is_known_or_not k [] = inr tt
is_known_or_not k (n ∷ ns) =
    elim (eqb n k) as (λ q. eqb n k ≡ q → Contains (n ∷ ns) k ⊎ AllByRecursion (λ j. j ≢ k) (n ∷ ns)) [
      | true ↦ λ h. inl (0, omega arith, eqb-true n k h)
      | false ↦ λ h. ⊎_elim
          (λ (z : Contains ns k). inl (Contains-append_right (n ∷ []) ns k z))
          (λ (z : AllByRecursion (λ j. j ≢ k) ns). inr (eqb-false n k h, z))
          (is_known_or_not k ns)
    ] refl

-- records are removed, whose numbers are those of 64 bits
module _ (read : PlainNumbersAreRead) (from : ℕ) (numbers left : List ℕ) (fit : All (λ j. j < 2 ^ 64) numbers) (old new : World) where
  -- the name of a record that is none of theirs
  no_name : (k : ℕ) → k < 2 ^ 63 → AllByRecursion (λ j. j ≢ k) numbers → IsNoneOf (Contains numbers) (record_name k)
  no_name k small out j has e =
      let wide : j < 2 ^ 64 = All-contains (λ j. j < 2 ^ 64) numbers j fit has in
      All-contains (λ j. j ≢ k) numbers j (All-from_recursion (λ j. j ≢ k) numbers out) has (sym (names_apart read k j (omega (arith, small)) wide e))

  pub removed_known : {T : Type 0} (r : Result T Error) → RemovesPassed from numbers old new r → OnOk r (Forgets from numbers left) → OnErr r (left ≡ numbers) → KeepsKnown old new numbers left
  removed_known r removes forgets keeps = record { forgotten = forgotten; known = stays }
    where
      forgotten : ForgetsGone new numbers left
      forgotten = forgets_gone r from numbers left old new removes forgets keeps

      was_known : AreKnown old numbers → (k : ℕ) → k < 2 ^ 63 → IsSome (new.gives (record_name k)) → Contains numbers k
      was_known known k small there =
          ⊎_elim (λ has. has) (λ out. known k small (subst (λ (c : Option (List ℕ)). IsSome c) (removes.others (record_name k) (no_name k small out)) there)) (is_known_or_not k numbers)

      stays : AreKnown old numbers → AreKnown new left
      stays known k small there =
          ⊎_elim (λ kept. kept) (λ gone. let no = subst (λ (c : Option (List ℕ)). IsSome c) gone there in absurd (cc no)) (forgotten k (was_known known k small there))

-- ---- a logged tree, of which a commit and a removal after it are told

-- which records are known, beside what is left
pub record LeavesLogged {S : Type 0} (world : S → World) (old new : SeenLogged S) : Type 0 where
  pub left : LeavesBehind (world old.store) (world new.store) old.core new.core
  pub known : KeepsKnown (world old.store) (world new.store) old.numbers new.numbers

pub leaves_logged : {S : Type 0} (world : S → World) (tree mid : Seen S) (numbers : List ℕ) (doubted : Bool) (new seen : SeenLogged S) → logged_with tree numbers doubted ≡ seen → Upholds (world tree.store) (world mid.store) tree.core mid.core → new.core ≡ mid.core
    → UpholdsFiles (world mid.store) (world new.store) mid.core new.core → Passed (log_from_of mid.core) (world mid.store) (world new.store) → KeepsKnown (world mid.store) (world new.store) numbers new.numbers → LeavesLogged world seen new
leaves_logged world tree mid numbers doubted new seen view commits same files passed known =
    let left = leaves_behind (world tree.store) (world mid.store) (world new.store) tree.core mid.core new.core commits same files passed in
    subst (λ t. LeavesLogged world t new) view (record {
      left = left;
      known = record { forgotten = known.forgotten; known = λ was. known.known (passes_known (world tree.store) (world mid.store) numbers commits.passes was) };
    })

-- of a removal of records that the version has passed
pub leaves_removed : {S T : Type 0} (world : S → World) (tree mid : Seen S) (numbers : List ℕ) (doubted : Bool) (new seen : SeenLogged S) → logged_with tree numbers doubted ≡ seen → Upholds (world tree.store) (world mid.store) tree.core mid.core → new.core ≡ mid.core
    → UpholdsFiles (world mid.store) (world new.store) mid.core new.core → (r : Result T Error) → RemovesPassed (log_from_of mid.core) numbers (world mid.store) (world new.store) r → KeepsKnown (world mid.store) (world new.store) numbers new.numbers → LeavesLogged world seen new
leaves_removed world tree mid numbers doubted new seen view commits same files r removes known =
    leaves_logged world tree mid numbers doubted new seen view commits same files (removed_on (log_from_of mid.core) numbers (world mid.store) (world new.store) r removes) known

-- no record is left of these numbers below `log_from`
pub gone_left : {S : Type 0} (world : S → World) (tree : Seen S) (core : Core) (numbers : List ℕ) (doubted : Bool) (new seen : SeenLogged S) → logged_with tree numbers doubted ≡ seen → new.core ≡ core → AreGone (world new.store) (log_from_of core) numbers → AreGone (world new.store) (log_from_of new.core) seen.numbers
gone_left world tree core numbers doubted new seen view same gone = subst (λ t. AreGone (world new.store) (log_from_of new.core) t.numbers) view (subst (λ k. AreGone (world new.store) (log_from_of k) numbers) (sym same) gone)

-- no number is forgotten by a call that leaves names that are none of the tree's
pub all_left : {S : Type 0} (world : S → World) (tree mid : Seen S) (numbers : List ℕ) (doubted : Bool) (seen : SeenLogged S) → logged_with tree numbers doubted ≡ seen → Passes (world tree.store) (world mid.store) → KeepsKnown (world seen.store) (world mid.store) seen.numbers numbers
all_left world tree mid numbers doubted seen view passes = subst (λ t. KeepsKnown (world t.store) (world mid.store) t.numbers numbers) view (keeps_all (world tree.store) (world mid.store) numbers passes)
