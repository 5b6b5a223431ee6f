-- Which of the records that are there count.
use Rattle.std.proofs.Common.{◌≡◌, ℕ, ◌<◌, ◌≤◌, ◌-◌, ◌^◌, Bool, true, false, nat_le, List, None, refl, sym, ap, subst, ◌∙◌, arith}
use Rattle.std.specs.Prelude.{Contains}
use Rattle.std.specs.List.{list_any}
use Rattle.std.proofs.lemmas.Bool.{both_ways}
use Rattle.std.proofs.lemmas.Bool.Decides.{nat_tests}
use Rattle.std.proofs.lemmas.List.Folds.{list_any-from_Any, Any-from_list_any}
use Rattle.lsm_store.specs.World.{Image, World, Same}
use Rattle.lsm_store.specs.Moments.{same_then}
use Rattle.lsm_manifest.specs.declared.found.Found.{Found}
use Rattle.lsm_manifest.specs.declared.opening.Opened.{Opened}
use Rattle.lsm_manifest.specs.Names.{current_name}
use Rattle.lsm_manifest.specs.Opening.{ReadsFrom}
use Rattle.lsm_manifest.specs.Looking.{FindsIn, IsFoundIn, Looks}
use Rattle.lsm_log.specs.declared.record.Record.{Record}
use Rattle.lsm_log.specs.Logs.{IsThere, IsLogFrom}
use Rattle.lsm_state.specs.Unlogged.{IsReadFrom, HasCounted, HasOnlyPassed}

module _ (image : Image) (passed : List ℕ) (records : List Record) (log : IsLogFrom image (2 ^ 64 - 1) passed records) where
  -- each record is numbered below that
  known : (k : ℕ) → IsThere image k → Contains passed k
  known k there = let small = there.small in (log.passed_are k).1 (there, omega (arith, small))

  pub reached : (from : ℕ) → IsReadFrom image from → true ≡ list_any (λ k. nat_le from k) passed → HasCounted image
  reached from read is =
      let a = Any-from_list_any (λ k. nat_le from k) passed (sym is) in
      record { from = from; read = read; number = a.1; there = ((log.passed_are a.1).0 (a.0, a.2, a.3)).0; counts = at_least from a.1 a.4 }
    where
      at_least : (m n : ℕ) → nat_le m n ≡ true → m ≤ n
      at_least m n e = grind (arith, nat_tests)

  pub unreached : (from : ℕ) → IsReadFrom image from → false ≡ list_any (λ k. nat_le from k) passed → HasOnlyPassed image
  unreached from read is = record { from = from; read = read; passed = below }
    where
      below : (k : ℕ) → IsThere image k → k < from
      below k there =
          let at = known k there in
          elim (nat_le from k) as (λ t. nat_le from k ≡ t → k < from) [
            | true ↦ λ e. absurd (both_ways (list_any (λ n. nat_le from n) passed) (sym is) (list_any-from_Any (λ n. nat_le from n) passed (at.0, k, at.1, at.2, e)))
            | false ↦ λ e. grind (arith, nat_tests)
          ] refl

-- ---- from which number on

-- a new tree, or what `current` leads to
fresh : (image : Image) (f : Found) (is_new : Bool) → FindsIn is_new image f → image current_name ≡ None → f.opened.version.log_from ≡ 0
fresh image f true finds none = ap (λ (o : Opened). o.version.log_from) finds.1
fresh image f false finds none = let named = finds.named in absurd (cc (sym none ∙ named.current))

pub looked : (old new : World) (f : Found) (from : ℕ) → Looks old new f → from ≡ f.opened.version.log_from → IsReadFrom old.gives from
looked old new f from looks is = record { version = f.opened.version; reads = looks.from; fresh = λ none. fresh old.gives f f.is_new looks.found.finds none; from_is = sym is }

-- what was found, where nothing has changed since
pub looks_on : (first mid new : World) (f g : Found) → Looks first mid f → Same mid new → g ≡ f → Looks first new g
looks_on first mid new f g looks same is = record {
  found = subst (IsFoundIn first.gives) (sym is) looks.found;
  from = λ there. subst (λ (x : Found). ReadsFrom first.gives x.opened.version) (sym is) (looks.from there);
  same = same_then first mid new looks.same same;
}
