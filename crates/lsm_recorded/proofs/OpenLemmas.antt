-- A tree that is opened with its journal.
use Rattle.std.proofs.Common.{◌≡◌, ℕ, ◌<◌, Bool, true, false, cond, ◌&&◌, nat_lt, List, [], ◌∷◌, ◌++◌, Option, Some, None, map, flat_map, refl, sym, ap, ◌∙◌, subst, arith, append-nil, IfSome}
use Rattle.std.specs.List.{AllByRecursion, find}
use Rattle.std.specs.FinMap.{get}
use Rattle.std.specs.BTreeMap.{BTreeMap}
use Rattle.std.proofs.lemmas.Bool.Decides.{nat_tests}
use Rattle.std.proofs.lemmas.List.Concat.{flat_map-cons}
use Rattle.lsm_below.specs.Keys.{Bytes, is_same}
use Rattle.lsm_below.specs.Entries.{Entry, stack, above, top, later, IsFalling}
use Rattle.lsm_model.specs.Laws.{MapsAreRead}
use Rattle.lsm_model.specs.Soundness.{Soundness}
use Rattle.lsm_model.specs.Views.{Placed, held, shown, map_of, view_at}
use Rattle.lsm_model.specs.Beginnings.{shown_by}
use Rattle.lsm_versions.specs.Levels.{SeenVersion, placed_of}
use Rattle.lsm_versions.specs.declared.config.Config.{Config}
use Rattle.lsm_compaction.specs.OpenMerges.{SeenMerges, SeenOpenMerge}
use Rattle.lsm_state.specs.CompactionDeeds.{IsMarkedIn}
use Rattle.lsm_state.specs.Core.{Core, state_of, opened_core}
use Rattle.lsm_state.specs.Opened.{StartsFrom}
use Rattle.lsm_recorded.specs.declared.marks.Mark.{Mark}
use Rattle.lsm_recorded.specs.Marks.{AreInOrder, IsMarked}
use Rattle.lsm_recorded.specs.Recorded.{IsRecorded}
use Rattle.lsm_versions.specs.Configs.{raised}

-- ---- what falling entries of a key show

not_above : (a b : ℕ) → b < a → nat_lt a b ≡ false
not_above a b h = grind (arith, nat_tests)

later_all : (e : Entry) (o : Option Entry) → IfSome o (λ f. f.key.seqno < e.key.seqno) → later e o ≡ Some e
later_all e None h = refl
later_all e (Some f) h = ap (λ b. cond b (Some f) (Some e)) (not_above e.key.seqno f.key.seqno h)

found_all : (P : Entry → Type 0) (p : Entry → Bool) (es : List Entry) → AllByRecursion P es → IfSome (find p es) P
found_all P p [] h = tt
found_all P p (e ∷ es) h = elim (p e) as (λ b. IfSome (cond b (Some e) (find p es)) P) [ true ↦ h.0 | false ↦ found_all P p es h.1 ]

-- the first visible one is the top
first_top : (k : Bytes) (s : ℕ) (es : List Entry) → IsFalling (stack k es) → find (λ e. nat_lt e.key.seqno s) (stack k es) ≡ top k s es
first_top k s [] h = refl
first_top k s (e ∷ es) h =
    elim (is_same k e.key.user_key) as (λ b. IsFalling (cond b (e ∷ stack k es) (stack k es)) → find (λ x. nat_lt x.key.seqno s) (cond b (e ∷ stack k es) (stack k es)) ≡ cond (b && nat_lt e.key.seqno s) (later e (top k s es)) (top k s es)) [
      | true ↦ λ falls.
          elim (nat_lt e.key.seqno s) as (λ v. cond v (Some e) (find (λ x. nat_lt x.key.seqno s) (stack k es)) ≡ cond v (later e (top k s es)) (top k s es)) [
            | true ↦ sym (later_all e (top k s es) (subst (λ o. IfSome o (λ f. f.key.seqno < e.key.seqno)) (first_top k s es falls.1) (found_all (λ f. f.key.seqno < e.key.seqno) (λ x. nat_lt x.key.seqno s) (stack k es) falls.0)))
            | false ↦ first_top k s es falls.1
          ]
      | false ↦ λ falls. first_top k s es falls
    ] h

flat_held : (tables : List Placed) → flat_map (λ (es : List Entry). es) (map (λ (p : Placed). p.table.entries) tables) ≡ held tables
flat_held [] = refl
flat_held (p ∷ ps) =
    flat_map-cons (λ (es : List Entry). es) p.table.entries (map (λ (q : Placed). q.table.entries) ps)
    ∙ ap (λ (es : List Entry). p.table.entries ++ es) (flat_held ps)
    ∙ sym (flat_map-cons (λ (q : Placed). q.table.entries) p ps)

-- what tables in order show is the map of their tops
starts_at : MapsAreRead → (tables : List Placed) → AreInOrder (held tables) → (k : Bytes) → get (shown_by tables) k ≡ view_at k (above (held tables)) (held tables ∷ [])
starts_at maps tables o k =
    let es = held tables in
    let s = above es in
    ap (λ (l : List Entry). get (map_of s l) k) (flat_held tables)
    ∙ maps.map_of k s es
    ∙ ap shown (first_top k s es (subst (λ l. IsFalling (stack k l)) (append-nil es) (o.ordered k)))
    ∙ ap (λ (l : List Entry). shown (top k s l)) (sym (append-nil es))

pub opened_recorded : Soundness → MapsAreRead → (version : SeenVersion) (next least : ℕ) (config : Config) (marks : BTreeMap Bytes Mark) (c : Core) → c ≡ opened_core (raised least config) version next → StartsFrom c → IsMarked marks least (held (placed_of version.levels)) → IsRecorded (placed_of version.levels) least marks 0 c []
opened_recorded theory maps version next least config marks c is starts m =
    let opened = placed_of version.levels in
    let l : least ≡ above (held opened) = m.least_is in
    let counter : c.seqno ≡ (opened_core (raised least config) version next).seqno = ap (λ (x : Core). x.seqno) is in
    let holds = theory.kept.opened (held opened) (shown_by opened) (state_of [] c) (starts (held opened) (shown_by opened) (ap (λ (x : Core). held (placed_of x.history.latest.version.levels)) (sym is)) m.in_order.ordered m.in_order.single (starts_at maps opened m.in_order)) in
    record {
      reads = theory.right.reads (held opened) (shown_by opened) (state_of [] c) holds;
      holds = holds;
      order = tt;
      counted = omega arith;
      least_is = m.least_is;
      floored = refl;
      noted = m.noted;
      marked = subst (λ (ms : SeenMerges). AllByRecursion (λ (x : SeenOpenMerge). IsMarkedIn x.settings.watermark []) ms.underway) (sym (ap (λ (x : Core). x.merges) is)) tt;
    }
