-- A batch that is acknowledged on a new tree.
use Rattle.std.proofs.Common.{◌≡◌, ℕ, false, ◌||◌, List, [], ◌∷◌, map, None, Ok, refl, sym, ap, ◌∙◌, subst, arith}
use Rattle.std.specs.Option.{is_some}
use Rattle.std.specs.List.{AllByRecursion}
use Rattle.lsm_logged.specs.Keys.{Bytes}
use Rattle.lsm_logged.specs.World.{Image, World, Begins}
use Rattle.lsm_logged.specs.Ops.{op_entries}
use Rattle.lsm_logged.specs.Views.{Placed}
use Rattle.lsm_logged.specs.Op.{Op}
use Rattle.lsm_logged.specs.JournalEntry.TheVariants.{Write}
use Rattle.lsm_model.proofs.Crashes.{no_tables_stand}
use Rattle.lsm_logged.specs.Config.{Config}
use Rattle.lsm_logged.specs.Levels.{SeenVersion, empty_levels, placed_of}
use Rattle.lsm_logged.specs.Names.{current_name}
use Rattle.lsm_logged.specs.Record.{Record}
use Rattle.lsm_logged.specs.LogNames.{record_name}
use Rattle.lsm_log.specs.Logs.{IsRecordAt, IsLogFrom}
use Rattle.lsm_logged.specs.Records.{LogImage, LogStands}
use Rattle.lsm_logged.specs.Replays.{TablesAloneStand}
use Rattle.lsm_logged.specs.Core.{Core}
use Rattle.lsm_logged.specs.Keeping.{SeenLogged, is_unsure, IsLogOf}
use Rattle.lsm_logged.specs.Opening.{OpensLogged, CanBeSettled, IsReopenedLog, batch_read, image_read, version_of}
use Rattle.lsm_logged.specs.Writing.{WritesLogged, WritesAct}
use Rattle.example_log.specs.Written.{HasOne, fresh_image}

-- ---- a new store

no_records : (image : Image) (from : ℕ) (passed : List ℕ) (records : List Record) → ((n : List ℕ) → image n ≡ None) → IsLogFrom image from passed records → records ≡ []
no_records image from passed records none log = go records log.records_are
  where
    go : (rs : List Record) → AllByRecursion (λ r. IsRecordAt image r.number r) rs → rs ≡ []
    go [] h = refl
    go (r ∷ rs) h = let file = h.0.file in absurd (cc (sym (none (record_name r.number)) ∙ file))

abbrev imaged : List Placed → ℕ → List Record → LogImage
imaged tables from records = record { tables = tables; log_from = from; records = map batch_read records }

is_fresh : (v : SeenVersion) (records : List Record) → v.levels ≡ empty_levels → records ≡ [] → image_read v records ≡ fresh_image v.log_from
is_fresh v records a b = ap (λ ls. imaged (placed_of ls) v.log_from records) a ∙ ap (imaged [] v.log_from) b

pub fresh_stands : TablesAloneStand → (from : ℕ) → LogStands (fresh_image from)
fresh_stands tables from = (tables [] from no_tables_stand (omega arith)).0

-- ---- the batch

module _ {S : Type 0} (world : S → World) (store : S) (config : Config) (t u : SeenLogged S) (ops : List (Bytes × Op)) (n : ℕ) (tables : TablesAloneStand) (opens : OpensLogged (Unit {0}) world store config t) (new : Begins (λ _. None) (world store))
    (fresh_levels : (world store).gives current_name ≡ None → (version_of t).levels ≡ empty_levels) (settle : CanBeSettled (world store) (version_of t).log_from) (writes : WritesLogged ops (Ok n) t u) (acts : WritesAct ops (Ok n) (world t.store) (world u.store) t u) where
  abbrev v : SeenVersion
  v = version_of t

  levels : v.levels ≡ empty_levels
  levels = fresh_levels (new.gives current_name)

  fresh : image_read v opens.records ≡ fresh_image v.log_from
  fresh = is_fresh v opens.records levels (no_records (world store).gives v.log_from opens.passed opens.records new.gives (opens.takes tt).log)

  again : IsReopenedLog (fresh_image v.log_from) t (world t.store)
  again = subst (λ i. IsReopenedLog i t (world t.store)) fresh (opens.reopens tt (subst LogStands (sym fresh) (fresh_stands tables v.log_from)) settle)

  none : t.core.lost ≡ None
  none = ap (λ (c : Core). c.lost) opens.replays.core

  sure : is_unsure t ≡ false
  sure = ap (λ b. b || is_some t.core.lost) opens.replays.sure ∙ ap is_some none

  pub has_one : HasOne ops u.core (world u.store)
  has_one =
      let tree = writes.tree sure in
      let leads = (acts [] [] [] again.first again.is again.keeps again.next).ok in
      record {
        number = t.core.seqno;
        from = v.log_from;
        first = again.first;
        reopened = again.reopened;
        log = leads.log;
        act = leads.acts;
        is = subst (λ d. IsLogOf (map Write (op_entries t.core.seqno ops)) [] u.core d leads.log) (writes.doubt sure) leads.is;
        keeps = leads.keeps;
        certain = ap (λ (c : Core). c.lost) tree.core ∙ none;
        levels = ap (λ (c : Core). c.history.latest.version.levels) tree.core ∙ levels;
      }
