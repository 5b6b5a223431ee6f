-- The first version: its file, and names that are none of its two.
use Rattle.std.proofs.Common.{◌≡◌, ◌≢◌, ℕ, true, false, List, Some, refl, sym, ap, ◌∙◌, codes, lit<, arith}
use Rattle.std.specs.List.{IsDistinct}
use Rattle.lsm_store.specs.World.{Image}
use Rattle.lsm_versions.specs.Levels.{empty_levels}
use Rattle.lsm_manifest.specs.declared.kinds.NameKind.TheVariants.{Refused}
use Rattle.std.proofs.lemmas.Bool.{both_ways}
use Rattle.lsm_manifest.specs.Names.{current_name, version_name}
use Rattle.lsm_manifest.specs.Kinds.{kind_of}
use Rattle.lsm_manifest.specs.Spelling.{IsFileFrom}
use Rattle.lsm_manifest.specs.Recovery.{Levels}
use Rattle.lsm_manifest.specs.Standing.{HasGoodNames, StandsFor}
use Rattle.lsm_manifest.specs.Persist.{naming}
use Rattle.lsm_manifest.specs.Versions.{named_levels, file_of, first_version}
use Rattle.lsm_manifest.specs.Opening.{is_refused}
use Rattle.lsm_manifest.proofs.Apart.{begins_other, no_older, current_kind, version_kind}

abbrev pub first_file : List ℕ
first_file = file_of first_version

abbrev pub first_levels : Levels
first_levels = named_levels empty_levels

pub first_file_reads : IsFileFrom (Some 0) first_levels first_file
unfolding IsDistinct
first_file_reads = record {
  version = codes "3.1.10";
  from_fits = lit< tt;
  is = record {
    version_fits = lit< tt;
    layout_fits = lit< tt;
    laid_out = record { count = refl; each = (record { count = lit< tt; each = tt }, (record { count = lit< tt; each = tt }, (record { count = lit< tt; each = tt }, (record { count = lit< tt; each = tt }, (record { count = lit< tt; each = tt }, (record { count = lit< tt; each = tt }, (record { count = lit< tt; each = tt }, tt))))))) };
    distinct = tt;
  };
  spelling = refl;
}

pub first_stands : (image : Image) → image current_name ≡ Some (naming 0 first_file) → image (version_name 0) ≡ Some first_file → HasGoodNames image → StandsFor image 0 first_levels empty_levels
first_stands image current version good = record {
  named = record { id_fits = lit< tt; bytes = first_file; current = current; version = version; reads = record { from = Some 0; file = first_file_reads } };
  tables = (tt, (tt, (tt, (tt, (tt, (tt, (tt, tt)))))));
  runs = (tt, (tt, (tt, (tt, (tt, (tt, (tt, tt)))))));
  names = good;
}

-- ---- names that it doesn't have

pub older_not_first : codes "version" ≢ version_name 0
older_not_first e = no_older 0 (lit< tt) (sym e)

pub older_not_current : codes "version" ≢ current_name
older_not_current = begins_other (codes "version") current_name (λ e. omega arith)

other_kind : (n m : List ℕ) → kind_of n ≡ Refused → is_refused (kind_of m) ≡ false → n ≢ m
other_kind n m bad fine e = let same : is_refused (kind_of m) ≡ true = ap (λ (k : List ℕ). is_refused (kind_of k)) (sym e) ∙ ap is_refused bad in both_ways (is_refused (kind_of m)) fine same

pub refused_not_first : (n : List ℕ) → kind_of n ≡ Refused → n ≢ version_name 0
refused_not_first n bad = other_kind n (version_name 0) bad (ap is_refused (version_kind 0 (lit< tt)))

pub refused_not_current : (n : List ℕ) → kind_of n ≡ Refused → n ≢ current_name
refused_not_current n bad = other_kind n current_name bad (ap is_refused current_kind)
