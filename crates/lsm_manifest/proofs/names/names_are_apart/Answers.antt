use Rattle.lsm_manifest.proofs.Apart.{versions_apart, tables_apart, table_no_version, version_not_current, table_not_current, no_older, current_kind, version_kind, table_kind}
use Rattle.lsm_manifest.proofs.names.names_are_apart.Goals as goal

pub returns : goal.returns
returns c = record {
  versions = versions_apart;
  tables = tables_apart;
  table_no_version = table_no_version;
  version_not_current = version_not_current;
  table_not_current = table_not_current;
  no_older = no_older;
  current_kind = current_kind;
  version_kind = version_kind;
  table_kind = table_kind c.plain_numbers_are_read.ensures;
}
