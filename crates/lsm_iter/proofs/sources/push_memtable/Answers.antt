use Rattle.std.proofs.Common.{map, ◌∙◌, ap, subst}
use Rattle.lsm_below.specs.Entries.{entry_cmp}
use Rattle.lsm_below.specs.Sorted.{Rises}
use Rattle.lsm_below.specs.Lookups.{within}
use Rattle.lsm_iter.specs.Reads.{at}
use Rattle.lsm_iter.specs.Left.{tops}
use Rattle.lsm_iter.proofs.Puts.{none_owned, puts_part}
use Rattle.lsm_iter.proofs.sources.push_memtable.Goals as goal

pub returns : goal.returns
returns g c =
    let low = c.args.bounds.now.0 in
    let high = c.args.bounds.now.1 in
    let s = c.args.below in
    let span = c.within-span.ensures ∙ ap (within low high) c.span.ensures in
    let reader = g.R.Reader.seen c.in_ok-reader.reader in
    puts_part low high (map g.R.Reader.seen c.args.readers.now.items) (map g.R.Reader.seen c.push_reader.new.readers.items) reader c.in_ok-push_reader.ensures.left (c.in_ok-push_reader.ensures.held (λ none. c.in_ok-reader.ensures.held ∙ none_owned g.R.Reader.copies reader.left none)) c.in_ok-reader.ensures.bytes
    g.R.Reader.copies (at s c.args.memtable.now.entries) (c.in_ok-reader.ensures.left ∙ ap (λ l. tops (at s l)) span) c.in_ok-reader.ensures.held (subst (Rises entry_cmp) span c.facts.ensures)
