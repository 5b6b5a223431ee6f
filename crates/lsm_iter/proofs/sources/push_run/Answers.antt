use Rattle.std.proofs.Common.{map}
use Rattle.lsm_iter.proofs.Puts.{puts_run}
use Rattle.lsm_iter.proofs.sources.push_run.Goals as goal

pub returns : goal.returns
returns g c =
    puts_run c.args.bounds.now.0 c.args.bounds.now.1 (map g.R.Reader.seen c.args.readers.now.items) (map g.R.Reader.seen c.push_reader.new.readers.items) (g.R.Reader.seen c.in_ok-reader.reader)
    c.in_ok-push_reader.ensures.left (c.in_ok-push_reader.ensures.held (λ none. c.in_ok-reader.ensures.held)) c.in_ok-reader.ensures.bytes c.args.below c.args.run.now c.in_ok-reader.ensures.left c.in_ok-reader.ensures.held c.requires
