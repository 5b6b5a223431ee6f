-- A logged tree of the theory, as the calls so far left it.
use Rattle.std.specs.Prelude.{◌≡◌, true, List}
use Rattle.lsm_model.specs.Journal.{InOrder}
use Rattle.lsm_log_model.specs.Records.{LogImage, LogStands, opened_by}
use Rattle.lsm_log_model.specs.Logs.{Logged as Log, IsCertain, Act, AllActs}
use Rattle.lsm_log_model.specs.Replays.{IsReopened}
use Rattle.lsm_log_runs.specs.Pasts.{LogPast, past_of}

-- it was opened on an image that stands, and all that was done since are acts
pub record LogCameAbout (image : LogImage) (past : LogPast) (t : Log) : Type 0 where
  pub stands : LogStands image
  pub first : Log
  pub reopened : IsReopened image first
  pub acts : List Act
  pub done : AllActs (opened_by image) first acts t
  pub order : InOrder (opened_by image) past.journal
  pub past_is : past_of past.known past.begun t ≡ past
  pub certain : past.known ≡ true → IsCertain t
