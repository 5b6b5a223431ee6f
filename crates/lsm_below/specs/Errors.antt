-- Errors and their numbers.
use Rattle.std.specs.Prelude.{ℕ, List, codes}
use Rattle.lsm_below.specs.declared.error.Error.{Error}
use Rattle.lsm_below.specs.declared.error.Error.TheVariants.{OutOfMemory, Store, CommitUnknown, Unrecoverable, InvalidVersion, InvalidTag, InvalidHeader, SnapshotTooOld, OutOfNumbers, KeyTooLong, ValueTooLong, NumberTooGreat, FlushOpen, TooManyRuns, NotDisjoint, Busy, AfterCommit, OutOfOrder, DuplicateKey, ChecksumMismatch, Strategy}

-- the number by which an error is told
abbrev pub number_of : Error → ℕ
number_of OutOfMemory = 1
number_of Store = 2
number_of CommitUnknown = 3
number_of Unrecoverable = 4
number_of (InvalidVersion b) = 5
number_of (InvalidTag name b) = 6
number_of (InvalidHeader name) = 7
number_of SnapshotTooOld = 8
number_of OutOfNumbers = 9
number_of KeyTooLong = 10
number_of ValueTooLong = 11
number_of NumberTooGreat = 12
number_of FlushOpen = 13
number_of TooManyRuns = 14
number_of NotDisjoint = 15
number_of Busy = 16
number_of AfterCommit = 17
number_of OutOfOrder = 18
number_of DuplicateKey = 19
number_of ChecksumMismatch = 20
number_of Strategy = 21

-- the bare name of an error, whatever it carries
abbrev pub name_of : Error → List ℕ
name_of OutOfMemory = codes "OutOfMemory"
name_of Store = codes "Store"
name_of CommitUnknown = codes "CommitUnknown"
name_of Unrecoverable = codes "Unrecoverable"
name_of (InvalidVersion b) = codes "InvalidVersion"
name_of (InvalidTag name b) = codes "InvalidTag"
name_of (InvalidHeader name) = codes "InvalidHeader"
name_of SnapshotTooOld = codes "SnapshotTooOld"
name_of OutOfNumbers = codes "OutOfNumbers"
name_of KeyTooLong = codes "KeyTooLong"
name_of ValueTooLong = codes "ValueTooLong"
name_of NumberTooGreat = codes "NumberTooGreat"
name_of FlushOpen = codes "FlushOpen"
name_of TooManyRuns = codes "TooManyRuns"
name_of NotDisjoint = codes "NotDisjoint"
name_of Busy = codes "Busy"
name_of AfterCommit = codes "AfterCommit"
name_of OutOfOrder = codes "OutOfOrder"
name_of DuplicateKey = codes "DuplicateKey"
name_of ChecksumMismatch = codes "ChecksumMismatch"
name_of Strategy = codes "Strategy"
