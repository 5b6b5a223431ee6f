-- The names of records, and what a name is to a log.
use Rattle.std.specs.Prelude.{ℕ, ◌^◌, Bool, true, false, ◌||◌, List, ◌++◌, drop, Option, Some, None, bytes_eq, nat_eq, nat_lt, codes, decimal, if◌then◌else◌}
use Rattle.std.specs.List.{starts_with}
use Rattle.lsm_below.specs.Numbers.{plain_number}
use Rattle.lsm_log.specs.declared.kinds.LogName.{LogName}
use Rattle.lsm_log.specs.declared.kinds.LogName.TheVariants.{RecordFile, Skipped, Refused, Other}

-- a record's file, in the folder of the log
abbrev pub record_name : ℕ → List ℕ
record_name number = codes "log/" ++ decimal number

-- numbers of records are below 2^63
abbrev pub numbered : Option ℕ → LogName
numbered (Some n) = if nat_lt n (2 ^ 63) then RecordFile n else Refused
numbered None = Refused

-- of a name in the folder of the log, by what stands after the folder's name
unfoldable pub kind_in_log : List ℕ → LogName
kind_in_log t = if bytes_eq t (codes ".DS_Store") || starts_with nat_eq t (codes "._") then Skipped else numbered (plain_number t)

-- in the folder of the log a record's file, one that is skipped, or one that is refused; elsewhere another name
unfoldable pub kind_of : List ℕ → LogName
kind_of n = if starts_with nat_eq n (codes "log/") then kind_in_log (drop 4 n) else Other

-- is it the file of a record that is numbered below this?
abbrev pub kind_is_passed : ℕ → LogName → Bool
kind_is_passed from (RecordFile n) = nat_lt n from
kind_is_passed from Skipped = false
kind_is_passed from Refused = false
kind_is_passed from Other = false

abbrev pub is_passed : ℕ → List ℕ → Bool
is_passed from n = kind_is_passed from (kind_of n)

-- does a log refuse it?
abbrev pub kind_is_refused : LogName → Bool
kind_is_refused (RecordFile n) = false
kind_is_refused Skipped = false
kind_is_refused Refused = true
kind_is_refused Other = false

abbrev pub is_refused : List ℕ → Bool
is_refused n = kind_is_refused (kind_of n)

-- the number of the record whose file has the name
abbrev pub kind_number : LogName → Option ℕ
kind_number (RecordFile n) = Some n
kind_number Skipped = None
kind_number Refused = None
kind_number Other = None

abbrev pub number_in : List ℕ → Option ℕ
number_in n = kind_number (kind_of n)
