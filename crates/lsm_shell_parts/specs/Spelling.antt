-- The line that spells a command.
use Rattle.std.specs.Prelude.{◌≡◌, ℕ, ◌^◌, ◌<◌, true, List, [], ◌∷◌, Option, Some, None, IfSome, codes, decimal}
use Rattle.std.specs.List.{list_all, join_with_byte}
use Rattle.lsm_shell_parts.specs.Bounds.{included_word, excluded_word, prefix_word}
use Rattle.lsm_shell_parts.specs.Word.{is_word}
use Rattle.lsm_shell_parts.specs.declared.command.Command.{Command}
use Rattle.lsm_shell_parts.specs.declared.command.Command.TheVariants.{Put, Del, Weak, Get, Range, Prefix, Rotate, Flush, Compact, DropRange, Clear, Now, Stats, Crash, Reopen}
use Rattle.lsm_shell_parts.specs.declared.command.Plan.TheVariants.{Leveled, Major, Fifo}

-- the words that a command is written in
abbrev pub spelling_of : Command → List (List ℕ)
spelling_of (Put key value) = codes "put" ∷ key ∷ value ∷ []
spelling_of (Del key) = codes "del" ∷ key ∷ []
spelling_of (Weak key) = codes "weak" ∷ key ∷ []
spelling_of (Get key None) = codes "get" ∷ key ∷ []
spelling_of (Get key (Some snapshot)) = codes "get" ∷ key ∷ decimal snapshot ∷ []
spelling_of (Range low high None) = codes "range" ∷ included_word low ∷ excluded_word high ∷ []
spelling_of (Range low high (Some snapshot)) = codes "range" ∷ included_word low ∷ excluded_word high ∷ decimal snapshot ∷ []
spelling_of (Prefix prefix None) = codes "prefix" ∷ prefix_word prefix ∷ []
spelling_of (Prefix prefix (Some snapshot)) = codes "prefix" ∷ prefix_word prefix ∷ decimal snapshot ∷ []
spelling_of Rotate = codes "rotate" ∷ []
spelling_of (Flush watermark) = codes "flush" ∷ decimal watermark ∷ []
spelling_of (Compact Leveled watermark) = codes "compact" ∷ codes "leveled" ∷ decimal watermark ∷ []
spelling_of (Compact Major watermark) = codes "compact" ∷ codes "major" ∷ decimal watermark ∷ []
spelling_of (Compact (Fifo limit ttl) watermark) = codes "compact" ∷ codes "fifo" ∷ decimal limit ∷ decimal ttl ∷ decimal watermark ∷ []
spelling_of (DropRange low high) = codes "drop" ∷ included_word low ∷ included_word high ∷ []
spelling_of Clear = codes "clear" ∷ []
spelling_of (Now moment) = codes "now" ∷ decimal moment ∷ []
spelling_of Stats = codes "stats" ∷ []
spelling_of Crash = codes "crash" ∷ []
spelling_of Reopen = codes "reopen" ∷ []

-- each number that is named is below 2^64
abbrev pub HasFitNumber : Command → Type 0
HasFitNumber (Get key (Some snapshot)) = snapshot < 2 ^ 64
HasFitNumber (Range low high (Some snapshot)) = snapshot < 2 ^ 64
HasFitNumber (Prefix prefix (Some snapshot)) = snapshot < 2 ^ 64
HasFitNumber (Flush watermark) = watermark < 2 ^ 64
HasFitNumber (Compact (Fifo limit ttl) watermark) = (limit < 2 ^ 64) × (ttl < 2 ^ 64) × (watermark < 2 ^ 64)
HasFitNumber (Compact plan watermark) = watermark < 2 ^ 64
HasFitNumber (Now moment) = moment < 2 ^ 64
HasFitNumber other = Unit {0}

-- the line has the command's words, with one space between each and the next
pub record Spells (line : List ℕ) (command : Command) : Type 0 where
  pub fits : HasFitNumber command
  pub words : list_all is_word (spelling_of command) ≡ true
  pub joined : line ≡ join_with_byte 32 (spelling_of command)

-- found is the one command that the line spells
pub record IsSpelledBy (line : List ℕ) (found : Option Command) : Type 0 where
  pub spelled : IfSome found (Spells line)
  pub only : (command : Command) → Spells line command → found ≡ Some command
