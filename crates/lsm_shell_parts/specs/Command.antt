-- What a line asks.
use Rattle.std.specs.Prelude.{ℕ, List, [], ◌∷◌, Option, Some, None, option_map, option_and_then}
use Rattle.lsm_shell_parts.specs.Bounds.{included_of, excluded_of, prefix_of}
use Rattle.lsm_below.specs.Numbers.{plain_number}
use Rattle.lsm_shell_parts.specs.Verbs.{verb_of}
use Rattle.lsm_shell_parts.specs.Word.{words_of}
use Rattle.lsm_shell_parts.specs.declared.command.Command.{Command}
use Rattle.lsm_shell_parts.specs.declared.command.Command.TheVariants.{Put, Del, Weak, Get, Range, Prefix, Rotate, Flush, Compact, DropRange, Clear, Now, Stats, Crash, Reopen}
use Rattle.lsm_shell_parts.specs.declared.command.Plan.TheVariants.{Leveled, Major, Fifo}
use Rattle.lsm_shell_parts.specs.declared.verb.Verb.{Verb}
use Rattle.lsm_shell_parts.specs.declared.verb.Verb.TheVariants as verb

-- the snapshot that words name: none, or a number
abbrev pub snapshot_of : List (List ℕ) → Option (Option ℕ)
snapshot_of [] = Some None
snapshot_of (word ∷ []) = option_map (λ n. Some n) (plain_number word)
snapshot_of (word ∷ more ∷ others) = None

-- what a plan and numbers after it ask
abbrev pub compaction_of : Verb → List (List ℕ) → Option Command
compaction_of verb.Leveled (last ∷ []) = option_map (λ n. Compact Leveled n) (plain_number last)
compaction_of verb.Major (last ∷ []) = option_map (λ n. Compact Major n) (plain_number last)
compaction_of verb.Fifo (limit ∷ ttl ∷ last ∷ []) = option_and_then (λ l. option_and_then (λ t. option_map (λ n. Compact (Fifo l t) n) (plain_number last)) (plain_number ttl)) (plain_number limit)
compaction_of other words = None

-- what a word that reads asks with the words after it
abbrev pub read_with : Verb → List (List ℕ) → Option Command
read_with verb.Get (key ∷ at) = option_map (λ s. Get key s) (snapshot_of at)
read_with verb.Range (low ∷ high ∷ at) = option_map (λ s. Range (included_of low) (excluded_of high) s) (snapshot_of at)
read_with verb.Prefix (prefix ∷ at) = option_map (λ s. Prefix (prefix_of prefix) s) (snapshot_of at)
read_with other words = None

-- what a word that names no key asks
abbrev pub plain_with : Verb → List (List ℕ) → Option Command
plain_with verb.Rotate [] = Some Rotate
plain_with verb.Flush (watermark ∷ []) = option_map (λ n. Flush n) (plain_number watermark)
plain_with verb.Compact (plan ∷ numbers) = option_and_then (λ p. compaction_of p numbers) (verb_of plan)
plain_with verb.Clear [] = Some Clear
plain_with verb.Now (moment ∷ []) = option_map (λ n. Now n) (plain_number moment)
plain_with verb.Stats [] = Some Stats
plain_with verb.Crash [] = Some Crash
plain_with verb.Reopen [] = Some Reopen
plain_with other words = None

-- what a word asks with the words after it
abbrev pub command_with : Verb → List (List ℕ) → Option Command
command_with verb.Put (key ∷ value ∷ []) = Some (Put key value)
command_with verb.Del (key ∷ []) = Some (Del key)
command_with verb.Weak (key ∷ []) = Some (Weak key)
command_with verb.Drop (low ∷ high ∷ []) = Some (DropRange (included_of low) (included_of high))
command_with verb.Get words = read_with verb.Get words
command_with verb.Range words = read_with verb.Range words
command_with verb.Prefix words = read_with verb.Prefix words
command_with verb words = plain_with verb words

-- what these words ask
abbrev pub command_of_words : List (List ℕ) → Option Command
command_of_words [] = None
command_of_words (first ∷ words) = option_and_then (λ v. command_with v words) (verb_of first)

-- what a line asks
abbrev pub command_of : List ℕ → Option Command
command_of line = option_and_then command_of_words (words_of line)
