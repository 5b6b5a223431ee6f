-- What the program's arguments ask.
use Rattle.std.specs.Prelude.{ℕ, Bool, true, false, ◌&&◌, List, [], ◌∷◌, Option, Some, None, bytes_eq, codes, nat_lt, nat_le, if◌then◌else◌}
use Rattle.lsm_below.specs.Numbers.{plain_number}
use Rattle.lsm_shell_parts.specs.declared.arguments.Mode.{Mode}
use Rattle.lsm_shell_parts.specs.declared.arguments.Mode.TheVariants.{Memory, Folder, Threads}

-- what may be asked: lines over a store in memory, or over a folder, of a tree with a log or not; callers
pub data Asked : Type 0 where
  InMemory : Bool → Asked
  OverFolder : List ℕ → Bool → Asked
  Callers : ℕ → Asked

-- what a mode is asked for
abbrev pub asked : Mode → Asked
asked (Memory logged) = InMemory logged
asked (Folder path logged) = OverFolder path.now logged
asked (Threads n) = Callers n

-- a number of callers, where it is from 1 to 64
abbrev pub callers : Option ℕ → Option Asked
callers None = None
callers (Some n) = if nat_lt 0 n && nat_le n 64 then Some (Callers n) else None

-- as many callers as the word says
abbrev pub callers_of : List ℕ → Option Asked
callers_of word = callers (plain_number word)

-- lines over a folder, where its name isn't empty
abbrev pub folder_of : List ℕ → Bool → Option Asked
folder_of [] logged = None
folder_of (b ∷ path) logged = Some (OverFolder (b ∷ path) logged)

-- no arguments, or `logged`: lines over a store in memory; another word, or `logged` and a word: lines over that folder;
-- `threads` and a number: callers
abbrev pub asked_by : List (List ℕ) → Option Asked
asked_by [] = Some (InMemory false)
asked_by (word ∷ []) = if bytes_eq word (codes "logged") then Some (InMemory true) else folder_of word false
asked_by (verb ∷ word ∷ []) =
    if bytes_eq verb (codes "threads") then callers_of word
    else if bytes_eq verb (codes "logged") then folder_of word true
    else None
asked_by (verb ∷ word ∷ more ∷ others) = None
