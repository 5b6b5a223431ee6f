-- A line asks the command that it spells.
use Rattle.std.proofs.Common.{◌≡◌, ℕ, ◌<◌, ◌^◌, Bool, true, false, List, [], ◌∷◌, length, Option, Some, None, map, Result, Ok, Err, IfOk, IfSome, refl, sym, ◌∙◌, ap, subst, arith, bytes_eq, decimal}
use Rattle.std.proofs.lemmas.Slice.Eq.{bytes_eq-Decides}
use Rattle.std.proofs.lemmas.List.Splits.{slice_split_at, join_with_byte-slice_split}
use Rattle.std.specs.List.{list_all, join_with_byte}
use Rattle.std.specs.Prelude.{codes, option_map, option_and_then}
use Rattle.lsm_shell_parts.specs.declared.command.Command.{Command}
use Rattle.lsm_shell_parts.specs.declared.command.Command.TheVariants.{Put, Del, Weak, Get, Range, Prefix, Rotate, Flush, Compact, DropRange, Clear, Now, Stats, Crash, Reopen}
use Rattle.lsm_shell_parts.specs.declared.command.Plan.TheVariants.{Leveled, Major, Fifo}
use Rattle.lsm_shell_parts.specs.Bounds.{included_of, excluded_of, prefix_of, included_word, excluded_word, prefix_word}
use Rattle.lsm_shell_parts.specs.Word.{is_word, parts_of, words_of}
use Rattle.lsm_shell_parts.specs.Command.{command_of, command_of_words, command_with, compaction_of, snapshot_of}
use Rattle.lsm_shell_parts.specs.Verbs.{named, verb_of}
use Rattle.lsm_shell_parts.specs.declared.verb.TheConstants.{VERBS}
use Rattle.lsm_shell_parts.specs.declared.verb.Verb.{Verb}
use Rattle.lsm_shell_parts.specs.declared.verb.Verb.TheVariants as verb
use Rattle.lsm_shell_parts.specs.Spelling.{spelling_of, HasFitNumber, Spells, IsSpelledBy}
use Rattle.lsm_shell_parts.proofs.BoundWords.{included_written, excluded_written, prefix_written, included_of-word, excluded_of-word, prefix_of-word}
use Rattle.lsm_below.specs.Numbers.{plain_number, plain_number-is, plain_number-decimal}
use Rattle.lsm_shell_parts.proofs.Parts.{is_space, both, no_space, parts_of-word, words_are, words_in}

-- ---- what words ask is spelled by them

-- these words spell the command
abbrev AreWordsOf : List (List ℕ) → Command → Type 0
AreWordsOf words command = (words ≡ spelling_of command) × HasFitNumber command

same : (v text : List ℕ) → bytes_eq v text ≡ true → v ≡ text
same v text e = (bytes_eq-Decides v text).0 e

abbrev name_of : Verb → List ℕ
name_of verb.Put = codes "put"
name_of verb.Del = codes "del"
name_of verb.Weak = codes "weak"
name_of verb.Get = codes "get"
name_of verb.Range = codes "range"
name_of verb.Prefix = codes "prefix"
name_of verb.Rotate = codes "rotate"
name_of verb.Flush = codes "flush"
name_of verb.Compact = codes "compact"
name_of verb.Leveled = codes "leveled"
name_of verb.Major = codes "major"
name_of verb.Fifo = codes "fifo"
name_of verb.Drop = codes "drop"
name_of verb.Clear = codes "clear"
name_of verb.Now = codes "now"
name_of verb.Stats = codes "stats"
name_of verb.Crash = codes "crash"
name_of verb.Reopen = codes "reopen"

-- each row has the word of what it stands for
abbrev is_named : List ℕ × Verb → Bool
is_named row = bytes_eq row.0 (name_of row.1)

by_test : (row : List ℕ × Verb) (rows : List (List ℕ × Verb)) (word : List ℕ) (x : Verb) (b : Bool) → bytes_eq row.0 word ≡ b → is_named row ≡ true → (named rows word ≡ Some x → word ≡ name_of x) → named (row ∷ rows) word ≡ Some x → word ≡ name_of x
by_test row rows word x true e h rest is =
    let found : Some row.1 ≡ Some x = rw e at is in
    sym (same row.0 word e) ∙ (same row.0 (name_of row.1) h ∙ ap name_of (let k : row.1 ≡ x = cc in k))
by_test row rows word x false e h rest is = rest (rw e at is)

named-is : (rows : List (List ℕ × Verb)) (word : List ℕ) (x : Verb) → list_all is_named rows ≡ true → named rows word ≡ Some x → word ≡ name_of x
named-is [] word x h is = cc
named-is (row ∷ rows) word x h is =
    let k = both (is_named row) (list_all is_named rows) h in
    by_test row rows word x _ refl k.0 (named-is rows word x k.1) is

verb_of-is : (word : List ℕ) (x : Verb) → verb_of word ≡ Some x → word ≡ name_of x
verb_of-is word x is = named-is (map (λ row. (row.0.now, row.1)) VERBS) word x refl is

-- a command of a number is spelled by its word
numbered : (make : ℕ → Command) (words : List ℕ → List (List ℕ)) (word : List ℕ) (n : Option ℕ) → plain_number word ≡ n → ((m : ℕ) → m < 2 ^ 64 → AreWordsOf (words (decimal m)) (make m)) → IfSome (option_map make n) (AreWordsOf (words word))
numbered make words word None e spells = tt
numbered make words word (Some m) e spells =
    let k = plain_number-is word m e in
    let s = spells m k.0 in
    (ap words k.1 ∙ s.0, s.1)

-- a snapshot is spelled by its word, or by none
at_snapshot : (make : Option ℕ → Command) (words : List (List ℕ) → List (List ℕ)) (word : List ℕ) (n : Option ℕ) → plain_number word ≡ n → ((m : ℕ) → m < 2 ^ 64 → AreWordsOf (words (decimal m ∷ [])) (make (Some m))) → IfSome (option_map make (option_map (λ m. Some m) n)) (AreWordsOf (words (word ∷ [])))
at_snapshot make words word None e spells = tt
at_snapshot make words word (Some m) e spells =
    let k = plain_number-is word m e in
    let s = spells m k.0 in
    (ap (λ w. words (w ∷ [])) k.1 ∙ s.0, s.1)

reads_at : (make : Option ℕ → Command) (words : List (List ℕ) → List (List ℕ)) (at : List (List ℕ)) → AreWordsOf (words []) (make None) → ((m : ℕ) → m < 2 ^ 64 → AreWordsOf (words (decimal m ∷ [])) (make (Some m))) → IfSome (option_map make (snapshot_of at)) (AreWordsOf (words at))
reads_at make words [] now then = now
reads_at make words (word ∷ []) now then = at_snapshot make words word _ refl then
reads_at make words (word ∷ more ∷ others) now then = tt

range_words : (low high : List ℕ) (more : List (List ℕ)) → codes "range" ∷ low ∷ high ∷ more ≡ codes "range" ∷ included_word (included_of low) ∷ excluded_word (excluded_of high) ∷ more
range_words low high more = rw (included_written low, excluded_written high) refl

drop_words : (low high : List ℕ) → codes "drop" ∷ low ∷ high ∷ [] ≡ codes "drop" ∷ included_word (included_of low) ∷ included_word (included_of high) ∷ []
drop_words low high = rw (included_written low, included_written high) refl

prefix_words : (word : List ℕ) (more : List (List ℕ)) → is_word word ≡ true → codes "prefix" ∷ word ∷ more ≡ codes "prefix" ∷ prefix_word (prefix_of word) ∷ more
prefix_words word more h = rw (prefix_written word h) refl

of_fifo : (limit ttl w : List ℕ) (l t n : Option ℕ) → plain_number limit ≡ l → plain_number ttl ≡ t → plain_number w ≡ n
    → IfSome (option_and_then (λ x. option_and_then (λ y. option_map (λ z. Compact (Fifo x y) z) n) t) l) (AreWordsOf (codes "compact" ∷ codes "fifo" ∷ limit ∷ ttl ∷ w ∷ []))
of_fifo limit ttl w None t n el et en = tt
of_fifo limit ttl w (Some x) None n el et en = tt
of_fifo limit ttl w (Some x) (Some y) None el et en = tt
of_fifo limit ttl w (Some x) (Some y) (Some z) el et en =
    let a = plain_number-is limit x el in
    let b = plain_number-is ttl y et in
    let c = plain_number-is w z en in
    (rw (a.1, b.1, c.1) refl, (a.0, b.0, c.0))

of_plan : (x : Verb) (words : List (List ℕ)) → IfSome (compaction_of x words) (AreWordsOf (codes "compact" ∷ name_of x ∷ words))
of_plan verb.Leveled (w ∷ []) = numbered (λ n. Compact Leveled n) (λ u. codes "compact" ∷ codes "leveled" ∷ u ∷ []) w _ refl (λ n h. (refl, h))
of_plan verb.Major (w ∷ []) = numbered (λ n. Compact Major n) (λ u. codes "compact" ∷ codes "major" ∷ u ∷ []) w _ refl (λ n h. (refl, h))
of_plan verb.Fifo (limit ∷ ttl ∷ w ∷ []) = of_fifo limit ttl w _ _ _ refl refl refl
of_plan other words = tt

of_plan_word : (plan : List ℕ) (words : List (List ℕ)) (o : Option Verb) → verb_of plan ≡ o → IfSome (option_and_then (λ x. compaction_of x words) o) (AreWordsOf (codes "compact" ∷ plan ∷ words))
of_plan_word plan words None e = tt
of_plan_word plan words (Some x) e = rw (verb_of-is plan x e) (of_plan x words)

with_spells : (x : Verb) (words : List (List ℕ)) → list_all is_word words ≡ true → IfSome (command_with x words) (AreWordsOf (name_of x ∷ words))
with_spells verb.Put (key ∷ value ∷ []) all = (refl, tt)
with_spells verb.Del (key ∷ []) all = (refl, tt)
with_spells verb.Weak (key ∷ []) all = (refl, tt)
with_spells verb.Get (key ∷ at) all = reads_at (λ s. Get key s) (λ more. codes "get" ∷ key ∷ more) at (refl, tt) (λ n h. (refl, h))
with_spells verb.Range (low ∷ high ∷ at) all = reads_at (λ s. Range (included_of low) (excluded_of high) s) (λ more. codes "range" ∷ low ∷ high ∷ more) at (range_words low high [], tt) (λ n h. (range_words low high (decimal n ∷ []), h))
with_spells verb.Prefix (prefix ∷ at) all =
    let word = (both (is_word prefix) (list_all is_word at) all).0 in
    reads_at (λ s. Prefix (prefix_of prefix) s) (λ more. codes "prefix" ∷ prefix ∷ more) at (prefix_words prefix [] word, tt) (λ n h. (prefix_words prefix (decimal n ∷ []) word, h))
with_spells verb.Rotate [] all = (refl, tt)
with_spells verb.Flush (w ∷ []) all = numbered (λ n. Flush n) (λ u. codes "flush" ∷ u ∷ []) w _ refl (λ n h. (refl, h))
with_spells verb.Compact (plan ∷ numbers) all = of_plan_word plan numbers _ refl
with_spells verb.Drop (low ∷ high ∷ []) all = (drop_words low high, tt)
with_spells verb.Clear [] all = (refl, tt)
with_spells verb.Now (w ∷ []) all = numbered (λ n. Now n) (λ u. codes "now" ∷ u ∷ []) w _ refl (λ n h. (refl, h))
with_spells verb.Stats [] all = (refl, tt)
with_spells verb.Crash [] all = (refl, tt)
with_spells verb.Reopen [] all = (refl, tt)
with_spells other words all = tt

first_spells : (v : List ℕ) (words : List (List ℕ)) (o : Option Verb) → verb_of v ≡ o → list_all is_word words ≡ true → IfSome (option_and_then (λ x. command_with x words) o) (AreWordsOf (v ∷ words))
first_spells v words None e all = tt
first_spells v words (Some x) e all = rw (verb_of-is v x e) (with_spells x words all)

words_spell : (words : List (List ℕ)) → list_all is_word words ≡ true → IfSome (command_of_words words) (AreWordsOf words)
words_spell [] all = tt
words_spell (v ∷ words) all = first_spells v words _ refl (both (is_word v) (list_all is_word words) all).1

spelled_by_words : (line : List ℕ) (words : List (List ℕ)) (found : Option Command) → line ≡ join_with_byte 32 words → list_all is_word words ≡ true → IfSome found (AreWordsOf words) → IfSome found (Spells line)
spelled_by_words line words None joined all h = tt
spelled_by_words line words (Some c) joined all h = record {
  fits = h.1;
  words = subst (λ ws. list_all is_word ws ≡ true) h.0 all;
  joined = joined ∙ ap (join_with_byte 32) h.0;
}

spelled_from : (line : List ℕ) (o : Option (List (List ℕ))) → words_of line ≡ o → IfSome (command_of line) (Spells line)
spelled_from line None e = rw e tt
spelled_from line (Some words) e =
    let h = words_in line words e in
    let joined : line ≡ join_with_byte 32 words = sym (join_with_byte-slice_split 32 line) ∙ ap (join_with_byte 32) h.1 in
    let all : list_all is_word words ≡ true = subst (λ ws. list_all is_word ws ≡ true) h.1 h.0 in
    rw e (spelled_by_words line words (command_of_words words) joined all (words_spell words all))

-- ---- a command is asked by its words

parts_of-joined : (a : List ℕ) (more : List (List ℕ)) → list_all is_word (a ∷ more) ≡ true → parts_of (join_with_byte 32 (a ∷ more)) ≡ a ∷ more
parts_of-joined a [] all = parts_of-word a (both (is_word a) true all).0
parts_of-joined a (b ∷ more) all =
    let h = both (is_word a) (list_all is_word (b ∷ more)) all in
    slice_split_at is_space a 32 (join_with_byte 32 (b ∷ more)) (no_space a (both _ _ h.0).1) refl
    ∙ ap (λ ps. a ∷ ps) (parts_of-joined b more h.1)

words_of-joined : (line : List ℕ) (words : List (List ℕ)) → 0 < length words → list_all is_word words ≡ true → line ≡ join_with_byte 32 words → words_of line ≡ Some words
words_of-joined line [] some all e = absurd (omega arith)
words_of-joined line (a ∷ more) some all e = words_are line (a ∷ more) (ap parts_of e ∙ parts_of-joined a more all) all

-- the second of the words is a word
second_is : (v key : List ℕ) (more : List (List ℕ)) → list_all is_word (v ∷ key ∷ more) ≡ true → is_word key ≡ true
second_is v key more all = (both (is_word key) (list_all is_word more) (both (is_word v) (list_all is_word (key ∷ more)) all).1).0

-- each of the words that bounds are spelled in is a word
range_bounds : (v low high : List ℕ) (more : List (List ℕ)) → list_all is_word (v ∷ low ∷ high ∷ more) ≡ true → (is_word low ≡ true) × (is_word high ≡ true)
range_bounds v low high more all =
    let behind = both (is_word low) (list_all is_word (high ∷ more)) (both (is_word v) (list_all is_word (low ∷ high ∷ more)) all).1 in
    (behind.0, (both (is_word high) (list_all is_word more) behind.1).0)

asked_by_words : (c : Command) → HasFitNumber c → list_all is_word (spelling_of c) ≡ true → (0 < length (spelling_of c)) × (command_of_words (spelling_of c) ≡ Some c)
asked_by_words (Put key value) h all = (omega arith, refl)
asked_by_words (Del key) h all = (omega arith, refl)
asked_by_words (Weak key) h all = (omega arith, refl)
asked_by_words (Get key None) h all = (omega arith, refl)
asked_by_words (Get key (Some n)) h all = (omega arith, rw (plain_number-decimal (decimal n) n h refl) refl)
asked_by_words (Range low high None) h all =
    let words = range_bounds (codes "range") (included_word low) (excluded_word high) [] all in
    (omega arith, rw (included_of-word low words.0, excluded_of-word high words.1) refl)
asked_by_words (Range low high (Some n)) h all =
    let words = range_bounds (codes "range") (included_word low) (excluded_word high) (decimal n ∷ []) all in
    (omega arith, rw (included_of-word low words.0, excluded_of-word high words.1, plain_number-decimal (decimal n) n h refl) refl)
asked_by_words (Prefix prefix None) h all =
    let word = (second_is (codes "prefix") (prefix_word prefix) [] all) in
    (omega arith, rw (prefix_of-word prefix word) refl)
asked_by_words (Prefix prefix (Some n)) h all =
    let word = (second_is (codes "prefix") (prefix_word prefix) (decimal n ∷ []) all) in
    (omega arith, rw (prefix_of-word prefix word, plain_number-decimal (decimal n) n h refl) refl)
asked_by_words Rotate h all = (omega arith, refl)
asked_by_words (Flush n) h all = (omega arith, ap (option_map (λ m. Flush m)) (plain_number-decimal (decimal n) n h refl))
asked_by_words (Compact Leveled n) h all = (omega arith, ap (option_map (λ m. Compact Leveled m)) (plain_number-decimal (decimal n) n h refl))
asked_by_words (Compact Major n) h all = (omega arith, ap (option_map (λ m. Compact Major m)) (plain_number-decimal (decimal n) n h refl))
asked_by_words (Compact (Fifo limit ttl) n) h all = (omega arith, rw (plain_number-decimal (decimal limit) limit h.0 refl, plain_number-decimal (decimal ttl) ttl h.1 refl, plain_number-decimal (decimal n) n h.2 refl) refl)
asked_by_words (DropRange low high) h all =
    let words = range_bounds (codes "drop") (included_word low) (included_word high) [] all in
    (omega arith, rw (included_of-word low words.0, included_of-word high words.1) refl)
asked_by_words Clear h all = (omega arith, refl)
asked_by_words (Now n) h all = (omega arith, ap (option_map (λ m. Now m)) (plain_number-decimal (decimal n) n h refl))
asked_by_words Stats h all = (omega arith, refl)
asked_by_words Crash h all = (omega arith, refl)
asked_by_words Reopen h all = (omega arith, refl)

asked : (line : List ℕ) (c : Command) → Spells line c → command_of line ≡ Some c
asked line c s =
    let k = asked_by_words c s.fits s.words in
    rw (words_of-joined line (spelling_of c) k.0 s.words s.joined) k.1

IsSpelledBy-command_of : (line : List ℕ) → IsSpelledBy line (command_of line)
IsSpelledBy-command_of line = record { spelled = spelled_from line (words_of line) refl; only = asked line }

pub IsSpelledBy-same : (line : List ℕ) (found : Option Command) → found ≡ command_of line → IsSpelledBy line found
IsSpelledBy-same line found e = subst (IsSpelledBy line) (sym e) (IsSpelledBy-command_of line)

pub IsSpelledBy-if_ok : {E : Type 0} (line : List ℕ) (r : Result (Option Command) E) → IfOk r (λ found. found ≡ command_of line) → IfOk r (IsSpelledBy line)
IsSpelledBy-if_ok line (Ok found) e = IsSpelledBy-same line found e
IsSpelledBy-if_ok line (Err x) e = tt
