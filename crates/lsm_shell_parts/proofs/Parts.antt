-- The parts of a line.
use Rattle.std.proofs.Common.{◌≡◌, ℕ, Bool, true, false, ◌&&◌, cond, List, [], ◌∷◌, Some, None, map, option_map, refl, sym, ◌∙◌, ap, arith, Bor, Vec, Global, ◌==◌}
use Rattle.std.proofs.lemmas.Bool.Decides.{nat_tests}
use Rattle.std.proofs.lemmas.List.Folds.{list_all-map}
use Rattle.std.proofs.lemmas.List.Sums.{AllPass-from_list_all}
use Rattle.std.proofs.lemmas.List.Splits.{slice_split_none}
use Rattle.std.specs.Bool.{then_some}
use Rattle.std.specs.List.{All, list_all}
use Rattle.lsm_shell_parts.specs.Word.{is_word, is_word_byte, parts_of, words_of}

abbrev pub is_space : ℕ → Bool
is_space b = b == 32

byte_is_no_space : (b : ℕ) → is_word_byte b ≡ true → is_space b ≡ false
byte_is_no_space b e = grind (arith, nat_tests)

pub both : (a b : Bool) → (a && b) ≡ true → (a ≡ true) × (b ≡ true)
both true true e = (refl, refl)
both true false e = cc
both false b e = cc

pub no_space : (w : List ℕ) → list_all is_word_byte w ≡ true → All (λ b. is_space b ≡ false) w
no_space w e k d l = byte_is_no_space _ (AllPass-from_list_all is_word_byte w e k d l)

-- a word has no space
pub parts_of-word : (w : List ℕ) → is_word w ≡ true → parts_of w ≡ w ∷ []
parts_of-word w e = slice_split_none is_space w (no_space w (both _ _ e).1)

pub words_are : (line : List ℕ) (words : List (List ℕ)) → parts_of line ≡ words → list_all is_word words ≡ true → words_of line ≡ Some words
unfolding words_of
words_are line words e h = rw (e, h) refl

-- what `words_of` found
chosen : (b : Bool) (words found : List (List ℕ)) → cond b (Some words) None ≡ Some found → (b ≡ true) × (words ≡ found)
chosen true words found e = (refl, cc)
chosen false words found e = cc

pub words_in : (line : List ℕ) (words : List (List ℕ)) → words_of line ≡ Some words → (list_all is_word (parts_of line) ≡ true) × (parts_of line ≡ words)
unfolding words_of
words_in line words e = chosen _ _ _ e

-- the words are the parts, where each is a word
pub words_if : (line : List ℕ) (parts : Vec (Bor (List ℕ)) Global) (b : Bool) → map (λ part. part.now) parts.items ≡ parts_of line → b ≡ list_all (λ part. is_word part.now) parts.items
    → option_map (λ words. map (λ part. part.now) words.items) (then_some b parts) ≡ words_of line
unfolding words_of
words_if line parts true e h = let all : list_all is_word (parts_of line) ≡ true = ap (list_all is_word) (sym e) ∙ (list_all-map is_word (λ part. part.now) parts.items ∙ sym h) in rw all (ap Some e)
words_if line parts false e h = let all : list_all is_word (parts_of line) ≡ false = ap (list_all is_word) (sym e) ∙ (list_all-map is_word (λ part. part.now) parts.items ∙ sym h) in rw all refl
