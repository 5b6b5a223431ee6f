-- A bound, and a prefix, is written in the word that gives it.
use Rattle.std.proofs.Common.{◌≡◌, ℕ, Bool, true, false, cond, List, [], ◌∷◌, refl, sym, bytes_eq}
use Rattle.std.proofs.lemmas.Slice.Eq.{bytes_eq-Decides}
use Rattle.std.specs.Prelude.{codes}
use Rattle.std.specs.declared.ops.Bound.{Bound}
use Rattle.std.specs.declared.ops.Bound.TheVariants.{Included, Excluded, Unbounded}
use Rattle.lsm_shell_parts.specs.Bounds.{included_of, excluded_of, prefix_of, included_word, excluded_word, prefix_word}
use Rattle.lsm_shell_parts.specs.Word.{is_word}

-- ---- the word that is written is the word that was read

included_read : (w : List ℕ) (b : Bool) → bytes_eq w (codes "-") ≡ b → included_word (cond b Unbounded (Included w)) ≡ w
included_read w true e = sym ((bytes_eq-Decides w (codes "-")).0 e)
included_read w false e = rw e refl

pub included_written : (w : List ℕ) → included_word (included_of w) ≡ w
included_written w = included_read w _ refl

excluded_read : (w : List ℕ) (b : Bool) → bytes_eq w (codes "-") ≡ b → excluded_word (cond b Unbounded (Excluded w)) ≡ w
excluded_read w true e = sym ((bytes_eq-Decides w (codes "-")).0 e)
excluded_read w false e = rw e refl

pub excluded_written : (w : List ℕ) → excluded_word (excluded_of w) ≡ w
excluded_written w = excluded_read w _ refl

prefix_read : (w : List ℕ) (b : Bool) → bytes_eq w (codes "-") ≡ b → is_word w ≡ true → prefix_word (cond b [] w) ≡ w
prefix_read w true e word = sym ((bytes_eq-Decides w (codes "-")).0 e)
prefix_read [] false e word = cc
prefix_read (x ∷ xs) false e word = rw e refl

pub prefix_written : (w : List ℕ) → is_word w ≡ true → prefix_word (prefix_of w) ≡ w
prefix_written w word = prefix_read w _ refl word

-- ---- the bound that is read is the bound that was written, where a word writes it

included_key : (k : List ℕ) (b : Bool) → bytes_eq k (codes "-") ≡ b → is_word (cond b [] k) ≡ true → included_of (cond b [] k) ≡ Included k
included_key k true e word = cc
included_key k false e word = rw e refl

pub included_of-word : (bound : Bound (List ℕ)) → is_word (included_word bound) ≡ true → included_of (included_word bound) ≡ bound
included_of-word Unbounded word = refl
included_of-word (Included k) word = included_key k _ refl word
included_of-word (Excluded k) word = cc

excluded_key : (k : List ℕ) (b : Bool) → bytes_eq k (codes "-") ≡ b → is_word (cond b [] k) ≡ true → excluded_of (cond b [] k) ≡ Excluded k
excluded_key k true e word = cc
excluded_key k false e word = rw e refl

pub excluded_of-word : (bound : Bound (List ℕ)) → is_word (excluded_word bound) ≡ true → excluded_of (excluded_word bound) ≡ bound
excluded_of-word Unbounded word = refl
excluded_of-word (Included k) word = cc
excluded_of-word (Excluded k) word = excluded_key k _ refl word

prefix_key : (k : List ℕ) (b : Bool) → bytes_eq k (codes "-") ≡ b → is_word (cond b [] k) ≡ true → prefix_of (cond b [] k) ≡ k
prefix_key k true e word = cc
prefix_key k false e word = rw e refl

pub prefix_of-word : (p : List ℕ) → is_word (prefix_word p) ≡ true → prefix_of (prefix_word p) ≡ p
prefix_of-word [] word = refl
prefix_of-word (x ∷ xs) word = prefix_key (x ∷ xs) _ refl word
