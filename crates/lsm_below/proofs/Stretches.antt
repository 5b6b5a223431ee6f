-- Entries that follow each other, with their heads.
use Rattle.std.proofs.Common.{◌≡◌, ℕ, ◌-◌, List, length, take, drop, map, ◌∙◌, ap}
use Rattle.std.proofs.lemmas.List.{length-map}
use Rattle.std.specs.List.{take-map, drop-map}
use Rattle.std.proofs.lemmas.List.Elements.{All-take, All-drop}
use Rattle.lsm_below.specs.declared.value.InternalValue.{InternalValue}
use Rattle.lsm_below.specs.Entries.{HasBytes}
use Rattle.lsm_below.specs.Heads.{entry_head, AreHeads}

-- the first so many, with their heads
pub heads_to : (n : ℕ) (hs : List ℕ) (es : List InternalValue) → AreHeads hs es → AreHeads (take n hs) (take n es)
heads_to n hs es h = record { same = ap (take n) h.same ∙ take-map entry_head n es; bytes = All-take HasBytes n es h.bytes }

-- without the first so many
pub heads_from : (n : ℕ) (hs : List ℕ) (es : List InternalValue) → AreHeads hs es → AreHeads (take (length hs - n) (drop n hs)) (take (length es - n) (drop n es))
heads_from n hs es h =
    let len : length hs ≡ length es = ap (λ (l : List ℕ). length l) h.same ∙ length-map es entry_head in
    let there : drop n hs ≡ map entry_head (drop n es) = ap (drop n) h.same ∙ drop-map entry_head n es in
    record {
      same = ap (λ k. take (k - n) (drop n hs)) len ∙ ap (take (length es - n)) there ∙ take-map entry_head (length es - n) (drop n es);
      bytes = All-take HasBytes (length es - n) (drop n es) (All-drop HasBytes n es h.bytes);
    }
