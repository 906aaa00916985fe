-- Lines that are kept, in two words.
use Rattle.std.proofs.Common.{◌≡◌, ℕ, ◌+◌, ◌≤◌, List, ◌++◌, take, drop, length, ap, sym, ◌∙◌, append_assoc, arith, codes, length-append}
use Rattle.std.proofs.Math.Seq.{take-add, take-append-add}
use Rattle.std.proofs.lemmas.List.{length-take-le, take-take, take_at, take-append-le, drop_at, drop-drop}
use Rattle.std.specs.Prelude.{Some, None, decimal}
use Rattle.bz_model.specs.declared.channel.Move.{Move}
use Rattle.bz_model.specs.declared.event.Who.{Who}
use Rattle.bz_model.specs.Traces.{who_text, move_text, fired_text}
use Rattle.bz_trace_text.specs.Keeping.{told_line}

-- the two first words of a text, together
pub words_of : (text : List ℕ) (n : ℕ) → n ≤ 16 → take n (take 8 text ++ take 8 (drop 8 text)) ≡ take n text
words_of text n few = ap (take n) (sym (take-add 8 8 text)) ∙ take-take n 16 text few

-- a text, from its parts, with a line feed behind
pub told_is : (word : List ℕ) (len comp chan : ℕ) (mv : Move) → take len word ≡ decimal comp ++ (codes " " ++ (move_text mv ++ (codes " " ++ decimal chan))) → take (len + 1) word ≡ take len word ++ codes "\n"
    → take (len + 1) word ≡ told_line comp mv chan
told_is word len comp chan mv text ended = ended ∙ ap (λ t. t ++ codes "\n") text ∙ simp append_assoc

-- two words that were written, one behind the other
pub two_words : (at : ℕ) (old mid new first second : List ℕ) → at + 16 ≤ length old → length first ≡ 8 → length second ≡ 8
    → mid ≡ take at old ++ (first ++ drop (at + 8) old) → new ≡ take (at + 8) mid ++ (second ++ drop (at + 8 + 8) mid)
    → new ≡ take at old ++ ((first ++ second) ++ drop (at + 16) old)
two_words at old mid new first second fits one two e f =
    let start = length-take-le at old (omega arith) in
    let same : at + 8 + 8 ≡ at + 16 = omega arith in
    let joined : mid ≡ (take at old ++ first) ++ drop (at + 8) old = e ∙ sym (append_assoc (take at old) first (drop (at + 8) old)) in
    let long : length (take at old ++ first) ≡ at + 8 = omega (arith, length-append (take at old) first) in
    let front : take (at + 8) mid ≡ take at old ++ first = ap (take (at + 8)) joined ∙ take_at (take at old ++ first) (drop (at + 8) old) (at + 8) long in
    let back : drop (at + 8 + 8) mid ≡ drop (at + 16) old =
    sym (drop-drop 8 (at + 8) mid) ∙ ap (drop 8) (ap (drop (at + 8)) joined ∙ drop_at (take at old ++ first) (drop (at + 8) old) (at + 8) long) ∙ drop-drop 8 (at + 8) old ∙ ap (λ k. drop k old) same in
    f ∙ ap (λ t. t ++ (second ++ drop (at + 8 + 8) mid)) front ∙ ap (λ t. (take at old ++ first) ++ (second ++ t)) back
    ∙ append_assoc (take at old) first (second ++ drop (at + 16) old) ∙ ap (λ t. take at old ++ t) (sym (append_assoc first second (drop (at + 16) old)))

-- some bytes of a word that was written at a place
pub word_part : (at len : ℕ) (old new word rest : List ℕ) → at ≤ length old → len ≤ length word → new ≡ take at old ++ (word ++ rest) → take (at + len) new ≡ take at old ++ take len word
word_part at len old new word rest fits few e =
    ap (take (at + len)) e ∙ ap (λ k. take (k + len) (take at old ++ (word ++ rest))) (sym (length-take-le at old fits))
    ∙ take-append-add (take at old) (word ++ rest) len ∙ ap (λ t. take at old ++ t) (take-append-le len word rest few)

-- a kept line without a value
pub kept_none : (who : Who) (comp chan : ℕ) (mv : Move) (before kept : List ℕ) → kept ≡ told_line comp mv chan → before ++ ((who_text who ++ codes " fire ") ++ kept) ≡ before ++ fired_text who comp mv chan None
kept_none who comp chan mv before kept e = ap (λ t. before ++ ((who_text who ++ codes " fire ") ++ t)) e ∙ simp append_assoc

-- the same in front of its line feed, where a value comes
pub kept_front : (who : Who) (comp chan : ℕ) (mv : Move) (before kept : List ℕ) → kept ≡ told_line comp mv chan
    → before ++ ((who_text who ++ codes " fire ") ++ kept) ≡ (before ++ ((who_text who ++ codes " fire ") ++ (decimal comp ++ (codes " " ++ (move_text mv ++ (codes " " ++ decimal chan)))))) ++ codes "\n"
kept_front who comp chan mv before kept e = ap (λ t. before ++ ((who_text who ++ codes " fire ") ++ t)) e ∙ simp append_assoc

pub kept_value : (who : Who) (comp chan value : ℕ) (mv : Move) (before : List ℕ)
    → (before ++ ((who_text who ++ codes " fire ") ++ (decimal comp ++ (codes " " ++ (move_text mv ++ (codes " " ++ decimal chan)))))) ++ (codes " " ++ (decimal value ++ codes "\n")) ≡ before ++ fired_text who comp mv chan (Some value)
kept_value who comp chan value mv before = simp append_assoc
