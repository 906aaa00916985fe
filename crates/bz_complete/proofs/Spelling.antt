-- A short trace of one line more.
use Rattle.std.proofs.Common.{◌≡◌, List, [], ◌∷◌, ◌++◌, ℕ, ◌+◌, Option, Some, None, inr, length, refl, sym, ap, subst, ◌∙◌, append_assoc, arith}
use Rattle.std.specs.Prelude.{IfSome}
use Rattle.std.proofs.lemmas.List.{append-nil}
use Rattle.std.specs.Str.Parse.{IsNumeral}
use Rattle.bz_complete.specs.Named.{ChanTable, IsNamed}
use Rattle.bz_complete.specs.declared.short.ShortMove.{ShortMove}
use Rattle.bz_complete.specs.ShortTexts.{BeginsWith, GoesTo, Spells, Stands, line_end}

-- lines, and behind them the line of a move
pub spells_more : (names : ChanTable) (front text rest : List ℕ) (ms : List ShortMove) (m : ShortMove) → Spells names front ms → BeginsWith names text m rest
    → (line : List ℕ) × (text ≡ line ++ rest) × Spells names (front ++ line) (ms ++ m ∷ [])
spells_more names front text rest [] m is begins =
    let (line, cut, of) = begins in (
      line ++ line_end ∷ [],
      cut ∙ sym (append_assoc line (line_end ∷ []) rest),
      ([], (line, ap (λ s. s ++ (line ++ line_end ∷ [])) is, of), refl),
    )
spells_more names front text rest (n ∷ ns) m is begins =
    let (behind, first, others) = is in
    let (line, cut, more) = spells_more names behind text rest ns m others begins in (
      line,
      cut,
      (behind ++ line, (first.0, ap (λ s. s ++ line) first.1 ∙ append_assoc first.0 (line_end ∷ behind) line, first.2), more),
    )

-- a name stands for its channel, where it is no number
pub stands_named : (names : ChanTable) (form word : List ℕ) (r : Option ℕ) → form ≡ word → (IsNumeral 10 word → ⊥) → IfSome r (IsNamed names form) → IfSome r (Stands names word)
stands_named names form word None same none is = tt
stands_named names form word (Some k) same none is = inr (none, subst (λ f. IsNamed names f k) same is)

-- all of a text was read
pub spells_all : (names : ChanTable) (front text rest : List ℕ) (ms : List ShortMove) → Spells names front ms → text ≡ front ++ rest → length rest ≡ 0 → Spells names text ms
spells_all names front text [] ms is cut none = subst (λ t. Spells names t ms) (sym (cut ∙ append-nil front)) is
spells_all names front text (b ∷ bs) ms is cut none = absurd (omega (arith, none))

-- some of it was read
pub goes_to : (names : ChanTable) (front text rest : List ℕ) (ms : List ShortMove) (n : ℕ) → Spells names front ms → text ≡ front ++ rest → (length rest ≡ 0 → ⊥) → length ms ≡ n → GoesTo names text (n + 1)
goes_to names front text rest ms n is cut some many = (front, rest, ms, cut, (λ e. some (ap length e)), is, omega (arith, many))
