use Rattle.std.proofs.Common.{◌≡◌, ◌<◌, ◌≤◌, ◌+◌, ◌∙◌, ℕ, List, length, get_or, sym, ap, inl, inr, arith}
use Rattle.std.specs.Int.{bit_at, trailing_zeros, w64}
use Rattle.std.proofs.lemmas.List.{get_or_past, length-drop}
use Rattle.std.proofs.lemmas.Bool.{cases_lt}
use Rattle.bz_bits.proofs.Told.{behind_at, none_told, pos_of, told_before, told_first, told_there}
use Rattle.bz_bits.proofs.bits.PortBits.next_one.Goals as goal

pub returns-then-left-ne0-clause-from : goal.returns-then-left-ne0-clause-from
returns-then-left-ne0-clause-from g c =
    let ws = c.self.inside.more.items in let at = c.args.at in let left = c.told_from-left.result in
    let is = c.told.ensures ∙ ap (λ (l : List ℕ). get_or l 0 0) c.deref.ensures.value in
    let first : at ≤ trailing_zeros w64 left + 1 =
    told_first ws at left c.self.invariant c.requires.behind c.told_from-left.ensures.before
    (λ i lt le. c.told_from-left.ensures.rest i lt le ∙ ap (λ (x : ℕ). bit_at x i) is) (pos_of left c.if-left-ne0.true) c.told_from-left.type_inv in
    omega (arith, first, c.min.ensures, c.requires.ordered)

pub returns-then-left-ne0-clause-passed : goal.returns-then-left-ne0-clause-passed
returns-then-left-ne0-clause-passed g c k le lt =
    let ws = c.self.inside.more.items in let at = c.args.at in let left = c.told_from-left.result in
    let is = c.told.ensures ∙ ap (λ (l : List ℕ). get_or l 0 0) c.deref.ensures.value in
    let below : k < trailing_zeros w64 left + 1 = omega (arith, lt, c.min.ensures) in
    ap (λ (l : List ℕ). get_or l k 0) (sym c.self.view_is) ∙ behind_at c.self.inside.first ws k (omega (arith, c.requires.behind, le))
    ∙ told_before ws at left c.self.invariant c.requires.behind c.told_from-left.ensures.before
    (λ i lt le. c.told_from-left.ensures.rest i lt le ∙ ap (λ (x : ℕ). bit_at x i) is) (pos_of left c.if-left-ne0.true) c.told_from-left.type_inv k le below

pub returns-then-left-ne0-clause-stops : goal.returns-then-left-ne0-clause-stops
returns-then-left-ne0-clause-stops g c before lt z =
    let ws = c.self.inside.more.items in let at = c.args.at in let left = c.told_from-left.result in
    let is = c.told.ensures ∙ ap (λ (l : List ℕ). get_or l 0 0) c.deref.ensures.value in
    let there : c.min.result ≡ trailing_zeros w64 left + 1 = omega (arith, before, c.min.ensures) in
    told_there ws at left c.self.invariant c.requires.behind c.told_from-left.ensures.before
    (λ i lt le. c.told_from-left.ensures.rest i lt le ∙ ap (λ (x : ℕ). bit_at x i) is) (pos_of left c.if-left-ne0.true) c.told_from-left.type_inv
    (ap (λ (k : ℕ). get_or ws k 0) (sym there) ∙ sym (behind_at c.self.inside.first ws c.min.result (omega (arith, there))) ∙ ap (λ (l : List ℕ). get_or l c.min.result 0) c.self.view_is ∙ z)

pub returns-then-len-le65-clause-passed : goal.returns-then-len-le65-clause-passed
returns-then-len-le65-clause-passed g c k le lt =
    let ws = c.self.inside.more.items in let at = c.args.at in let left = c.told_from-left.result in
    let is = c.told.ensures ∙ ap (λ (l : List ℕ). get_or l 0 0) c.deref.ensures.value in
    ap (λ (l : List ℕ). get_or l k 0) (sym c.self.view_is) ∙ behind_at c.self.inside.first ws k (omega (arith, c.requires.behind, le)) ∙ elim (cases_lt k 65) [
      | inl near ↦ none_told ws at left c.self.invariant c.requires.behind c.told_from-left.ensures.before
          (λ i lt le. c.told_from-left.ensures.rest i lt le ∙ ap (λ (x : ℕ). bit_at x i) is) c.if-left-ne0.false k le near
      | inr past ↦ get_or_past ws k 0 (omega (arith, past, c.if-len-le65.true, c.len.ensures, c.self.inside.more.ok))
    ]

pub returns-clause-from : goal.returns-clause-from
returns-clause-from g c = omega (arith, c.next_beyond.ensures.from, c.min-2.ensures, c.max.ensures, c.requires.ordered)

pub returns-clause-passed : goal.returns-clause-passed
returns-clause-passed g c k le lt =
    let ws = c.self.inside.more.items in let at = c.args.at in let left = c.told_from-left.result in
    let is = c.told.ensures ∙ ap (λ (l : List ℕ). get_or l 0 0) c.deref.ensures.value in
    ap (λ (l : List ℕ). get_or l k 0) (sym c.self.view_is) ∙ behind_at c.self.inside.first ws k (omega (arith, c.requires.behind, le)) ∙ elim (cases_lt k 65) [
      | inl near ↦ none_told ws at left c.self.invariant c.requires.behind c.told_from-left.ensures.before
          (λ i lt le. c.told_from-left.ensures.rest i lt le ∙ ap (λ (x : ℕ). bit_at x i) is) c.if-left-ne0.false k le near
      | inr far ↦ ap (λ (l : List ℕ). get_or l k 0) (sym c.deref-2.ensures.value) ∙ c.next_beyond.ensures.passed k (omega (arith, far, le, c.min-2.ensures, c.max.ensures)) lt
    ]

pub returns-clause-stops : goal.returns-clause-stops
returns-clause-stops g c before lt z =
    let ws = c.self.inside.more.items in let r = c.next_beyond.result in
    let long = ap length (sym c.self.view_is) in
    let within : r < length ws = omega (arith, lt, long, length-drop 1 ws) in
    let some = rw c.deref-2.ensures.value at c.next_beyond.ensures.stops in
    let behind : 0 < r = omega (arith, c.next_beyond.ensures.from, c.min-2.ensures, c.max.ensures, c.requires.ordered, c.requires.behind) in
    some before within (sym (behind_at c.self.inside.first ws r behind) ∙ ap (λ (l : List ℕ). get_or l r 0) c.self.view_is ∙ z)
