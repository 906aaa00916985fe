-- Channels that are all alike.
use Rattle.std.proofs.Common.{◌≡◌, ◌∙◌, List, [], ◌∷◌, ap, length, refl, replicate, sym}
use Rattle.std.specs.List.{All}
use Rattle.std.proofs.lemmas.List.Elements.{All-head, All-tail}
use Rattle.bz_model.specs.declared.channel.Chan.{Chan}

abbrev pub IsAs : Chan → Chan → Type 0
IsAs x c = (c.kind ≡ x.kind) × (c.width ≡ x.width)

same_chan : (x c : Chan) → IsAs x c → x ≡ c
same_chan x c (kind, width) = ap (λ k. record { kind = k; width = x.width }) (sym kind) ∙ ap (λ w. record { kind = c.kind; width = w }) (sym width)

pub all_alike : (x : Chan) (cs : List Chan) → All (IsAs x) cs → replicate (length cs) x ≡ cs
all_alike x [] h = refl
all_alike x (c ∷ cs) h =
    ap (λ y. y ∷ replicate (length cs) x) (same_chan x c (All-head (IsAs x) c cs h)) ∙ ap (λ ys. c ∷ ys) (all_alike x cs (All-tail (IsAs x) c cs h))
