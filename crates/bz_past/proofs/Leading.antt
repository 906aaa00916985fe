-- A moment leads to itself, and on through another.
use Rattle.std.proofs.Common.{◌≡◌, ℕ, ◌≤◌, List, [], ◌∷◌, ◌++◌, length, refl, sym, ap, ◌∙◌, subst, append_assoc, arith, length-append}
use Rattle.std.proofs.lemmas.List.{append-nil}
use Rattle.bz_model.specs.declared.event.Entry.{Entry}
use Rattle.bz_model.specs.Nets.{Wiring, State}
use Rattle.bz_model.specs.Runs.{Run}
use Rattle.bz_past.specs.Moments.{AreWithin, Leads}
use Rattle.bz_past.specs.declared.standing.Turn.{Turn}
use Rattle.bz_past.specs.declared.view.Moment.{Moment}

-- one run after another
pub run_on : (w : Wiring) (s : State) (xs ys : List Entry) (m t : State) → Run w s xs m → Run w m ys t → Run w s (xs ++ ys) t
run_on w s [] ys m t one two = subst (λ x. Run w x ys t) one two
run_on w s (x ∷ xs) ys m t one two = (one.0, one.1, run_on w one.0 xs ys m t one.2 two)

within_more : (f g s t : ℕ) (ts : List Turn) → g ≤ f → s ≤ t → AreWithin f s ts → AreWithin g t ts
within_more f g s t [] low high all = tt
within_more f g s t (x ∷ xs) low high all = (omega (arith, low, all.0), omega (arith, high, all.1), within_more f g s t xs low high all.2)

within_append : (f t : ℕ) (xs ys : List Turn) → AreWithin f t xs → AreWithin f t ys → AreWithin f t (xs ++ ys)
within_append f t [] ys one two = two
within_append f t (x ∷ xs) ys one two = (one.0, one.1, within_append f t xs ys one.2 two)

-- the journal grows
pub longer : (a b : Moment) → Leads a b → length a.net.journal ≤ length b.net.journal
longer a b leads = let e = ap length leads.journal ∙ length-append a.net.journal leads.rest in omega (arith, e)

-- while it grows from a to b, and then on to c
pub within_on : (a b c : Moment) → (one : Leads a b) → (two : Leads b c) → AreWithin (length a.net.journal) (length c.net.journal) (one.later ++ two.later)
within_on a b c one two =
    let x = length a.net.journal in
    let y = length b.net.journal in
    let z = length c.net.journal in
    let low : x ≤ y = longer a b one in
    let high : y ≤ z = longer b c two in
    within_append x z one.later two.later (within_more x x y z one.later (omega arith) high one.within) (within_more y x z z two.later low (omega arith) two.within)

unfoldable pub here : (a : Moment) → Leads a a
here a = record { wiring = refl; limit = refl; rest = []; journal = sym (append-nil a.net.journal); run = refl; stays = λ h. h; later = []; turns = sym (append-nil a.turns); within = tt }

unfoldable pub onward : (a b c : Moment) → Leads a b → Leads b c → Leads a c
onward a b c one two = record {
  wiring = two.wiring ∙ one.wiring;
  limit = two.limit ∙ one.limit;
  rest = one.rest ++ two.rest;
  journal = two.journal ∙ ap (λ j. j ++ two.rest) one.journal ∙ append_assoc a.net.journal one.rest two.rest;
  run = run_on a.net.wiring a.net.state one.rest two.rest b.net.state c.net.state one.run (subst (λ w. Run w b.net.state two.rest c.net.state) one.wiring two.run);
  stays = λ h. two.stays (one.stays h);
  later = one.later ++ two.later;
  turns = two.turns ∙ ap (λ l. l ++ two.later) one.turns ∙ append_assoc a.turns one.later two.later;
  within = within_on a b c one two;
}
