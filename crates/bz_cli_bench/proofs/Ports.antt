-- What is said of each port, port by port.
use Rattle.std.proofs.Common.{◌≡◌, ℕ, ◌+◌, ◌<◌, ◌≤◌, true, Option, Some, List, length, get_or, inl, inr, sym, subst, ◌∙◌, ap, arith}
use Rattle.std.specs.Prelude.{slice_get}
use Rattle.std.proofs.lemmas.Bool.{cases_lt}
use Rattle.std.proofs.lemmas.Option.{slice_get_within, get_or_from_slice_get}
use Rattle.bz_model.specs.declared.channel.Chan.{Chan}
use Rattle.bz_model.specs.declared.event.Entry.{Entry}
use Rattle.bz_model.specs.Names.{channel}
use Rattle.bz_model.specs.Nets.{Wiring}
use Rattle.bz_bench.specs.Streams.{passed, passed_on}
use Rattle.bz_bench.specs.Tallies.{IsTally}
use Rattle.bz_bench.specs.declared.tally.Tally.{Tally}
use Rattle.bz_bench.specs.Dues.{DiffersAt, IsAsDue, fits, item_at}
use Rattle.bz_bench.specs.declared.stream.Item.{Item}
use Rattle.bz_bench.specs.declared.stream.Stream.{Stream}

-- the first so many that passed are as due
abbrev pub AreFirst : Stream → List (Option ℕ) → ℕ → Type 0
AreFirst stream passed n = (place : ℕ) (came : Option ℕ) → place < n → slice_get passed place ≡ Some came → fits (item_at stream place) came ≡ true

pub due_none : (stream : Stream) (passed : List (Option ℕ)) → AreFirst stream passed 0
due_none stream passed place came lt is = absurd (omega (arith, lt))

pub due_more : (stream : Stream) (passed : List (Option ℕ)) (n : ℕ) (x : Option ℕ) → x ≡ get_or passed n x → fits (item_at stream n) x ≡ true → AreFirst stream passed n → AreFirst stream passed (n + 1)
due_more stream passed n x was fit before place came lt is = elim (cases_lt place n) [
  | inl less ↦ before place came less is
  | inr least ↦
      let e : n ≡ place = omega (arith, lt, least) in
      let same : x ≡ came = was ∙ ap (λ k. get_or passed k x) e ∙ get_or_from_slice_get passed place came x is in
      subst (λ y. fits (item_at stream place) y ≡ true) same (subst (λ k. fits (item_at stream k) x ≡ true) e fit)
]

pub due_all : (stream : Stream) (passed : List (Option ℕ)) (n : ℕ) → length passed ≤ n → AreFirst stream passed n → IsAsDue stream passed
due_all stream passed n all first place came is = first place came (let lt = slice_get_within passed place came is in omega (arith, lt, all)) is

-- what passed at a port, by what is told of it
pub passed_is : (w : Wiring) (port : ℕ) (entries : List Entry) (t : Tally) (chan : Option Chan) (xs : List (Option ℕ)) → IsTally port entries t → chan ≡ channel w.chans port
    → xs ≡ passed_on chan t.begun.items t.ended.items → xs ≡ passed w port entries
passed_is w port entries t chan xs tally on is = λ i. (is ∙ (λ j. passed_on (on j) (tally.begun_is j) (tally.ended_is j))) i

pub differs_is : (stream : Stream) (xs ys : List (Option ℕ)) (place : ℕ) (due : Option Item) (came : Option ℕ) → xs ≡ ys → due ≡ item_at stream place → DiffersAt stream xs place (item_at stream place) came → DiffersAt stream ys place due came
differs_is stream xs ys place due came same is differs =
    subst (λ zs. DiffersAt stream zs place due came) same (subst (λ d. DiffersAt stream xs place d came) (sym is) differs)
