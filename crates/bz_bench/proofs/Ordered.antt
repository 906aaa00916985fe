-- What may begin in a group stands there, or above.
use Rattle.std.proofs.Common.{◌≡◌, ℕ, ◌≤◌, Bool, true, false, nat_lt, List, length, take, inl, inr, refl, arith}
use Rattle.std.specs.Prelude.{if◌then◌else◌}
use Rattle.std.specs.Option.{is_some}
use Rattle.std.proofs.lemmas.Bool.{cases_lt, lt-ltb}
use Rattle.bz_model.specs.declared.event.Entry.{Entry}
use Rattle.bz_bench.specs.Dues.{group_of, item_at, may_begin}
use Rattle.bz_bench.specs.Groups.{AreInTurn, IsPlay}
use Rattle.bz_bench.specs.Streams.{begun}
use Rattle.bz_bench.specs.declared.stream.Stream.{Stream}

not_below : (below some : Bool) → (if below then false else some) ≡ true → below ≡ false
not_below true some may = cc
not_below false some may = refl

pub may_in_group : (stream : Stream) (group n : ℕ) → may_begin stream group n ≡ true → group_of stream n ≤ group
may_in_group stream group n may = elim (cases_lt group (group_of stream n)) [
  | inl below ↦
      let is = lt-ltb group (group_of stream n) below in
      let no = not_below (nat_lt group (group_of stream n)) (is_some (item_at stream n)) may in
      cc
  | inr within ↦ within
]

pub in_turn : (streams : List Stream) (entries : List Entry) (groups : ℕ → ℕ) → IsPlay streams entries groups → AreInTurn streams entries
in_turn streams entries groups play place entry at port stream is begins group above =
    let step = play place entry at in
    let may = may_in_group stream (groups place) (length (begun port (take place entries))) (step.may port stream is begins) in
    step.done group (omega (arith, above, may))
