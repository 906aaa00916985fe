-- What the threads of a pool have done, before the net is closed.
use Rattle.std.specs.Prelude.{◌≡◌, ℕ, ⊤, List, [], ◌∷◌, ◌++◌, length}
use Rattle.std.specs.declared.alloc.Global.{Global}
use Rattle.std.specs.declared.vec.Vec.{Vec}
use Rattle.bz_model.specs.declared.event.HostCmd.{HostCmd}
use Rattle.bz_locked.specs.Parts.{SessionView, WorkerView}
use Rattle.bz_pool.specs.declared.playing.End.{End}
use Rattle.bz_pool.specs.Pooled.{IsPlayed, WorkEndIs}
use Rattle.bz_locked.specs.Terms.{Terms}

-- each session has played its list, and ended as told
abbrev pub EachPlayed : Terms → List (Vec HostCmd Global) → List SessionView → List End → Type 0
EachPlayed t [] [] [] = ⊤
EachPlayed t [] [] (e ∷ es) = ⊥
EachPlayed t [] (s ∷ ss) es = ⊥
EachPlayed t (l ∷ ls) [] es = ⊥
EachPlayed t (l ∷ ls) (s ∷ ss) [] = ⊥
EachPlayed t (l ∷ ls) (s ∷ ss) (e ∷ es) = IsPlayed t s.seat.saw s.who l.items e s.own × EachPlayed t ls ss es

-- each worker has ended as told
abbrev pub EachWorked : Terms → List WorkerView → List End → Type 0
EachWorked t [] [] = ⊤
EachWorked t [] (e ∷ es) = ⊥
EachWorked t (v ∷ vs) [] = ⊥
EachWorked t (v ∷ vs) (e ∷ es) = WorkEndIs t v.seat.saw e × EachWorked t vs es

-- the ends of so many workers more
pub record AddsWork (t : Terms) (workers : List WorkerView) (count : ℕ) (old new : List End) : Type 0 where
  pub of_workers : List End
  pub grown : new ≡ old ++ of_workers
  pub number : length of_workers ≡ count
  pub worked : EachWorked t workers of_workers

-- The sessions have played their lists, and the ends are theirs and then those of so many workers.
pub record HavePlayed (t : Terms) (lists : List (Vec HostCmd Global)) (sessions : List SessionView) (crew : List WorkerView) (workers : ℕ) (ends : List End) : Type 0 where
  pub of_sessions : List End
  pub played : EachPlayed t lists sessions of_sessions
  pub then : AddsWork t crew workers of_sessions ends
