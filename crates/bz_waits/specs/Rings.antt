-- Rings of components that can never move again, each of which waits for the next.
use Rattle.std.specs.Prelude.{◌≡◌, ℕ, ◌+◌, ◌<◌, Bool, true, not, List, length, slice_index, slice_index_or}
use Rattle.std.specs.List.{All}
use Rattle.bz_model.specs.Nets.{Wiring, State, IsPort, chan_at, passive_at, proc_at}
use Rattle.bz_flat.specs.Wires.{IsEnd}
use Rattle.bz_net.specs.Due.{HasMove}
use Rattle.bz_waits.specs.declared.rings.Link.{Link}
use Rattle.bz_waits.specs.Stuck.{is_member}

-- a component has a move due at a port, and another one has the other end of its channel
pub record IsLink (w : Wiring) (s : State) (l : Link) : Type 0 where
  pub is_port : IsPort w.sites l.comp l.port
  pub on : l.chan ≡ chan_at w.sites l.comp l.port
  pub has : HasMove (proc_at s l.comp) l.port l.due
  pub meets : (q : ℕ) × IsEnd w.sites (chan_at w.sites l.comp l.port) (not (passive_at w.sites l.comp l.port)) l.other q

-- each is of the set and waits for the next, and the last for the first
pub record IsRing (w : Wiring) (s : State) (member : ℕ → Bool) (ring : List Link) : Type 0 where
  pub members : All (λ l. member l.comp ≡ true) ring
  pub links : All (IsLink w s) ring
  pub next : (i : ℕ) (d : Link) → i + 1 < length ring → (slice_index_or ring i d).other ≡ (slice_index_or ring (i + 1) d).comp
  pub back : (i : ℕ) (d : Link) → i + 1 ≡ length ring → (slice_index_or ring i d).other ≡ (slice_index_or ring 0 d).comp

-- a link from the component at place i of a list to the next one there, and from the last to the first
pub record IsLinkAt (w : Wiring) (s : State) (row : List Bool) (comps : List ℕ) (i : ℕ) (l : Link) : Type 0 where
  pub stuck : is_member row l.comp ≡ true
  pub link : IsLink w s l
  pub comp : l.comp ≡ slice_index comps i
  pub next : i + 1 < length comps → l.other ≡ slice_index comps (i + 1)
  pub back : i + 1 ≡ length comps → l.other ≡ slice_index comps 0
