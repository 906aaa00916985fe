-- The trace of a pool is one that `check` accepts.
use Rattle.std.proofs.Common.{◌≡◌, ℕ, ◌≤◌, List, [], ◌∷◌, length, sym, subst, arith, true, true≢false}
use Rattle.std.specs.List.{AllByRecursion}
use Rattle.std.specs.declared.alloc.Global.{Global}
use Rattle.std.specs.declared.vec.Vec.{Vec}
use Rattle.bz_model.specs.declared.event.Entry.{Entry}
use Rattle.bz_model.specs.declared.event.Entry.TheVariants.{Fired, Host, Rested}
use Rattle.bz_model.specs.declared.event.HostCmd.{HostCmd}
use Rattle.bz_model.specs.declared.event.Who.{Who}
use Rattle.bz_model.specs.declared.event.Who.TheVariants as who
use Rattle.bz_model.specs.Entries.{HasWho, IsHost, IsWho}
use Rattle.bz_model.specs.Limits.{max_entries}
use Rattle.bz_past.specs.Owners.{AreNamed, IsNamed, MayMake, is_host, who_of}
use Rattle.bz_locked.specs.Terms.{Terms}
use Rattle.bz_pool.specs.declared.playing.End.{End}
use Rattle.bz_trace.specs.Verdicts.{IsRunText}
use Rattle.bz_trace.proofs.Accepted.{accepted}
use Rattle.bz_cli.specs.Pooling.{WritesPlay}

in_range : (hosts workers : ℕ) (w : Who) → hosts ≤ 16 → workers ≤ 8 → IsNamed hosts workers w → IsWho w
in_range hosts workers (who.Host k) few hands is = (omega (arith, is.0), omega (arith, is.1, few))
in_range hosts workers (who.Worker k) few hands is = (omega (arith, is.0), omega (arith, is.1, hands))

host_in_range : (hosts workers : ℕ) (w : Who) → hosts ≤ 16 → is_host w ≡ true → IsNamed hosts workers w → IsHost w
host_in_range hosts workers (who.Host k) few host is = (omega (arith, is.0), omega (arith, is.1, few))
host_in_range hosts workers (who.Worker k) few host is = absurd (true≢false (sym host))

has_who : (hosts workers : ℕ) (e : Entry) → hosts ≤ 16 → workers ≤ 8 → IsNamed hosts workers (who_of e) → MayMake (who_of e) e → HasWho e
has_who hosts workers (Fired w comp port chan mv value) few hands is may = in_range hosts workers w few hands is
has_who hosts workers (Host w verb port value reply) few hands is may = host_in_range hosts workers w few may is
has_who hosts workers (Rested w) few hands is may = in_range hosts workers w few hands is

all_have_who : (hosts workers : ℕ) (es : List Entry) → hosts ≤ 16 → workers ≤ 8 → AreNamed hosts workers es → AllByRecursion HasWho es
all_have_who hosts workers [] few hands named = tt
all_have_who hosts workers (e ∷ es) few hands named = (has_who hosts workers e few hands named.0 named.1, all_have_who hosts workers es few hands named.2)

pub pool_accepted : (t : Terms) (lists : List (Vec HostCmd Global)) (workers : ℕ) (ends : List End) (Out : List ℕ → Type 0) (play : WritesPlay t lists workers ends Out) → length lists ≤ 16 → workers ≤ 8 → t.limit ≤ max_entries → IsRunText t.wiring play.trace
pool_accepted t lists workers ends Out play few hands limit =
    let named : AreNamed (length lists) workers play.entries = subst (AreNamed (length lists) workers) play.ends_there.0 play.played.named in
    accepted t.wiring play.entries play.to play.trace (play.run, all_have_who (length lists) workers play.entries few hands named) (omega (arith, play.few, limit)) play.is_trace
