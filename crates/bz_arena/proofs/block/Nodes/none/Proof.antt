-- `none` is at the place of an array with no element. Assumes `Logic`.
use mathlib.Core.Path.{◌≡◌, refl, sym, subst}
use mathlib.Core.List.{[], ◌∷◌}
use Prim.Native.Nat.{ℕ, ◌+◌, ◌*◌, ◌<◌, ◌^◌}
use native.Mathlib.Nat.{zero-mul}
use lib.Dec.{lit<}
use base.Logic.{SProp, emp}
use base.Fml.{ftrue, flft, froom}
use base.Fraction.{full_share}
use mir.MapTy.{inst_fn}
use mir.Syntax.{a_type, ty_array}
use mir.Val.{Val}
use types.Kit.{‵, raw, ◌⊛◌, ◌$◌, ◌∵◌, !, qed, by, move, keep, split, use0}
use types.Part.{agg}
use types.Run.{stop, from, addr, no_more, and_then, returns, enter}
use types.ByLocal.{alloc_all, pass_all, free_all, look_at, get, sets}
use contract.Monad.{fact, fact_i}
use contract.Running.{tables}
use denote.Array.{Array}
use denote.Memory.{part_at}
use denote.Param.{layouts}
use denote.RawPtr.{block_ptr}
use denote.Steps.{nothing}
use denote.Triple.Walked.{Stays, walk_of}
use Rattle.core.proofs.ptr.Rows.{El, R, elτ, sz, empty}
use Rattle.std.proofs.raw_atomic.Walks.{proved_at, leaves}
use Rattle.bz_arena.proofs.Blocks.{nodes_made, nodes, at_start}
use Rattle.bz_arena.specs.contracts.block.Nodes.none.{ended, clauses}
use Rattle.bz_arena.proofs.block.Nodes.none.Statement.{statement}
use Rattle.bz_arena.specs.contracts.block.Nodes.none.Key.{name as #self}
use Rattle.bz_arena.proofs.block.Nodes.none.Code as code

pub none_spec : {M : Type 1} → statement M
none_spec 𝓤 𝓛 𝓜 𝓡 wired T L =
    let H = 𝓛.H in let 𝓣 = tables 𝓤 H 𝓜 𝓡 𝓡.env in let E : El = record { row = T; laws = L } in let En = ended T in let c = clauses T 𝓛 𝓜.mem 𝓡.returns in
    let inst = layouts (a_type ∷ []) (T, tt) in let fn = inst_fn inst code.function in let hs : Stays En.signature.params En.kept = tt in
    proved_at 𝓛 En hs c 𝓜 𝓡 tt (#self inst) fn (code.unfolded 𝓤 H 𝓜 𝓡 wired (T, tt)) (λ z are.
    let κs = z.0.0 in let qs = z.0.1 in let Post : Val → SProp 𝓤 = (walk_of 𝓛 En hs c).post z in
    qed 𝓛 (((‵ (flft κs.0 qs.0) ⊛ ‵ ftrue) ⊛ ‵ ftrue) ∷ raw ((c κs z.0.3).requires z.1) ∷ []) ∵ keep ! (0 ∷ []) $ split ! $ keep ! (0 ∷ []) $
    enter ! 𝓣.C 𝓣.Λ fn [] Post $ alloc_all ! (λ l. pass_all ! refl tt $
    sets ! (agg ! (no_more !)) refl (tt, tt) $ sets ! (addr ! (from ! (stop !))) refl (tt, tt) $ sets ! (agg ! (and_then ! (get ! refl) (no_more !))) refl (tt, (tt, tt)) $
    returns ! (look_at ! 0 refl) $ free_all ! refl $
    use0 𝓛 (‵ (froom (ty_array (elτ E) 0) (l 1) (0 + 0 * sz E))) (𝓛.laws.room_nil (elτ E) (l 1) (0 + 0 * sz E)) $ use0 𝓛 (‵ (part_at (Array (R E) 0) full_share [] (l 1) 0)) (empty E 𝓛 [] (l 1) 0 refl) $
    nodes_made E ! (l 1) 0 0 [] (subst (λ (k : ℕ). k < 2 ^ 63) (sym (zero-mul (sz E))) (lit< tt)) $
    let none = nodes E (l 1) 0 0 [] in let v : Val = at_start (block_ptr (l 1) 0) in let Said : Type 0 = (none.items ≡ []) × (none.places ≡ 0) in
    use0 𝓛 (raw (fact 𝓤 Said)) (fact_i 𝓤 Said (emp 𝓤) (refl, refl)) $ nothing ! $ move ! (3 ∷ 0 ∷ 2 ∷ 1 ∷ []) $ by ! (leaves 𝓛 En hs c z v none tt tt)))
