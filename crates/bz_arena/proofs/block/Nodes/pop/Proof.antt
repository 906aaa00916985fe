-- `pop` reads the last place that holds a node. Assumes `Logic`.
use mathlib.Core.Path.{◌≡◌, refl, sym, subst}
use mathlib.Core.List.{List, [], ◌∷◌, ◌++◌}
use Prim.Native.Nat.{ℕ, ◌+◌, ◌-◌, ◌*◌, ◌<◌, ◌^◌}
use native.Mathlib.Omega.{arith}
use lib.ListN.{length}
use base.Fraction.{full_share}
use base.Logic.{SProp, ent, emp, id⊢}
use base.Fml.{ftrue, fat, froom, flft}
use mir.MapTy.{inst_fn}
use mir.Syntax.{a_type, ty_array, w64}
use mir.Val.{Val, vint, vptr}
use prog.Wp.{WpFn}
use types.Kit.{‵, raw, ◌⊛◌, some, given, pick, learn, at_ret, ◌$◌, ◌∵◌, !, qed, by, move, keep, join, split, split3, fsplit, fsplit3, fjoin, fjoin3, feq_i, feq_l, flt_l, rewrite, suffices, use0, use1, use2}
use types.Part.{whole, sub, look_in}
use types.Run.{look, stop, fld, load, of_opd, bin, size_lit, first, blocks, exec, returns, enter}
use types.ByLocal.{alloc_all, pass_all, free_all, look_at, get, through, sets, sets_last, env}
use contract.BorrowLft.{◌⊑◌}
use contract.Monad.{fact, fact_i}
use contract.Running.{tables}
use denote.Array.{Array}
use denote.Builtin.{usize}
use denote.Exit.{yes}
use denote.Memory.{cell_at, part_at}
use denote.Param.{layouts}
use denote.RattleType.{owns}
use denote.RawPtr.{block_ptr}
use denote.Signature.{types_at, plain}
use denote.Steps.{nothing, heard, opens, closes}
use denote.Triple.Walked.{Stays, stay_ref, stay_dropped, walk_of, Goes-ref, Goes-dropped}
use Rattle.core.proofs.alloc.Shapes.{after}
use Rattle.core.proofs.ptr.Rows.{El, R, el_x, elτ, sz, Good, el_out, unsnoc, times_below, one_below}
use Rattle.std.proofs.raw_atomic.Walks.{proved_at, leaves}
use Rattle.bz_arena.proofs.Blocks.{Nr, nodes, nodes_had, nodes_made, at_start, last_of, room_back}
use Rattle.bz_arena.specs.contracts.block.Nodes.pop.{ended, clauses}
use Rattle.bz_arena.proofs.block.Nodes.pop.Statement.{statement}
use Rattle.bz_arena.specs.contracts.block.Nodes.pop.Key.{name as #self}
use Rattle.bz_arena.proofs.block.Nodes.pop.Code as code

pub pop_spec : {M : Type 1} → statement M
pop_spec 𝓤 𝓛 𝓜 𝓡 wired T L =
    let H = 𝓛.H in let 𝓣 = tables 𝓤 H 𝓜 𝓡 𝓡.env in let E : El = record { row = T; laws = L } in let En = ended T in let c = clauses T 𝓛 𝓜.mem 𝓡.returns in
    let inst = layouts (a_type ∷ []) (T, tt) in let fn = inst_fn inst code.function in
    let hs : Stays En.signature.params En.kept = (stay_ref (0 ∷ []) tt (plain (λ _. Nr E)), (stay_dropped (plain (λ _. usize)) yes, tt)) in
    proved_at 𝓛 En hs c 𝓜 𝓡 (Goes-ref 𝓛 2 0 tt (plain (λ _. Nr E)), (Goes-dropped 𝓛 2 (plain (λ _. usize)) yes (λ κs x f. refl), tt))
    (#self inst) fn (code.unfolded 𝓤 H 𝓜 𝓡 wired (T, tt)) (λ z are.
    let κs = z.0.0 in let qs = z.0.1 in let rb = z.0.3.0.ref_ptr.0 in let ro = z.0.3.0.ref_ptr.1 in let d = z.0.3.0.now in let left : ℕ = z.0.3.1.0 in
    let Post : Val → SProp 𝓤 = (walk_of 𝓛 En hs c).post z in let Run : List Val → SProp 𝓤 = λ ws. WpFn 𝓤 H 𝓣.C 𝓣.Λ fn ws Post in
    let xs = d.items in let n = length xs in let s = sz E in let Asked : Type 0 = (left + 1 ≡ n) × (left < d.places) in let args : List Val = vptr rb ro ∷ vint w64 left ∷ [] in
    qed 𝓛 (((‵ (flft κs.0 qs.0) ⊛ ‵ (flft κs.1.0 qs.1.0) ⊛ ‵ ftrue) ⊛ ‵ (owns (types_at En.signature.params κs) z.0.3 z.0.4)) ∷ raw (fact 𝓤 (κs.1.0 ⊑ T.lives)) ∷ raw (fact 𝓤 Asked) ∷ []) ∵
    move ! (2 ∷ []) $ heard ! Asked (λ asked. keep ! (0 ∷ []) $ split ! $ split3 ! $ move ! (3 ∷ []) $ fsplit ! $ fsplit3 ! $ feq_l ! (λ e0. move ! (2 ∷ []) $ fsplit ! $ fsplit ! $ feq_l ! (λ e1. flt_l ! (λ fits.
    keep ! (1 ∷ 2 ∷ 3 ∷ 4 ∷ []) $
    suffices ! (Run args) (subst (λ (us : List Val). ent 𝓤 (Run args) (Run us)) (sym (λ i. e0 i ++ (e1 i ++ []))) (id⊢ 𝓤 (Run args))) $
    enter ! 𝓣.C 𝓣.Λ fn args Post $ alloc_all ! (λ l. pass_all ! refl ((tt, tt), ((tt, record { fits = fits }), tt)) $ let Ev = env fn.locals l in
    opens ! tt (Nr E) {h = d} rb ro (λ us. move ! (1 ∷ []) $ nodes_had E ! d us (λ b o e is small. rewrite ! 2 (λ (ws : List Val). ‵ (cell_at full_share (Nr E).mir ws rb ro)) is refl $
    -- [the array; the room; the struct's cell; the open borrow, in three; a token]
    let tiny : s < 2 ^ 64 = omega (arith, one_below d.places s (2 ^ 63) (omega (arith, asked.1)) small) in
    let far : left * s < 2 ^ 64 = omega (arith, times_below left d.places s (2 ^ 63) (omega (arith, asked.1)) small) in
    first ! $ blocks ! $ sets ! (of_opd ! (load ! (through ! refl (fld ! refl (stop !))) (look_in ! 2 (sub ! 0 refl (whole !))))) refl (tt, tt) $
    sets ! (bin ! (get ! refl) (size_lit ! (record { fits = tiny })) (record { fits = far })) refl (tt, record { fits = far }) $ sets ! (bin ! (get ! refl) (get ! refl) tt) refl (tt, tt) $
    let last = last_of xs left asked.0 in let ys = last.0 in let x = last.1 in let new = nodes E b o d.places ys in
    rewrite ! 0 (λ (l : List (el_x E)). ‵ (part_at (Array (R E) n) full_share l b o)) last.2 refl $
    use1 𝓛 (‵ (part_at (Array (R E) left) full_share ys b o) ⊛ ‵ (part_at (R E) full_share x b (left * s + o))) (unsnoc E 𝓛 b o n left ys x last.3) $ split ! $ move ! (1 ∷ []) $
    use1 𝓛 (some (λ (v : Val). given (Good E v) (‵ (fat full_share (elτ E) b (left * s + o) v) ⊛ ‵ (T.own_val x (v ∷ []))))) (el_out E 𝓛 full_share x b (left * s + o)) $ pick ! (λ v. learn ! (λ good. split ! $
    -- [the place; what the node owns; the array; the room; the struct's cell; the open borrow, in three; a token]
    sets_last ! (of_opd ! (load ! (through ! refl (stop !)) (look ! 0 refl))) refl good $ exec ! 𝓣.C 𝓣.Λ Ev (after 1 fn.body) (at_ret Ev Post) $ sets ! (of_opd ! (get ! refl)) refl good $
    use1 𝓛 (‵ (froom (elτ E) b (left * s + o))) (𝓛.laws.at_room (elτ E) b (left * s + o) v) $
    rewrite ! 3 (λ (k : ℕ). ‵ (froom (ty_array (elτ E) (d.places - k)) b (o + k * s))) (sym asked.0) refl $ move ! (0 ∷ 3 ∷ []) $
    use2 𝓛 (‵ (froom (ty_array (elτ E) (d.places - left)) b (o + left * s))) (room_back E 𝓛 b o left d.places (omega (arith, asked.1))) $
    rewrite ! 0 (λ (k : ℕ). ‵ (froom (ty_array (elτ E) (d.places - k)) b (o + k * s))) (sym last.3) refl $ rewrite ! 2 (λ (k : ℕ). ‵ (part_at (Array (R E) k) full_share ys b o)) (sym last.3) refl $
    move ! (2 ∷ 0 ∷ []) $ nodes_made E ! b o d.places ys small $ move ! (2 ∷ 0 ∷ 3 ∷ 4 ∷ 5 ∷ []) $ closes ! tt (Nr E) new (at_start (block_ptr b o) ∷ []) rb ro $
    returns ! (look_at ! 0 refl) $ free_all ! refl $
    feq_i ! (List Val) z.0.4.0 (vptr rb ro ∷ []) e0 $ fjoin3 ! $ nothing ! $ nothing ! $ fjoin ! $ move ! (1 ∷ 0 ∷ []) $ fjoin ! $
    nothing ! $ move ! (4 ∷ 0 ∷ []) $ join ! $ move ! (2 ∷ 0 ∷ []) $ join ! $
    let Said : Type 0 = (new.start ≡ d.start) × (new.places ≡ d.places) × (xs ≡ new.items ++ x ∷ []) in
    use0 𝓛 (raw (fact 𝓤 Said)) (fact_i 𝓤 Said (emp 𝓤) (sym e, refl, last.2)) $ move ! (1 ∷ 2 ∷ 3 ∷ 0 ∷ []) $ by ! (leaves 𝓛 En hs c z v x (new, (tt, tt)) (tt, (tt, tt)))))))))))))
