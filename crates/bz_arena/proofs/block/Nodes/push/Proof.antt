-- `push` writes the first place after the nodes. Assumes `Logic`.
use mathlib.Core.Path.{◌≡◌, refl, sym, subst}
use mathlib.Core.List.{List, [], ◌∷◌, ◌++◌}
use Prim.Native.Nat.{ℕ, ◌+◌, ◌-◌, ◌*◌, ◌<◌, ◌^◌}
use native.Mathlib.Omega.{arith}
use lib.ListN.{length, length-append}
use base.Fraction.{full_share}
use base.Logic.{SProp, ent, emp, id⊢}
use base.Fml.{ftrue, froom, flft}
use mir.MapTy.{inst_fn}
use mir.Syntax.{a_type, ty_array, w64}
use mir.Val.{Val, vint, vptr, vunit}
use prog.Wp.{WpFn}
use types.Kit.{‵, raw, ◌⊛◌, at_ret, ◌$◌, ◌∵◌, !, qed, by, move, keep, join, split, split3, fsplit, fsplit3, fjoin, fjoin3, feq_i, feq_l, flt_l, rewrite, suffices, use0, use1, use2}
use types.Part.{whole, sub, look_in}
use types.Run.{init, stop, fld, load, unit_lit, of_opd, bin, size_lit, assigns_last, first, blocks, exec, returns, enter}
use types.ByLocal.{alloc_all, pass_all, free_all, look_at, get, through, sets, env}
use contract.BorrowLft.{◌⊑◌}
use contract.Monad.{fact, fact_i}
use contract.Running.{tables}
use denote.Array.{Array}
use denote.Builtin.{usize}
use denote.Exit.{yes, no}
use denote.Memory.{cell_at, part_at}
use denote.Param.{layouts}
use denote.RattleType.{owns}
use denote.RawPtr.{block_ptr}
use denote.Signature.{types_at, plain}
use denote.Steps.{nothing, heard, opens, closes}
use denote.Triple.Walked.{Stays, stay_ref, stay_dropped, walk_of, Goes-ref, Goes-dropped}
use Rattle.core.proofs.alloc.Shapes.{after}
use Rattle.core.proofs.ptr.Rows.{El, R, elτ, sz, el_in, spare, snoc, times_below, one_below}
use Rattle.core.proofs.mem.Param as param
use Rattle.std.proofs.raw_atomic.Walks.{proved_at, leaves}
use Rattle.bz_arena.proofs.Blocks.{Nr, nodes, nodes_had, nodes_made, at_start}
use Rattle.bz_arena.specs.contracts.block.Nodes.push.{ended, clauses}
use Rattle.bz_arena.proofs.block.Nodes.push.Statement.{statement}
use Rattle.bz_arena.specs.contracts.block.Nodes.push.Key.{name as #self}
use Rattle.bz_arena.proofs.block.Nodes.push.Code as code

pub push_spec : {M : Type 1} → statement M
push_spec 𝓤 𝓛 𝓜 𝓡 wired T L =
    let H = 𝓛.H in let 𝓣 = tables 𝓤 H 𝓜 𝓡 𝓡.env in let E : El = record { row = T; laws = L } in let En = ended T in let c = clauses T 𝓛 𝓜.mem 𝓡.returns in
    let inst = layouts (a_type ∷ []) (T, tt) in let fn = inst_fn inst code.function in
    let hs : Stays En.signature.params En.kept = (stay_ref (0 ∷ []) tt (plain (λ _. Nr E)), (stay_dropped (plain (λ _. usize)) yes, (stay_dropped (plain (λ _. R E)) no, tt))) in
    proved_at 𝓛 En hs c 𝓜 𝓡 (Goes-ref 𝓛 2 0 tt (plain (λ _. Nr E)), (Goes-dropped 𝓛 2 (plain (λ _. usize)) yes (λ κs x f. refl), (Goes-dropped 𝓛 2 (plain (λ _. R E)) no (λ κs x f. refl), tt)))
    (#self inst) fn (code.unfolded 𝓤 H 𝓜 𝓡 wired (T, tt)) (λ z are.
    let κs = z.0.0 in let qs = z.0.1 in let rb = z.0.3.0.ref_ptr.0 in let ro = z.0.3.0.ref_ptr.1 in let d = z.0.3.0.now in let count : ℕ = z.0.3.1.0 in let node = z.0.3.1.1.0 in
    let Post : Val → SProp 𝓤 = (walk_of 𝓛 En hs c).post z in let Run : List Val → SProp 𝓤 = λ ws. WpFn 𝓤 H 𝓣.C 𝓣.Λ fn ws Post in
    let xs = d.items in let n = length xs in let s = sz E in let Asked : Type 0 = (count ≡ n) × (count < d.places) in
    let P : param.El = record { row = T; laws = L } in let one = param.one P z.0.4.1.1.0 ((param.lawful P 𝓛).typed node z.0.4.1.1.0 are.1.1.0) in let v = one.0 in let good = one.2 in
    let args : List Val = vptr rb ro ∷ vint w64 count ∷ v ∷ [] in
    qed 𝓛 (((‵ (flft κs.0 qs.0) ⊛ ‵ (flft κs.1.0 qs.1.0) ⊛ ‵ ftrue) ⊛ ‵ (owns (types_at En.signature.params κs) z.0.3 z.0.4)) ∷ raw (fact 𝓤 (κs.1.0 ⊑ T.lives)) ∷ raw (fact 𝓤 Asked) ∷ []) ∵
    move ! (2 ∷ []) $ heard ! Asked (λ asked. keep ! (0 ∷ []) $ split ! $ split3 ! $ move ! (3 ∷ []) $ fsplit ! $ fsplit3 ! $ feq_l ! (λ e0. move ! (2 ∷ []) $ fsplit ! $ fsplit ! $ feq_l ! (λ e1. flt_l ! (λ fits. fsplit ! $
    keep ! (2 ∷ 3 ∷ 4 ∷ 0 ∷ 5 ∷ []) $ rewrite ! 3 (λ (us : List Val). ‵ ((R E).own_val node us)) one.1 refl $
    suffices ! (Run args) (subst (λ (us : List Val). ent 𝓤 (Run args) (Run us)) (sym (λ i. e0 i ++ (e1 i ++ (one.1 i ++ [])))) (id⊢ 𝓤 (Run args))) $
    enter ! 𝓣.C 𝓣.Λ fn args Post $ alloc_all ! (λ l. pass_all ! refl ((tt, tt), ((tt, record { fits = fits }), (good, tt))) $ let Ev = env fn.locals l in
    opens ! tt (Nr E) {h = d} rb ro (λ us. move ! (1 ∷ []) $ nodes_had E ! d us (λ b o e is small. rewrite ! 2 (λ (ws : List Val). ‵ (cell_at full_share (Nr E).mir ws rb ro)) is refl $
    -- [the array; the room; the struct's cell; the open borrow, in three; the node; a token]
    let tiny : s < 2 ^ 64 = omega (arith, one_below d.places s (2 ^ 63) (omega (arith, asked.1)) small) in
    let far : count * s < 2 ^ 64 = omega (arith, times_below count d.places s (2 ^ 63) (omega (arith, asked.1)) small) in
    first ! $ blocks ! $ sets ! (of_opd ! (load ! (through ! refl (fld ! refl (stop !))) (look_in ! 2 (sub ! 0 refl (whole !))))) refl (tt, tt) $
    sets ! (bin ! (get ! refl) (size_lit ! (record { fits = tiny })) (record { fits = far })) refl (tt, record { fits = far }) $ sets ! (bin ! (get ! refl) (get ! refl) tt) refl (tt, tt) $
    sets ! (of_opd ! (get ! refl)) refl good $ move ! (1 ∷ []) $
    use1 𝓛 (‵ (froom (elτ E) b (n * s + o)) ⊛ ‵ (froom (ty_array (elτ E) (d.places - (n + 1))) b (o + (n + 1) * s))) (spare E 𝓛 b o n d.places (omega (arith, asked.0, asked.1))) $ split ! $
    rewrite ! 0 (λ (k : ℕ). ‵ (froom (elτ E) b (k * s + o))) (sym asked.0) refl $
    assigns_last ! (of_opd ! (get ! refl)) (through ! refl (stop !)) (init ! 0 refl good) $ exec ! 𝓣.C 𝓣.Λ Ev (after 1 fn.body) (at_ret Ev Post) $ sets ! (of_opd ! (unit_lit !)) refl (tt, tt) $
    move ! (0 ∷ 7 ∷ []) $ use2 𝓛 (‵ (part_at (R E) full_share node b (count * s + o))) (el_in E 𝓛 full_share node b (count * s + o) v) $ rewrite ! 0 (λ (k : ℕ). ‵ (part_at (R E) full_share node b (k * s + o))) asked.0 refl $
    let ys = xs ++ node ∷ [] in let long : n + 1 ≡ length ys = sym (length-append xs (node ∷ [])) in let new = nodes E b o d.places ys in
    move ! (2 ∷ 0 ∷ []) $ use2 𝓛 (‵ (part_at (Array (R E) (n + 1)) full_share ys b o)) (snoc E 𝓛 b o n xs node) $
    rewrite ! 0 (λ (k : ℕ). ‵ (part_at (Array (R E) k) full_share ys b o)) long refl $ rewrite ! 1 (λ (k : ℕ). ‵ (froom (ty_array (elτ E) (d.places - k)) b (o + k * s))) long refl $
    nodes_made E ! b o d.places ys small $ move ! (1 ∷ 0 ∷ []) $ closes ! tt (Nr E) new (at_start (block_ptr b o) ∷ []) rb ro $
    returns ! (look_at ! 0 refl) $ free_all ! refl $
    feq_i ! (List Val) z.0.4.0 (vptr rb ro ∷ []) e0 $ fjoin3 ! $ nothing ! $ nothing ! $ fjoin ! $ nothing ! $ fjoin ! $ move ! (1 ∷ 0 ∷ []) $ fjoin ! $
    nothing ! $ move ! (3 ∷ 0 ∷ []) $ join ! $ move ! (2 ∷ 0 ∷ []) $ join ! $ feq_i ! (List Val) (vunit ∷ []) (vunit ∷ []) refl $
    let Said : Type 0 = (new.start ≡ d.start) × (new.places ≡ d.places) × (new.items ≡ xs ++ node ∷ []) in
    use0 𝓛 (raw (fact 𝓤 Said)) (fact_i 𝓤 Said (emp 𝓤) (sym e, refl, refl)) $ move ! (2 ∷ 3 ∷ 1 ∷ 0 ∷ []) $ by ! (leaves 𝓛 En hs c z vunit tt (new, (tt, (tt, tt))) (tt, (tt, (tt, tt))))))))))))
