-- `as_mut_slice` lends the nodes, and they follow it. Assumes `Logic`.
use mathlib.Core.Path.{◌≡◌, refl, sym, subst}
use mathlib.Core.List.{List, [], ◌∷◌, ◌++◌}
use Prim.Native.Nat.{ℕ, ◌+◌, ◌-◌, ◌*◌, ◌<◌, ◌≤◌, ◌^◌}
use native.Mathlib.Omega.{arith}
use lib.ListN.{length}
use lib.ListN.{drop as drop_l}
use lib.Seq.{take_at as take_front}
use seplogic.Ra.Ura.{Ura}
use base.Fraction.{full_share}
use base.Logic.{SProp, ent, emp, id⊢, sep}
use base.Fml.{ftrue, froom, flft, GName, Fml, fsep}
use mir.MapTy.{inst_fn}
use mir.Syntax.{a_type, ty_array, w64, named}
use mir.Val.{Val, vint, vptr}
use prog.Wp.{WpFn}
use types.Kit.{‵, raw, ◌⊛◌, some, given, pick, learn, at_ret, ◌$◌, ◌∵◌, !, qed, by, move, keep, join, split, split3, fsplit, fsplit3, fjoin, feq_l, flt_l, rewrite, suffices, use0, use1, later, await, group, fpack, done}
use types.Part.{whole, sub, look_in, agg}
use types.Run.{stop, fld, load, of_opd, first, blocks, exec, returns, enter, and_then, no_more}
use types.ByLocal.{alloc_all, pass_all, free_all, look_at, get, through, sets, sets_last, env}
use types.SemTy.{cells}
use types.Logic.{Logic, sem}
use contract.BorrowLft.{◌⊑◌}
use contract.Monad.{fact, fact_i}
use contract.Running.{tables}
use denote.Array.{Array}
use denote.Builtin.{usize}
use denote.Exit.{yes, no}
use denote.Follow.{follows}
use denote.FollowSlice.{Elements, lends_Elements}
use denote.Index.{whole_in, whole_out, row}
use denote.Memory.{cell_at, part_at, mem, part_of}
use denote.Param.{layouts}
use denote.RattleType.{owns}
use denote.RawPtr.{block_ptr, Ptr}
use denote.Ref.{MutBor}
use denote.Signature.{types_at, plain, mut_ref_to}
use denote.Slice.{MutSlice, slice_val}
use denote.Steps.{nothing, heard, opens}
use denote.Triple.Walked.{Stays, stay_dropped, walk_of, Goes-spent_ref, Goes-dropped}
use Rattle.core.proofs.alloc.Shapes.{after}
use Rattle.core.proofs.ptr.Rows.{El, R, el_x, elτ, sz, times_below}
use Rattle.core.proofs.ptr.Rows.{apart, whole as whole_row}
use Rattle.std.specs.List.{refill}
use Rattle.std.proofs.raw_atomic.Walks.{proved_at, leaves}
use Rattle.bz_arena.specs.Lends.{with_items}
use Rattle.bz_arena.proofs.Blocks.{Nr, nodes_had, nodes_made, at_start}
use Rattle.bz_arena.specs.contracts.block.Nodes.as_mut_slice.{ended, clauses}
use Rattle.bz_arena.proofs.block.Nodes.as_mut_slice.Statement.{statement}
use Rattle.bz_arena.specs.contracts.block.Nodes.as_mut_slice.Key.{name as #self}
use Rattle.bz_arena.proofs.block.Nodes.as_mut_slice.Code as code

module _ (E : El) {M : Type 1} {𝓤 : Ura M} (𝓛 : Logic 𝓤) (rb ro b o : ℕ) (d : (Nr E).Denot) where
  abbrev s : ℕ
  s = sz E

  -- all but the nodes
  abbrev Rest : Fml
  Rest = fsep (froom (ty_array (elτ E) (d.places - length d.items)) b (o + length d.items * s)) (cell_at full_share (Nr E).mir (at_start (block_ptr b o) ∷ []) rb ro)

  back : d.start ≡ block_ptr b o → d.places * s < 2 ^ 63 → (ws : List (el_x E)) → length ws ≡ length d.items → ent 𝓤 (sep 𝓤 (sem 𝓛 (cells (mem (R E)) ws b o)) (sem 𝓛 Rest)) (sem 𝓛 ((mem (Nr E)).own_at (with_items d ws) rb ro))
  unfolding part_of
  back e small ws long =
      let word = at_start (block_ptr b o) ∷ [] in let all : refill (length d.items) d.items ws ≡ ws = take_front ws (drop_l (length ws) d.items) (length d.items) long in
      qed 𝓛 (‵ (cells (mem (R E)) ws b o) ∷ ‵ Rest ∷ []) ∵ use1 𝓛 (‵ (row (R E) full_share ws b o)) (whole_out 𝓛 (R E) ws b o) $
      use1 𝓛 (‵ (part_at (Array (R E) (length ws)) full_share ws b o)) (whole_row E 𝓛 full_share (length ws) ws b o refl) $ move ! (1 ∷ []) $ fsplit ! $
      rewrite ! 0 (λ (k : ℕ). ‵ (froom (ty_array (elτ E) (d.places - k)) b (o + k * s))) (sym long) refl $ move ! (2 ∷ 0 ∷ []) $ nodes_made E ! b o d.places ws small $
      rewrite ! 0 (λ (x : Ptr × List (el_x E)). ‵ ((Nr E).own_val (record { start = x.0; places = d.places; items = x.1 }) word)) (λ i. (sym e i, sym all i)) refl $ move ! (1 ∷ 0 ∷ []) $ fjoin ! $
      fpack ! (List Val) (λ us. fsep (cell_at full_share (Nr E).mir us rb ro) ((Nr E).own_val (with_items d ws) us)) word $ done !

pub as_mut_slice_spec : {M : Type 1} → statement M
as_mut_slice_spec 𝓤 𝓛 𝓜 𝓡 wired T L =
    let H = 𝓛.H in let 𝓣 = tables 𝓤 H 𝓜 𝓡 𝓡.env in let E : El = record { row = T; laws = L } in let En = ended T in let c = clauses T 𝓛 𝓜.mem 𝓡.returns in
    let inst = layouts (a_type ∷ []) (T, tt) in let fn = inst_fn inst code.function in
    let hs : Stays En.signature.params En.kept = (stay_dropped (mut_ref_to (0 ∷ []) tt (plain (λ _. Nr E))) no, (stay_dropped (plain (λ _. usize)) yes, tt)) in
    proved_at 𝓛 En hs c 𝓜 𝓡 (Goes-spent_ref 𝓛 2 (0 ∷ []) tt (plain (λ _. Nr E)), (Goes-dropped 𝓛 2 (plain (λ _. usize)) yes (λ κs x f. refl), tt))
    (#self inst) fn (code.unfolded 𝓤 H 𝓜 𝓡 wired (T, tt)) (λ z are.
    let κs = z.0.0 in let qs = z.0.1 in let self = z.0.3.0 in let rb = self.ref_ptr.0 in let ro = self.ref_ptr.1 in let d = self.now in let count : ℕ = z.0.3.1.0 in
    let Post : Val → SProp 𝓤 = (walk_of 𝓛 En hs c).post z in let Run : List Val → SProp 𝓤 = λ ws. WpFn 𝓤 H 𝓣.C 𝓣.Λ fn ws Post in
    let xs = d.items in let n = length xs in let s = sz E in let Asked : Type 0 = (count ≡ n) × (count ≤ d.places) in let args : List Val = vptr rb ro ∷ vint w64 count ∷ [] in
    qed 𝓛 (((‵ (flft κs.0 qs.0) ⊛ ‵ (flft κs.1.0 qs.1.0) ⊛ ‵ ftrue) ⊛ ‵ (owns (types_at En.signature.params κs) z.0.3 z.0.4)) ∷ raw (fact 𝓤 (κs.1.0 ⊑ T.lives)) ∷ raw (fact 𝓤 Asked) ∷ []) ∵
    move ! (2 ∷ []) $ heard ! Asked (λ asked. keep ! (0 ∷ []) $ split ! $ split3 ! $ move ! (3 ∷ []) $ fsplit ! $ fsplit3 ! $ feq_l ! (λ e0. move ! (2 ∷ []) $ fsplit ! $ fsplit ! $ feq_l ! (λ e1. flt_l ! (λ fits.
    keep ! (1 ∷ 2 ∷ 3 ∷ 4 ∷ []) $
    suffices ! (Run args) (subst (λ (us : List Val). ent 𝓤 (Run args) (Run us)) (sym (λ i. e0 i ++ (e1 i ++ []))) (id⊢ 𝓤 (Run args))) $
    enter ! 𝓣.C 𝓣.Λ fn args Post $ alloc_all ! (λ l. pass_all ! refl ((tt, tt), ((tt, record { fits = fits }), tt)) $ let Ev = env fn.locals l in
    opens ! tt (Nr E) {h = d} rb ro (λ us. move ! (1 ∷ []) $ nodes_had E ! d us (λ b o e is small. rewrite ! 2 (λ (ws : List Val). ‵ (cell_at full_share (Nr E).mir ws rb ro)) is refl $
    -- [the array; the room; the struct's cell; the open borrow, in three; a token]
    let roomy : n < 2 ^ 64 = omega (arith, asked.0, fits) in let fitting : n * s < 2 ^ 63 = times_below n d.places s (2 ^ 63) (omega (arith, asked.0, asked.1)) small in
    first ! $ blocks ! $ sets ! (of_opd ! (load ! (through ! refl (fld ! refl (stop !))) (look_in ! 2 (sub ! 0 refl (whole !))))) refl (tt, tt) $
    sets_last ! (agg ! (and_then ! (get ! refl) (and_then ! (get ! refl) (no_more !)))) refl (tt, (tt, (record { fits = fits }, tt))) $ exec ! 𝓣.C 𝓣.Λ Ev (after 1 fn.body) (at_ret Ev Post) $ sets ! (of_opd ! (get ! refl)) refl (tt, (tt, (record { fits = fits }, tt))) $
    use1 𝓛 (given (n ≡ n) (‵ (row (R E) full_share xs b o))) (apart E 𝓛 full_share n xs b o) $ learn ! (λ _. use1 𝓛 (‵ (cells (mem (R E)) xs b o)) (whole_in 𝓛 (R E) xs b o) $
    move ! (1 ∷ 2 ∷ []) $ fjoin ! $ move ! (2 ∷ 3 ∷ 4 ∷ 1 ∷ 0 ∷ []) $ group ! 5 $
    let way = back E 𝓛 rb ro b o d e small in let word = (Nr E).coded.code d in
    let Lent : GName → SProp 𝓤 = Elements 𝓛 (Nr E) (R E) (with_items d) (named 0) κs.0 qs.0 rb ro b o self.ghost_name xs (roomy, fitting) (sem 𝓛 (Rest E 𝓛 rb ro b o d)) way in
    use1 𝓛 (later (some (λ (δ : GName). raw (Lent δ)))) (lends_Elements 𝓛 (Nr E) (R E) (with_items d) (named 0) κs.0 qs.0 rb ro b o self.ghost_name xs (roomy, fitting) (sem 𝓛 (Rest E 𝓛 rb ro b o d)) way word word) $ await ! tt $ pick ! (λ δ.
    let r : MutBor (List (el_x E)) = record { ref_ptr = (b, o); ghost_name = δ; now = xs } in let Slice = MutSlice (named 0) κs.0 (R E) in
    use1 𝓛 (‵ (Slice.own_val r (slice_val (b, o) n ∷ [])) ⊛ ‵ (flft κs.0 qs.0) ⊛ ‵ (follows (Nr E) (Array (R E) 0) self.ghost_name δ (with_items d))) (id⊢ 𝓤 _) $ split3 ! $
    rewrite ! 0 (λ (k : ℕ). ‵ (Slice.own_val r (slice_val (b, o) k ∷ []))) (sym asked.0) refl $
    returns ! (look_at ! 0 refl) $ free_all ! refl $
    -- [the slice; a token; what follows it; a token]
    nothing ! $ nothing ! $ fjoin ! $ nothing ! $ fjoin ! $ nothing ! $ move ! (5 ∷ 0 ∷ []) $ join ! $ move ! (3 ∷ 0 ∷ []) $ join ! $
    let Said : Type 0 = r.now ≡ xs in use0 𝓛 (raw (fact 𝓤 Said)) (fact_i 𝓤 Said (emp 𝓤) refl) $ move ! (4 ∷ 0 ∷ []) $ join ! $ move ! (1 ∷ 2 ∷ 3 ∷ 0 ∷ []) $ by ! (leaves 𝓛 En hs c z (slice_val (b, o) count) r (tt, (tt, tt)) (tt, (tt, tt)))))))))))))
