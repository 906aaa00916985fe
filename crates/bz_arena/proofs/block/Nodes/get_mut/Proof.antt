-- `get_mut` lends one node, and the nodes follow it. Assumes `Logic`.
use mathlib.Core.Path.{◌≡◌, refl, sym, subst}
use mathlib.Core.List.{List, [], ◌∷◌, ◌++◌}
use Prim.Native.Nat.{ℕ, ◌+◌, ◌-◌, ◌*◌, ◌<◌, ◌≤◌, ◌^◌}
use native.Mathlib.Omega.{arith}
use lib.ListN.{length, get_or, set, length-set}
use seplogic.Ra.Ura.{Ura}
use base.Fraction.{full_share}
use base.Logic.{SProp, ent, emp, id⊢, sep}
use base.Fml.{ftrue, froom, flft, GName, Fml, fsep}
use mir.MapTy.{inst_fn}
use mir.Syntax.{a_type, ty_array, w64, named}
use mir.Val.{Val, vint, vptr}
use prog.Wp.{WpFn}
use types.Kit.{‵, raw, ◌⊛◌, some, given, pick, learn, at_ret, ◌$◌, ◌∵◌, !, qed, by, move, keep, join, split, split3, fsplit, fsplit3, fjoin, fjoin3, feq_l, flt_l, rewrite, suffices, use0, use1, use2, later, await, group, fpack, done}
use types.Part.{whole, sub, look_in}
use types.Run.{stop, fld, load, of_opd, bin, size_lit, first, blocks, exec, returns, enter, addr}
use types.ByLocal.{alloc_all, pass_all, free_all, look_at, get, through, sets, sets_last, env}
use types.Logic.{Logic, sem}
use contract.BorrowLft.{◌⊑◌}
use contract.Monad.{fact, fact_i}
use contract.Running.{tables}
use denote.Array.{Array}
use denote.Builtin.{usize}
use denote.Exit.{yes, no}
use denote.Follow.{follows, Part, lends_Part}
use denote.Index.{others, place, place_is, puts, takes, row}
use denote.Memory.{cell_at, part_at, mem, part_of, shares}
use denote.Param.{layouts}
use denote.RattleType.{owns}
use denote.RawPtr.{block_ptr, Ptr}
use denote.Ref.{MutBor, MutRef}
use denote.Signature.{types_at, plain, mut_ref_to}
use denote.Steps.{nothing, heard, opens}
use denote.Triple.Walked.{Stays, stay_dropped, walk_of, Goes-spent_ref, Goes-dropped}
use Rattle.core.proofs.ptr.Rows.{hd, El, R, el_x, elτ, sz, times_below, one_below}
use Rattle.core.proofs.alloc.Shapes.{after}
use Rattle.core.proofs.ptr.Rows.{apart, whole as whole_row}
use Rattle.std.proofs.raw_atomic.Walks.{proved_at, leaves}
use Rattle.bz_arena.specs.Lends.{with_item}
use Rattle.bz_arena.proofs.Blocks.{same_or, Nr, nodes_had, nodes_made, at_start}
use Rattle.bz_arena.specs.contracts.block.Nodes.get_mut.{ended, clauses}
use Rattle.bz_arena.proofs.block.Nodes.get_mut.Statement.{statement}
use Rattle.bz_arena.specs.contracts.block.Nodes.get_mut.Key.{name as #self}
use Rattle.bz_arena.proofs.block.Nodes.get_mut.Code as code

module _ (E : El) {M : Type 1} {𝓤 : Ura M} (𝓛 : Logic 𝓤) (rb ro b o : ℕ) (d : (Nr E).Denot) (i : ℕ) where
  abbrev s : ℕ
  s = sz E

  -- all but the node
  abbrev Rest : Fml
  Rest = fsep (others (shares (R E)) full_share d.items i b o) (fsep (froom (ty_array (elτ E) (d.places - length d.items)) b (o + length d.items * s)) (cell_at full_share (Nr E).mir (at_start (block_ptr b o) ∷ []) rb ro))

  back : d.start ≡ block_ptr b o → d.places * s < 2 ^ 63 → i < length d.items → (w : el_x E) → ent 𝓤 (sep 𝓤 (sem 𝓛 ((mem (R E)).own_at w b (i * s + o))) (sem 𝓛 Rest)) (sem 𝓛 ((mem (Nr E)).own_at (with_item d i w) rb ro))
  unfolding part_of
  back e small lt w =
      let word = at_start (block_ptr b o) ∷ [] in let ys = set d.items i w in
      qed 𝓛 (‵ (part_at (R E) full_share w b (i * s + o)) ∷ ‵ Rest ∷ []) ∵ rewrite ! 0 (λ (k : ℕ). ‵ (part_at (R E) full_share w b k)) (sym (place_is s o i)) refl $ move ! (1 ∷ []) $ fsplit3 ! $ move ! (3 ∷ 0 ∷ []) $
      use2 𝓛 (‵ (row (R E) full_share ys b o)) (puts (shares (R E)) full_share 𝓛 d.items i w b o lt) $ use1 𝓛 (‵ (part_at (Array (R E) (length ys)) full_share ys b o)) (whole_row E 𝓛 full_share (length ys) ys b o refl) $
      rewrite ! 1 (λ (k : ℕ). ‵ (froom (ty_array (elτ E) (d.places - k)) b (o + k * s))) (sym (length-set d.items i w)) refl $ nodes_made E ! b o d.places ys small $
      rewrite ! 0 (λ (p : Ptr). ‵ ((Nr E).own_val (record { start = p; places = d.places; items = ys }) word)) (sym e) refl $ move ! (1 ∷ 0 ∷ []) $ fjoin ! $
      fpack ! (List Val) (λ us. fsep (cell_at full_share (Nr E).mir us rb ro) ((Nr E).own_val (with_item d i w) us)) word $ done !

pub get_mut_spec : {M : Type 1} → statement M
get_mut_spec 𝓤 𝓛 𝓜 𝓡 wired T L =
    let H = 𝓛.H in let 𝓣 = tables 𝓤 H 𝓜 𝓡 𝓡.env in let E : El = record { row = T; laws = L } in let En = ended T in let c = clauses T 𝓛 𝓜.mem 𝓡.returns in
    let inst = layouts (a_type ∷ []) (T, tt) in let fn = inst_fn inst code.function in
    let hs : Stays En.signature.params En.kept = (stay_dropped (mut_ref_to (0 ∷ []) tt (plain (λ _. Nr E))) no, (stay_dropped (plain (λ _. usize)) yes, tt)) in
    proved_at 𝓛 En hs c 𝓜 𝓡 (Goes-spent_ref 𝓛 2 (0 ∷ []) tt (plain (λ _. Nr E)), (Goes-dropped 𝓛 2 (plain (λ _. usize)) yes (λ κs x f. refl), tt))
    (#self inst) fn (code.unfolded 𝓤 H 𝓜 𝓡 wired (T, tt)) (λ z are.
    let κs = z.0.0 in let qs = z.0.1 in let self = z.0.3.0 in let rb = self.ref_ptr.0 in let ro = self.ref_ptr.1 in let d = self.now in let index : ℕ = z.0.3.1.0 in
    let Post : Val → SProp 𝓤 = (walk_of 𝓛 En hs c).post z in let Run : List Val → SProp 𝓤 = λ ws. WpFn 𝓤 H 𝓣.C 𝓣.Λ fn ws Post in
    let xs = d.items in let n = length xs in let s = sz E in let Asked : Type 0 = (index < n) × (n ≤ d.places) in let args : List Val = vptr rb ro ∷ vint w64 index ∷ [] in
    qed 𝓛 (((‵ (flft κs.0 qs.0) ⊛ ‵ (flft κs.1.0 qs.1.0) ⊛ ‵ ftrue) ⊛ ‵ (owns (types_at En.signature.params κs) z.0.3 z.0.4)) ∷ raw (fact 𝓤 (κs.1.0 ⊑ T.lives)) ∷ raw (fact 𝓤 Asked) ∷ []) ∵
    move ! (2 ∷ []) $ heard ! Asked (λ asked. keep ! (0 ∷ []) $ split ! $ split3 ! $ move ! (3 ∷ []) $ fsplit ! $ fsplit3 ! $ feq_l ! (λ e0. move ! (2 ∷ []) $ fsplit ! $ fsplit ! $ feq_l ! (λ e1. flt_l ! (λ fits.
    keep ! (1 ∷ 2 ∷ 3 ∷ 4 ∷ []) $
    suffices ! (Run args) (subst (λ (us : List Val). ent 𝓤 (Run args) (Run us)) (sym (λ i. e0 i ++ (e1 i ++ []))) (id⊢ 𝓤 (Run args))) $
    enter ! 𝓣.C 𝓣.Λ fn args Post $ alloc_all ! (λ l. pass_all ! refl ((tt, tt), ((tt, record { fits = fits }), tt)) $ let Ev = env fn.locals l in
    opens ! tt (Nr E) {h = d} rb ro (λ us. move ! (1 ∷ []) $ nodes_had E ! d us (λ b o e is small. rewrite ! 2 (λ (ws : List Val). ‵ (cell_at full_share (Nr E).mir ws rb ro)) is refl $
    -- [the array; the room; the struct's cell; the open borrow, in three; a token]
    let tiny : s < 2 ^ 64 = omega (arith, one_below d.places s (2 ^ 63) (omega (arith, asked.0, asked.1)) small) in
    let far : index * s < 2 ^ 64 = omega (arith, times_below index d.places s (2 ^ 63) (omega (arith, asked.0, asked.1)) small) in
    let x : el_x E = get_or xs index (hd xs (omega (arith, asked.0))) in let at = index * s + o in
    first ! $ blocks ! $ sets ! (of_opd ! (load ! (through ! refl (fld ! refl (stop !))) (look_in ! 2 (sub ! 0 refl (whole !))))) refl (tt, tt) $
    sets ! (bin ! (get ! refl) (size_lit ! (record { fits = tiny })) (record { fits = far })) refl (tt, record { fits = far }) $ sets ! (bin ! (get ! refl) (get ! refl) tt) refl (tt, tt) $
    sets_last ! (addr ! (through ! refl (stop !))) refl (tt, tt) $ exec ! 𝓣.C 𝓣.Λ Ev (after 1 fn.body) (at_ret Ev Post) $ sets ! (of_opd ! (get ! refl)) refl (tt, tt) $
    use1 𝓛 (given (n ≡ n) (‵ (row (R E) full_share xs b o))) (apart E 𝓛 full_share n xs b o) $ learn ! (λ _.
    use1 𝓛 (‵ (part_at (R E) full_share x b (place s o index)) ⊛ ‵ (others (shares (R E)) full_share xs index b o)) (takes (shares (R E)) full_share 𝓛 xs index (hd xs (omega (arith, asked.0))) b o asked.0) $ split ! $
    rewrite ! 0 (λ (k : ℕ). ‵ (part_at (R E) full_share x b k)) (place_is s o index) refl $
    move ! (1 ∷ 2 ∷ 3 ∷ []) $ fjoin3 ! $ move ! (2 ∷ 3 ∷ 4 ∷ 1 ∷ 0 ∷ []) $ group ! 5 $
    let way = back E 𝓛 rb ro b o d index e small asked.0 in let word = (Nr E).coded.code d in
    let Lent : GName → SProp 𝓤 = Part 𝓛 (Nr E) (R E) (with_item d index) (named 0) κs.0 qs.0 rb ro b at self.ghost_name (sem 𝓛 (Rest E 𝓛 rb ro b o d index)) way x in
    use1 𝓛 (later (some (λ (δ : GName). raw (Lent δ)))) (lends_Part 𝓛 (Nr E) (R E) (with_item d index) (named 0) κs.0 qs.0 rb ro b at self.ghost_name (sem 𝓛 (Rest E 𝓛 rb ro b o d index)) way word word x) $ await ! tt $ pick ! (λ δ.
    let r : MutBor (el_x E) = record { ref_ptr = (b, at); ghost_name = δ; now = x } in
    use1 𝓛 (‵ ((MutRef (named 0) κs.0 (R E)).own_val r (vptr b at ∷ [])) ⊛ ‵ (flft κs.0 qs.0) ⊛ ‵ (follows (Nr E) (R E) self.ghost_name δ (with_item d index))) (id⊢ 𝓤 _) $ split3 ! $
    returns ! (look_at ! 0 refl) $ free_all ! refl $
    -- [the reference; a token; what follows it; a token]
    nothing ! $ nothing ! $ fjoin ! $ nothing ! $ fjoin ! $ nothing ! $ move ! (5 ∷ 0 ∷ []) $ join ! $ move ! (3 ∷ 0 ∷ []) $ join ! $
    let Said : Type 0 = x ≡ get_or xs index x in
    use0 𝓛 (raw (fact 𝓤 Said)) (fact_i 𝓤 Said (emp 𝓤) (same_or xs index (hd xs (omega (arith, asked.0))) x asked.0)) $ move ! (4 ∷ 0 ∷ []) $ join ! $ move ! (1 ∷ 2 ∷ 3 ∷ 0 ∷ []) $ by ! (leaves 𝓛 En hs c z (vptr b at) r (tt, (tt, tt)) (tt, (tt, tt)))))))))))))
