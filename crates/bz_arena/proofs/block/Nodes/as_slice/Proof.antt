-- `as_slice` shows the nodes that a `&` holds. Assumes `Logic`.
use mathlib.Core.Path.{◌≡◌, refl, sym, ap, subst}
use mathlib.Core.List.{List, [], ◌∷◌, ◌++◌}
use Prim.Native.Nat.{ℕ, ◌+◌, ◌*◌, ◌<◌, ◌≤◌, ◌^◌}
use native.Mathlib.Omega.{arith}
use lib.ListN.{length}
use seplogic.Ra.Ura.{Ura}
use base.Logic.{SProp, ent, emp, id⊢, sep}
use base.Fml.{ftrue, flft, Fml, Lft, fhide}
use mir.MapTy.{inst_fn}
use mir.Syntax.{a_type, w64}
use mir.Val.{Val, vint, vptr}
use prog.Wp.{WpFn}
use types.Kit.{‵, raw, ◌⊛◌, at_ret, ◌$◌, ◌∵◌, !, qed, by, move, keep, join, split, split3, fsplit, fjoin, feq_i, feq_l, flt_l, suffices, use0, use1, done, drop, flt_i}
use types.Run.{look, stop, fld, load, of_opd, first, blocks, exec, returns, enter, and_then, no_more}
use types.ByLocal.{alloc_all, pass_all, free_all, look_at, get, through, sets, sets_last, env}
use types.Logic.{Logic, sem}
use types.Part.{agg}
use contract.BorrowLft.{◌⊑◌}
use contract.Monad.{fact, fact_i}
use contract.Running.{tables}
use denote.Builtin.{usize, RefOf}
use denote.Exit.{yes}
use denote.Memory.{hidden_shr}
use denote.Opens.{shr_dup, unhide, hide}
use denote.Param.{layouts}
use denote.RattleType.{owns, RattleType, RowLaws}
use denote.RawPtr.{RawPtr, ptr_row_laws, block_of, count_of, InBlock}
use denote.Ref.{Bor}
use denote.Signature.{types_at, plain}
use denote.Slice.{slice_val}
use denote.Steps.{nothing, heard}
use denote.Struct.Lending.{in_block_says, lent_out}
use denote.Struct.Owning.{shape}
use denote.Struct.Struct.{Struct, Struct-row_laws}
use denote.Triple.Walked.{Stays, stay_dropped, walk_of, Goes-dropped}
use Rattle.core.proofs.alloc.Shapes.{after}
use Rattle.core.proofs.ptr.Rows.{El, R, el_x, sz, times_below}
use Rattle.std.proofs.raw_atomic.Walks.{proved_at, leaves}
use Rattle.std_alloc.proofs.Words.{pointer_in, pointer_out}
use Rattle.bz_arena.proofs.Blocks.{nodes_type, Nr}
use Rattle.bz_arena.specs.contracts.block.Nodes.as_slice.{ended, clauses}
use Rattle.bz_arena.proofs.block.Nodes.as_slice.Statement.{statement}
use Rattle.bz_arena.specs.contracts.block.Nodes as N
use Rattle.bz_arena.specs.contracts.block.Nodes.as_slice.Key.{name as #self}
use Rattle.bz_arena.proofs.block.Nodes.as_slice.Code as code

module _ (E : El) {M : Type 1} {𝓤 : Ura M} (𝓛 : Logic 𝓤) (κ : Lft) (rb ro : ℕ) (d : (Nr E).Denot) where
  -- the one field, as a plain struct
  abbrev Word : RattleType
  Word = Struct (shape (nodes_type E))

  abbrev S : Fml
  S = hidden_shr Word κ (d.start, tt) rb ro

  laws : RowLaws Word
  laws = Struct-row_laws (shape (nodes_type E)) (ptr_row_laws, tt)

  shows_start : ent 𝓤 (sem 𝓛 S) (sep 𝓤 (sem 𝓛 (hidden_shr RawPtr κ d.start rb (ro + 0))) (sem 𝓛 S))
  shows_start = qed 𝓛 (‵ S ∷ []) ∵ shr_dup ! Word laws (d.start, tt) rb ro κ $ unhide ! $ fsplit ! $ fsplit ! $ hide ! $ keep ! (0 ∷ 3 ∷ []) $ done !

pub as_slice_spec : {M : Type 1} → statement M
as_slice_spec 𝓤 𝓛 𝓜 𝓡 wired T L =
    let H = 𝓛.H in let 𝓣 = tables 𝓤 H 𝓜 𝓡 𝓡.env in let E : El = record { row = T; laws = L } in let En = ended T in let c = clauses T 𝓛 𝓜.mem 𝓡.returns in
    let inst = layouts (a_type ∷ []) (T, tt) in let fn = inst_fn inst code.function in
    let hs : Stays En.signature.params En.kept = (stay_dropped (RefOf (0 ∷ []) tt (plain (λ _. Nr E)) (λ _. tt)) yes, (stay_dropped (plain (λ _. usize)) yes, tt)) in
    proved_at 𝓛 En hs c 𝓜 𝓡 (Goes-dropped 𝓛 2 (RefOf (0 ∷ []) tt (plain (λ _. Nr E)) (λ _. tt)) yes (λ κs x f. refl), (Goes-dropped 𝓛 2 (plain (λ _. usize)) yes (λ κs x f. refl), tt))
    (#self inst) fn (code.unfolded 𝓤 H 𝓜 𝓡 wired (T, tt)) (λ z are.
    let κs = z.0.0 in let qs = z.0.1 in let κ = κs.0 in let rb = z.0.3.0.ref_ptr.0 in let ro = z.0.3.0.ref_ptr.1 in let d = z.0.3.0.now in let count : ℕ = z.0.3.1.0 in
    let Post : Val → SProp 𝓤 = (walk_of 𝓛 En hs c).post z in let Run : List Val → SProp 𝓤 = λ ws. WpFn 𝓤 H 𝓣.C 𝓣.Λ fn ws Post in
    let xs = d.items in let n = length xs in let s = sz E in let Asked : Type 0 = (count ≡ n) × (count ≤ d.places) in let args : List Val = vptr rb ro ∷ vint w64 count ∷ [] in
    let at : ℕ × ℕ = (block_of d.start, count_of d.start) in let r : Bor (List (el_x E)) = record { ref_ptr = at; now = xs } in
    qed 𝓛 (((‵ (flft κ qs.0) ⊛ ‵ (flft κs.1.0 qs.1.0) ⊛ ‵ ftrue) ⊛ ‵ (owns (types_at En.signature.params κs) z.0.3 z.0.4)) ∷ raw (fact 𝓤 (κs.1.0 ⊑ T.lives)) ∷ raw (fact 𝓤 Asked) ∷ []) ∵
    move ! (2 ∷ []) $ heard ! Asked (λ asked. keep ! (0 ∷ []) $ split ! $ split3 ! $ move ! (3 ∷ []) $ fsplit ! $ fsplit ! $ feq_l ! (λ e0. move ! (1 ∷ []) $ fsplit ! $ fsplit ! $ feq_l ! (λ e1. flt_l ! (λ fits.
    keep ! (1 ∷ 2 ∷ 3 ∷ []) $
    suffices ! (Run args) (subst (λ (us : List Val). ent 𝓤 (Run args) (Run us)) (sym (λ i. e0 i ++ (e1 i ++ []))) (id⊢ 𝓤 (Run args))) $
    enter ! 𝓣.C 𝓣.Λ fn args Post $ alloc_all ! (λ l. pass_all ! refl ((tt, tt), ((tt, record { fits = fits }), tt)) $ let Ev = env fn.locals l in
    use1 𝓛 (‵ (S E 𝓛 κ rb ro d) ⊛ ‵ (fhide (N.the_lent (R E) d d.start κ))) (lent_out 𝓛 (N.struct (R E)) (N.the_codes (el_x E) (R E).coded) (N.the_heap (R E)) (N.the_lent (R E)) κ d rb ro) $ split ! $ move ! (1 ∷ []) $
    unhide ! $ fsplit ! $ flt_l ! (λ small. fsplit ! $ use1 𝓛 (raw (fact 𝓤 (InBlock d.start))) (in_block_says 𝓛 d.start) $ heard ! (InBlock d.start) (λ inb. fsplit ! $ drop ! $ hide ! $
    -- [the nodes; the struct's fields; two tokens]
    let fitting : n * s < 2 ^ 63 = times_below n d.places s (2 ^ 63) (omega (arith, asked.0, asked.1)) small in
    move ! (1 ∷ 2 ∷ []) $ first ! $ blocks ! $ pointer_in ! tt d.start inb rb (ro + 0) (shows_start E 𝓛 κ rb ro d) (λ q.
    sets ! (of_opd ! (load ! (through ! refl (fld ! refl (stop !))) (look ! 1 refl))) refl (tt, tt) $ pointer_out ! tt d.start inb rb (ro + 0) $
    sets_last ! (agg ! (and_then ! (get ! refl) (and_then ! (get ! refl) (no_more !)))) refl (tt, (tt, (record { fits = fits }, tt))) $ exec ! 𝓣.C 𝓣.Λ Ev (after 1 fn.body) (at_ret Ev Post) $ sets ! (of_opd ! (get ! refl)) refl (tt, (tt, (record { fits = fits }, tt))) $
    move ! (2 ∷ []) $ flt_i ! (n * s) (2 ^ 63) fitting $ flt_i ! n (2 ^ 64) (omega (arith, asked.0, fits)) $ fjoin ! $
    feq_i ! (List Val) (slice_val at count ∷ []) (slice_val at n ∷ []) (ap (λ k. slice_val at k ∷ []) asked.0) $ fjoin ! $ fjoin ! $
    returns ! (look_at ! 0 refl) $ free_all ! refl $
    -- [the slice; a token; the struct's fields; a token]
    keep ! (0 ∷ 1 ∷ 3 ∷ []) $ nothing ! $ nothing ! $ fjoin ! $ nothing ! $ fjoin ! $ nothing ! $ move ! (4 ∷ 0 ∷ []) $ join ! $ move ! (3 ∷ 0 ∷ []) $ join ! $
    let Said : Type 0 = r.now ≡ xs in use0 𝓛 (raw (fact 𝓤 Said)) (fact_i 𝓤 Said (emp 𝓤) refl) $ move ! (1 ∷ 2 ∷ 3 ∷ 0 ∷ []) $ by ! (leaves 𝓛 En hs c z (slice_val at count) r (tt, (tt, tt)) (tt, (tt, tt))))))))))))
