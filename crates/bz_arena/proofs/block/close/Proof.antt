-- `close` makes a vacant block of places that are all empty and the right to free them. Assumes `Logic`.
use mathlib.Core.Path.{◌≡◌, refl, sym, subst, ap, ◌∙◌}
use mathlib.Core.List.{List, [], ◌∷◌, ◌++◌}
use Prim.Native.Nat.{ℕ, ◌+◌, ◌-◌, ◌*◌}
use native.Mathlib.Omega.{arith}
use native.Mathlib.Nat.{zero-mul}
use lib.ListN.{length}
use base.Logic.{SProp, ent, emp, id⊢}
use base.Fml.{ftrue, froom, flft}
use mir.MapTy.{inst_fn}
use mir.Syntax.{ty_array}
use mir.Val.{Val, vstruct, vcons, vnil, has_ty}
use prog.Wp.{WpFn}
use types.Kit.{‵, raw, ◌⊛◌, ◌$◌, ◌∵◌, !, qed, by, move, keep, split, fsplit, fjoin, fpack, feq_i, rewrite, suffices, use0}
use types.Part.{whole, sub, agg}
use types.Run.{stop, fld, of_opd, and_then, no_more, returns, enter}
use types.ByLocal.{alloc_all, pass_all, free_all, look_at, get, get_in, sets}
use contract.BorrowLft.{◌⊑◌}
use contract.Monad.{fact, fact_i}
use contract.Running.{tables}
use denote.Array.{Array}
use denote.Exit.{no}
use denote.Param.{param}
use denote.RattleType.{RattleType, Valss, owns}
use denote.RawPtr.{Ptr, block_ptr}
use denote.Signature.{types_at, plain}
use denote.Steps.{nothing, heard}
use denote.Struct.Struct.{within}
use denote.Triple.Walked.{Stays, stay_dropped, walk_of}
use Rattle.core.proofs.alloc.Calls.{Al, token, Goes-blank}
use Rattle.core.proofs.ptr.Rows.{El, R, el_x, elτ, sz}
use Rattle.std.proofs.raw_atomic.Walks.{proved_at, leaves}
use Rattle.std_alloc.proofs.RawLayout.{as_raw}
use Rattle.std_alloc.proofs.ResultValues.{and_tt}
use Rattle.std_alloc.proofs.OfVacant as vacant
use Rattle.bz_arena.specs.Nodes.{block_of}
use Rattle.bz_arena.proofs.Blocks.{Nr, nodes_had, at_start, args, Cr, claim_val, claim_good, claim_had}
use Rattle.bz_arena.specs.contracts.block.close.{ended, clauses}
use Rattle.bz_arena.proofs.block.close.Statement.{statement}
use Rattle.bz_arena.specs.contracts.block.Empty as Em
use Rattle.bz_arena.specs.contracts.block.close.Key.{name as #self}
use Rattle.bz_arena.proofs.block.close.Code as code

pub close_spec : {M : Type 1} → statement M
close_spec 𝓤 𝓛 𝓜 𝓡 wired T' A L LA g d dd met met_drop =
    let H = 𝓛.H in let 𝓣 = tables 𝓤 H 𝓜 𝓡 𝓡.env in let E : El = record { row = T'; laws = L } in let Z : Al = record { row = A; laws = LA; g = g; d = d; drops = dd } in
    let En = ended T' A g d dd in let c = clauses T' A g d dd 𝓛 𝓜.mem 𝓡.returns in let inst = args E Z in let fn = inst_fn inst code.function in
    let Y : RattleType = Array (R E) 256 in let V : RattleType = vacant.Vacant Z Y in
    let hs : Stays En.signature.params En.kept = (stay_dropped (plain (λ _. Nr E)) no, (stay_dropped (plain (λ _. Cr E Z)) no, tt)) in
    proved_at 𝓛 En hs c 𝓜 𝓡 (Goes-blank 𝓛 2 (plain (λ _. Nr E)) no (λ κs x f. tt), (Goes-blank 𝓛 2 (plain (λ _. Cr E Z)) no (λ κs x f. tt), tt)) (#self inst) fn (code.unfolded 𝓤 H 𝓜 𝓡 wired (T', (A, tt)) d dd) (λ z are.
    let κs = z.0.0 in let qs = z.0.1 in let n = z.0.3.0 in let m = z.0.3.1.0 in let a = m.alloc in let Post : Val → SProp 𝓤 = (walk_of 𝓛 En hs c).post z in let Run : List Val → SProp 𝓤 = λ ws. WpFn 𝓤 H 𝓣.C 𝓣.Λ fn ws Post in
    let Asked : Type 0 = (n.items ≡ []) × (n.places ≡ 256) × (m.start ≡ n.start) in let toks = ‵ (flft κs.0 qs.0) ⊛ ‵ (flft κs.1.0 qs.1.0) ⊛ ‵ ftrue in
    qed 𝓛 ((toks ⊛ ‵ (owns (types_at En.signature.params κs) z.0.3 z.0.4)) ∷ raw (fact 𝓤 (κs.0 ⊑ T'.lives)) ∷ raw (fact 𝓤 (κs.1.0 ⊑ A.lives)) ∷ raw (fact 𝓤 Asked) ∷ []) ∵
    move ! (3 ∷ []) $ heard ! Asked (λ asked. keep ! (0 ∷ []) $ split ! $ move ! (1 ∷ []) $ fsplit ! $ nodes_had E ! n z.0.4.0 (λ b o e is small. move ! (2 ∷ []) $ fsplit ! $ claim_had E Z ! m z.0.4.1.0 (λ hv is' fits.
    -- [the token; the allocator; nothing; the array; the room; the tokens of lifetimes]
    keep ! (0 ∷ 1 ∷ 4 ∷ 5 ∷ []) $ let v = at_start (block_ptr b o) in let w = claim_val E Z (block_ptr b o) hv in let at : m.start ≡ block_ptr b o = asked.2 ∙ e in
    let second : z.0.4.1.0 ≡ w ∷ [] = is' ∙ ap (λ (p : Ptr). claim_val E Z p hv ∷ []) at in
    suffices ! (Run (v ∷ w ∷ [])) (subst (λ (us : List Val). ent 𝓤 (Run (v ∷ w ∷ [])) (Run us)) (sym (λ i. is i ++ (second i ++ []))) (id⊢ 𝓤 (Run (v ∷ w ∷ [])))) $
    let u = vacant.vacant_val hv b o in let good = vacant.vacant_typed Z Y hv b o fits in let x : Val = vstruct (vcons u vnil) in
    enter ! 𝓣.C 𝓣.Λ fn (v ∷ w ∷ []) Post $ alloc_all ! (λ l. pass_all ! refl ((tt, (tt, tt)), (claim_good E Z hv b o fits, tt)) $
    sets ! (of_opd ! (get_in ! (fld ! refl (stop !)) (sub ! 0 refl (whole !)))) refl (tt, tt) $ sets ! (of_opd ! (get_in ! (fld ! refl (stop !)) (sub ! 1 refl (whole !)))) refl fits $
    sets ! (of_opd ! (get ! refl)) refl (tt, tt) $ sets ! (of_opd ! (get ! refl)) refl fits $
    sets ! (agg ! (and_then ! (get ! refl) (and_then ! (get ! refl) (no_more !)))) refl good $
    sets ! (agg ! (and_then ! (get ! refl) (no_more !))) refl (and_tt (has_ty (vacant.vacant_ty Z Y) u) good.0, (good.1, tt)) $
    returns ! (look_at ! 0 refl) $ free_all ! refl $
    rewrite ! 0 (λ (p : Ptr). ‵ (token Z a (block_of (R E)) p)) at refl $ move ! (2 ∷ []) $
    rewrite ! 0 (λ (x : ℕ × List (el_x E)). ‵ (froom (ty_array (elτ E) (x.0 - length x.1)) b (o + length x.1 * sz E))) (λ i. (asked.1 i, asked.0 i)) refl $
    rewrite ! 0 (λ (k : ℕ). ‵ (froom (ty_array (elτ E) 256) b k)) {x = o} (omega (arith, zero-mul (sz E))) refl $ as_raw ! (ty_array (elτ E) 256) b o $
    vacant.Vacant-made Z Y ! a b o $ let made : V.Denot = record { ptr = block_ptr b o; alloc = a } in let empty : (Em.the_row (R E) (param 1 A) g).Denot = record { vacant = made } in
    nothing ! $ move ! (1 ∷ 0 ∷ []) $ fjoin ! $ feq_i ! (List Val) (x ∷ []) (x ∷ []) refl $ fjoin ! $ fpack ! (Valss (V ∷ [])) (within (record { name = []; args = []; types = []; fields = V ∷ [] }) (made, tt) (x ∷ [])) (u ∷ [], tt) $
    let Said : Type 0 = made.alloc ≡ a in use0 𝓛 (raw (fact 𝓤 Said)) (fact_i 𝓤 Said (emp 𝓤) refl) $
    nothing ! $ nothing ! $ fjoin ! $ nothing ! $ fjoin ! $ move ! (3 ∷ 0 ∷ 2 ∷ 1 ∷ []) $ by ! (leaves 𝓛 En hs c z x empty (tt, ((tt, (tt, tt)), tt)) (tt, (tt, tt))))))))
