-- `open` tells the room of a vacant block from the right to free it. Assumes `Logic`.
use mathlib.Core.Path.{◌≡◌, refl, sym, subst}
use mathlib.Core.List.{List, [], ◌∷◌, ◌++◌}
use Prim.Native.Nat.{ℕ, ◌+◌, ◌*◌, ◌<◌, ◌^◌}
use native.Mathlib.Omega.{arith}
use native.Mathlib.Nat.{zero-mul}
use base.Fraction.{full_share}
use base.Logic.{SProp, ent, emp, id⊢}
use base.Fml.{ftrue, froom, flft}
use mir.MapTy.{inst_fn}
use mir.Syntax.{ty_array}
use mir.Val.{Val, vstruct, vcons, vnil, has_ty}
use prog.Memory.{size}
use prog.Wp.{WpFn}
use types.Kit.{‵, raw, ◌⊛◌, ◌$◌, ◌∵◌, !, qed, by, move, keep, split, fsplit, fjoin, fjoin3, fpack, feq_i, rewrite, suffices, use0}
use types.Part.{whole, sub, agg}
use types.Run.{stop, fld, of_opd, and_then, no_more, returns, enter}
use types.ByLocal.{alloc_all, pass_all, free_all, look_at, get, get_in, sets}
use contract.BorrowLft.{◌⊑◌}
use contract.Monad.{fact, fact_i}
use contract.Running.{tables}
use denote.Array.{Array}
use denote.Exit.{no}
use denote.Memory.{part_at}
use denote.Param.{layout}
use denote.RattleType.{RattleType, Valss, owns}
use denote.RawPtr.{block_ptr}
use denote.Signature.{types_at, plain}
use denote.Steps.{nothing, heard}
use denote.Struct.Declared as declared
use denote.Struct.Struct.{within}
use denote.Struct.Tuple.{tuple_type}
use denote.Triple.Walked.{Stays, stay_dropped, walk_of}
use Rattle.core.proofs.alloc.Calls.{Al, Goes-blank}
use Rattle.core.proofs.ptr.Rows.{El, R, elτ, sz, empty}
use Rattle.std.proofs.raw_atomic.Walks.{proved_at, leaves}
use Rattle.std_alloc.proofs.RawLayout.{as_written}
use Rattle.std_alloc.proofs.ResultValues.{and_tt}
use Rattle.std_alloc.proofs.OfVacant as vacant
use Rattle.bz_arena.proofs.Blocks.{Nr, nodes, nodes_made, at_start, args, Cr, claim_val, claim_ty, claim_good, claim_made}
use Rattle.bz_arena.specs.contracts.block.open.{ended, clauses}
use Rattle.bz_arena.proofs.block.open.Statement.{statement}
use Rattle.bz_arena.specs.contracts.block.open.Key.{name as #self}
use Rattle.bz_arena.proofs.block.open.Code as code

pub open_spec : {M : Type 1} → statement M
open_spec 𝓤 𝓛 𝓜 𝓡 wired T' A L LA g d dd met met_drop =
    let H = 𝓛.H in let 𝓣 = tables 𝓤 H 𝓜 𝓡 𝓡.env in let E : El = record { row = T'; laws = L } in let Z : Al = record { row = A; laws = LA; g = g; d = d; drops = dd } in
    let En = ended T' A g d dd in let c = clauses T' A g d dd 𝓛 𝓜.mem 𝓡.returns in let inst = args E Z in let fn = inst_fn inst code.function in
    let Y : RattleType = Array (R E) 256 in let V : RattleType = vacant.Vacant Z Y in
    let hs : Stays En.signature.params En.kept = (stay_dropped (plain (λ _. V)) no, tt) in
    proved_at 𝓛 En hs c 𝓜 𝓡 (Goes-blank 𝓛 2 (plain (λ _. V)) no (λ κs x f. tt), tt) (#self inst) fn (code.unfolded 𝓤 H 𝓜 𝓡 wired (T', (A, tt)) d dd) (λ z are.
    let κs = z.0.0 in let qs = z.0.1 in let v = z.0.3.0 in let a = v.alloc in let Post : Val → SProp 𝓤 = (walk_of 𝓛 En hs c).post z in let Run : List Val → SProp 𝓤 = λ ws. WpFn 𝓤 H 𝓣.C 𝓣.Λ fn ws Post in
    let Small : Type 0 = size (layout Y) < 2 ^ 63 in let toks = ‵ (flft κs.0 qs.0) ⊛ ‵ (flft κs.1.0 qs.1.0) ⊛ ‵ ftrue in
    qed 𝓛 ((toks ⊛ ‵ (owns (types_at En.signature.params κs) z.0.3 z.0.4)) ∷ raw (fact 𝓤 (κs.0 ⊑ T'.lives)) ∷ raw (fact 𝓤 (κs.1.0 ⊑ A.lives)) ∷ raw (fact 𝓤 Small) ∷ ‵ ftrue ∷ []) ∵
    move ! (3 ∷ []) $ heard ! Small (λ small. keep ! (0 ∷ []) $ split ! $ move ! (1 ∷ []) $ fsplit ! $ vacant.Vacant-had Z Y ! v z.0.4.0 (λ b o hv e is fits.
    -- [the room; the token; the allocator; nothing; the tokens of lifetimes]
    keep ! (0 ∷ 1 ∷ 2 ∷ 4 ∷ []) $ let w = vacant.vacant_val hv b o in
    suffices ! (Run (w ∷ [])) (subst (λ (us : List Val). ent 𝓤 (Run (w ∷ [])) (Run us)) (sym (λ i. is i ++ [])) (id⊢ 𝓤 (Run (w ∷ [])))) $
    enter ! 𝓣.C 𝓣.Λ fn (w ∷ []) Post $ alloc_all ! (λ l. pass_all ! refl (vacant.vacant_typed Z Y hv b o fits, tt) $
    let n = at_start (block_ptr b o) in let m = claim_val E Z (block_ptr b o) hv in let pair : Val = vstruct (vcons n (vcons m vnil)) in let good = claim_good E Z hv b o fits in
    sets ! (of_opd ! (get_in ! (fld ! refl (stop !)) (sub ! 0 refl (whole !)))) refl (tt, tt) $ sets ! (of_opd ! (get_in ! (fld ! refl (stop !)) (sub ! 1 refl (whole !)))) refl fits $
    sets ! (of_opd ! (get ! refl)) refl (tt, tt) $ sets ! (agg ! (and_then ! (get ! refl) (no_more !))) refl (tt, (tt, tt)) $ sets ! (of_opd ! (get ! refl)) refl fits $
    sets ! (agg ! (and_then ! (get ! refl) (and_then ! (get ! refl) (no_more !)))) refl good $
    sets ! (agg ! (and_then ! (get ! refl) (and_then ! (get ! refl) (no_more !)))) refl (and_tt (has_ty (claim_ty E Z) m) good.0, ((tt, tt), (good.1, tt))) $
    returns ! (look_at ! 0 refl) $ free_all ! refl $ as_written ! (ty_array (elτ E) 256) b o $
    rewrite ! 0 (λ (k : ℕ). ‵ (froom (ty_array (elτ E) 256) b k)) {x = o + 0 * sz E} (omega (arith, zero-mul (sz E))) refl $
    use0 𝓛 (‵ (part_at (Array (R E) 0) full_share [] b o)) (empty E 𝓛 [] b o refl) $ nodes_made E ! b o 256 [] small $ move ! (1 ∷ 2 ∷ []) $ claim_made E Z ! a b o $
    let new : (Nr E).Denot = nodes E b o 256 [] in let claim : (Cr E Z).Denot = record { start = block_ptr b o; alloc = a } in
    nothing ! $ move ! (2 ∷ 1 ∷ 0 ∷ []) $ fjoin3 ! $ feq_i ! (List Val) (pair ∷ []) (pair ∷ []) refl $ fjoin ! $
    fpack ! (Valss (Nr E ∷ Cr E Z ∷ [])) (within (declared.shape (tuple_type (Nr E ∷ Cr E Z ∷ []))) (new, (claim, tt)) (pair ∷ [])) (n ∷ [], (m ∷ [], tt)) $
    let Said : Type 0 = (new.items ≡ []) × (new.places ≡ 256) × (claim.start ≡ new.start) × (claim.alloc ≡ a) in
    use0 𝓛 (raw (fact 𝓤 Said)) (fact_i 𝓤 Said (emp 𝓤) (refl, refl, refl, refl)) $ nothing ! $ nothing ! $ fjoin ! $ move ! (3 ∷ 0 ∷ 2 ∷ 1 ∷ []) $ by ! (leaves 𝓛 En hs c z pair (new, claim) ((tt, (tt, tt)), tt) (tt, tt))))))
