-- Nodes by value are [the array of what the first places hold; the room after it], and a claim is [the allocator's token; the allocator]. Assumes `Logic`.
use mathlib.Core.Path.{◌≡◌, refl, subst, ◌∙◌}
use mathlib.Core.List.{List, [], ◌∷◌, ◌++◌}
use Prim.Native.Nat.{ℕ, zero, suc, ◌+◌, ◌-◌, ◌*◌, ◌<◌, ◌^◌}
use native.Mathlib.Omega.{arith}
use lib.ListN.{length, get_or}
use lib.Dec.{T}
use seplogic.Ra.Ura.{Ura}
use base.Fraction.{full_share}
use base.Logic.{ent, sep, id⊢, never}
use base.Fml.{froom}
use mir.Syntax.{Args, Ty, a_type, dcons, dnil, ty_array, ty_ptr, ty_struct, tcons, tnil}
use mir.Val.{Val, of_list, vstruct, vcons, vnil, vptr, has_ty, WT}
use types.Logic.{Logic}
use types.Kit.{Goal, Item, Seq, Step, step, ‵, ◌$◌, ◌∵◌, !, qed, done, drop, use2, move, fsplit, fjoin, fpick, fpack, feq_i, feq_l, flt_i, flt_l, rewrite}
use denote.Array.{Array}
use denote.Memory.{part_at}
use denote.Param.{param, bounded}
use denote.RattleType.{RattleType, Valss}
use denote.RawPtr.{Ptr, RawPtr, block_ptr, ptr_val, in_block, in_a_block}
use denote.Steps.{nothing}
use denote.Struct.Owning.{Owning, shape}
use denote.Struct.Struct.{within}
use Rattle.core.proofs.alloc.Calls.{Al, α, token, Fits, handle_tells}
use Rattle.core.proofs.ptr.Rows.{El, R, el_x, elτ, sz, next}
use Rattle.std_alloc.proofs.ResultValues.{and_tt}
use Rattle.std_alloc.proofs.RawLayout.{as_raw, as_written}
use Rattle.bz_arena.specs.Nodes.{places_own, block_of}
use Rattle.bz_arena.specs.contracts.block.Nodes as N
use Rattle.bz_arena.specs.contracts.block.Claim as D

-- the one machine value of nodes that start at p
abbrev pub at_start : Ptr → Val
at_start p = vstruct (vcons (ptr_val p) vnil)

module _ (E : El) where
  abbrev pub nodes_type : Owning
  nodes_type = N.the_type (R E)

  abbrev pub Nr : RattleType
  Nr = N.the_row (R E)

  abbrev pub nodes : ℕ → ℕ → ℕ → List (el_x E) → Nr.Denot
  nodes b o n xs = record { start = block_ptr b o; places = n; items = xs }

module _ (E : El) {M : Type 1} {𝓤 : Ura M} {𝓛 : Logic 𝓤} {K : Type 0} {Γ : List (Item 𝓤)} {G : Goal 𝓤 𝓛.H} where
  pub nodes_had : K → (d : (Nr E).Denot) (vs : List Val)
      → ((b o : ℕ) → d.start ≡ block_ptr b o → vs ≡ at_start (block_ptr b o) ∷ [] → d.places * sz E < 2 ^ 63
      → Seq K 𝓛 (‵ (part_at (Array (R E) (length d.items)) full_share d.items b o) ∷ ‵ (froom (ty_array (elτ E) (d.places - length d.items)) b (o + length d.items * sz E)) ∷ Γ) G)
      → Seq K 𝓛 (‵ ((Nr E).own_val d vs) ∷ Γ) G
  nodes_had t d vs k =
      fsplit t $ fpick t (λ vss. fsplit t $ feq_l t (λ all. fsplit t $ feq_l t (λ first. drop t $ fsplit t $ flt_l t (λ small.
      in_a_block t d.start (λ p. in_block p (places_own (R E) p d.places d.items)) (id⊢ 𝓤 (never 𝓤)) (λ b o e. fsplit t $ move t (1 ∷ []) $ as_written t (ty_array (elτ E) (d.places - length d.items)) b (o + length d.items * sz E) $ move t (1 ∷ 0 ∷ []) $
      k b o e (subst (λ (p : Ptr). vs ≡ at_start p ∷ []) e (subst (λ (ws : List Val). vs ≡ vstruct (of_list (ws ++ [])) ∷ []) first all)) small)))))

  pub nodes_made : K → (b o n : ℕ) (xs : List (el_x E)) → n * sz E < 2 ^ 63
      → Step K 𝓛 (‵ ((Nr E).own_val (nodes E b o n xs) (at_start (block_ptr b o) ∷ [])) ∷ Γ) G (‵ (part_at (Array (R E) (length xs)) full_share xs b o) ∷ ‵ (froom (ty_array (elτ E) (n - length xs)) b (o + length xs * sz E)) ∷ Γ) G
  nodes_made t b o n xs small = step (λ s.
      move t (1 ∷ 0 ∷ []) $ as_raw t (ty_array (elτ E) (n - length xs)) b (o + length xs * sz E) $ move t (1 ∷ 0 ∷ []) $ fjoin t $ flt_i t (n * sz E) (2 ^ 63) small $ fjoin t $
      nothing t $ feq_i t (List Val) (vptr b o ∷ []) (vptr b o ∷ []) refl $ fjoin t $ feq_i t (List Val) (at_start (block_ptr b o) ∷ []) (at_start (block_ptr b o) ∷ []) refl $ fjoin t $
      fpack t (Valss (RawPtr ∷ [])) (within (shape (nodes_type E)) (block_ptr b o, tt) (at_start (block_ptr b o) ∷ [])) (vptr b o ∷ [], tt) $ fjoin t $ s)

-- a list that is not empty is all but its last, and the last
pub last_of : {X : Type 0} (xs : List X) (m : ℕ) → m + 1 ≡ length xs → (ys : List X) × (x : X) × (xs ≡ ys ++ x ∷ []) × (length ys ≡ m)
last_of [] m e = absurd (omega (arith, e))
last_of (x ∷ []) m e = ([], x, refl, omega (arith, e))
last_of (x ∷ y ∷ zs) m e = let r = last_of (y ∷ zs) (m - 1) (omega (arith, e)) in (x ∷ r.0, r.1, λ i. x ∷ r.2 i, omega (arith, r.3, e))

-- what an element within a list is has nothing to do with what stands for one without
pub same_or : {X : Type 0} (xs : List X) (i : ℕ) (d e : X) → i < length xs → get_or xs i d ≡ get_or xs i e
same_or [] i d e lt = absurd (omega (arith, lt))
same_or (x ∷ xs) zero d e lt = refl
same_or (x ∷ xs) (suc i) d e lt = same_or xs i d e (omega (arith, lt))

module _ (E : El) {M : Type 1} {𝓤 : Ura M} (𝓛 : Logic 𝓤) where
  -- room for one, and for the others after it
  pub room_back : (b o n c : ℕ) → n < c → ent 𝓤 (sep 𝓤 (𝓛.H.room (elτ E) b (n * sz E + o)) (𝓛.H.room (ty_array (elτ E) (c - (n + 1))) b (o + (n + 1) * sz E))) (𝓛.H.room (ty_array (elτ E) (c - n)) b (o + n * sz E))
  room_back b o n c lt =
      let s = sz E in let m = c - (n + 1) in
      qed 𝓛 (‵ (froom (elτ E) b (n * s + o)) ∷ ‵ (froom (ty_array (elτ E) m) b (o + (n + 1) * s)) ∷ []) ∵
      rewrite ! 0 (λ (k : ℕ). ‵ (froom (elτ E) b k)) {x = o + n * s} (omega arith) refl $ rewrite ! 1 (λ (k : ℕ). ‵ (froom (ty_array (elτ E) m) b k)) {x = o + n * s + s} (omega (arith, next n s)) refl $
      use2 𝓛 (‵ (froom (ty_array (elτ E) (suc m)) b (o + n * s))) (𝓛.laws.room_cons (elτ E) m b (o + n * s)) $
      rewrite ! 0 (λ (k : ℕ). ‵ (froom (ty_array (elτ E) k) b (o + n * s))) {x = c - n} (omega arith) refl $ done !

module _ (E : El) (Z : Al) where
  abbrev pub args : Args
  args = bounded (a_type ∷ a_type ∷ []) (E.row, (Z.row, tt)) (dcons Z.d (dcons Z.drops dnil))

  abbrev pub claim_type : Owning
  claim_type = D.the_type (R E) (param 1 Z.row) Z.g

  abbrev pub Cr : RattleType
  Cr = D.the_row (R E) (param 1 Z.row) Z.g

  -- the machine value of a claim that starts at p, where hv is the allocator's
  abbrev pub claim_val : Ptr → Val → Val
  claim_val p hv = vstruct (vcons (ptr_val p) (vcons hv vnil))

  abbrev pub claim_ty : Ty
  claim_ty = ty_struct claim_type.name (tcons ty_ptr (tcons (α Z) tnil))

  pub claim_good : (hv : Val) (b o : ℕ) → Fits Z hv → T (has_ty claim_ty (claim_val (block_ptr b o) hv)) × WT (claim_val (block_ptr b o) hv)
  claim_good hv b o fits = (and_tt (has_ty (α Z) hv) fits.0, (tt, (fits.1, tt)))

  module _ {M : Type 1} {𝓤 : Ura M} {𝓛 : Logic 𝓤} {K : Type 0} {Γ : List (Item 𝓤)} {G : Goal 𝓤 𝓛.H} where
    pub claim_had : K → (d : Cr.Denot) (vs : List Val)
        → ((hv : Val) → vs ≡ claim_val d.start hv ∷ [] → Fits Z hv → Seq K 𝓛 (‵ (token Z d.alloc (block_of (R E)) d.start) ∷ ‵ (Z.row.own_val d.alloc (hv ∷ [])) ∷ Γ) G)
        → Seq K 𝓛 (‵ (Cr.own_val d vs) ∷ Γ) G
    claim_had t d vs k =
        fsplit t $ fpick t (λ vss. fsplit t $ feq_l t (λ all. fsplit t $ feq_l t (λ first. fsplit t $ handle_tells Z t d.alloc vss.1.0 (λ hv second fits. move t (1 ∷ []) $ drop t $ move t (1 ∷ []) $
        k hv (all ∙ (λ i. vstruct (of_list (first i ++ (second i ++ []))) ∷ [])) fits))))

    pub claim_made : K → {hv : Val} (a : Z.row.Denot) (b o : ℕ)
        → Step K 𝓛 (‵ (Cr.own_val (record { start = block_ptr b o; alloc = a }) (claim_val (block_ptr b o) hv ∷ [])) ∷ Γ) G (‵ (token Z a (block_of (R E)) (block_ptr b o)) ∷ ‵ (Z.row.own_val a (hv ∷ [])) ∷ Γ) G
    claim_made t {hv} a b o = step (λ s.
        let v = claim_val (block_ptr b o) hv in
        nothing t $ move t (2 ∷ 0 ∷ []) $ fjoin t $ feq_i t (List Val) (vptr b o ∷ []) (vptr b o ∷ []) refl $ fjoin t $ feq_i t (List Val) (v ∷ []) (v ∷ []) refl $ fjoin t $
        fpack t (Valss (RawPtr ∷ param 1 Z.row ∷ [])) (within (shape claim_type) (block_ptr b o, (a, tt)) (v ∷ [])) (vptr b o ∷ [], (hv ∷ [], tt)) $ fjoin t $ s)
