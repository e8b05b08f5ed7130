-- Fields that lie side by side in memory are lent one by one for one lifetime, by `&mut` or by `&`, and come back together: what a
-- method lends that hands several arrays of a struct to one call. P is what else is at hand, and stays.
--     Names ms                   a name for each field's last value
--     refs_at, lents_at, lasts_at   the `&mut` to the fields and P; what the lender keeps; what says the fields' last values, and P
--     lends_all                  parts_at ms a ∗ P ⊢ ⇛ ∃ ns. refs_at ms a ns P ∗ lents_at ms ns
--     all_back                   [†κ] ∗ lents_at ms ns ∗ lasts_at ms a' ns P ⊢ ⇛ (parts_at ms a' ∗ P)
--     shrs_at, kept_at             the `&` to the fields and P; what the lender keeps of the share t
--     Frees ms                   each field's type is lent as a `&` with no token
--     shows_all                  given `Frees ms`:  parts_at t ms a ∗ P ⊢ ⇛ shrs_at ms a P ∗ kept_at t ms a
--     shown_back                 [†κ] ∗ kept_at t ms a ⊢ ⇛ parts_at t ms a
--     toks_at κ n q P             suc n tokens of κ whose shares make q, and P: what a callee asks that has a lifetime for each of
--                                its references, where all of them stand at κ
--     toks_cut, toks_join        [κ]_q ∗ P is that, and back
-- Assumes `Logic`.
use Prim.Native.Nat.{ℕ, zero, suc, ◌+◌}
use mathlib.Core.List.{List, [], ◌∷◌}
use seplogic.Ra.Ura.{Ura}
use base.Fraction.{full_share}
use base.Share
use mir.Syntax.{Lifetime}
use mir.Val.{vptr}
use base.Logic.{SProp, ent, sep, ex, via, id⊢, mono_l, mono_r, assoc∗, assoc'}
use base.Fml.{Lft, GName, Share, Fml, ftrue, fsep, flft, fdead, fres, flent}
use prog.Memory.{size, align, up}
use types.Logic.{Logic, sem}
use types.Kit.{‵, ◌⊛◌, some, later, ◌$◌, ◌∵◌, !, qed, move, keep, use1, use2, use3, split, pick, fsplit, fjoin, frame, await, updating, now as at_once, show, done}
use types.SemTy.{Body}
use types.Tokens.{lent_back}
use denote.RattleType.{Denots}
use denote.Memory.{mem, part_at, shared_of}
use denote.Ref.{MutRef, ShrRef}
use denote.Struct.Members.{Member, row_of, rows_of, parts_at}
use denote.Lend.{lends_ref, ref_back, lends_free}
use denote.Lends.{Lent as LentFree}

abbrev pub Names : List Member → Type 0
Names [] = Unit {0}
Names (m ∷ ms) = GName × Names ms

abbrev pub place : Member → ℕ → ℕ → ℕ
place m e o = o + up (align m.ty) e

abbrev pub next : Member → ℕ → ℕ
next m e = up (align m.ty) e + size m.ty

abbrev pub refs_at : Lifetime → Lft → (ms : List Member) → ℕ → Denots (rows_of ms) → Names ms → ℕ → ℕ → Fml → Fml
refs_at ℓ κ [] e a ns b o P = P
refs_at ℓ κ (m ∷ ms) e a ns b o P = fsep ((MutRef ℓ κ (row_of m)).own_val (record { ref_ptr = (b, place m e o); ghost_name = ns.0; now = a.0 }) (vptr b (place m e o) ∷ [])) (refs_at ℓ κ ms (next m e) a.1 ns.1 b o P)

abbrev pub lents_at : Lft → (ms : List Member) → ℕ → Names ms → ℕ → ℕ → Fml
lents_at κ [] e ns b o = ftrue
lents_at κ (m ∷ ms) e ns b o = fsep (flent κ (Body (mem (row_of m)) b (place m e o) ns.0)) (lents_at κ ms (next m e) ns.1 b o)

abbrev pub lasts_at : (ms : List Member) → Denots (rows_of ms) → Names ms → Fml → Fml
lasts_at [] a ns P = P
lasts_at (m ∷ ms) a ns P = fsep (fres ns.0 ((row_of m).coded.code a.0)) (lasts_at ms a.1 ns.1 P)

abbrev pub shrs_at : Lifetime → Lft → (ms : List Member) → ℕ → Denots (rows_of ms) → ℕ → ℕ → Fml → Fml
shrs_at ℓ κ [] e a b o P = P
shrs_at ℓ κ (m ∷ ms) e a b o P = fsep ((ShrRef ℓ κ (row_of m)).own_val (record { ref_ptr = (b, place m e o); now = a.0 }) (vptr b (place m e o) ∷ [])) (shrs_at ℓ κ ms (next m e) a.1 b o P)

abbrev pub kept_at : Lft → Share → (ms : List Member) → ℕ → Denots (rows_of ms) → ℕ → ℕ → Fml
kept_at κ t [] e a b o = ftrue
kept_at κ t (m ∷ ms) e a b o = fsep (flent κ (part_at (row_of m) t a.0 b (place m e o))) (kept_at κ t ms (next m e) a.1 b o)

module _ {M : Type 1} {𝓤 : Ura M} (𝓛 : Logic 𝓤) (κ : Lft) where
  abbrev tok : Share → SProp 𝓤
  tok q = sem 𝓛 (flft κ q)

  abbrev pub toks_at : ℕ → Share → SProp 𝓤 → SProp 𝓤
  toks_at zero q P = sep 𝓤 (tok q) P
  toks_at (suc n) q P = sep 𝓤 (tok (Share.left q)) (toks_at n (Share.right q) P)

  pub toks_cut : (n : ℕ) (q : Share) (P : SProp 𝓤) → ent 𝓤 (sep 𝓤 (tok q) P) (toks_at n q P)
  toks_cut zero q P = id⊢ 𝓤 (sep 𝓤 (tok q) P)
  toks_cut (suc n) q P =
      via 𝓤 (sep 𝓤 (sep 𝓤 (tok (Share.left q)) (tok (Share.right q))) P) (mono_l 𝓤 P (𝓛.lfts.lft_split κ q))
      (via 𝓤 (sep 𝓤 (tok (Share.left q)) (sep 𝓤 (tok (Share.right q)) P)) (assoc∗ 𝓤 (tok (Share.left q)) (tok (Share.right q)) P) (mono_r 𝓤 (tok (Share.left q)) (toks_cut n (Share.right q) P)))

  pub toks_join : (n : ℕ) (q : Share) (P : SProp 𝓤) → ent 𝓤 (toks_at n q P) (sep 𝓤 (tok q) P)
  toks_join zero q P = id⊢ 𝓤 (sep 𝓤 (tok q) P)
  toks_join (suc n) q P =
      via 𝓤 (sep 𝓤 (tok (Share.left q)) (sep 𝓤 (tok (Share.right q)) P)) (mono_r 𝓤 (tok (Share.left q)) (toks_join n (Share.right q) P))
      (via 𝓤 (sep 𝓤 (sep 𝓤 (tok (Share.left q)) (tok (Share.right q))) P) (assoc' 𝓤 (tok (Share.left q)) (tok (Share.right q)) P) (mono_l 𝓤 P (𝓛.lfts.lft_join κ q)))

module _ {M : Type 1} {𝓤 : Ura M} (𝓛 : Logic 𝓤) where
  -- each field is of a type that is lent as a `&` with no token, as one that is Copy is
  abbrev pub Frees : List Member → Type 1
  Frees [] = Unit {1}
  Frees (m ∷ ms) = ((t : Share) (x : (row_of m).Denot) (b o : ℕ) → LentFree 𝓛 (part_at (row_of m) t x b o) (shared_of (row_of m) x b o)) × Frees ms

module _ {M : Type 1} {𝓤 : Ura M} (𝓛 : Logic 𝓤) (ℓ : Lifetime) (κ : Lft) (b o : ℕ) (P : Fml) where
  open 𝓛 use {H}

  abbrev ⟦◌⟧ : Fml → SProp 𝓤
  ⟦ F ⟧ = sem 𝓛 F

  abbrev pub Lent : (ms : List Member) → ℕ → Denots (rows_of ms) → Names ms → SProp 𝓤
  Lent ms e a ns = sep 𝓤 ⟦ refs_at ℓ κ ms e a ns b o P ⟧ ⟦ lents_at κ ms e ns b o ⟧

  pub lends_all : (ms : List Member) (e : ℕ) (a : Denots (rows_of ms)) → ent 𝓤 (sep 𝓤 ⟦ parts_at full_share ms e a b o ⟧ ⟦ P ⟧) (H.⇛ (ex 𝓤 (Lent ms e a)))
  lends_all [] e a =
      qed 𝓛 (‵ ftrue ∷ ‵ P ∷ []) ∵ updating ! $ at_once ! $ show ! (Lent [] e a) tt $ move ! (1 ∷ 0 ∷ []) $ done !
  lends_all (m ∷ ms) e a =
      qed 𝓛 (‵ (parts_at full_share (m ∷ ms) e a b o) ∷ ‵ P ∷ []) ∵ updating ! $ fsplit ! $
      use1 𝓛 (later (some (λ (γ : GName). ‵ ((MutRef ℓ κ (row_of m)).own_val (record { ref_ptr = (b, place m e o); ghost_name = γ; now = a.0 }) (vptr b (place m e o) ∷ [])) ⊛ ‵ (flent κ (Body (mem (row_of m)) b (place m e o) γ))))) (lends_ref 𝓛 (row_of m) ℓ κ a.0 b (place m e o)) $
      await ! tt $ pick ! (λ γ. split ! $ move ! (2 ∷ 3 ∷ []) $
      use2 𝓛 (later (some (λ (ns : Names ms). ‵ (refs_at ℓ κ ms (next m e) a.1 ns b o P) ⊛ ‵ (lents_at κ ms (next m e) ns b o)))) (lends_all ms (next m e) a.1) $ await ! tt $ pick ! (λ ns. split ! $
      at_once ! $ show ! (Lent (m ∷ ms) e a) (γ, ns) $ move ! (2 ∷ 0 ∷ []) $ fjoin ! $ frame ! $ move ! (1 ∷ 0 ∷ []) $ fjoin ! $ done !))

  pub all_back : (ms : List Member) (e : ℕ) (a : Denots (rows_of ms)) (ns : Names ms) → ent 𝓤 (sep 𝓤 ⟦ fdead κ ⟧ (sep 𝓤 ⟦ lents_at κ ms e ns b o ⟧ ⟦ lasts_at ms a ns P ⟧)) (H.⇛ (sep 𝓤 ⟦ parts_at full_share ms e a b o ⟧ ⟦ P ⟧))
  all_back [] e a ns =
      qed 𝓛 (‵ (fdead κ) ∷ ‵ ftrue ∷ ‵ P ∷ []) ∵ updating ! $ at_once ! $ keep ! (1 ∷ 2 ∷ []) $ done !
  all_back (m ∷ ms) e a ns =
      qed 𝓛 (‵ (fdead κ) ∷ ‵ (lents_at κ (m ∷ ms) e ns b o) ∷ ‵ (lasts_at (m ∷ ms) a ns P) ∷ []) ∵ updating ! $
      use1 𝓛 (‵ (fdead κ) ⊛ ‵ (fdead κ)) (𝓛.lfts.dead_dup κ) $ split ! $ move ! (2 ∷ []) $ fsplit ! $ move ! (4 ∷ []) $ fsplit ! $
      -- [the member's last; the others'; the member's part; the others'; †κ; †κ]
      move ! (4 ∷ 2 ∷ 0 ∷ []) $ use3 𝓛 (later (‵ (part_at (row_of m) full_share a.0 b (place m e o)))) (ref_back 𝓛 (row_of m) κ ns.0 a.0 b (place m e o)) $ await ! tt $
      -- [the member; the others' lasts; the others' parts; †κ]
      move ! (3 ∷ 2 ∷ 1 ∷ []) $ use3 𝓛 (later (‵ (parts_at full_share ms (next m e) a.1 b o) ⊛ ‵ P)) (all_back ms (next m e) a.1 ns.1) $ await ! tt $ split ! $
      at_once ! $ move ! (2 ∷ 0 ∷ []) $ fjoin ! $ done !

  module _ (t : Share) where
    abbrev pub Shown : (ms : List Member) → ℕ → Denots (rows_of ms) → SProp 𝓤
    Shown ms e a = sep 𝓤 ⟦ shrs_at ℓ κ ms e a b o P ⟧ ⟦ kept_at κ t ms e a b o ⟧

    pub shows_all : (ms : List Member) → Frees 𝓛 ms → (e : ℕ) (a : Denots (rows_of ms)) → ent 𝓤 (sep 𝓤 ⟦ parts_at t ms e a b o ⟧ ⟦ P ⟧) (H.⇛ (Shown ms e a))
    shows_all [] free e a =
        qed 𝓛 (‵ ftrue ∷ ‵ P ∷ []) ∵ updating ! $ at_once ! $ move ! (1 ∷ 0 ∷ []) $ done !
    shows_all (m ∷ ms) free e a =
        qed 𝓛 (‵ (parts_at t (m ∷ ms) e a b o) ∷ ‵ P ∷ []) ∵ updating ! $ fsplit ! $
        use1 𝓛 (later (‵ ((ShrRef ℓ κ (row_of m)).own_val (record { ref_ptr = (b, place m e o); now = a.0 }) (vptr b (place m e o) ∷ [])) ⊛ ‵ (flent κ (part_at (row_of m) t a.0 b (place m e o))))) (lends_free 𝓛 (row_of m) ℓ κ t a.0 b (place m e o) (free.0 t a.0 b (place m e o))) $
        await ! tt $ split ! $ move ! (2 ∷ 3 ∷ []) $
        use2 𝓛 (later (‵ (shrs_at ℓ κ ms (next m e) a.1 b o P) ⊛ ‵ (kept_at κ t ms (next m e) a.1 b o))) (shows_all ms free.1 (next m e) a.1) $ await ! tt $ split ! $
        at_once ! $ move ! (2 ∷ 0 ∷ []) $ fjoin ! $ frame ! $ move ! (1 ∷ 0 ∷ []) $ fjoin ! $ done !

    pub shown_back : (ms : List Member) (e : ℕ) (a : Denots (rows_of ms)) → ent 𝓤 (sep 𝓤 ⟦ fdead κ ⟧ ⟦ kept_at κ t ms e a b o ⟧) (H.⇛ ⟦ parts_at t ms e a b o ⟧)
    shown_back [] e a = qed 𝓛 (‵ (fdead κ) ∷ ‵ ftrue ∷ []) ∵ updating ! $ at_once ! $ keep ! (1 ∷ []) $ done !
    shown_back (m ∷ ms) e a =
        qed 𝓛 (‵ (fdead κ) ∷ ‵ (kept_at κ t (m ∷ ms) e a b o) ∷ []) ∵ updating ! $ use1 𝓛 (‵ (fdead κ) ⊛ ‵ (fdead κ)) (𝓛.lfts.dead_dup κ) $ split ! $ move ! (2 ∷ []) $ fsplit ! $
        -- [the member's part; the others'; †κ; †κ]
        move ! (2 ∷ 0 ∷ []) $ lent_back ! tt $ move ! (2 ∷ 1 ∷ []) $ use2 𝓛 (later (‵ (parts_at t ms (next m e) a.1 b o))) (shown_back ms (next m e) a.1) $ await ! tt $ at_once ! $ move ! (1 ∷ 0 ∷ []) $ fjoin ! $ done !
