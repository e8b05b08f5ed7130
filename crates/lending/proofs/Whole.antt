-- The fields of a struct in memory, all but the first, are lent at once for a lifetime, and come back: `Lending.antt` at a struct.
--     Lendable     a struct by its row, its name and its fields, first ∷ rest. `all` is the tuple of a value's fields, and `same`
--                  says that the row lies in memory as the struct of those fields does
--     lend         h lies at (b, o) ∗ P ⊢ ⇛ ∃ ns. the `&mut` to the rest, and P ∗ Kept ns
--     back         [†κ] ∗ Kept ns ∗ what says the last values a, and P ⊢ ⇛ (h' lies at (b, o) ∗ P), where h' is h with a for the rest
--     show_out     where each field of the rest is lent as a `&` with no token: the share t of h lies at (b, o) ∗ P ⊢ ⇛ the `&` to the rest, and P ∗ Held
--     show_back    [†κ] ∗ Held ⊢ ⇛ the share t of h lies at (b, o)
-- Assumes `Logic`.
use mathlib.Core.Path.{◌≡◌, refl, sym, ap, subst, ◌∙◌}
use mathlib.Core.List.{List, [], ◌∷◌}
use Prim.Native.Nat.{ℕ}
use seplogic.Ra.Ura.{Ura}
use base.Fraction.{full_share}
use mir.Syntax.{Lifetime, Sym}
use base.Logic.{SProp, ent, sep, ex, wand, all_e, wand_e}
use base.Fml.{Fml, Lft, Share, ftrue, fdead}
use types.Logic.{Logic, sem}
use types.Kit.{Item, ‵, raw, ◌⊛◌, some, later, mean, ◌$◌, ◌∵◌, !, qed, move, use1, use2, use3, split, pick, fsplit, fjoin, await, updating, now as at_once, show, done}
use denote.RattleType.{RattleType, Denots}
use denote.Laws.{Lawfuls}
use denote.Memory.{part_at}
use denote.Struct.Struct.{Struct}
use denote.Struct.Members.{Member, row_of, rows_of, parts_at}
use denote.Struct.Parts.{shape_of, PartsBack, Struct-parts}
use Rattle.lending.proofs.Lending.{Names, place, next, refs_at, lents_at, lasts_at, lends_all, all_back, shrs_at, kept_at, Frees, shows_all, shown_back}

pub record Lendable : Type 2 where
  pub row : RattleType
  pub name : Sym
  pub first : Member
  pub rest : List Member
  pub all : row.Denot → Denots (rows_of (first ∷ rest))
  pub same : (q : Share) (h : row.Denot) (b o : ℕ) → part_at row q h b o ≡ part_at (Struct (shape_of name (first ∷ rest))) q (all h) b o
  pub lawful : {M : Type 1} {𝓤 : Ura M} (𝓛 : Logic 𝓤) → Lawfuls 𝓛 (rows_of (first ∷ rest))

module _ (D : Lendable) where
  abbrev ms : List Member
  ms = D.first ∷ D.rest

  -- where the first field ends
  abbrev pub start : ℕ
  start = next D.first 0

  abbrev pub Values : Type 0
  Values = Denots (rows_of D.rest)

  module _ {M : Type 1} {𝓤 : Ura M} (𝓛 : Logic 𝓤) where
    open 𝓛 use {H}

    abbrev Back : Share → ℕ → ℕ → SProp 𝓤
    Back q b o = PartsBack 𝓛 q D.name ms b o

    -- what the lender keeps
    abbrev pub Kept : Lft → D.row.Denot → ℕ → ℕ → Names D.rest → Item 𝓤
    Kept κ h b o ns = ‵ (lents_at κ D.rest start ns b o) ⊛ (‵ (part_at (row_of D.first) full_share (D.all h).0 b (place D.first 0 o)) ⊛ raw (Back full_share b o))

    -- what the lender keeps of the share t
    abbrev pub Held : Lft → Share → D.row.Denot → ℕ → ℕ → Item 𝓤
    Held κ t h b o = ‵ (kept_at κ t D.rest start (D.all h).1 b o) ⊛ (‵ (part_at (row_of D.first) t (D.all h).0 b (place D.first 0 o)) ⊛ raw (Back t b o))

    module _ where
      out : (q : Share) (h : D.row.Denot) (b o : ℕ) → ent 𝓤 (sem 𝓛 (part_at D.row q h b o)) (sep 𝓤 (sem 𝓛 (parts_at q ms 0 (D.all h) b o)) (Back q b o))
      out q h b o = subst (λ (F : Fml). ent 𝓤 (sem 𝓛 F) (sep 𝓤 (sem 𝓛 (parts_at q ms 0 (D.all h) b o)) (Back q b o))) (sym (D.same q h b o)) (Struct-parts 𝓛 q D.name ms (D.lawful 𝓛) (D.all h) b o)

      into : (q : Share) (h : D.row.Denot) (a : Denots (rows_of ms)) → D.all h ≡ a → (b o : ℕ) → ent 𝓤 (sep 𝓤 (Back q b o) (sem 𝓛 (parts_at q ms 0 a b o))) (sem 𝓛 (part_at D.row q h b o))
      into q h a e b o =
          subst (λ (F : Fml). ent 𝓤 (sep 𝓤 (Back q b o) (sem 𝓛 (parts_at q ms 0 a b o))) (sem 𝓛 F)) (sym (D.same q h b o ∙ ap (λ (z : Denots (rows_of ms)). part_at (Struct (shape_of D.name ms)) q z b o) e))
          (wand_e 𝓤 (Back q b o) (sem 𝓛 (parts_at q ms 0 a b o)) (sem 𝓛 (part_at (Struct (shape_of D.name ms)) q a b o))
          (all_e 𝓤 (λ (z : Denots (rows_of ms)). wand 𝓤 (sem 𝓛 (parts_at q ms 0 z b o)) (sem 𝓛 (part_at (Struct (shape_of D.name ms)) q z b o))) a))

      module _ (ℓ : Lifetime) (κ : Lft) (h : D.row.Denot) (b o : ℕ) where
        abbrev Lent : Fml → Names D.rest → SProp 𝓤
        Lent P ns = sep 𝓤 (sem 𝓛 (refs_at ℓ κ D.rest start (D.all h).1 ns b o P)) (mean 𝓛 (Kept κ h b o ns))

        pub lend : (P : Fml) → ent 𝓤 (sep 𝓤 (sem 𝓛 (part_at D.row full_share h b o)) (sem 𝓛 P)) (H.⇛ (ex 𝓤 (Lent P)))
        lend P =
            qed 𝓛 (‵ (part_at D.row full_share h b o) ∷ ‵ P ∷ []) ∵ updating ! $ use1 𝓛 (‵ (parts_at full_share ms 0 (D.all h) b o) ⊛ raw (Back full_share b o)) (out full_share h b o) $ split ! $ fsplit ! $
            -- [the first; the rest; the way back; P]
            move ! (1 ∷ 3 ∷ []) $ use2 𝓛 (later (some (λ (ns : Names D.rest). ‵ (refs_at ℓ κ D.rest start (D.all h).1 ns b o P) ⊛ ‵ (lents_at κ D.rest start ns b o)))) (lends_all 𝓛 ℓ κ b o P D.rest start (D.all h).1) $ await ! tt $ pick ! (λ ns. split ! $
            at_once ! $ show ! (Lent P) ns $ done !)

        pub back : (P : Fml) (ns : Names D.rest) (a : Values) (h' : D.row.Denot) → D.all h' ≡ ((D.all h).0, a)
            → ent 𝓤 (sep 𝓤 (sem 𝓛 (fdead κ)) (sep 𝓤 (mean 𝓛 (Kept κ h b o ns)) (sem 𝓛 (lasts_at D.rest a ns P)))) (H.⇛ (sep 𝓤 (sem 𝓛 (part_at D.row full_share h' b o)) (sem 𝓛 P)))
        back P ns a h' e =
            qed 𝓛 (‵ (fdead κ) ∷ Kept κ h b o ns ∷ ‵ (lasts_at D.rest a ns P) ∷ []) ∵ updating ! $ move ! (1 ∷ []) $ split ! $ move ! (2 ∷ 0 ∷ 3 ∷ []) $
            use3 𝓛 (later (‵ (parts_at full_share D.rest start a b o) ⊛ ‵ P)) (all_back 𝓛 ℓ κ b o P D.rest start a ns) $ await ! tt $ split ! $
            -- [the rest; P; the first, with the way back]
            move ! (2 ∷ []) $ split ! $ move ! (0 ∷ 2 ∷ []) $ fjoin ! $ move ! (1 ∷ 0 ∷ []) $ use2 𝓛 (‵ (part_at D.row full_share h' b o)) (into full_share h' ((D.all h).0, a) e b o) $ at_once ! $ done !

        module _ (t : Share) where
          abbrev Shown : Fml → SProp 𝓤
          Shown P = sep 𝓤 (sem 𝓛 (shrs_at ℓ κ D.rest start (D.all h).1 b o P)) (mean 𝓛 (Held κ t h b o))

          pub show_out : Frees 𝓛 D.rest → (P : Fml) → ent 𝓤 (sep 𝓤 (sem 𝓛 (part_at D.row t h b o)) (sem 𝓛 P)) (H.⇛ (Shown P))
          show_out free P =
              qed 𝓛 (‵ (part_at D.row t h b o) ∷ ‵ P ∷ []) ∵ updating ! $ use1 𝓛 (‵ (parts_at t ms 0 (D.all h) b o) ⊛ raw (Back t b o)) (out t h b o) $ split ! $ fsplit ! $
              move ! (1 ∷ 3 ∷ []) $ use2 𝓛 (later (‵ (shrs_at ℓ κ D.rest start (D.all h).1 b o P) ⊛ ‵ (kept_at κ t D.rest start (D.all h).1 b o))) (shows_all 𝓛 ℓ κ b o P t D.rest free start (D.all h).1) $ await ! tt $ split ! $
              at_once ! $ done !

          pub show_back : ent 𝓤 (sep 𝓤 (sem 𝓛 (fdead κ)) (mean 𝓛 (Held κ t h b o))) (H.⇛ (sem 𝓛 (part_at D.row t h b o)))
          show_back =
              qed 𝓛 (‵ (fdead κ) ∷ Held κ t h b o ∷ []) ∵ updating ! $ move ! (1 ∷ []) $ split ! $ move ! (2 ∷ 0 ∷ []) $
              use2 𝓛 (later (‵ (parts_at t D.rest start (D.all h).1 b o))) (shown_back 𝓛 ℓ κ b o ftrue t D.rest start (D.all h).1) $ await ! tt $
              move ! (1 ∷ []) $ split ! $ move ! (0 ∷ 2 ∷ []) $ fjoin ! $ move ! (1 ∷ 0 ∷ []) $ use2 𝓛 (‵ (part_at D.row t h b o)) (into t h (D.all h) refl b o) $ at_once ! $ done !
