-- Bytes that were read, or handed on, one part after the other are those of the parts joined: a tally goes on from where it stands.
-- Assumes nothing.
use Rattle.std.proofs.Common.{◌≡◌, ℕ, Bool, true, false, List, [], ◌∷◌, ◌++◌, sym, refl, ap, ◌∙◌, subst, append_assoc, append-nil, fold, arith}
use Rattle.std.specs.Io.KnownBytes.{Consumes, Appends}
use Rattle.std.specs.declared.option.Option.{Option}
use Rattle.std.specs.declared.option.Option.TheVariants.{None, Some}
use Rattle.descriptor.specs.Tally.{counted, tallied}
use Rattle.descriptor.specs.Descriptor.{Gives, Takes}
use Rattle.descriptor.specs.declared.Tally.{Tally}
use Rattle.descriptor.specs.declared.Source.{Source}
use Rattle.descriptor.specs.declared.Sink.{Sink}

-- a fold along the bytes is their tally
pub folded : (t : Tally) (l : List ℕ) → fold counted t l ≡ tallied t l
unfolding tallied
folded t [] = refl
folded t (byte ∷ l) = folded (counted t byte) l

pub tallied_none : (t : Tally) → tallied t [] ≡ t
unfolding tallied
tallied_none t = refl

tallied_both : (t : Tally) (a b : List ℕ) → tallied (tallied t a) b ≡ tallied t (a ++ b)
unfolding tallied
tallied_both t [] b = refl
tallied_both t (byte ∷ a) b = tallied_both (counted t byte) a b

-- of bytes that are known, none were read, or those of both parts
consumes_none : (known : Option (List ℕ)) → Consumes known known []
consumes_none None = tt
consumes_none (Some l) = refl

consumes_both : (k m n : Option (List ℕ)) (a b : List ℕ) → Consumes k m a → Consumes m n b → Consumes k n (a ++ b)
consumes_both None m n a b g h = tt
consumes_both (Some k) None n a b g h = absurd g
consumes_both (Some k) (Some m) None a b g h = absurd h
consumes_both (Some k) (Some m) (Some n) a b g h = g ∙ ap (λ (l : List ℕ). a ++ l) h ∙ sym (append_assoc a b n)

-- to bytes that are known, none were written, or those of both parts
appends_none : (known : Option (List ℕ)) → Appends known known []
appends_none None = tt
appends_none (Some l) = sym (append-nil l)

appends_both : (k m n : Option (List ℕ)) (a b : List ℕ) → Appends k m a → Appends m n b → Appends k n (a ++ b)
appends_both None m n a b g h = tt
appends_both (Some k) None n a b g h = absurd g
appends_both (Some k) (Some m) None a b g h = absurd h
appends_both (Some k) (Some m) (Some n) a b g h = h ∙ ap (λ (l : List ℕ). l ++ b) g ∙ append_assoc k a b

apart : {b : Bool} → b ≡ true → b ≡ false → ⊥
apart t f = let z : ◌≡◌ {A = ℕ} 0 1 = cc in omega arith

module _ {R : Type 0} {remaining : R → Option (List ℕ)} where
  pub gives_none : (s : Source R) → Gives remaining s [] s
  gives_none s = record { same = refl; given = sym (tallied_none s.tally); read = consumes_none (remaining s.reader.now) }

  pub gives_both : {r s t : Source R} {a b : List ℕ} → Gives remaining r a s → Gives remaining s b t → Gives remaining r (a ++ b) t
  gives_both {r} {s} {t} {a} {b} g h =
      record {
        same = h.same ∙ g.same;
        given = h.given ∙ ap (λ (x : Tally). tallied x b) g.given ∙ tallied_both r.tally a b;
        read = consumes_both (remaining r.reader.now) (remaining s.reader.now) (remaining t.reader.now) a b g.read h.read;
      }

module _ {W : Type 0} {contents : W → Option (List ℕ)} where
  pub takes_none : (s : Sink W) → Takes contents s [] s
  takes_none s =
      record {
        same = refl;
        handed = [];
        left = [];
        split = refl;
        taken = sym (tallied_none s.tally);
        whole = λ h. (h, refl);
        stopped = λ h. refl;
        written = λ h. appends_none (contents s.writer.now);
      }

  pub takes_both : {r s t : Sink W} {a b : List ℕ} → Takes contents r a s → Takes contents s b t → Takes contents r (a ++ b) t
  takes_both {r} {s} {t} {a} {b} g h = go s.failed refl
    where
      stopped : r.failed ≡ true → t ≡ r
      stopped f = let e = g.stopped f in h.stopped (ap (λ (x : Sink W). x.failed) e ∙ f) ∙ e

      go : (f : Bool) → s.failed ≡ f → Takes contents r (a ++ b) t
      go true f =
          let e = h.stopped f in
          record {
            same = h.same ∙ g.same;
            handed = g.handed;
            left = g.left ++ b;
            split = ap (λ (l : List ℕ). l ++ b) g.split ∙ append_assoc g.handed g.left b;
            taken = ap (λ (x : Sink W). x.tally) e ∙ g.taken;
            whole = λ w. absurd (apart f (h.whole w).0);
            stopped = stopped;
            written = λ w. absurd (apart f (h.whole w).0);
          }
      go false f =
          let w = g.whole f in
          let all : a ≡ g.handed = g.split ∙ ap (λ (l : List ℕ). g.handed ++ l) w.1 ∙ append-nil g.handed in
          record {
            same = h.same ∙ g.same;
            handed = a ++ h.handed;
            left = h.left;
            split = ap (λ (l : List ℕ). a ++ l) h.split ∙ sym (append_assoc a h.handed h.left);
            taken = h.taken ∙ ap (λ (x : Tally). tallied x h.handed) (g.taken ∙ ap (tallied r.tally) (sym all)) ∙ tallied_both r.tally a h.handed;
            whole = λ x. (w.0, (h.whole x).1);
            stopped = stopped;
            written = λ x. appends_both (contents r.writer.now) (contents s.writer.now) (contents t.writer.now) a b (g.written f) (h.written x);
          }

  -- the bytes under another name
  pub takes_as : {s t : Sink W} {a b : List ℕ} → a ≡ b → Takes contents s a t → Takes contents s b t
  takes_as {s} {t} e h = subst (λ (l : List ℕ). Takes contents s l t) e h

  -- a sink that failed
  pub takes_nothing : (s : Sink W) (bytes : List ℕ) → s.failed ≡ true → Takes contents s bytes s
  takes_nothing s bytes f =
      record {
        same = refl;
        handed = [];
        left = bytes;
        split = refl;
        taken = sym (tallied_none s.tally);
        whole = λ w. absurd (apart f w);
        stopped = λ h. refl;
        written = λ w. absurd (apart f w);
      }
