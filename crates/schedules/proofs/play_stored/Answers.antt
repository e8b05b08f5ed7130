-- The name is three digits, which are text.
use Rattle.std.proofs.Common.{ℕ, zero, suc, ◌<◌, [], ◌∷◌, lit<, rules}
use Rattle.std.proofs.lemmas.Str.{IsUtf8-from_ascii}
use Rattle.std.specs.Str.{IsAscii, IsUtf8}
use Rattle.schedules.proofs.play_stored.Goals as goal

three_ascii : (a b c : ℕ) → a < 128 → b < 128 → c < 128 → IsAscii (a ∷ b ∷ c ∷ [])
three_ascii a b c x y z zero = x
three_ascii a b c x y z (suc zero) = y
three_ascii a b c x y z (suc (suc zero)) = z
three_ascii a b c x y z (suc (suc (suc i))) = lit< tt

pub unreachable-requires : goal.unreachable-requires
unreachable-requires c =
    let text : IsUtf8 (c.digit.result ∷ c.digit-2.result ∷ c.digit-3.result ∷ []) = IsUtf8-from_ascii _ (three_ascii _ _ _ c.digit.ensures c.digit-2.ensures c.digit-3.ensures) in
    search rules
