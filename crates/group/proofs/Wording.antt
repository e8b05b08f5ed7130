-- What is equal has the same wording: the last promise of a call follows from its first. Assumes nothing.
use mathlib.Core.Path.{◌≡◌, ap}
use Rattle.group.specs.Wording.{Wording}

pub worded : {A : Type 0} (wording : A → Wording) {x y : A} → x ≡ y → (x ≡ y) × (wording x ≡ wording y)
worded wording e = (e, ap wording e)
