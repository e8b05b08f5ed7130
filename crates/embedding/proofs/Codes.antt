-- What each word's code computes to.
-- Assumes nothing.
use mathlib.Core.Path.{◌≡◌, refl}
use Rattle.group.specs.Choice.{when◌then◌else◌}
use Rattle.embedding.specs.Codes.{same, word_code}

pub kept_code : word_code "kept" ≡ 48
unfolding word_code same when◌then◌else◌
kept_code = refl

pub none_code : word_code "none" ≡ 54
unfolding word_code same when◌then◌else◌
none_code = refl

pub closed_code : word_code "closed" ≡ 57
unfolding word_code same when◌then◌else◌
closed_code = refl

pub bytes_code : word_code "bytes" ≡ 58
unfolding word_code same when◌then◌else◌
bytes_code = refl

pub fields_code : word_code "fields" ≡ 59
unfolding word_code same when◌then◌else◌
fields_code = refl

pub read_code_lem : word_code "read" ≡ 60
unfolding word_code same when◌then◌else◌
read_code_lem = refl

pub right_code : word_code "right" ≡ 61
unfolding word_code same when◌then◌else◌
right_code = refl

pub wrong_code : word_code "wrong" ≡ 62
unfolding word_code same when◌then◌else◌
wrong_code = refl

pub added_code : word_code "added" ≡ 64
unfolding word_code same when◌then◌else◌
added_code = refl

pub given_code : word_code "given" ≡ 65
unfolding word_code same when◌then◌else◌
given_code = refl
