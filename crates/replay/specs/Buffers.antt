-- The buffers that calls are lent. Definitions only.
use Rattle.std.specs.Prelude.{List, ℕ, ◌+◌, ◌-◌, ◌*◌, ◌%◌, length, take, map, fold, min}
use Rattle.std.specs.List.{range_with_len}
use Rattle.std.proofs.lemmas.List.Edits.{sets}
use Rattle.replay.specs.Digits.{byte, word, numbers_at}

-- byte i of n is i modulo 251
unfoldable pub filled : ℕ → List ℕ
filled n = map (λ i. i % 251) (range_with_len 0 n)

-- of k bytes from place 7 of a line on as many as it says, at the place that it says, or the last one where k have room
unfoldable pub put : ℕ → List ℕ → List ℕ → List ℕ
put k line buffer = sets buffer (min (word line 1) (length buffer - k)) (take (min (byte line 5) k) (numbers_at byte 2 line 7 k))

-- one byte more of the digest
abbrev pub digest_step : ℕ → ℕ → ℕ
digest_step sum b = (sum * 1000003 + b + 1) % 1099511627689

-- bytes as the digits of a number, modulo a prime
unfoldable pub digest : List ℕ → ℕ
digest bytes = fold digest_step 0 bytes
